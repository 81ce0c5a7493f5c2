-- Nodes without numbers.
use Rattle.std.proofs.Common.{◌≡◌, ℕ, List, length, refl, sym, ap, subst, ◌∙◌}
use Rattle.std.proofs.lemmas.List.{length-replicate}
use Rattle.hoist_base.specs.LineData.{LineData}
use Rattle.choice_tree.specs.declared.question.Question.{Question}
use Rattle.choice_tree.specs.declared.question.Decision.{Decision}
use Rattle.choice_tree.specs.declared.node.Node.{Node}
use Rattle.choice_tree.specs.declared.node.Node.TheVariants.{Split, Closed, Stuck, Solved, Left}
use Rattle.choice_tree.specs.Nodes.{IsLeft, children_of}
use Rattle.path_constraints.specs.Proves.{Shows}
use Rattle.cert_checker.specs.Reasons.{is_split}
use Rattle.answer_read.specs.Same.{unnumbered}

count_kept : (n : Node) → length (children_of (unnumbered n)) ≡ length (children_of n)
count_kept (Split question children) = length-replicate (length children) 0
count_kept (Closed low high) = refl
count_kept (Stuck m) = refl
count_kept (Solved low) = refl
count_kept (Left low) = refl

-- they have as many children
pub same_count : (n m : Node) → unnumbered n ≡ unnumbered m → length (children_of n) ≡ length (children_of m)
same_count n m e = sym (count_kept n) ∙ ap (λ (x : Node). length (children_of x)) e ∙ count_kept m

-- what says a split is one
pub split_said : (n : Node) (question : Question) (zeros : List ℕ) → unnumbered n ≡ Split question zeros
    → n ≡ Split question (children_of n)
split_said (Split other children) question zeros e =
    let same : other ≡ question = cc in
    ap (λ (q : Question). Split q children) same
split_said (Closed low high) question zeros e = absurd cc
split_said (Stuck m) question zeros e = absurd cc
split_said (Solved low) question zeros e = absurd cc
split_said (Left low) question zeros e = absurd cc

left_there : (n : Node) → IsLeft n → IsLeft (unnumbered n)
left_there (Split question children) left = left
left_there (Closed low high) left = left
left_there (Stuck m) left = left
left_there (Solved low) left = left
left_there (Left low) left = left

left_back : (n : Node) → IsLeft (unnumbered n) → IsLeft n
left_back (Split question children) left = left
left_back (Closed low high) left = left
left_back (Stuck m) left = left
left_back (Solved low) left = left
left_back (Left low) left = left

pub same_left : (n m : Node) → unnumbered n ≡ unnumbered m → IsLeft n → IsLeft m
same_left n m e left = left_back m (subst IsLeft e (left_there n left))

pub split_kept : (n : Node) → is_split (unnumbered n) ≡ is_split n
split_kept (Split question children) = refl
split_kept (Closed low high) = refl
split_kept (Stuck m) = refl
split_kept (Solved low) = refl
split_kept (Left low) = refl

shows_there : (l : LineData) (path : List Decision) (bound : ℕ) (n : Node) → Shows l path n bound
    → Shows l path (unnumbered n) bound
shows_there l path bound (Split question children) shows =
    record { fits = shows.fits; count = length-replicate (length children) 0 ∙ shows.count }
shows_there l path bound (Closed low high) shows = shows
shows_there l path bound (Stuck m) shows = shows
shows_there l path bound (Solved low) shows = shows
shows_there l path bound (Left low) shows = shows

shows_back : (l : LineData) (path : List Decision) (bound : ℕ) (n : Node) → Shows l path (unnumbered n) bound
    → Shows l path n bound
shows_back l path bound (Split question children) shows =
    record { fits = shows.fits; count = sym (length-replicate (length children) 0) ∙ shows.count }
shows_back l path bound (Closed low high) shows = shows
shows_back l path bound (Stuck m) shows = shows
shows_back l path bound (Solved low) shows = shows
shows_back l path bound (Left low) shows = shows

pub same_shows : (l : LineData) (path : List Decision) (bound : ℕ) (n m : Node) → unnumbered n ≡ unnumbered m
    → Shows l path n bound → Shows l path m bound
same_shows l path bound n m e shows =
    let S : Node → Type 0 = λ x. Shows l path x bound in
    shows_back l path bound m (subst S e (shows_there l path bound n shows))
