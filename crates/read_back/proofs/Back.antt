-- An answer that was written and read back.
use Rattle.std.proofs.Common.{◌≡◌, ℕ, List, Option, IfSome, refl, sym, ap, subst, ◌∙◌}
use Rattle.hoist_base.specs.LineData.{LineData}
use Rattle.line_model.specs.Legal.{IsLegal}
use Rattle.timetable.specs.TimetableData.{TimetableData, timetable_of}
use Rattle.path_constraints.specs.Proves.{Proves}
use Rattle.answer_text.specs.declared.answer.Verdict.{Verdict}
use Rattle.answer_text.specs.declared.answer.Verdict.TheVariants.{Optimal, Nothing, Unfinished}
use Rattle.answer_text.specs.declared.answer.Answer.{Answer}
use Rattle.answer_read.specs.declared.answer.AnswerRead.TheVariants.{Ready, Broken}
use Rattle.answer_read.specs.Answers.{IsAnswer}
use Rattle.answer_read.proofs.Whole.{same_text}
use Rattle.cert_checker.specs.Reasons.{split_count, is_split}
use Rattle.cert_checker.specs.Rules.{IsClaim, HasItsLeft}
use Rattle.std.specs.Prelude.{count_by}
use Rattle.choice_tree.specs.declared.node.Node.{Node}
use Rattle.answer_read.specs.Same.{SayTheSame}
use Rattle.read_back.specs.Laws.{TextIsRead, RulesAreKept}
use Rattle.read_back.proofs.Twins.{proves_too, none_left_too, some_left_too}
use Rattle.read_back.proofs.Counts.{splits_said}

left_too : (l : LineData) (a b : Answer) (v : Verdict) → IsAnswer l a → IsAnswer l b → SayTheSame a b → HasItsLeft a v
    → HasItsLeft b v
left_too l a b Optimal f g same left = none_left_too a.tree b.tree f.tree g.tree same.tree left
left_too l a b Nothing f g same left = none_left_too a.tree b.tree f.tree g.tree same.tree left
left_too l a b Unfinished f g same left = some_left_too a.tree b.tree f.tree g.tree same.tree left

pub rules_are_kept : RulesAreKept
rules_are_kept l a b f g same keeps =
    let C : Verdict → Type 0 = λ v. IsClaim l v a.timetable a.bound in
    let T : Option TimetableData → Type 0 = λ t. IsClaim l b.verdict t a.bound in
    let B : ℕ → Type 0 = λ n. IsClaim l b.verdict b.timetable n in
    let L : Verdict → Type 0 = λ v. HasItsLeft b v in
    let M : Option TimetableData → Type 0 = λ o. IfSome o (λ t. IsLegal l (timetable_of t)) in
    let P : ℕ → Type 0 = λ n. Proves l b.tree n in
    let counts : split_count a.tree ≡ split_count b.tree =
    sym (splits_said a.tree f.tree) ∙ ap (λ (xs : List Node). count_by is_split xs) same.tree ∙ splits_said b.tree g.tree in
    record {
      claim = subst B same.bound (subst T same.timetable (subst C same.verdict keeps.claim));
      splits = sym same.splits ∙ keeps.splits ∙ counts;
      left = subst L same.verdict (left_too l a b a.verdict f g same keeps.left);
      legal = subst M same.timetable keeps.legal;
      proves = subst P same.bound (proves_too l a.bound a.tree b.tree f.tree g.tree same.tree keeps.proves);
    }

pub text_is_read : TextIsRead
text_is_read l a (Broken offset) line f read = absurd (read.no_text a f refl)
text_is_read l a (Ready b) line f read = (b, refl, read, same_text l a b line f read.answer read.text)
