-- Every node has a line in the answer's text.
use Rattle.std.proofs.Common.{⊎_elim, inl, ◌⊎◌, ◌≡◌, ℕ, ◌+◌, ◌<◌, ◌≤◌, ◌==◌, List, [], ◌∷◌, ◌++◌, length, get_or, Bool, true, false, refl, sym, ◌∙◌, ap, subst, arith, Some, None}
use Rattle.std.specs.Prelude.{Option, IsSome, IfSome, Contains, option_to_list}
use Rattle.std.proofs.lemmas.List.Elements.{All-get_or}
use Rattle.std.proofs.lemmas.List.Sums.{AllPass-from_list_all}
use Rattle.std.proofs.lemmas.Bool.{cases_lt, eqb-true}
use Rattle.std.proofs.lemmas.List.{get_or_default}
use Rattle.hoist_base.specs.LineData.{LineData, stage, no_stage, IsStageOf, IsStep, is_single}
use Rattle.hoist_base.specs.declared.stage.Stage.{Stage}
use Rattle.hoist_base.specs.Valid.{IsLine}
use Rattle.hoist_base.specs.declared.ids.MoveId.{MoveId}
use Rattle.choice_tree.specs.declared.question.Question.{Question}
use Rattle.choice_tree.specs.declared.question.Question.TheVariants.{Assign, TankOrder, HoistOrder, Choose}
use Rattle.choice_tree.specs.declared.question.Decision.{Decision}
use Rattle.choice_tree.specs.declared.constraint.Constraint.{Constraint}
use Rattle.choice_tree.specs.declared.constraint.Constraint.TheVariants.{Min, Max, Entry, Visit, Repeat, Decided}
use Rattle.choice_tree.specs.Nodes.{numbers_from}
use Rattle.choice_tree.proofs.NodeLemmas.{length-numbers_from}
use Rattle.path_constraints.specs.Tanks.{tanks_by, tanks_below, choice_of, MayServe, IsStuck}
use Rattle.path_constraints.specs.Questions.{Fits, FitsPath, child_count}
use Rattle.path_constraints.specs.Constraints.{IsConstraint}
use Rattle.path_constraints.specs.Proves.{IsClosedWalk, RefuteBelow}
use Rattle.path_constraints.proofs.TankLemmas.{no_choice}
use Rattle.node_expand.specs.declared.expanded.Expanded.{Expanded}
use Rattle.node_expand.specs.declared.expanded.Expanded.TheVariants as expanded
use Rattle.node_expand.specs.Expansion.{IsFirstStuck}
use Rattle.node_expand.specs.Shown.{IsShortWalk}
use Rattle.answer_text.specs.Fields.{IsPair, IsToken, IsWalk}
use Rattle.answer_text.specs.Nodes.{IsQuestionText, AreWalks, IsStuckText, IsNodeText}
use Rattle.branch_rounds.specs.Kept.{IsShown}
use Rattle.branch_rounds.proofs.BoundLemmas.{closed_names}
use Rattle.branch_rounds.proofs.PlacedLemmas.{node_of}

-- ---- walks

token : (l : LineData) (path : List Decision) (t : Constraint) → IsLine l → length path ≤ 20000 → IsConstraint l path t
    → IsToken t
token l path (Min c k) line short h = (omega (arith, h.0, line.limits.degree), omega (arith, h.2, line.limits.stages))
token l path (Max c k) line short h = (omega (arith, h.0, line.limits.degree), omega (arith, h.2, line.limits.stages))
token l path (Entry c) line short h = omega (arith, h, line.limits.degree)
token l path (Visit c k) line short h = (omega (arith, h.0, line.limits.degree), omega (arith, h.2, line.limits.stages))
token l path (Repeat c k) line short h = (omega (arith, h.0, line.limits.degree), omega (arith, h.1, line.limits.stages))
token l path (Decided i) line short h = omega (arith, h.0, short)

pub walk_text : (l : LineData) (path : List Decision) (walk : List Constraint) → IsLine l → length path ≤ 20000
    → IsClosedWalk l path walk → IsShortWalk walk
    → IsWalk walk
walk_text l path walk line short closed few = record {
  some = few.0;
  few = omega (arith, few.1);
  tokens = λ k d lt.
      let x = get_or walk k d in
      token l path x line short (closed_names l path walk closed k x lt (get_or_default walk k d x lt));
}

-- ---- questions

abbrev has_one : Stage → Bool
has_one s = length s.tanks == 1

single_one : (l : LineData) (k : ℕ) → is_single l ≡ true → IsStageOf l k → length (stage l k).tanks ≡ 1
single_one l k e lt =
    eqb-true (length (stage l k).tanks) 1
    (All-get_or (λ (s : Stage). has_one s ≡ true) l.stages k no_stage lt (AllPass-from_list_all has_one l.stages e))

-- a stage with two tanks
two_tanks : (l : LineData) (k : ℕ) (b : Bool) → is_single l ≡ b → IsStageOf l k → 2 ≤ length (stage l k).tanks
    → b ≡ false
two_tanks l k true e lt two = absurd (omega (arith, two, single_one l k e lt))
two_tanks l k false e lt two = refl

pair : (l : LineData) (c k : ℕ) → IsLine l → c < l.degree → k < length l.stages → IsPair c k
pair l c k line lt lt' = (omega (arith, lt, line.limits.degree), omega (arith, lt', line.limits.stages))

question_text : (l : LineData) (path : List Decision) (question : Question) (children : ℕ) → IsLine l
    → Fits l path question
    → children ≡ child_count l path question → children ≤ 6 → IsQuestionText (is_single l) question children
question_text l path (Assign m) children line fits count few =
    let move = fits.stands.move in
    (pair l m.carrier m.step line move.0 (omega (arith, move.1)), few)
question_text l path (TankOrder a b q) children line fits count few =
    let s = fits.stands in
    (pair l a.carrier a.stage line s.first.0 s.first.1, pair l b.carrier b.stage line s.second.0 s.second.1, fits.small, count)
question_text l path (HoistOrder a b q) children line fits count few =
    let s = fits.stands in
    (pair l a.carrier a.step line s.first.0 (omega (arith, s.first.1)), pair l b.carrier b.step line s.second.0 (omega (arith, s.second.1)), fits.small, count)
question_text l path (Choose v) children line fits count few =
    let s = fits.stands in
    (two_tanks l v.stage (is_single l) refl s.visit.1 s.several, pair l v.carrier v.stage line s.visit.0 s.visit.1, few)

-- ---- stuck moves

-- where every stage has one tank, all carriers have the same tanks
same_tanks : (l : LineData) (path : List Decision) (c c' k : ℕ) → FitsPath l path → is_single l ≡ true → IsStageOf l k
    → tanks_below l path c k ≡ tanks_below l path c' k
same_tanks l path c c' k fits single lt =
    let one : length (stage l k).tanks < 2 = omega (arith, single_one l k single lt) in
    let e : choice_of path c k ≡ choice_of path c' k = no_choice l path c k fits one ∙ sym (no_choice l path c' k fits one) in
    ap (λ (o : Option ℕ). tanks_by (stage l k).tanks o) e

same_service : (l : LineData) (path : List Decision) (h c c' k : ℕ) → FitsPath l path → is_single l ≡ true
    → IsStageOf l k → MayServe l path h c' k
    → MayServe l path h c k
same_service l path h c c' k fits single lt serves =
    let T : List ℕ → Type 0 = λ ts. Contains ts serves.0 in
    (serves.0, subst T (same_tanks l path c' c k fits single lt) serves.1, serves.2)

same_stuck : (l : LineData) (path : List Decision) (c c' k : ℕ) → FitsPath l path → is_single l ≡ true → IsStep l k
    → IsStuck l path c k → IsStuck l path c' k
same_stuck l path c c' k fits single step stuck = λ h lt reach.
    stuck h lt (same_service l path h c c' k fits single (omega (arith, step)) reach.0, same_service l path h c c' (k + 1) fits single step reach.1)

stuck_text : (l : LineData) (path : List Decision) (m : MoveId) (b : Bool) → IsLine l → FitsPath l path
    → IsFirstStuck l path m → is_single l ≡ b
    → IsStuckText b m.carrier m.step
stuck_text l path m true line fits first single =
    ⊎_elim
    (λ lt.
    absurd (first.first 0 m.step (omega (arith, line.limits.degree), first.move.1) (inl lt)
    (same_stuck l path m.carrier 0 m.step fits single first.move.1 first.stuck)))
    (λ le. (omega (arith, le), omega (arith, first.move.1, line.limits.stages)))
    (cases_lt 0 m.carrier)
stuck_text l path m false line fits first single = pair l m.carrier m.step line first.move.0 (omega (arith, first.move.1))

-- ---- nodes

walk_in : (l : LineData) (path : List Decision) (walks : List (List Constraint)) (bound : ℕ) (walk : List Constraint)
    → IsLine l → length path ≤ 20000
    → RefuteBelow l path walks bound → Contains walks walk → IsShortWalk walk → IsWalk walk
walk_in l path walks bound walk line short shows there few = walk_text l path walk line short (shows.closed walk there) few

pub only : (walk : List Constraint) → Contains (walk ∷ []) walk
only walk = (0, omega arith, refl)

closed_text : (l : LineData) (path : List Decision) (low high : Option (List Constraint)) (cap : ℕ) → IsLine l
    → length path ≤ 20000
    → RefuteBelow l path (option_to_list low ++ option_to_list high) cap
    → (IsSome low ⊎ IsSome high) × IfSome low IsShortWalk × IfSome high IsShortWalk → AreWalks low high
closed_text l path None None cap line short shows few = ⊎_elim (λ no. cc) (λ no. cc) few.0
closed_text l path None (Some high) cap line short shows few = walk_in l path (high ∷ []) cap high line short shows (only high) few.2
closed_text l path (Some low) None cap line short shows few = (walk_in l path (low ∷ []) cap low line short shows (only low) few.1, tt)
closed_text l path (Some low) (Some high) cap line short shows few = (
  walk_in l path (low ∷ high ∷ []) cap low line short shows (0, omega arith, refl) few.1,
  walk_in l path (low ∷ high ∷ []) cap high line short shows
      (1, omega arith, refl) few.2,
)

-- the node that an expansion makes
pub node_text : (l : LineData) (path : List Decision) (cap first : ℕ) (x : Expanded) → IsLine l → FitsPath l path
    → length path ≤ 20000 → IsShown l path cap x
    → IsNodeText (is_single l) (node_of first x)
node_text l path cap first (expanded.Stuck m) line fits short s = stuck_text l path m (is_single l) line fits s.expansion refl
node_text l path cap first (expanded.Closed low high) line fits short s = closed_text l path low high cap line short s.shows s.few
node_text l path cap first (expanded.Solved solved low) line fits short s = walk_in l path (low ∷ []) solved.period low line short s.shows.0 (only low) s.few
node_text l path cap first (expanded.Split question children period low) line fits short s =
    let size = length-numbers_from first children in
    question_text l path question (length (numbers_from first children)) line s.shows.3 (omega (arith, size, s.shows.4)) (omega (arith, size, s.shows.6))

-- the low of a split's children
pub low_text : (l : LineData) (path : List Decision) (cap : ℕ) (question : Question) (children period : ℕ) (low : List Constraint)
    → IsLine l
    → length path ≤ 20000 → IsShown l path cap (expanded.Split question children period low) → IsWalk low
low_text l path cap question children period low line short s = walk_in l path (low ∷ []) period low line short s.shows.0 (only low) s.few
