-- The test whether every stage of a line has one tank.
use Rattle.std.proofs.Common.{◌≡◌, ◌↔◌, ◌==◌, Bool, true, false, length, IsTrue, rules}
use Rattle.std.proofs.lemmas.Bool.{eq-eqb, eqb-true}
use Rattle.std.proofs.lemmas.List.Elements.{All-get_or, All-from_get_or}
use Rattle.std.proofs.lemmas.List.Sums.{AllPass-from_list_all, list_all-from_AllPass}
use Rattle.hoist_base.specs.declared.stage.Stage.{Stage}
use Rattle.hoist_base.specs.LineData.{LineData, stage, no_stage, is_single, IsSingle}

abbrev has_one : Stage → Bool
has_one s = length s.tanks == 1

pub single_test : (l : LineData) → IsSingle l → is_single l ≡ true
single_test l single =
    list_all-from_AllPass has_one l.stages (All-from_get_or (λ (s : Stage). has_one s ≡ true) l.stages no_stage
    (λ k there. eq-eqb (length (stage l k).tanks) 1 (single k there)))

pub test_single : (l : LineData) → is_single l ≡ true → IsSingle l
test_single l test k there =
    eqb-true (length (stage l k).tanks) 1
    (All-get_or (λ (s : Stage). has_one s ≡ true) l.stages k no_stage there (AllPass-from_list_all has_one l.stages test))

same_test : (b c : Bool) → (IsTrue b → c ≡ true) → (c ≡ true → IsTrue b) → b ≡ c
same_test true true f g = search rules
same_test false false f g = search rules
same_test true false f g = absurd (search (rules, f))
same_test false true f g = absurd (search (rules, g))

-- what the line's own test answers is the test of the text
pub single_is : (l : LineData) (b : Bool) → IsTrue b ↔ IsSingle l → b ≡ is_single l
single_is l b both = same_test b (is_single l) (λ t. single_test l (both.0 t)) (λ e. both.1 (test_single l e))
