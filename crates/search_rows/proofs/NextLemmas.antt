-- Paths of decisions that fit, one decision after another.
use Rattle.std.proofs.Common.{◌≡◌, ℕ, ◌≤◌, List, [], ◌∷◌, ◌++◌, sym, subst, arith}
use Rattle.std.specs.Prelude.{nat_lt, IsTrue}
use Rattle.std.proofs.lemmas.Bool.{ltb-true}
use Rattle.hoist_base.specs.LineData.{LineData}
use Rattle.choice_tree.specs.declared.question.Decision.{Decision}
use Rattle.path_constraints.specs.Questions.{Fits, FitsPath, FitsDecision, child_count}
use Rattle.path_constraints.proofs.CoverTreeLemmas.{fits_more}

pub no_decisions : (l : LineData) → FitsPath l []
no_decisions l i lt = absurd (omega (arith, lt))

pub fits_next : (l : LineData) (path : List Decision) (d : Decision) (count : ℕ) → Fits l path d.question
    → count ≤ child_count l path d.question
    → IsTrue (nat_lt d.child count) → FitsDecision l path d
fits_next l path d count f few lt = record { question = f; child = omega (arith, few, ltb-true d.child count lt) }

pub one_more : (l : LineData) (path new : List Decision) (d : Decision) → FitsPath l path → FitsDecision l path d
    → new ≡ path ++ d ∷ [] → FitsPath l new
one_more l path new d fits next is = subst (λ p. FitsPath l p) (sym is) (fits_more l path d fits next)
