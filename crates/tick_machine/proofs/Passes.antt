-- Tests that are passed, one after another, up to the first breach.
use Rattle.std.proofs.Common.{◌≡◌, ℕ, zero, suc, ◌<◌, Option, None, Some, Result, Ok, Err, ⊎_elim, sym, refl, ap, ◌∙◌, arith}
use Rattle.std.proofs.lemmas.Bool.{cases_eq}
use Rattle.tick_machine.specs.declared.breach.Breach.{Breach}
use Rattle.tick_machine.specs.Scene.{Scene}
use Rattle.tick_machine.specs.Step.{or_else, first, unless}

pub or_else_parts : (a b : Option Breach) → or_else a b ≡ None → (a ≡ None) × (b ≡ None)
or_else_parts None b e = (refl, e)
or_else_parts (Some x) b e = absurd (let g = e in cc)

-- where no number has a breach, none has
pub first_pass : (n : ℕ) (test : ℕ → Option Breach) (h : ℕ) → first n test ≡ None → h < n → test h ≡ None
first_pass zero test h none lt = absurd (omega arith)
first_pass (suc n) test h none lt =
    let p = or_else_parts (first n test) (test n) none in
    ⊎_elim (λ same. ap test same ∙ p.1) (λ other. first_pass n test h p.0 (omega arith)) (cases_eq h n)

-- the lowest breach stays the first
pub first_at : (test : ℕ → Option Breach) (n m : ℕ) (b : Breach) → m < n → first m test ≡ None → test m ≡ Some b
    → first n test ≡ Some b
first_at test zero m b lt none here = absurd (omega arith)
first_at test (suc n) m b lt none here =
    ⊎_elim
    (λ last. ap (λ (c : Option Breach). or_else c (test n)) (ap (λ k. first k test) (sym last) ∙ none) ∙ ap test (sym last) ∙ here)
    (λ below. ap (λ (c : Option Breach). or_else c (test n)) (first_at test n m b (omega arith) none here))
    (cases_eq m n)

pub unless_none : (b : Option Breach) (r : Result Scene Breach) → b ≡ None → unless b r ≡ r
unless_none b r e = ap (λ (c : Option Breach). unless c r) e

pub unless_some : (b : Option Breach) (r : Result Scene Breach) (x : Breach) → b ≡ Some x → unless b r ≡ Err x
unless_some b r x e = ap (λ (c : Option Breach). unless c r) e

-- what has led to a frame has passed the test
pub unless_ok : (b : Option Breach) (r : Result Scene Breach) (g : Scene) → unless b r ≡ Ok g → (b ≡ None) × (r ≡ Ok g)
unless_ok None r g e = (refl, e)
unless_ok (Some x) r g e = absurd (let h = e in cc)
