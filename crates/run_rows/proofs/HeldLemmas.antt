-- What the tests rest on.
use Rattle.std.proofs.Common.{ℕ, ◌<◌, Option, None, IfSome, List, length, get_or, ⊎_elim, sym, subst}
use Rattle.std.proofs.lemmas.Bool.{cases_lt}
use Rattle.std.proofs.lemmas.List.{get_or_past}
use Rattle.tick_machine.specs.declared.frame.Hold.{Hold}

-- nobody is held past the end
pub all_young : (P : Hold → Type 0) (xs : List (Option Hold)) → ((j : ℕ) → j < length xs → IfSome (get_or xs j None) P)
    → (i : ℕ)
    → IfSome (get_or xs i None) P
all_young P xs all i =
    ⊎_elim (λ lt. all i lt)
    (λ past. subst (λ (o : Option Hold). IfSome o P) (sym (get_or_past xs i None past)) tt)
    (cases_lt i (length xs))
