-- Parts written one behind another.
use Rattle.std.proofs.Common.{◌≡◌, ℕ, List, ◌++◌, ap, ◌∙◌, append_assoc}

-- two parts are one
pub two_parts : (old mid new x y : List ℕ) → mid ≡ old ++ x → new ≡ mid ++ y → new ≡ old ++ (x ++ y)
two_parts old mid new x y before after = after ∙ ap (λ (z : List ℕ). z ++ y) before ∙ append_assoc old x y

-- a part of two
pub part_of_two : (old new x y z : List ℕ) → new ≡ old ++ ((x ++ y) ++ z) → new ≡ old ++ (x ++ (y ++ z))
part_of_two old new x y z e = e ∙ ap (λ (w : List ℕ). old ++ w) (append_assoc x y z)
