-- A read fails at its number or at a name that no file has, and nowhere else.
use Rattle.std.proofs.Common.{rules, refl, inl, inr}
use Rattle.outside.proofs.memory_shelf.MemoryShelfShelf.read.Goals.{then-not-fails+in_default, else-not-fails}
use Rattle.outside.proofs.memory_shelf.MemoryShelfShelf.read.Goals as goal

pub returns-clause-failed : goal.returns-clause-failed
returns-clause-failed c =
    (λ _. elim c.if-not-fails.branch [ then-not-fails+in_default w ↦ inr (search rules) | else-not-fails w ↦ inl (search rules) ], λ _. refl)
