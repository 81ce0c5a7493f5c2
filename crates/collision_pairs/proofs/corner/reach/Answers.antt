use Rattle.std.proofs.Common.{◌≡◌, ℕ, ◌+◌, ◌<◌, ℤ, pos, ◌+ℤ◌, ◌-ℤ◌, Some, Option, arith}
use Rattle.std.proofs.lemmas.Int.{ints}
use Rattle.std.proofs.lemmas.Bool.Decides.{nat_tests}
use Rattle.collision_pairs.specs.declared.span.Span.{Span}
use Rattle.collision_pairs.specs.declared.corner.Corner.{Corner}
use Rattle.collision_pairs.specs.Clash.{reach}
use Rattle.collision_pairs.proofs.corner.reach.Goals as goal

reach_is : (room : ℕ) (p q : Corner) (a b : ℤ) → q.at < p.at + room → a ≡ (pos p.tick -ℤ pos q.tick) +ℤ (pos (p.at + room) -ℤ pos q.at) → b ≡ (pos (p.at + room) -ℤ pos q.at) -ℤ (pos p.tick -ℤ pos q.tick) → ◌≡◌ {A = Option Span} (Some (record { after = a; before = b })) (reach room p q)
reach_is room p q a b near after before = grind (arith, nat_tests)

pub returns : goal.returns
returns c = reach_is c.args.room c.args.lower c.args.upper _ _ (omega (arith, ints)) (omega (arith, ints)) (omega (arith, ints))
