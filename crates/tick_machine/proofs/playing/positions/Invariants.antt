use Rattle.std.proofs.Common.{◌≡◌, ◌<◌, ℕ, get_or, length}
use Rattle.tick_machine.proofs.playing.positions.Given as goal

abbrev pub invariant-loop-h : goal.invariant-loop-h
invariant-loop-h g l = record { count : length l.at.items ≡ l.h; place : (h : ℕ) → h < l.h → get_or l.at.items h 0 ≡ g.D.Driver.place l.driver h }
