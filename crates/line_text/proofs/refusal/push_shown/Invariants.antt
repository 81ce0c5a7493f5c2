use Rattle.std.proofs.Common.{◌≡◌, ◌++◌, take, map}
use Rattle.line_text.specs.Refusal.{shown}
use Rattle.line_text.proofs.refusal.push_shown.Given as goal

abbrev pub invariant-loop-byte : goal.invariant-loop-byte
invariant-loop-byte l = l.text.items ≡ l.fn.text.items ++ map shown (take l.byte-index l.name)
