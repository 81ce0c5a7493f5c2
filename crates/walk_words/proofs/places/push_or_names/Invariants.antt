use Rattle.std.proofs.Common.{◌≡◌, ◌++◌, take}
use Rattle.std.specs.List.{flat_map}
use Rattle.walk_words.specs.Places.{or_name}
use Rattle.walk_words.proofs.places.push_or_names.Given as goal

-- the tanks so far are written
abbrev pub invariant-loop-tank : goal.invariant-loop-tank
invariant-loop-tank l = l.text.items ≡ l.fn.text.items ++ flat_map (or_name l.line) (take l.tank-index l.tanks)
