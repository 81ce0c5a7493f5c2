use Rattle.std.proofs.Common.{◌≡◌, map, take}
use Rattle.std.specs.Prelude.{string_bytes}
use Rattle.file_list.specs.Front.{IsFront, front_text}
use Rattle.file_list.proofs.read.read_list.Given as goal

abbrev pub invariant-loop-i : goal.invariant-loop-i
invariant-loop-i l =
    IsFront (map string_bytes l.front.names.items) l.front.name.items
    × (take l.i l.bytes ≡ front_text (map string_bytes l.front.names.items) l.front.name.items)
