-- What was read so far are the bytes that the file gave, and no more than the limit.
use Rattle.std.proofs.Common.{◌≤◌, length}
use Rattle.std.specs.Io.KnownBytes.{Consumes}
use Rattle.outside.proofs.file_shelf.contents.Given as goal

abbrev pub invariant-loop : goal.invariant-loop
invariant-loop g l =
    (length l.bytes.items ≤ l.limit)
    × Consumes (g.F.Read.remaining l.fn.file) (g.F.Read.remaining l.file) l.bytes.items
