use Rattle.std.proofs.Common.{◌≡◌, ◌≤◌, take}
use Rattle.hoist_words.specs.Request.{words_of}
use Rattle.hoist_cli.specs.Batched.{AreReadAs}
use Rattle.hoist_cli.proofs.batching.reads_of.Given as goal

abbrev pub invariant-loop-i : goal.invariant-loop-i
invariant-loop-i g l =
    AreReadAs (g.F.Shelf.files l.fn.shelf) (take l.i (words_of l.names)) l.reads.items
    × (g.F.Shelf.files l.shelf ≡ g.F.Shelf.files l.fn.shelf) × (g.F.Shelf.faults l.fn.shelf ≤ g.F.Shelf.faults l.shelf)
