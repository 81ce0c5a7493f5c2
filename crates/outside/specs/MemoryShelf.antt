-- A shelf in memory that fails when it is told to.
use Rattle.std.specs.Prelude.{ℕ, List, Vec, Result, Err}
use Rattle.std.specs.declared.alloc.Global.{Global}
use Rattle.outside.specs.Count.{next_count}
use Rattle.outside.specs.Shelf.{Files}
use Rattle.outside.specs.declared.shelf.ShelfFault.{ShelfFault}
use Rattle.outside.specs.declared.shelf.ShelfFault.TheVariants.{Failed}

-- its files, the numbers of the reads that fail, how many reads there were, and how many failed;
-- the first read has number 0
pub record MemoryShelfData : Type 0 where
  pub files : Files
  pub fails : List ℕ
  pub reads : ℕ
  pub faults : ℕ

-- the shelf after a read with this answer: one read more, and one fault more where it failed
abbrev pub after_read : MemoryShelfData → Result (Vec ℕ Global) ShelfFault → MemoryShelfData
after_read shelf (Err Failed) = record shelf { reads = next_count shelf.reads; faults = next_count shelf.faults }
after_read shelf _ = record shelf { reads = next_count shelf.reads }
