-- A sink in memory that takes a piece by parts and fails when it is told to.
use Rattle.std.specs.Prelude.{ℕ, List, ◌++◌, take, Result, Ok, Err}
use Rattle.outside.specs.Count.{next_count}
use Rattle.outside.specs.declared.sink.SinkFault.{SinkFault}
use Rattle.outside.specs.declared.sink.SinkFault.TheVariants.{Failed, Memory}

-- the bytes written, the most that one write takes, the numbers of the writes that fail, how many
-- writes there were, how many failed, and how many found no memory; the first write has number 0
pub record MemorySinkData : Type 0 where
  pub written : List ℕ
  pub most : ℕ
  pub fails : List ℕ
  pub writes : ℕ
  pub faults : ℕ
  pub wants : ℕ

-- the sink after a write of this piece with this answer: one write more, and the bytes that it took,
-- or one fault more, or one want of memory more
abbrev pub after_write : MemorySinkData → List ℕ → Result ℕ SinkFault → MemorySinkData
after_write sink piece (Ok count) = record sink { written = sink.written ++ take count piece; writes = next_count sink.writes }
after_write sink piece (Err Failed) = record sink { writes = next_count sink.writes; faults = next_count sink.faults }
after_write sink piece (Err (Memory fault)) = record sink { writes = next_count sink.writes; wants = next_count sink.wants }
