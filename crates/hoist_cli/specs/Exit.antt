-- The numbers that the program ends with.
use Rattle.std.specs.Prelude.{ℕ}
use Rattle.hoist_cli.specs.declared.status.Status.{Status}
use Rattle.hoist_cli.specs.declared.status.Status.TheVariants.{Done, Negative, Words, Unfinished, Line, Broken, Read, Write, Long, Memory}

abbrev pub number_of : Status → ℕ
number_of Done = 0
number_of Negative = 1
number_of Words = 2
number_of Unfinished = 3
number_of Line = 4
number_of Broken = 5
number_of Read = 6
number_of Write = 7
number_of Long = 8
number_of Memory = 9
