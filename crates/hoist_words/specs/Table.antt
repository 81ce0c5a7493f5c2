-- The table of commands.
use Rattle.std.specs.Prelude.{ℕ, List, codes, Some, None}
use Rattle.hoist_words.specs.declared.table.CommandName.{CommandName}
use Rattle.hoist_words.specs.declared.table.CommandName.TheVariants.{Solve, Check, Run, Chart, Drill, Sweep, Margin, Follow, Batch}
use Rattle.hoist_words.specs.declared.table.CommandRow.{CommandRow}
use Rattle.hoist_words.specs.declared.table.Limits.{Limits}

abbrev pub name_of_command : CommandName → List ℕ
name_of_command Solve = codes "solve"
name_of_command Check = codes "check"
name_of_command Run = codes "run"
name_of_command Chart = codes "chart"
name_of_command Drill = codes "drill"
name_of_command Sweep = codes "sweep"
name_of_command Margin = codes "margin"
name_of_command Follow = codes "follow"
name_of_command Batch = codes "batch"

-- splits of the search, and of that of each line of a list, threads that search, carriers of a run, and degrees of a
-- sweep
abbrev pub splits : Limits
splits = record { least = 0; most = 20000; default = 20000 }

abbrev pub listed_splits : Limits
listed_splits = record { least = 0; most = 500; default = 400 }

abbrev pub threads : Limits
threads = record { least = 1; most = 64; default = 4 }

abbrev pub run_carriers : Limits
run_carriers = record { least = 1; most = 1000; default = 10 }

abbrev pub degrees : Limits
degrees = record { least = 1; most = 4; default = 4 }

-- the greatest seed
abbrev pub greatest_seed : ℕ
greatest_seed = 4294967295

-- what stands behind the command
abbrev pub row_of : CommandName → CommandRow
row_of Solve = record { files = 1; seed = None; budget = Some splits; workers = Some threads; carriers = None; upto = None }
row_of Check = record { files = 2; seed = None; budget = None; workers = None; carriers = None; upto = None }
row_of Run = record { files = 2; seed = None; budget = None; workers = None; carriers = Some run_carriers; upto = None }
row_of Chart = record { files = 2; seed = None; budget = None; workers = None; carriers = None; upto = None }
row_of Drill = record { files = 1; seed = Some greatest_seed; budget = None; workers = None; carriers = None; upto = None }
row_of Sweep = record { files = 1; seed = None; budget = Some splits; workers = Some threads; carriers = None; upto = Some degrees }
row_of Margin = record { files = 2; seed = None; budget = None; workers = None; carriers = None; upto = None }
row_of Follow = record { files = 2; seed = None; budget = None; workers = None; carriers = None; upto = None }
row_of Batch = record { files = 1; seed = None; budget = Some listed_splits; workers = Some threads; carriers = None; upto = None }
