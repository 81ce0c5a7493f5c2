-- What `sweep` prints.
use Rattle.std.specs.Prelude.{◌≡◌, ℕ, Bool, true, false, Option, Some, None}
use Rattle.hoist_base.specs.LineData.{LineData}
use Rattle.degree_sweep.specs.declared.swept.Swept.{Swept}
use Rattle.degree_sweep.specs.Sweep.{IsSwept}
use Rattle.degree_sweep.specs.Claims.{AreBounds, IsLeastSwept, is_settled}
use Rattle.degree_sweep.specs.SweepText.{sweep_text}
use Rattle.hoist_cli.specs.declared.status.Status.{Status}
use Rattle.hoist_cli.specs.declared.status.Status.TheVariants.{Done, Negative, Unfinished}
use Rattle.hoist_cli.specs.Reading.{Replies, Reading, AfterLine}
use Rattle.std.specs.Prelude.{List}

-- unfinished where a row is open, else done where there is a best degree
abbrev pub sweep_status : Bool → Option ℕ → Status
sweep_status false best = Unfinished
sweep_status true (Some best) = Done
sweep_status true None = Negative

abbrev pub status_of_swept : Swept → Status
status_of_swept s = sweep_status (is_settled s.rows) s.best

-- the text of the sweep of a line, with what it shows of all legal timetables
abbrev pub IsSweepOf : ℕ → ℕ → LineData → Replies
IsSweepOf upto budget l status text =
    (s : Swept) × IsSwept l upto budget s × AreBounds l s.rows × IsLeastSwept l upto s × (status ≡ status_of_swept s)
    × (text ≡ sweep_text s)

abbrev pub SweepReply : Reading → List ℕ → ℕ → ℕ → Replies
SweepReply r file upto budget = AfterLine r file (IsSweepOf upto budget)
