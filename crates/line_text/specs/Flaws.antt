-- What is wrong between the parts of a line, as what is wrong with its file.
use Rattle.std.specs.Prelude.{Option, option_map}
use Rattle.hoist_base.specs.declared.flaw.Flaw.{Flaw}
use Rattle.hoist_base.specs.declared.flaw.Flaw.TheVariants as flaws
use Rattle.hoist_base.specs.Flaws.{first_flaw}
use Rattle.hoist_base.specs.LineData.{LineData}
use Rattle.line_text.specs.declared.why.Why.{Why}
use Rattle.line_text.specs.declared.why.Why.TheVariants.{BadName, TwiceNamed, SamePlace, NoTank, TwiceTank, SameTank, EmptyWindow, NoRoom}

abbrev pub flaw_why : Flaw → Why
flaw_why (flaws.BadName tank) = BadName tank
flaw_why (flaws.TwiceNamed a b) = TwiceNamed a b
flaw_why (flaws.SamePlace a b) = SamePlace a b
flaw_why (flaws.NoTank stage) = NoTank stage
flaw_why (flaws.TwiceTank stage) = TwiceTank stage
flaw_why (flaws.SameTank stage) = SameTank stage
flaw_why (flaws.EmptyWindow stage) = EmptyWindow stage
flaw_why (flaws.NoRoom need track) = NoRoom need track

-- the first rule between the parts that fails
abbrev pub parts_why : LineData → Option Why
parts_why l = option_map flaw_why (first_flaw l)
