-- What a line of rows is known to have.
use Rattle.std.specs.Prelude.{◌≡◌, ℕ, length}
use Rattle.hoist_base.specs.LineData.{LineData}
use Rattle.hoist_base.specs.Valid.{IsLine}
use Rattle.worked_lines.specs.declared.build.Numbers.{Numbers}

pub record HasSizes (l : LineData) (n : Numbers) (tank_count stage_count : ℕ) : Type 0 where
  pub line : IsLine l
  pub track : l.track ≡ n.track
  pub gap : l.gap ≡ n.gap
  pub hoists : l.hoists ≡ n.hoists
  pub degree : l.degree ≡ n.degree
  pub max_period : l.max_period ≡ n.max_period
  pub load : l.load ≡ n.load
  pub unload : l.unload ≡ n.unload
  pub tanks : length l.tanks ≡ tank_count
  pub stages : length l.stages ≡ stage_count
