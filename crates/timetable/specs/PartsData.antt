-- The timetable that parts describe.
use Rattle.std.specs.Prelude.{ℕ}
use Rattle.timetable.specs.declared.parts.TimetableParts.{TimetableParts}
use Rattle.timetable.specs.TimetableData.{TimetableData}

-- the parts of a timetable whose carriers have this many moves
abbrev pub data_of : ℕ → TimetableParts → TimetableData
data_of steps p = record {
  period = p.period;
  steps = steps;
  put = p.put.items;
  off = p.off.items;
  start = p.start.items;
  hoist = p.hoist.items;
  path = p.path.items;
  tank = p.tank.items;
}
