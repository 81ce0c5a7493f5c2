-- The line that parts describe.
use Rattle.hoist_base.specs.declared.parts.LineParts.{LineParts}
use Rattle.hoist_base.specs.LineData.{LineData}

abbrev pub data_of : LineParts → LineData
data_of p = record {
  track = p.track;
  gap = p.gap;
  hoists = p.hoists;
  degree = p.degree;
  max_period = p.max_period;
  load = p.load;
  unload = p.unload;
  tanks = p.tanks.items;
  stages = p.stages.items;
}
