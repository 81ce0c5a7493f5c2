-- The rows so far.
use Rattle.std.proofs.Common.{◌≡◌, length}
use Rattle.path_envelope.specs.Duties.{duties}
use Rattle.path_envelope.specs.Slots.{AreLayers}
use Rattle.path_envelope.proofs.tracing.paths.Given as goal

abbrev pub invariant-loop-h : goal.invariant-loop-h
invariant-loop-h l = record {
  layers : AreLayers l.asked.line.now (duties l.asked.line.now l.asked.route.now l.asked.period l.asked.starts.now l.asked.hoists.now) l.h l.rows.items;
  table : length l.table.items ≡ l.asked.period;
  row : length l.row.items ≡ l.asked.period;
}
