use Rattle.std.proofs.Common.{◌≡◌, ◌-◌, List, [], ◌++◌, Ok, flat_map}
use Rattle.timetable.specs.TimetableData.{timetable_of}
use Rattle.tick_machine.specs.declared.event.Event.{Event}
use Rattle.tick_machine.specs.Layout.{layout_of}
use Rattle.tick_machine.specs.Play.{empty_scene}
use Rattle.tick_machine.specs.Playing.{reached}
use Rattle.tick_machine.proofs.Plays.{done}
use Rattle.startup_rundown.specs.Driving.{order_into, first_place}
use Rattle.startup_rundown.specs.RunLog.{first_tick}
use Rattle.run_text.specs.RunText.{event_line}
use Rattle.run_text.proofs.run.push_run.Given as goal

abbrev pub invariant-loop-tick : goal.invariant-loop-tick
invariant-loop-tick l = record {
  line : l.playing.line ≡ l.line;
  tick : l.playing.tick ≡ l._tick;
  so_far : (log : List Event)
      × (done (layout_of l.line) (order_into l.line (timetable_of l.t) l.carriers) (first_tick l.line (timetable_of l.t))
      (record { frame = empty_scene (layout_of l.line) (first_place l.line (timetable_of l.t)); log = [] }) (l._tick - first_tick l.line (timetable_of l.t))
      ≡ Ok (reached l.playing log))
      × (l.text.items ≡ l.fn.text.items ++ flat_map event_line log);
}
