use Rattle.std.proofs.Common.{ap, ◌∙◌, ◌≡◌}
use Rattle.run_text.proofs.run.run_text.Goals as goal
use Rattle.std.specs.Prelude.{flat_map}
use Rattle.timetable.specs.TimetableData.{timetable_of}
use Rattle.startup_rundown.specs.RunLog.{first_tick, last_tick, run_log}
use Rattle.startup_rundown.specs.Runner as runners
use Rattle.run_text.specs.RunText.{event_line}
use Rattle.run_text.proofs.Ticks.{head_is, whole}

pub returns : goal.returns
returns c =
    let l = c.args.line.now in
    let p = timetable_of c.args.t.now in
    let n = c.args.carriers in
    let first : c.first.result ≡ first_tick l p = c.first.ensures ∙ ap runners.first_tick c.drive-runner.ensures.runner in
    let last : c.last.result ≡ last_tick l p n = c.last.ensures ∙ ap runners.last_tick c.drive-runner.ensures.runner in
    whole n (first_tick l p) (last_tick l p n) c.new-text.result.items c.push_head.new.text.items c.push_run.new.text.items c.extend_from_slice.new.self.items
    (flat_map event_line (run_log l p n)) c.new-text.ensures.items
    (c.in_ok-push_head.ensures ∙ head_is n c.new-text.result.items c.first.result (first_tick l p) c.last.result (last_tick l p n) first last)
    c.in_ok-push_run.ensures c.in_ok-extend_from_slice.ensures.items
