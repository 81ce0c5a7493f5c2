use Rattle.std.proofs.Common.{◌∙◌, subst, refl, arith}
use Rattle.hoist_base.specs.LineData.{last_stage}
use Rattle.timetable.specs.TimetableData.{TimetableData}
use Rattle.timetable.specs.PartsData.{data_of}
use Rattle.path_envelope.specs.Duties.{duties}
use Rattle.path_envelope.specs.Envelope.{AreLowest}
use Rattle.planning.specs.Lists.{AreStarts, ArePuts, AreOffs}
use Rattle.planning.proofs.PlanData.{AreParts, small_ticks, are_loaded, start_low, is_plan, is_timetable}
use Rattle.planning.proofs.planner.parts_of.Goals as goal

pub starts_of-requires-clause-ticks : goal.starts_of-requires-clause-ticks
starts_of-requires-clause-ticks c = rw c.as_slice.ensures (small_ticks c.args.line.now c.args.solved.now c.load.ensures.valid c.requires)

pub puts_of-requires-clause-loaded : goal.puts_of-requires-clause-loaded
puts_of-requires-clause-loaded c =
    let l = c.args.line.now in
    let s = c.args.solved.now in
    let items = c.in_ok-start.start.items in
    let starts : AreStarts l.load s.ticks items =
    subst (λ ticks. AreStarts l.load ticks items) c.as_slice.ensures
    (subst (λ load. AreStarts load c.as_slice.result.now items) c.load.ensures.value c.in_ok-start.ensures) in
    rw c.as_slice-2.ensures.value (are_loaded l s items c.load.ensures.valid c.requires starts)

pub offs_of-requires-clause-small : goal.offs_of-requires-clause-small
offs_of-requires-clause-small c =
    let l = c.args.line.now in
    let s = c.args.solved.now in
    let items = c.in_ok-start.start.items in
    let starts : AreStarts l.load s.ticks items =
    subst (λ ticks. AreStarts l.load ticks items) c.as_slice.ensures
    (subst (λ load. AreStarts load c.as_slice.result.now items) c.load.ensures.value c.in_ok-start.ensures) in
    rw c.as_slice-3.ensures.value (λ i. omega (arith, start_low l s items i c.load.ensures.valid c.requires starts))

abbrev lists : (c : goal.In_ok-tank) → TimetableData
lists c =
    data_of (last_stage c.args.line.now) (record {
      period = c.args.solved.now.period;
      put = c.in_ok-put.put;
      off = c.in_ok-off.off;
      start = c.in_ok-start.start;
      hoist = c.in_ok-hoist.hoist;
      path = c.in_ok-path.path;
      tank = c.in_ok-tank.tank;
    })

parts : (c : goal.In_ok-tank) → AreParts c.args.line.now c.args.solved.now (lists c)
parts c =
    let l = c.args.line.now in
    let s = c.args.solved.now in
    let items = c.in_ok-start.start.items in
    record {
      period = refl;
      steps = refl;
      start =
          subst (λ ticks. AreStarts l.load ticks items) c.as_slice.ensures
          (subst (λ load. AreStarts load c.as_slice.result.now items) c.load.ensures.value c.in_ok-start.ensures);
      put = subst (λ starts. ArePuts l starts c.in_ok-put.put.items) c.as_slice-2.ensures.value c.in_ok-put.ensures;
      off = subst (λ starts. AreOffs l s.tanks starts c.in_ok-off.off.items) c.as_slice-3.ensures.value c.in_ok-off.ensures;
      hoist = c.in_ok-hoist.ensures.items ∙ c.as_slice-5.ensures;
      tank = c.in_ok-tank.ensures.items ∙ c.as_slice-6.ensures;
      path = subst (λ starts. AreLowest l (duties l s.tanks s.period starts s.hoists) c.in_ok-path.path.items) c.as_slice-4.ensures.value c.in_ok-path.ensures;
    }

pub returns-clause-plan : goal.returns-clause-plan
returns-clause-plan c = is_plan c.args.line.now c.args.solved.now (lists c) c.load.ensures.valid c.requires (parts c)

pub returns-clause-fits : goal.returns-clause-fits
returns-clause-fits c = is_timetable c.args.line.now c.args.solved.now (lists c) c.load.ensures.valid c.requires (parts c)
