use Rattle.std.proofs.Common.{◌≡◌, ◌||◌, false, get_or, ap, ◌∙◌, arith}
use Rattle.std.specs.List.{list_any, range_with_len}
use Rattle.hoist_base.specs.declared.ids.MoveId.{MoveId}
use Rattle.hoist_base.specs.LineData.{move_at, move_count}
use Rattle.timetable.specs.TimetableData.{timetable_of}
use Rattle.gantt_report.specs.Chart.{is_marked_by}
use Rattle.gantt_report.proofs.Marking.{moves_more, are_marks}
use Rattle.gantt_report.proofs.marks.carrying.Goals as goal

pub loop-number-preserved : goal.loop-number-preserved
loop-number-preserved c =
    let l = c.args.line.now in
    let p = timetable_of c.args.t.now in
    let old = c.loop-number.marks.items in (
      c.mark_move.ensures.count ∙ c.loop-number.invariant.0,
      moves_more old c.mark_move.new.marks.items (λ j i. is_marked_by l p j (move_at l i).carrier (move_at l i).step) c.loop-number.number
          c.loop-number.invariant.1
          (λ j. c.mark_move.ensures.each j ∙ ap (λ (m : MoveId). get_or old j false || is_marked_by l p j m.carrier m.step) c.move_at.ensures.value),
    )

pub returns : goal.returns
returns c =
    let l = c.args.line.now in
    let p = timetable_of c.args.t.now in
    let end : c.loop-number.number ≡ move_count l = omega (
      arith,
      c.loop-number-test.false,
      c.loop-number.auto.number-end,
      c.move_count-number-end.ensures.value,
    ) in
    are_marks l p c.loop-number.marks.items c.loop-number.invariant.0
    (λ j. c.loop-number.invariant.1 j
    ∙ ap (λ n. list_any (λ i. is_marked_by l p j (move_at l i).carrier (move_at l i).step) (range_with_len 0 n)) end)
