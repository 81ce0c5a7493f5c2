use Rattle.std.proofs.Common.{◌≡◌, ◌-◌, length, ap, sym, ◌∙◌, arith}
use Rattle.std.proofs.lemmas.List.{get_or_read}
use Rattle.hoist_base.specs.LineData.{stage, no_stage}
use Rattle.field_reading.proofs.Numbers.{number_small}
use Rattle.answer_read.proofs.table.chosen.Goals as goal

pub bounds-tanks-j : goal.bounds-tanks-j
bounds-tanks-j c =
    let l = c.args.line.now in
    let k = c.args.v.stage in
    let n = length c.as_slice-tanks.result.now in
    let stages = c.stages.ensures in
    let here : c.index-stages-v.result ≡ stage l k =
    get_or_read l.stages k c.index-stages-v.result c.requires (rw stages.value at c.index-stages-v.is) no_stage in
    let tanks : n ≡ length (stage l k).tanks =
    ap length c.as_slice-tanks.ensures ∙ ap (λ s. length s.tanks) (sym c.index-stages-v.is ∙ here) in
    let count = stages.valid.stages.count k c.requires in
    let small = number_small 0 (n - 1) c.in_ok-j.j c.in_ok-rest-3.rest.now c.in_ok-j.rest.now in
    omega (arith, tanks, count.0, small (omega arith) (omega arith) (omega (arith, tanks, count.1)) c.in_ok-j.ensures)
