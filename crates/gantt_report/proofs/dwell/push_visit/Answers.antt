use Rattle.std.proofs.Common.{rules, List, ℕ, ◌++◌, codes, w64, ap, ◌∙◌}
use mir.Val.{SFits}
use Rattle.std.specs.Fmt.{signed_decimal}
use Rattle.std.proofs.lemmas.Result.{on_ok_weaker}
use Rattle.std.proofs.lemmas.Int.{to_z-of_z}
use Rattle.gantt_report.specs.DwellTable.{column}
use Rattle.gantt_report.proofs.Rows.{four_parts}
use Rattle.gantt_report.proofs.dwell.push_visit.Goals as goal

pub returns : goal.returns
returns c =
    let named = c.push_name.new.text.items in
    let timed = c.push_window.new.text.items in
    let fits : SFits w64 c.dwell.result = search rules in
    on_ok_weaker c.push_tank.result
    (λ after. four_parts c.args.text.now.items named _ timed c.push_tank.new.text.items _ _ _ _ c.in_ok-push_name.ensures
    (c.in_ok-push_dwell.ensures ∙ ap (λ ticks. named ++ column (signed_decimal ticks)) (to_z-of_z w64 c.dwell.result fits ∙ c.dwell.ensures))
    c.in_ok-push_window.ensures
    (after ∙ ap (λ (name : List ℕ). timed ++ (codes " " ++ (name ++ codes "\n"))) c.tank_name.ensures))
    c.push_tank.ensures
