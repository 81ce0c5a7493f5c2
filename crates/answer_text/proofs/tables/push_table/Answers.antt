use Rattle.std.proofs.Common.{◌≡◌, ◌++◌, ◌+◌, decimal, length, ap, ◌∙◌, arith}
use Rattle.hoist_base.specs.LineData.{last_stage}
use Rattle.timetable.specs.TimetableData.{timetable_of}
use Rattle.text_writing.specs.Texts.{end}
use Rattle.answer_text.specs.Tables.{carrier_line, choice_line, move_line, path_line, each_below}
use Rattle.answer_text.proofs.JoinLemmas.{two_parts, part_of_two}
use Rattle.answer_text.proofs.tables.push_table.Goals as goal

pub returns : goal.returns
returns c =
    let l = c.args.line.now in
    let p = timetable_of c.args.t.now in
    let old = c.args.text.now.items in
    let a = c.push_number_line.new.text.items in
    let b = c.push_carriers.new.text.items in
    let d = c.push_choices.new.text.items in
    let e = c.push_moves.new.text.items in
    let f = c.push_paths.new.text.items in
    let steps : c.inner.result + 1 ≡ last_stage l = omega (arith, c.inner.ensures.count) in
    let period : a ≡ old ++ (decimal p.period ++ end) = c.in_ok-push_number_line.ensures ∙ ap (λ n. old ++ (decimal n ++ end)) c.period.ensures.value in
    let carriers : b ≡ a ++ each_below l.degree (carrier_line p) =
    c.in_ok-push_carriers.ensures ∙ ap (λ n. a ++ each_below n (carrier_line p)) c.degree.ensures.value in
    let choices : d ≡ b ++ each_below l.degree (λ i. each_below (length l.stages) (choice_line l p i)) =
    c.in_ok-push_choices.ensures ∙ ap (λ n. b ++ each_below n (λ i. each_below (length l.stages) (choice_line l p i))) c.degree-2.ensures.value in
    let moves : e ≡ d ++ each_below l.degree (λ i. each_below (last_stage l) (move_line p i)) = c.in_ok-push_moves.ensures
    ∙ ap (λ n. d ++ each_below n (λ i. each_below (c.inner.result + 1) (move_line p i))) c.degree-3.ensures.value
    ∙ ap (λ n. d ++ each_below l.degree (λ i. each_below n (move_line p i))) steps in
    let paths : f ≡ e ++ each_below l.hoists (path_line p) = c.in_ok-push_paths.ensures ∙ ap (λ n. e ++ each_below n (path_line p)) c.hoists.ensures.value in
    part_of_two old f (decimal p.period) end _
    (two_parts old a f _ _ period (two_parts a b f _ _ carriers (two_parts b d f _ _ choices (two_parts d e f _ _ moves paths))))
