use Rattle.answer_text.proofs.WriteLemmas.{whole}
use Rattle.answer_text.proofs.write.write_answer.Goals as goal

pub returns : goal.returns
returns c =
    whole c.args.line.now c.args.a.now c.single-single.result c.new-text.result.items c.push_head.new.text.items c.push_numbers.new.text.items
    c.push_timetable.new.text.items c.push_tree.new.text.items c.single-single.ensures.test
    c.new-text.ensures.items c.in_ok-push_head.ensures c.in_ok-push_numbers.ensures c.in_ok-push_timetable.ensures c.in_ok-push_tree.ensures
