use Rattle.std.proofs.Common.{sym, ◌∙◌, arith}
use Rattle.std.proofs.lemmas.Int.{ints}
use Rattle.timetable.specs.TimetableData.{timetable_of}
use Rattle.window_margin.proofs.PairLemmas.{held, moves_more}
use Rattle.window_margin.proofs.order_arcs.push_moves.Goals as goal

pub returns-in_ok-push-2 : goal.returns-in_ok-push-2
returns-in_ok-push-2 c =
    moves_more c.args.line.now (timetable_of c.args.t.now) c.args.a c.args.b c.in-Some.span (held c.move_order-q.result) c.period-period.result
    c.after_arc.result c.before_arc.result c.args.arcs.now.items c.push.new.self.items c.push-in-Some.new.self.items
    (sym c.clash_of.ensures.value ∙ c.in-Some.is) (omega (arith, ints, c.move_order-q.ensures.value, c.move_order-q.ensures.small))
    c.period-period.ensures.value c.after_arc.ensures c.before_arc.ensures c.in_ok-push.ensures.items c.in_ok-push-2.ensures.items
