use Rattle.std.proofs.Common.{sym, ◌∙◌, arith}
use Rattle.std.proofs.lemmas.Int.{ints}
use Rattle.timetable.specs.TimetableData.{timetable_of}
use Rattle.window_margin.proofs.PairLemmas.{held, visits_more, no_visits}
use Rattle.window_margin.proofs.order_arcs.push_visits.Goals as goal

pub returns-in_ok-push-2 : goal.returns-in_ok-push-2
returns-in_ok-push-2 c =
    visits_more c.args.line.now (timetable_of c.args.t.now) c.args.a c.args.b c.hold_of-first.result.end c.hold_of-second.result.begin
    c.hold_of-second.result.end c.hold_of-first.result.begin (held c.visit_order-q.result) (held c.turned_back.result) c.period-period.result
    c.moment_arc.result c.moment_arc-then-tank.result c.args.arcs.now.items c.push.new.self.items c.push-then-tank.new.self.items
    (sym c.tank.ensures.value ∙ c.if-tank.true ∙ c.tank-2.ensures.value) c.hold_of-first.ensures.end c.hold_of-second.ensures.begin
    c.hold_of-second.ensures.end c.hold_of-first.ensures.begin (omega (arith, ints, c.visit_order-q.ensures.value, c.visit_order-q.ensures.small))
    (omega (arith, ints, c.turned_back.ensures.value, c.turned_back.ensures.small)) c.period-period.ensures.value
    c.moment_arc.ensures c.moment_arc-then-tank.ensures c.in_ok-push.ensures.items c.in_ok-push-2.ensures.items

pub returns-else-tank : goal.returns-else-tank
returns-else-tank c =
    no_visits c.args.line.now (timetable_of c.args.t.now) c.args.a c.args.b c.args.arcs.now.items
    (λ e. c.if-tank.false (c.tank.ensures.value ∙ e ∙ sym c.tank-2.ensures.value))
