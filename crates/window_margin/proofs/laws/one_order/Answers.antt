use Rattle.path_constraints.proofs.CoverDecidedLemmas.{some_is}
use Rattle.window_margin.specs.Orders.{own_clash, BeginsAfter, StartsAfter, visit_order, move_order}
use Rattle.window_margin.proofs.OrderLemmas.{one_least, visit_order_is, move_order_is}
use Rattle.window_margin.proofs.laws.one_order.Goals as goal

pub returns-clause-visits : goal.returns-clause-visits
returns-clause-visits c l p a b legal pair =
    let is = visit_order_is l p a b legal.period in
    (visit_order l p a b, is, λ r h. one_least (BeginsAfter l p a b) r (visit_order l p a b) h is)

pub returns-clause-moves : goal.returns-clause-moves
returns-clause-moves c l p a b legal pair =
    let span = some_is (own_clash l p a b) pair.clash in
    let is = move_order_is l p a b span.0 legal.period span.1 in
    (move_order l p a b span.0, is, λ r h. one_least (StartsAfter l p a b) r (move_order l p a b span.0) h is)
