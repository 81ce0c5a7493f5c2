use Rattle.report_page.specs.Timeway.{carrier_key}
use Rattle.markup.proofs.Trees.{holds_more, holds_none}
use Rattle.report_page.proofs.diagram.with_carriers.Goals as goal

pub loop-c-init : goal.loop-c-init
loop-c-init c = holds_none c.args.keys carrier_key

pub loop-c-preserved : goal.loop-c-preserved
loop-c-preserved c =
    holds_more c.args.keys c.loop-c.keys c.in_ok-keys.keys c.in_ok-carrier.carrier carrier_key c.loop-c.c
    c.loop-c.invariant
    c.in_ok-carrier.ensures c.in_ok-keys.ensures
