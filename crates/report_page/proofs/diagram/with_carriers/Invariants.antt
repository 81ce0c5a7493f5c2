use Rattle.std.proofs.Common.{◌≡◌, map}
use Rattle.std.specs.List.{range_with_len}
use Rattle.markup.specs.Forms.{holding_all}
use Rattle.report_page.specs.Timeway.{carrier_key}
use Rattle.report_page.proofs.diagram.with_carriers.Given as goal

abbrev pub invariant-loop-c : goal.invariant-loop-c
invariant-loop-c l = l.keys ≡ holding_all l.fn.keys (map carrier_key (range_with_len 0 l.c))
