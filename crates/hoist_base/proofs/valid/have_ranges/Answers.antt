use Rattle.std.proofs.Common.{rules}
use Rattle.hoist_base.specs.PartsData.{data_of}
use Rattle.hoist_base.specs.Ranges.{HasRangesAt}
use Rattle.list_facts.proofs.Elements.{up_to_more}
use Rattle.hoist_base.proofs.valid.have_ranges.Goals as goal

pub loop-k-preserved : goal.loop-k-preserved
loop-k-preserved c =
    up_to_more (HasRangesAt (data_of c.args.parts.now)) c.loop-k.k c.loop-k.invariant (c.has_ranges_at.ensures.0 (search rules))
