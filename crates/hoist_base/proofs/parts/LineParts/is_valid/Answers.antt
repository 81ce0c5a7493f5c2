use Rattle.std.proofs.Common.{rules}
use Rattle.hoist_base.specs.PartsData.{data_of}
use Rattle.hoist_base.proofs.FlawLemmas.{line_from, no_flaw}
use Rattle.hoist_base.proofs.parts.LineParts.is_valid.Goals as goal

pub returns-then-has_ranges : goal.returns-then-has_ranges
returns-then-has_ranges c =
    let ranges = c.has_ranges.ensures.0 (search rules) in (
      λ none. line_from (data_of c.args.self.now) ranges (search rules),
      λ line. let none = no_flaw (data_of c.args.self.now) line in search rules,
    )
