use Rattle.std.proofs.Common.{◌≡◌, take, map, unwrap_or}
use Rattle.std.specs.List.{filter_map}
use Rattle.toml.specs.Data.{as_str}
use Rattle.toml.specs.View.{view}
use Rattle.indexmap.specs.IndexMap.{get_by_text}
use Rattle.line_text.proofs.parts.numbers_among.Given as goal

abbrev pub invariant-loop-item : goal.invariant-loop-item
invariant-loop-item l =
    l.found.items ≡ map (λ name. unwrap_or (get_by_text l.numbers name) l.count) (filter_map as_str (map view (take l.item-index l.items)))
