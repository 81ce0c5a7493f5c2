use Rattle.std.proofs.Common.{◌≡◌, ap, sym, get_or, unwrap_or}
use Rattle.toml.specs.Data.{as_str}
use Rattle.toml.specs.View.{view}
use Rattle.indexmap.specs.IndexMap.{get_by_text}
use Rattle.line_text.proofs.Numbering.{texts_more}
use Rattle.line_text.proofs.parts.numbers_among.Goals as goal

pub loop-item-preserved : goal.loop-item-preserved
loop-item-preserved c =
    let more = texts_more (λ name. unwrap_or (get_by_text c.args.numbers.now name) c.args.count) c.args.items.now
    c.loop-item.item-index c.item-item.result c.loop-item-test.true in
    let is = c.item-item.is in
    let text : as_str (view (get_or c.args.items.now c.loop-item.item-index c.item-item.result)) ≡ as_str (view c.item-item.result) = ap (λ v. as_str (view v)) (sym is) in
    let added = c.in_ok-push_tank_number.ensures in
    let before = c.loop-item.invariant in
    cc
