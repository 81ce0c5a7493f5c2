use Rattle.std.proofs.Common.{◌≡◌, sym, get_or}
use Rattle.toml.specs.View.{view}
use Rattle.line_text.specs.declared.fields.Field.TheVariants.{Name}
use Rattle.line_text.specs.Values.{text_at}
use Rattle.line_text.proofs.Numbering.{numbering_more}
use Rattle.line_text.proofs.parts.numbers_of.Goals as goal

pub loop-i-preserved : goal.loop-i-preserved
loop-i-preserved c = λ name.
    let more = numbering_more name c.args.tables.now c.loop-i.i c.index-tables-i.result c.loop-i-test.true in
    let is = c.index-tables-i.is in
    let same : text_at (view (get_or c.args.tables.now c.loop-i.i c.index-tables-i.result)) Name ≡ c.text_at.result.now = rw (← is) (sym c.text_at.ensures) in
    let added = c.in_ok-add_name.ensures name in
    let before = c.loop-i.invariant name in
    cc
