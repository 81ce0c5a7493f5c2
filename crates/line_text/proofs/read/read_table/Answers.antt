use Rattle.std.proofs.Common.{◌∙◌, sym}
use Rattle.toml.specs.View.{view}
use Rattle.hoist_base.specs.PartsData.{data_of}
use Rattle.line_text.proofs.Valid.{few_tables, within_limits, valid}
use Rattle.line_text.proofs.read.read_table.Goals as goal

pub parts_of-requires : goal.parts_of-requires
parts_of-requires c = few_tables (view c.args.root.now) (sym c.in_ok-why.ensures ∙ c.in-None.is)

pub first_flaw-requires : goal.first_flaw-requires
first_flaw-requires c =
    within_limits (view c.args.root.now) (data_of c.in_ok-parts-in-None.parts) (sym c.in_ok-why.ensures ∙ c.in-None.is) c.in_ok-parts-in-None.ensures

pub new-requires : goal.new-requires
new-requires c =
    valid (view c.args.root.now) (data_of c.in_ok-parts-in-None.parts) (sym c.in_ok-why.ensures ∙ c.in-None.is) c.in_ok-parts-in-None.ensures
    (sym c.first_flaw.ensures ∙ c.in-None-first_flaw.is)
