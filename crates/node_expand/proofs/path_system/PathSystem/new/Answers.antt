use Rattle.std.proofs.Common.{arith, ◌∙◌, []}
use Rattle.path_constraints.proofs.BaseLemmas.{fits_none}
use Rattle.node_expand.proofs.PathLemmas.{system_at, names_none}
use Rattle.node_expand.proofs.path_system.PathSystem.new.Goals as goal

pub returns : goal.returns
returns c =
    let l = c.args.line.now in
    system_at l [] _ c.undecided_names.ensures.valid (fits_none l) (omega arith)
    (record {
      path = c.new.ensures.items;
      system = c.in_ok-system.ensures ∙ c.requires;
      names = c.in_ok-names.ensures.names ∙ names_none l;
      base = c.in_ok-base.ensures ∙ c.requires;
    })
