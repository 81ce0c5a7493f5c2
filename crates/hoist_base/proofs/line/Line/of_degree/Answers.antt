use Rattle.hoist_base.specs.PartsData.{data_of}
use Rattle.hoist_base.proofs.RouteLemmas.{of_degree_line}
use Rattle.hoist_base.proofs.line.Line.of_degree.Goals as goal

pub new-requires : goal.new-requires
new-requires c =
    rw (c.in_ok-tanks.ensures, c.in_ok-stages.ensures, c.as_slice.ensures.value, c.as_slice-2.ensures.value)
    (of_degree_line (data_of c.self.inside.parts) c.args.degree c.self.invariant c.requires)
