use Rattle.std.proofs.Common.{arith, sym, ◌∙◌}
use Rattle.cert_checker.proofs.PassLemmas.{leaf_kept}
use Rattle.cert_checker.proofs.passed.Leaves.pass.Goals as goal

pub returns : goal.returns
returns c =
    let decisions = c.self.inside.decisions in
    let more = c.extend_from_slice.new.self in
    leaf_kept decisions.items more.items c.args.path.now c.self.inside.leaves.items c.push.new.self.items c.args.self.now
    c.args.number c.args.at c.len-begin.result c.len-end.result c.args.node.now c.self.invariant c.self.view_is c.in_ok-extend_from_slice.ensures.items
    (omega (arith, c.len-begin.ensures, decisions.ok)) (omega (arith, c.len-end.ensures, more.ok))
    c.in_ok-push.ensures.items (sym c.is_split.ensures ∙ c.if-is_split.false)
