use Rattle.std.proofs.Common.{◌-◌, ◌<◌, length, get_or, arith, ap, List, ℕ}
use Rattle.std.proofs.lemmas.List.{get_or_default, length-reverse}
use Rattle.choice_tree.proofs.OrderLemmas.{pushed_more}
use Rattle.branch_rounds.proofs.FrontierLemmas.{replaced_first}
use Rattle.branch_rounds.proofs.frontier.Frontier.replace_first.Goals as goal

pub loop-k-preserved : goal.loop-k-preserved
loop-k-preserved c =
    let xs = c.args.paths.now in
    let at = length xs - 1 - c.loop-k.k in
    let lt : c.loop-k.k < length xs = c.loop-k-test.true in
    let there : at < length xs = omega arith in
    pushed_more _ _ _ _ _ _ lt (get_or_default xs at 0 (get_or xs at 0) there) c.loop-k.invariant c.in_ok-push.ensures.items

pub returns : goal.returns
returns c =
    replaced_first c.self.inside.stack.items c.truncate.new.self.items c.loop-k.self-inside.stack.items c.args.paths.now
    c.args.self.now c.args.count _ c.loop-k.k c.self.view_is
    c.truncate.ensures.items (omega (
      arith,
      c.len.ensures,
      c.requires,
      ap (λ (ys : List ℕ). length ys) c.self.view_is,
      length-reverse c.self.inside.stack.items,
    )) c.loop-k-test.false c.loop-k.auto.k-end c.loop-k.invariant
