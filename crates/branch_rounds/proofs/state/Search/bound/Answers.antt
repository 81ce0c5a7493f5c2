use Rattle.std.proofs.Common.{⊎_elim, inl, inr, ◌⊎◌, ◌≡◌, ◌∙◌, List, ℕ, ◌<◌, length, get_or, subst, sym, arith, ap}
use Rattle.std.proofs.lemmas.Bool.{cases_lt}
use Rattle.choice_tree.specs.declared.question.Decision.{Decision}
use Rattle.choice_tree.specs.Nodes.{node_at, IsPathTo}
use Rattle.branch_rounds.specs.Grown.{LowRefutes}
use Rattle.branch_rounds.proofs.RoundLemmas.{at_frontier, cap_range}
use Rattle.branch_rounds.proofs.OutcomeLemmas.{bound_begins, bound_more, bound_ends, good_at}
use Rattle.branch_rounds.proofs.state.Search.bound.Goals as goal

pub loop-k-init : goal.loop-k-init
loop-k-init c =
    let r = cap_range c.args.line.now c.args.self.now.best c.cap-bound.ensures.valid c.requires.best in
    bound_begins c.args.line.now c.args.self.now _ (omega (arith, c.cap-bound.ensures.value, r.0)) c.cap-bound.ensures.value

pub path-requires : goal.path-requires
path-requires c =
    let lt : c.loop-k.k < length c.args.self.now.frontier = omega (arith, c.loop-k-test.true, c.len-k-end.ensures) in
    omega (arith, c.node-node.ensures, (at_frontier c.args.self.now c.loop-k.k c.requires.placed lt).0)

pub node-requires : goal.node-requires
node-requires c =
    let lt : c.loop-k.k < length c.args.self.now.frontier = omega (arith, c.loop-k-test.true, c.len-k-end.ensures) in
    omega (arith, c.node-node.ensures, (at_frontier c.args.self.now c.loop-k.k c.requires.placed lt).0)

pub bound_at-bound-requires-clause-low : goal.bound_at-bound-requires-clause-low
bound_at-bound-requires-clause-low c =
    let s = c.args.self.now in
    let lt : c.loop-k.k < length s.frontier = omega (arith, c.loop-k-test.true, c.len-k-end.ensures) in
    let at : c.node-node.result ≡ get_or s.frontier c.loop-k.k 0 = c.node-node.ensures in
    let P : List Decision → Type 0 = λ ds. IsPathTo s.tree c.node-node.result ds in
    let I : ℕ → Type 0 = λ i. IsPathTo s.tree i c.as_slice.result.now in
    let leads = subst I at (subst P (sym c.as_slice.ensures.value) c.in_ok-path.ensures.path) in
    good_at c.args.line.now s c.loop-k.k c.as_slice.result.now c.node.result.now c.requires lt leads
    (c.node.ensures.value ∙ ap (λ (i : ℕ). node_at s.tree i) at)

pub loop-k-preserved : goal.loop-k-preserved
loop-k-preserved c =
    let s = c.args.self.now in
    let at : c.node-node.result ≡ get_or s.frontier c.loop-k.k 0 = c.node-node.ensures in
    let P : List Decision → Type 0 = λ ds. IsPathTo s.tree c.node-node.result ds in
    let I : ℕ → Type 0 = λ i. IsPathTo s.tree i c.as_slice.result.now in
    let leads = subst I at (subst P (sym c.as_slice.ensures.value) c.in_ok-path.ensures.path) in
    let b = c.bound_at-bound.ensures in
    let least = c.bound_at-bound.result in
    let met : (least ≡ c.loop-k.bound) ⊎ (LowRefutes c.args.line.now c.as_slice.result.now c.node.result.now least → ⊥) =
    ⊎_elim (λ lt. inr (b.kept lt)) (λ le. inl (omega (arith, le, b.most))) (cases_lt least c.loop-k.bound) in
    bound_more c.args.line.now s c.loop-k.k c.loop-k.bound _ c.as_slice.result.now c.node.result.now c.requires.placed.tree c.loop-k.invariant leads
    (c.node.ensures.value ∙ ap (λ (i : ℕ). node_at s.tree i) at) b.some b.most b.refuted met

pub returns : goal.returns
returns c = record {
  bound =
      bound_ends c.args.line.now c.args.self.now c.loop-k.k _ (omega (arith, c.loop-k-test.false, c.loop-k.auto.k-end, c.len-k-end.ensures)) c.loop-k.invariant;
  valid = c.cap-bound.ensures.valid;
}
