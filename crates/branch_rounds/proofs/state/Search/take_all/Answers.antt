use Rattle.std.proofs.Common.{◌≡◌, ◌+◌, ◌++◌, List, length, drop, rules, subst, arith, refl}
use Rattle.node_expand.specs.declared.expanded.Expanded.{Expanded}
use Rattle.branch_rounds.proofs.TakeLemmas.{IsTaking, CanTake, in_frontier, ready, taking_more, taken_all}
use Rattle.branch_rounds.proofs.state.Search.take_all.Goals as goal

pub loop-expanded-init : goal.loop-expanded-init
loop-expanded-init c = record {
  whole = c.into_iter-expanded-iterator.ensures.into_iter_gives.0;
  count = refl;
  is_tree = refl;
  is_paths = c.new-paths.ensures.items;
  is_best = refl;
  is_splits = omega arith;
  is_frontier = refl;
}

pub node-node-requires : goal.node-node-requires
node-node-requires c =
    let s = c.args.self.now in
    let can : CanTake s c.args.expansions.items =
    record { placed = c.requires.placed; narrow = c.requires.narrow; few = c.requires.few; room = c.requires.room } in
    let l = c.loop-expanded in
    let T : List Expanded → Type 0 =
    λ xs. IsTaking s c.args.expansions.items l.yielded xs l.k l.self.tree l.paths.items l.self.best l.self.splits l.self.frontier in
    in_frontier s c.args.expansions.items l.yielded _ _ l.k l.self.tree l.paths.items l.self.best l.self.splits l.self.frontier can
    (subst T c.in-Some.ensures.steps.0 l.invariant)

pub take-requires : goal.take-requires
take-requires c =
    let s = c.args.self.now in
    let can : CanTake s c.args.expansions.items =
    record { placed = c.requires.placed; narrow = c.requires.narrow; few = c.requires.few; room = c.requires.room } in
    let l = c.loop-expanded in
    let T : List Expanded → Type 0 =
    λ xs. IsTaking s c.args.expansions.items l.yielded xs l.k l.self.tree l.paths.items l.self.best l.self.splits l.self.frontier in
    let r =
    ready s c.args.expansions.items l.yielded _ _ l.k l.self.tree l.paths.items l.self.best l.self.splits l.self.frontier _ can
    (subst T c.in-Some.ensures.steps.0 l.invariant) c.node-node.ensures in
    record { there = r.there; left = r.left; few = r.few; room = r.room; splits = r.unspent }

pub loop-expanded-preserved : goal.loop-expanded-preserved
loop-expanded-preserved c =
    let s = c.args.self.now in
    let can : CanTake s c.args.expansions.items =
    record { placed = c.requires.placed; narrow = c.requires.narrow; few = c.requires.few; room = c.requires.room } in
    let l = c.loop-expanded in
    let T : List Expanded → Type 0 =
    λ xs. IsTaking s c.args.expansions.items l.yielded xs l.k l.self.tree l.paths.items l.self.best l.self.splits l.self.frontier in
    let e = c.in_ok-take.ensures in
    taking_more s c.args.expansions.items l.yielded _ _ l.k (l.k + 1) l.self.tree _ l.paths.items _ l.self.best _ l.self.splits _ l.self.frontier _ _ can
    (subst T c.in-Some.ensures.steps.0 l.invariant) c.node-node.ensures refl e.tree e.paths e.best e.splits e.frontier

pub returns : goal.returns
returns c =
    let s = c.args.self.now in
    let l = c.loop-expanded in
    let none : length l.expanded-iterator.rest.items ≡ 0 = omega (arith, c.in-None.ensures.steps.0) in
    let on : c.replace_first.new.self ≡ l.paths.items ++ drop (length c.args.expansions.items) l.self.frontier = search rules in
    taken_all s c.args.expansions.items l.yielded _ l.k l.self.tree l.paths.items l.self.best l.self.splits l.self.frontier _ l.invariant none on
