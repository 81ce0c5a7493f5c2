use Rattle.std.proofs.Common.{arith, ap, ◌≡◌, List, ◌-◌, length}
use Rattle.choice_tree.specs.declared.constraint.Constraint.{Constraint}
use Rattle.path_constraints.proofs.DecideLemmas.{order_of}
use Rattle.node_expand.proofs.PathLemmas.{some_names, order_last, back_assign, back_order}
use Rattle.node_expand.proofs.path_system.PathSystem.pop.Goals as goal

pub overflow_sub-known : goal.overflow_sub-known
overflow_sub-known c =
    let at = c.args.self.now in
    let count : c.len-count.result ≡ length at.path.items = omega (arith, c.len-count.ensures) in
    let known : c.len-known.result ≡ length at.names.items = omega (arith, c.len-known.ensures) in
    let order = order_of _ c.in_default.not-Assign c.in_default.not-Choose in
    let some =
    some_names c.args.line.now at.path.items c.requires.some
    (order_last at.path.items (c.len-count.result - 1) _ c.requires.some (omega (arith, count)) c.index.ensures order) in
    omega (arith, some, known, ap (λ (ts : List Constraint). length ts) c.requires.path.here.names)

pub returns-in-Assign-clause-path : goal.returns-in-Assign-clause-path
returns-in-Assign-clause-path c =
    let at = c.args.self.now in
    let count : c.len-count.result ≡ length at.path.items = omega (arith, c.len-count.ensures) in
    back_assign c.args.line.now at (c.len-count.result - 1) _ c.in-Assign.m c.truncate.new.self c.requires.path c.requires.some (omega (arith, count))
    c.truncate.ensures.items c.index.ensures c.in-Assign.is

pub returns-in_default-clause-path : goal.returns-in_default-clause-path
returns-in_default-clause-path c =
    let at = c.args.self.now in
    let count : c.len-count.result ≡ length at.path.items = omega (arith, c.len-count.ensures) in
    let known : c.len-known.result ≡ length at.names.items = omega (arith, c.len-known.ensures) in
    let order = order_of _ c.in_default.not-Assign c.in_default.not-Choose in
    back_order c.args.line.now at (c.len-count.result - 1)
    (c.len-known.result - 1) _ c.truncate-in_default.new.self c.truncate-in_default-3.new.self c.truncate-in_default-2.new.self
    c.requires.path c.requires.some (omega (arith, count)) c.truncate-in_default.ensures.items c.index.ensures order
    (omega (arith, known)) c.truncate-in_default-2.ensures.items c.truncate-in_default-3.ensures
