use Rattle.std.proofs.Common.{◌+◌, ◌++◌, List, [], ◌∷◌, arith, ap, ◌∙◌, sym}
use Rattle.choice_tree.specs.declared.question.Decision.{Decision}
use Rattle.cert_checker.proofs.TreeLemmas.{IsPushed, pushed_node, way_on, way_within, empty}
use Rattle.cert_checker.proofs.PassLemmas.{AreKept, kept_on, kept_flawed, kept_split_flawed, kept_tried, kept_ends}
use Rattle.cert_checker.proofs.tree.first_flawed.Goals as goal

pub returns-in-Some : goal.returns-in-Some
returns-in-Some g c =
    let l = c.args.line.now in
    let nodes = c.args.tree.now in
    let loop = c.loop-number in
    rw c.or.ensures (kept_split_flawed l nodes c.args.bound loop.number loop.at loop.path.items c.as_slice.result.now loop.waiting.items loop.leaves
    c.node-node.result.now c.first_flaw-earlier.result c.in-Some.reason c.node-node.ensures.valid loop.invariant.0 loop.invariant.1 c.node-node.ensures.value
    c.as_slice.ensures.value c.in-Some.ensures c.first_flaw-earlier.ensures)

pub first_flaw-requires-clause-passed : goal.first_flaw-requires-clause-passed
first_flaw-requires-clause-passed g c κs within =
    let loop = c.loop-number in
    (kept_on c.args.line.now c.args.tree.now c.args.bound loop.number loop.at loop.path.items c.as_slice.result.now c.as_slice-in-loop-number.result.now
    loop.waiting.items loop.leaves c.pass.new.self c.node-node.result.now c.node-node.ensures.valid loop.invariant.0 loop.invariant.1
    c.node-node.ensures.value c.as_slice.ensures.value c.as_slice-in-loop-number.ensures.value c.in_default.ensures c.in_ok-pass.ensures).each

pub returns-in_default-pop : goal.returns-in_default-pop
returns-in_default-pop g c =
    let l = c.args.line.now in
    let nodes = c.args.tree.now in
    let loop = c.loop-number in
    let tree = c.node-node.ensures.valid in
    let stack = c.push_below.new.waiting.items in
    let pushed : IsPushed l nodes loop.number loop.path.items stack =
    pushed_node l nodes c.args.bound loop.number loop.at loop.path.items _ loop.waiting.items stack _ _ tree loop.invariant.0
    c.node-node.ensures.value c.as_slice.ensures.value (c.len.ensures ∙ sym c.as_slice.ensures.len) c.in_default.ensures c.in_ok-push_below.ensures in
    let kept : AreKept l nodes c.args.bound (loop.number + 1) c.pass.new.self =
    kept_on l nodes c.args.bound loop.number loop.at loop.path.items c.as_slice.result.now c.as_slice-in-loop-number.result.now
    loop.waiting.items loop.leaves c.pass.new.self c.node-node.result.now tree loop.invariant.0 loop.invariant.1
    c.node-node.ensures.value c.as_slice.ensures.value c.as_slice-in-loop-number.ensures.value c.in_default.ensures c.in_ok-pass.ensures in
    kept_ends l nodes c.args.bound loop.number loop.path.items stack c.pass.new.self c.first_flaw.result tree pushed
    (empty stack (omega (arith, c.in_default-pop.ensures.cases))) kept c.first_flaw.ensures

pub try_many-requires-clause-passed : goal.try_many-requires-clause-passed
try_many-requires-clause-passed g c κs within =
    let loop = c.loop-number in
    (kept_on c.args.line.now c.args.tree.now c.args.bound loop.number loop.at loop.path.items c.as_slice.result.now c.as_slice-in-loop-number.result.now
    loop.waiting.items loop.leaves c.pass.new.self c.node-node.result.now c.node-node.ensures.valid loop.invariant.0 loop.invariant.1
    c.node-node.ensures.value c.as_slice.ensures.value c.as_slice-in-loop-number.ensures.value c.in_default.ensures c.in_ok-pass.ensures).each

pub returns-in-Some-try_many : goal.returns-in-Some-try_many
returns-in-Some-try_many g c =
    let l = c.args.line.now in
    let nodes = c.args.tree.now in
    let loop = c.loop-number in
    let tree = c.node-node.ensures.valid in
    let kept : AreKept l nodes c.args.bound (loop.number + 1) c.pass.new.self =
    kept_on l nodes c.args.bound loop.number loop.at loop.path.items c.as_slice.result.now c.as_slice-in-loop-number.result.now
    loop.waiting.items loop.leaves c.pass.new.self c.node-node.result.now tree loop.invariant.0 loop.invariant.1
    c.node-node.ensures.value c.as_slice.ensures.value c.as_slice-in-loop-number.ensures.value c.in_default.ensures c.in_ok-pass.ensures in
    kept_flawed l nodes c.args.bound (loop.number + 1) c.pass.new.self c.in-Some-try_many.reason tree kept c.in-Some-try_many.ensures

pub loop-number-preserved : goal.loop-number-preserved
loop-number-preserved g c =
    let l = c.args.line.now in
    let nodes = c.args.tree.now in
    let loop = c.loop-number in
    let tree = c.node-node.ensures.valid in
    let next = c.in-Some-pop.next in
    let stack = c.push_below.new.waiting.items in
    let pushed : IsPushed l nodes loop.number loop.path.items stack =
    pushed_node l nodes c.args.bound loop.number loop.at loop.path.items _ loop.waiting.items stack _ _ tree loop.invariant.0
    c.node-node.ensures.value c.as_slice.ensures.value (c.len.ensures ∙ sym c.as_slice.ensures.len) c.in_default.ensures c.in_ok-push_below.ensures in
    let kept : AreKept l nodes c.args.bound (loop.number + 1) c.pass.new.self =
    kept_on l nodes c.args.bound loop.number loop.at loop.path.items c.as_slice.result.now c.as_slice-in-loop-number.result.now
    loop.waiting.items loop.leaves c.pass.new.self c.node-node.result.now tree loop.invariant.0 loop.invariant.1
    c.node-node.ensures.value c.as_slice.ensures.value c.as_slice-in-loop-number.ensures.value c.in_default.ensures c.in_ok-pass.ensures in (
      way_on l nodes loop.number loop.path.items stack c.pop.new.self.items next c.push.new.self.items pushed c.in-Some-pop.ensures.items
          (c.in_ok-push.ensures.items ∙ ap (λ (ds : List Decision). ds ++ next.decision ∷ []) c.truncate.ensures.items),
      kept_tried l nodes c.args.bound (loop.number + 1) c.pass.new.self _ kept c.in_default-try_many.ensures,
    )

pub returns : goal.returns
returns g c =
    let loop = c.loop-number in
    let within =
    way_within c.args.line.now c.args.tree.now loop.number loop.at loop.path.items loop.waiting.items c.len-number-end.ensures.valid
    loop.invariant.0 in
    absurd (omega (arith, within, c.loop-number-test.false, c.len-number-end.ensures.value))
