use Rattle.std.proofs.Common.{arith, ap, sym, ◌∙◌, ◌≡◌, List, ℕ, length, take, subst}
use Rattle.std.proofs.lemmas.List.{take_all}
use Rattle.choice_tree.specs.declared.question.Decision.{Decision}
use Rattle.node_expand.specs.PathSystems.{IsAt}
use Rattle.node_expand.proofs.PathLemmas.{part_at, prefix_there}
use Rattle.node_expand.proofs.path_system.PathSystem.go_to.Goals as goal

pub loop-i-init : goal.loop-i-init
loop-i-init c =
    let l = c.args.line.now in
    let path = c.args.path.now in
    let old = c.args.self.now.path.items in
    let new = c.go_back.new.self.path.items in
    let shared : take c.shared-count.result old ≡ take c.shared-count.result path =
    ap (take c.shared-count.result) (sym c.as_slice.ensures.value) ∙ c.shared-count.ensures.same in
    let is : new ≡ take (length new) path = prefix_there new old path c.shared-count.result c.go_back.ensures.prefix c.go_back.ensures.within shared in
    let n : length new ≡ c.len-i.result = omega (arith, c.len-i.ensures) in
    let at : new ≡ take c.len-i.result path = is ∙ ap (λ (n : ℕ). take n path) n in
    let P : List Decision → Type 0 = λ ds. IsAt l ds c.go_back.new.self in
    (subst P at c.go_back.ensures.path.here, omega (arith, n, c.go_back.ensures.within, c.shared-count.ensures.within))

pub returns-in_err-push-clause-kept : goal.returns-in_err-push-clause-kept
returns-in_err-push-clause-kept c =
    part_at c.args.line.now c.args.path.now c.loop-i.i _ c.requires.system.valid c.requires.fits c.requires.short c.in_err-push.ensures.err

pub returns-clause-kept : goal.returns-clause-kept
returns-clause-kept c =
    part_at c.args.line.now c.args.path.now c.loop-i.i _ c.requires.system.valid c.requires.fits c.requires.short c.loop-i.invariant.0

pub returns-clause-there : goal.returns-clause-there
returns-clause-there c =
    let path = c.args.path.now in
    let P : List Decision → Type 0 = λ ds. IsAt c.args.line.now ds c.loop-i.self in
    subst P (take_all c.loop-i.i path (omega (arith, c.loop-i-test.false))) c.loop-i.invariant.0
