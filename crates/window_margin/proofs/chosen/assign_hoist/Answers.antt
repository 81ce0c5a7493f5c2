use Rattle.std.proofs.Common.{◌≡◌, ℕ, ◌<◌, ◌+◌, length, List, Some, sym, ◌∙◌, ap, subst, arith}
use Rattle.std.specs.Prelude.{slice_get, Contains}
use Rattle.std.proofs.lemmas.Option.{slice_get_within}
use Rattle.hoist_base.specs.declared.ids.MoveId.{MoveId}
use Rattle.line_model.specs.declared.motion.Motion.{Motion}
use Rattle.line_model.specs.Timetable.{motion}
use Rattle.choice_tree.specs.declared.question.Decision.{Decision}
use Rattle.timetable.specs.TimetableData.{timetable_of}
use Rattle.path_constraints.specs.Hoists.{hoists_reaching}
use Rattle.path_constraints.proofs.CoverRideLemmas.{hoist_open}
use Rattle.window_margin.specs.Chosen.{AssignsBelow}
use Rattle.window_margin.proofs.ChosenLemmas.{hoist_assigned, one_hoist}
use Rattle.window_margin.proofs.chosen.assign_hoist.Goals as goal

pub number_of-child-requires-clause-there : goal.number_of-child-requires-clause-there
number_of-child-requires-clause-there c =
    let l = c.args.line.now in
    let p = timetable_of c.args.t.now in
    let m = c.move_at-m.result in
    let P : ℕ → Type 0 = λ h. Contains (hoists_reaching l (motion l p m.carrier m.step)) h in
    let Q : Motion → Type 0 = λ a. Contains (hoists_reaching l a) c.hoist.result in
    subst Q (sym c.motion-motion.ensures.value)
    (subst P (sym c.hoist.ensures.value) (hoist_open l p m.carrier m.step c.requires.legal c.move_at-m.ensures.there))

pub returns-in_ok-push : goal.returns-in_ok-push
returns-in_ok-push c =
    let l = c.args.line.now in
    let p = timetable_of c.args.t.now in
    let m = c.move_at-m.result in
    let child = c.number_of-child.result in
    let hs : hoists_reaching l c.motion-motion.result ≡ hoists_reaching l (motion l p m.carrier m.step) =
    ap (λ (a : Motion). hoists_reaching l a) c.motion-motion.ensures.value in
    let get : slice_get (hoists_reaching l (motion l p m.carrier m.step)) child ≡ Some (p.hoist m.carrier m.step) =
    ap (λ (xs : List ℕ). slice_get xs child) (sym hs) ∙ c.number_of-child.ensures ∙ ap (λ (i : ℕ). Some i) c.hoist.ensures.value in
    let P : List Decision → Type 0 = λ ds. AssignsBelow l p ds (c.args.number + 1) in
    subst P (sym c.in_ok-push.ensures.items)
    (hoist_assigned l p c.args.path.now.items c.args.number child m c.requires.assigned c.move_at-m.ensures.value c.move_at-m.ensures.there
    (omega (arith, c.if-reaching_count-ge2.true, c.reaching_count.ensures.count, ap (λ (xs : List ℕ). length xs) hs))
    (slice_get_within (hoists_reaching l (motion l p m.carrier m.step)) child (p.hoist m.carrier m.step) get) get)

pub returns-else-reaching_count-ge2 : goal.returns-else-reaching_count-ge2
returns-else-reaching_count-ge2 c =
    let l = c.args.line.now in
    let p = timetable_of c.args.t.now in
    let m = c.move_at-m.result in
    let hs : hoists_reaching l c.motion-motion.result ≡ hoists_reaching l (motion l p m.carrier m.step) =
    ap (λ (a : Motion). hoists_reaching l a) c.motion-motion.ensures.value in
    let P : MoveId → Type 0 = λ x. length (hoists_reaching l (motion l p x.carrier x.step)) < 2 in
    one_hoist l p c.args.path.now.items c.args.number c.requires.assigned
    (subst P c.move_at-m.ensures.value
    (omega (arith, c.if-reaching_count-ge2.false, c.reaching_count.ensures.count, ap (λ (xs : List ℕ). length xs) hs)))
