use Rattle.std.proofs.Common.{◌≡◌, ℕ, ◌<◌, ◌+◌, length, List, Some, sym, ◌∙◌, ap, subst, arith}
use Rattle.std.specs.Prelude.{slice_get, Contains}
use Rattle.std.proofs.lemmas.Option.{slice_get_within}
use Rattle.hoist_base.specs.LineData.{stage}
use Rattle.hoist_base.specs.declared.ids.VisitId.{VisitId}
use Rattle.choice_tree.specs.declared.question.Decision.{Decision}
use Rattle.timetable.specs.TimetableData.{timetable_of}
use Rattle.path_constraints.proofs.TankLemmas.{tanks_read}
use Rattle.window_margin.specs.Chosen.{ChoosesBelow}
use Rattle.window_margin.proofs.ChosenLemmas.{tank_chosen, one_tank}
use Rattle.window_margin.proofs.chosen.choose_tank.Goals as goal

pub place_of-child-requires-clause-there : goal.place_of-child-requires-clause-there
place_of-child-requires-clause-there c =
    let l = c.args.line.now in
    let p = timetable_of c.args.t.now in
    let v = c.visit_at-v.result in
    let read = tanks_read l v.stage c.index-stages-v.result c.stages.result.now c.as_slice-tanks.result.now c.stages.ensures.value c.visit_at-v.ensures.there.1
    c.as_slice-tanks.ensures in
    let P : ℕ → Type 0 = λ i. Contains (stage l v.stage).tanks i in
    let Q : List ℕ → Type 0 = λ ts. Contains ts c.tank.result in
    subst Q (sym read) (subst P (sym c.tank.ensures.value) (c.requires.legal.routed v.carrier v.stage c.visit_at-v.ensures.there))

pub place_of-child-requires-clause-few : goal.place_of-child-requires-clause-few
place_of-child-requires-clause-few c =
    let l = c.args.line.now in
    let v = c.visit_at-v.result in
    let read = tanks_read l v.stage c.index-stages-v.result c.stages.result.now c.as_slice-tanks.result.now c.stages.ensures.value c.visit_at-v.ensures.there.1
    c.as_slice-tanks.ensures in
    omega (arith, (c.stages.ensures.valid.stages.count v.stage c.visit_at-v.ensures.there.1).1, ap (λ (ts : List ℕ). length ts) read)

pub returns-in_ok-push : goal.returns-in_ok-push
returns-in_ok-push c =
    let l = c.args.line.now in
    let p = timetable_of c.args.t.now in
    let v = c.visit_at-v.result in
    let read = tanks_read l v.stage c.index-stages-v.result c.stages.result.now c.as_slice-tanks.result.now c.stages.ensures.value c.visit_at-v.ensures.there.1
    c.as_slice-tanks.ensures in
    let child = c.place_of-child.result in
    let get : slice_get (stage l v.stage).tanks child ≡ Some (p.tank v.carrier v.stage) =
    ap (λ (ts : List ℕ). slice_get ts child) (sym read) ∙ c.place_of-child.ensures ∙ ap (λ (i : ℕ). Some i) c.tank.ensures.value in
    let P : List Decision → Type 0 = λ ds. ChoosesBelow l p ds (c.args.number + 1) in
    subst P (sym c.in_ok-push.ensures.items)
    (tank_chosen l p c.args.path.now.items c.args.number child v c.requires.chosen c.visit_at-v.ensures.value c.visit_at-v.ensures.there
    (omega (arith, c.if-tanks-ge2.true, ap (λ (ts : List ℕ). length ts) read))
    (slice_get_within (stage l v.stage).tanks child (p.tank v.carrier v.stage) get) get)

pub returns-else-tanks-ge2 : goal.returns-else-tanks-ge2
returns-else-tanks-ge2 c =
    let l = c.args.line.now in
    let v = c.visit_at-v.result in
    let read = tanks_read l v.stage c.index-stages-v.result c.stages.result.now c.as_slice-tanks.result.now c.stages.ensures.value c.visit_at-v.ensures.there.1
    c.as_slice-tanks.ensures in
    let P : VisitId → Type 0 = λ x. length (stage l x.stage).tanks < 2 in
    one_tank l (timetable_of c.args.t.now) c.args.path.now.items c.args.number c.requires.chosen
    (subst P c.visit_at-v.ensures.value (omega (arith, c.if-tanks-ge2.false, ap (λ (ts : List ℕ). length ts) read)))
