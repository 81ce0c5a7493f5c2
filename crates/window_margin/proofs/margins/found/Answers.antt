use Rattle.std.proofs.Common.{◌≡◌, ℕ, List, length, get_or, sym, ◌∙◌, ap, subst, arith}
use Rattle.std.proofs.lemmas.List.{length-map}
use Rattle.longest_path.specs.declared.systems.Arc.{Arc}
use Rattle.choice_tree.specs.declared.question.Decision.{Decision}
use Rattle.timetable.specs.TimetableData.{timetable_of}
use Rattle.node_expand.specs.declared.solved.Solved.{Solved}
use Rattle.window_margin.specs.Arcs.{from_one, margin_arcs, margin_system}
use Rattle.window_margin.specs.Limits.{AreBounded}
use Rattle.window_margin.specs.Found.{named_walk}
use Rattle.window_margin.proofs.TheoremLemmas.{AreParts, are_margin_arcs, are_bounded, margins_reached, walk_there, limit_on, solved_by, plannable, is_found}
use Rattle.window_margin.proofs.margins.found.Goals as goal

pub limit_of-requires-clause-arcs : goal.limit_of-requires-clause-arcs
limit_of-requires-clause-arcs c =
    let l = c.args.line.now in
    let p = timetable_of c.args.t.now in
    let path = c.in_ok-path.path.items in
    are_margin_arcs l path p c.as_slice-2.result.now c.requires.valid c.requires.legal c.in_ok-path.ensures.chosen c.period-period.ensures.valid.period.1
    (c.as_slice-2.ensures.value ∙ c.in_ok-arcs.ensures ∙ ap (λ (ds : List Decision). margin_arcs l p ds) c.as_slice.ensures.value)

pub limit_of-requires-clause-bounded : goal.limit_of-requires-clause-bounded
limit_of-requires-clause-bounded c =
    let l = c.args.line.now in
    let p = timetable_of c.args.t.now in
    let path = c.in_ok-path.path.items in
    let P : ℕ → Type 0 = λ n. AreBounded l n c.as_slice-2.result.now in
    subst P (sym c.period-period.ensures.value)
    (are_bounded l path p c.as_slice-2.result.now c.requires.valid c.requires.legal c.in_ok-path.ensures.chosen c.requires.some
    (c.as_slice-2.ensures.value ∙ c.in_ok-arcs.ensures ∙ ap (λ (ds : List Decision). margin_arcs l p ds) c.as_slice.ensures.value))

pub limit_of-requires-clause-reached : goal.limit_of-requires-clause-reached
limit_of-requires-clause-reached c =
    let l = c.args.line.now in
    let p = timetable_of c.args.t.now in
    margins_reached l c.in_ok-path.path.items p c.as_slice-2.result.now c.requires.valid c.in_ok-path.ensures.chosen
    (c.as_slice-2.ensures.value ∙ c.in_ok-arcs.ensures ∙ ap (λ (ds : List Decision). margin_arcs l p ds) c.as_slice.ensures.value)

pub walk_of-requires-clause-arcs : goal.walk_of-requires-clause-arcs
walk_of-requires-clause-arcs c =
    let l = c.args.line.now in
    let p = timetable_of c.args.t.now in
    are_margin_arcs l c.in_ok-path.path.items p c.as_slice-3.result.now c.requires.valid c.requires.legal c.in_ok-path.ensures.chosen
    c.period-period.ensures.valid.period.1
    (c.as_slice-3.ensures.value ∙ c.in_ok-arcs.ensures ∙ ap (λ (ds : List Decision). margin_arcs l p ds) c.as_slice.ensures.value)

pub walk_of-requires-clause-walk : goal.walk_of-requires-clause-walk
walk_of-requires-clause-walk c i lt =
    let l = c.args.line.now in
    let arcs = c.as_slice-2.result.now in
    let ks = c.in_ok-limit.limit.walk.arcs in
    let closed = c.in_ok-limit.ensures.closed in
    let same = ap (λ (xs : List ℕ). length xs) c.arcs.ensures in
    let there = walk_there (margin_system l arcs) closed.node ks closed.node closed.leads i (omega (arith, lt, same)) in
    let read : get_or c.arcs.result.now i 0 ≡ get_or ks i 0 = ap (λ (xs : List ℕ). get_or xs i 0) c.arcs.ensures in
    let long : length c.as_slice-3.result.now ≡ length arcs =
    ap (λ (xs : List Arc). length xs) (c.as_slice-3.ensures.value ∙ sym c.as_slice-2.ensures.value) in
    omega (arith, there, read, long, length-map arcs from_one)

pub plan-requires : goal.plan-requires
plan-requires c =
    let l = c.args.line.now in
    let d = c.args.t.now in
    let p = timetable_of d in
    let path = c.in_ok-path.path.items in
    let limit = c.in_ok-limit.limit in
    let is = c.as_slice-2.ensures.value ∙ c.in_ok-arcs.ensures ∙ ap (λ (ds : List Decision). margin_arcs l p ds) c.as_slice.ensures.value in
    let h = limit_on l path p c.period-period.result c.as_slice-2.result.now limit c.period-period.ensures.value is c.in_ok-limit.ensures in
    let s : Solved = record { period = c.period-period.result; ticks = c.from_vec.result; hoists = c.in_ok-hoists.hoists; tanks = c.in_ok-tanks.tanks } in
    let parts : AreParts l d limit s = record {
      period = c.period-period.ensures.value;
      tanks = c.in_ok-tanks.ensures;
      hoists = c.in_ok-hoists.ensures;
      ticks = c.from_vec.ensures;
    } in
    plannable l d path limit.ticks s c.requires.valid c.requires.fits c.period-period.ensures.valid.period c.requires.legal c.in_ok-path.ensures.chosen
    (solved_by l d path limit s h parts)

pub returns : goal.returns
returns c =
    let l = c.args.line.now in
    let d = c.args.t.now in
    let p = timetable_of d in
    let path = c.in_ok-path.path.items in
    let limit = c.in_ok-limit.limit in
    let is = c.as_slice-2.ensures.value ∙ c.in_ok-arcs.ensures ∙ ap (λ (ds : List Decision). margin_arcs l p ds) c.as_slice.ensures.value in
    let is' = c.as_slice-3.ensures.value ∙ c.in_ok-arcs.ensures ∙ ap (λ (ds : List Decision). margin_arcs l p ds) c.as_slice.ensures.value in
    let h = limit_on l path p c.period-period.result c.as_slice-2.result.now limit c.period-period.ensures.value is c.in_ok-limit.ensures in
    let s : Solved = record { period = c.period-period.result; ticks = c.from_vec.result; hoists = c.in_ok-hoists.hoists; tanks = c.in_ok-tanks.tanks } in
    let parts : AreParts l d limit s = record {
      period = c.period-period.ensures.value;
      tanks = c.in_ok-tanks.ensures;
      hoists = c.in_ok-hoists.ensures;
      ticks = c.from_vec.ensures;
    } in
    let names = c.in_ok-walk.ensures ∙ ap (λ (xs : List Arc). named_walk l xs c.arcs.result.now) is'
    ∙ ap (λ (ks : List ℕ). named_walk l (margin_arcs l p path) ks) c.arcs.ensures in (
      c.requires.some,
      is_found l d c.in_ok-_sibling._sibling path limit s c.in_ok-walk.walk c.requires.valid c.requires.fits c.period-period.ensures.valid.period
          c.in_ok-_sibling.ensures.fits.fits c.requires.legal c.in_ok-_sibling.ensures.legal c.in_ok-path.ensures.chosen
          h parts c.in_ok-_sibling.ensures.plan names,
    )
