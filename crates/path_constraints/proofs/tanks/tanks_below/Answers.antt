use Rattle.std.proofs.Common.{rules, ◌<◌, ap, length, List, ℕ, arith}
use Rattle.path_constraints.proofs.TankLemmas.{tanks_read, few_tanks, tanks_there, choice_there, chosen_there}
use Rattle.path_constraints.proofs.tanks.tanks_below.Goals as goal

pub returns-then-tanks-lt2-clause-value : goal.returns-then-tanks-lt2-clause-value
returns-then-tanks-lt2-clause-value c =
    let v = c.args.visit in
    let read = tanks_read c.args.line.now v.stage c.index-stages-visit.result _ _ c.stages.ensures.value c.requires.there.1 c.as_slice-tanks.ensures in
    few_tanks c.args.line.now c.args.path.now v.carrier v.stage _ c.requires.fits read c.if-tanks-lt2.true

pub returns-then-tanks-lt2-clause-tanks : goal.returns-then-tanks-lt2-clause-tanks
returns-then-tanks-lt2-clause-tanks c =
    let v = c.args.visit in
    let read = tanks_read c.args.line.now v.stage c.index-stages-visit.result _ _ c.stages.ensures.value c.requires.there.1 c.as_slice-tanks.ensures in
    tanks_there c.args.line.now v.stage _ c.stages.ensures.valid read

pub slice_bounds-result-end : goal.slice_bounds-result-end
slice_bounds-result-end c =
    let v = c.args.visit in
    let read = tanks_read c.args.line.now v.stage c.index-stages-visit.result _ _ c.stages.ensures.value c.requires.there.1 c.as_slice-tanks.ensures in
    let lt = choice_there c.args.line.now c.args.path.now v.carrier v.stage c.in-Some.number c.requires.fits (search rules) in
    let there : c.in-Some.number < length c.as_slice-tanks.result.now = omega (arith, lt, ap (λ (ts : List ℕ). length ts) read) in
    search rules

pub returns-in-None-clause-tanks : goal.returns-in-None-clause-tanks
returns-in-None-clause-tanks c =
    let v = c.args.visit in
    let read = tanks_read c.args.line.now v.stage c.index-stages-visit.result _ _ c.stages.ensures.value c.requires.there.1 c.as_slice-tanks.ensures in
    tanks_there c.args.line.now v.stage _ c.stages.ensures.valid read

pub returns-in-Some-clause-tanks : goal.returns-in-Some-clause-tanks
returns-in-Some-clause-tanks c =
    let v = c.args.visit in
    let read = tanks_read c.args.line.now v.stage c.index-stages-visit.result _ _ c.stages.ensures.value c.requires.there.1 c.as_slice-tanks.ensures in
    let lt = choice_there c.args.line.now c.args.path.now v.carrier v.stage c.in-Some.number c.requires.fits (search rules) in
    let there : c.in-Some.number < length c.as_slice-tanks.result.now = omega (arith, lt, ap (λ (ts : List ℕ). length ts) read) in
    chosen_there c.args.line.now v.stage c.in-Some.number _ _ c.stages.ensures.valid read there (omega arith)
