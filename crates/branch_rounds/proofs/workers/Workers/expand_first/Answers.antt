use Rattle.std.proofs.Common.{arith, sym, subst, All, List}
use Rattle.std.specs.Prelude.{vec_items}
use Rattle.choice_tree.specs.declared.question.Decision.{Decision}
use Rattle.branch_rounds.specs.Kept.{CanExpand}
use Rattle.branch_rounds.proofs.RoundLemmas.{cap_range}
use Rattle.branch_rounds.proofs.WorkLemmas.{can_expand, answers_if_ok}
use Rattle.branch_rounds.proofs.workers.Workers.expand_first.Goals as goal

pub expand_at_once-requires-clause-can : goal.expand_at_once-requires-clause-can
expand_at_once-requires-clause-can g c lives within =
    let l = c.args.line.now in
    let s = c.args.search.now in
    let cap = c.cap-cap.result in
    let r = cap_range l s.best c.cap-cap.ensures.valid c.requires.kept.best in
    let J : List (List Decision) → Type 0 = λ paths. All (λ path. CanExpand l path cap) paths in
    subst J (sym c.as_slice.ensures.value)
    (can_expand l s cap c.in_ok-paths.paths.items c.cap-cap.ensures.valid c.requires.kept c.requires.short
    (omega (arith, r.0, c.cap-cap.ensures.value), omega (arith, r.2, c.cap-cap.ensures.value)) c.in_ok-paths.ensures.leads)

pub returns-clause-answers : goal.returns-clause-answers
returns-clause-answers g c =
    answers_if_ok vec_items c.args.line.now c.args.search.now c.cap-cap.result c.in_ok-paths.paths.items c.as_slice.result.now c.expand_at_once.result
    c.as_slice.ensures.value c.cap-cap.ensures.value c.in_ok-paths.ensures.leads c.expand_at_once.ensures.answers
