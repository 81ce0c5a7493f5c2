use Rattle.std.proofs.Common.{◌≡◌, refl, subst, ◌∙◌}
use Rattle.hoist_base.specs.LineData.{LineData}
use Rattle.answer_text.specs.declared.answer.Answer.{Answer}
use Rattle.answer_read.specs.Answers.{IsAnswer}
use Rattle.cert_checker.specs.Rules.{KeepsRules}
use Rattle.cert_checker.proofs.RuleLemmas.{no_reason}
use Rattle.solve_line.specs.AnswerOf.{IsSolution}
use Rattle.read_back.proofs.Back.{rules_are_kept}
use Rattle.hoist_cli.specs.declared.status.Status.{Status}
use Rattle.hoist_cli.specs.declared.status.Status.TheVariants.{Done}
use Rattle.hoist_cli.specs.Drill.{drill_budget, drill_text}
use Rattle.hoist_cli.proofs.Drilled.{same_told}
use Rattle.hoist_cli.proofs.drilling.drill.Goals as goal

pub accept-requires-clause-right : goal.accept-requires-clause-right
accept-requires-clause-right g c κs within r has =
    let l = c.in_ok-line.line in
    let solved = c.in_ok-solved.solved in
    let back = c.in_ok-answer.answer in
    let answer : IsAnswer l solved = record { tree = c.in_ok-solved.ensures.tree; writable = c.in_ok-solved.ensures.writable } in
    let read = c.in_ok-answer.ensures in
    let keeps = rules_are_kept l solved back answer read.answer read.same c.in_ok-solved.ensures.accepted in
    no_reason l back r c.in_ok-line.ensures.valid read.answer.tree keeps has

pub returns : goal.returns
returns g c =
    let done : Status = Done in
    let right : LineData → Type 0 =
    λ l.
    (a : Answer) × IsSolution l drill_budget a × KeepsRules l a × (done ≡ Done)
    × (c.in_ok-text.text.items ≡ drill_text c.args.seed l a) in
    let told = same_told c.args.seed c.in_ok-line.line c.in_ok-solved.solved c.in_ok-answer.answer c.in_ok-answer.ensures.same in
    subst right c.in_ok-line.ensures.made
    (c.in_ok-solved.solved, c.in_ok-solved.ensures.solution, c.in_ok-solved.ensures.accepted, refl, c.in_ok-text.ensures ∙ told)
