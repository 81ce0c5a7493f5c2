use Rattle.std.proofs.Common.{ℕ, ◌^◌, ◌≤◌, List, length, sym, subst, ◌∙◌}
use Rattle.read_back.proofs.Lengths.{text_is_short}
use Rattle.hoist_cli.proofs.Drilled.{read_as, never_broken}
use Rattle.hoist_cli.proofs.drilling.written_and_read.Goals as goal

pub read_answer-requires : goal.read_answer-requires
read_answer-requires c =
    let short = text_is_short c.args.line.now c.args.answer.now c.requires.valid c.requires.answer c.requires.few in
    subst (λ (xs : List ℕ). length xs ≤ 2 ^ 30) (sym (c.as_slice.ensures.value ∙ c.in_ok-text.ensures)) short

pub unreachable-requires : goal.unreachable-requires
unreachable-requires c =
    never_broken c.args.line.now c.args.answer.now c.as_slice.result.now c.in_ok-back.field-0 c.in-Broken.offset c.requires.valid c.requires.answer
    (c.as_slice.ensures.value ∙ c.in_ok-text.ensures) c.in_ok-back.ensures.found c.in-Broken.is

pub returns-clause-same : goal.returns-clause-same
returns-clause-same c =
    (read_as c.args.line.now c.args.answer.now c.in-Ready.back c.as_slice.result.now c.in_ok-back.field-0 c.requires.valid c.requires.answer
    (c.as_slice.ensures.value ∙ c.in_ok-text.ensures) c.in_ok-back.ensures.found c.in-Ready.is).1
