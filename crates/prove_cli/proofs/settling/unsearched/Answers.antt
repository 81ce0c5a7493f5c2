use Rattle.std.proofs.Common.{sym, ap}
use Rattle.hoist_cli.specs.Solved.{status_of}
use Rattle.prove_cli.proofs.Unsearched.{is_open, none_below, unsearched_kept}
use Rattle.prove_cli.proofs.settling.unsearched.Goals as goal

pub returns-clause-proved : goal.returns-clause-proved
returns-clause-proved c =
    let l = c.args.line.now in
    let a = c.in_ok-answer.answer in
    let e = c.in_ok-answer.ensures in (
      a,
      unsearched_kept l a c.in_ok-text.text.items e.valid e.solution e.writable e.accepted c.in_ok-text.ensures,
      none_below l a e.solution e.claim,
      sym (ap status_of (is_open l a e.solution)),
    )
