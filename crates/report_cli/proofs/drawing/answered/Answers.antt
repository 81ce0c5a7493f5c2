use Rattle.std.proofs.Common.{rules, ◌≡◌, Some, inl, refl}
use Rattle.line_model.specs.Legal.{NoneBelow}
use Rattle.cert_checker.specs.Rules.{KeepsRules}
use Rattle.report_cli.proofs.drawing.answered.Goals as goal

pub returns : goal.returns
returns g c =
    let l = c.args.line.now in
    let a = c.args.answer.now in
    let kept : KeepsRules l a = search (rules, c.in_ok-checked.ensures.kept) in
    let none : NoneBelow l a.bound = search (rules, c.in_ok-checked.ensures.bounds) in
    let has : a.timetable ≡ Some c.in-Some.t = search rules in
    inl (
      refl,
      record {
        accepted = record { kept = kept; none_below = none };
        timetable = c.in-Some.t;
        has = has;
        shown = c.in_ok-text-in-Some.ensures;
      },
    )
