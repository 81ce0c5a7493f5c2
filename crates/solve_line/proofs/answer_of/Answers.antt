use Rattle.solve_line.proofs.SolvedLemmas.{is_solved}
use Rattle.solve_line.proofs.answer_of.Goals as goal

pub returns : goal.returns
returns c = λ budget small searched.
    let t = c.in_ok-timetable.ensures in
    is_solved c.args.line.now budget c.args.outcome c.in_ok-timetable.timetable c.verdict_on-verdict.result c.verdict_on-verdict.ensures small searched
    t.plan t.legal t.fits
