use Rattle.std.proofs.Common.{◌≡◌, length, subst, sym, arith}
use Rattle.line_model.specs.Legal.{IsLegal}
use Rattle.timetable.specs.TimetableData.{timetable_of, IsTimetableOf}
use Rattle.machine_loops.specs.Loops.{Shows}
use Rattle.machine_loops.specs.Reading.{for_ever, PartsTo}
use Rattle.machine_loops.proofs.ReadTimetable.{shows_read, legal_read, fits_read}
use Rattle.machine_loops.proofs.reading.shown_timetable.Goals as goal

pub new-requires : goal.new-requires
new-requires c =
    let l = c.args.line.now in
    let frames = c.args.frames.now in
    let end : c.loop-t.t ≡ length frames = omega arith in
    fits_read l frames c.loop-t.parts c.in_ok-parts.ensures.valid c.requires.closed (subst (λ t. PartsTo l frames t c.loop-t.parts) end c.loop-t.invariant)

pub returns-clause-shows : goal.returns-clause-shows
returns-clause-shows c =
    let l = c.args.line.now in
    let frames = c.args.frames.now in
    let end : c.loop-t.t ≡ length frames = omega arith in
    subst (λ t. Shows l (length frames) (for_ever l frames) (timetable_of t)) (sym c.new.ensures)
    (shows_read l frames c.loop-t.parts c.in_ok-parts.ensures.valid c.requires.closed (subst (λ t. PartsTo l frames t c.loop-t.parts) end c.loop-t.invariant))

pub returns-clause-legal : goal.returns-clause-legal
returns-clause-legal c =
    let l = c.args.line.now in
    let frames = c.args.frames.now in
    let end : c.loop-t.t ≡ length frames = omega arith in
    subst (λ t. IsLegal l (timetable_of t)) (sym c.new.ensures)
    (legal_read l frames c.loop-t.parts c.in_ok-parts.ensures.valid c.requires.closed (subst (λ t. PartsTo l frames t c.loop-t.parts) end c.loop-t.invariant))

pub returns-clause-fits : goal.returns-clause-fits
returns-clause-fits c =
    let l = c.args.line.now in
    let frames = c.args.frames.now in
    let end : c.loop-t.t ≡ length frames = omega arith in
    subst (λ t. IsTimetableOf l t) (sym c.new.ensures)
    (fits_read l frames c.loop-t.parts c.in_ok-parts.ensures.valid c.requires.closed (subst (λ t. PartsTo l frames t c.loop-t.parts) end c.loop-t.invariant))
