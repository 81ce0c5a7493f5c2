use Rattle.std.proofs.Common.{sym, ap, ◌∙◌}
use Rattle.tick_machine.specs.declared.frame.Carry.{Carry}
use Rattle.machine_loops.proofs.StepBack.{some_same}
use Rattle.machine_loops.proofs.MoveLemmas.{carry_step, noted_begin, no_begin}
use Rattle.machine_loops.proofs.reading.note_begin.Goals as goal

pub note_move-requires-clause-there : goal.note_move-requires-clause-there
note_move-requires-clause-there c = (
  c.seen_at-seen.ensures.seen.turn.there,
  carry_step c.args.line.now c.args.frames.now c.args.t c.args.h c.in-Some.y c.seen_at-seen.ensures.valid
      c.requires.closed c.requires.there (sym c.carry_at.ensures ∙ c.in-Some.is),
)

pub returns-then-y-eq0 : goal.returns-then-y-eq0
returns-then-y-eq0 c = record {
  read = noted_begin c.args.line.now c.args.frames.now c.args.t c.args.h c.in-Some.y c.seen_at-seen.result
      c.args.start.now.items c.args.hoist.now.items c.args.tank.now.items c.note_move.new.start.items c.note_move.new.hoist.items c.note_move.new.tank.items
      c.note_move.ensures.valid c.requires.closed c.requires.there
      (sym c.carry_at.ensures ∙ c.in-Some.is) c.if-y-eq0.true c.seen_at-seen.ensures.seen c.requires.read
      c.note_move.ensures.start c.note_move.ensures.hoist c.note_move.ensures.tank;
}

pub returns-else-y-eq0 : goal.returns-else-y-eq0
returns-else-y-eq0 c = record {
  read = no_begin c.args.line.now c.args.frames.now c.args.t c.args.h c.args.start.now.items c.args.hoist.now.items c.args.tank.now.items
      (λ x is new.
      let one = some_same x c.in-Some.y (sym is ∙ sym c.carry_at.ensures ∙ c.in-Some.is) in
      c.if-y-eq0.false (ap (λ (z : Carry). z.elapsed) (sym one) ∙ new))
      c.requires.read;
}

pub returns-in-None : goal.returns-in-None
returns-in-None c = record {
  read = no_begin c.args.line.now c.args.frames.now c.args.t c.args.h c.args.start.now.items c.args.hoist.now.items c.args.tank.now.items
      (λ x is new. let none = sym is ∙ sym c.carry_at.ensures ∙ c.in-None.is in cc)
      c.requires.read;
}
