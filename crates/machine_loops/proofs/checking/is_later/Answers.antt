use Rattle.std.proofs.Common.{rules}
use Rattle.machine_loops.proofs.CheckLemmas.{later_from, later_to}
use Rattle.machine_loops.proofs.checking.is_later.Goals as goal

pub returns-then-not-are_same_places : goal.returns-then-not-are_same_places
returns-then-not-are_same_places c = (
  λ test. absurd (search rules),
  λ same. c.if-not-are_same_places.ensures.1 (later_to c.args.line.now c.args.later c.args.new.now c.args.old.now c.requires.new c.requires.old same).at,
)

pub returns-then-not-are_later_carries : goal.returns-then-not-are_later_carries
returns-then-not-are_later_carries c = (
  λ test. absurd (search rules),
  λ same. c.if-not-are_later_carries.ensures.1 (later_to c.args.line.now c.args.later c.args.new.now c.args.old.now c.requires.new c.requires.old same).carry,
)

pub returns : goal.returns
returns c = (
  λ test. later_from c.args.line.now c.args.later c.args.new.now c.args.old.now c.requires.new c.requires.old (record {
    next = search rules;
    at = search rules;
    carry = c.are_later_carries.ensures.0 (search rules);
    hold = c.are_later_holds.ensures.0 test;
  }),
  λ same. c.are_later_holds.ensures.1 (later_to c.args.line.now c.args.later c.args.new.now c.args.old.now c.requires.new c.requires.old same).hold,
)
