use Rattle.std.proofs.Common.{◌≡◌, arith, Some, None}
use Rattle.std.proofs.lemmas.Int.{ints}
use mir.Val.{to_z, of_z}
use mir.Syntax.{w64}
use Rattle.path_constraints.specs.Ticks.{tick_at}
use Rattle.period_constraints.proofs.AskLemmas.{first_choice, first_tank_order, first_hoist_order, first_assign, no_question}
use Rattle.period_constraints.proofs.RoutedLemmas.{all_near, have_tanks, routed, settled, visits_asked, tanks_asked, hoists_asked, moves_asked}
use Rattle.period_constraints.proofs.asking.ask.Goals as goal

pub returns-in-Some : goal.returns-in-Some
returns-in-Some c =
    let l = c.args.line.now in
    let path = c.args.path.now in
    record {
      first =
          first_choice l path (tick_at c.args.ticks.now) c.args.period c.in-Some.number c.visit_at.result c.visit_at.ensures.value
          (visits_asked l path c.mark.new.choices (Some c.in-Some.number) c.move_count-moves.ensures.valid c.mark.ensures.choices c.in-Some.ensures);
    }

pub write_tanks-requires-clause-choices : goal.write_tanks-requires-clause-choices
write_tanks-requires-clause-choices c = have_tanks c.args.line.now c.args.path.now c.mark.new.choices c.move_count-moves.ensures.valid c.requires.fits
    c.mark.ensures.choices

pub first_tank_pair-requires-clause-tanks : goal.first_tank_pair-requires-clause-tanks
first_tank_pair-requires-clause-tanks c =
    let l = c.args.line.now in
    let line = c.move_count-moves.ensures.valid in
    routed l c.mark.new.choices c.write_tanks.new.tanks line (have_tanks l c.args.path.now c.mark.new.choices line c.requires.fits c.mark.ensures.choices)
    c.write_tanks.ensures

pub first_tank_pair-requires-clause-near : goal.first_tank_pair-requires-clause-near
first_tank_pair-requires-clause-near c =
    all_near c.args.line.now c.args.path.now (tick_at c.args.ticks.now) c.args.period c.move_count-moves.ensures.valid c.requires.solves c.requires.period.1

pub returns-in-Some-first_tank_pair : goal.returns-in-Some-first_tank_pair
returns-in-Some-first_tank_pair c =
    let l = c.args.line.now in
    let path = c.args.path.now in
    let s = tick_at c.args.ticks.now in
    let t = c.args.period in
    let line = c.move_count-moves.ensures.valid in
    let choices = c.mark.new.choices in
    let tanks = c.write_tanks.new.tanks in
    let x = c.in-Some-first_tank_pair in
    let q : to_z w64 (of_z w64 x.pair.shift) ≡ x.pair.shift = omega (arith, ints, x.ensures.small) in
    let known = settled l path choices tanks line c.mark.ensures.choices c.write_tanks.ensures c.in_default.ensures in
    record {
      first =
          first_tank_order l path s t x.pair c.visit_at-in-Some-first_tank_pair.result c.visit_at-in-Some-first_tank_pair-2.result
          (to_z w64 (of_z w64 x.pair.shift))
          c.visit_at-in-Some-first_tank_pair.ensures.value c.visit_at-in-Some-first_tank_pair-2.ensures.value q x.ensures.small
          (visits_asked l path choices None line c.mark.ensures.choices c.in_default.ensures)
          (tanks_asked l path tanks s t (Some x.pair) line known x.ensures.first);
    }

pub first_hoist_pair-requires-clause-tanks : goal.first_hoist_pair-requires-clause-tanks
first_hoist_pair-requires-clause-tanks c =
    let l = c.args.line.now in
    let line = c.move_count-moves.ensures.valid in
    routed l c.mark.new.choices c.write_tanks.new.tanks line (have_tanks l c.args.path.now c.mark.new.choices line c.requires.fits c.mark.ensures.choices)
    c.write_tanks.ensures

pub first_hoist_pair-requires-clause-near : goal.first_hoist_pair-requires-clause-near
first_hoist_pair-requires-clause-near c =
    all_near c.args.line.now c.args.path.now (tick_at c.args.ticks.now) c.args.period c.move_count-moves.ensures.valid c.requires.solves c.requires.period.1

pub returns-in-Some-first_hoist_pair : goal.returns-in-Some-first_hoist_pair
returns-in-Some-first_hoist_pair c =
    let l = c.args.line.now in
    let path = c.args.path.now in
    let s = tick_at c.args.ticks.now in
    let t = c.args.period in
    let line = c.move_count-moves.ensures.valid in
    let choices = c.mark.new.choices in
    let tanks = c.write_tanks.new.tanks in
    let x = c.in-Some-first_hoist_pair in
    let q : to_z w64 (of_z w64 x.pair.shift) ≡ x.pair.shift = omega (arith, ints, x.ensures.small) in
    let known = settled l path choices tanks line c.mark.ensures.choices c.write_tanks.ensures c.in_default.ensures in
    record {
      first =
          first_hoist_order l path s t x.pair c.move_at.result c.move_at-in-Some-first_hoist_pair.result (to_z w64 (of_z w64 x.pair.shift))
          c.move_at.ensures.value c.move_at-in-Some-first_hoist_pair.ensures.value q x.ensures.small
          (visits_asked l path choices None line c.mark.ensures.choices c.in_default.ensures)
          (tanks_asked l path tanks s t None line known c.in_default-first_tank_pair.ensures.first)
          (hoists_asked l path tanks c.mark.new.assigned s t (Some x.pair) line known c.mark.ensures.assigned x.ensures.first);
    }

pub first_unassigned-requires-clause-tanks : goal.first_unassigned-requires-clause-tanks
first_unassigned-requires-clause-tanks c =
    let l = c.args.line.now in
    let line = c.move_count-moves.ensures.valid in
    routed l c.mark.new.choices c.write_tanks.new.tanks line (have_tanks l c.args.path.now c.mark.new.choices line c.requires.fits c.mark.ensures.choices)
    c.write_tanks.ensures

pub returns-in-Some-first_unassigned : goal.returns-in-Some-first_unassigned
returns-in-Some-first_unassigned c =
    let l = c.args.line.now in
    let path = c.args.path.now in
    let s = tick_at c.args.ticks.now in
    let t = c.args.period in
    let line = c.move_count-moves.ensures.valid in
    let choices = c.mark.new.choices in
    let tanks = c.write_tanks.new.tanks in
    let x = c.in-Some-first_unassigned in
    let known = settled l path choices tanks line c.mark.ensures.choices c.write_tanks.ensures c.in_default.ensures in
    record {
      first =
          first_assign l path s t x.number c.move_at-in-Some-first_unassigned.result c.move_at-in-Some-first_unassigned.ensures.value
          (visits_asked l path choices None line c.mark.ensures.choices c.in_default.ensures)
          (tanks_asked l path tanks s t None line known c.in_default-first_tank_pair.ensures.first)
          (hoists_asked l path tanks c.mark.new.assigned s t None line known c.mark.ensures.assigned c.in_default-first_hoist_pair.ensures.first)
          (moves_asked l path tanks c.mark.new.assigned (Some x.number) line known c.mark.ensures.assigned x.ensures);
    }

pub returns : goal.returns
returns c =
    let l = c.args.line.now in
    let path = c.args.path.now in
    let s = tick_at c.args.ticks.now in
    let t = c.args.period in
    let line = c.move_count-moves.ensures.valid in
    let choices = c.mark.new.choices in
    let tanks = c.write_tanks.new.tanks in
    let known = settled l path choices tanks line c.mark.ensures.choices c.write_tanks.ensures c.in_default.ensures in
    record {
      first =
          no_question l path s t
          (visits_asked l path choices None line c.mark.ensures.choices c.in_default.ensures)
          (tanks_asked l path tanks s t None line known c.in_default-first_tank_pair.ensures.first)
          (hoists_asked l path tanks c.mark.new.assigned s t None line known c.mark.ensures.assigned c.in_default-first_hoist_pair.ensures.first)
          (moves_asked l path tanks c.mark.new.assigned None line known c.mark.ensures.assigned c.in_default-first_unassigned.ensures);
    }
