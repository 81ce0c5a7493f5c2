use Rattle.std.proofs.Common.{map, sym, ap, ◌∙◌, refl, length, arith}
use Rattle.std.specs.Prelude.{string_bytes}
use Rattle.std.proofs.lemmas.List.{take_all}
use Rattle.file_list.specs.declared.read.ListRead.TheVariants.{Ready, Broken}
use Rattle.file_list.proofs.Lists.{stuck_breaks, end_breaks, whole_list, only_one}
use Rattle.file_list.proofs.read.read_list.Goals as goal

pub returns-then-not-branch-clause-found : goal.returns-then-not-branch-clause-found
returns-then-not-branch-clause-found c =
    stuck_breaks c.args.bytes.now c.loop-i.i (map string_bytes c.loop-i.front.names.items) c.loop-i.front.name.items c.loop-i-test.true
    c.loop-i.invariant.1 c.loop-i.invariant.0 (c.in_ok-take.ensures.stuck c.if-not-branch.true)

pub returns-then-not-branch-clause-only : goal.returns-then-not-branch-clause-only
returns-then-not-branch-clause-only c = λ names list is.
    only_one c.args.bytes.now (Broken c.loop-i.i) names (returns-then-not-branch-clause-found c) list is

pub returns-in-Some-clause-only : goal.returns-in-Some-clause-only
returns-in-Some-clause-only c = λ names list is.
    let l = c.in-Some.ensures.list in
    only_one c.args.bytes.now (Ready c.in-Some.list) names
    (rw l.0 (whole_list c.args.bytes.now (map string_bytes c.loop-i.front.names.items) c.loop-i.front.name.items
    (sym (take_all c.loop-i.i c.args.bytes.now c.loop-i-test.false) ∙ c.loop-i.invariant.1) c.loop-i.invariant.0 (omega (arith, l.1, ap length l.0)) l.2))
    list is

pub returns-in-None-clause-found : goal.returns-in-None-clause-found
returns-in-None-clause-found c =
    end_breaks c.args.bytes.now (map string_bytes c.loop-i.front.names.items) c.loop-i.front.name.items
    (sym (take_all c.loop-i.i c.args.bytes.now c.loop-i-test.false) ∙ c.loop-i.invariant.1) c.loop-i.invariant.0 (c.in-None.ensures.none refl)

pub returns-in-None-clause-only : goal.returns-in-None-clause-only
returns-in-None-clause-only c = λ names list is.
    only_one c.args.bytes.now (Broken (length c.args.bytes.now)) names (returns-in-None-clause-found c) list is
