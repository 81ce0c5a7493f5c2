use Rattle.std.proofs.Common.{ℕ, subst, ◌∙◌, sym, ◌-◌, ◌*◌, ◌<◌, take, drop, length, arith}
use Rattle.std.proofs.lemmas.Int.{ints}
use Rattle.longest_path.specs.Rounds.{number, cell}
use Rattle.longest_path.specs.Near.{IsMade}
use Rattle.longest_path.proofs.RowLemmas.{next_rows}
use Rattle.longest_path.proofs.NearLemmas.{made_same, made_keeps}
use Rattle.longest_path.proofs.rounds.next_row.Goals as goal

pub returns-clause-made : goal.returns-clause-made
returns-clause-made c i p =
    let s = c.args.s.now in
    let n = c.nodes-n.result in
    let done = c.split_at_mut-done.result.0.now in
    let at = next_rows s n c.args.m c.args.rows.now done c.split_at_mut-done.result.1.now c.relax.new.new
    c.nodes-n.ensures.value c.requires.m c.requires.table c.split_at_mut-done.ensures.value
    c.split_at_mut-done.ensures.front_len c.split_at_mut-done.ensures.back_len c.relax.auto.new in
    made_same s.nodes c.args.near.now c.args.steps.now c.args.count
    (number (take (length done - c.args.m * n) (drop (c.args.m * n) done)))
    (cell s.nodes c.args.rows.now c.args.m) i (number c.relax.new.new i) _ c.requires.steps.1
    (λ j j_in. (at.2 j j_in).1) p (at.2 i p).0 (subst (λ (k : ℕ). IsMade k c.args.near.now c.args.steps.now
    c.args.count (number (take (length done - c.args.m * n) (drop (c.args.m * n) done))) i
    (number c.relax.new.new i)) at.0 (c.relax.ensures.row i (omega (arith, p, at.0))))

pub returns-clause-still : goal.returns-clause-still
returns-clause-still c same i p =
    let at = next_rows c.args.s.now c.nodes-n.result c.args.m c.args.rows.now c.split_at_mut-done.result.0.now
    c.split_at_mut-done.result.1.now c.relax.new.new c.nodes-n.ensures.value c.requires.m c.requires.table
    c.split_at_mut-done.ensures.value c.split_at_mut-done.ensures.front_len c.split_at_mut-done.ensures.back_len
    c.relax.auto.new in
    let (new, old, read) = at.2 i p in
    new ∙ sym read ∙ c.has_changed.ensures.still same i (omega (arith, p, at.0)) ∙ old

pub returns-clause-grown : goal.returns-clause-grown
returns-clause-grown c differs =
    let s = c.args.s.now in
    let at = next_rows s c.nodes-n.result c.args.m c.args.rows.now c.split_at_mut-done.result.0.now
    c.split_at_mut-done.result.1.now c.relax.new.new c.nodes-n.ensures.value c.requires.m c.requires.table
    c.split_at_mut-done.ensures.value c.split_at_mut-done.ensures.front_len c.split_at_mut-done.ensures.back_len
    c.relax.auto.new in
    let (i, lt, other) = c.has_changed.ensures.changed differs in
    let p : i < s.nodes = omega (arith, lt, at.0) in
    let (new, old, read) = at.2 i p in
    let kept = made_keeps _ c.args.near.now c.args.steps.now c.args.count _ i _ (c.requires.stays i p) (c.relax.ensures.row i lt) in
    (i, p, omega (arith, ints, new, old, read, other, kept))
