-- The last of the rows.
use Rattle.std.proofs.Common.{◌≡◌, ◌≤◌, ℕ, ◌+◌, ◌-◌, ◌*◌, List, length, ap, arith}
use Rattle.std.proofs.lemmas.List.{take_rest, length-drop}
use Rattle.path_envelope.proofs.tracing.row_below.Goals as goal

pub returns-else-h-eq0 : goal.returns-else-h-eq0
returns-else-h-eq0 c =
    let k : ℕ = (c.args.h - 1) * c.args.period in
    let e = take_rest c.args.rows.now k in
    let some : 1 ≤ c.args.h = omega (arith, c.if-h-eq0.false) in
    let all : c.args.h * c.args.period ≡ k + c.args.period = let f : c.args.h * c.args.period
    ≡ (c.args.h - 1 + 1) * c.args.period = ap (λ n. n * c.args.period) (omega (arith, some)) in omega (arith, f) in
    record {
      some = some;
      count = omega (arith, ap (λ (xs : List ℕ). length xs) e, length-drop k c.args.rows.now, all, c.requires);
      is = e;
    }
