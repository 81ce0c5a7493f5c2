-- When a visit holds its tank depends on how long two moves last: the one before it, and the last of its carrier.
use Rattle.std.proofs.Common.{⊎_elim, ◌≡◌, ℕ, ◌+◌, ◌-◌, ◌<◌, sym, ◌∙◌, ap, arith, pos, Bool, true, cond, eq-eqb}
use Rattle.std.specs.Prelude.{◌-ℤ◌, neg_ℤ, ◌==◌, if◌then◌else◌}
use Rattle.std.proofs.lemmas.Bool.{cases_lt}
use Rattle.hoist_base.specs.LineData.{LineData, stage, last_stage, last_step}
use Rattle.path_constraints.specs.Holds.{Moment, begin_of, end_of}

pub begin_same : (l : LineData) (d e : ℕ → ℕ → ℕ) (c k : ℕ) → (0 < k → d c (k - 1) ≡ e c (k - 1))
    → begin_of l d c k ≡ begin_of l e c k
begin_same l d e c k h = ⊎_elim (λ some. ap (λ (n : ℕ). the_begin n) (h some))
    (λ le.
    let at : (k == 0) ≡ true = eq-eqb k 0 (omega (arith, le)) in
    ap (λ (b : Bool). cond b at_load (later (d c (k - 1)))) at ∙ sym (ap (λ (b : Bool). cond b at_load (later (e c (k - 1)))) at))
    (cases_lt 0 k)
  where
    at_load : Moment
    at_load = record { carrier = c; step = 0; fixed = neg_ℤ (pos l.load) }

    later : ℕ → Moment
    later n = record { carrier = c; step = k - 1; fixed = pos n -ℤ pos (stage l k).lower }

    the_begin : ℕ → Moment
    the_begin n = cond (k == 0) at_load (later n)

pub end_same : (l : LineData) (d e : ℕ → ℕ → ℕ) (c k : ℕ) → d c (last_step l) ≡ e c (last_step l)
    → end_of l d c k ≡ end_of l e c k
end_same l d e c k h = ap (λ (n : ℕ). the_end n) h
  where
    the_end : ℕ → Moment
    the_end n =
        if k == last_stage l
        then record { carrier = c; step = last_step l; fixed = pos (n + l.unload) }
        else record { carrier = c; step = k; fixed = pos (stage l k).lift }
