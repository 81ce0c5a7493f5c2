-- The frames of a loop, continued for ever.
use Rattle.std.proofs.Common.{◌≡◌, ℕ, suc, ◌+◌, ◌*◌, ◌/◌, ◌%◌, ◌≤◌, ◌<◌, ⊎_elim, sym, ap, subst, ◌∙◌, add-mul, one-mul, arith}
use Rattle.std.specs.Prelude.{◌==◌}
use Rattle.std.proofs.lemmas.Bool.{cases_eq, eq-eqb, ne_eqb, cond-true, cond-false}
use Rattle.std.proofs.lemmas.Nat.{div-add-mod', mod_below, div-mul-add, mod-mul-add}
use Rattle.hoist_base.specs.LineData.{LineData}
use Rattle.hoist_base.specs.Valid.{IsLine}
use Rattle.tick_machine.specs.Layout.{layout_of, IsLayout}
use Rattle.tick_machine.specs.Scene.{Scene}
use Rattle.tick_machine.proofs.Lines.{layout_is}
use Rattle.machine_loops.specs.Loops.{raised, frame_after, IsLoop, frame_at}
use Rattle.machine_loops.proofs.StepFacts.{Passes, passes}
use Rattle.machine_loops.proofs.Raised.{Sound, sound, raised_sound, raised_passes, raised_twice}

-- frames, one for each tick for ever, that come again each period with later carriers
pub record Unrolled (l : LineData) (period : ℕ) (frames : ℕ → Scene) : Type 0 where
  pub line : IsLine l
  pub layout : IsLayout (layout_of l)
  pub some : 1 ≤ period
  pub degree : 1 ≤ l.degree
  pub sound : (t : ℕ) → Sound (layout_of l) (frames t)
  pub passes : (t : ℕ) → Passes (layout_of l) (frames t) (frames (suc t))
  pub again : (z t : ℕ) → frames (t + z * period) ≡ raised (z * l.degree) (frames t)

pub in_period : (l : LineData) (period : ℕ) (frames : ℕ → Scene) (z i : ℕ) → i < period
    → frame_at l period frames (z * period + i) ≡ raised (z * l.degree) (frames i)
in_period l period frames z i lt =
    ap (λ (q : ℕ). raised (q * l.degree) (frames ((z * period + i) % period))) (div-mul-add z period i lt)
    ∙ ap (λ (j : ℕ). raised (z * l.degree) (frames j)) (mod-mul-add z period i lt)

pub ring_one : (z n : ℕ) → (z + 1) * n ≡ z * n + n
ring_one z n = add-mul z 1 n ∙ ap (λ (m : ℕ). z * n + m) (one-mul n)

times_sum : (q z period i t : ℕ) → t ≡ q * period + i → t + z * period ≡ (q + z) * period + i
times_sum q z period i t here = let sum : (q + z) * period ≡ q * period + z * period = add-mul q z period in omega arith

pub next_frame : (l : LineData) (period : ℕ) (frames : ℕ → Scene) (z i : ℕ) → 1 ≤ period → i < period
    → frame_at l period frames (suc (z * period + i)) ≡ raised (z * l.degree) (frame_after l period frames i)
next_frame l period frames z i some lt =
    ⊎_elim
    (λ last.
    let p : (z + 1) * period ≡ z * period + period = ring_one z period in
    let r : (z + 1) * l.degree ≡ z * l.degree + l.degree = ring_one z l.degree in
    let t : suc (z * period + i) ≡ (z + 1) * period + 0 = omega arith in
    let sum : (z + 1) * l.degree ≡ l.degree + z * l.degree = omega arith in
    ap (frame_at l period frames) t ∙ in_period l period frames (z + 1) 0 (omega arith)
    ∙ ap (λ (d : ℕ). raised d (frames 0)) sum ∙ sym (raised_twice (z * l.degree) l.degree (frames 0))
    ∙ ap (raised (z * l.degree)) (sym (cond-true (i + 1 == period) (raised l.degree (frames 0)) (frames (i + 1)) (eq-eqb (i + 1) period last))))
    (λ other.
    let t : suc (z * period + i) ≡ z * period + (i + 1) = omega arith in
    ap (frame_at l period frames) t ∙ in_period l period frames z (i + 1) (omega arith)
    ∙ ap (raised (z * l.degree)) (sym (cond-false (i + 1 == period) (raised l.degree (frames 0)) (frames (i + 1)) (ne_eqb (i + 1) period other))))
    (cases_eq (i + 1) period)

pub unrolled : (l : LineData) (period : ℕ) (frames : ℕ → Scene) → IsLine l → IsLoop l period frames
    → Unrolled l period (frame_at l period frames)
unrolled l period frames line loop =
    let layout = layout_is l line in
    record {
      line = line;
      layout = layout;
      some = loop.some;
      degree = line.limits.degree.0;
      sound = λ t. raised_sound (layout_of l) (t / period * l.degree) (frames (t % period))
          (sound (layout_of l) (frames (t % period)) (loop.keeps (t % period) (mod_below t period loop.some)));
      passes = λ t.
          let i = t % period in
          let z = t / period in
          let lt : i < period = mod_below t period loop.some in
          let here : t ≡ z * period + i = sym (div-add-mod' t period) in
          let (order, leads) = loop.steps i lt in
          let step = passes (layout_of l) order (frames i) (frame_after l period frames i) layout (loop.keeps i lt) leads in
          let next : raised (z * l.degree) (frame_after l period frames i) ≡ frame_at l period frames (suc t) =
          sym (next_frame l period frames z i loop.some lt) ∙ ap (λ (n : ℕ). frame_at l period frames (suc n)) (sym here) in
          subst (λ (s : Scene). Passes (layout_of l) (frame_at l period frames t) s) next
          (raised_passes (layout_of l) (z * l.degree) (frames i) (frame_after l period frames i) step);
      again = λ z t.
          let i = t % period in
          let q = t / period in
          let lt : i < period = mod_below t period loop.some in
          let here : t ≡ q * period + i = sym (div-add-mod' t period) in
          let sum : t + z * period ≡ (q + z) * period + i = times_sum q z period i t here in
          let more : (q + z) * l.degree ≡ q * l.degree + z * l.degree = add-mul q z l.degree in
          ap (frame_at l period frames) sum ∙ in_period l period frames (q + z) i lt ∙ ap (λ (d : ℕ). raised d (frames i)) more
          ∙ sym (raised_twice (z * l.degree) (q * l.degree) (frames i));
    }
