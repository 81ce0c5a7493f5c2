-- The first and the last tick of a run, and what a machine asks of it.
use Rattle.std.proofs.Common.{◌≡◌, ℕ, zero, suc, ◌+◌, ◌-◌, ◌*◌, ◌/◌, ◌%◌, ◌≤◌, ◌<◌, ⊎_elim, refl, ap, ◌∙◌, arith}
use Rattle.std.specs.Prelude.{min, max}
use Rattle.std.proofs.lemmas.Bool.{cases_eq}
use Rattle.std.proofs.lemmas.Nat.{div-add-mod', div-mul-add, mod-mul-add, mul-le, le-div, mod_below}
use Rattle.hoist_base.specs.LineData.{LineData}
use Rattle.line_model.specs.Timetable.{Timetable}
use Rattle.line_model.specs.Run.{run_off}
use Rattle.startup_rundown.specs.RunLog.{greatest, first_tick, last_tick}
use Rattle.startup_rundown.specs.Runner.{IsReady}
use Rattle.startup_rundown.proofs.RunPlan.{IsRun}
use Rattle.startup_rundown.proofs.DriveLaw.{drives}
use Rattle.startup_rundown.proofs.RunLaw.{from_first, at_most_greatest, first_last}

-- the first put is that of carrier 0
pub first_is : (l : LineData) (p : Timetable) → 1 ≤ l.degree → first_tick l p ≡ p.put 0
first_is l p some =
    let e : 0 ≡ 0 * l.degree + 0 = omega arith in
    let a : 0 % l.degree ≡ 0 = ap (λ (d : ℕ). d % l.degree) e ∙ mod-mul-add 0 l.degree 0 (omega arith) in
    let b : 0 / l.degree ≡ 0 = ap (λ (d : ℕ). d / l.degree) e ∙ div-mul-add 0 l.degree 0 (omega arith) in
    let put : p.put (0 % l.degree) ≡ p.put 0 = ap p.put a in
    let turn : 0 / l.degree * p.period ≡ 0 * p.period = ap (λ (z : ℕ). z * p.period) b in
    omega arith

-- the latest off of the carriers of a run that copy the first c carriers of the timetable
pub record Latest (l : LineData) (p : Timetable) (n c last : ℕ) : Type 0 where
  pub within : last ≤ last_tick l p n
  pub all : (e : ℕ) → e < n → e % l.degree < c → run_off l p e ≤ last

pub none_yet : (l : LineData) (p : Timetable) (n : ℕ) → Latest l p n 0 0
none_yet l p n = record { within = omega arith; all = λ e lt below. absurd (omega arith) }

off_later : (l : LineData) (p : Timetable) (c turn : ℕ) → c < l.degree
    → run_off l p (c + turn * l.degree) ≡ p.off c + turn * p.period
off_later l p c turn lt =
    let n = l.degree in
    let e : c + turn * n ≡ turn * n + c = omega arith in
    let a : (c + turn * n) % n ≡ c = ap (λ (d : ℕ). d % n) e ∙ mod-mul-add turn n c lt in
    let b : (c + turn * n) / n ≡ turn = ap (λ (d : ℕ). d / n) e ∙ div-mul-add turn n c lt in
    ap (λ (d : ℕ). p.off d + (c + turn * n) / n * p.period) a ∙ ap (λ (z : ℕ). p.off c + z * p.period) b

pub one_more : (l : LineData) (p : Timetable) (n c last : ℕ) → c < l.degree → c < n → Latest l p n c last
    → Latest l p n (c + 1) (max last (p.off c + (n - 1 - c) / l.degree * p.period))
one_more l p n c last lt there so =
    let r = l.degree in
    let turns = (n - 1 - c) / r in
    let whole = div-add-mod' (n - 1 - c) r in
    let few : c + turns * r < n = omega arith in
    let here = off_later l p c turns lt in
    let most = at_most_greatest n (c + turns * r) (run_off l p) few in
    record {
      within = omega (arith, so.within);
      all = λ e below base. ⊎_elim
          (λ same.
          let parts = div-add-mod' e r in
          let q = e / r in
          let fits : q ≤ turns = le-div q (n - 1 - c) r (omega arith) (omega arith) in
          let m : q * p.period ≤ turns * p.period = mul-le q p.period turns p.period fits (omega arith) in
          let off : p.off (e % r) ≡ p.off c = ap p.off same in
          omega arith)
          (λ other. omega (arith, so.all e below (omega arith)))
          (cases_eq (e % r) c);
    }

-- every off of a run comes within its time
small_off : (n c r period off : ℕ) → n ≤ 1000 → 1 ≤ r → period ≤ 20000 → off ≤ 1000000000
    → off + (n - 1 - c) / r * period ≤ 2000000000
small_off n c r period off few some short early =
    let q = (n - 1 - c) / r in
    let whole = div-add-mod' (n - 1 - c) r in
    let a : q * 1 ≤ q * r = mul-le q 1 q r (omega arith) some in
    let b : q * period ≤ 1000 * 20000 = mul-le q period 1000 20000 (omega arith) short in
    omega arith

pub one_more_soon : (l : LineData) (p : Timetable) (n c last : ℕ) → c < l.degree → c < n → n ≤ 1000 → p.period ≤ 20000
    → p.off c ≤ 1000000000
    → Latest l p n c last → last ≤ 2000000000
    → Latest l p n (c + 1) (max last (p.off c + (n - 1 - c) / l.degree * p.period)) × (max last (p.off c + (n - 1 - c) / l.degree * p.period) ≤ 2000000000)
one_more_soon l p n c last lt there few short early so soon =
    let off = small_off n c l.degree p.period (p.off c) few (omega arith) short early in
    (one_more l p n c last lt there so, omega arith)

greatest_least : (n m : ℕ) (f : ℕ → ℕ) → ((c : ℕ) → c < n → f c ≤ m) → greatest n f ≤ m
greatest_least zero m f all = omega arith
greatest_least (suc n) m f all = omega (arith, greatest_least n m f (λ c lt. all c (omega arith)), all n (omega arith))

pub last_is : (l : LineData) (p : Timetable) (n c last : ℕ) → 1 ≤ l.degree → c ≡ min l.degree n → Latest l p n c last
    → last ≡ last_tick l p n
last_is l p n c last some all so =
    omega (
      arith,
      so.within,
      greatest_least n last (run_off l p) (λ e lt. so.all e lt (let parts = div-add-mod' e
          l.degree in let base = mod_below e l.degree some in omega arith)),
    )

-- the run is one that a machine takes
pub is_ready : (l : LineData) (p : Timetable) (n : ℕ) → IsRun l p n → 1 ≤ n → last_tick l p n ≤ 2000000000
    → IsReady l p n
is_ready l p n run some soon =
    let spaced = run.legal.track.spaced (first_tick l p) in
    record {
      in_order = first_last l p n run some;
      small = omega arith;
      apart = record { within = spaced.within; gap = spaced.apart };
      still = (drives l p n (first_tick l p) run refl (λ c k v. from_first l p n c k run v)).still;
    }
