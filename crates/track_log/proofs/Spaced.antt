-- Positions are spaced exactly where nothing is wrong with them.
use Rattle.std.proofs.Common.{◌≡◌, ℕ, zero, suc, ◌+◌, ◌-◌, ◌≤◌, ◌<◌, Option, None, Some, Bool, true, false, cond, List, length, All, Result, Ok, ap, subst, ◌∙◌, arith, refl}
use Rattle.std.specs.Prelude.{nat_lt}
use Rattle.std.proofs.lemmas.Bool.{ltb-false, le-ltb}
use Rattle.std.proofs.lemmas.List.Elements.{All-from_recursion}
use Rattle.hoist_base.specs.LineData.{LineData}
use Rattle.tick_machine.specs.declared.breach.Breach.{Breach}
use Rattle.tick_machine.specs.declared.breach.Breach.TheVariants.{Edge, Near}
use Rattle.tick_machine.specs.declared.order.Order.{Order}
use Rattle.tick_machine.specs.Layout.{Layout}
use Rattle.tick_machine.specs.Rules.{AreApart}
use Rattle.tick_machine.specs.Scene.{IsSizedOrder}
use Rattle.tick_machine.specs.Step.{or_else, first}
use Rattle.tick_machine.proofs.Passes.{or_else_parts, first_pass}
use Rattle.field_reading.specs.Reads.{IsRead, Reads, Any}
use Rattle.track_log.specs.Logs.{most_position, tick_text}
use Rattle.track_log.specs.Reading.{places_at, tick_at, line_of}
use Rattle.track_log.specs.Following.{above, close, unspaced}
use Rattle.track_log.proofs.BeginsRead.{HasFew}
use Rattle.track_log.proofs.LogRead.{IsPlaces, IsTick, places_read, tick_read}

none_there : (test : Bool) (b : Breach) → cond test (Some b) None ≡ None → test ≡ false
none_there true b e = absurd (let g = e in cc)
none_there false b e = refl

pub are_apart : (l : Layout) (at : ℕ → ℕ) → unspaced l at ≡ None → AreApart l at
are_apart l at e =
    let p = or_else_parts (first l.hoists (above l at)) (first (l.hoists - 1) (close l at)) e in
    record {
      within = λ h lt.
          let no = none_there (nat_lt l.track (at h)) (Edge h (at h)) (first_pass l.hoists (above l at) h p.0 lt) in
          omega (arith, ltb-false l.track (at h) no);
      gap = λ h lt.
          let no = none_there (nat_lt (at (h + 1)) (at h + l.gap)) (Near h (at h) (at (h + 1)))
          (first_pass (l.hoists - 1) (close l at) h p.1 (omega (arith, lt))) in
          omega (arith, ltb-false (at (h + 1)) (at h + l.gap) no);
    }

-- where no number has a breach, there is no first one
none_first : (n : ℕ) (test : ℕ → Option Breach) → ((h : ℕ) → h < n → test h ≡ None) → first n test ≡ None
none_first zero test none = refl
none_first (suc n) test none =
    ap (λ (b : Option Breach). or_else b (test n)) (none_first n test (λ h lt. none h (omega arith))) ∙ none n (omega arith)

pub no_unspaced : (l : Layout) (at : ℕ → ℕ) → AreApart l at → unspaced l at ≡ None
no_unspaced l at apart =
    ap (λ (b : Option Breach). or_else b (first (l.hoists - 1) (close l at)))
    (none_first l.hoists (above l at) (λ h lt. ap (λ (b : Bool). cond b (Some (Edge h (at h))) None) (le-ltb l.track (at h) (apart.within h lt))))
    ∙ none_first (l.hoists - 1) (close l at) (λ h lt.
    let up : h + 1 < l.hoists = omega (arith, lt) in
    ap (λ (b : Bool). cond b (Some (Near h (at h) (at (h + 1)))) None) (le-ltb (at (h + 1)) (at h + l.gap) (apart.gap h up)))

-- ---- what was read fits the line

read_fits : {A : Type 0} (F : A → Type 0) (text : A → List ℕ) (bytes : List ℕ) (r : Result (A × List ℕ) ℕ) (a : A) (rest : List ℕ)
    → Reads F text Any bytes r → r ≡ Ok (a, rest) → F a
read_fits {A = A} F text bytes r a rest h e =
    let read : IsRead F text Any bytes a rest = subst (λ (x : Result (A × List ℕ) ℕ). Reads F text Any bytes x) e h in
    read.fits

pub places_fit : (l : LineData) (bytes at rest : List ℕ) → places_at l.hoists bytes ≡ Ok (at, rest)
    → (length at ≡ l.hoists) × All (λ x. x ≤ most_position) at
places_fit l bytes at rest e =
    let f = read_fits (IsPlaces l) _ bytes (places_at l.hoists bytes) at rest (places_read l bytes) e in
    (f.0, All-from_recursion _ at f.1)

pub order_fits : (l : LineData) (t : ℕ) (bytes rest : List ℕ) (order : Order) → HasFew l
    → tick_at l t bytes ≡ Ok (line_of order, rest) → IsSizedOrder l.hoists order
order_fits l t bytes rest order few e =
    let f = read_fits (IsTick l t) tick_text bytes (tick_at l t bytes) (line_of order) rest (tick_read l t bytes few) e in
    record { go = f.fits.go; begin = f.fits.begin }
