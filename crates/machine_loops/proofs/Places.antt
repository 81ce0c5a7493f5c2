-- No more carriers are in the line than it has hoists and tanks.
use Rattle.std.proofs.Common.{◌≡◌, ℕ, zero, suc, ◌+◌, ◌-◌, ◌≤◌, ◌<◌, Bool, Option, Some, None, ◌⊎◌, inl, inr, ⊎_elim, sym, refl, ap, subst, ◌∙◌, arith}
use Rattle.std.specs.Prelude.{cond, nat_lt}
use Rattle.std.specs.Option.{option_map}
use Rattle.std.proofs.lemmas.Bool.{cases_eq, lt-ltb, le-ltb}
use Rattle.tick_machine.specs.declared.frame.Carry.{Carry}
use Rattle.tick_machine.specs.declared.frame.Hold.{Hold}
use Rattle.tick_machine.specs.declared.frame.Rest.{Rest}
use Rattle.tick_machine.specs.declared.frame.Rest.TheVariants.{Lowering, Resting, Lifting}
use Rattle.tick_machine.specs.Layout.{Layout, IsLayout}
use Rattle.tick_machine.specs.Scene.{Scene, with, hold_of}
use Rattle.tick_machine.proofs.Writes.{with_same, with_other}
use Rattle.tick_machine.proofs.PartwayTick.{hold_is}
use Rattle.machine_loops.specs.Loops.{IsInLine}
use Rattle.machine_loops.proofs.StepBack.{some_same}
use Rattle.machine_loops.proofs.Raised.{Sound}

-- m + 1 different numbers have no room in m places
pub no_room : (m : ℕ) (who : ℕ → Option ℕ) (f : ℕ → ℕ) → ((i j : ℕ) → f i ≡ f j → i ≡ j)
    → ((j : ℕ) → j ≤ m → (q : ℕ) × (q < m) × (who q ≡ Some (f j))) → ⊥
no_room zero who f once places = let (q, lt, is) = places 0 (omega arith) in absurd (omega arith)
no_room (suc m) who f once places =
    let (q, lt, is) = places (suc m) (omega arith) in
    no_room m (with who q (who m)) f once (λ j le.
    let (x, lx, ix) = places j (omega arith) in
    let other : q ≡ x → ⊥ = λ same. let e : suc m ≡ j = once (suc m) j (some_same (f (suc m)) (f j) (sym is ∙ ap who same ∙ ix)) in omega arith in
    ⊎_elim
    (λ last. (q, omega arith, with_same who q (who m) q refl ∙ ap who (sym last) ∙ ix))
    (λ below. (x, omega arith, with_other who q (who m) x other ∙ ix))
    (cases_eq x m))

-- the carrier at a place: the hoists come first, then the tanks
abbrev pub place_count : Layout → ℕ
place_count l = l.hoists + l.tanks

abbrev pub at_place : Layout → Scene → ℕ → Option ℕ
at_place l f q = cond (nat_lt q l.hoists) (option_map (λ (y : Carry). y.carrier) (f.carry q)) (option_map (λ (x : Hold). x.carrier) (f.hold (q - l.hoists)))

pub placed : (l : Layout) (f : Scene) (c : ℕ) → IsLayout l → Sound l f → IsInLine f c
    → (q : ℕ) × (q < place_count l) × (at_place l f q ≡ Some c)
placed l f c layout sound there =
    ⊎_elim
    (λ (h, y, is, same).
    let lt = (sound.carries h y is).there in (
      h,
      omega arith,
      ap (λ (b : Bool). cond b (option_map (λ (y : Carry). y.carrier) (f.carry h))
          (option_map (λ (x : Hold). x.carrier) (f.hold (h - l.hoists)))) (lt-ltb h l.hoists lt)
          ∙ ap (option_map (λ (y : Carry). y.carrier)) is ∙ ap (λ (n : ℕ). Some n) same,
    ))
    (λ (i, k, age, rests).
    let lt = layout.there i k (sound.there i (hold_of c k (Resting age)) rests) in
    let q = l.hoists + i in
    let e : q - l.hoists ≡ i = omega arith in (
      q,
      omega arith,
      ap (λ (b : Bool). cond b (option_map (λ (y : Carry). y.carrier) (f.carry q))
          (option_map (λ (x : Hold). x.carrier) (f.hold (q - l.hoists)))) (le-ltb q l.hoists (omega arith))
          ∙ ap (λ (j : ℕ). option_map (λ (x : Hold). x.carrier) (f.hold j)) e ∙ ap (option_map (λ (x : Hold). x.carrier)) rests,
    ))
    there

-- whether a carrier is in the line can be told
among : (P : ℕ → Type 0) → ((j : ℕ) → P j ⊎ (P j → ⊥)) → (n : ℕ) → ((j : ℕ) × P j) ⊎ ((j : ℕ) → j < n → P j → ⊥)
among P told zero = inr (λ j lt. absurd (omega arith))
among P told (suc n) =
    ⊎_elim
    (λ found. inl found)
    (λ none. ⊎_elim
    (λ here. inl (n, here))
    (λ not_here. inr (λ j lt p. ⊎_elim (λ same. not_here (subst P same p)) (λ other. none j (omega arith) p) (cases_eq j n)))
    (told n))
    (among P told n)

carry_told : (o : Option Carry) (c : ℕ)
    → ((y : Carry) × (o ≡ Some y) × (y.carrier ≡ c)) ⊎ ((y : Carry) × (o ≡ Some y) × (y.carrier ≡ c) → ⊥)
carry_told None c = inr (λ (y, is, same). absurd (let g = is in cc))
carry_told (Some x) c =
    ⊎_elim
    (λ same. inl (x, refl, same))
    (λ other. inr (λ (y, is, same). other (ap (λ (z : Carry). z.carrier) (some_same x y is) ∙ same)))
    (cases_eq x.carrier c)

rest_told : (r : Rest) → ((age : ℕ) × (r ≡ Resting age)) ⊎ ((age : ℕ) → r ≡ Resting age → ⊥)
rest_told Lowering = inr (λ age e. absurd (let g = e in cc))
rest_told (Resting age) = inl (age, refl)
rest_told Lifting = inr (λ age e. absurd (let g = e in cc))

hold_told : (o : Option Hold) (c : ℕ)
    → ((k : ℕ) × (age : ℕ) × (o ≡ Some (hold_of c k (Resting age)))) ⊎ ((k : ℕ) × (age : ℕ) × (o ≡ Some (hold_of c k (Resting age))) → ⊥)
hold_told None c = inr (λ (k, age, is). absurd (let g = is in cc))
hold_told (Some x) c =
    ⊎_elim
    (λ same. ⊎_elim
    (λ (age, rests). inl (x.stage, age, ap (λ (w : Hold). Some w) (hold_is x c x.stage (Resting age) same refl rests)))
    (λ moves. inr (λ (k, age, is). moves age (ap (λ (w : Hold). w.rest) (some_same x (hold_of c k (Resting age)) is))))
    (rest_told x.rest))
    (λ other. inr (λ (k, age, is). other (ap (λ (w : Hold). w.carrier) (some_same x (hold_of c k (Resting age)) is))))
    (cases_eq x.carrier c)

pub in_or_out : (l : Layout) (f : Scene) (c : ℕ) → IsLayout l → Sound l f → IsInLine f c ⊎ (IsInLine f c → ⊥)
in_or_out l f c layout sound =
    ⊎_elim
    (λ (h, (y, is, same)). inl (inl (h, y, is, same)))
    (λ not_carried. ⊎_elim
    (λ (i, (k, age, rests)). inl (inr (i, k, age, rests)))
    (λ not_resting. inr (λ there. ⊎_elim
    (λ (h, y, is, same). not_carried h (sound.carries h y is).there (y, is, same))
    (λ (i, k, age, rests). not_resting i (layout.there i k (sound.there i (hold_of c k (Resting age)) rests)) (k, age, rests))
    there))
    (among (λ i. (k : ℕ) × (age : ℕ) × (f.hold i ≡ Some (hold_of c k (Resting age)))) (λ i. hold_told (f.hold i) c) l.tanks))
    (among (λ h. (y : Carry) × (f.carry h ≡ Some y) × (y.carrier ≡ c)) (λ h. carry_told (f.carry h) c) l.hoists)
