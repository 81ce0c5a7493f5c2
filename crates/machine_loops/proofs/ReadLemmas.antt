-- What is noted of a frame.
use Rattle.std.proofs.Common.{◌≡◌, ℕ, suc, ◌+◌, ◌-◌, ◌*◌, ◌/◌, ◌%◌, ◌≤◌, ◌<◌, max, Some, None, List, length, get_or, set, ◌⊎◌, inl, inr, ⊎_elim, sym, refl, ap, subst, ◌∙◌, arith, get_or-set_other, get_or-set_same, length-set}
use Rattle.std.proofs.lemmas.Bool.{cases_eq, cases_lt}
use Rattle.hoist_base.specs.LineData.{LineData}
use Rattle.hoist_base.specs.Valid.{IsLine}
use Rattle.tick_machine.specs.declared.frame.Carry.{Carry}
use Rattle.tick_machine.specs.declared.frame.Hold.{Hold}
use Rattle.tick_machine.specs.declared.frame.Rest.TheVariants.{Resting}
use Rattle.tick_machine.specs.declared.frame.Frame.{Frame}
use Rattle.tick_machine.specs.Scene.{hold_of}
use Rattle.machine_loops.specs.Lists.{scenes}
use Rattle.machine_loops.specs.Reading.{IsReadable, for_ever, carrier_of, IsSeen, IsRester, IsBefore, PutsTo, IsAfterIn, OffsTo, IsNoted}
use Rattle.machine_loops.proofs.StepBack.{some_same}
use Rattle.machine_loops.proofs.StepOn.{IsIn}
use Rattle.machine_loops.proofs.Raised.{lower_carry, lower_rest}
use Rattle.machine_loops.proofs.History.{rises}
use Rattle.machine_loops.proofs.Shown.{put_before}
use Rattle.machine_loops.proofs.SeenLemmas.{run_of, next_is, seen_in, one_turn}

-- one more number of a frame has been read
pub before_more : (t n s i : ℕ) → IsBefore t (n + 1) s i → IsBefore t n s i ⊎ ((s ≡ t) × (i ≡ n))
before_more t n s i before =
    ⊎_elim
    (λ less. inl (inl less))
    (λ (same, lt). ⊎_elim (λ below. inl (inr (same, below))) (λ le. inr (same, omega arith)) (cases_lt i n))
    before

-- a frame has been read as a whole
pub before_next : (t n s i : ℕ) → i < n → IsBefore (t + 1) 0 s i → IsBefore t n s i
before_next t n s i lt before =
    ⊎_elim
    (λ less. ⊎_elim (λ same. inr (same, lt)) (λ other. inl (omega arith)) (cases_eq s t))
    (λ (same, none). absurd (omega arith))
    before

-- a number that rises at one place
record Rises (old new : List ℕ) (k v : ℕ) : Type 0 where
  count : length new ≡ length old
  grown : (c : ℕ) → get_or old c 0 ≤ get_or new c 0
  here : v ≤ get_or new k 0
  from : (c : ℕ) → (get_or new c 0 ≡ get_or old c 0) ⊎ ((c ≡ k) × (get_or new c 0 ≡ v))

max_is : (a b : ℕ) → (max a b ≡ a) ⊎ (max a b ≡ b)
max_is a b = ⊎_elim (λ lt. inr (omega arith)) (λ le. inl (omega arith)) (cases_lt a b)

risen : (old : List ℕ) (k v : ℕ) → k < length old → Rises old (set old k (max (get_or old k 0) v)) k v
risen old k v lt =
    let x = max (get_or old k 0) v in
    let at : get_or (set old k x) k 0 ≡ x = get_or-set_same old k x 0 lt in
    record {
      count = length-set old k x;
      grown = λ c. ⊎_elim
          (λ same. let e : get_or (set old k x) c 0 ≡ x = ap (λ (j : ℕ). get_or (set old k x) j 0) same ∙ at in
          let e' : get_or old c 0 ≡ get_or old k 0 = ap (λ (j : ℕ). get_or old j 0) same in
          omega arith)
          (λ other. let e : get_or (set old k x) c 0 ≡ get_or old c 0 = get_or-set_other old k c x 0 other in omega arith)
          (cases_eq c k);
      here = omega arith;
      from = λ c. ⊎_elim
          (λ same.
          let e : get_or (set old k x) c 0 ≡ x = ap (λ (j : ℕ). get_or (set old k x) j 0) same ∙ at in
          let e' : get_or old c 0 ≡ get_or old k 0 = ap (λ (j : ℕ). get_or old j 0) same in
          ⊎_elim (λ as_old. inl (e ∙ as_old ∙ sym e')) (λ as_new. inr (same, e ∙ as_new)) (max_is (get_or old k 0) v))
          (λ other. inl (get_or-set_other old k c x 0 other))
          (cases_eq c k);
    }

-- the carrier of frame t, and the lists
record Noted (l : LineData) (frames : List Frame) (t d : ℕ) (old new : List ℕ) : Type 0 where
  c : ℕ
  tick : ℕ
  rises : Rises old new c (tick + 1)
  in_line : IsIn (for_ever l frames tick) (carrier_of l frames c)
  one : (c' s : ℕ) → c' < l.degree → s % length frames ≡ t → d + s / length frames * l.degree ≡ carrier_of l frames c'
      → (c' ≡ c) × (s ≡ tick)

noted : (l : LineData) (frames : List Frame) (t d : ℕ) (old new : List ℕ) → IsLine l → IsReadable l frames
    → t < length frames
    → length old ≡ l.degree → IsIn (scenes frames t) d → IsNoted l frames t d old new → Noted l frames t d old new
noted l frames t d old new line closed lt count there is =
    let seen = is.seen in
    let is_there = is.is.turn.there in
    record {
      c = seen.carrier;
      tick = seen.tick;
      rises = subst (λ (xs : List ℕ). Rises old xs seen.carrier (seen.tick + 1)) (sym is.written) (risen old seen.carrier (seen.tick + 1) (omega arith));
      in_line = seen_in l frames t d seen line closed lt there is.is;
      one = λ c' s lt' same turn. one_turn l frames d c' s seen (omega arith) lt' turn (subst (λ (n : ℕ). IsSeen l frames n d seen) (sym same) is.is);
    }

after_noted : (l : LineData) (frames : List Frame) (t d c : ℕ) (old new : List ℕ) → Noted l frames t d old new
    → IsAfterIn (for_ever l frames) (carrier_of l frames c) (get_or old c 0)
    → IsAfterIn (for_ever l frames) (carrier_of l frames c) (get_or new c 0)
after_noted l frames t d c old new n after =
    ⊎_elim
    (λ as_old. subst (λ (x : ℕ). IsAfterIn (for_ever l frames) (carrier_of l frames c) x) (sym as_old) after)
    (λ (same, as_new).
    let e : get_or new c 0 ≡ suc n.tick = omega arith in
    subst (λ (x : ℕ). IsAfterIn (for_ever l frames) (carrier_of l frames c) x) (sym e)
    (subst (λ (x : ℕ). IsIn (for_ever l frames n.tick) (carrier_of l frames x)) (sym same) n.in_line))
    (n.rises.from c)

-- what a hoist carries at a tick is what it carries in the tick's frame, some periods later
record CarriedThere (l : LineData) (frames : List Frame) (c s j : ℕ) : Type 0 where
  x : Carry
  is : (scenes frames (s % length frames)).carry j ≡ Some x
  carrier : x.carrier + s / length frames * l.degree ≡ c

carried_there : (l : LineData) (frames : List Frame) (c s j : ℕ) (y : Carry) → (for_ever l frames s).carry j ≡ Some y
    → y.carrier ≡ c
    → CarriedThere l frames c s j
carried_there l frames c s j y is carrier =
    let low = lower_carry (s / length frames * l.degree) ((scenes frames (s % length frames)).carry j) y is in
    record { x = low.x; is = low.was; carrier = ap (λ (z : Carry). z.carrier) low.is ∙ carrier }

-- so it is then with one more hoist
pub noted_carried : (l : LineData) (frames : List Frame) (t h i : ℕ) (y : Carry) (old new : List ℕ) → IsLine l
    → IsReadable l frames
    → t < length frames → (scenes frames t).carry h ≡ Some y → OffsTo l frames t h i old
    → IsNoted l frames t y.carrier old new
    → OffsTo l frames t (h + 1) i new
noted_carried l frames t h i y old new line closed lt has offs is =
    let n = noted l frames t y.carrier old new line closed lt offs.count (inl (h, y, has, refl)) is in
    let rises = n.rises in
    record {
      count = rises.count ∙ offs.count;
      after = λ c there. after_noted l frames t y.carrier c old new n (offs.after c there);
      carried = λ c s j z there is carrier read. ⊎_elim
          (λ before. let less = offs.carried c s j z there is carrier before in let up = rises.grown c in omega arith)
          (λ (same, hoist).
          let was = carried_there l frames (carrier_of l frames c) s j z is carrier in
          let here : (scenes frames t).carry h ≡ Some was.x =
          ap (scenes frames t).carry (sym hoist) ∙ ap (λ (a : ℕ). (scenes frames a).carry j) (sym same) ∙ was.is in
          let one : was.x.carrier ≡ y.carrier = ap (λ (w : Carry). w.carrier) (some_same was.x y (sym here ∙ has)) in
          let turn = was.carrier in
          let at = n.one c s there same (omega arith) in
          let who : get_or new c 0 ≡ get_or new n.c 0 = ap (λ (a : ℕ). get_or new a 0) at.0 in
          let tick = at.1 in
          let long = rises.here in
          omega arith)
          (before_more t h (s % length frames) j read);
      rested = λ c s j k age there is read. let less = offs.rested c s j k age there is read in let up = rises.grown c in omega arith;
    }

-- and so with who rests in a tank
pub noted_rester : (l : LineData) (frames : List Frame) (t h i d : ℕ) (old new : List ℕ) → IsLine l
    → IsReadable l frames
    → t < length frames → IsRester ((scenes frames t).hold i) (Some d) → OffsTo l frames t h i old
    → IsNoted l frames t d old new
    → OffsTo l frames t h (i + 1) new
noted_rester l frames t h i d old new line closed lt (m, old_age, has) offs is =
    let n = noted l frames t d old new line closed lt offs.count (inr (i, m, old_age, has)) is in
    let rises = n.rises in
    record {
      count = rises.count ∙ offs.count;
      after = λ c there. after_noted l frames t d c old new n (offs.after c there);
      carried = λ c s j z there is carrier read. let less = offs.carried c s j z there is carrier read in let up = rises.grown c in omega arith;
      rested = λ c s j k age there is read. ⊎_elim
          (λ before. let less = offs.rested c s j k age there is before in let up = rises.grown c in omega arith)
          (λ (same, tank).
          let was = lower_rest (s / length frames * l.degree) (scenes frames (s % length frames)) j (carrier_of l frames c) k age is in
          let here : (scenes frames t).hold i ≡ Some (hold_of was.c' k (Resting age)) =
          ap (scenes frames t).hold (sym tank) ∙ ap (λ (a : ℕ). (scenes frames a).hold j) (sym same) ∙ was.rests in
          let one : was.c' ≡ d = ap (λ (w : Hold). w.carrier) (some_same (hold_of was.c' k (Resting age)) (hold_of d m (Resting old_age)) (sym here ∙ has)) in
          let turn = was.carrier in
          let at = n.one c s there same (omega arith) in
          let who : get_or new c 0 ≡ get_or new n.c 0 = ap (λ (a : ℕ). get_or new a 0) at.0 in
          let tick = at.1 in
          let long = rises.here in
          omega arith)
          (before_more t i (s % length frames) j read);
    }

pub none_resting : (l : LineData) (frames : List Frame) (t h i : ℕ) (offs : List ℕ)
    → IsRester ((scenes frames t).hold i) None
    → OffsTo l frames t h i offs → OffsTo l frames t h (i + 1) offs
none_resting l frames t h i xs none offs = record {
  count = offs.count;
  after = offs.after;
  carried = offs.carried;
  rested = λ c s j k age there is read. ⊎_elim
      (λ before. offs.rested c s j k age there is before)
      (λ (same, tank).
      let was = lower_rest (s / length frames * l.degree) (scenes frames (s % length frames)) j (carrier_of l frames c) k age is in
      let here : (scenes frames t).hold i ≡ Some (hold_of was.c' k (Resting age)) =
      ap (scenes frames t).hold (sym tank) ∙ ap (λ (a : ℕ). (scenes frames a).hold j) (sym same) ∙ was.rests in
      absurd (none was.c' k age here))
      (before_more t i (s % length frames) j read);
}

-- a frame as a whole
pub offs_next : (l : LineData) (frames : List Frame) (t : ℕ) (offs : List ℕ) → IsLine l → IsReadable l frames
    → OffsTo l frames t l.hoists (length l.tanks) offs → OffsTo l frames (t + 1) 0 0 offs
offs_next l frames t xs line closed offs =
    let run = run_of l frames line closed in
    record {
      count = offs.count;
      after = offs.after;
      carried = λ c s j y there is carrier read. offs.carried c s j y there is carrier
          (before_next t l.hoists (s % length frames) j ((run.sound s).carries j y is).there read);
      rested = λ c s j k age there is read. offs.rested c s j k age there is
          (before_next t (length l.tanks) (s % length frames) j
          (run.layout.there j k ((run.sound s).there j (hold_of (carrier_of l frames c) k (Resting age)) is)) read);
    }

-- puts
pub next_from : (l : LineData) (frames : List Frame) (t : ℕ) → IsLine l → IsReadable l frames → t < length frames
    → (scenes frames 0).next ≤ (scenes frames t).next
next_from l frames t line closed lt =
    let run = run_of l frames line closed in
    let here = next_is l frames t lt in
    let first = next_is l frames 0 (omega arith) in
    let up = rises l (length frames) (for_ever l frames) 0 t run (omega arith) in
    omega arith

pub put_noted : (l : LineData) (frames : List Frame) (t : ℕ) (puts : List ℕ) → IsLine l → IsReadable l frames
    → t < length frames
    → PutsTo l frames t puts → (scenes frames t).next - (scenes frames 0).next < l.degree
    → PutsTo l frames (t + 1) (set puts ((scenes frames t).next - (scenes frames 0).next) (t + 1))
put_noted l frames t xs line closed lt puts below =
    let run = run_of l frames line closed in
    let k = (scenes frames t).next - (scenes frames 0).next in
    let here = next_is l frames t lt in
    let first = next_is l frames 0 (omega arith) in
    let from = next_from l frames t line closed lt in
    let count = puts.count in
    record {
      count = length-set xs k (t + 1) ∙ puts.count;
      told = λ c s there le put.
          let at = put_before (for_ever l frames) (carrier_of l frames c) s put in
          ⊎_elim
          (λ now.
          let is = at.is in
          let before : (for_ever l frames t).next ≡ carrier_of l frames c = ap (λ (a : ℕ). (for_ever l frames a).next) (omega arith) ∙ at.before in
          let who : c ≡ k = omega arith in
          ap (λ (a : ℕ). get_or (set xs k (t + 1)) a 0) who ∙ get_or-set_same xs k (t + 1) 0 (omega arith) ∙ sym now)
          (λ other.
          let after = at.after in
          let up = rises l (length frames) (for_ever l frames) s t run (omega arith) in
          get_or-set_other xs k c (t + 1) 0 (λ same. omega arith) ∙ puts.told c s there (omega arith) put)
          (cases_eq s (t + 1));
    }

pub none_put : (l : LineData) (frames : List Frame) (t : ℕ) (puts : List ℕ) → IsLine l → IsReadable l frames
    → t < length frames
    → PutsTo l frames t puts → l.degree ≤ (scenes frames t).next - (scenes frames 0).next → PutsTo l frames (t + 1) puts
none_put l frames t xs line closed lt puts above =
    let here = next_is l frames t lt in
    let first = next_is l frames 0 (omega arith) in
    record {
      count = puts.count;
      told = λ c s there le put.
          let at = put_before (for_ever l frames) (carrier_of l frames c) s put in
          let is = at.is in
          ⊎_elim
          (λ now.
          let before : (for_ever l frames t).next ≡ carrier_of l frames c = ap (λ (a : ℕ). (for_ever l frames a).next) (omega arith) ∙ at.before in
          absurd (omega arith))
          (λ other. puts.told c s there (omega arith) put)
          (cases_eq s (t + 1));
    }
