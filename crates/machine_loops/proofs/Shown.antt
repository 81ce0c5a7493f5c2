-- What the frames show of the carriers of a timetable that they show.
use Rattle.std.proofs.Common.{◌≡◌, ℕ, zero, suc, ◌+◌, ◌≤◌, ◌<◌, Option, Some, None, IfSome, ⊎_elim, sym, refl, ap, subst, ◌∙◌, arith}
use Rattle.hoist_base.specs.LineData.{LineData, last_stage}
use Rattle.tick_machine.specs.declared.frame.Carry.{Carry}
use Rattle.tick_machine.specs.Layout.{Layout, layout_of}
use Rattle.tick_machine.specs.Scene.{Scene}
use Rattle.tick_machine.specs.Points.{length_of}
use Rattle.line_model.specs.Timetable.{Timetable}
use Rattle.machine_loops.specs.Loops.{IsPutAt, IsOffAt, Shows}
use Rattle.machine_loops.proofs.StepBack.{Rests}
use Rattle.machine_loops.proofs.StepStays.{TakenOff}
use Rattle.machine_loops.proofs.Unrolled.{Unrolled}
use Rattle.machine_loops.proofs.History.{Begins, Stays, stays, begin_stay, put_once, brought, one_begin}

-- the frames of a loop, and the timetable that they show
pub record IsShown (l : LineData) (period : ℕ) (frames : ℕ → Scene) (p : Timetable) : Type 0 where
  pub run : Unrolled l period frames
  pub shows : Shows l period frames p

-- the move of step k of carrier c, as it begins
abbrev pub carry_of : (ℕ → Scene) → Timetable → ℕ → ℕ → Carry
carry_of frames p c k = record { carrier = (frames 0).next + c; step = k; elapsed = 0; from = p.tank c k; to = p.tank c (k + 1) }

-- how long it lasts
abbrev pub ticks : LineData → (ℕ → Scene) → Timetable → ℕ → ℕ → ℕ
ticks l frames p c k = length_of (layout_of l) (carry_of frames p c k)

begins : (l : LineData) (period : ℕ) (frames : ℕ → Scene) (p : Timetable) (c k : ℕ) → IsShown l period frames p
    → c < l.degree
    → k < last_stage l → Begins frames (p.start c k) (p.hoist c k) (carry_of frames p c k)
begins l period frames p c k shown there step = record { is = shown.shows.begin c k there step; new = refl }

-- it goes on until its last tick
goes_on : (l : LineData) (period : ℕ) (frames : ℕ → Scene) (u t h : ℕ) (y : Carry) → Unrolled l period frames
    → Begins frames t h y → u < length_of (layout_of l) y → (frames (t + u)).carry h ≡ Some (record y { elapsed = u })
goes_on l period frames zero t h y run begins lt =
    let e : t ≡ t + 0 = omega arith in
    ap (λ (n : ℕ). (frames n).carry h) (sym e) ∙ begins.is ∙ ap (λ (n : ℕ). Some (record y { elapsed = n })) begins.new
goes_on l period frames (suc u) t h y run begins lt =
    let e : suc (t + u) ≡ t + suc u = omega arith in
    let more : u + 1 ≡ suc u = omega arith in
    let now = goes_on l period frames u t h y run begins (omega arith) in
    let long : length_of (layout_of l) (record y { elapsed = u }) ≡ length_of (layout_of l) y = refl in
    ap (λ (n : ℕ). (frames n).carry h) (sym e) ∙ (run.passes (t + u)).goes_on h (record y { elapsed = u }) now (omega arith)
    ∙ ap (λ (n : ℕ). Some (record y { elapsed = n })) more

pub carries : (l : LineData) (period : ℕ) (frames : ℕ → Scene) (p : Timetable) (c k u : ℕ) → IsShown l period frames p
    → c < l.degree → k < last_stage l → u < ticks l frames p c k
    → (frames (p.start c k + u)).carry (p.hoist c k) ≡ Some (record (carry_of frames p c k) { elapsed = u })
carries l period frames p c k u shown there step lt = goes_on l period frames u (p.start c k) (p.hoist c k)
    (carry_of frames p c k) shown.run (begins l period frames p c k shown there step) lt

-- the carrier rests in tank i at stage k from tick a up to and without tick b
pub record Rested (l : Layout) (frames : ℕ → Scene) (i c k a b : ℕ) : Type 0 where
  pub age : ℕ
  pub until : a + age ≡ b
  pub rests : (j : ℕ) → j < age → Rests (frames (a + j)) i c k j
  pub old_enough : l.least k ≤ age

-- when a carrier is put on
pub record PutBefore (frames : ℕ → Scene) (c t : ℕ) : Type 0 where
  pub s : ℕ
  pub is : suc s ≡ t
  pub before : (frames s).next ≡ c
  pub after : (frames t).next ≡ c + 1

pub put_before : (frames : ℕ → Scene) (c t : ℕ) → IsPutAt frames c t → PutBefore frames c t
put_before frames c zero put = absurd put
put_before frames c (suc t) put = record { s = t; is = refl; before = put.0; after = put.1 }

pub rested_first : (l : LineData) (period : ℕ) (frames : ℕ → Scene) (p : Timetable) (c : ℕ) → IsShown l period frames p
    → c < l.degree → 0 < last_stage l
    → Rested (layout_of l) frames (p.tank c 0) ((frames 0).next + c) 0 (p.put c) (p.start c 0)
rested_first l period frames p c shown there step =
    let n = (frames 0).next + c in
    let b = begin_stay l period frames (p.start c 0) (p.hoist c 0) (carry_of frames p c 0) shown.run (omega arith)
    (begins l period frames p c 0 shown there step) in
    let put = put_before frames n (p.put c) (shown.shows.put c there) in
    let stay = b.stay in
    let since = stay.since in
    let is = put.is in
    ⊎_elim
    (λ set. absurd (let e = set.step in omega arith))
    (λ put'.
    let after : (frames (suc put.s)).next ≡ n + 1 = ap (λ (t : ℕ). (frames t).next) put.is ∙ put.after in
    let same : stay.s ≡ put.s = put_once l period frames stay.s put.s n shown.run put'.carrier put'.next put.before after in
    let e : suc stay.s ≡ p.put c = omega arith in
    record {
      age = b.age;
      until = omega arith;
      rests = λ j lt. subst (λ (t : ℕ). Rests (frames (t + j)) (p.tank c 0) n 0 j) e (stay.rests j lt);
      old_enough = b.old_enough;
    })
    stay.came

-- the carrier comes to rest where the move before has ended
record Comes (l : LineData) (frames : ℕ → Scene) (p : Timetable) (s i c k : ℕ) : Type 0 where
  tick : suc s ≡ p.start c k + ticks l frames p c k
  tank : p.tank c (k + 1) ≡ i

comes_next : (l : LineData) (period : ℕ) (frames : ℕ → Scene) (p : Timetable) (c k t i age : ℕ)
    → IsShown l period frames p
    → c < l.degree → k < last_stage l
    → (stay : Stays (layout_of l) frames t i ((frames 0).next + c) (k + 1) age) → Comes l frames p stay.s i c k
comes_next l period frames p c k t i age shown there step stay =
    let n = (frames 0).next + c in
    ⊎_elim
    (λ set.
    let b = brought l period frames stay.s i n (k + 1) shown.run (omega arith) set in
    let carrier = b.carrier in
    let stage = b.step in
    let here = begins l period frames p c k shown there step in
    let same = one_begin l period frames b.u (p.start c k) b.h (p.hoist c k) b.y (carry_of frames p c k) shown.run
    (omega arith) b.begins here b.carrier (omega arith) in
    let long = b.long in
    let tick = same.tick in
    let ticks : length_of (layout_of l) b.y ≡ ticks l frames p c k = ap (length_of (layout_of l)) same.carry in
    record { tick = omega arith; tank = sym (ap (λ (z : Carry). z.to) same.carry) ∙ b.tank })
    (λ put. absurd (let e = put.stage in omega arith))
    stay.came

pub record RestedNext (l : Layout) (frames : ℕ → Scene) (i c k a b : ℕ) : Type 0 where
  pub rested : Rested l frames i c k a b
  pub young_enough : IfSome (l.greatest k) (λ m. b ≤ a + m)

some_below : (o : Option ℕ) (a age b : ℕ) → a + age ≡ b → IfSome o (λ m. age ≤ m) → IfSome o (λ m. b ≤ a + m)
some_below None a age b e some = tt
some_below (Some m) a age b e some = omega arith

pub rested_next : (l : LineData) (period : ℕ) (frames : ℕ → Scene) (p : Timetable) (c k : ℕ) → IsShown l period frames p
    → c < l.degree → k + 1 < last_stage l
    → RestedNext (layout_of l) frames (p.tank c (k + 1)) ((frames 0).next + c) (k + 1) (p.start c k + ticks l frames p c k) (p.start c (k + 1))
rested_next l period frames p c k shown there step =
    let n = (frames 0).next + c in
    let b = begin_stay l period frames (p.start c (k + 1)) (p.hoist c (k + 1)) (carry_of frames p c (k + 1)) shown.run
    (omega arith) (begins l period frames p c (k + 1) shown there step) in
    let stay = b.stay in
    let comes = comes_next l period frames p c k (p.start c (k + 1)) (p.tank c (k + 1)) b.age shown there (omega arith) stay in
    let since = stay.since in
    let tick = comes.tick in
    record {
      rested = record {
        age = b.age;
        until = omega arith;
        rests = λ j lt. subst (λ (t : ℕ). Rests (frames (t + j)) (p.tank c (k + 1)) n (k + 1) j) tick (stay.rests j lt);
        old_enough = b.old_enough;
      };
      young_enough = some_below ((layout_of l).greatest (k + 1)) (p.start c k + ticks l frames p c k) b.age (p.start c (k + 1)) (omega arith) b.young_enough;
    }

-- until it is taken off
taken : (l : LineData) (period : ℕ) (frames : ℕ → Scene) (c t : ℕ) → Unrolled l period frames → IsOffAt frames c t
    → (s : ℕ) × (suc s ≡ t) × TakenOff (layout_of l) (frames s) (frames (suc s)) c
taken l period frames c zero run off = absurd off
taken l period frames c (suc t) run off = (t, refl, ⊎_elim (λ taken. taken) (λ stays. absurd (off.1 stays)) ((run.passes t).stays c off.0))

pub rested_last : (l : LineData) (period : ℕ) (frames : ℕ → Scene) (p : Timetable) (c k : ℕ) → IsShown l period frames p
    → c < l.degree → k + 1 ≡ last_stage l
    → Rested (layout_of l) frames (p.tank c (last_stage l)) ((frames 0).next + c) (last_stage l) (p.start c k + ticks l frames p c k) (p.off c)
rested_last l period frames p c k shown there last =
    let n = (frames 0).next + c in
    let (s, is, off) = taken l period frames n (p.off c) shown.run (shown.shows.off c there) in
    let stay = stays l period frames off.age s off.i n (last_stage l) shown.run (omega arith) off.comes in
    let to_last : Stays (layout_of l) frames (suc s) off.i n (k + 1) off.age = subst
    (λ (j : ℕ). Stays (layout_of l) frames (suc s) off.i n j off.age) (sym last) stay in
    let comes = comes_next l period frames p c k (suc s) off.i off.age shown there (omega arith) to_last in
    let since = to_last.since in
    let tick = comes.tick in
    let tank : p.tank c (last_stage l) ≡ off.i = ap (p.tank c) (sym last) ∙ comes.tank in
    record {
      age = off.age;
      until = omega arith;
      rests = λ j lt.
          let here : Rests (frames (suc to_last.s + j)) off.i n (k + 1) j = to_last.rests j lt in
          subst (λ (m : ℕ). Rests (frames (p.start c k + ticks l frames p c k + j)) (p.tank c (last_stage l)) n m j) last
          (subst (λ (i : ℕ). Rests (frames (p.start c k + ticks l frames p c k + j)) i n (k + 1) j) (sym tank)
          (subst (λ (t : ℕ). Rests (frames (t + j)) off.i n (k + 1) j) tick here));
      old_enough = off.old_enough;
    }
