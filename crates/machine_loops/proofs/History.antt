-- How a carrier that came after the first frame has come to where it is.
use Rattle.std.proofs.Common.{◌≡◌, ℕ, zero, suc, ◌+◌, ◌-◌, ◌≤◌, ◌<◌, Some, IfSome, ◌⊎◌, ⊎_elim, sym, refl, ap, subst, ◌∙◌, arith}
use Rattle.std.proofs.lemmas.Bool.{cases_eq, cases_order}
use Rattle.hoist_base.specs.LineData.{LineData}
use Rattle.tick_machine.specs.declared.frame.Carry.{Carry}
use Rattle.tick_machine.specs.Layout.{Layout, layout_of}
use Rattle.tick_machine.specs.Scene.{Scene}
use Rattle.tick_machine.specs.Points.{length_of}
use Rattle.machine_loops.proofs.StepBack.{Rests, Comes, SetsDown, PutsOn, some_same}
use Rattle.machine_loops.proofs.Unrolled.{Unrolled}

-- the same carry as it begins
abbrev pub fresh : Carry → Carry
fresh y = record y { elapsed = 0 }

fresh_is : (y : Carry) → y.elapsed ≡ 0 → y ≡ fresh y
fresh_is y e = λ p. record y { elapsed = e p }

-- hoist h begins the carry y at tick t
pub record Begins (frames : ℕ → Scene) (t h : ℕ) (y : Carry) : Type 0 where
  pub is : (frames t).carry h ≡ Some y
  pub new : y.elapsed ≡ 0

-- when a carry began
pub record Began (frames : ℕ → Scene) (t h : ℕ) (y : Carry) : Type 0 where
  pub s : ℕ
  pub since : s + y.elapsed ≡ t
  pub is : (frames s).carry h ≡ Some (fresh y)

pub began : (l : LineData) (period : ℕ) (frames : ℕ → Scene) (e t h : ℕ) (y : Carry) → Unrolled l period frames
    → (frames 0).next ≤ y.carrier → y.elapsed ≡ e → (frames t).carry h ≡ Some y → Began frames t h y
began l period frames zero t h y run new elapsed is = record { s = t; since = omega arith; is = is ∙ ap (λ (z : Carry). Some z) (fresh_is y elapsed) }
began l period frames (suc e) zero h y run new elapsed is = let known = ((run.sound 0).carries h y is).known in absurd (omega arith)
began l period frames (suc e) (suc t) h y run new elapsed is =
    ⊎_elim
    (λ begins. let now = begins.new in absurd (omega arith))
    (λ was.
    let x = was.x in
    let more : x.elapsed + 1 ≡ y.elapsed = ap (λ (z : Carry). z.elapsed) was.is in
    let carrier : x.carrier ≡ y.carrier = ap (λ (z : Carry). z.carrier) was.is in
    let before = began l period frames e t h x run (omega arith) (omega arith) was.was in
    record {
      s = before.s;
      since = let since = before.since in omega arith;
      is = before.is ∙ ap (λ (z : Carry). Some (fresh z)) was.is;
    })
    ((run.passes t).carried h y is)

-- carrier c has rested at stage k in tank i for `age` ticks by tick t, since it came at the end of tick s
abbrev pub Came : Layout → (ℕ → Scene) → ℕ → ℕ → ℕ → ℕ → Type 0
Came l frames s i c k = SetsDown l (frames s) i c k ⊎ PutsOn (frames s) (frames (suc s)) c k

pub record Stays (l : Layout) (frames : ℕ → Scene) (t i c k age : ℕ) : Type 0 where
  pub s : ℕ
  pub came : Came l frames s i c k
  pub since : suc s + age ≡ t
  pub rests : (j : ℕ) → j < age → Rests (frames (suc s + j)) i c k j

pub stays : (l : LineData) (period : ℕ) (frames : ℕ → Scene) (age t i c k : ℕ) → Unrolled l period frames
    → (frames 0).next ≤ c
    → Comes (layout_of l) (frames t) (frames (suc t)) i c k age
    → Stays (layout_of l) frames (suc t) i c k age
stays l period frames zero t i c k run new comes = record { s = t; came = comes; since = omega arith; rests = λ j lt. absurd (omega arith) }
stays l period frames (suc age) zero i c k run new rests = let known = (run.sound 0).known i c k age rests in absurd (omega arith)
stays l period frames (suc age) (suc t) i c k run new rests =
    let before = stays l period frames age t i c k run new ((run.passes t).rests i c k age rests) in
    let since = before.since in
    record {
      s = before.s;
      came = before.came;
      since = omega arith;
      rests = λ j lt. ⊎_elim
          (λ here. let e : suc t ≡ suc before.s + j = omega arith in subst (λ (n : ℕ). Rests (frames n) i c k j) e
          (subst (λ (n : ℕ). Rests (frames (suc t)) i c k n) (sym here) rests))
          (λ other. before.rests j (omega arith))
          (cases_eq j age);
    }

-- a carry that begins, with the rest before it
pub record BeginStay (l : Layout) (frames : ℕ → Scene) (t : ℕ) (y : Carry) : Type 0 where
  pub age : ℕ
  pub stay : Stays l frames t y.from y.carrier y.step age
  pub old_enough : l.least y.step ≤ age
  pub young_enough : IfSome (l.greatest y.step) (λ m. age ≤ m)

pub begin_stay : (l : LineData) (period : ℕ) (frames : ℕ → Scene) (t h : ℕ) (y : Carry) → Unrolled l period frames
    → (frames 0).next ≤ y.carrier → Begins frames t h y → BeginStay (layout_of l) frames t y
begin_stay l period frames zero h y run new begins = let known = ((run.sound 0).carries h y begins.is).known in absurd (omega arith)
begin_stay l period frames (suc t) h y run new begins =
    ⊎_elim
    (λ now. record {
      age = now.age;
      stay = stays l period frames now.age t y.from y.carrier y.step run new now.comes;
      old_enough = now.old_enough;
      young_enough = now.young_enough;
    })
    (λ was.
    let more : was.x.elapsed + 1 ≡ y.elapsed = ap (λ (z : Carry). z.elapsed) was.is in
    let now = begins.new in
    absurd (omega arith))
    ((run.passes t).carried h y begins.is)

-- the next carrier never goes back
pub next_rises : (l : LineData) (period : ℕ) (frames : ℕ → Scene) (n t : ℕ) → Unrolled l period frames
    → (frames t).next ≤ (frames (t + n)).next
next_rises l period frames zero t run = let e : (frames (t + 0)).next ≡ (frames t).next = ap (λ (n : ℕ). (frames n).next) (omega arith) in omega arith
next_rises l period frames (suc n) t run =
    let below = next_rises l period frames n t run in
    let e : (frames (t + suc n)).next ≡ (frames (suc (t + n))).next = ap (λ (n : ℕ). (frames n).next) (omega arith) in
    ⊎_elim (λ same. omega arith) (λ more. omega arith) (run.passes (t + n)).next

pub rises : (l : LineData) (period : ℕ) (frames : ℕ → Scene) (s t : ℕ) → Unrolled l period frames → s ≤ t
    → (frames s).next ≤ (frames t).next
rises l period frames s t run le =
    let e : s + (t - s) ≡ t = omega arith in
    subst (λ (n : ℕ). (frames s).next ≤ (frames n).next) e (next_rises l period frames (t - s) s run)

-- a carrier is put on once
pub put_once : (l : LineData) (period : ℕ) (frames : ℕ → Scene) (s s' c : ℕ) → Unrolled l period frames
    → (frames s).next ≡ c
    → (frames (suc s)).next ≡ c + 1 → (frames s').next ≡ c → (frames (suc s')).next ≡ c + 1 → s ≡ s'
put_once l period frames s s' c run before after before' after' =
    ⊎_elim (λ same. same)
    (λ other. ⊎_elim
    (λ less. absurd (let up = rises l period frames (suc s) s' run (omega arith) in omega arith))
    (λ more. absurd (let up = rises l period frames (suc s') s run (omega arith) in omega arith))
    other)
    (cases_order s s')

-- the carry that ended as carrier c came to rest, as it began
pub record Brought (l : Layout) (frames : ℕ → Scene) (s i c k : ℕ) : Type 0 where
  pub u : ℕ
  pub h : ℕ
  pub y : Carry
  pub begins : Begins frames u h y
  pub carrier : y.carrier ≡ c
  pub step : y.step + 1 ≡ k
  pub tank : y.to ≡ i
  pub long : u + length_of l y ≡ suc s

pub brought : (l : LineData) (period : ℕ) (frames : ℕ → Scene) (s i c k : ℕ) → Unrolled l period frames
    → (frames 0).next ≤ c
    → SetsDown (layout_of l) (frames s) i c k → Brought (layout_of l) frames s i c k
brought l period frames s i c k run new set =
    let carrier = set.carrier in
    let ends = set.ends in
    let began = began l period frames set.y.elapsed s set.h set.y run (omega arith) refl set.is in
    let since = began.since in
    let long : length_of (layout_of l) (fresh set.y) ≡ length_of (layout_of l) set.y = refl in
    record {
      u = began.s;
      h = set.h;
      y = fresh set.y;
      begins = record { is = began.is; new = refl };
      carrier = set.carrier;
      step = set.step;
      tank = set.tank;
      long = omega arith;
    }

-- a carrier doesn't begin the move of step k twice
abbrev BeginsOnce : LineData → (ℕ → Scene) → ℕ → Type 0
BeginsOnce l frames k =
    (t t' h h' : ℕ) (y y' : Carry) → (frames 0).next ≤ y.carrier → Begins frames t h y → Begins frames t' h' y'
    → y.carrier ≡ y'.carrier → y.step ≡ k → y'.step ≡ k → t < t' → ⊥

begins_same : (l : LineData) (frames : ℕ → Scene) (k t t' h h' : ℕ) (y y' : Carry) → BeginsOnce l frames k
    → (frames 0).next ≤ y.carrier → Begins frames t h y → Begins frames t' h' y' → y.carrier ≡ y'.carrier → y.step ≡ k
    → y'.step ≡ k → t ≡ t'
begins_same l frames k t t' h h' y y' once new begins begins' carrier step step' =
    ⊎_elim (λ same. same)
    (λ other. ⊎_elim
    (λ less. absurd (once t t' h h' y y' new begins begins' carrier step step' less))
    (λ more. absurd (once t' t h' h y' y (omega arith) begins' begins (sym carrier) step' step more))
    other)
    (cases_order t t')

-- two begins of one carrier at one tick are one
same_begin : (l : LineData) (period : ℕ) (frames : ℕ → Scene) (t t' h h' : ℕ) (y y' : Carry) → Unrolled l period frames
    → Begins frames t h y → Begins frames t' h' y' → y.carrier ≡ y'.carrier → t ≡ t' → (h ≡ h') × (y ≡ y')
same_begin l period frames t t' h h' y y' run begins begins' carrier same =
    let is' : (frames t).carry h' ≡ Some y' = ap (λ (n : ℕ). (frames n).carry h') same ∙ begins'.is in
    let hoist : h ≡ h' = (run.sound t).one_hoist h h' y y' begins.is is' carrier in
    (hoist, some_same y y' (sym begins.is ∙ ap (λ (n : ℕ). (frames t).carry n) hoist ∙ is'))

-- nor does it come to rest twice at one stage
came_once : (l : LineData) (period : ℕ) (frames : ℕ → Scene) (k s s' i i' c : ℕ) → Unrolled l period frames
    → (frames 0).next ≤ c
    → ((j : ℕ) → j + 1 ≡ k → BeginsOnce l frames j)
    → Came (layout_of l) frames s i c k → Came (layout_of l) frames s' i' c k → s ≡ s'
came_once l period frames k s s' i i' c run new once came came' =
    ⊎_elim
    (λ set. ⊎_elim
    (λ set'.
    let b = brought l period frames s i c k run new set in
    let b' = brought l period frames s' i' c k run new set' in
    let carrier : b.y.carrier ≡ b'.y.carrier = b.carrier ∙ sym b'.carrier in
    let first = b.carrier in
    let step = b.step in
    let step' = b'.step in
    let u : b.u ≡ b'.u = begins_same l frames b.y.step b.u b'.u b.h b'.h b.y b'.y (once b.y.step b.step)
    (omega arith) b.begins b'.begins carrier refl (omega arith) in
    let y : b.y ≡ b'.y = (same_begin l period frames b.u b'.u b.h b'.h b.y b'.y run b.begins b'.begins carrier u).1 in
    let long : length_of (layout_of l) b.y ≡ length_of (layout_of l) b'.y = ap (length_of (layout_of l)) y in
    let ends = b.long in
    let ends' = b'.long in
    omega arith)
    (λ put'. absurd (let step = set.step in let stage = put'.stage in omega arith))
    came')
    (λ put. ⊎_elim
    (λ set'. absurd (let step = set'.step in let stage = put.stage in omega arith))
    (λ put'. put_once l period frames s s' c run put.carrier put.next put'.carrier put'.next)
    came')
    came

begins_once : (l : LineData) (period : ℕ) (frames : ℕ → Scene) (k : ℕ) → Unrolled l period frames
    → ((j : ℕ) → j + 1 ≡ k → BeginsOnce l frames j) → BeginsOnce l frames k
begins_once l period frames k run once = λ t t' h h' y y' new begins begins' carrier step step' lt.
    let stay = (begin_stay l period frames t h y run new begins).stay in
    let age = (begin_stay l period frames t h y run new begins).age in
    let next = begin_stay l period frames t' h' y' run (omega arith) begins' in
    let came : Came (layout_of l) frames stay.s y.from y.carrier k = subst (λ (j : ℕ). Came (layout_of l) frames stay.s y.from y.carrier j) step stay.came in
    let came' : Came (layout_of l) frames next.stay.s y'.from y.carrier k =
    subst (λ (n : ℕ). Came (layout_of l) frames next.stay.s y'.from n k) (sym carrier)
    (subst (λ (j : ℕ). Came (layout_of l) frames next.stay.s y'.from y'.carrier j) step' next.stay.came) in
    let same : stay.s ≡ next.stay.s = came_once l period frames k stay.s next.stay.s y.from y'.from y.carrier run new once came came' in
    let since = stay.since in
    let since' = next.stay.since in
    let here : suc next.stay.s + age ≡ t = omega arith in
    let rests : Rests (frames t) y'.from y'.carrier y'.step age = subst
    (λ (n : ℕ). Rests (frames n) y'.from y'.carrier y'.step age) here (next.stay.rests age (omega arith)) in
    (run.sound t).not_both y'.from y'.carrier y'.step age h y rests begins.is carrier

never_twice : (l : LineData) (period : ℕ) (frames : ℕ → Scene) (k : ℕ) → Unrolled l period frames
    → BeginsOnce l frames k
never_twice l period frames zero run = begins_once l period frames zero run (λ j e. absurd (omega arith))
never_twice l period frames (suc k) run = begins_once l period frames (suc k) run
    (λ j e. let same : k ≡ j = omega arith in subst (λ (n : ℕ). BeginsOnce l frames n) same
    (never_twice l period frames k run))

-- what a carrier begins by one step, it begins once, by one hoist
pub record SameBegin (t t' h h' : ℕ) (y y' : Carry) : Type 0 where
  pub tick : t ≡ t'
  pub hoist : h ≡ h'
  pub carry : y ≡ y'

pub one_begin : (l : LineData) (period : ℕ) (frames : ℕ → Scene) (t t' h h' : ℕ) (y y' : Carry)
    → Unrolled l period frames
    → (frames 0).next ≤ y.carrier → Begins frames t h y → Begins frames t' h' y'
    → y.carrier ≡ y'.carrier → y.step ≡ y'.step → SameBegin t t' h h' y y'
one_begin l period frames t t' h h' y y' run new begins begins' carrier step =
    let tick : t ≡ t' = begins_same l frames y.step t t' h h' y y' (never_twice l period frames y.step run) new begins begins' carrier refl (sym step) in
    let same = same_begin l period frames t t' h h' y y' run begins begins' carrier tick in
    record { tick = tick; hoist = same.0; carry = same.1 }
