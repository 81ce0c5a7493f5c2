-- Every loop shows a legal timetable.
use Rattle.std.proofs.Common.{◌≡◌, ℕ, zero, suc, ◌+◌, ◌-◌, ◌*◌, ◌≤◌, ◌<◌, min, Some, ⊎_elim, sym, refl, ap, ◌∙◌, arith}
use Rattle.std.proofs.lemmas.Nat.{mul-le}
use Rattle.hoist_base.specs.LineData.{LineData, last_stage}
use Rattle.line_model.specs.Timetable.{Timetable}
use Rattle.tick_machine.specs.declared.frame.Carry.{Carry}
use Rattle.tick_machine.specs.Scene.{Scene, Command}
use Rattle.machine_loops.specs.Loops.{IsLoop, Shows, IsLoopBy, frame_at, LoopsAreTimetables, NoLoopIsShorter}
use Rattle.machine_loops.proofs.Unrolled.{Unrolled, unrolled}
use Rattle.machine_loops.proofs.History.{Begins, begin_stay, brought, one_begin}
use Rattle.machine_loops.proofs.Legality.{legal}
use Rattle.machine_loops.proofs.Lives.{Begun, Life, lives, longest_stay}

-- by then the carrier has been put on: as many as the degree are in each period
pub next_after : (l : LineData) (period : ℕ) (frames : ℕ → Scene) (z : ℕ) → Unrolled l period frames
    → (frames (z * period)).next ≡ (frames 0).next + z * l.degree
next_after l period frames z run =
    let sum : 0 + z * period ≡ z * period = omega arith in
    ap (λ (t : ℕ). (frames t).next) (sym sum) ∙ ap (λ (f : Scene). f.next) (run.again z 0)

pub life : (l : LineData) (period : ℕ) (frames : ℕ → Scene) (c : ℕ) → Unrolled l period frames
    → Life l frames ((frames 0).next + c) ((c + 1) * period) (longest_stay l period)
life l period frames c run =
    let next = next_after l period frames (c + 1) run in
    let some = run.degree in
    let long : (c + 1) * 1 ≤ (c + 1) * l.degree = mul-le (c + 1) 1 (c + 1) l.degree (omega arith) some in
    lives l period frames ((frames 0).next + c) ((c + 1) * period) run (omega arith) (omega arith)

-- the move of step k of carrier c; of the last step, where there is no step k
pub record Moves (l : LineData) (frames : ℕ → Scene) (c k : ℕ) : Type 0 where
  pub end : ℕ
  pub begun : Begun frames ((frames 0).next + c) (min k (last_stage l - 1)) end

abbrev pub move : (l : LineData) (period : ℕ) (frames : ℕ → Scene) (c k : ℕ) → Unrolled l period frames → Moves l frames c k
move l period frames c k run =
    let some = run.layout.last.0 in
    let lives = life l period frames c run in
    record { end = lives.off + 1; begun = lives.begun (min k (last_stage l - 1)) (omega arith) }

abbrev pub tank_from : (ℕ → Carry) → ℕ → ℕ
tank_from carries zero = (carries 0).from
tank_from carries (suc k) = (carries k).to

-- the timetable that the frames show
abbrev pub shown : (l : LineData) (period : ℕ) (frames : ℕ → Scene) → Unrolled l period frames → Timetable
shown l period frames run = record {
  period = period;
  put = λ c. suc (life l period frames c run).put.s;
  off = λ c. (life l period frames c run).off;
  start = λ c k. (move l period frames c k run).begun.u;
  hoist = λ c k. (move l period frames c k run).begun.h;
  tank = λ c k. tank_from (λ j. (move l period frames c j run).begun.y) k;
  path = λ h t. (frames t).at h;
}

-- a carrier is lifted out of the tank into which it was lowered
pub same_tank : (l : LineData) (period : ℕ) (frames : ℕ → Scene) (c k : ℕ) (a b : Carry) (t u h h' : ℕ)
    → Unrolled l period frames
    → (frames 0).next ≤ c → Begins frames t h a → Begins frames u h' b
    → a.carrier ≡ c → b.carrier ≡ c → a.step ≡ k + 1 → b.step ≡ k → a.from ≡ b.to
same_tank l period frames c k a b t u h h' run new begins begins' carrier carrier' step step' =
    let rest = begin_stay l period frames t h a run (omega arith) begins in
    ⊎_elim
    (λ set.
    let came = brought l period frames rest.stay.s a.from a.carrier a.step run (omega arith) set in
    let who = came.carrier in
    let stage = came.step in
    let same = one_begin l period frames came.u u came.h h' came.y b run (omega arith) came.begins begins' (omega arith) (omega arith) in
    sym came.tank ∙ ap (λ (z : Carry). z.to) same.carry)
    (λ put. absurd (let e = put.stage in omega arith))
    rest.stay.came

from_tank : (l : LineData) (period : ℕ) (frames : ℕ → Scene) (c k : ℕ) (run : Unrolled l period frames)
    → k < last_stage l
    → (move l period frames c k run).begun.y.from ≡ tank_from (λ j. (move l period frames c j run).begun.y) k
from_tank l period frames c zero run lt = refl
from_tank l period frames c (suc k) run lt =
    let a = (move l period frames c (suc k) run).begun in
    let b = (move l period frames c k run).begun in
    let step = a.step in
    let step' = b.step in
    same_tank l period frames ((frames 0).next + c) k a.y b.y a.u b.u a.h b.h run
    (omega arith) a.begins b.begins a.carrier b.carrier (omega arith) (omega arith)

pub carry_is : (y : Carry) (c k from to : ℕ) → y.carrier ≡ c → y.step ≡ k → y.elapsed ≡ 0 → y.from ≡ from → y.to ≡ to → y ≡ record { carrier = c; step = k; elapsed = 0; from = from; to = to }
carry_is y c k from to a b d e f = λ p. record { carrier = a p; step = b p; elapsed = d p; from = e p; to = f p }

pub shows : (l : LineData) (period : ℕ) (frames : ℕ → Scene) (run : Unrolled l period frames)
    → Shows l period frames (shown l period frames run)
shows l period frames run = record {
  period = refl;
  put = λ c lt. let put = (life l period frames c run).put in (put.before, put.after);
  off = λ c lt. (life l period frames c run).is_off;
  begin = λ c k there lt.
      let b = (move l period frames c k run).begun in
      let step = b.step in
      let next : suc k ≡ k + 1 = omega arith in
      b.begins.is ∙ ap (λ (y : Carry). Some y) (carry_is b.y ((frames 0).next + c) k
      (tank_from (λ j. (move l period frames c j run).begun.y) k) (tank_from (λ j. (move l period frames c j run).begun.y) (k + 1))
      b.carrier (omega arith) b.begins.new (from_tank l period frames c k run lt) (ap (tank_from (λ j. (move l period frames c j run).begun.y)) next));
  path = λ h t there lt. refl;
}

pub loops_are_timetables : LoopsAreTimetables
loops_are_timetables l period frames line loop =
    let run = unrolled l period frames line loop in
    let all = frame_at l period frames in
    (shown l period all run, legal l period all (shown l period all run) (record { run = run; shows = shows l period all run }), refl, shows l period all run)

pub no_loop_is_shorter : NoLoopIsShorter
no_loop_is_shorter l least line none period frames loop =
    let (p, is_legal, same, shown) = loops_are_timetables l period frames line loop in
    let le = none p is_legal in
    omega arith

-- a loop by given orders is a loop
pub loop_of : (l : LineData) (period : ℕ) (frames : ℕ → Scene) (orders : ℕ → Command) → IsLoopBy l period frames orders
    → IsLoop l period frames
loop_of l period frames orders loop = record {
  some = loop.some;
  keeps = λ i lt. (loop.goes_on i lt).keeps;
  steps = λ i lt. (orders i, (loop.goes_on i lt).leads);
}
