-- A run, counted by the steps that are done.
use Rattle.std.proofs.Common.{◌≡◌, ℕ, zero, suc, ◌+◌, ◌-◌, ◌≤◌, Option, Result, Ok, Err, ◌++◌, ap, subst, ◌∙◌, arith}
use Rattle.hoist_base.specs.LineData.{LineData}
use Rattle.tick_machine.specs.declared.breach.Breach.{Breach}
use Rattle.tick_machine.specs.Layout.{Layout, IsLayout, layout_of}
use Rattle.tick_machine.specs.Scene.{Scene, Command}
use Rattle.tick_machine.specs.Step.{step}
use Rattle.tick_machine.specs.Events.{events_of}
use Rattle.tick_machine.specs.Rules.{KeepsRules, IsBelow}
use Rattle.tick_machine.specs.Play.{Reached, Stop, step_to, next_step, steps, reached_or}
use Rattle.tick_machine.specs.Playing.{PlayingData}
use Rattle.tick_machine.proofs.PartwayStep.{step_keeps}
use Rattle.tick_machine.proofs.Bounds.{step_below}

-- the first n steps
abbrev pub done : Layout → (ℕ → Command) → ℕ → Reached → ℕ → Result Reached Stop
done l orders first r zero = Ok r
done l orders first r (suc n) = next_step l (first + n) (orders (first + n)) (done l orders first r n)

pub steps_done : (l : Layout) (orders : ℕ → Command) (first : ℕ) (r : Reached) (n : ℕ)
    → steps l orders first r n ≡ done l orders first r (suc n)
steps_done l orders first r zero =
    let e : first ≡ first + 0 = omega arith in
    ap (λ (t : ℕ). next_step l t (orders t) (Ok r)) e
steps_done l orders first r (suc n) = ap (next_step l (first + suc n) (orders (first + suc n))) (steps_done l orders first r n)

-- the step into tick t is step number t - first
pub done_next : (l : Layout) (orders : ℕ → Command) (first t : ℕ) (r : Reached) (a b : Result Reached Stop) → first ≤ t
    → done l orders first r (t - first) ≡ a → next_step l t (orders t) a ≡ b → done l orders first r (t + 1 - first) ≡ b
done_next l orders first t r a b le so next =
    let count : t + 1 - first ≡ suc (t - first) = omega arith in
    let here : first + (t - first) ≡ t = omega arith in
    ap (done l orders first r) count ∙ ap (λ (n : ℕ). next_step l n (orders n) (done l orders first r (t - first))) here
    ∙ ap (next_step l t (orders t)) so ∙ next

-- the step of a machine in play, of which its line and its tick are known
pub step_at : (m : PlayingData) (l : LineData) (t : ℕ) (orders : ℕ → Command) (breach : Option Breach) (a b : Reached)
    → m.line ≡ l → m.tick ≡ t
    → next_step (layout_of m.line) m.tick (orders m.tick) (Ok a) ≡ reached_or m.tick breach b
    → next_step (layout_of l) t (orders t) (Ok a) ≡ reached_or t breach b
step_at m l t orders breach a b line tick is =
    subst (λ (x : LineData). next_step (layout_of x) t (orders t) (Ok a) ≡ reached_or t breach b) line
    (subst (λ (n : ℕ). next_step (layout_of m.line) n (orders n) (Ok a) ≡ reached_or n breach b) tick is)

-- a breach ends the run
pub done_stays : (l : Layout) (orders : ℕ → Command) (first n m : ℕ) (r : Reached) (s : Stop)
    → done l orders first r n ≡ Err s → done l orders first r (n + m) ≡ Err s
done_stays l orders first n zero r s so = let e : n + 0 ≡ n = omega arith in ap (done l orders first r) e ∙ so
done_stays l orders first n (suc m) r s so =
    let e : n + suc m ≡ suc (n + m) = omega arith in
    ap (done l orders first r) e ∙ ap (next_step l (first + (n + m)) (orders (first + (n + m)))) (done_stays l orders first n m r s so)

pub run_refused : (l : Layout) (orders : ℕ → Command) (first t last : ℕ) (r : Reached) (a : Result Reached Stop) (s : Stop)
    → first ≤ t → t ≤ last → done l orders first r (t - first) ≡ a → next_step l t (orders t) a ≡ Err s
    → steps l orders first r (last - first) ≡ Err s
run_refused l orders first t last r a s from to so next =
    let stop = done_next l orders first t r a (Err s) from so next in
    let count : suc (last - first) ≡ t + 1 - first + (last - t) = omega arith in
    steps_done l orders first r (last - first) ∙ ap (done l orders first r) count ∙ done_stays l orders first (t + 1 - first) (last - t) r s stop

pub run_done : (l : Layout) (orders : ℕ → Command) (first last : ℕ) (r b : Reached) → first ≤ last
    → done l orders first r (last + 1 - first) ≡ Ok b → steps l orders first r (last - first) ≡ Ok b
run_done l orders first last r b le so =
    let count : suc (last - first) ≡ last + 1 - first = omega arith in
    steps_done l orders first r (last - first) ∙ ap (done l orders first r) count ∙ so

-- what a step that is made leads to
step_of : (l : Layout) (t : ℕ) (o : Command) (a b : Reached) (x : Result Scene Breach) → step_to l t o a x ≡ Ok b
    → x ≡ Ok b.frame
step_of l t o a b (Err e) is = absurd (let g = is in cc)
step_of l t o a b (Ok f) is = let g : record { frame = f; log = a.log ++ events_of l t o a.frame f } ≡ b = cc in ap (λ (r : Reached). Ok r.frame) g

pub next_keeps : (l : Layout) (t : ℕ) (o : Command) (a b : Reached) → IsLayout l → KeepsRules l a.frame
    → next_step l t o (Ok a) ≡ Ok b → KeepsRules l b.frame
next_keeps l t o a b layout rules is = step_keeps l o a.frame b.frame layout rules (step_of l t o a b (step l o a.frame) is)

pub next_below : (l : Layout) (t n : ℕ) (o : Command) (a b : Reached) → IsBelow n a.frame
    → next_step l t o (Ok a) ≡ Ok b → IsBelow (n + 1) b.frame
next_below l t n o a b below is =
    step_below l o n a.frame b.frame below (step_of l t o a b (step l o a.frame) is)
