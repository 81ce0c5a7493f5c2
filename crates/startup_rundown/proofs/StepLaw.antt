-- A whole step follows the plan without a breach.
use Rattle.std.proofs.Common.{◌≡◌, ℕ, zero, suc, ◌+◌, ◌-◌, ◌≤◌, ◌<◌, Option, Some, None, Result, Ok, Err, sym, refl, ap, subst, ◌∙◌, arith}
use Rattle.std.specs.Prelude.{Bool, true, false, cond, ◌==◌}
use Rattle.tick_machine.specs.declared.frame.Carry.{Carry}
use Rattle.tick_machine.specs.declared.breach.Breach.{Breach}
use Rattle.tick_machine.specs.declared.frame.Rest.TheVariants.{Resting}
use Rattle.tick_machine.specs.Layout.{Layout, move_place}
use Rattle.tick_machine.specs.Scene.{Scene, Command, with}
use Rattle.tick_machine.specs.Points.{busy, edge, moved, length_of, set_down_by, set_down, lift_out_by, lift_out, lowers_now, lower_in_by, lower_in, begun, carrying, begin_by, begin_move}
use Rattle.tick_machine.specs.Step.{each, or_else, first, unless, after_tick, after_free, after_off, after_put, after_lowering, after_begin, step}
use Rattle.startup_rundown.proofs.Plan.{Plan, IsPlan, Orders, IsTracked}
use Rattle.startup_rundown.proofs.Shown.{Shows}
use Rattle.startup_rundown.proofs.Ticks.{clock}
use Rattle.startup_rundown.proofs.SetDown.{set_down_shows}
use Rattle.startup_rundown.proofs.LiftOut.{lift_out_shows}
use Rattle.startup_rundown.proofs.OffPut.{off_shows, put_shows}
use Rattle.startup_rundown.proofs.LowerIn.{lowering, lower_in_shows}
use Rattle.startup_rundown.proofs.Begins.{beginning, Stands, begin_shows}
use Rattle.startup_rundown.proofs.Passing.{whole}
use Rattle.startup_rundown.proofs.LastPoints.{late_none, near_none}

-- what one hoist after another keeps
pub each_holds : (P : ℕ → Scene → Type 0) (act : ℕ → Scene → Scene) (n : ℕ) (f : Scene) → P 0 f
    → ((h : ℕ) (g : Scene) → h < n → P h g → P (h + 1) (act h g)) → P n (each act n f)
each_holds P act zero f start keeps = start
each_holds P act (suc n) f start keeps =
    let e : n + 1 ≡ suc n = omega arith in
    subst (λ (m : ℕ). P m (act n (each act n f))) e (keeps n (each act n f) (omega arith) (each_holds P act n f start (λ h g lt. keeps h g (omega arith))))

pub first_none : (n : ℕ) (test : ℕ → Option Breach) → ((h : ℕ) → h < n → test h ≡ None) → first n test ≡ None
first_none zero test none = refl
first_none (suc n) test none = ap (λ (b : Option Breach). or_else b (test n)) (first_none n test (λ h lt. none h (omega arith))) ∙ none n (omega arith)

unless_none : (b : Option Breach) (r : Result Scene Breach) → b ≡ None → unless b r ≡ r
unless_none b r e = ap (λ (c : Option Breach). unless c r) e

-- the points move no hoist
set_down_kept : (l : Layout) (h : ℕ) (o : Option Carry) (f : Scene) → (set_down_by l h o f).at ≡ f.at
set_down_kept l h None f = refl
set_down_kept l h (Some c) f = branch (c.elapsed == length_of l c)
  where
    branch : (b : Bool) → (cond b (record f {
      carry = with f.carry h None;
      hold = with f.hold c.to (Some (record { carrier = c.carrier; stage = c.step + 1; rest = Resting 0 }));
    }) f).at
        ≡ f.at
    branch true = refl
    branch false = refl

cond_kept : (b : Bool) (g f : Scene) → g.at ≡ f.at → (cond b g f).at ≡ f.at
cond_kept true g f e = e
cond_kept false g f e = refl

lift_out_kept : (l : Layout) (o : Option Carry) (f : Scene) → (lift_out_by l o f).at ≡ f.at
lift_out_kept l None f = refl
lift_out_kept l (Some c) f = cond_kept (c.elapsed == l.lift c.step) _ f refl

lower_in_kept : (l : Layout) (o : Option Carry) (f : Scene) → (lower_in_by l o f).at ≡ f.at
lower_in_kept l None f = refl
lower_in_kept l (Some c) f = cond_kept (lowers_now l c) _ f refl

carrying_kept : (h : ℕ) (r : Result Carry Breach) (f : Scene) → (carrying h r f).at ≡ f.at
carrying_kept h (Ok c) f = refl
carrying_kept h (Err b) f = refl

begin_kept : (l : Layout) (h : ℕ) (o : Option ℕ) (f : Scene) → (begin_by l h o f).at ≡ f.at
begin_kept l h None f = refl
begin_kept l h (Some to) f = carrying_kept h (begun l h to f) f

each_kept : (act : ℕ → Scene → Scene) (n : ℕ) (f : Scene) → ((h : ℕ) (g : Scene) → (act h g).at ≡ g.at)
    → (each act n f).at ≡ f.at
each_kept act zero f keeps = refl
each_kept act (suc n) f keeps = keeps n (each act n f) ∙ each_kept act n f keeps

-- at the start of a move the hoist is at its first tank
starts_at : (l : Layout) (k from to : ℕ) → move_place l k from to 0 ≡ l.place from
unfolding move_place
starts_at l k from to = omega arith

-- the frame shows the tick, with its positions
pub record IsAt (l : Layout) (s : Plan) (pos : ℕ → ℕ → ℕ) (t : ℕ) (f : Scene) : Type 0 where
  pub shows : Shows s (whole l t) f
  pub at : (h : ℕ) → h < l.hoists → f.at h ≡ pos h t

-- the events of a tick, once the hoists are where they are at it
pub record Passed (l : Layout) (s : Plan) (pos : ℕ → ℕ → ℕ) (t : ℕ) (o : Command) (f : Scene) : Type 0 where
  pub no_busy : (h : ℕ) → h < l.hoists → busy l o f h ≡ None
  pub no_edge : (h : ℕ) → h < l.hoists → edge l o f h ≡ None
  pub at : (h : ℕ) → h < l.hoists → (moved l o f).at h ≡ pos h t
  pub shows : Shows s (clock t 0 0 0 0) (after_tick l o f)

-- the frame after points 4 and 5
pub free_shows : (l : Layout) (s : Plan) (pos : ℕ → ℕ → ℕ) (t : ℕ) (o : Command) (f : Scene) → IsPlan l s
    → Passed l s pos t o f → Shows s (clock t l.hoists l.hoists 0 0) (after_free l o f)
free_shows l s pos t o f plan passed =
    let f3 = after_tick l o f in
    let f4 = each (set_down l) l.hoists f3 in
    let s4 : Shows s (clock t l.hoists 0 0 0) f4 = each_holds (λ h g. Shows s (clock t h 0 0 0) g)
    (set_down l) l.hoists f3 passed.shows (λ h g lt p. set_down_shows l s t h g plan lt p) in
    each_holds (λ h g. Shows s (clock t l.hoists h 0 0) g) (lift_out l) l.hoists f4 s4 (λ h g lt p. lift_out_shows l s t h g plan lt p)

pub events : (l : Layout) (s : Plan) (pos : ℕ → ℕ → ℕ) (t : ℕ) (o : Command) (f : Scene) → IsPlan l s
    → IsTracked l s pos → Orders s t o → Passed l s pos t o f
    → (step l o f ≡ Ok (after_begin l o f)) × IsAt l s pos t (after_begin l o f)
events l s pos t o f plan track orders passed =
    let f3 = after_tick l o f in
    let f4 = each (set_down l) l.hoists f3 in
    let f5 = after_free l o f in
    let f6 = after_off l o f in
    let f7 = after_put l o f in
    let f8 = after_lowering l o f in
    let f9 = after_begin l o f in
    let s5 : Shows s (clock t l.hoists l.hoists 0 0) f5 = free_shows l s pos t o f plan passed in
    let s6 = off_shows l s t o f5 plan orders s5 in
    let s7 = put_shows l s t o f6 plan orders s6.1 in
    let low : (n : ℕ) → n ≤ l.hoists → Shows s (lowering l t n) (each (lower_in l) n f7) =
    λ n le. each_holds (λ h g. Shows s (lowering l t h) g) (lower_in l) n f7 s7.1 (λ h g lt p. (lower_in_shows l s t h g plan (omega arith) p).1) in
    let s8 = low l.hoists (omega arith) in
    let a3 : f8.at ≡ (moved l o f).at =
    each_kept (lower_in l) l.hoists f7 (λ h g. lower_in_kept l (g.carry h) g) ∙ cond_kept o.put _ f6 refl ∙ cond_kept o.off _ f5 refl
    ∙ each_kept (lift_out l) l.hoists f4 (λ h g. lift_out_kept l (g.carry h) g) ∙ each_kept (set_down l) l.hoists f3 (λ h g. set_down_kept l h (g.carry h) g) in
    let kept : (n : ℕ) → (each (begin_move l o) n f8).at ≡ (moved l o f).at = λ n. each_kept (begin_move l o) n f8 (λ h g. begin_kept l h (o.begin h) g) ∙ a3 in
    let at : (g : Scene) → g.at ≡ (moved l o f).at → (h : ℕ) → h < l.hoists → g.at h ≡ pos h t = λ g e h lt. ap (λ (p : ℕ → ℕ). p h) e ∙ passed.at h lt in
    let stands : (g : Scene) → g.at ≡ (moved l o f).at → Stands l s t g = λ g e c k v is.
    let m = plan.moves c k v in
    let here = track.moves c k 0 v (omega arith) in
    let tick : pos (s.lifter c k) (s.lift c k + 0) ≡ pos (s.lifter c k) t = ap (pos (s.lifter c k)) (omega arith) in
    at g e (s.lifter c k) m.there ∙ sym tick ∙ here ∙ starts_at l k (s.tank c k) (s.tank c (k + 1)) in
    let start8 : Shows s (beginning l t 0) f8 = s8 in
    let begin : (n : ℕ) → n ≤ l.hoists → Shows s (beginning l t n) (each (begin_move l o) n f8) × ((each (begin_move l o) n f8).at ≡ (moved l o f).at) =
    λ n le. each_holds (λ h g. Shows s (beginning l t h) g × (g.at ≡ (moved l o f).at)) (begin_move l o) n f8 (start8, a3)
    (λ h g lt p. ((begin_shows l s t h o g plan orders (omega arith) (stands g p.1) p.0).1, begin_kept l h (o.begin h) g ∙ p.1)) in
    let done = begin l.hoists (omega arith) in (
      unless_none _ _ (first_none l.hoists _ passed.no_busy)
          ∙ unless_none _ _ (first_none l.hoists _ passed.no_edge)
          ∙ unless_none _ _ s6.0
          ∙ unless_none _ _ s7.0
          ∙ unless_none _ _ (first_none l.hoists _ (λ h lt. (lower_in_shows l s t h (each (lower_in l) h f7) plan lt (low h (omega arith))).0))
          ∙ unless_none _ _ (first_none l.hoists _ (λ h lt. let b = begin h
          (omega arith) in (begin_shows l s t h o (each (begin_move l o) h f8) plan orders lt
          (stands (each (begin_move l o) h f8) b.1) b.0).0))
          ∙ unless_none _ _ (first_none l.tanks _ (λ i lt. late_none l s t l.hoists i f8 plan s8))
          ∙ unless_none _ _ (first_none (l.hoists - 1) _ (λ h lt. near_none l s pos t h f9 track (omega arith)
          (at f9 done.1 h (omega arith)) (at f9 done.1 (h + 1) (omega arith)))),
      record { shows = done.0; at = at f9 done.1 },
    )
