-- A step: the points in order, up to the first breach.
use Rattle.std.specs.Prelude.{ℕ, zero, suc, ◌-◌, Option, Some, None, Result, Ok, Err}
use Rattle.tick_machine.specs.declared.breach.Breach.{Breach}
use Rattle.tick_machine.specs.Layout.{Layout}
use Rattle.tick_machine.specs.Scene.{Scene, Command}
use Rattle.tick_machine.specs.Points.{busy, edge, moved, aged, set_down, lift_out, no_off, taken_off, no_put, put_on, no_lowering, lower_in, no_begin, begin_move, late, near}

-- the first n hoists do a point, one after another
abbrev pub each : (ℕ → Scene → Scene) → ℕ → Scene → Scene
each act zero f = f
each act (suc n) f = act n (each act n f)

-- the breach of the lowest number below n that has one
abbrev pub or_else : Option Breach → Option Breach → Option Breach
or_else None b = b
or_else (Some b) c = Some b

abbrev pub first : ℕ → (ℕ → Option Breach) → Option Breach
first zero test = None
first (suc n) test = or_else (first n test) (test n)

-- the frame, unless there is a breach
abbrev pub unless : Option Breach → Result Scene Breach → Result Scene Breach
unless None r = r
unless (Some b) r = Err b

-- what a step has made: a frame, or a breach
abbrev pub made : {A : Type 0} → Result A Breach → Scene → Result Scene Breach
made (Ok a) f = Ok f
made (Err b) f = Err b

-- the frame once the tick has passed, before its events
abbrev pub after_tick : Layout → Command → Scene → Scene
after_tick l o f = aged (moved l o f)

-- the frame before point 6, which no breach of points 4 and 5 precedes
abbrev pub after_free : Layout → Command → Scene → Scene
after_free l o f = each (lift_out l) l.hoists (each (set_down l) l.hoists (after_tick l o f))

-- the frame before point 7
abbrev pub after_off : Layout → Command → Scene → Scene
after_off l o f = taken_off l o (after_free l o f)

-- the frame before point 8
abbrev pub after_put : Layout → Command → Scene → Scene
after_put l o f = put_on l o (after_off l o f)

-- the frame before point 9
abbrev pub after_lowering : Layout → Command → Scene → Scene
after_lowering l o f = each (lower_in l) l.hoists (after_put l o f)

-- the frame at the end
abbrev pub after_begin : Layout → Command → Scene → Scene
after_begin l o f = each (begin_move l o) l.hoists (after_lowering l o f)

-- the test of hoist h at points 8 and 9 is asked of the frame that the hoists below h have made
abbrev pub step : Layout → Command → Scene → Result Scene Breach
step l o f =
    unless (first l.hoists (busy l o f))
    (unless (first l.hoists (edge l o f))
    (unless (no_off l o (after_free l o f))
    (unless (no_put l o (after_off l o f))
    (unless (first l.hoists (λ h. no_lowering l h (each (lower_in l) h (after_put l o f))))
    (unless (first l.hoists (λ h. no_begin l o h (each (begin_move l o) h (after_lowering l o f))))
    (unless (first l.tanks (late l (after_lowering l o f)))
    (unless (first (l.hoists - 1) (near l (after_begin l o f)))
    (Ok (after_begin l o f)))))))))
