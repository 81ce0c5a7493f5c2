-- The points of a step, one after another: what each tests, and what it makes of the frame.
-- Points 1 and 2 are the motions, 3 is the passing of a tick, 4 to 9 are the events, and 10 and 11 test the frame.
use Rattle.std.specs.Prelude.{ℕ, zero, suc, ◌+◌, ◌-◌, Bool, true, cond, ◌==◌, nat_lt, Option, Some, None, Result, Ok, Err}
use Rattle.std.specs.Option.{option_map}
use Rattle.tick_machine.specs.declared.frame.Carry.{Carry}
use Rattle.tick_machine.specs.declared.frame.Hold.{Hold}
use Rattle.tick_machine.specs.declared.frame.Rest.{Rest}
use Rattle.tick_machine.specs.declared.frame.Rest.TheVariants.{Lowering, Resting, Lifting}
use Rattle.tick_machine.specs.declared.order.Go.{Go}
use Rattle.tick_machine.specs.declared.order.Go.TheVariants.{Stay, Low, High}
use Rattle.tick_machine.specs.declared.breach.Breach.{Breach}
use Rattle.tick_machine.specs.declared.breach.Breach.TheVariants.{Busy, Edge, NoCarrier, Early, Held, NotThere, NoMove, NoWay, Late, Near}
use Rattle.tick_machine.specs.Layout.{Layout, move_ticks, move_place}
use Rattle.tick_machine.specs.Scene.{Scene, Command, with, hold_of}

-- the ticks of a carry's move
abbrev pub length_of : Layout → Carry → ℕ
length_of l c = move_ticks l c.step c.from c.to

-- 1: a carrying hoist stays, and begins only where its carry ends at this tick
abbrev pub busy_by : ℕ → Bool → Go → Option ℕ → Option Breach
busy_by h ends Stay None = None
busy_by h true Stay (Some to) = None
busy_by h ends go begin = Some (Busy h)

abbrev pub busy_carry : Layout → ℕ → Option Carry → Go → Option ℕ → Option Breach
busy_carry l h None go begin = None
busy_carry l h (Some c) go begin = busy_by h (c.elapsed + 1 == length_of l c) go begin

abbrev pub busy : Layout → Command → Scene → ℕ → Option Breach
busy l o f h = busy_carry l h (f.carry h) (o.go h) (o.begin h)

-- 2: a hoist without a carry stays on the track
abbrev pub edge_by : Layout → ℕ → Option Carry → Go → ℕ → Option Breach
edge_by l h None Low at = cond (at == 0) (Some (Edge h at)) None
edge_by l h None High at = cond (nat_lt at l.track) None (Some (Edge h at))
edge_by l h carry go at = None

abbrev pub edge : Layout → Command → Scene → ℕ → Option Breach
edge l o f h = edge_by l h (f.carry h) (o.go h) (f.at h)

-- a hoist that carries follows its move, another one its order
abbrev pub moved_to : Layout → Option Carry → Go → ℕ → ℕ
moved_to l (Some c) go at = move_place l c.step c.from c.to (c.elapsed + 1)
moved_to l None Stay at = at
moved_to l None Low at = at - 1
moved_to l None High at = at + 1

abbrev pub grown : Carry → Carry
grown c = record c { elapsed = c.elapsed + 1 }

abbrev pub moved : Layout → Command → Scene → Scene
moved l o f = record f { at = λ h. moved_to l (f.carry h) (o.go h) (f.at h); carry = λ h. option_map grown (f.carry h) }

-- 3: who rests is a tick older
abbrev pub older : Rest → Rest
older (Resting age) = Resting (age + 1)
older rest = rest

abbrev pub aged_hold : Hold → Hold
aged_hold x = record x { rest = older x.rest }

abbrev pub aged : Scene → Scene
aged f = record f { hold = λ i. option_map aged_hold (f.hold i) }

-- 4: hoist h ends its carry, and the carrier rests
abbrev pub set_down_by : Layout → ℕ → Option Carry → Scene → Scene
set_down_by l h None f = f
set_down_by l h (Some c) f =
    cond (c.elapsed == length_of l c)
    (record f { carry = with f.carry h None; hold = with f.hold c.to (Some (hold_of c.carrier (c.step + 1) (Resting 0))) })
    f

abbrev pub set_down : Layout → ℕ → Scene → Scene
set_down l h f = set_down_by l h (f.carry h) f

-- 5: hoist h has lifted its carrier out of the tank
abbrev pub lift_out_by : Layout → Option Carry → Scene → Scene
lift_out_by l None f = f
lift_out_by l (Some c) f = cond (c.elapsed == l.lift c.step) (record f { hold = with f.hold c.from None }) f

abbrev pub lift_out : Layout → ℕ → Scene → Scene
lift_out l h f = lift_out_by l (f.carry h) f

-- 6: off, of a carrier that rests in the unload for long enough
abbrev pub no_off_rest : Layout → Hold → Rest → Option Breach
no_off_rest l x (Resting age) =
    cond (x.stage == l.last) (cond (nat_lt age (l.least l.last)) (Some (Early x.carrier x.stage age (l.least l.last))) None) (Some (NoCarrier l.unload_tank))
no_off_rest l x rest = Some (NoCarrier l.unload_tank)

abbrev pub no_off_by : Layout → Option Hold → Option Breach
no_off_by l None = Some (NoCarrier l.unload_tank)
no_off_by l (Some x) = no_off_rest l x x.rest

abbrev pub no_off : Layout → Command → Scene → Option Breach
no_off l o f = cond o.off (no_off_by l (f.hold l.unload_tank)) None

abbrev pub taken_off : Layout → Command → Scene → Scene
taken_off l o f = cond o.off (record f { hold = with f.hold l.unload_tank None }) f

-- a tank that must be free
abbrev pub held : ℕ → Option Hold → Option Breach
held i None = None
held i (Some x) = Some (Held i x.carrier)

-- 7: put, on a load that is free
abbrev pub no_put : Layout → Command → Scene → Option Breach
no_put l o f = cond o.put (held l.load_tank (f.hold l.load_tank)) None

abbrev pub put_on : Layout → Command → Scene → Scene
put_on l o f = cond o.put (record f { hold = with f.hold l.load_tank (Some (hold_of f.next 0 (Resting 0))); next = f.next + 1 }) f

-- 8: hoist h begins to lower into a tank that is free
abbrev pub lowers_now : Layout → Carry → Bool
lowers_now l c = c.elapsed + l.lower (c.step + 1) == length_of l c

abbrev pub no_lowering_by : Layout → Option Carry → Scene → Option Breach
no_lowering_by l None f = None
no_lowering_by l (Some c) f = cond (lowers_now l c) (held c.to (f.hold c.to)) None

abbrev pub no_lowering : Layout → ℕ → Scene → Option Breach
no_lowering l h f = no_lowering_by l (f.carry h) f

abbrev pub lower_in_by : Layout → Option Carry → Scene → Scene
lower_in_by l None f = f
lower_in_by l (Some c) f = cond (lowers_now l c) (record f { hold = with f.hold c.to (Some (hold_of c.carrier (c.step + 1) Lowering)) }) f

abbrev pub lower_in : Layout → ℕ → Scene → Scene
lower_in l h f = lower_in_by l (f.carry h) f

-- 9: hoist h begins a move to a tank
-- the tank at a place, among the first n; no two tanks share a place
abbrev pub tank_among : Layout → ℕ → ℕ → Option ℕ
tank_among l at zero = None
tank_among l at (suc n) = cond (l.place n == at) (Some n) (tank_among l at n)

-- the carry that begins, or why it doesn't
abbrev pub begin_rest : Layout → ℕ → ℕ → ℕ → ℕ → Hold → Rest → Result Carry Breach
begin_rest l h at from to x (Resting age) =
    cond (nat_lt x.stage l.last)
    (cond (l.serves to (x.stage + 1))
    (cond (nat_lt age (l.least x.stage)) (Err (Early x.carrier x.stage age (l.least x.stage)))
    (Ok (record { carrier = x.carrier; step = x.stage; elapsed = 0; from = from; to = to })))
    (Err (NoWay h to)))
    (Err (NoMove x.carrier x.stage))
begin_rest l h at from to x rest = Err (NotThere h at)

abbrev pub begin_hold : Layout → ℕ → ℕ → ℕ → ℕ → Option Hold → Result Carry Breach
begin_hold l h at from to None = Err (NotThere h at)
begin_hold l h at from to (Some x) = begin_rest l h at from to x x.rest

abbrev pub begin_tank : Layout → ℕ → ℕ → ℕ → Option ℕ → Scene → Result Carry Breach
begin_tank l h at to None f = Err (NotThere h at)
begin_tank l h at to (Some from) f = begin_hold l h at from to (f.hold from)

abbrev pub begun : Layout → ℕ → ℕ → Scene → Result Carry Breach
begun l h to f = begin_tank l h (f.at h) to (tank_among l (f.at h) l.tanks) f

abbrev pub refusal : Result Carry Breach → Option Breach
refusal (Ok c) = None
refusal (Err b) = Some b

abbrev pub no_begin_by : Layout → ℕ → Option ℕ → Scene → Option Breach
no_begin_by l h None f = None
no_begin_by l h (Some to) f = refusal (begun l h to f)

abbrev pub no_begin : Layout → Command → ℕ → Scene → Option Breach
no_begin l o h f = no_begin_by l h (o.begin h) f

abbrev pub carrying : ℕ → Result Carry Breach → Scene → Scene
carrying h (Err b) f = f
carrying h (Ok c) f = record f { carry = with f.carry h (Some c); hold = with f.hold c.from (Some (hold_of c.carrier c.step Lifting)) }

abbrev pub begin_by : Layout → ℕ → Option ℕ → Scene → Scene
begin_by l h None f = f
begin_by l h (Some to) f = carrying h (begun l h to f) f

abbrev pub begin_move : Layout → Command → ℕ → Scene → Scene
begin_move l o h f = begin_by l h (o.begin h) f

-- 10: who rests in tank i for too long
abbrev pub late_rest : Hold → ℕ → Option ℕ → Option Breach
late_rest x age None = None
late_rest x age (Some bound) = cond (nat_lt bound age) (Some (Late x.carrier x.stage age bound)) None

abbrev pub late_hold : Layout → Hold → Rest → Option Breach
late_hold l x (Resting age) = late_rest x age (l.greatest x.stage)
late_hold l x rest = None

abbrev pub late_by : Layout → Option Hold → Option Breach
late_by l None = None
late_by l (Some x) = late_hold l x x.rest

abbrev pub late : Layout → Scene → ℕ → Option Breach
late l f i = late_by l (f.hold i)

-- 11: the hoist above hoist h keeps the gap
abbrev pub near_by : Layout → ℕ → ℕ → ℕ → Option Breach
near_by l h low high = cond (nat_lt high (low + l.gap)) (Some (Near h low high)) None

abbrev pub near : Layout → Scene → ℕ → Option Breach
near l f h = near_by l h (f.at h) (f.at (h + 1))
