-- The hoists that moves have below a path, and their clashes.
use Rattle.std.specs.Prelude.{ℕ, ◌+◌, ◌-◌, ◌*◌, ◌==◌, ◌&&◌, nat_le, Bool, if◌then◌else◌, List, [], ◌∷◌, filter, slice_get, Option, Some, None, option_and_then, option_map}
use Rattle.std.specs.Option.{option_or}
use Rattle.hoist_base.specs.LineData.{LineData}
use Rattle.hoist_base.specs.declared.ids.MoveId.{MoveId}
use Rattle.line_model.specs.declared.motion.Motion.{Motion}
use Rattle.collision_pairs.specs.declared.span.Span.{Span}
use Rattle.collision_pairs.specs.Clash.{clash_of}
use Rattle.choice_tree.specs.declared.question.Question.{Question}
use Rattle.choice_tree.specs.declared.question.Question.TheVariants.{Assign, TankOrder, HoistOrder, Choose}
use Rattle.choice_tree.specs.declared.question.Decision.{Decision}
use Rattle.choice_tree.specs.Nodes.{numbers_from}
pub use Rattle.path_constraints.specs.declared.rides.Ride.{Ride}
use Rattle.path_constraints.specs.Tanks.{motion_below}

-- whether hoist h reaches a position, and both ends of a motion
abbrev pub reaches : LineData → ℕ → ℕ → Bool
reaches l h at = nat_le (h * l.gap) at && nat_le (at + (l.hoists - 1 - h) * l.gap) l.track

abbrev pub reaches_motion : LineData → ℕ → Motion → Bool
reaches_motion l h m = reaches l h m.from && reaches l h m.to

-- the hoists that reach a motion, the lowest first
abbrev pub hoists_reaching : LineData → Motion → List ℕ
hoists_reaching l m = filter (λ h. reaches_motion l h m) (numbers_from 0 l.hoists)

-- the child that is taken, where the question is the Assign of move (c, k)
abbrev pub assigned_by : ℕ → ℕ → Question → ℕ → Option ℕ
assigned_by c k (Assign m) child = if (m.carrier == c) && (m.step == k) then Some child else None
assigned_by c k (TankOrder a b q) child = None
assigned_by c k (HoistOrder a b q) child = None
assigned_by c k (Choose v) child = None

-- which of the hoists that reach it move (c, k) has by its Assign on the path
abbrev pub assigned_of : List Decision → ℕ → ℕ → Option ℕ
assigned_of [] c k = None
assigned_of (d ∷ ds) c k = option_or (assigned_by c k d.question d.child) (assigned_of ds c k)

-- the hoist of a move: the only one that reaches it, or that of its Assign
abbrev pub hoist_by : List ℕ → Option ℕ → Option ℕ
hoist_by [] child = None
hoist_by (h ∷ []) child = Some h
hoist_by (h ∷ g ∷ hs) None = None
hoist_by (h ∷ g ∷ hs) (Some child) = slice_get (h ∷ g ∷ hs) child

-- the ride of move (c, k), where the path settles its motion and its hoist
abbrev pub ride_below : LineData → List Decision → ℕ → ℕ → Option Ride
ride_below l path c k =
    option_and_then
    (λ m. option_map (λ h. record { motion = m; hoist = h }) (hoist_by (hoists_reaching l m) (assigned_of path c k)))
    (motion_below l path c k)

abbrev pub hoist_below : LineData → List Decision → ℕ → ℕ → Option ℕ
hoist_below l path c k = option_map (λ r. r.hoist) (ride_below l path c k)

-- the hoists that reach move (c, k), where the path settles its motion
abbrev pub hoists_by : LineData → Option Motion → List ℕ
hoists_by l None = []
hoists_by l (Some m) = hoists_reaching l m

abbrev pub hoists_below : LineData → List Decision → ℕ → ℕ → List ℕ
hoists_below l path c k = hoists_by l (motion_below l path c k)

-- the clash of two moves, where the path settles both rides and some offset is forbidden
abbrev pub clash_between : LineData → Ride → Ride → Option Span
clash_between l x y = clash_of l x.motion x.hoist y.motion y.hoist

abbrev pub clash_below : LineData → List Decision → MoveId → MoveId → Option Span
clash_below l path a b =
    option_and_then (λ x. option_and_then (λ y. clash_between l x y) (ride_below l path b.carrier b.step))
    (ride_below l path a.carrier a.step)
