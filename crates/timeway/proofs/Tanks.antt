-- The tanks that a timetable's visits use.
use Rattle.std.proofs.Common.{◌≡◌, ℕ, ◌+◌, ◌*◌, ◌<◌, length, get_or, sym, ap, ◌∙◌, arith}
use Rattle.hoist_base.specs.LineData.{LineData, IsVisit}
use Rattle.hoist_base.specs.Routes.{route_tank}
use Rattle.hoist_base.specs.Valid.{IsLine}
use Rattle.timetable.specs.TimetableData.{TimetableData, timetable_of, FitsLine}

tank_is : (l : LineData) (d : TimetableData) (c k : ℕ) → IsLine l → FitsLine l d
    → (timetable_of d).tank c k ≡ route_tank l d.tank c k
tank_is l d c k valid fits =
    let stages : d.steps + 1 ≡ length l.stages = omega (arith, fits.steps, valid.limits.stages.0) in
    ap (λ n. get_or d.tank (c * n + k) 0) stages

-- the tank of a visit is one of the line
pub there : (l : LineData) (d : TimetableData) (c k i : ℕ) → IsLine l → FitsLine l d → IsVisit l c k
    → i ≡ (timetable_of d).tank c k
    → i < length l.tanks
there l d c k i valid fits visit is =
    let below : route_tank l d.tank c k < length l.tanks = valid.stages.there k (route_tank l d.tank c k) (fits.route.serves c k visit) in
    omega (arith, is, tank_is l d c k valid fits, below)
