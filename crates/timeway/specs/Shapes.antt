-- The shapes of the time-way diagram, as elements. In the plot a tick is one to the right and a position is one upward,
-- so the numbers of a shape are those of the timetable. The plot begins one period after tick 0 and shows two periods.
use Rattle.std.specs.Prelude.{ℕ, ◌+◌, ◌-◌, ◌*◌, ◌%◌, ◌==◌, ◌||◌, not, Bool, cond, List, [], ◌++◌, codes, decimal, length, Option, Some, None}
use Rattle.std.specs.Int.{abs_diff}
use Rattle.std.specs.List.{flat_map, range_with_len}
use Rattle.hoist_base.specs.LineData.{LineData, stage, tank, position_of}
use Rattle.line_model.specs.declared.motion.Motion.{Motion}
use Rattle.line_model.specs.Motion.{duration}
use Rattle.line_model.specs.Timetable.{Timetable, position, motion}
use Rattle.line_model.specs.Legal.{hold_begin, hold_end}
use Rattle.timetable.specs.Faults.{arrival, departure, least_dwell}
use Rattle.markup.specs.declared.words.Tag.TheVariants as tags
use Rattle.markup.specs.declared.words.Key.TheVariants as keys
use Rattle.markup.specs.Forms.{Form, fresh, having, saying, holding}

-- the tick of the plot that shows a tick, in the plot's first, second or third period
abbrev pub shown : Timetable → ℕ → ℕ → ℕ
shown p t turn = t % p.period + turn * p.period

-- how far below the end of the track a position is
abbrev pub below : LineData → ℕ → ℕ
below l at = l.track - at

-- a point of a line: a tick and a position
abbrev pub point_text : LineData → ℕ → ℕ → List ℕ
point_text l t at = decimal t ++ (codes "," ++ (decimal (below l at) ++ codes " "))

-- a straight line from one point to another
abbrev pub straight : ℕ → ℕ → ℕ → ℕ → Form
straight x1 y1 x2 y2 =
    having (having (having (having (fresh tags.Line) keys.X1 (decimal x1)) keys.Y1 (decimal y1)) keys.X2 (decimal x2)) keys.Y2 (decimal y2)

-- a group of a class with a title, which is shown where one points at it
abbrev pub titled : List ℕ → List ℕ → Form
titled class title = holding (having (fresh tags.Group) keys.Class class) (saying (fresh tags.Title) title)

-- ---- the ways of hoists

-- the hoist changes its direction at a tick
abbrev pub is_turn : Timetable → ℕ → ℕ → Bool
is_turn p h t = not (position p h (t - 1) + position p h (t + 1) == 2 * position p h t)

-- the way has a corner there: it begins or ends, or the direction changes
abbrev pub is_corner : Timetable → ℕ → ℕ → Bool
is_corner p h t = (t == p.period) || ((t == 3 * p.period) || is_turn p h t)

abbrev pub corner_text : LineData → Timetable → ℕ → ℕ → List ℕ
corner_text l p h t = cond (is_corner p h t) (point_text l t (position p h t)) []

-- the corners of a way, by tick
abbrev pub way_points : LineData → Timetable → ℕ → List ℕ
way_points l p h = flat_map (λ u. corner_text l p h (p.period + u)) (range_with_len 0 (2 * p.period + 1))

abbrev pub way_title : ℕ → List ℕ
way_title h = codes "hoist " ++ decimal h

-- the way of a hoist
abbrev pub way : LineData → Timetable → ℕ → Form
way l p h = holding (titled (codes "way") (way_title h)) (having (fresh tags.Polyline) keys.Points (way_points l p h))

-- ---- rides: the ways of hoists that carry

-- the corners of a ride that starts at a tick: where it starts, has lifted, has travelled and has lowered
abbrev pub ride_points : LineData → Motion → ℕ → List ℕ
ride_points l m t =
    point_text l t m.from
    ++ (point_text l (t + m.lift) m.from
    ++ (point_text l (t + (m.lift + abs_diff m.from m.to)) m.to ++ point_text l (t + duration m) m.to))

abbrev pub ride_line : LineData → Motion → ℕ → Form
ride_line l m t = having (fresh tags.Polyline) keys.Points (ride_points l m t)

-- a word, and a carrier
abbrev pub carrier_class : List ℕ → ℕ → List ℕ
carrier_class word c = word ++ decimal c

-- the hoist, the carrier, where it is brought, and the ticks
abbrev pub ride_title : LineData → Timetable → ℕ → ℕ → List ℕ
ride_title l p c k =
    codes "hoist "
    ++ (decimal (p.hoist c k)
    ++ (codes " brings carrier "
    ++ (decimal c
    ++ (codes " to "
    ++ ((tank l (p.tank c (k + 1))).name
    ++ (codes ", ticks "
    ++ (decimal (p.start c k) ++ (codes " to " ++ decimal (p.start c k + duration (motion l p c k))))))))))

-- a ride, in each period of the plot
abbrev pub ride : LineData → Timetable → ℕ → ℕ → Form
ride l p c k =
    holding
    (holding
    (holding (titled (carrier_class (codes "ride c") c) (ride_title l p c k)) (ride_line l (motion l p c k) (shown p (p.start c k) 0)))
    (ride_line l (motion l p c k) (shown p (p.start c k) 1)))
    (ride_line l (motion l p c k) (shown p (p.start c k) 2))

-- ---- stays in tanks

-- the ticks from the start of lowering to the end of lifting
abbrev pub stay_length : LineData → Timetable → ℕ → ℕ → ℕ
stay_length l p c k = hold_end l p c k - hold_begin l p c k

-- a bar at the position of a tank, with so many ticks
abbrev pub bar_line : LineData → ℕ → ℕ → ℕ → Form
bar_line l at ticks t = straight t (below l at) (t + ticks) (below l at)

abbrev pub greatest_text : Option ℕ → List ℕ
greatest_text None = codes "any"
greatest_text (Some most) = decimal most

-- the ticks of a dwell: from when the carrier begins to rest in its tank until it is lifted or taken off
abbrev pub rest_ticks : LineData → Timetable → ℕ → ℕ → ℕ
rest_ticks l p c k = departure l p c k - arrival l p c k

-- the carrier, the tank and the stage
abbrev pub bar_place : LineData → Timetable → ℕ → ℕ → List ℕ
bar_place l p c k =
    codes "carrier " ++ (decimal c ++ (codes " in " ++ ((tank l (p.tank c k)).name ++ (codes ", stage " ++ decimal k))))

-- the dwell and its window
abbrev pub bar_window : LineData → Timetable → ℕ → ℕ → List ℕ
bar_window l p c k =
    codes ": dwell "
    ++ (decimal (rest_ticks l p c k)
    ++ (codes ", window " ++ (decimal (least_dwell l k) ++ (codes " to " ++ greatest_text (stage l k).max))))

abbrev pub bar_title : LineData → Timetable → ℕ → ℕ → List ℕ
bar_title l p c k = bar_place l p c k ++ bar_window l p c k

-- a stay, in each period of the plot
abbrev pub bar : LineData → Timetable → ℕ → ℕ → Form
bar l p c k =
    let at = position_of l (p.tank c k) in
    let ticks = stay_length l p c k in
    let begin = hold_begin l p c k in
    holding
    (holding
    (holding (titled (carrier_class (codes "bar c") c) (bar_title l p c k)) (bar_line l at ticks (shown p begin 0)))
    (bar_line l at ticks (shown p begin 1)))
    (bar_line l at ticks (shown p begin 2))
