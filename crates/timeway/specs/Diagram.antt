-- The time-way diagram of a timetable.
use Rattle.std.specs.Prelude.{ℕ, ◌+◌, ◌-◌, ◌*◌, ◌==◌, Bool, cond, List, [], ◌++◌, codes, decimal, length, map}
use Rattle.std.specs.List.{flat_map, range_with_len, list_any}
use Rattle.hoist_base.specs.LineData.{LineData, stage, tank, position_of, move_at, move_count, visit_at, visit_count}
use Rattle.line_model.specs.Timetable.{Timetable}
use Rattle.markup.specs.declared.words.Tag.TheVariants as tags
use Rattle.markup.specs.declared.words.Key.TheVariants as keys
use Rattle.markup.specs.Forms.{Form, fresh, having, saying, holding, holding_all}
use Rattle.timeway.specs.Scales.{margin, plot_height, plot_width, pixel_of, grid_step, grid_count, tick_pixel}
use Rattle.timeway.specs.Shapes.{straight, below, way, ride, bar}

-- ---- in the plot

-- the mark of the scale with a number
abbrev pub grid_line : LineData → ℕ → ℕ → Form
grid_line l period i = having (straight (period + i * grid_step period) 0 (period + i * grid_step period) l.track) keys.Class (codes "grid")

-- the end of each period
abbrev pub end_line : LineData → ℕ → ℕ → Form
end_line l period i = having (straight (period + i * period) 0 (period + i * period) l.track) keys.Class (codes "end")

-- the position of a tank
abbrev pub tank_line : LineData → ℕ → ℕ → Form
tank_line l period i =
    having (straight period (below l (position_of l i)) (3 * period) (below l (position_of l i))) keys.Class (codes "tank")

-- the ticks of two periods to the right, the positions upward
abbrev pub view_box : LineData → ℕ → List ℕ
view_box l period = decimal period ++ (codes " -1 " ++ (decimal (2 * period) ++ (codes " " ++ decimal (l.track + 2))))

-- the plot without its shapes
abbrev pub frame : LineData → ℕ → Form
frame l period =
    having
    (having
    (having
    (having (having (fresh tags.Svg) keys.Class (codes "plot")) keys.X (decimal margin))
    keys.Width (decimal (plot_width l)))
    keys.Height (decimal (plot_height l)))
    keys.ViewBox (view_box l period)

-- the scale and the tanks
abbrev pub ground : LineData → ℕ → Form
ground l period =
    holding_all
    (holding_all
    (holding_all (having (frame l period) keys.Scaling (codes "none")) (map (grid_line l period) (range_with_len 0 (grid_count period))))
    (map (tank_line l period) (range_with_len 0 (length l.tanks))))
    (map (end_line l period) (range_with_len 0 3))

-- and then the stays, the ways and the rides
abbrev pub plot : LineData → Timetable → Form
plot l p =
    holding_all
    (holding_all
    (holding_all (ground l p.period) (map (λ i. bar l p (visit_at l i).carrier (visit_at l i).stage) (range_with_len 0 (visit_count l))))
    (map (way l p) (range_with_len 0 l.hoists)))
    (map (λ i. ride l p (move_at l i).carrier (move_at l i).step) (range_with_len 0 (move_count l)))

-- ---- beside it

abbrev pub note : List ℕ → ℕ → ℕ → List ℕ → Form
note class x y words =
    saying (having (having (having (fresh tags.Text) keys.Class class) keys.X (decimal x)) keys.Y (decimal y)) words

-- a stage with a number, where the tank is one of its
abbrev pub stage_word : LineData → ℕ → ℕ → List ℕ
stage_word l i k = cond (list_any (λ j. i == j) (stage l k).tanks) (codes " " ++ decimal k) []

-- a tank's name and its stages
abbrev pub tank_words : LineData → ℕ → List ℕ
tank_words l i = ((tank l i).name ++ codes ":") ++ flat_map (stage_word l i) (range_with_len 0 (length l.stages))

abbrev pub tank_note : LineData → ℕ → Form
tank_note l i = note (codes "name") (margin - 8) (pixel_of l (position_of l i) + 4) (tank_words l i)

abbrev pub tick_note : LineData → ℕ → ℕ → Form
tick_note l period i =
    note (codes "tick") (tick_pixel l period (i * grid_step period)) (plot_height l + 14) (decimal (i * grid_step period))

-- the diagram: names at the left, the plot, and the scale below it
abbrev pub diagram : LineData → Timetable → Form
diagram l p =
    holding_all
    (holding_all
    (holding
    (having
    (having (having (fresh tags.Svg) keys.Class (codes "diagram")) keys.Width (decimal (margin + plot_width l + 40)))
    keys.Height (decimal (plot_height l + 24)))
    (plot l p))
    (map (tank_note l) (range_with_len 0 (length l.tanks))))
    (map (tick_note l p.period) (range_with_len 0 (grid_count p.period)))
