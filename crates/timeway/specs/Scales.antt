-- How large the diagram is drawn, and where its marks stand.
use Rattle.std.specs.Prelude.{ℕ, ◌+◌, ◌-◌, ◌*◌, ◌/◌, if◌then◌else◌, nat_le, length}
use Rattle.hoist_base.specs.LineData.{LineData, move_count}

-- the pixels at the left of the plot, for names
abbrev pub margin : ℕ
margin = 180

-- the pixels of one position of the track: less for a long track, more for many tanks
abbrev pub unit : LineData → ℕ
unit l = 1 + (240 + 16 * length l.tanks) / (l.track + 2)

-- the pixels of the plot upward: it has a position more at either end
abbrev pub plot_height : LineData → ℕ
plot_height l = unit l * (l.track + 2)

-- the pixels of the plot to the right: more for more moves
abbrev pub plot_width : LineData → ℕ
plot_width l = 640 + 24 * move_count l

-- where a position is, in pixels from the top of the plot
abbrev pub pixel_of : LineData → ℕ → ℕ
pixel_of l at = unit l * (l.track - at + 1)

-- the ticks from one mark of the scale to the next: round ones, at most 16 in two periods, but for the last
abbrev pub grid_step : ℕ → ℕ
grid_step period =
    if nat_le period 8 then 1
    else (if nat_le period 16 then 2
    else (if nat_le period 40 then 5
    else (if nat_le period 80 then 10
    else (if nat_le period 160 then 20
    else (if nat_le period 400 then 50
    else (if nat_le period 800 then 100
    else (if nat_le period 1600 then 200
    else (if nat_le period 4000 then 500
    else (if nat_le period 8000 then 1000 else (if nat_le period 16000 then 2000 else 5000))))))))))

-- how many marks there are in two periods
abbrev pub grid_count : ℕ → ℕ
grid_count period = 2 * period / grid_step period + 1

-- where a tick of the two periods is, in pixels from the left
abbrev pub tick_pixel : LineData → ℕ → ℕ → ℕ
tick_pixel l period tick = margin + tick * plot_width l / (2 * period)
