-- A line as functions of the numbers of tanks and stages, which is how the machine reads it.
use Rattle.std.specs.Prelude.{◌≡◌, ℕ, ◌+◌, ◌≤◌, ◌<◌, Bool, true, Option, None, cond, ◌==◌, length, get_or}
use Rattle.std.specs.List.{list_any}
use Rattle.hoist_base.specs.LineData.{LineData, stage, position_of, last_stage}
use Rattle.line_model.specs.declared.motion.Motion.{Motion}
use Rattle.line_model.specs.Motion as motions

pub record Layout : Type 0 where
  pub track : ℕ
  pub gap : ℕ
  pub hoists : ℕ
  pub tanks : ℕ
  -- the last stage, the unload
  pub last : ℕ
  pub load_tank : ℕ
  pub unload_tank : ℕ
  -- where a tank is
  pub place : ℕ → ℕ
  -- whether a tank is one of a stage
  pub serves : ℕ → ℕ → Bool
  -- by stage, in ticks
  pub lift : ℕ → ℕ
  pub lower : ℕ → ℕ
  -- the least age of a carrier that leaves a stage: `load` at the first, `unload` at the last, else its `min`
  pub least : ℕ → ℕ
  -- the greatest age at a stage, where it has one
  pub greatest : ℕ → Option ℕ

-- the tank of a stage that has one
abbrev pub only_tank : LineData → ℕ → ℕ
only_tank l k = get_or (stage l k).tanks 0 0

abbrev pub least_age : LineData → ℕ → ℕ
least_age l k = cond (k == 0) l.load (cond (k == last_stage l) l.unload (stage l k).min)

abbrev pub layout_of : LineData → Layout
layout_of l = record {
  track = l.track;
  gap = l.gap;
  hoists = l.hoists;
  tanks = length l.tanks;
  last = last_stage l;
  load_tank = only_tank l 0;
  unload_tank = only_tank l (last_stage l);
  place = position_of l;
  serves = λ i k. list_any (λ j. j == i) (stage l k).tanks;
  lift = λ k. (stage l k).lift;
  lower = λ k. (stage l k).lower;
  least = least_age l;
  greatest = λ k. (stage l k).max;
}

-- the move of a step between two tanks
abbrev pub move_between : Layout → ℕ → ℕ → ℕ → Motion
move_between l k from to = record { from = l.place from; to = l.place to; lift = l.lift k; lower = l.lower (k + 1) }

-- how many ticks it lasts
unfoldable pub move_ticks : Layout → ℕ → ℕ → ℕ → ℕ
move_ticks l k from to = motions.duration (move_between l k from to)

-- where its hoist is u ticks after the start
unfoldable pub move_place : Layout → ℕ → ℕ → ℕ → ℕ → ℕ
move_place l k from to u = motions.place (move_between l k from to) u

-- what is true of the layout of every valid line
pub record IsLayout (l : Layout) : Type 0 where
  pub track : l.track ≤ 1000
  pub gap : l.gap ≤ 100
  pub hoists : (1 ≤ l.hoists) × (l.hoists ≤ 6)
  pub tanks : l.tanks ≤ 64
  pub last : (1 ≤ l.last) × (l.last ≤ 31)
  pub lift : (k : ℕ) → k < l.last → (1 ≤ l.lift k) × (l.lift k ≤ 500)
  pub lower : (k : ℕ) → k < l.last → (1 ≤ l.lower (k + 1)) × (l.lower (k + 1) ≤ 500)
  pub least : (k : ℕ) → k ≤ l.last → l.least k ≤ 20000
  pub no_end_first : l.greatest 0 ≡ None
  pub no_end_last : l.greatest l.last ≡ None
  pub on_track : (i : ℕ) → i < l.tanks → l.place i ≤ l.track
  pub places : (i j : ℕ) → i < l.tanks → j < l.tanks → l.place i ≡ l.place j → i ≡ j
  -- a stage's tanks are there, and so is the stage that a tank serves
  pub there : (i k : ℕ) → l.serves i k ≡ true → i < l.tanks
  pub stage : (i k : ℕ) → l.serves i k ≡ true → k ≤ l.last
  pub load : l.serves l.load_tank 0 ≡ true
  pub load_only : (i : ℕ) → l.serves i 0 ≡ true → i ≡ l.load_tank
  pub unload : l.serves l.unload_tank l.last ≡ true
  pub unload_only : (i : ℕ) → l.serves i l.last ≡ true → i ≡ l.unload_tank
  -- no tank serves two stages in a row
  pub moves_away : (i k : ℕ) → l.serves i k ≡ true → l.serves i (k + 1) ≡ true → ⊥
