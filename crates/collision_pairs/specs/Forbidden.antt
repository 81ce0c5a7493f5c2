-- Which offsets of two motions are forbidden: whatever a hoist does, they can't both be.
-- The offset of two motions is the start of the second less that of the first, in ticks.
-- Several hoists on one track, that can't overtake one another, are this project's own.
use Rattle.std.specs.Prelude.{◌≡◌, ℕ, ◌+◌, ◌-◌, ◌*◌, ◌<◌, ◌≤◌, ◌⊎◌, ◌↔◌, ℤ, pos, ◌+ℤ◌, ◌-ℤ◌, neg_ℤ, ◌<ℤ◌, unsigned_abs, Option, MatchOption}
use Rattle.std.specs.Int.{abs_diff}
use Rattle.line_model.specs.declared.motion.Motion.{Motion}
use Rattle.line_model.specs.Motion.{duration, place}
use Rattle.hoist_base.specs.LineData.{LineData}
use Rattle.collision_pairs.specs.declared.span.Span.{Span}

-- how far tick v of the second motion is from tick u of the first, where the second starts o later
abbrev pub ticks_between : ℤ → ℕ → ℕ → ℕ
ticks_between o u v = unsigned_abs (o +ℤ pos v -ℤ pos u)

-- a lower hoist follows a, an upper one b: from some point of a and some point of b they can't keep the room between
-- them, even if both travel at full speed in the ticks between
abbrev pub ComeTooNear : Motion → Motion → ℕ → ℤ → Type 0
ComeTooNear a b room o =
    (u : ℕ) × (v : ℕ) × (u ≤ duration a) × (v ≤ duration b) × (place b v + ticks_between o u v < place a u + room)

-- one hoist follows both: it carries by both at one tick, or can't get from some point of one to some point of the
-- other
abbrev pub AreAtOnce : Motion → Motion → ℤ → Type 0
AreAtOnce a b o =
    ((u : ℕ) × (v : ℕ) × (u < duration a) × (v < duration b) × (o +ℤ pos v ≡ pos u))
    ⊎ ((u : ℕ) × (v : ℕ) × (u ≤ duration a) × (v ≤ duration b) × (ticks_between o u v < abs_diff (place a u) (place b v)))

-- motion a on hoist ha and motion b on hoist hb can't both be, where b starts o ticks after a
abbrev pub IsForbidden : LineData → Motion → ℕ → Motion → ℕ → ℤ → Type 0
IsForbidden l a ha b hb o =
    ((ha < hb) × ComeTooNear a b ((hb - ha) * l.gap) o)
    ⊎ (((ha ≡ hb) × AreAtOnce a b o) ⊎ ((hb < ha) × ComeTooNear b a ((ha - hb) * l.gap) (neg_ℤ o)))

-- the offsets of a span: more than -before and less than after
abbrev pub IsWithin : Span → ℤ → Type 0
IsWithin s o = (neg_ℤ s.before <ℤ o) × (o <ℤ s.after)

-- the answer for a set of offsets: there is none, or they are exactly those of the span
abbrev pub IsSpanOf : Option Span → (ℤ → Type 0) → Type 0
IsSpanOf answer Holds = MatchOption answer ((o : ℤ) → Holds o → ⊥) (λ s. (o : ℤ) → Holds o ↔ IsWithin s o)
