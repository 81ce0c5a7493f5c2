-- The clash of two motions as a value. A motion keeps its direction and its speed between its corners, so the least and
-- the greatest forbidden offset are those of two corners.
use Rattle.std.specs.Prelude.{ℕ, ◌+◌, ◌-◌, ◌*◌, ◌≤◌, pos, ◌+ℤ◌, ◌-ℤ◌, ◌≤ℤ◌, unsigned_abs, List, [], ◌∷◌, Option, Some, None, nat_lt, if◌then◌else◌, ◌==◌}
use Rattle.std.specs.Int.{abs_diff, int_max}
use Rattle.line_model.specs.declared.motion.Motion.{Motion}
use Rattle.line_model.specs.Motion.{duration}
use Rattle.hoist_base.specs.LineData.{LineData}
use Rattle.collision_pairs.specs.declared.span.Span.{Span}
use Rattle.collision_pairs.specs.declared.corner.Corner.{Corner}

-- where a motion begins, has lifted, has arrived and ends
abbrev pub corners : Motion → List Corner
corners m =
    (record { tick = 0; at = m.from })
    ∷ (record { tick = m.lift; at = m.from })
    ∷ (record { tick = duration m - m.lower; at = m.to })
    ∷ (record { tick = duration m; at = m.to })
    ∷ []

-- the offsets that a point of the lower hoist and one of the upper hoist forbid, where the room is to be between them:
-- none where they have it, else those nearer to the offset that puts both at one tick than the room that they lack
abbrev pub reach : ℕ → Corner → Corner → Option Span
reach room p q =
    if nat_lt q.at (p.at + room)
    then Some (record {
      after = (pos p.tick -ℤ pos q.tick) +ℤ (pos (p.at + room) -ℤ pos q.at);
      before = (pos (p.at + room) -ℤ pos q.at) -ℤ (pos p.tick -ℤ pos q.tick);
    })
    else None

-- the least span round two
abbrev pub joined : Option Span → Option Span → Option Span
joined None y = y
joined (Some s) None = Some s
joined (Some s) (Some t) = Some (record { after = int_max s.after t.after; before = int_max s.before t.before })

-- the least span round what one point and each of some others forbid
abbrev pub around_one : ℕ → Corner → List Corner → Option Span
around_one room p [] = None
around_one room p (q ∷ qs) = joined (reach room p q) (around_one room p qs)

-- the least span round what each of some points and each of some others forbid
abbrev pub around_all : ℕ → List Corner → List Corner → Option Span
around_all room [] qs = None
around_all room (p ∷ ps) qs = joined (around_one room p qs) (around_all room ps qs)

-- the span where the two motions change places
abbrev pub turned_answer : Option Span → Option Span
turned_answer None = None
turned_answer (Some s) = Some (record { after = s.before; before = s.after })

-- one hoist ends the earlier motion and travels to the start of the later one
abbrev pub once_span : Motion → Motion → Span
once_span a b = record {
  after = pos (duration a + abs_diff b.from a.to);
  before = pos (duration b + abs_diff a.from b.to);
}

-- the clash of motion a on hoist ha and motion b on hoist hb
unfoldable pub clash_of : LineData → Motion → ℕ → Motion → ℕ → Option Span
clash_of l a ha b hb =
    if ha == hb then Some (once_span a b)
    else (if nat_lt ha hb
    then around_all ((hb - ha) * l.gap) (corners a) (corners b)
    else turned_answer (around_all ((ha - hb) * l.gap) (corners b) (corners a)))

-- a span that holds an offset, whose ends are small
pub record IsTight (s : Span) : Type 0 where
  pub after : unsigned_abs s.after ≤ 3500
  pub before : unsigned_abs s.before ≤ 3500
  pub holds : pos 2 ≤ℤ (s.after +ℤ s.before)
