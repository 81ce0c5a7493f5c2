-- What is proved of clashes.
use Rattle.std.specs.Prelude.{◌≡◌, ℕ, ◌<◌, IfSome}
use Rattle.line_model.specs.declared.motion.Motion.{Motion}
use Rattle.line_model.specs.Motion.{IsMotion}
use Rattle.hoist_base.specs.LineData.{LineData}
use Rattle.hoist_base.specs.Valid.{IsLine}
use Rattle.collision_pairs.specs.Forbidden.{IsForbidden, IsSpanOf}
use Rattle.collision_pairs.specs.Clash.{clash_of, turned_answer, IsTight}

-- forbidden offsets have no holes: the clash is exactly the set of them
abbrev pub HasNoHoles : Type 0
HasNoHoles =
    (l : LineData) (a : Motion) (ha : ℕ) (b : Motion) (hb : ℕ) → IsMotion a → IsMotion b
    → IsSpanOf (clash_of l a ha b hb) (IsForbidden l a ha b hb)

-- with the two motions in the other order it is turned round
abbrev pub TurnsRound : Type 0
TurnsRound =
    (l : LineData) (a : Motion) (ha : ℕ) (b : Motion) (hb : ℕ)
    → clash_of l b hb a ha ≡ turned_answer (clash_of l a ha b hb)

-- it holds an offset, and its ends are small
abbrev pub AreTight : Type 0
AreTight =
    (l : LineData) (a : Motion) (ha : ℕ) (b : Motion) (hb : ℕ) → IsLine l → IsMotion a → IsMotion b → ha < l.hoists → hb < l.hoists
    → IfSome (clash_of l a ha b hb) IsTight
