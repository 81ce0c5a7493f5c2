-- The tanks that a path of decisions leaves open to a visit, and the motions of a move between them.
use Rattle.std.specs.Prelude.{ℕ, ◌+◌, ◌<◌, ◌==◌, ◌&&◌, min, max, if◌then◌else◌, List, [], ◌∷◌, map, flat_map, fold, get_or, Contains, Option, Some, None}
use Rattle.std.specs.Option.{option_or}
use Rattle.std.specs.Int.{abs_diff}
use Rattle.hoist_base.specs.LineData.{LineData, stage, position_of}
use Rattle.line_model.specs.declared.motion.Motion.{Motion}
use Rattle.line_model.specs.Motion.{duration, motion_between, Reaches}
use Rattle.choice_tree.specs.declared.question.Question.{Question}
use Rattle.choice_tree.specs.declared.question.Question.TheVariants.{Assign, TankOrder, HoistOrder, Choose}
use Rattle.choice_tree.specs.declared.question.Decision.{Decision}

-- decision i of a path
abbrev pub no_decision : Decision
no_decision = record { question = Assign (record { carrier = 0; step = 0 }); child = 0 }

abbrev pub decision_at : List Decision → ℕ → Decision
decision_at path i = get_or path i no_decision

-- the child that is taken, where the question is the Choose of visit (c, k)
abbrev pub choice_by : ℕ → ℕ → Question → ℕ → Option ℕ
choice_by c k (Choose v) child = if (v.carrier == c) && (v.stage == k) then Some child else None
choice_by c k (Assign m) child = None
choice_by c k (TankOrder a b q) child = None
choice_by c k (HoistOrder a b q) child = None

-- which tank of its stage's list visit (c, k) has by its Choose on the path
abbrev pub choice_of : List Decision → ℕ → ℕ → Option ℕ
choice_of [] c k = None
choice_of (d ∷ ds) c k = option_or (choice_by c k d.question d.child) (choice_of ds c k)

-- a visit's tanks below a path: the one of its Choose, or all of its stage
abbrev pub tanks_by : List ℕ → Option ℕ → List ℕ
tanks_by tanks None = tanks
tanks_by tanks (Some number) = get_or tanks number 0 ∷ []

abbrev pub tanks_below : LineData → List Decision → ℕ → ℕ → List ℕ
tanks_below l path c k = tanks_by (stage l k).tanks (choice_of path c k)

-- the motions of move (c, k) that are open below the path: one for each tank before and each tank after it
abbrev pub motions_below : LineData → List Decision → ℕ → ℕ → List Motion
motions_below l path c k =
    flat_map (λ i. map (λ j. motion_between l k i j) (tanks_below l path c (k + 1))) (tanks_below l path c k)

-- the least and the greatest of some numbers
abbrev pub least_of : List ℕ → ℕ
least_of [] = 0
least_of (x ∷ xs) = fold min x xs

abbrev pub greatest_of : List ℕ → ℕ
greatest_of [] = 0
greatest_of (x ∷ xs) = fold max x xs

-- a motion, and the way back to where it began
abbrev pub there_and_back : Motion → ℕ
there_and_back m = duration m + abs_diff m.to m.from

-- how long move (c, k) lasts at least and at most below the path, and how soon its hoist can be back
abbrev pub low : LineData → List Decision → ℕ → ℕ → ℕ
low l path c k = least_of (map duration (motions_below l path c k))

abbrev pub high : LineData → List Decision → ℕ → ℕ → ℕ
high l path c k = greatest_of (map duration (motions_below l path c k))

abbrev pub back : LineData → List Decision → ℕ → ℕ → ℕ
back l path c k = least_of (map there_and_back (motions_below l path c k))

-- the one element of a list of one
abbrev pub one_of : {X : Type 0} → List X → Option X
one_of [] = None
one_of (x ∷ []) = Some x
one_of (x ∷ y ∷ ys) = None

-- the tank of visit (c, k), where the path leaves it one only
abbrev pub tank_below : LineData → List Decision → ℕ → ℕ → Option ℕ
tank_below l path c k = one_of (tanks_below l path c k)

-- the motion of move (c, k), where both of its visits have one tank below the path
abbrev pub motion_below : LineData → List Decision → ℕ → ℕ → Option Motion
motion_below l path c k = one_of (motions_below l path c k)

-- hoist h reaches some tank that is open to visit (c, k)
abbrev pub MayServe : LineData → List Decision → ℕ → ℕ → ℕ → Type 0
MayServe l path h c k = (i : ℕ) × Contains (tanks_below l path c k) i × Reaches l h (position_of l i)

-- hoist h may reach move (c, k) below the path
abbrev pub MayReach : LineData → List Decision → ℕ → ℕ → ℕ → Type 0
MayReach l path h c k = MayServe l path h c k × MayServe l path h c (k + 1)

-- no hoist may
abbrev pub IsStuck : LineData → List Decision → ℕ → ℕ → Type 0
IsStuck l path c k = (h : ℕ) → h < l.hoists → MayReach l path h c k → ⊥
