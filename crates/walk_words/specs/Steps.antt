-- Constraints in words. What a constraint asks is between two ticks at which hoists begin to lift.
use Rattle.std.specs.Prelude.{ℕ, ◌+◌, ◌==◌, cond, ℤ, neg_ℤ, List, [], ◌++◌, codes, decimal, unwrap_or}
use Rattle.hoist_base.specs.LineData.{LineData, stage, last_stage}
use Rattle.choice_tree.specs.declared.question.Question.{Question}
use Rattle.choice_tree.specs.declared.question.Question.TheVariants.{Assign, TankOrder, HoistOrder, Choose}
use Rattle.choice_tree.specs.declared.question.Decision.{Decision}
use Rattle.choice_tree.specs.declared.constraint.Constraint.{Constraint}
use Rattle.choice_tree.specs.declared.constraint.Constraint.TheVariants.{Min, Max, Entry, Visit, Repeat, Decided}
use Rattle.path_constraints.specs.Tanks.{decision_at}
use Rattle.walk_words.specs.Places.{place, carrier_text, later_text}

-- a carrier is brought to a stage and stays there
abbrev pub stay_text : LineData → List Decision → ℕ → ℕ → List ℕ
stay_text l path c k =
    carrier_text c ++ (codes " is brought to " ++ (place l path c k ++ codes " and stays there for at "))

-- the least dwell
abbrev pub min_text : LineData → List Decision → ℕ → ℕ → List ℕ
min_text l path c k = stay_text l path c k ++ (codes "least " ++ decimal (stage l k).min)

-- the greatest dwell
abbrev pub max_text : LineData → List Decision → ℕ → ℕ → List ℕ
max_text l path c k = stay_text l path c k ++ (codes "most " ++ decimal (unwrap_or (stage l k).max 0))

-- the carrier that is put on after carrier c
abbrev pub next_text : LineData → ℕ → List ℕ
next_text l c = cond (c + 1 == l.degree) (codes "carrier 0 of the next period") (carrier_text (c + 1))

-- the next carrier is put on when this one has been lifted
abbrev pub entry_text : LineData → List Decision → ℕ → List ℕ
entry_text l path c =
    carrier_text c
    ++ (codes " is lifted off "
    ++ (place l path c 0
    ++ (codes " in "
    ++ (decimal (stage l 0).lift
    ++ (codes ", then " ++ (next_text l c ++ (codes " is put on and stays for at least " ++ decimal l.load)))))))

-- a carrier is lowered at the unload station and taken off
abbrev pub off_text : LineData → ℕ → List ℕ
off_text l k =
    codes " is lowered in " ++ (decimal (stage l k).lower ++ (codes " and stays for at least " ++ decimal l.unload))

-- a carrier is lifted out of a tank, and the next one is lowered into it
abbrev pub swap_text : LineData → ℕ → List ℕ
swap_text l k =
    codes " is lifted out in "
    ++ (decimal (stage l k).lift ++ (codes ", the next one is lowered in " ++ decimal (stage l k).lower))

-- what comes before the tank of a stage is free
abbrev pub leaving_text : LineData → ℕ → List ℕ
leaving_text l k = cond (k == last_stage l) (off_text l k) (swap_text l k)

-- the tank is free again one period later
abbrev pub visit_text : LineData → List Decision → ℕ → ℕ → List ℕ
visit_text l path c k =
    place l path c k ++ (codes " is free again one period later: " ++ (carrier_text c ++ leaving_text l k))

-- the hoist of a move is back one period later
abbrev pub repeat_text : LineData → List Decision → ℕ → ℕ → List ℕ
repeat_text l path c k =
    codes "the hoist that brings "
    ++ (carrier_text c
    ++ (codes " from "
    ++ (place l path c k
    ++ (codes " to " ++ (place l path c (k + 1) ++ codes " is back where it began one period later")))))

-- in one tank carrier a at stage j comes before carrier b at stage k, that q periods later
abbrev pub tank_text : LineData → List Decision → ℕ → ℕ → ℕ → ℕ → ℤ → List ℕ
tank_text l path a j b k q =
    place l path a j
    ++ (codes " is left by "
    ++ (carrier_text a
    ++ (codes " at stage "
    ++ (decimal j
    ++ (codes " before "
    ++ (carrier_text b ++ (codes " comes there at stage " ++ (decimal k ++ later_text q))))))))

-- a carrier is lifted at a stage
abbrev pub lifted_text : LineData → List Decision → ℕ → ℕ → List ℕ
lifted_text l path c k = carrier_text c ++ (codes " is lifted at " ++ place l path c k)

-- carrier a is lifted at stage j before carrier b, that q periods later, is lifted at stage k
abbrev pub hoist_text : LineData → List Decision → ℕ → ℕ → ℕ → ℕ → ℤ → List ℕ
hoist_text l path a j b k q =
    codes "so that no hoists collide, "
    ++ (lifted_text l path a j ++ (codes " before " ++ (lifted_text l path b k ++ later_text q)))

-- what a decision on an order asks: child 0 has the first one first, child 1 the other one
abbrev pub decided_text : LineData → List Decision → Question → ℕ → List ℕ
decided_text l path (Assign m) child = []
decided_text l path (TankOrder a b q) child =
    cond (child == 0) (tank_text l path a.carrier a.stage b.carrier b.stage q)
    (tank_text l path b.carrier b.stage a.carrier a.stage (neg_ℤ q))
decided_text l path (HoistOrder a b q) child =
    cond (child == 0) (hoist_text l path a.carrier a.step b.carrier b.step q)
    (hoist_text l path b.carrier b.step a.carrier a.step (neg_ℤ q))
decided_text l path (Choose v) child = []

-- a constraint of the path in words
abbrev pub step_text : LineData → List Decision → Constraint → List ℕ
step_text l path (Min c k) = min_text l path c k
step_text l path (Max c k) = max_text l path c k
step_text l path (Entry c) = entry_text l path c
step_text l path (Visit c k) = visit_text l path c k
step_text l path (Repeat c k) = repeat_text l path c k
step_text l path (Decided i) = decided_text l path (decision_at path i).question (decision_at path i).child
