-- Tanks by name, and carriers.
use Rattle.std.specs.Prelude.{ℕ, ◌+◌, ◌==◌, cond, if◌then◌else◌, ℤ, pos, negsuc, List, [], ◌∷◌, ◌++◌, codes, decimal}
use Rattle.std.specs.List.{flat_map}
use Rattle.hoist_base.specs.LineData.{LineData, tank}
use Rattle.choice_tree.specs.declared.question.Decision.{Decision}
use Rattle.path_constraints.specs.Tanks.{tanks_below}

-- one more tank that may serve
abbrev pub or_name : LineData → ℕ → List ℕ
or_name l i = codes " or " ++ (tank l i).name

-- tanks by name, of which one serves
abbrev pub names : LineData → List ℕ → List ℕ
names l [] = []
names l (i ∷ is) = (tank l i).name ++ flat_map (or_name l) is

-- the tanks that the path leaves open to the visit of stage k by carrier c
abbrev pub place : LineData → List Decision → ℕ → ℕ → List ℕ
place l path c k = names l (tanks_below l path c k)

abbrev pub carrier_text : ℕ → List ℕ
carrier_text c = codes "carrier " ++ decimal c

-- a number of periods, and one that may be negative
abbrev pub count_text : ℕ → List ℕ
count_text n = decimal n ++ cond (n == 1) (codes " period") (codes " periods")

abbrev pub signed_count_text : ℤ → List ℕ
signed_count_text (pos n) = count_text n
signed_count_text (negsuc n) = codes "-" ++ count_text (n + 1)

-- so many periods later or earlier, or nothing where it is the same period
abbrev pub later_text : ℤ → List ℕ
later_text (pos n) = if n == 0 then [] else codes ", " ++ (count_text n ++ codes " later")
later_text (negsuc n) = codes ", " ++ (count_text (n + 1) ++ codes " earlier")
