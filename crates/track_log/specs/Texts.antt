-- What is said of a log.
use Rattle.std.specs.Prelude.{ℕ, ◌+◌, List, ◌++◌, codes, decimal, Option, Some, None, count_by, Bool, true, false, is_some}
use Rattle.tick_machine.specs.declared.frame.Frame.{Frame}
use Rattle.tick_machine.specs.declared.frame.Hold.{Hold}
use Rattle.tick_machine.specs.declared.frame.Rest.{Rest}
use Rattle.tick_machine.specs.declared.frame.Rest.TheVariants.{Resting}
use Rattle.tick_machine.specs.declared.breach.Breach.{Breach}
use Rattle.tick_machine.specs.declared.breach.Breach.TheVariants.{Busy, Edge, NoCarrier, Early, Held, NotThere, NoMove, NoWay, Late, Near}
use Rattle.text_writing.specs.Texts.{end}
use Rattle.track_log.specs.declared.followed.Followed.{Followed}
use Rattle.track_log.specs.declared.followed.Followed.TheVariants.{Follows, Departs, Broken}

-- ---- who is in the line

abbrev pub is_at_rest : Rest → Bool
is_at_rest (Resting age) = true
is_at_rest rest = false

-- a carrier rests there; that of a hold of another kind is carried
abbrev pub rests : Option Hold → Bool
rests None = false
rests (Some hold) = is_at_rest hold.rest

-- the carriers that rest and those that are carried
abbrev pub inside : Frame → ℕ
inside f = count_by rests f.hold.items + count_by is_some f.carry.items

-- ---- breaches

-- a word, with the blanks round it, and a number
abbrev pub field : List ℕ → ℕ → List ℕ
field word n = word ++ decimal n

-- a carrier at a stage, its age and the bound that it keeps not
abbrev pub age_text : ℕ → ℕ → ℕ → ℕ → List ℕ
age_text carrier stage age bound =
    field (codes " carrier ") carrier
    ++ (field (codes " stage ") stage ++ (field (codes " age ") age ++ field (codes " bound ") bound))

abbrev pub breach_text : Breach → List ℕ
breach_text (Busy hoist) = field (codes "busy hoist ") hoist
breach_text (Edge hoist at) = field (codes "edge hoist ") hoist ++ field (codes " at ") at
breach_text (NoCarrier tank) = field (codes "no carrier tank ") tank
breach_text (Early carrier stage age bound) = codes "early" ++ age_text carrier stage age bound
breach_text (Held tank carrier) = field (codes "held tank ") tank ++ field (codes " carrier ") carrier
breach_text (NotThere hoist at) = field (codes "not there hoist ") hoist ++ field (codes " at ") at
breach_text (NoMove carrier stage) = field (codes "no move carrier ") carrier ++ field (codes " stage ") stage
breach_text (NoWay hoist tank) = field (codes "no way hoist ") hoist ++ field (codes " tank ") tank
breach_text (Late carrier stage age bound) = codes "late" ++ age_text carrier stage age bound
breach_text (Near hoist low high) =
    field (codes "near hoist ") hoist ++ (field (codes " low ") low ++ field (codes " high ") high)

-- ---- the whole

abbrev pub followed_text : Followed → List ℕ
followed_text (Follows last frame) =
    field (codes "follows ") last
    ++ (field (codes "\ncarriers ") frame.next ++ (field (codes "\ninside ") (inside frame) ++ end))
followed_text (Departs tick breach) = field (codes "departs ") tick ++ (codes " " ++ (breach_text breach ++ end))
followed_text (Broken offset) = field (codes "log broken at byte ") offset ++ end
