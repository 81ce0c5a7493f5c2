-- The words for a fault of a timetable.
use Rattle.std.specs.Prelude.{ℕ, ℤ, List, ◌++◌, codes, decimal}
use Rattle.std.specs.Fmt.{signed_decimal}
use Rattle.text_writing.specs.Texts.{pair_text}
use Rattle.timetable.specs.declared.fault.Fault.{Fault}
use Rattle.timetable.specs.declared.fault.Fault.TheVariants.{Track, Gap, Speed, Motion, Carry, Dwell, Numbering, Hold}

-- two moves or two visits, the second so many periods later
abbrev pub two_text : ℕ → ℕ → ℕ → ℕ → ℤ → List ℕ
two_text c k d j shift = pair_text c k ++ (codes " " ++ (pair_text d j ++ (codes " shift " ++ signed_decimal shift)))

-- a hoist at a tick
abbrev pub at_text : ℕ → ℕ → List ℕ
at_text hoist tick = decimal hoist ++ (codes " tick " ++ decimal tick)

abbrev pub fault_of : Fault → List ℕ
fault_of (Track hoist tick at) = codes "track hoist " ++ (at_text hoist tick ++ (codes " at " ++ decimal at))
fault_of (Gap hoist tick low high) =
    codes "gap hoist " ++ (at_text hoist tick ++ (codes " low " ++ (decimal low ++ (codes " high " ++ decimal high))))
fault_of (Speed hoist tick old new) =
    codes "speed hoist " ++ (at_text hoist tick ++ (codes " from " ++ (decimal old ++ (codes " to " ++ decimal new))))
fault_of (Motion m u want seen) =
    codes "motion "
    ++ (pair_text m.carrier m.step
    ++ (codes " u " ++ (decimal u ++ (codes " want " ++ (decimal want ++ (codes " seen " ++ decimal seen))))))
fault_of (Carry a b shift) = codes "carry " ++ two_text a.carrier a.step b.carrier b.step shift
fault_of (Dwell v ticks) = codes "dwell " ++ (pair_text v.carrier v.stage ++ (codes " ticks " ++ signed_decimal ticks))
fault_of (Numbering carrier put next) =
    codes "numbering " ++ (decimal carrier ++ (codes " put " ++ (decimal put ++ (codes " next " ++ decimal next))))
fault_of (Hold a b shift) = codes "hold " ++ two_text a.carrier a.stage b.carrier b.stage shift
