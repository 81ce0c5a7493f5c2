-- The rules between the parts of a line, each with the flaw at the first place that breaks it.
use Rattle.std.specs.Prelude.{ℕ, ◌+◌, ◌-◌, ◌*◌, ◌==◌, List, Bool, false, not, ◌&&◌, ◌||◌, Option, nat_le, nat_lt, length, get_or}
use Rattle.std.specs.List.{list_all, list_any}
use Rattle.std.specs.Option.{option_or, option_map_or}
use Rattle.std.specs.Str.{bytes_eq}
use Rattle.hoist_base.specs.declared.flaw.Flaw.{Flaw}
use Rattle.hoist_base.specs.declared.flaw.Flaw.TheVariants.{BadName, TwiceNamed, SamePlace, NoTank, TwiceTank, SameTank, EmptyWindow, NoRoom}
use Rattle.hoist_base.specs.declared.stage.Stage.{Stage}
use Rattle.hoist_base.specs.Firsts.{first_some, given, numbers, numbers_from}
use Rattle.hoist_base.specs.Limits.{max_name}
use Rattle.hoist_base.specs.LineData.{LineData, stage, tank, position_of}

-- ---- a tank's name is 1 to 32 letters, digits, _ and -

abbrev pub is_name_byte : ℕ → Bool
is_name_byte b =
    (nat_le 65 b && nat_le b 90) || ((nat_le 97 b && nat_le b 122) || ((nat_le 48 b && nat_le b 57) || ((b == 95) || (b == 45))))

abbrev pub is_name : List ℕ → Bool
is_name name = (nat_le 1 (length name) && nat_le (length name) max_name) && list_all is_name_byte name

abbrev pub bad_name_at : LineData → ℕ → Option Flaw
bad_name_at l i = given (not (is_name (tank l i).name)) (BadName i)

abbrev pub bad_name : LineData → Option Flaw
bad_name l = first_some (bad_name_at l) (numbers (length l.tanks))

-- ---- no two tanks have one name or one position: the first pair a < b, by a and then b

abbrev pub twice_named_at : LineData → ℕ → ℕ → Option Flaw
twice_named_at l a b = given (bytes_eq (tank l a).name (tank l b).name) (TwiceNamed a b)

abbrev pub twice_named_with : LineData → ℕ → Option Flaw
twice_named_with l a = first_some (twice_named_at l a) (numbers_from (a + 1) (length l.tanks))

abbrev pub twice_named : LineData → Option Flaw
twice_named l = first_some (twice_named_with l) (numbers (length l.tanks))

abbrev pub same_place_at : LineData → ℕ → ℕ → Option Flaw
same_place_at l a b = given (position_of l a == position_of l b) (SamePlace a b)

abbrev pub same_place_with : LineData → ℕ → Option Flaw
same_place_with l a = first_some (same_place_at l a) (numbers_from (a + 1) (length l.tanks))

abbrev pub same_place : LineData → Option Flaw
same_place l = first_some (same_place_with l) (numbers (length l.tanks))

-- ---- a stage's tanks are there, and none is named twice

abbrev pub has_unknown : LineData → ℕ → Bool
has_unknown l k = list_any (λ i. nat_le (length l.tanks) i) (stage l k).tanks

abbrev pub no_tank_at : LineData → ℕ → Option Flaw
no_tank_at l k = given (has_unknown l k) (NoTank k)

abbrev pub no_tank : LineData → Option Flaw
no_tank l = first_some (no_tank_at l) (numbers (length l.stages))

abbrev pub has_at : List ℕ → ℕ → ℕ → Bool
has_at tanks a b = get_or tanks a 0 == get_or tanks b 0

-- the tank at a place stands at a later one too
abbrev pub is_repeated : List ℕ → ℕ → Bool
is_repeated tanks a = list_any (has_at tanks a) (numbers_from (a + 1) (length tanks))

abbrev pub has_twice : List ℕ → Bool
has_twice tanks = list_any (is_repeated tanks) (numbers (length tanks))

abbrev pub twice_tank_at : LineData → ℕ → Option Flaw
twice_tank_at l k = given (has_twice (stage l k).tanks) (TwiceTank k)

abbrev pub twice_tank : LineData → Option Flaw
twice_tank l = first_some (twice_tank_at l) (numbers (length l.stages))

-- ---- neighbouring stages have no tank in common

abbrev pub have_common : List ℕ → List ℕ → Bool
have_common xs ys = list_any (λ x. list_any (λ y. x == y) ys) xs

abbrev pub same_tank_at : LineData → ℕ → Option Flaw
same_tank_at l k = given (have_common (stage l k).tanks (stage l (k + 1)).tanks) (SameTank k)

abbrev pub same_tank : LineData → Option Flaw
same_tank l = first_some (same_tank_at l) (numbers (length l.stages - 1))

-- ---- the greatest dwell isn't below the least

abbrev pub is_empty_window : Stage → Bool
is_empty_window s = option_map_or (λ greatest. nat_lt greatest s.min) s.max false

abbrev pub empty_window_at : LineData → ℕ → Option Flaw
empty_window_at l k = given (is_empty_window (stage l k)) (EmptyWindow k)

abbrev pub empty_window : LineData → Option Flaw
empty_window l = first_some (empty_window_at l) (numbers (length l.stages))

-- ---- the hoists have room side by side

abbrev pub room_needed : LineData → ℕ
room_needed l = (l.hoists - 1) * l.gap

abbrev pub no_room : LineData → Option Flaw
no_room l = given (nat_lt l.track (room_needed l)) (NoRoom (room_needed l) l.track)

-- ---- the rules in their order

abbrev pub first_flaw : LineData → Option Flaw
first_flaw l =
    option_or (bad_name l)
    (option_or (twice_named l)
    (option_or (same_place l)
    (option_or (no_tank l)
    (option_or (twice_tank l)
    (option_or (same_tank l)
    (option_or (empty_window l) (no_room l)))))))
