-- Names of tanks are texts.
use Rattle.std.proofs.Common.{ℕ, ◌<◌, length, get_or, List, ⊎_elim, arith}
use Rattle.std.specs.Str.{IsUtf8, IsAscii}
use Rattle.std.proofs.lemmas.Str.{IsUtf8-from_ascii}
use Rattle.std.proofs.lemmas.List.{get_or_past}
use Rattle.std.proofs.lemmas.List.Elements.{All-get_or}
use Rattle.hoist_base.specs.LineData.{LineData, tank}
use Rattle.hoist_base.specs.Valid.{IsLine, IsName, IsNameByte}
use Rattle.hoist_base.proofs.Firsts.{below_or_not}

ascii_byte : (b : ℕ) → IsNameByte b → b < 128
ascii_byte b is =
    ⊎_elim (λ e. omega (arith, e.1))
    (λ r. ⊎_elim (λ e. omega (arith, e.1))
    (λ r. ⊎_elim (λ e. omega (arith, e.1)) (λ r. ⊎_elim (λ e. omega (arith, e)) (λ e. omega (arith, e)) r) r) r)
    is

ascii_name : (name : List ℕ) → IsName name → IsAscii name
ascii_name name is i =
    ⊎_elim (λ lt. ascii_byte (get_or name i 0) (All-get_or IsNameByte name i 0 lt is.2))
    (λ le. omega (arith, get_or_past name i 0 le))
    (below_or_not i (length name))

pub name_is_utf8 : (l : LineData) (i : ℕ) → IsLine l → i < length l.tanks → IsUtf8 (tank l i).name
name_is_utf8 l i valid lt = IsUtf8-from_ascii (tank l i).name (ascii_name (tank l i).name (valid.tanks.names i lt))
