-- Tanks numbered by their names, one after another.
use Rattle.std.proofs.Common.{◌≡◌, ◌∙◌, ◌+◌, ◌<◌, ◌≤◌, ◌==◌, nat_lt, ℕ, Bool, true, false, cond, not, List, [], ◌∷◌, ◌++◌, length, get_or, take, map, length-take, refl, ap, Option, Some, None, unwrap_or, arith}
use Rattle.std.specs.List.{position, position_or_len, filter_map, cons_option}
use Rattle.std.specs.Option.{option_or}
use Rattle.std.specs.HashMap.{HashMap, get_by_text}
use Rattle.std.specs.Str.{bytes_eq}
use Rattle.std.specs.Prelude.{String}
use Rattle.std.proofs.lemmas.Bool.Decides.{nat_tests}
use Rattle.std.proofs.lemmas.List.{take_more, map-append, length-map, length_push}
use Rattle.std.proofs.lemmas.List.Elements.{filter_map-append}
use Rattle.std.proofs.lemmas.List.Folds.{position_or_len_push}
use Rattle.std.proofs.lemmas.List.Sums.{prefix_len-le-length}
use Rattle.toml.specs.Data.{as_str}
use Rattle.toml.specs.View.{view}
use Rattle.toml.specs.declared.value.Value.{Value}
use Rattle.hoist_base.specs.declared.tank.Tank.{Tank}
use Rattle.hoist_base.specs.Firsts.{given}
use Rattle.line_text.specs.File.{tank_of, number_of}
use Rattle.line_text.specs.Names.{IsNumbering}

push_cases : (n len : ℕ) (b : Bool) → n ≤ len
    → cond (nat_lt (cond (n == len) (len + cond b 0 1) n) (len + 1)) (Some (cond (n == len) (len + cond b 0 1) n)) None
    ≡ option_or (cond (nat_lt n len) (Some n) None) (given b len)
push_cases n len true h = grind (arith, nat_tests)
push_cases n len false h = grind (arith, nat_tests)

-- what was there before, or else the last
pub position_push : {X : Type 0} (p : X → Bool) (xs : List X) (y : X)
    → position p (xs ++ y ∷ []) ≡ option_or (position p xs) (given (p y) (length xs))
position_push p xs y =
    rw (position_or_len_push p xs y, length_push xs y) (push_cases (position_or_len p xs) (length xs) (p y) (prefix_len-le-length (λ x. not (p x)) xs))

-- one more tank
pub numbering_more : (q : List ℕ) (xs : List Value) (i : ℕ) (d : Value) → i < length xs
    → position (λ (t : Tank). bytes_eq q t.name) (map tank_of (map view (take (i + 1) xs)))
    ≡ option_or (position (λ (t : Tank). bytes_eq q t.name) (map tank_of (map view (take i xs)))) (given (bytes_eq q (tank_of (view (get_or xs i d))).name) i)
numbering_more q xs i d h =
    let front = map tank_of (map view (take i xs)) in
    let last = tank_of (view (get_or xs i d)) in
    let count : length front ≡ i = simp (length-map, length-take) (omega arith) in
    let whole : map tank_of (map view (take (i + 1) xs)) ≡ front ++ last ∷ [] = rw (take_more xs i d h, map-append view, map-append tank_of) in
    ap (position (λ (t : Tank). bytes_eq q t.name)) whole
    ∙ position_push (λ (t : Tank). bytes_eq q t.name) front last
    ∙ ap (λ n. option_or (position (λ (t : Tank). bytes_eq q t.name) front) (given (bytes_eq q last.name) n)) count

-- one more item
pub texts_more : (f : List ℕ → ℕ) (xs : List Value) (i : ℕ) (d : Value) → i < length xs
    → map f (filter_map as_str (map view (take (i + 1) xs))) ≡ map f (filter_map as_str (map view (take i xs)))
    ++ map f (cons_option (as_str (view (get_or xs i d))) [])
texts_more f xs i d h = rw (take_more xs i d h, map-append view, filter_map-append as_str, map-append f)

-- the number that the map gives a name
number_same : (q : List ℕ) (tanks : List Tank) (o : Option ℕ) → o ≡ position (λ (t : Tank). bytes_eq q t.name) tanks
    → unwrap_or o (length tanks) ≡ number_of tanks q
number_same q tanks o h =
    let bound = prefix_len-le-length (λ (t : Tank). not (bytes_eq q t.name)) tanks in
    rw h (grind (arith, nat_tests))

pub numbers_same : {Y S : Type 0} (numbers : HashMap (String Y) ℕ S) (tanks : List Tank) (count : ℕ) (names : List (List ℕ))
    → IsNumbering numbers tanks → count ≡ length tanks
    → map (λ name. unwrap_or (get_by_text numbers name) count) names ≡ map (number_of tanks) names
numbers_same numbers tanks count [] h e = refl
numbers_same numbers tanks count (q ∷ names) h e =
    let here : unwrap_or (get_by_text numbers q) count ≡ number_of tanks q = rw e (number_same q tanks (get_by_text numbers q) (h q)) in
    let more = numbers_same numbers tanks count names h e in
    cc
