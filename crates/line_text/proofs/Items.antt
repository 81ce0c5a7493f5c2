-- The items of an array as a list, and the keys of a table in the order of their bytes.
use Rattle.std.proofs.Common.{◌≡◌, ◌∙◌, inl, inr, ℕ, List, [], ◌∷◌, map, refl, ap, sym, Bool, Option, Some, option_map, String, Global, BTreeMap, string_bytes, Less}
use Rattle.std.specs.List.{find, filter, fold, AllByRecursion}
use Rattle.std.specs.List.Sorted.{IsStrictlySortedBy}
use Rattle.std.specs.Map.{keys_of as entry_keys}
use Rattle.std.specs.BTreeMap.{keys, IsOrdered}
use Rattle.std.specs.Cmp.Lexicographic.{slice_cmp}
use Rattle.std.specs.Ordering.{nat_cmp}
use Rattle.std.specs.String.{string_cmp}
use Rattle.std.proofs.lemmas.Bool.{cases_Bool}
use Rattle.toml.specs.Data.{Data, as_table}
use Rattle.toml.specs.View.{view, items_view, members_view, table_view}
use Rattle.toml.specs.declared.value.Value.{Value}
use Rattle.toml.proofs.Views.{Entry}
use Rattle.line_text.specs.Values.{list_of, member_keys, keys_of}
use Rattle.line_text.specs.Tables.{earlier, first_text}

pub list_of_items : (vs : List Value) → list_of (items_view vs) ≡ map view vs
list_of_items [] = refl
list_of_items (v ∷ vs) = ap (λ ds. view v ∷ ds) (list_of_items vs)

earlier_first : (a b : List ℕ) → slice_cmp nat_cmp a b ≡ Less → earlier a b ≡ a
earlier_first a b h = rw h

-- a text stays the first beside later ones
stays_first : (p : List ℕ → Bool) (k : String Global) (es : List Entry)
    → AllByRecursion (λ y. string_cmp k y ≡ Less) (entry_keys es)
    → fold earlier (string_bytes k) (filter p (member_keys (members_view es))) ≡ string_bytes k
stays_first p k [] h = refl
stays_first p k (e ∷ es) h =
    elim (cases_Bool (p (string_bytes e.0))) [
      | inl passes ↦ rw passes (ap (λ x. fold earlier x (filter p (member_keys (members_view es))))
          (earlier_first (string_bytes k) (string_bytes e.0) h.0) ∙ stays_first p k es h.1)
      | inr fails ↦ rw fails (stays_first p k es h.1)
    ]

-- where keys ascend, the first that passes a test is the first in the order of their bytes
pub first_in_order : (p : List ℕ → Bool) (es : List Entry) → IsStrictlySortedBy string_cmp (entry_keys es)
    → option_map string_bytes (find (λ k. p (string_bytes k)) (entry_keys es)) ≡ first_text (filter p (member_keys (members_view es)))
unfolding IsStrictlySortedBy
first_in_order p [] h = refl
first_in_order p (e ∷ es) h =
    elim (cases_Bool (p (string_bytes e.0))) [
      | inl passes ↦ rw passes (ap Some (sym (stays_first p e.0 es h.0)))
      | inr fails ↦ rw fails (first_in_order p es h.1)
    ]

-- the same of the table that a value is
pub unlisted_is : (p : List ℕ → Bool) (k : Option (String Global)) (m : BTreeMap (String Global) Value) (d : Data)
    → IsOrdered string_cmp m
    → Some (table_view m) ≡ as_table d → k ≡ find (λ x. p (string_bytes x)) (keys m)
    → option_map string_bytes k ≡ first_text (filter p (keys_of d))
unlisted_is p k m d ordered same found =
    rw (found, ← same) (first_in_order p m.entries ordered)
