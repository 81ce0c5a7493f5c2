-- Lists of values that are made one by one.
use Rattle.std.proofs.Common.{ℕ, ◌+◌, ◌≡◌, List, [], ◌∷◌, ◌++◌, map, sym, ap, ◌∙◌, arith}
use Rattle.std.specs.List.{range_with_len}
use Rattle.std.proofs.lemmas.List.{map-append}
use Rattle.std.proofs.lemmas.List.FromFn.{map-range_with_len_more}
use Rattle.serde_json.specs.Data.{Data}
use Rattle.serde_json.specs.View.{view}
use Rattle.serde_json.specs.declared.value.Value.{Value}

-- one value more behind the first ones
pub one_more : (values more : List Value) (v : Value) (n : ℕ) (f : ℕ → Data)
    → map view values ≡ map f (range_with_len 0 n) → view v ≡ f n
    → more ≡ values ++ v ∷ [] → map view more ≡ map f (range_with_len 0 (n + 1))
one_more values more v n f before is after =
    ap (map view) after ∙ map-append view values (v ∷ [])
    ∙ ap (λ (ds : List Data). ds ++ view v ∷ []) before
    ∙ ap (λ (d : Data). map f (range_with_len 0 n) ++ d ∷ []) is
    ∙ sym (map-range_with_len_more f 0 n n (omega arith))
