-- A second write goes on where the first ended.
use Rattle.std.proofs.Common.{◌≡◌, ℕ, ◌+◌, List, ◌++◌, take, drop, Option, Some, None, refl, ap, ◌∙◌, sym, append_assoc, length, ◌-◌}
use Rattle.std.proofs.Math.Seq.{take-add}
use Rattle.std.proofs.lemmas.List.{take_rest}
use Rattle.outside.specs.Sink.{appended}

pub appended-appended : (old : Option (List ℕ)) (xs ys : List ℕ)
    → appended (appended old xs) ys ≡ appended old (xs ++ ys)
appended-appended None xs ys = refl
appended-appended (Some b) xs ys = ap Some (append_assoc b xs ys)

-- the slice of what is left reaches to the end of the text
pub appended-take : (old now new : Option (List ℕ)) (text : List ℕ) (at n : ℕ) → now ≡ appended old (take at text)
    → new ≡ appended now (take n (take (length text - at) (drop at text))) → new ≡ appended old (take (at + n) text)
appended-take old now new text at n before step =
    step ∙ ap (λ s. appended now (take n s)) (take_rest text at) ∙ ap (λ o. appended o (take n (drop at text))) before
    ∙ appended-appended old (take at text) (take n (drop at text)) ∙ ap (appended old) (sym (take-add at n text))
