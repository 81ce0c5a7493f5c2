use Rattle.std.proofs.Common.{◌≡◌, ◌==◌, ℕ, true, List, [], ◌++◌, length, codes, ◌∙◌, sym, ap, append-nil, true≢false}
use Rattle.std.proofs.lemmas.List.{append_cancel_left}
use Rattle.hoist_words.proofs.forms.form_as.Goals as goal

-- a word that doesn't begin so
pub returns-in_default : goal.returns-in_default
returns-in_default c =
    (λ e. c.in_default.ensures [] (e ∙ sym (append-nil c.args.opening.now)), λ value. c.in_default.ensures (codes "=" ++ value))

-- a word that goes on with something else
pub returns-in-None : goal.returns-in-None
returns-in-None c =
    let opening = c.args.opening.now in
    let rest = c.in-Some.rest.now in
    let goes_on : c.args.word.now ≡ opening ++ rest = c.in-Some.ensures in (
      λ e.
          let none : rest ≡ [] = append_cancel_left opening rest [] (sym goes_on ∙ e ∙ sym (append-nil opening)) in
          let empty : (length rest == 0) ≡ true = ap (λ (xs : List ℕ). length xs == 0) none in
          true≢false (sym empty ∙ sym c.is_empty.ensures ∙ c.if-is_empty.false),
      λ value e. c.in-None.ensures value (append_cancel_left opening rest (codes "=" ++ value) (sym goes_on ∙ e)),
    )
