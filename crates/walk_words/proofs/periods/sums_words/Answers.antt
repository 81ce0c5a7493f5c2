use Rattle.std.proofs.Common.{rules, ◌≡◌, w64, to_z, of_z, pos, ◌-ℤ◌, arith, ◌∷◌, [], ◌++◌, codes, neg_ℤ, ap, ◌∙◌}
use Rattle.std.specs.Fmt.{signed_decimal}
use Rattle.walk_words.specs.Periods.{periods_of, periods_text}
use Rattle.walk_words.specs.Places.{signed_count_text}
use mir.Val.{SFits}
use Rattle.std.proofs.lemmas.Int.{ints, to_z-of_z}
use Rattle.walk_words.proofs.Texts.{grown}
use Rattle.walk_words.proofs.periods.sums_words.Goals as goal

pub returns : goal.returns
returns c =
    let s = c.args.sums in
    let kept : SFits w64 s.q = search rules in
    let fits : SFits w64 (neg_ℤ s.q) = search rules in
    let less : pos 0 -ℤ to_z w64 (of_z w64 s.q) ≡ neg_ℤ s.q = omega (arith, ints, to_z-of_z w64 s.q kept) in
    let negated : to_z w64 (of_z w64 (pos 0 -ℤ to_z w64 (of_z w64 s.q))) ≡ to_z w64 (of_z w64 (neg_ℤ s.q)) =
    ap (λ z. to_z w64 (of_z w64 z)) less in
    grown [] c.push_word_signed.new.text.items (codes "the walk takes " ++ signed_decimal s.w)
    ((c.extend_from_slice.new.self.items, codes " ticks in ")
    ∷ (c.push_signed_count.new.text.items, signed_count_text (neg_ℤ s.q))
    ∷ (c.push_periods.new.text.items, periods_text (periods_of s))
    ∷ []) (search rules) (
      c.in_ok-extend_from_slice.ensures.items,
      (
        c.in_ok-push_signed_count.ensures
            ∙ ap (λ z. c.extend_from_slice.new.self.items ++ signed_count_text z)
            (negated ∙ to_z-of_z w64 (neg_ℤ s.q) fits),
        (
          search rules,
          tt,
        ),
      ),
    )
