use Rattle.std.proofs.Common.{◌≡◌, ℕ, ◌^◌, ◌<◌, ◌≤◌, List, Bor, Option, Some, Result, Ok, decimal, ◌∙◌, ⊎_elim, ap, subst, sym, true≢false, arith}
use Rattle.std.specs.Str.Parse.{ParsesUnsigned}
use Rattle.std.proofs.lemmas.Fmt.{parse-decimal}
use Rattle.std.proofs.lemmas.Slice.Eq.{bytes_eq-Decides}
use Rattle.hoist_words.specs.Request.{IsValue}
use Rattle.hoist_words.specs.Found.{listed}
use Rattle.hoist_words.proofs.numbers.number_within.Goals as goal

given_value : (given : Option (Bor (List ℕ))) (word : Bor (List ℕ)) (default least most n : ℕ) → given ≡ Some word
    → IsValue (listed given) default least most n
    → (word.now ≡ decimal n) × (least ≤ n) × (n ≤ most)
given_value given word default least most n e h = subst (λ g. IsValue (listed g) default least most n) e h

parsed_value : {E : Type 0} (given : Option (Bor (List ℕ))) (word : Bor (List ℕ)) (default least most n : ℕ) (r : Result ℕ E)
    → given ≡ Some word → most < 2 ^ 32
    → ParsesUnsigned 32 10 word.now r → IsValue (listed given) default least most n → r ≡ Ok n
parsed_value given word default least most n r e small parses h =
    let v = given_value given word default least most n e h in
    parse-decimal 32 n word.now r (omega (arith, v.2, small)) (omega (arith, v.2, small)) v.0 parses

pub returns-in_default-parse : goal.returns-in_default-parse
returns-in_default-parse c n h =
    let a = c.args in
    c.in_default-parse.not-Ok n (parsed_value a.given c.in-Some.word a.default a.least a.most n c.parse.result
    c.in-Some.is (omega (arith, c.ranges.most.fits)) c.parse.ensures.value.0 h)

ok_same : {E : Type 0} (r : Result ℕ E) (m n : ℕ) → r ≡ Ok m → r ≡ Ok n → m ≡ n
ok_same r m n e f = cc

pub returns-then-number-least : goal.returns-then-number-least
returns-then-number-least c n h =
    let a = c.args in
    let v = given_value a.given c.in-Some.word a.default a.least a.most n c.in-Some.is h in
    let read = parsed_value a.given c.in-Some.word a.default a.least a.most n c.parse.result c.in-Some.is
    (omega (arith, c.ranges.most.fits)) c.parse.ensures.value.0 h in
    let same : c.in-Ok.number ≡ n = ok_same c.parse.result c.in-Ok.number n c.in-Ok.is read in
    ⊎_elim (λ low. omega (arith, low, v.1, same)) (λ high. omega (arith, high.1, v.2, same)) c.then-number-least.either

pub returns-else-eq : goal.returns-else-eq
returns-else-eq c n h =
    let a = c.args in
    let v = given_value a.given c.in-Some.word a.default a.least a.most n c.in-Some.is h in
    let read = parsed_value a.given c.in-Some.word a.default a.least a.most n c.parse.result c.in-Some.is
    (omega (arith, c.ranges.most.fits)) c.parse.ensures.value.0 h in
    let same : c.in-Ok.number ≡ n = ok_same c.parse.result c.in-Ok.number n c.in-Ok.is read in
    let written : c.format.result.now ≡ c.in-Some.word.now = c.format.ensures.text ∙ ap decimal same ∙ sym v.0 in
    true≢false (sym ((bytes_eq-Decides c.format.result.now c.in-Some.word.now).1 written) ∙ sym c.eq.ensures ∙ c.if-eq.false)
