use Rattle.std.proofs.Common.{◌≡◌, ℕ, ◌+◌, ◌*◌, ◌<◌, List, length, get_or, replicate, refl, ap, ◌∙◌, arith}
use Rattle.std.proofs.lemmas.List.{length-replicate, get_or-replicate}
use Rattle.hoist_base.specs.LineData.{move_count, visit_count}
use Rattle.machine_loops.proofs.ReadTimetable.{nothing_read}
use Rattle.machine_loops.proofs.reading.blank.Goals as goal

zeros_count : (xs : List ℕ) (n m : ℕ) → xs ≡ replicate n 0 → n ≡ m → length xs ≡ m
zeros_count xs n m is same = ap (λ (ys : List ℕ). length ys) is ∙ length-replicate n 0 ∙ same

zero_at : (xs : List ℕ) (n i : ℕ) → xs ≡ replicate n 0 → i < n → get_or xs i 0 ≡ 0
zero_at xs n i is lt = ap (λ (ys : List ℕ). get_or ys i 0) is ∙ get_or-replicate n i 0 0 lt

pub returns-clause-blank : goal.returns-clause-blank
returns-clause-blank c =
    let l = c.args.line.now in
    let r = c.degree-carriers.result in
    let n = c.inner.result in
    let degree = c.degree-carriers.ensures.value in
    let count = c.inner.ensures.count in
    let moves : r * (n + 1) ≡ move_count l = ap (λ (m : ℕ). m * (n + 1)) degree ∙ ap (λ (m : ℕ). l.degree * m) (omega arith) in
    let visits : r * (n + 1 + 1) ≡ visit_count l = ap (λ (m : ℕ). m * (n + 1 + 1)) degree ∙ ap (λ (m : ℕ). l.degree * m) (omega arith) in
    let places : c.hoists.result * length c.args.frames.now ≡ l.hoists * length c.args.frames.now = ap
    (λ (m : ℕ). m * length c.args.frames.now) c.hoists.ensures.value in
    let offs = c.in_ok-vec-2.ensures.items_if_clones_equal (λ y e. e) in
    nothing_read l c.args.frames.now _ refl
    (zeros_count c.in_ok-vec.field-0.items r l.degree (c.in_ok-vec.ensures.items_if_clones_equal (λ y e. e)) degree)
    (zeros_count c.in_ok-vec-2.field-0.items r l.degree offs degree)
    (λ i lt. zero_at c.in_ok-vec-2.field-0.items r i offs (omega arith))
    (zeros_count c.in_ok-vec-3.field-0.items (r * (n + 1)) (move_count l) (c.in_ok-vec-3.ensures.items_if_clones_equal (λ y e. e)) moves)
    (zeros_count c.in_ok-vec-4.field-0.items (r * (n + 1)) (move_count l) (c.in_ok-vec-4.ensures.items_if_clones_equal (λ y e. e)) moves)
    (zeros_count c.in_ok-vec-6.field-0.items (r * (n + 1 + 1)) (visit_count l) (c.in_ok-vec-6.ensures.items_if_clones_equal (λ y e. e)) visits)
    (zeros_count c.in_ok-vec-5.field-0.items (c.hoists.result * length c.args.frames.now)
    (l.hoists * length c.args.frames.now) (c.in_ok-vec-5.ensures.items_if_clones_equal (λ y e. e)) places)
