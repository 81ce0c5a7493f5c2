use Rattle.std.proofs.Common.{◌≡◌, arith, ℤ, sym, ◌∙◌, subst, Some}
use Rattle.std.specs.Prelude.{Option, IsSomeAnd, ◌-ℤ◌, ◌+ℤ◌}
use Rattle.std.proofs.lemmas.Int.{ints}
use mir.Val.{to_z, of_z}
use mir.Syntax.{w32, w64}
use Rattle.collision_pairs.specs.declared.span.Span.{Span}
use Rattle.period_constraints.specs.Pairs.{IsBetween}
use Rattle.period_constraints.specs.Starts.{AreClashing, clash_rides}
use Rattle.period_constraints.proofs.PairLemmas.{shift_same}
use Rattle.period_constraints.proofs.starts.clash_shift.Goals as goal

pub first_shift-requires-clause-near : goal.first_shift-requires-clause-near
first_shift-requires-clause-near c =
    let tight = c.in-Some.ensures.tight in
    omega (arith, ints, c.requires.first.near, c.requires.second.near, tight.before)

pub returns-in-Some-clause-first : goal.returns-in-Some-clause-first
returns-in-Some-clause-first c =
    let l = c.args.line.now in
    let a = c.args.a in
    let b = c.args.b in
    let t = c.args.period in
    let span = c.in-Some.span in
    let tight = c.in-Some.ensures.tight in
    let apart : ℤ = to_z w32 (of_z w32 a.tick) -ℤ to_z w32 (of_z w32 b.tick) in
    let low : ℤ = to_z w32 (of_z w32 (to_z w32 (of_z w32 apart) -ℤ to_z w32 (of_z w32 (to_z w64 (of_z w64 span.before))))) in
    let high : ℤ = to_z w32 (of_z w32 (to_z w32 (of_z w32 apart) +ℤ to_z w32 (of_z w32 (to_z w64 (of_z w64 span.after))))) in
    let is_low : low ≡ (a.tick -ℤ b.tick) -ℤ span.before = omega (arith, ints, c.requires.first.near, c.requires.second.near, tight.before) in
    let is_high : high ≡ (a.tick -ℤ b.tick) +ℤ span.after = omega (arith, ints, c.requires.first.near, c.requires.second.near, tight.after) in
    let C : ℤ → Option Span → Type 0 = λ q x. IsSomeAnd x (λ z. IsBetween ((a.tick -ℤ b.tick) -ℤ z.before) ((a.tick -ℤ b.tick) +ℤ z.after) t q) in
    let is : clash_rides l a.ride b.ride ≡ Some span = sym c.span_of.ensures.value ∙ c.in-Some.is in
    let to : (q : ℤ) → IsBetween low high t q → AreClashing l a b t q =
    λ q h. let at : C q (Some span) = (omega (arith, ints, h.0, is_low), omega (arith, ints, h.1, is_high)) in subst (C q) (sym is) at in
    let from : (q : ℤ) → AreClashing l a b t q → IsBetween low high t q =
    λ q h. let at : C q (Some span) = subst (C q) is h in (omega (arith, ints, at.0, is_low), omega (arith, ints, at.1, is_high)) in
    shift_same (λ q. IsBetween low high t q) (λ q. AreClashing l a b t q) c.first_shift.result to from c.first_shift.ensures.first
