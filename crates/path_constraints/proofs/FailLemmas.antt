-- Whether ticks leave a question open, as the code reads it.
use Rattle.std.proofs.Common.{◌≡◌, ℕ, List, refl, sym, ◌∙◌, ap, subst, ℤ, Some}
use Rattle.std.specs.Prelude.{Option, ◌<ℤ◌, ◌↔◌, neg_ℤ, IsSomeAnd, unsigned_abs, ◌≤◌}
use Rattle.hoist_base.specs.LineData.{LineData}
use Rattle.hoist_base.specs.declared.ids.VisitId.{VisitId}
use Rattle.hoist_base.specs.declared.ids.MoveId.{MoveId}
use Rattle.collision_pairs.specs.declared.span.Span.{Span}
use Rattle.choice_tree.specs.declared.question.Question.{Question}
use Rattle.choice_tree.specs.declared.question.Question.TheVariants.{TankOrder, HoistOrder}
use Rattle.choice_tree.specs.declared.question.Decision.{Decision}
use Rattle.path_constraints.specs.Holds.{begin_of, end_of, tick_of, periods_later}
use Rattle.path_constraints.specs.Questions.{Fits, Fails, HoldTogether, offset_of, shift_of}
use Rattle.path_constraints.specs.Tanks.{low}
use Rattle.path_constraints.specs.Hoists.{clash_below}

-- a tick of equal parts
pub later_is : (t t' q q' : ℤ) (period : ℕ) (r : ℤ) → t ≡ t' → q ≡ q' → r ≡ periods_later t q period
    → r ≡ periods_later t' q' period
later_is t t' q q' period r e f is = is ∙ ap (λ (z : ℤ). periods_later z q period) e ∙ ap (λ (z : ℤ). periods_later t' z period) f

-- two comparisons of equal numbers
pub below_is : (R : Type 0) (a b d e a' b' d' e' : ℤ) → a ≡ a' → b ≡ b' → d ≡ d' → e ≡ e' → (R ↔ ((a <ℤ b) × (d <ℤ e)))
    → R ↔ ((a' <ℤ b') × (d' <ℤ e'))
below_is R a b d e a' b' d' e' ea eb ed ee h =
    let P1 : ℤ → Type 0 = λ z. R ↔ ((z <ℤ b) × (d <ℤ e)) in
    let P2 : ℤ → Type 0 = λ z. R ↔ ((a' <ℤ z) × (d <ℤ e)) in
    let P3 : ℤ → Type 0 = λ z. R ↔ ((a' <ℤ b') × (z <ℤ e)) in
    let P4 : ℤ → Type 0 = λ z. R ↔ ((a' <ℤ b') × (d' <ℤ z)) in
    subst P4 ee (subst P3 ed (subst P2 eb (subst P1 ea h)))

-- the orders
pub fails_tanks : (l : LineData) (path : List Decision) (ticks : ℕ → ℤ) (period : ℕ) (x : Question) (a b : VisitId) (q q' : ℤ) (R : Type 0)
    → x ≡ TankOrder a b q → q' ≡ q
    → (R ↔ HoldTogether l (low l path) ticks period a b q') → R ↔ Fails l path ticks period x
fails_tanks l path ticks period x a b q q' R e f h =
    let P : Question → Type 0 = λ y. R ↔ Fails l path ticks period y in
    let Q : ℤ → Type 0 = λ z. R ↔ HoldTogether l (low l path) ticks period a b z in
    subst P (sym e) (subst Q f h)

-- the offset is one that the clash of two moves forbids
abbrev pub Clashes : LineData → List Decision → (ℕ → ℤ) → ℕ → MoveId → MoveId → ℤ → Type 0
Clashes l path ticks period a b q =
    IsSomeAnd (clash_below l path a b) (λ span. (neg_ℤ span.before <ℤ offset_of l ticks period a b q) × (offset_of l ticks period a b q <ℤ span.after))

pub fails_hoists : (l : LineData) (path : List Decision) (ticks : ℕ → ℤ) (period : ℕ) (x : Question) (a b : MoveId) (q q' : ℤ) (R : Type 0)
    → x ≡ HoistOrder a b q → q' ≡ q
    → (R ↔ Clashes l path ticks period a b q') → R ↔ Fails l path ticks period x
fails_hoists l path ticks period x a b q q' R e f h =
    let P : Question → Type 0 = λ y. R ↔ Fails l path ticks period y in
    let Q : ℤ → Type 0 = λ z. R ↔ Clashes l path ticks period a b z in
    subst P (sym e) (subst Q f h)

-- the q of an order that fits is small
pub order_small : (l : LineData) (path : List Decision) (x y : Question) → x ≡ y → Fits l path x
    → unsigned_abs (shift_of y) ≤ 1000000000
order_small l path x y e f = let P : Question → Type 0 = λ z. unsigned_abs (shift_of z) ≤ 1000000000 in subst P e f.small

pub together_is : (l : LineData) (d : ℕ → ℕ → ℕ) (ticks : ℕ → ℤ) (period : ℕ) (a b : VisitId) (q q' : ℤ) (R : Type 0) (ba ea bb eb : ℤ)
    → q' ≡ q
    → ba ≡ tick_of l ticks (begin_of l d a.carrier a.stage) → ea ≡ tick_of l ticks (end_of l d a.carrier a.stage)
    → bb ≡ tick_of l ticks (begin_of l d b.carrier b.stage) → eb ≡ tick_of l ticks (end_of l d b.carrier b.stage)
    → (R ↔ ((periods_later bb q' period <ℤ ea) × (ba <ℤ periods_later eb q' period)))
    → R ↔ HoldTogether l d ticks period a b q
together_is l d ticks period a b q q' R ba ea bb eb e e1 e2 e3 e4 h =
    below_is R (periods_later bb q' period) ea ba (periods_later eb q' period)
    (periods_later (tick_of l ticks (begin_of l d b.carrier b.stage)) q period) (tick_of l ticks (end_of l d a.carrier a.stage))
    (tick_of l ticks (begin_of l d a.carrier a.stage))
    (periods_later (tick_of l ticks (end_of l d b.carrier b.stage)) q period)
    (later_is bb (tick_of l ticks (begin_of l d b.carrier b.stage)) q' q period (periods_later bb q' period) e3 e refl) e2 e1
    (later_is eb (tick_of l ticks (end_of l d b.carrier b.stage)) q' q period (periods_later eb q' period) e4 e refl) h

-- a clash that is there
pub within_is : (R : Type 0) (x : Option Span) (s : Span) (o o' : ℤ) → x ≡ Some s → o ≡ o'
    → (R ↔ ((neg_ℤ s.before <ℤ o) × (o <ℤ s.after)))
    → R ↔ IsSomeAnd x (λ span. (neg_ℤ span.before <ℤ o') × (o' <ℤ span.after))
within_is R x s o o' e f h =
    let P : ℤ → Type 0 = λ z. R ↔ ((neg_ℤ s.before <ℤ z) × (z <ℤ s.after)) in
    let Q : Option Span → Type 0 = λ y. R ↔ IsSomeAnd y (λ span. (neg_ℤ span.before <ℤ o') × (o' <ℤ span.after)) in
    let at : R ↔ IsSomeAnd (Some s) (λ span. (neg_ℤ span.before <ℤ o') × (o' <ℤ span.after)) = subst P f h in
    subst Q (sym e) at
