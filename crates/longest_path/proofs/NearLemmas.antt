-- Packed constraints: one more, and what they bring.
use Rattle.std.proofs.Common.{◌≡◌, ℕ, suc, ◌+◌, ◌-◌, ◌<◌, ◌≤◌, ◌⊎◌, inl, inr, ⊎_elim, List, length, set, refl, sym, ap, ◌∙◌, subst, true, false, ℤ, pos, ◌+ℤ◌, ◌≤ℤ◌, get_or-set_same, get_or-set_other, length-set, to_z, of_z, w64, arith}
use Rattle.std.specs.Prelude.{unsigned_abs}
use Rattle.std.specs.Int.{int_max}
use Rattle.std.proofs.lemmas.Int.{ints, clamps, by_lt_z}
use Rattle.std.proofs.lemmas.Bool.{cases_eq, cases_lt, false≢true}
use Rattle.std.proofs.lemmas.List.{get_or_past}
use Rattle.longest_path.specs.declared.room.Near.{Near}
use Rattle.longest_path.specs.declared.room.Step.{Step}
use Rattle.longest_path.specs.System.{SystemData, IsSystem, arc, weight}
use Rattle.longest_path.specs.Rounds.{weights_at, brought, number}
use Rattle.longest_path.specs.Steps.{step, step_of, FitNodes}
use Rattle.longest_path.specs.Near.{none, HasNodes, AreSmall, IsNearOffer, IsNearest, IsMade, IsWeight, IsTaken, IsPacked, Takes, IsClear, raised_to}
use Rattle.longest_path.proofs.ValueLemmas.{keeps, brings, is_brought, weight_small}

-- ---- numbers as they are kept
abbrev pub cast : ℤ → ℤ
cast z = to_z w64 (of_z w64 z)

abbrev IsSmall : ℤ → Type 0
IsSmall z = unsigned_abs z ≤ 100000000000000000

cast_is : (z : ℤ) → unsigned_abs z ≤ 400000000000000000 → cast z ≡ z
cast_is z small = omega (arith, ints, small)

sum_small : (a b : ℤ) → IsSmall a → IsSmall b → unsigned_abs (a +ℤ b) ≤ 200000000000000000
sum_small a b x y = omega (arith, ints, x, y)

max_small : (a b : ℤ) (m : ℕ) → unsigned_abs a ≤ m → unsigned_abs b ≤ m → unsigned_abs (int_max a b) ≤ m
max_small a b m x y = omega (arith, ints, clamps, x, y)

-- the greater of two kept sums
pub greater_of : (r a b c d : ℤ) → IsSmall a → IsSmall b → IsSmall c → IsSmall d
    → r ≡ int_max (cast a +ℤ cast b) (cast c +ℤ cast d) → cast r ≡ int_max (a +ℤ b) (c +ℤ d)
greater_of r a b c d sa sb sc sd is =
    let first : cast a +ℤ cast b ≡ a +ℤ b = omega (arith, ints, cast_is a (omega (arith, sa)), cast_is b (omega (arith, sb))) in
    let second : cast c +ℤ cast d ≡ c +ℤ d = omega (arith, ints, cast_is c (omega (arith, sc)), cast_is d (omega (arith, sd))) in
    let at : r ≡ int_max (a +ℤ b) (c +ℤ d) = is ∙ ap (λ z. int_max z (cast c +ℤ cast d)) first ∙ ap (int_max (a +ℤ b)) second in
    ap cast at ∙ cast_is (int_max (a +ℤ b) (c +ℤ d)) (omega (arith, max_small (a +ℤ b) (c +ℤ d) 200000000000000000 (sum_small a b sa sb) (sum_small c d sc sd)))

-- the greater of a kept number and a kept sum
pub greater_than : (r g e f : ℤ) → unsigned_abs g ≤ 200000000000000000 → IsSmall e → IsSmall f
    → r ≡ int_max (cast g) (cast (cast e +ℤ cast f)) → cast r ≡ int_max (cast g) (e +ℤ f)
greater_than r g e f sg se sf is =
    let sum : cast e +ℤ cast f ≡ e +ℤ f = omega (arith, ints, cast_is e (omega (arith, se)), cast_is f (omega (arith, sf))) in
    let second : cast (cast e +ℤ cast f) ≡ e +ℤ f = ap cast sum ∙ cast_is (e +ℤ f) (omega (arith, sum_small e f se sf)) in
    let kept : cast g ≡ g = cast_is g (omega (arith, sg)) in
    let at : r ≡ int_max (cast g) (e +ℤ f) = is ∙ ap (int_max (cast g)) second in
    ap cast at ∙ cast_is (int_max (cast g) (e +ℤ f)) (omega (
      arith,
      max_small (cast g) (e +ℤ f) 200000000000000000 (subst (λ (z : ℤ). unsigned_abs z ≤ 200000000000000000)
          (sym kept) sg) (sum_small e f se sf),
    ))

-- the greatest of three kept sums
pub greatest_of : (r a b c d e f : ℤ) → IsSmall a → IsSmall b → IsSmall c → IsSmall d → IsSmall e → IsSmall f
    → r ≡ int_max (int_max (cast a +ℤ cast b) (cast c +ℤ cast d)) (cast e +ℤ cast f)
    → cast r ≡ int_max (int_max (a +ℤ b) (c +ℤ d)) (e +ℤ f)
greatest_of r a b c d e f sa sb sc sd se sf is =
    let first : cast a +ℤ cast b ≡ a +ℤ b = omega (arith, ints, cast_is a (omega (arith, sa)), cast_is b (omega (arith, sb))) in
    let second : cast c +ℤ cast d ≡ c +ℤ d = omega (arith, ints, cast_is c (omega (arith, sc)), cast_is d (omega (arith, sd))) in
    let third : cast e +ℤ cast f ≡ e +ℤ f = omega (arith, ints, cast_is e (omega (arith, se)), cast_is f (omega (arith, sf))) in
    let at : r ≡ int_max (int_max (a +ℤ b) (c +ℤ d)) (e +ℤ f) =
    is ∙ ap (λ z. int_max (int_max z (cast c +ℤ cast d)) (cast e +ℤ cast f)) first
    ∙ ap (λ z. int_max (int_max (a +ℤ b) z) (cast e +ℤ cast f)) second
    ∙ ap (int_max (int_max (a +ℤ b) (c +ℤ d))) third in
    ap cast at
    ∙ cast_is (int_max (int_max (a +ℤ b) (c +ℤ d)) (e +ℤ f))
    (omega (
      arith,
      max_small (int_max (a +ℤ b) (c +ℤ d)) (e +ℤ f) 200000000000000000
          (max_small (a +ℤ b) (c +ℤ d) 200000000000000000 (sum_small a b sa sb) (sum_small c d sc sd))
          (sum_small e f se sf),
    ))

-- ---- a row with a number raised
pub raised_other : (row : List ℤ) (i j : ℕ) (z : ℤ) → (j ≡ i → ⊥) → number (raised_to row i z) j ≡ number row j
raised_other row i j z ne = get_or-set_other row i j (int_max (number row i) z) (pos 0) ne

pub raised_here : (row : List ℤ) (i : ℕ) (z : ℤ) → i < length row
    → number (raised_to row i z) i ≡ int_max (number row i) z
raised_here row i z lt = get_or-set_same row i (int_max (number row i) z) (pos 0) lt

pub raised_rises : (row : List ℤ) (i j : ℕ) (z : ℤ) → i < length row → number row j ≤ℤ number (raised_to row i z) j
raised_rises row i j z lt =
    ⊎_elim
    (λ e. omega (arith, ints, clamps, ap (number row) e, ap (number (raised_to row i z)) e, raised_here row i z lt))
    (λ ne. omega (arith, ints, raised_other row i j z ne))
    (cases_eq j i)

pub raised_to_it : (row : List ℤ) (i : ℕ) (z : ℤ) → i < length row → z ≤ℤ number (raised_to row i z) i
raised_to_it row i z lt = omega (arith, ints, clamps, raised_here row i z lt)

-- what was there, or the weight
pub raised_is : (row : List ℤ) (i j : ℕ) (z : ℤ) → i < length row
    → (number (raised_to row i z) j ≡ number row j) ⊎ ((j ≡ i) × (number (raised_to row i z) j ≡ z))
raised_is row i j z lt =
    ⊎_elim
    (λ e.
    let here = ap (number (raised_to row i z)) e ∙ raised_here row i z lt in
    by_lt_z (number row i) z
    (λ less. inr (e, omega (arith, ints, clamps, here, less)))
    (λ le. inl (omega (arith, ints, clamps, here, le, ap (number row) e))))
    (λ ne. inl (raised_other row i j z ne))
    (cases_eq j i)

raised_small : (row : List ℤ) (i j b : ℕ) (z : ℤ) → i < length row → unsigned_abs (number row j) ≤ b
    → unsigned_abs z ≤ b → unsigned_abs (number (raised_to row i z) j) ≤ b
raised_small row i j b z lt small light =
    ⊎_elim (λ e. omega (arith, ints, e, small)) (λ (_, e). omega (arith, ints, e, light)) (raised_is row i j z lt)

-- ---- packing
-- a weight of the first m constraints is one of the first m + 1
weight_later : (s : SystemData) (period m a b : ℕ) (z : ℤ) → IsWeight s period m a b z → IsWeight s period (m + 1) a b z
weight_later s period m a b z (k, k_in, from, to, is) = (k, omega (arith, k_in), from, to, is)

pub packed_none : (s : SystemData) (period : ℕ) (near : Near) (steps : List Step) → length steps ≡ length s.arcs
    → HasNodes s.nodes near → IsClear s.nodes near → IsPacked s period 0 0 near steps
packed_none s period near steps room nodes clear = record {
  few = omega arith;
  room = room;
  nodes = nodes;
  stays = λ i i_in. omega (arith, ints, (clear i i_in).0);
  some_stay = λ i i_in. inl (clear i i_in).0;
  some_rise = λ i i_in. inl (clear i i_in).1;
  some_fall = λ i i_in. inl (clear i i_in).2;
  some = λ p less. absurd (omega (arith, less));
  all = λ k less. absurd (omega (arith, less));
}

-- a constraint that was taken stays so where near weights rise and steps stay
taken_later : (s : SystemData) (period n n' : ℕ) (old new : Near) (steps steps' : List Step) (k : ℕ) → n ≤ n'
    → ((i : ℕ) → (number old.stay.items i ≤ℤ number new.stay.items i)
    × (number old.rise.items i ≤ℤ number new.rise.items i) × (number old.fall.items i ≤ℤ number new.fall.items i))
    → ((p : ℕ) → p < n → step steps' p ≡ step steps p) → IsTaken s period n old steps k
    → IsTaken s period n' new steps' k
taken_later s period n n' old new steps steps' k le rises same taken =
    let to = (arc s k).to in
    ⊎_elim (λ (e, at). inl (e, omega (arith, ints, at, (rises to).0)))
    (λ more.
    ⊎_elim (λ (e, at). inr (inl (e, omega (arith, ints, at, (rises to).1))))
    (λ more.
    ⊎_elim (λ (e, at). inr (inr (inl (e, omega (arith, ints, at, (rises to).2)))))
    (λ (p, less, is). inr (inr (inr (p, omega (arith, less, le), same p less ∙ is)))) more)
    more)
    taken

-- a row in which at most one number rose, to a weight, and that under a condition
record Moved (c : Type 0) (to : ℕ) (z : ℤ) (old new : List ℤ) : Type 0 where
  pub len : length new ≡ length old
  pub rises : (i : ℕ) → number old i ≤ℤ number new i
  pub is : (i : ℕ) → (number new i ≡ number old i) ⊎ ((i ≡ to) × (number new i ≡ z) × c)

moved_none : (c : Type 0) (to : ℕ) (z : ℤ) (old new : List ℤ) → new ≡ old → Moved c to z old new
moved_none c to z old new e = record {
  len = ap length e;
  rises = λ i. omega (arith, ints, ap (λ (xs : List ℤ). number xs i) e);
  is = λ i. inl (ap (λ (xs : List ℤ). number xs i) e);
}

moved_one : (c : Type 0) (to : ℕ) (z : ℤ) (old new : List ℤ) → to < length old → c → new ≡ raised_to old to z
    → Moved c to z old new
moved_one c to z old new lt holds e =
    let at : (i : ℕ) → number new i ≡ number (raised_to old to z) i = λ i. ap (λ (xs : List ℤ). number xs i) e in
    record {
      len = ap length e ∙ length-set old to (int_max (number old to) z);
      rises = λ i. omega (arith, ints, at i, raised_rises old to i z lt);
      is = λ i. ⊎_elim (λ same. inl (at i ∙ same)) (λ (here, is). inr (here, at i ∙ is, holds)) (raised_is old to i z lt);
    }

moved_to : (to : ℕ) (z : ℤ) (old new : List ℤ) → to < length old → new ≡ raised_to old to z → z ≤ℤ number new to
moved_to to z old new lt e = omega (arith, ints, ap (λ (xs : List ℤ). number xs to) e, raised_to_it old to z lt)

-- a constraint between near nodes is no stricter than what its row has
abbrev IsKept : Near → ℕ → ℕ → ℤ → Type 0
IsKept near from to z =
    ((from ≡ to) × (z ≤ℤ number near.stay.items to))
    ⊎ (((suc from ≡ to) × (z ≤ℤ number near.rise.items to))
    ⊎ ((from ≡ suc to) × (z ≤ℤ number near.fall.items to)))

record AreMoved (from to : ℕ) (z : ℤ) (old new : Near) : Type 0 where
  pub stay : Moved (from ≡ to) to z old.stay.items new.stay.items
  pub rise : Moved (suc from ≡ to) to z old.rise.items new.rise.items
  pub fall : Moved (from ≡ suc to) to z old.fall.items new.fall.items
  pub kept : IsKept new from to z

moved : (nodes from to : ℕ) (z : ℤ) (old new : Near) → HasNodes nodes old → to < nodes → Takes from to z true old new
    → AreMoved from to z old new
moved nodes from to z old new has to_in takes =
    let (stays, rises, falls) = has in
    let in_stay : to < length old.stay.items = omega (arith, stays, to_in) in
    let in_rise : to < length old.rise.items = omega (arith, rises, to_in) in
    let in_fall : to < length old.fall.items = omega (arith, falls, to_in) in
    ⊎_elim
    (λ (e, taken, stay, rise, fall). record {
      stay = moved_one (from ≡ to) to z old.stay.items new.stay.items in_stay e stay;
      rise = moved_none (suc from ≡ to) to z old.rise.items new.rise.items (ap (λ v. v.items) rise);
      fall = moved_none (from ≡ suc to) to z old.fall.items new.fall.items (ap (λ v. v.items) fall);
      kept = inl (e, moved_to to z old.stay.items new.stay.items in_stay stay);
    })
    (λ more.
    ⊎_elim
    (λ (e, taken, stay, rise, fall). record {
      stay = moved_none (from ≡ to) to z old.stay.items new.stay.items (ap (λ v. v.items) stay);
      rise = moved_one (suc from ≡ to) to z old.rise.items new.rise.items in_rise e rise;
      fall = moved_none (from ≡ suc to) to z old.fall.items new.fall.items (ap (λ v. v.items) fall);
      kept = inr (inl (e, moved_to to z old.rise.items new.rise.items in_rise rise));
    })
    (λ more.
    ⊎_elim
    (λ (e, taken, stay, rise, fall). record {
      stay = moved_none (from ≡ to) to z old.stay.items new.stay.items (ap (λ v. v.items) stay);
      rise = moved_none (suc from ≡ to) to z old.rise.items new.rise.items (ap (λ v. v.items) rise);
      fall = moved_one (from ≡ suc to) to z old.fall.items new.fall.items in_fall e fall;
      kept = inr (inr (e, moved_to to z old.fall.items new.fall.items in_fall fall));
    })
    (λ (missed, same). absurd (false≢true (sym missed)))
    more)
    more)
    takes

-- what a row has is what it had, or the weight of the constraint that was taken
row_some : (s : SystemData) (period m a b : ℕ) (lacks z y : ℤ) → (z ≡ lacks) ⊎ IsWeight s period m a b z
    → (y ≡ z) ⊎ IsWeight s period (m + 1) a b y → (y ≡ lacks) ⊎ IsWeight s period (m + 1) a b y
row_some s period m a b lacks z y before now =
    ⊎_elim
    (λ same.
    ⊎_elim
    (λ e. inl (same ∙ e))
    (λ (k, k_in, from, to, is). inr (k, omega (arith, k_in), from, to, is ∙ sym same))
    before)
    (λ one. inr one)
    now

-- one more, between near nodes
pub packed_near : (s : SystemData) (period m n : ℕ) (old new : Near) (steps : List Step) (from to : ℕ) (z : ℤ)
    → IsPacked s period m n old steps → m < length s.arcs → IsSystem s → from ≡ (arc s m).from → to ≡ (arc s m).to
    → z ≡ weight (arc s m) period → Takes from to z true old new → IsPacked s period (m + 1) n new steps
packed_near s period m n old new steps from to z h m_in valid is_from is_to is_z takes =
    let to_in : to < s.nodes = omega (arith, is_to, (valid.ends m m_in).1) in
    let at = moved s.nodes from to z old new h.nodes to_in takes in
    record {
      few = omega (arith, h.few);
      room = h.room;
      nodes = (at.stay.len ∙ h.nodes.0, at.rise.len ∙ h.nodes.1, at.fall.len ∙ h.nodes.2);
      stays = λ i i_in. omega (arith, ints, h.stays i i_in, at.stay.rises i);
      some_stay = λ i i_in.
          row_some s period m i i (pos 0) (number old.stay.items i) (number new.stay.items i) (h.some_stay i i_in)
          (⊎_elim (λ e. inl e) (λ (here, is, c). inr (
            m,
            omega arith,
            omega (arith, is_from, c, here),
            omega (arith, is_to, here),
            sym is_z ∙ sym is,
          )) (at.stay.is i));
      some_rise = λ i i_in.
          row_some s period m (i - 1) i none (number old.rise.items i) (number new.rise.items i) (h.some_rise i i_in)
          (⊎_elim (λ e. inl e) (λ (here, is, c). inr (
            m,
            omega arith,
            omega (arith, is_from, c, here),
            omega (arith, is_to, here),
            sym is_z ∙ sym is,
          )) (at.rise.is i));
      some_fall = λ i i_in.
          row_some s period m (suc i) i none (number old.fall.items i) (number new.fall.items i) (h.some_fall i i_in)
          (⊎_elim (λ e. inl e) (λ (here, is, c). inr (
            m,
            omega arith,
            omega (arith, is_from, c, here),
            omega (arith, is_to, here),
            sym is_z ∙ sym is,
          )) (at.fall.is i));
      some = λ p less. let (k, k_in, same) = h.some p less in (k, omega (arith, k_in), same);
      all = λ k less.
          ⊎_elim
          (λ e. subst (IsTaken s period n new steps) (sym e)
          (⊎_elim
          (λ (loop, le). inl (omega (arith, loop, is_from, is_to), omega (arith, ints, le, is_z, ap (number new.stay.items) is_to)))
          (λ more.
          ⊎_elim
          (λ (up, le). inr (inl (omega (arith, up, is_from, is_to), omega (arith, ints, le, is_z, ap (number new.rise.items) is_to))))
          (λ (down, le). inr (inr (inl (omega (arith, down, is_from, is_to), omega (arith, ints, le, is_z, ap (number new.fall.items) is_to)))))
          more)
          at.kept))
          (λ ne. taken_later s period n n old new steps steps k (omega arith)
          (λ i. (at.stay.rises i, at.rise.rises i, at.fall.rises i)) (λ p p_in. refl)
          (h.all k (omega (arith, less, ne))))
          (cases_eq k m);
    }

-- one more, between other nodes
packed_step : (s : SystemData) (period m n : ℕ) (near : Near) (steps : List Step) (one : Step)
    → IsPacked s period m n near steps → m < length s.arcs → one ≡ step_of s period m
    → IsPacked s period (m + 1) (n + 1) near (set steps n one)
packed_step s period m n near steps one h lt is =
    let here : step (set steps n one) n ≡ one = get_or-set_same steps n one (record { from = 0; to = 0; weight = pos 0 }) (omega (arith, lt, h.few, h.room)) in
    let other : (p : ℕ) → p < n → step (set steps n one) p ≡ step steps p = λ p less. get_or-set_other steps n p one
    (record { from = 0; to = 0; weight = pos 0 }) (omega (arith, less)) in
    record {
      few = omega (arith, h.few);
      room = length-set steps n one ∙ h.room;
      nodes = h.nodes;
      stays = h.stays;
      some_stay = λ i i_in. ⊎_elim (λ e. inl e) (λ w. inr (weight_later s period m i i (number near.stay.items i) w)) (h.some_stay i i_in);
      some_rise = λ i i_in. ⊎_elim (λ e. inl e) (λ w. inr (weight_later s period m (i - 1) i (number near.rise.items i) w)) (h.some_rise i i_in);
      some_fall = λ i i_in. ⊎_elim (λ e. inl e) (λ w. inr (weight_later s period m (suc i) i (number near.fall.items i) w)) (h.some_fall i i_in);
      some = λ p less.
          ⊎_elim
          (λ e. (m, omega arith, ap (step (set steps n one)) e ∙ here ∙ is))
          (λ ne.
          let before : p < n = omega (arith, less, ne) in
          let (k, k_in, same) = h.some p before in
          (k, omega (arith, k_in), other p before ∙ same))
          (cases_eq p n);
      all = λ k less.
          ⊎_elim
          (λ e. inr (inr (inr (n, omega arith, here ∙ is ∙ ap (step_of s period) (sym e)))))
          (λ ne. taken_later s period n (n + 1) near near steps (set steps n one) k (omega arith)
          (λ i. (omega (arith, ints), omega (arith, ints), omega (arith, ints))) other
          (h.all k (omega (arith, less, ne))))
          (cases_eq k m);
    }

pub packed_far : (s : SystemData) (period m n : ℕ) (old new : Near) (steps : List Step) (one : Step) (from to : ℕ) (z : ℤ)
    → IsPacked s period m n old steps → m < length s.arcs → one ≡ step_of s period m → Takes from to z false old new
    → IsPacked s period (m + 1) (n + 1) new (set steps n one)
packed_far s period m n old new steps one from to z h lt is takes =
    ⊎_elim (λ e. absurd (false≢true e.1))
    (λ more.
    ⊎_elim (λ e. absurd (false≢true e.1))
    (λ more.
    ⊎_elim (λ e. absurd (false≢true e.1))
    (λ (missed, same). subst (λ (x : Near). IsPacked s period (m + 1) (n + 1) x (set steps n one)) (sym same) (packed_step s period m n old steps one h lt is))
    more)
    more)
    takes

-- ---- sizes
row_small : (s : SystemData) (period m a b : ℕ) (lacks z : ℤ) → IsSystem s → period ≤ 20001 → m ≤ length s.arcs
    → unsigned_abs lacks ≤ 100000000000000000 → (z ≡ lacks) ⊎ IsWeight s period m a b z
    → unsigned_abs z ≤ 100000000000000000
row_small s period m a b lacks z valid le m_in light some =
    ⊎_elim
    (λ e. omega (arith, ints, e, light))
    (λ (k, k_in, from, to, is). omega (arith, ints, is, weight_small s period k valid le (omega (arith, k_in, m_in))))
    some

past_small : (xs : List ℤ) (i : ℕ) → length xs ≤ i → unsigned_abs (number xs i) ≤ 100000000000000000
past_small xs i le = omega (arith, ints, get_or_past xs i (pos 0) le)

pub packed_small : (s : SystemData) (period n : ℕ) (near : Near) (steps : List Step) → IsSystem s → period ≤ 20001
    → IsPacked s period (length s.arcs) n near steps → AreSmall near
packed_small s period n near steps valid le h i =
    ⊎_elim
    (λ i_in. (
      row_small s period (length s.arcs) i i (pos 0) (number near.stay.items i) valid le (omega arith) (omega (arith, ints)) (h.some_stay i i_in),
      row_small s period (length s.arcs) (i - 1) i none (number near.rise.items i) valid le (omega arith) (omega (arith, ints)) (h.some_rise i i_in),
      row_small s period (length s.arcs) (suc i) i none (number near.fall.items i) valid le (omega arith) (omega (arith, ints)) (h.some_fall i i_in),
    ))
    (λ past. (
      past_small near.stay.items i (omega (arith, past, h.nodes.0)),
      past_small near.rise.items i (omega (arith, past, h.nodes.1)),
      past_small near.fall.items i (omega (arith, past, h.nodes.2)),
    ))
    (cases_lt i s.nodes)

-- packed steps lead between the nodes
pub steps_fit : (s : SystemData) (period n : ℕ) (near : Near) (steps : List Step) → IsSystem s → period ≤ 20001
    → IsPacked s period (length s.arcs) n near steps → FitNodes s.nodes n steps
steps_fit s period n near steps valid le h p p_in =
    let (k, k_in, same) = h.some p p_in in
    let from : (step steps p).from ≡ (arc s k).from = ap (λ (x : Step). x.from) same in
    let to : (step steps p).to ≡ (arc s k).to = ap (λ (x : Step). x.to) same in
    let weighs : (step steps p).weight ≡ weights_at s period k = ap (λ (x : Step). x.weight) same in
    (omega (arith, from, (valid.ends k k_in).0), omega (arith, to, (valid.ends k k_in).1), omega (arith, ints, weighs, weight_small s period k valid le k_in))

-- ---- what they bring
-- a node alone, the first, the last, and one between others
pub nearest_alone : (nodes : ℕ) (near : Near) (row : ℕ → ℤ) (z : ℤ) → nodes ≡ 1 → z ≡ row 0 +ℤ number near.stay.items 0
    → IsNearest nodes near row 0 z
nearest_alone nodes near row z one is = record {
  some = inl (sym is);
  most = λ y offer.
      ⊎_elim (λ e. omega (arith, ints, e, is))
      (λ more. ⊎_elim (λ (after, e). absurd (omega (arith, after))) (λ (before, e). absurd (omega (arith, before, one))) more)
      offer;
}

pub nearest_first : (nodes : ℕ) (near : Near) (row : ℕ → ℤ) (z : ℤ) → 1 < nodes
    → z ≡ int_max (row 0 +ℤ number near.stay.items 0) (row 1 +ℤ number near.fall.items 0) → IsNearest nodes near row 0 z
nearest_first nodes near row z two is =
    let stay = row 0 +ℤ number near.stay.items 0 in
    let fall = row 1 +ℤ number near.fall.items 0 in
    record {
      some = by_lt_z stay fall (λ lt. inr (inr (omega (arith, two), omega (arith, ints, clamps, is, lt)))) (λ le. inl (omega (arith, ints, clamps, is, le)));
      most = λ y offer.
          ⊎_elim (λ e. omega (arith, ints, clamps, e, is))
          (λ more. ⊎_elim (λ (after, e). absurd (omega (arith, after))) (λ (before, e). omega (arith, ints, clamps, e, is)) more)
          offer;
    }

pub nearest_last : (nodes : ℕ) (near : Near) (row : ℕ → ℤ) (i : ℕ) (z : ℤ) → suc i ≡ nodes → 0 < i
    → z ≡ int_max (row i +ℤ number near.stay.items i) (row (i - 1) +ℤ number near.rise.items i)
    → IsNearest nodes near row i z
nearest_last nodes near row i z last after is =
    let stay = row i +ℤ number near.stay.items i in
    let rise = row (i - 1) +ℤ number near.rise.items i in
    record {
      some = by_lt_z stay rise (λ lt. inr (inl (after, omega (arith, ints, clamps, is, lt)))) (λ le. inl (omega (arith, ints, clamps, is, le)));
      most = λ y offer.
          ⊎_elim (λ e. omega (arith, ints, clamps, e, is))
          (λ more. ⊎_elim (λ (_, e). omega (arith, ints, clamps, e, is)) (λ (before, e). absurd (omega (arith, before, last))) more)
          offer;
    }

pub nearest_middle : (nodes : ℕ) (near : Near) (row : ℕ → ℤ) (i : ℕ) (z : ℤ) → suc i < nodes → 0 < i
    → z ≡ int_max (int_max (row i +ℤ number near.stay.items i) (row (i - 1) +ℤ number near.rise.items i)) (row (suc i) +ℤ number near.fall.items i)
    → IsNearest nodes near row i z
nearest_middle nodes near row i z before after is =
    let stay = row i +ℤ number near.stay.items i in
    let rise = row (i - 1) +ℤ number near.rise.items i in
    let fall = row (suc i) +ℤ number near.fall.items i in
    record {
      some =
          by_lt_z (int_max stay rise) fall
          (λ lt. inr (inr (before, omega (arith, ints, clamps, is, lt))))
          (λ le.
          by_lt_z stay rise
          (λ less. inr (inl (after, omega (arith, ints, clamps, is, le, less))))
          (λ more. inl (omega (arith, ints, clamps, is, le, more))));
      most = λ y offer.
          ⊎_elim (λ e. omega (arith, ints, clamps, e, is))
          (λ more. ⊎_elim (λ (_, e). omega (arith, ints, clamps, e, is)) (λ (_, e). omega (arith, ints, clamps, e, is)) more)
          offer;
    }

-- the same row in other places
offer_same : (nodes : ℕ) (near : Near) (row other : ℕ → ℤ) (i : ℕ) (z : ℤ) → ((j : ℕ) → j < nodes → row j ≡ other j)
    → i < nodes → IsNearOffer nodes near row i z → IsNearOffer nodes near other i z
offer_same nodes near row other i z same i_in offer =
    ⊎_elim (λ e. inl (omega (arith, ints, e, same i i_in)))
    (λ more.
    ⊎_elim (λ (after, e). inr (inl (after, omega (arith, ints, e, same (i - 1) (omega (arith, i_in))))))
    (λ (before, e). inr (inr (before, omega (arith, ints, e, same (suc i) before)))) more)
    offer

pub made_same : (nodes : ℕ) (near : Near) (steps : List Step) (n : ℕ) (row other : ℕ → ℤ) (i : ℕ) (z y : ℤ)
    → FitNodes nodes n steps → ((j : ℕ) → j < nodes → row j ≡ other j) → i < nodes → y ≡ z
    → IsMade nodes near steps n row i z → IsMade nodes near steps n other i y
made_same nodes near steps n row other i z y fit same i_in e (base, near_is, h) = (
  base,
  record {
    some = offer_same nodes near row other i base same i_in near_is.some;
    most = λ x offer. near_is.most x (offer_same nodes near other row i x (λ j j_in. sym (same j j_in)) i_in offer);
  },
  record {
    keeps = omega (arith, ints, h.keeps, e);
    brings = λ p less ends. omega (arith, ints, h.brings p less ends, same (step steps p).from (fit p less).0, e);
    some =
        ⊎_elim (λ kept. inl (e ∙ kept))
        (λ (p, less, ends, is). inr (p, less, ends, omega (arith, ints, is, same (step steps p).from (fit p less).0, e)))
        h.some;
  },
)

-- no less than the row has
pub made_keeps : (nodes : ℕ) (near : Near) (steps : List Step) (n : ℕ) (row : ℕ → ℤ) (i : ℕ) (z : ℤ)
    → pos 0 ≤ℤ number near.stay.items i → IsMade nodes near steps n row i z → row i ≤ℤ z
made_keeps nodes near steps n row i z stays (base, near_is, h) =
    omega (arith, ints, stays, near_is.most (row i +ℤ number near.stay.items i) (inl refl), h.keeps)

-- near constraints bring no more than all constraints do
near_below : (s : SystemData) (period n : ℕ) (near : Near) (steps : List Step) (row : ℕ → ℤ) (i : ℕ) (z : ℤ)
    → IsPacked s period (length s.arcs) n near steps
    → ((j : ℕ) → j < s.nodes → unsigned_abs (row j) ≤ 40000000000000000) → i < s.nodes
    → IsNearOffer s.nodes near row i z → z ≤ℤ brought s (weights_at s period) row i (length s.arcs)
near_below s period n near steps row i z are small i_in offer =
    let wt = weights_at s period in
    let count = length s.arcs in
    let kept = keeps s wt row i count in
    let by : (a : ℕ) (w : ℤ) → IsWeight s period count a i w → (row a +ℤ w) ≤ℤ brought s wt row i count = λ a w (k, k_in, from, to, is). omega (arith, ints, brings s wt row i count k k_in to, ap row from, is) in
    ⊎_elim
    (λ e. ⊎_elim (λ zero. omega (arith, ints, e, zero, kept)) (λ w. omega (arith, ints, e, by i (number near.stay.items i) w)) (are.some_stay i i_in))
    (λ more.
    ⊎_elim
    (λ (after, e).
    ⊎_elim (λ far. omega (arith, ints, e, far, kept, small i i_in, small (i - 1) (omega (arith, i_in))))
    (λ w. omega (arith, ints, e, by (i - 1) (number near.rise.items i) w)) (are.some_rise i i_in))
    (λ (before, e).
    ⊎_elim (λ far. omega (arith, ints, e, far, kept, small i i_in, small (suc i) before))
    (λ w. omega (arith, ints, e, by (suc i) (number near.fall.items i) w)) (are.some_fall i i_in))
    more)
    offer

-- what a round makes is what all constraints bring
pub round_brings : (s : SystemData) (period n : ℕ) (near : Near) (steps : List Step) (row : ℕ → ℤ) (i : ℕ) (z : ℤ)
    → IsPacked s period (length s.arcs) n near steps → IsSystem s
    → ((j : ℕ) → j < s.nodes → unsigned_abs (row j) ≤ 40000000000000000) → i < s.nodes
    → IsMade s.nodes near steps n row i z → z ≡ brought s (weights_at s period) row i (length s.arcs)
round_brings s period n near steps row i z are valid small i_in (base, near_is, h) =
    let wt = weights_at s period in
    let all = brought s wt row i (length s.arcs) in
    let below : z ≤ℤ all =
    ⊎_elim
    (λ kept. omega (arith, ints, kept, near_below s period n near steps row i base are small i_in near_is.some))
    (λ (p, less, ends, is).
    let (k, k_in, same) = are.some p less in
    let to : (arc s k).to ≡ i = sym (ap (λ (x : Step). x.to) same) ∙ ends in
    let gives : row (step steps p).from +ℤ (step steps p).weight ≡ row (arc s k).from +ℤ wt k = ap (λ (x : Step). row x.from +ℤ x.weight) same in
    omega (arith, ints, is, gives, brings s wt row i (length s.arcs) k k_in to))
    h.some in
    let stays = near_is.most (row i +ℤ number near.stay.items i) (inl refl) in
    let above : all ≤ℤ z =
    ⊎_elim
    (λ kept. omega (arith, ints, kept, stays, are.stays i i_in, h.keeps))
    (λ (k, (k_in, to, is)).
    ⊎_elim
    (λ (loop, le). omega (arith, ints, is, le, ap row (loop ∙ to), ap (number near.stay.items) to, stays, h.keeps))
    (λ more.
    ⊎_elim
    (λ (up, le).
    let offer = near_is.most (row (i - 1) +ℤ number near.rise.items i) (inr (inl (omega (arith, up, to), refl))) in
    let from : (arc s k).from ≡ i - 1 = omega (arith, up, to) in
    omega (arith, ints, is, le, ap row from, ap (number near.rise.items) to, offer, h.keeps))
    (λ more.
    ⊎_elim
    (λ (down, le).
    let offer = near_is.most (row (suc i) +ℤ number near.fall.items i) (inr (inr (omega (arith, down, to, (valid.ends k k_in).0), refl))) in
    let from : (arc s k).from ≡ suc i = omega (arith, down, to) in
    omega (arith, ints, is, le, ap row from, ap (number near.fall.items) to, offer, h.keeps))
    (λ (p, p_in, same).
    let ends : (step steps p).to ≡ i = ap (λ (x : Step). x.to) same ∙ to in
    let gives : row (step steps p).from +ℤ (step steps p).weight ≡ row (arc s k).from +ℤ wt k = ap (λ (x : Step). row x.from +ℤ x.weight) same in
    omega (arith, ints, is, gives, h.brings p p_in ends))
    more)
    more)
    (are.all k k_in))
    (is_brought s wt row i (length s.arcs)) in
    omega (arith, ints, below, above)
