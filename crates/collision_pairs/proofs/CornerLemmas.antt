-- The least span round what some points and some others forbid.
use Rattle.std.proofs.Common.{◌≡◌, ℕ, ◌+◌, ◌<◌, ltb, ◌⊎◌, inl, inr, ⊎_elim, ap, refl, List, [], ◌∷◌, Option, Some, None, arith, sym, ◌∙◌, length, get_or, drop}
use Rattle.std.specs.Int.{int_max}
use Rattle.std.proofs.lemmas.Int.{ints, clamps}
use Rattle.std.proofs.lemmas.Bool.{ltb-true, ltb-false}
use Rattle.std.proofs.lemmas.List.{at_drop_more}
use Rattle.collision_pairs.specs.declared.span.Span.{Span}
use Rattle.collision_pairs.specs.declared.corner.Corner.{Corner}
use Rattle.collision_pairs.specs.Clash.{reach, joined, around_one, around_all}
use Rattle.collision_pairs.proofs.HullLemmas.{IsHullOf, hull_join, hull_of_pair}

-- the tick of one of the points
abbrev pub IsTickOf : List Corner → ℕ → Type 0
IsTickOf [] v = ⊥
IsTickOf (q ∷ qs) v = (v ≡ q.tick) ⊎ IsTickOf qs v

-- the points lie on a function of ticks
abbrev pub LieOn : (ℕ → ℕ) → List Corner → Type 0
LieOn B [] = Unit {0}
LieOn B (q ∷ qs) = (B q.tick ≡ q.at) × LieOn B qs

pub reach_hull : (F B : ℕ → ℕ) (room : ℕ) (p q : Corner) → F p.tick ≡ p.at → B q.tick ≡ q.at
    → IsHullOf (λ u. F u + room) B (λ u v. (u ≡ p.tick) × (v ≡ q.tick)) (reach room p q)
reach_hull F B room p q at_p at_q =
    hull_of_pair (λ u. F u + room) B p.tick q.tick (p.at + room) q.at (ltb q.at (p.at + room)) (ap (λ n. n + room) at_p) at_q
    (ltb-true q.at (p.at + room)) (ltb-false q.at (p.at + room))

pub one_hull : (F B : ℕ → ℕ) (room : ℕ) (p : Corner) (qs : List Corner) → F p.tick ≡ p.at → LieOn B qs
    → IsHullOf (λ u. F u + room) B (λ u v. (u ≡ p.tick) × IsTickOf qs v) (around_one room p qs)
one_hull F B room p [] at_p on = λ u v seen. absurd seen.1
one_hull F B room p (q ∷ qs) at_p on =
    hull_join (λ u. F u + room) B (λ u v. (u ≡ p.tick) × (v ≡ q.tick)) (λ u v. (u ≡ p.tick) × IsTickOf qs v) (λ u v. (u ≡ p.tick) × IsTickOf (q ∷ qs) v)
    (reach room p q) (around_one room p qs)
    (reach_hull F B room p q at_p on.0) (one_hull F B room p qs at_p on.1)
    (λ u v seen. (seen.0, inl seen.1))
    (λ u v seen. (seen.0, inr seen.1))
    (λ u v seen. ⊎_elim (λ e. inl (seen.0, e)) (λ r. inr (seen.0, r)) seen.1)

pub all_hull : (F B : ℕ → ℕ) (room : ℕ) (ps qs : List Corner) → LieOn F ps → LieOn B qs
    → IsHullOf (λ u. F u + room) B (λ u v. IsTickOf ps u × IsTickOf qs v) (around_all room ps qs)
all_hull F B room [] qs along on = λ u v seen. absurd seen.0
all_hull F B room (p ∷ ps) qs along on =
    hull_join (λ u. F u + room) B (λ u v. (u ≡ p.tick) × IsTickOf qs v) (λ u v. IsTickOf ps u × IsTickOf qs v) (λ u v. IsTickOf (p ∷ ps) u × IsTickOf qs v)
    (around_one room p qs) (around_all room ps qs)
    (one_hull F B room p qs along.0 on) (all_hull F B room ps qs along.1 on)
    (λ u v seen. (inl seen.0, seen.1))
    (λ u v seen. (inr seen.0, seen.1))
    (λ u v seen. ⊎_elim (λ e. inl (e, seen.1)) (λ r. inr (r, seen.1)) seen.0)

-- the order of joining makes no difference
pub joined_none : (x : Option Span) → joined x None ≡ x
joined_none None = refl
joined_none (Some s) = refl

max_assoc : (s t u : Span) → joined (joined (Some s) (Some t)) (Some u) ≡ joined (Some s) (joined (Some t) (Some u))
max_assoc s t u =
    let after : int_max (int_max s.after t.after) u.after ≡ int_max s.after (int_max t.after u.after) = omega (arith, ints, clamps) in
    let before : int_max (int_max s.before t.before) u.before ≡ int_max s.before (int_max t.before u.before) = omega (arith, ints, clamps) in
    cc

pub joined_assoc : (x y z : Option Span) → joined (joined x y) z ≡ joined x (joined y z)
joined_assoc None y z = refl
joined_assoc (Some s) None z = refl
joined_assoc (Some s) (Some t) None = refl
joined_assoc (Some s) (Some t) (Some u) = max_assoc s t u

-- one more of the others
pub one_more : (room : ℕ) (p : Corner) (qs : List Corner) (i : ℕ) (d : Corner) (span here more : Option Span)
    → i < length qs → here ≡ reach room p (get_or qs i d) → more ≡ joined span here
    → joined span (around_one room p (drop i qs)) ≡ around_one room p qs
    → joined more (around_one room p (drop (i + 1) qs)) ≡ around_one room p qs
one_more room p qs i d span here more lt is joins whole =
    let rest = around_one room p (drop (i + 1) qs) in
    let cut : around_one room p (drop i qs) ≡ joined (reach room p (get_or qs i d)) rest = at_drop_more (around_one room p) qs i d lt in
    ap (λ x. joined x rest) joins ∙ joined_assoc span here rest ∙ ap (λ x. joined span (joined x rest)) is ∙ ap (joined span) (sym cut) ∙ whole

-- one more of the points
pub all_more : (room : ℕ) (ps qs : List Corner) (i : ℕ) (d : Corner) (span here more : Option Span) → i < length ps
    → here ≡ around_one room (get_or ps i d) qs → more ≡ joined span here
    → joined span (around_all room (drop i ps) qs) ≡ around_all room ps qs
    → joined more (around_all room (drop (i + 1) ps) qs) ≡ around_all room ps qs
all_more room ps qs i d span here more lt is joins whole =
    let rest = around_all room (drop (i + 1) ps) qs in
    let cut : around_all room (drop i ps) qs ≡ joined (around_one room (get_or ps i d) qs) rest = at_drop_more (λ xs. around_all room xs qs) ps i d lt in
    ap (λ x. joined x rest) joins ∙ joined_assoc span here rest ∙ ap (λ x. joined span (joined x rest)) is ∙ ap (joined span) (sym cut) ∙ whole
