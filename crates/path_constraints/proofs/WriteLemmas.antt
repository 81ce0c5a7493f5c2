-- Writing constraints into their places, one after another.
use Rattle.std.proofs.Common.{⊎_elim, inl, inr, ◌⊎◌, ◌≡◌, ℕ, ◌+◌, ◌<◌, ◌≤◌, List, length, get_or, set, refl, sym, ◌∙◌, ap, subst, arith, pos}
use Rattle.std.specs.Prelude.{slice_set}
use Rattle.std.proofs.lemmas.Bool.{cases_eq}
use Rattle.std.proofs.lemmas.List.{length-set, get_or-set_same, get_or-set_other}
use Rattle.hoist_base.specs.LineData.{LineData}
use Rattle.longest_path.specs.declared.systems.Arc.{Arc}
use Rattle.longest_path.specs.System.{SystemData, arc}
use Rattle.choice_tree.specs.declared.question.Decision.{Decision}
use Rattle.choice_tree.specs.declared.constraint.Constraint.{Constraint}
use Rattle.choice_tree.specs.declared.constraint.Constraint.TheVariants.{Min, Max, Entry, Visit, Repeat, Decided}
use Rattle.path_constraints.specs.Constraints.{IsConstraint, arc_of}
use Rattle.path_constraints.specs.Places.{place, IsUndecided, IsOfMove, Rewrites, HasPlaces}
use Rattle.path_constraints.proofs.PlaceLemmas.{place_once}

-- a constraint that stands on every path
pub on_any : (l : LineData) (p p' : List Decision) (t : Constraint) → IsUndecided t → IsConstraint l p t
    → IsConstraint l p' t
on_any l p p' (Min c k) u h = h
on_any l p p' (Max c k) u h = h
on_any l p p' (Entry c) u h = h
on_any l p p' (Visit c k) u h = h
on_any l p p' (Repeat c k) u h = h
on_any l p p' (Decided i) u h = absurd u

abbrev no_arc : Arc
no_arc = record { from = 0; to = 0; w = pos 0; q = pos 0 }

-- a path without the constraint leaves all as it is
pub written_none : (l : LineData) (path : List Decision) (name : Constraint) (old new : SystemData)
    → (IsConstraint l path name → ⊥) → new ≡ old
    → Rewrites l path (λ t. t ≡ name) old new
written_none l path name old new missing same = record {
  nodes = ap (λ (s : SystemData). s.nodes) same;
  count = ap (λ (s : SystemData). length s.arcs) same;
  changed = λ t h e. let P : Constraint → Type 0 = λ x. IsConstraint l path x in absurd (missing (subst P e h));
  others = λ j. inl (ap (λ (s : SystemData). arc s j) same);
}

pub written_one : (l : LineData) (path : List Decision) (name : Constraint) (old new : SystemData) (p : ℕ) (a : Arc)
    → IsConstraint l path name
    → p ≡ place l name → p < length old.arcs → a ≡ arc_of l path name
    → new ≡ record { nodes = old.nodes; arcs = slice_set old.arcs p a } → Rewrites l path (λ t. t ≡ name) old new
written_one l path name old new p a named at there is same =
    let set_at : (j : ℕ) → arc new j ≡ get_or (set old.arcs p a) j no_arc = λ j. ap (λ (s : SystemData). arc s j) same in
    record {
      nodes = ap (λ (s : SystemData). s.nodes) same;
      count = ap (λ (s : SystemData). length s.arcs) same ∙ length-set old.arcs p a;
      changed = λ t h e.
          let here : place l t ≡ p = ap (place l) e ∙ sym at in
          ap (λ (j : ℕ). arc new j) here ∙ set_at p ∙ get_or-set_same old.arcs p a no_arc there ∙ is ∙ sym (ap (λ (x : Constraint). arc_of l path x) e);
      others = λ j. ⊎_elim (λ e. inr (name, named, refl, sym at ∙ sym e)) (λ ne. inl (set_at j ∙ get_or-set_other old.arcs p j a no_arc ne)) (cases_eq j p);
    }

-- one writing after another
pub rewrites_then : (l : LineData) (path : List Decision) (K K' : Constraint → Type 0) (a b d : SystemData)
    → 2 ≤ length l.stages
    → ((t : Constraint) → K t → IsUndecided t) → ((t : Constraint) → K' t → IsUndecided t)
    → Rewrites l path K a b → Rewrites l path K' b d → Rewrites l path (λ t. K t ⊎ K' t) a d
rewrites_then l path K K' a b d two ku ku' first second = record {
  nodes = second.nodes ∙ first.nodes;
  count = second.count ∙ first.count;
  changed = λ t h k.
      ⊎_elim
      (λ k1.
      ⊎_elim (λ same. same ∙ first.changed t h k1)
      (λ r.
      let e : r.0 ≡ t = place_once l path r.0 t two (ku' r.0 r.2) (ku t k1) r.1 h r.3 in
      let P : Constraint → Type 0 = λ x. K' x in
      second.changed t h (subst P e r.2))
      (second.others (place l t)))
      (λ k2. second.changed t h k2) k;
  others = λ j.
      ⊎_elim (λ e2. ⊎_elim (λ e1. inl (e2 ∙ e1)) (λ r. inr (r.0, r.1, inl r.2, r.3)) (first.others j)) (λ r. inr (r.0, r.1, inr r.2, r.3)) (second.others j);
}

-- the same constraints, named in another way
pub rewrites_as : (l : LineData) (path : List Decision) (K K' : Constraint → Type 0) (a b : SystemData)
    → ((t : Constraint) → IsConstraint l path t → K' t → K t) → ((t : Constraint) → IsConstraint l path t → K t → K' t)
    → Rewrites l path K a b → Rewrites l path K' a b
rewrites_as l path K K' a b back forth r = record {
  nodes = r.nodes;
  count = r.count;
  changed = λ t h k. r.changed t h (back t h k);
  others = λ j. ⊎_elim (λ same. inl same) (λ w. inr (w.0, w.1, forth w.0 w.1 w.2, w.3)) (r.others j);
}

pub places_stay : (l : LineData) (path : List Decision) (K : Constraint → Type 0) (a b : SystemData)
    → Rewrites l path K a b → HasPlaces l a → HasPlaces l b
places_stay l path K a b r h = (r.nodes ∙ h.0, omega (arith, r.count, h.1))

pub is_undecided : (name t : Constraint) → IsUndecided name → t ≡ name → IsUndecided t
is_undecided name t u e = let P : Constraint → Type 0 = λ x. IsUndecided x in subst P (sym e) u

-- the four constraints of a move
abbrev pub FourOf : ℕ → ℕ → ℕ → Constraint → Type 0
FourOf c k j t = (((t ≡ Repeat c k) ⊎ (t ≡ Min c j)) ⊎ (t ≡ Max c j)) ⊎ (t ≡ Visit c j)

four_back : (c k j : ℕ) (t : Constraint) → j ≡ k + 1 → IsOfMove c k t → FourOf c k j t
four_back c k j (Min a b) e h = inl (inl (inr (ap (λ (x : ℕ). Min x b) h.0 ∙ ap (λ (x : ℕ). Min c x) (h.1 ∙ sym e))))
four_back c k j (Max a b) e h = inl (inr (ap (λ (x : ℕ). Max x b) h.0 ∙ ap (λ (x : ℕ). Max c x) (h.1 ∙ sym e)))
four_back c k j (Entry a) e h = absurd h
four_back c k j (Visit a b) e h = inr (ap (λ (x : ℕ). Visit x b) h.0 ∙ ap (λ (x : ℕ). Visit c x) (h.1 ∙ sym e))
four_back c k j (Repeat a b) e h = inl (inl (inl (ap (λ (x : ℕ). Repeat x b) h.0 ∙ ap (λ (x : ℕ). Repeat c x) h.1)))
four_back c k j (Decided i) e h = absurd h

four_forth : (c k j : ℕ) (t : Constraint) → j ≡ k + 1 → FourOf c k j t → IsOfMove c k t
four_forth c k j t e h =
    let P : Constraint → Type 0 = λ x. IsOfMove c k x in
    ⊎_elim
    (λ h3.
    ⊎_elim (λ h2. ⊎_elim (λ h1. let is : IsOfMove c k (Repeat c k) = (refl, refl) in subst P (sym h1) is)
    (λ h1. let is : IsOfMove c k (Min c j) = (refl, e) in subst P (sym h1) is) h2)
    (λ h2. let is : IsOfMove c k (Max c j) = (refl, e) in subst P (sym h2) is) h3)
    (λ h3. let is : IsOfMove c k (Visit c j) = (refl, e) in subst P (sym h3) is) h

pub written_move : (l : LineData) (path : List Decision) (c k j : ℕ) (s0 s1 s2 s3 s4 : SystemData) → 2 ≤ length l.stages
    → j ≡ k + 1
    → Rewrites l path (λ t. t ≡ Repeat c k) s0 s1 → Rewrites l path (λ t. t ≡ Min c j) s1 s2
    → Rewrites l path (λ t. t ≡ Max c j) s2 s3
    → Rewrites l path (λ t. t ≡ Visit c j) s3 s4
    → Rewrites l path (IsOfMove c k) s0 s4
written_move l path c k j s0 s1 s2 s3 s4 two e a b d f =
    let repeat_u : (t : Constraint) → t ≡ Repeat c k → IsUndecided t = λ t e. is_undecided (Repeat c k) t tt e in
    let min_u : (t : Constraint) → t ≡ Min c j → IsUndecided t = λ t e. is_undecided (Min c j) t tt e in
    let max_u : (t : Constraint) → t ≡ Max c j → IsUndecided t = λ t e. is_undecided (Max c j) t tt e in
    let visit_u : (t : Constraint) → t ≡ Visit c j → IsUndecided t = λ t e. is_undecided (Visit c j) t tt e in
    let two_u : (t : Constraint) → (t ≡ Repeat c k) ⊎ (t ≡ Min c j) → IsUndecided t = λ t h. ⊎_elim (λ x. repeat_u t x) (λ x. min_u t x) h in
    let three_u : (t : Constraint) → ((t ≡ Repeat c k) ⊎ (t ≡ Min c j)) ⊎ (t ≡ Max c j) → IsUndecided t = λ t h. ⊎_elim (λ x. two_u t x) (λ x. max_u t x) h in
    let ab = rewrites_then l path (λ t. t ≡ Repeat c k) (λ t. t ≡ Min c j) s0 s1 s2 two repeat_u min_u a b in
    let abd = rewrites_then l path (λ t. (t ≡ Repeat c k) ⊎ (t ≡ Min c j)) (λ t. t ≡ Max c j) s0 s2 s3 two two_u max_u ab d in
    let abdf = rewrites_then l path (λ t. ((t ≡ Repeat c k) ⊎ (t ≡ Min c j)) ⊎ (t ≡ Max c j)) (λ t. t ≡ Visit c j) s0 s3 s4 two three_u visit_u abd f in
    rewrites_as l path (FourOf c k j) (IsOfMove c k) s0 s4 (λ t h of. four_back c k j t e of) (λ t h of. four_forth c k j t e of) abdf
