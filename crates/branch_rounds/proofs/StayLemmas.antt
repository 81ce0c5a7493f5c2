-- A closed walk of a path is one of every longer path.
use Rattle.std.proofs.Common.{◌≡◌, ℕ, ◌+◌, ◌-◌, ◌<◌, ◌≤◌, ◌==◌, List, [], ◌∷◌, ◌++◌, length, take, Bool, true, false, cond, refl, sym, ◌∙◌, ap, subst, arith, ℤ, pos}
use Rattle.std.specs.Prelude.{negsuc, ◌-ℤ◌}
use Rattle.std.proofs.lemmas.List.{take_all, length-append}
use Rattle.std.proofs.Math.Seq.{take-append_seam}
use Rattle.std.proofs.Math.ListN.{get_or-append}
use Rattle.hoist_base.specs.LineData.{LineData, stage, last_stage, last_step, move_number}
use Rattle.longest_path.specs.declared.systems.Arc.{Arc}
use Rattle.choice_tree.specs.declared.question.Decision.{Decision}
use Rattle.choice_tree.specs.declared.constraint.Constraint.{Constraint}
use Rattle.choice_tree.specs.declared.constraint.Constraint.TheVariants.{Min, Max, Entry, Visit, Repeat, Decided}
use Rattle.path_constraints.specs.Tanks.{no_decision, decision_at, high}
use Rattle.path_constraints.specs.Questions.{FitsPath}
use Rattle.path_constraints.specs.Constraints.{IsOrder, IsConstraint, arc_of}
use Rattle.path_constraints.specs.Proves.{Walks, IsClosedWalk}
use Rattle.path_constraints.proofs.GrowLemmas.{decided_at}

decision_stays : (path : List Decision) (d : Decision) (i : ℕ) → i < length path
    → decision_at (path ++ d ∷ []) i ≡ decision_at path i
decision_stays path d i lt = get_or-append path (d ∷ []) no_decision i lt

pub constraint_stays : (l : LineData) (path : List Decision) (d : Decision) (t : Constraint) → IsConstraint l path t
    → IsConstraint l (path ++ d ∷ []) t
constraint_stays l path d (Min c k) h = h
constraint_stays l path d (Max c k) h = h
constraint_stays l path d (Entry c) h = h
constraint_stays l path d (Visit c k) h = h
constraint_stays l path d (Repeat c k) h = h
constraint_stays l path d (Decided i) h =
    let P : Decision → Type 0 = λ x. IsOrder x.question in
    (omega (arith, h.0, length-append path (d ∷ [])), subst P (sym (decision_stays path d i h.0)) h.1)

abbrev arc_by : ℕ → ℕ → ℤ → ℤ → Arc
arc_by from to w q = record { from = from; to = to; w = w; q = q }

abbrev SameEnds : Arc → Arc → Type 0
SameEnds a b = (a.from ≡ b.from) × (a.to ≡ b.to)

either_ends : (t : Bool) (x : Arc) (from to : ℕ) (w w' q : ℤ)
    → SameEnds (cond t x (arc_by from to w q)) (cond t x (arc_by from to w' q))
either_ends true x from to w w' q = (refl, refl)
either_ends false x from to w w' q = (refl, refl)

-- what a decision asks is settled
decided_same : (l : LineData) (path : List Decision) (d : Decision) (i : ℕ) → FitsPath l (path ++ d ∷ [])
    → 2 ≤ length l.stages → i < length path
    → arc_of l path (Decided i) ≡ arc_of l (path ++ d ∷ []) (Decided i)
decided_same l path d i fits two lt =
    let longer = path ++ d ∷ [] in
    let size : length longer ≡ length path + 1 = length-append path (d ∷ []) in
    let short : take (length path) longer ≡ path = take-append_seam path (d ∷ []) in
    let whole : take (length longer) longer ≡ longer = take_all (length longer) longer (omega arith) in
    let a = decided_at l longer (length path) i fits two lt (omega (arith, size)) in
    let b = decided_at l longer (length longer) i fits two (omega (arith, lt, size)) (omega arith) in
    sym (ap (λ (ds : List Decision). arc_of l ds (Decided i)) short) ∙ a ∙ sym b ∙ ap (λ (ds : List Decision). arc_of l ds (Decided i)) whole

-- a constraint's ends are the same below every path that goes on
pub ends_stay : (l : LineData) (path : List Decision) (d : Decision) (t : Constraint) → FitsPath l (path ++ d ∷ [])
    → 2 ≤ length l.stages
    → IsConstraint l path t → SameEnds (arc_of l path t) (arc_of l (path ++ d ∷ []) t)
ends_stay l path d (Min c k) fits two h = (refl, refl)
ends_stay l path d (Max c k) fits two h = (refl, refl)
ends_stay l path d (Entry c) fits two h = (refl, refl)
ends_stay l path d (Visit c k) fits two h =
    either_ends (k == last_stage l) (arc_by (move_number l c (last_step l)) (move_number l c (last_step l)) (pos ((stage l k).lower + l.unload)) (negsuc 0))
    (move_number l c k) (move_number l c (k - 1))
    (pos ((stage l k).lift + (stage l k).lower) -ℤ pos (high l path c (k - 1)))
    (pos ((stage l k).lift + (stage l k).lower) -ℤ pos (high l (path ++ d ∷ []) c (k - 1))) (negsuc 0)
ends_stay l path d (Repeat c k) fits two h = (refl, refl)
ends_stay l path d (Decided i) fits two h =
    let e = decided_same l path d i fits two h.0 in
    (ap (λ (a : Arc). a.from) e, ap (λ (a : Arc). a.to) e)

walks_stay : (l : LineData) (path : List Decision) (d : Decision) (i i' : ℕ) (walk : List Constraint) (j j' : ℕ)
    → FitsPath l (path ++ d ∷ [])
    → 2 ≤ length l.stages → i ≡ i' → j ≡ j' → Walks l path i walk j → Walks l (path ++ d ∷ []) i' walk j'
walks_stay l path d i i' [] j j' fits two e f h = sym e ∙ h ∙ f
walks_stay l path d i i' (t ∷ ts) j j' fits two e f h =
    let ends = ends_stay l path d t fits two h.0 in (
      constraint_stays l path d t h.0,
      sym ends.0 ∙ h.1 ∙ e,
      walks_stay l path d (arc_of l path t).to
          (arc_of l (path ++ d ∷ []) t).to ts j j' fits two ends.1 f h.2,
    )

pub closed_stays : (l : LineData) (path : List Decision) (d : Decision) (walk : List Constraint)
    → FitsPath l (path ++ d ∷ []) → 2 ≤ length l.stages
    → IsClosedWalk l path walk → IsClosedWalk l (path ++ d ∷ []) walk
closed_stays l path d [] fits two h = absurd h
closed_stays l path d (t ∷ ts) fits two h =
    let ends = ends_stay l path d t fits two h.0 in
    walks_stay l path d (arc_of l path t).from (arc_of l (path ++ d ∷ []) t).from (t ∷ ts) (arc_of l path t).from
    (arc_of l (path ++ d ∷ []) t).from fits two ends.0 ends.0 h
