-- A decision taken into the system of those before it.
use Rattle.std.proofs.Common.{◌≡◌, ℕ, ◌+◌, ◌<◌, ◌≤◌, List, [], ◌∷◌, ◌++◌, length, take, refl, sym, ◌∙◌, ap, subst, arith}
use Rattle.hoist_base.specs.LineData.{LineData, move_count}
use Rattle.hoist_base.specs.Valid.{IsLine}
use Rattle.hoist_base.specs.declared.ids.MoveId.{MoveId}
use Rattle.hoist_base.specs.declared.ids.VisitId.{VisitId}
use Rattle.longest_path.specs.declared.systems.Arc.{Arc}
use Rattle.longest_path.specs.System.{SystemData}
use Rattle.choice_tree.specs.declared.question.Question.{Question}
use Rattle.choice_tree.specs.declared.question.Question.TheVariants.{Assign, TankOrder, HoistOrder, Choose}
use Rattle.choice_tree.specs.declared.question.Decision.{Decision}
use Rattle.path_constraints.specs.Tanks.{decision_at}
use Rattle.path_constraints.specs.Questions.{FitsPath, Stands, IsOpenVisit, IsOpenMove}
use Rattle.path_constraints.specs.Constraints.{IsOrder, decided_arc, arcs_of}
use Rattle.path_constraints.specs.Places.{system_below, Rewrites, IsOfVisit, NamesOrder}
use Rattle.path_constraints.proofs.ArcLemmas.{decision_names}
use Rattle.path_constraints.proofs.BaseLemmas.{system_is, inner_visit}
use Rattle.path_constraints.proofs.GrowLemmas.{ordered, assigned_same, chosen_same}

pub order_of : (q : Question) → ((m : MoveId) → q ≡ Assign m → ⊥) → ((v : VisitId) → q ≡ Choose v → ⊥) → IsOrder q
order_of (Assign m) f g = absurd (f m refl)
order_of (TankOrder a b q) f g = tt
order_of (HoistOrder a b q) f g = tt
order_of (Choose v) f g = absurd (g v refl)

pub names_here : (l : LineData) (path : List Decision) (i : ℕ) (d : Decision) → FitsPath l path → i < length path
    → d ≡ decision_at path i
    → NamesOrder l d.question
names_here l path i d fits lt e = let P : Decision → Type 0 = λ x. NamesOrder l x.question in subst P (sym e) (decision_names l path i fits lt)

pub open_visit : (l : LineData) (path : List Decision) (i : ℕ) (d : Decision) (v : VisitId) → FitsPath l path
    → i < length path → d ≡ decision_at path i
    → d.question ≡ Choose v → IsOpenVisit l (take i path) v
open_visit l path i d v fits lt e is =
    let P : Question → Type 0 = λ q. Stands l (take i path) q in
    let same : (decision_at path i).question ≡ Choose v = sym (ap (λ (x : Decision). x.question) e) ∙ is in
    subst P same (fits i lt).question.stands

pub decide_order : (l : LineData) (path : List Decision) (i : ℕ) (d : Decision) (s new : SystemData) (a : Arc)
    → IsLine l → FitsPath l path → i < length path
    → d ≡ decision_at path i → IsOrder d.question → s ≡ system_below l (take i path)
    → a ≡ decided_arc l (take (i + 1) path) d.question d.child
    → new ≡ record { nodes = s.nodes; arcs = s.arcs ++ a ∷ [] }
    → new ≡ system_below l (take (i + 1) path)
decide_order l path i d s new a line fits lt e order was is then =
    let P : Decision → Type 0 = λ x. IsOrder x.question in
    let old = arcs_of l (take i path) in
    system_is new (move_count l) (arcs_of l (take (i + 1) path)) (ap (λ (x : SystemData). x.nodes) then ∙ ap (λ (x : SystemData). x.nodes) was)
    (ap (λ (x : SystemData). x.arcs) then ∙ ap (λ (x : SystemData). x.arcs ++ a ∷ []) was
    ∙ ap (λ (b : Arc). old ++ b ∷ []) (is ∙ ap (λ (x : Decision). decided_arc l (take (i + 1) path) x.question x.child) e)
    ∙ sym (ordered l path i fits line.limits.stages.0 lt (subst P e order)))

pub decide_choose : (l : LineData) (path : List Decision) (i : ℕ) (d : Decision) (v : VisitId) (s new : SystemData)
    → IsLine l → FitsPath l path
    → i < length path → d ≡ decision_at path i → d.question ≡ Choose v → s ≡ system_below l (take i path)
    → Rewrites l (take (i + 1) path) (IsOfVisit v.carrier v.stage) s new → new ≡ system_below l (take (i + 1) path)
decide_choose l path i d v s new line fits lt e is was r =
    let open_yet = open_visit l path i d v fits lt e is in
    let same : (decision_at path i).question ≡ Choose v = sym (ap (λ (x : Decision). x.question) e) ∙ is in
    let inner = inner_visit l v.carrier v.stage line open_yet.visit open_yet.several in
    system_is new (move_count l) (arcs_of l (take (i + 1) path)) (r.nodes ∙ ap (λ (x : SystemData). x.nodes) was)
    (chosen_same l path i v s new fits line.limits.stages.0 lt same inner.0 (ap (λ (x : SystemData). x.arcs) was) r)

pub decide_assign : (l : LineData) (path : List Decision) (i : ℕ) (d : Decision) (m : MoveId) (s : SystemData)
    → FitsPath l path → i < length path
    → d ≡ decision_at path i → d.question ≡ Assign m → s ≡ system_below l (take i path)
    → s ≡ system_below l (take (i + 1) path)
decide_assign l path i d m s fits lt e is was =
    let P : Question → Type 0 = λ q. Stands l (take i path) q in
    let same : (decision_at path i).question ≡ Assign m = sym (ap (λ (x : Decision). x.question) e) ∙ is in
    let open_move : IsOpenMove l (take i path) m = subst P same (fits i lt).question.stands in
    let two : 2 ≤ length l.stages = omega (arith, open_move.move.1) in
    was ∙ ap (λ (bs : List Arc). let r : SystemData = record { nodes = move_count l; arcs = bs } in r) (sym (assigned_same l path i m fits two lt same))
