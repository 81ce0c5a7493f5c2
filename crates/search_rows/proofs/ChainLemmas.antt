-- That node 0 reaches every node of the systems that the tests make.
use Rattle.std.proofs.Common.{◌≡◌, ℕ, zero, suc, ◌<◌, [], ◌∷◌, length, refl, sym, subst, ◌∙◌, arith}
use Rattle.longest_path.specs.System.{SystemData, arc, Leads, IsReached}
use Rattle.search_rows.specs.Chain.{IsChain}

pub reached_two : (s : SystemData) → s.nodes ≡ 2 → 0 < length s.arcs → (arc s 0).from ≡ 0 → (arc s 0).to ≡ 1 → (i : ℕ)
    → i < s.nodes → IsReached s i
reached_two s two some from to zero p = ([], refl)
reached_two s two some from to (suc i) p =
    let e : 1 ≡ suc i = omega (arith, p, two) in
    (0 ∷ [], (some, to ∙ e, sym from))

pub chain_reached : (nodes : ℕ) (s : SystemData) → IsChain nodes s → (i : ℕ) → i < s.nodes → IsReached s i
chain_reached nodes s h zero p = ([], refl)
chain_reached nodes s h (suc i) p =
    let before = chain_reached nodes s h i (omega (arith, p)) in
    let lt : i < length s.arcs = omega (arith, p, h.count, h.nodes_are) in
    let link = h.links i lt in
    let to : (arc s i).to ≡ suc i = link.1 ∙ (omega arith) in
    (i ∷ before.0, (lt, to, subst (λ j. Leads s 0 before.0 j) (sym link.0) before.1))
