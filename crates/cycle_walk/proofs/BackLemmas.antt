-- The way back, step by step.
use Rattle.std.proofs.Common.{◌≡◌, ℕ, zero, suc, ◌+◌, ◌-◌, ◌<◌, ◌≤◌, ◌⊎◌, inl, inr, ⊎_elim, List, ◌∷◌, length, set, get_or, refl, sym, ap, ◌∙◌, get_or-set_same, get_or-set_other, length-set, arith}
use Rattle.std.proofs.lemmas.Bool.{cases_eq, cases_lt}
use Rattle.longest_path.specs.System.{SystemData, IsSystem, arc}
use Rattle.longest_path.proofs.Walks.{pigeonhole}
use Rattle.longest_path.specs.Rounds.{weights_at}
use Rattle.cycle_walk.specs.Closed.{first_fit, node_back, arc_back, back_to, IsLoop, Rises}
use Rattle.cycle_walk.specs.Trail.{IsTrail}
use Rattle.cycle_walk.proofs.TrailLemmas.{node_below, step_at}

-- after t steps back the node is j, and the constraints of the steps stand first; seen tells at which step each node
-- came, or the number of nodes
pub record IsWayBack (s : SystemData) (period start t j : ℕ) (arcs seen : List ℕ) : Type 0 where
  pub count : length arcs ≡ s.nodes
  pub within : t ≤ s.nodes
  pub node : j ≡ node_back s (weights_at s period) start t
  pub is : (x : ℕ) → x < t → get_or arcs x 0 ≡ arc_back s (weights_at s period) start x
  pub size : length seen ≡ s.nodes
  pub told : (x : ℕ) → x < t → get_or seen (node_back s (weights_at s period) start x) 0 ≡ x
  pub tells : (v : ℕ) → v < s.nodes
      → (get_or seen v 0 ≡ s.nodes) ⊎ ((get_or seen v 0 < t) × (node_back s (weights_at s period) start (get_or seen v 0) ≡ v))

-- the nodes so far are different
pub once_so_far : (s : SystemData) (period start t j : ℕ) (arcs seen : List ℕ) → IsWayBack s period start t j arcs seen
    → (x y : ℕ) → x < y → y < t → node_back s (weights_at s period) start x ≡ node_back s (weights_at s period) start y
    → ⊥
once_so_far s period start t j arcs seen h x y lt in_t e =
    let a = h.told x (omega (arith, lt, in_t)) in
    let b = h.told y in_t in
    let c = ap (λ v. get_or seen v 0) e in
    omega (arith, a, b, c, lt)

-- a node that isn't told of is new
pub is_new : (s : SystemData) (period start t j : ℕ) (arcs seen : List ℕ) → IsWayBack s period start t j arcs seen
    → get_or seen j 0 ≡ s.nodes → (x : ℕ) → x < t → node_back s (weights_at s period) start x ≡ j → ⊥
is_new s period start t j arcs seen h unseen x lt e =
    let a = h.told x lt in
    let c = ap (λ v. get_or seen v 0) e in
    omega (arith, a, c, unseen, lt, h.within)

-- so there are steps left
pub steps_left : (s : SystemData) (period start t j : ℕ) (arcs seen : List ℕ) → IsSystem s → start < s.nodes
    → Rises s (weights_at s period) start → IsWayBack s period start t j arcs seen → get_or seen j 0 ≡ s.nodes
    → t < s.nodes
steps_left s period start t j arcs seen valid p rises h unseen =
    ⊎_elim (λ lt. lt)
    (λ ge.
    let wt = weights_at s period in
    let full : t ≡ s.nodes = omega (arith, ge, h.within) in
    let (x, y, lt, le, e) = pigeonhole s.nodes (node_back s wt start) (λ k q. node_below s wt start k valid p rises q) in
    absurd (⊎_elim
    (λ last. is_new s period start t j arcs seen h unseen x (omega (arith, lt, last)) (e ∙ ap (node_back s wt start) last ∙ sym h.node))
    (λ other. once_so_far s period start t j arcs seen h x y lt (omega (arith, le, other, full)) e)
    (cases_eq y t)))
    (cases_lt t s.nodes)

-- one step more
pub way_more : (s : SystemData) (period start t j k : ℕ) (arcs seen : List ℕ) → IsSystem s → start < s.nodes
    → Rises s (weights_at s period) start → IsWayBack s period start t j arcs seen → get_or seen j 0 ≡ s.nodes
    → k ≡ arc_back s (weights_at s period) start t
    → IsWayBack s period start (t + 1) (arc s k).from (set arcs t k) (set seen j t)
way_more s period start t j k arcs seen valid p rises h unseen is_k =
    let wt = weights_at s period in
    let f = node_back s wt start in
    let left = steps_left s period start t j arcs seen valid p rises h unseen in
    let next : suc t ≡ t + 1 = omega arith in
    let j_in : j < length seen = omega (arith, h.size, h.node, node_below s wt start t valid p rises h.within) in
    let here = get_or-set_same seen j t 0 j_in in
    record {
      count = length-set arcs t k ∙ h.count;
      within = omega (arith, left);
      node = ap (λ x. (arc s x).from) is_k ∙ ap f next;
      is = λ x lt.
          ⊎_elim
          (λ e.
          ap (λ y. get_or (set arcs t k) y 0) e ∙ get_or-set_same arcs t k 0 (omega (arith, left, h.count)) ∙ is_k ∙ ap (arc_back s wt start) (sym e))
          (λ ne. get_or-set_other arcs t x k 0 ne ∙ h.is x (omega (arith, lt, ne)))
          (cases_eq x t);
      size = length-set seen j t ∙ h.size;
      told = λ x lt.
          ⊎_elim
          (λ e.
          let at : f x ≡ j = ap f e ∙ sym h.node in
          ap (λ v. get_or (set seen j t) v 0) at ∙ here ∙ sym e)
          (λ ne.
          get_or-set_other seen j (f x) t 0 (λ same. is_new s period start t j arcs seen h unseen x (omega (arith, lt, ne)) same)
          ∙ h.told x (omega (arith, lt, ne)))
          (cases_eq x t);
      tells = λ v v_in.
          ⊎_elim
          (λ e.
          let now : get_or (set seen j t) v 0 ≡ t = ap (λ u. get_or (set seen j t) u 0) e ∙ here in
          inr (omega (arith, now), ap f now ∙ sym h.node ∙ sym e))
          (λ ne.
          let same : get_or (set seen j t) v 0 ≡ get_or seen v 0 = get_or-set_other seen j v t 0 ne in
          ⊎_elim (λ none. inl (same ∙ none)) (λ (lt, at). inr (omega (arith, same, lt), ap f same ∙ at)) (h.tells v v_in))
          (cases_eq v j);
    }

-- a node that is told of ends it
pub way_ends : (s : SystemData) (period start t j : ℕ) (arcs seen : List ℕ) → IsSystem s → start < s.nodes
    → Rises s (weights_at s period) start → IsWayBack s period start t j arcs seen → (get_or seen j 0 ≡ s.nodes → ⊥)
    → IsTrail s period start arcs (get_or seen j 0) t
way_ends s period start t j arcs seen valid p rises h told =
    let wt = weights_at s period in
    let f = node_back s wt start in
    let j_in : j < s.nodes = omega (arith, h.node, node_below s wt start t valid p rises h.within) in
    ⊎_elim
    (λ none. absurd (told none))
    (λ (lt, at).
    let loop : IsLoop f s.nodes (get_or seen j 0) t = record {
      order = lt;
      within = h.within;
      same = at ∙ h.node;
      once = λ x y less in_t. once_so_far s period start t j arcs seen h x y less in_t;
    } in
    record {
      room = omega (arith, h.within, h.count);
      is = h.is;
      in_list = λ x less. let step = step_at s wt start x rises (omega (arith, less, h.within)) in omega (arith, step.0, h.is x less);
      loop = loop;
    })
    (h.tells j j_in)

pub j_below : (s : SystemData) (period start t j : ℕ) (arcs seen : List ℕ) → IsSystem s → start < s.nodes
    → Rises s (weights_at s period) start → IsWayBack s period start t j arcs seen → j < s.nodes
j_below s period start t j arcs seen valid p rises h =
    omega (arith, h.node, node_below s (weights_at s period) start t valid p rises h.within)

-- what the next step back takes
pub arc_at : (s : SystemData) (period start t j n k l : ℕ) (arcs seen : List ℕ) → IsSystem s → start < s.nodes
    → Rises s (weights_at s period) start → IsWayBack s period start t j arcs seen → get_or seen j 0 ≡ s.nodes
    → n ≡ s.nodes → l ≡ n - 1 - t → k ≡ first_fit s (weights_at s period) l j
    → (k ≡ arc_back s (weights_at s period) start t) × (k < length s.arcs)
arc_at s period start t j n k l arcs seen valid p rises h unseen e is_l is =
    let wt = weights_at s period in
    let left = steps_left s period start t j arcs seen valid p rises h unseen in
    let level : l ≡ s.nodes - suc t = omega (arith, is_l, e) in
    let same : k ≡ arc_back s wt start t = is ∙ ap (λ x. first_fit s wt x j) level ∙ ap (first_fit s wt (s.nodes - suc t)) h.node in
    (same, omega (arith, same, (step_at s wt start t rises left).0))

pub back_split : (f : ℕ → ℕ) (a t : ℕ) → a < t → back_to f a (t - a) ≡ f (t - 1) ∷ back_to f a (t - 1 - a)
back_split f a t lt =
    let more : t - a ≡ suc (t - 1 - a) = omega (arith, lt) in
    let at : a + (t - 1 - a) ≡ t - 1 = omega (arith, lt) in
    ap (back_to f a) more ∙ ap (λ x. f x ∷ back_to f a (t - 1 - a)) at

-- the same values give the same list
pub back_same : (f g : ℕ → ℕ) (a n : ℕ) → ((x : ℕ) → x < a + n → f x ≡ g x) → back_to f a n ≡ back_to g a n
back_same f g a zero h = refl
back_same f g a (suc n) h =
    ap (λ x. x ∷ back_to f a n) (h (a + n) (omega arith)) ∙ ap (λ xs. g (a + n) ∷ xs) (back_same f g a n (λ x lt. h x (omega (arith, lt))))
