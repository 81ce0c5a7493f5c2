-- The laws.
use Rattle.std.proofs.Common.{◌≡◌, ℕ, zero, suc, ◌+◌, ◌-◌, ◌<◌, ◌≤◌, ⊎_elim, length, get_or, refl, sym, ap, subst, ◌∙◌, false, Some, None, ℤ, arith, List, [], ◌∷◌, ◌+ℤ◌}
use Rattle.std.specs.Prelude.{int_lt, nat_lt, unsigned_abs}
use Rattle.std.proofs.lemmas.Int.{ints, by_lt_z}
use Rattle.std.proofs.lemmas.Bool.{both_ways, cases_order, cond-true, cond-false, lt-ltb, le-ltb}
use Rattle.longest_path.specs.System.{SystemData, IsSystem, arc, sum_w, sum_q}
use Rattle.longest_path.specs.Rounds.{weights_at}
use Rattle.cycle_walk.specs.Values.{zeros, value}
use Rattle.cycle_walk.specs.Closed.{fits, first_risen, first_same, first_again, node_back, arc_back, back_to, arcs_from, walk_of, closed_walk_of, Rises, WalkData}
use Rattle.cycle_walk.specs.Laws.{FeasibleWhereStill, StoppingIsExact, IsFirstFit, IsCanonical, WalkIsCanonical, CanonicalIsOne, LeastKeptIsLeast}
use Rattle.longest_path.proofs.ValueLemmas.{from_stays}
use Rattle.cycle_walk.proofs.FirstLemmas.{first_cases, lt_true, lt_false}
use Rattle.cycle_walk.proofs.TrailLemmas.{fits_true, fits_holds, fit_found, grows_at, has_loop}
use Rattle.cycle_walk.proofs.ClosedLemmas.{length-back_to, solved_by, walk_found, closed_refutes}
use Rattle.cycle_walk.proofs.ClimbLemmas.{refutes_below, falling, kept_above}

pub stopping_is_exact : StoppingIsExact
stopping_is_exact s period m d valid same i p = from_stays s (weights_at s period) zeros m d valid same i p

pub feasible_where_still : FeasibleWhereStill
feasible_where_still s period valid = (
  λ feasible i p.
      let wt = weights_at s period in
      by_lt_z (value s wt (s.nodes - 1) i) (value s wt s.nodes i)
      (λ lt. let found = walk_found s period i valid p lt in absurd (closed_refutes s period (walk_of s (arcs_from s wt i)) found.0 found.1 feasible))
      (λ le. le),
  λ still. solved_by s period valid still,
)

pub at_back_to : (f : ℕ → ℕ) (a n x : ℕ) → x < n → get_or (back_to f a n) x 0 ≡ f (a + n - suc x)
at_back_to f a zero x lt = absurd (omega (arith, lt))
at_back_to f a (suc n) zero lt = let e : a + n ≡ a + suc n - 1 = omega arith in ap f e
at_back_to f a (suc n) (suc x) lt = let e : a + n - suc x ≡ a + suc n - suc (suc x) = omega arith in at_back_to f a n x (omega (arith, lt)) ∙ ap f e

first_fit_at : (s : SystemData) (wt : ℕ → ℤ) (i t : ℕ) → Rises s wt i → t < s.nodes
    → IsFirstFit s wt (s.nodes - suc t) (node_back s wt i t) (arc_back s wt i t)
first_fit_at s wt i t rises lt =
    let m = s.nodes - suc t in
    let j = node_back s wt i t in
    let (in_list, found, before) = fit_found s wt m j (grows_at s wt i t m rises (omega (arith, lt))) in
    let holds = fits_holds s wt m j (arc_back s wt i t) found in
    record {
      in_list = in_list;
      ends = holds.0;
      brings = holds.1;
      first = λ x less to sum. both_ways (fits s wt m j x) (before x less) (fits_true s wt m j x (to, sum));
    }

canonical_from : (s : SystemData) (period i : ℕ) → IsSystem s → i < s.nodes → Rises s (weights_at s period) i
    → ((x : ℕ) → x < i → int_lt (value s (weights_at s period) (s.nodes - 1) x) (value s (weights_at s period) s.nodes x) ≡ false)
    → IsCanonical s (weights_at s period) (walk_of s (arcs_from s (weights_at s period) i))
canonical_from s period i valid p rises before =
    let wt = weights_at s period in
    let f = node_back s wt i in
    let g = arc_back s wt i in
    let b = first_again f s.nodes in
    let a = first_same f b in
    let loop = has_loop s wt i valid p rises in
    let le : b ≤ s.nodes = loop.within in
    let order : a < b = loop.order in
    record {
      node = f;
      arc_of = g;
      a = a;
      b = b;
      start_in = p;
      start_grows = rises;
      start_least = λ x lt. lt_false (value s wt (s.nodes - 1) x) (value s wt s.nodes x) (before x lt);
      fits = λ t lt. first_fit_at s wt i t rises (omega (arith, lt, le));
      goes_back = λ t lt. refl;
      loop = loop;
      count = length-back_to g a (b - a);
      arcs = λ x lt. let e : a + (b - a) - suc x ≡ b - suc x = omega (arith, order) in at_back_to g a (b - a) x lt ∙ ap g e;
      w = refl;
      q = refl;
    }

pub walk_is_canonical : WalkIsCanonical
unfolding closed_walk_of
walk_is_canonical s period walk valid e =
    let wt = weights_at s period in
    let i = first_risen s wt in
    let made = walk_of s (arcs_from s wt i) in
    ⊎_elim
    (λ (all, none). absurd (let c : None ≡ Some walk = sym (cond-false (nat_lt i s.nodes) (Some made) None (le-ltb i s.nodes (omega (arith, all)))) ∙ e in cc))
    (λ (lt, found, before).
    let same : made ≡ walk = (let c : Some made ≡ Some walk = sym (cond-true (nat_lt i s.nodes) (Some made) None (lt-ltb i s.nodes lt)) ∙ e in cc) in
    subst (IsCanonical s wt) same (canonical_from s period i valid lt (lt_true (value s wt (s.nodes - 1) i) (value s wt s.nodes i) found) before))
    (first_cases (λ j. int_lt (value s wt (s.nodes - 1) j) (value s wt s.nodes j)) s.nodes)

pub least_kept_is_least : LeastKeptIsLeast
least_kept_is_least walk period t gains down = (
  λ more. let (p, line) = falling walk.q t down in kept_above (unsigned_abs walk.w) (unsigned_abs walk.q) t p
      (omega (arith, ints, more, gains, line, (falling walk.q period down).1)),
  λ lt. refutes_below walk period t gains down lt,
)

-- ---- the rule has one walk only
one_fit : (s : SystemData) (wt : ℕ → ℤ) (m i j k l : ℕ) → IsFirstFit s wt m i k → IsFirstFit s wt m j l → i ≡ j → k ≡ l
one_fit s wt m i j k l f g e =
    let f_sum : value s wt m (arc s k).from +ℤ wt k ≡ value s wt (suc m) j = f.brings ∙ ap (value s wt (suc m)) e in
    let g_sum : value s wt m (arc s l).from +ℤ wt l ≡ value s wt (suc m) i = g.brings ∙ ap (value s wt (suc m)) (sym e) in
    ⊎_elim (λ same. same)
    (λ o. ⊎_elim (λ lt. absurd (g.first k lt (f.ends ∙ e) f_sum)) (λ gt. absurd (f.first l gt (g.ends ∙ sym e) g_sum)) o)
    (cases_order k l)

one_start : (s : SystemData) (wt : ℕ → ℤ) (x y : WalkData) (c : IsCanonical s wt x) (d : IsCanonical s wt y)
    → c.node 0 < d.node 0 → ⊥
one_start s wt x y c d lt = omega (arith, ints, d.start_least (c.node 0) lt, c.start_grows)

one_node : (s : SystemData) (wt : ℕ → ℤ) (x y : WalkData) (c : IsCanonical s wt x) (d : IsCanonical s wt y) (t : ℕ)
    → t ≤ c.b → t ≤ d.b → c.node t ≡ d.node t
one_node s wt x y c d zero p q =
    ⊎_elim (λ same. same)
    (λ o. ⊎_elim (λ lt. absurd (one_start s wt x y c d lt)) (λ gt. absurd (one_start s wt y x d c gt)) o)
    (cases_order (c.node 0) (d.node 0))
one_node s wt x y c d (suc t) p q =
    let before = one_node s wt x y c d t (omega (arith, p)) (omega (arith, q)) in
    let same = one_fit s wt (s.nodes - suc t) (c.node t) (d.node t) (c.arc_of t) (d.arc_of t)
    (c.fits t (omega (arith, p))) (d.fits t (omega (arith, q))) before in
    c.goes_back t (omega (arith, p)) ∙ ap (λ k. (arc s k).from) same ∙ sym (d.goes_back t (omega (arith, q)))

one_end : (s : SystemData) (wt : ℕ → ℤ) (x y : WalkData) (c : IsCanonical s wt x) (d : IsCanonical s wt y) → c.b < d.b
    → ⊥
one_end s wt x y c d lt =
    let order : c.a < c.b = c.loop.order in
    let at_a = one_node s wt x y c d c.a (omega (arith, order)) (omega (arith, order, lt)) in
    let at_b = one_node s wt x y c d c.b (omega arith) (omega (arith, lt)) in
    d.loop.once c.a c.b order lt (sym at_a ∙ c.loop.same ∙ at_b)

one_first : (s : SystemData) (wt : ℕ → ℤ) (x y : WalkData) (c : IsCanonical s wt x) (d : IsCanonical s wt y) → c.b ≡ d.b
    → c.a < d.a → ⊥
one_first s wt x y c d e lt =
    let order : d.a < d.b = d.loop.order in
    let at_a = one_node s wt x y c d c.a (omega (arith, lt, order, e)) (omega (arith, lt, order)) in
    let at_b = one_node s wt x y c d c.b (omega arith) (omega (arith, e)) in
    d.loop.once c.a d.a lt order (sym at_a ∙ c.loop.same ∙ at_b ∙ ap d.node e ∙ sym d.loop.same)

as_sums : (s : SystemData) (x : WalkData) → x.w ≡ sum_w s x.arcs → x.q ≡ sum_q s x.arcs → x ≡ walk_of s x.arcs
as_sums s x w q =
    let to : ℤ → ℤ → WalkData = λ u v. record { arcs = x.arcs; w = u; q = v } in
    ap (λ u. to u x.q) w ∙ ap (λ v. to (sum_w s x.arcs) v) q

same_numbers : (xs ys : List ℕ) → length xs ≡ length ys → ((i : ℕ) → i < length xs → get_or xs i 0 ≡ get_or ys i 0)
    → xs ≡ ys
same_numbers [] [] e h = refl
same_numbers [] (y ∷ ys) e h = absurd (omega (arith, e))
same_numbers (x ∷ xs) [] e h = absurd (omega (arith, e))
same_numbers (x ∷ xs) (y ∷ ys) e h =
    let head : x ≡ y = h zero (omega arith) in
    ap (λ z. z ∷ xs) head ∙ ap (λ zs. y ∷ zs) (same_numbers xs ys (omega (arith, e)) (λ i lt. h (suc i) (omega (arith, lt))))

pub canonical_is_one : CanonicalIsOne
canonical_is_one s wt x y c d =
    let end : c.b ≡ d.b = ⊎_elim (λ same. same) (λ o. ⊎_elim (λ lt. absurd (one_end s wt x y c d lt))
    (λ gt. absurd (one_end s wt y x d c gt)) o) (cases_order c.b d.b) in
    let first : c.a ≡ d.a = ⊎_elim (λ same. same) (λ o. ⊎_elim (λ lt. absurd (one_first s wt x y c d end lt))
    (λ gt. absurd (one_first s wt y x d c (sym end) gt)) o) (cases_order c.a d.a) in
    let arcs : x.arcs ≡ y.arcs = same_numbers x.arcs y.arcs (omega (arith, c.count, d.count, end, first))
    (λ i lt.
    let t = c.b - suc i in
    let in_c : t < c.b = omega (arith, lt, c.count) in
    let in_d : t < d.b = omega (arith, in_c, end) in
    let node = one_node s wt x y c d t (omega (arith, in_c)) (omega (arith, in_d)) in
    let same = one_fit s wt (s.nodes - suc t) (c.node t) (d.node t) (c.arc_of t) (d.arc_of t) (c.fits t in_c) (d.fits t in_d) node in
    let level : t ≡ d.b - suc i = omega (arith, end) in
    c.arcs i (omega (arith, lt, c.count)) ∙ same ∙ ap d.arc_of level ∙ sym (d.arcs i (omega (arith, lt, c.count, end, first)))) in
    as_sums s x c.w c.q ∙ ap (walk_of s) arcs ∙ sym (as_sums s y d.w d.q)
