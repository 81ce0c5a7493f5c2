use Rattle.std.proofs.Common.{to_z, of_z, w64, ◌≡◌, ℕ, false, ◌∙◌, sym, refl, ap, suc, ◌<◌, ◌≤◌, ◌+◌, ◌*◌, length, get_or, List, pos, ℤ, below_more, subst, ⊎_elim, arith}
use Rattle.std.specs.Prelude.{unsigned_abs}
use Rattle.std.proofs.lemmas.Int.{ints}
use Rattle.std.proofs.lemmas.Bool.{and_left, ne_eqb, cases_lt}
use Rattle.longest_path.specs.declared.systems.Arc.{Arc}
use Rattle.longest_path.specs.System.{SystemData, IsSystem, arc}
use Rattle.longest_path.specs.Rounds.{weights_at, number}
use Rattle.cycle_walk.specs.Values.{value, AreValues}
use Rattle.cycle_walk.specs.Closed.{fits}
use Rattle.cycle_walk.specs.Links.{IsNextInto}
use Rattle.cycle_walk.proofs.FirstLemmas.{first_is, first_none}
use Rattle.cycle_walk.proofs.ValueLemmas.{value_small}
use Rattle.cycle_walk.proofs.ReadLemmas.{reads, gives_test}
use Rattle.cycle_walk.proofs.going_back.fit.Goals as goal

abbrev no_arc : Arc
no_arc = record { from = 0; to = 0; w = pos 0; q = pos 0 }

read_from : (s : SystemData) (period m k n : ℕ) (rows : List ℤ) (a : Arc) → AreValues s period s.nodes rows → IsSystem s
    → period ≤ 20001 → m < s.nodes → k < length s.arcs → a ≡ arc s k → n ≡ s.nodes
    → (number rows (m * n + a.from) ≡ value s (weights_at s period) m a.from) × (unsigned_abs (number rows (m * n + a.from)) ≤ 4000000000000000)
read_from s period m k n rows a h valid p m_in in_list is e =
    let from_in : a.from < s.nodes = omega (arith, (valid.ends k in_list).0, ap (λ (b : Arc). b.from) is) in
    let read = reads s period s.nodes m a.from n (m * n + a.from) rows h e (omega (arith, m_in)) from_in refl in
    let small = value_small s period m a.from valid p (omega (arith, m_in, valid.nodes.1)) from_in in
    (read, omega (arith, ints, read, small))

read_wanted : (s : SystemData) (period m j n : ℕ) (rows : List ℤ) → AreValues s period s.nodes rows → IsSystem s
    → period ≤ 20001 → m < s.nodes → j < s.nodes → n ≡ s.nodes
    → (number rows (m * n + n + j) ≡ value s (weights_at s period) (suc m) j) × (unsigned_abs (number rows (m * n + n + j)) ≤ 4000000000000000)
read_wanted s period m j n rows h valid p m_in j_in e =
    let read = reads s period s.nodes (suc m) j n (m * n + n + j) rows h e (omega (arith, m_in)) j_in (omega arith) in
    let small = value_small s period (suc m) j valid p (omega (arith, m_in, valid.nodes.1)) j_in in
    (read, omega (arith, ints, read, small))

-- a constraint that ends elsewhere doesn't fit
other : (s : SystemData) (wt : ℕ → ℤ) (m j x : ℕ) → ((arc s x).to ≡ j → ⊥) → fits s wt m j x ≡ false
other s wt m j x ne = and_left _ _ (ne_eqb (arc s x).to j ne)

-- past the next one that ends there
skipped : (s : SystemData) (wt : ℕ → ℤ) (m j k x : ℕ) → IsNextInto s (k + 1) j x
    → ((y : ℕ) → y < k → fits s wt m j y ≡ false) → fits s wt m j k ≡ false
    → (x ≤ length s.arcs) × (x < length s.arcs → (arc s x).to ≡ j) × ((y : ℕ) → y < x → fits s wt m j y ≡ false)
skipped s wt m j k x next before here = (
  next.within,
  next.ends,
  λ y less.
      ⊎_elim
      (λ lt. below_more (λ z. fits s wt m j z ≡ false) k before here y (omega (arith, lt)))
      (λ le. other s wt m j y (λ e. next.none_before y le less e))
      (cases_lt y (k + 1)),
)

abbrev cast : ℤ → ℤ
cast z = to_z w64 (of_z w64 z)

pub gives-requires-clause-from : goal.gives-requires-clause-from
gives-requires-clause-from c =
    let s = c.args.s.now in
    let k = c.loop-k.k in
    let a = get_or c.arcs-arcs.result.now k no_arc in
    let is : a ≡ arc s k = ap (λ (xs : List Arc). get_or xs k no_arc) c.arcs-arcs.ensures.value in
    let in_list : k < length s.arcs = omega (arith, ap length c.arcs-arcs.ensures.value) in
    let read = read_from s c.args.period c.args.m k c.nodes-n.result c.args.rows.now a c.requires.rows
    c.nodes-n.ensures.valid c.requires.period c.requires.m in_list is c.nodes-n.ensures.value in
    omega (arith, ints, read.0, read.1)

pub returns-then-gives : goal.returns-then-gives
returns-then-gives c =
    let s = c.args.s.now in
    let k = c.loop-k.k in
    let j = c.args.j in
    let m = c.args.m in
    let wt = weights_at s c.args.period in
    let a = get_or c.arcs-arcs.result.now k no_arc in
    let is : a ≡ arc s k = ap (λ (xs : List Arc). get_or xs k no_arc) c.arcs-arcs.ensures.value in
    let in_list : k < length s.arcs = omega (arith, c.loop-k-test.true, ap length c.arcs-arcs.ensures.value) in
    let ends : a.to ≡ j = ap (λ (b : Arc). b.to) is ∙ c.loop-k.invariant.1 in_list in
    let read = read_from s c.args.period m k c.nodes-n.result c.args.rows.now a c.requires.rows c.nodes-n.ensures.valid
    c.requires.period c.requires.m in_list is c.nodes-n.ensures.value in
    let want = read_wanted s c.args.period m j c.nodes-n.result c.args.rows.now c.requires.rows c.nodes-n.ensures.valid
    c.requires.period c.requires.m c.requires.j c.nodes-n.ensures.value in
    let test = gives_test s c.args.period m j k a (cast (number c.args.rows.now (m * c.nodes-n.result + a.from)))
    (cast c.weight.result) (cast (number c.args.rows.now (m * c.nodes-n.result + c.nodes-n.result + j))) is
    (omega (arith, ints, read.0, read.1)) (omega (arith, ints, c.weight.ensures.value, c.weight.ensures.small))
    (omega (arith, ints, want.0, want.1)) ends ∙ sym c.gives.ensures ∙ c.if-gives.true in
    sym (first_is (fits s wt m j) (length s.arcs) k (in_list, test, c.loop-k.invariant.2))

pub loop-k-preserved : goal.loop-k-preserved
loop-k-preserved c =
    let s = c.args.s.now in
    let k = c.loop-k.k in
    let j = c.args.j in
    let m = c.args.m in
    let wt = weights_at s c.args.period in
    let a = get_or c.arcs-arcs.result.now k no_arc in
    let is : a ≡ arc s k = ap (λ (xs : List Arc). get_or xs k no_arc) c.arcs-arcs.ensures.value in
    let in_list : k < length s.arcs = omega (arith, c.loop-k-test.true, ap length c.arcs-arcs.ensures.value) in
    let to : (arc s k).to ≡ j = c.loop-k.invariant.1 in_list in
    let ends : a.to ≡ j = ap (λ (b : Arc). b.to) is ∙ to in
    let read = read_from s c.args.period m k c.nodes-n.result c.args.rows.now a c.requires.rows c.nodes-n.ensures.valid
    c.requires.period c.requires.m in_list is c.nodes-n.ensures.value in
    let want = read_wanted s c.args.period m j c.nodes-n.result c.args.rows.now c.requires.rows c.nodes-n.ensures.valid
    c.requires.period c.requires.m c.requires.j c.nodes-n.ensures.value in
    let here : fits s wt m j k ≡ false = gives_test s c.args.period m j k a
    (cast (number c.args.rows.now (m * c.nodes-n.result + a.from))) (cast c.weight.result)
    (cast (number c.args.rows.now (m * c.nodes-n.result + c.nodes-n.result + j))) is
    (omega (arith, ints, read.0, read.1)) (omega (arith, ints, c.weight.ensures.value, c.weight.ensures.small))
    (omega (arith, ints, want.0, want.1)) ends ∙ sym c.gives.ensures ∙ c.if-gives.false in
    skipped s wt m j k (get_or c.args.nexts.now k 0) (subst (λ (x : ℕ). IsNextInto s (k + 1) x
    (get_or c.args.nexts.now k 0)) to (c.requires.links.next k in_list)) c.loop-k.invariant.2 here

pub loop-k-smaller : goal.loop-k-smaller
loop-k-smaller c =
    let s = c.args.s.now in
    let k = c.loop-k.k in
    let in_list : k < length s.arcs = omega (arith, c.loop-k-test.true, ap length c.arcs-arcs.ensures.value) in
    omega (arith, in_list, (c.requires.links.next k in_list).later)

pub loop-k-init : goal.loop-k-init
loop-k-init c =
    let s = c.args.s.now in
    let first = c.requires.links.first c.args.j c.requires.j in
    (first.within, first.ends, λ x less. other s (weights_at s c.args.period) c.args.m c.args.j x (λ e. first.none_before x (omega arith) less e))

pub returns : goal.returns
returns c =
    let s = c.args.s.now in
    let wt = weights_at s c.args.period in
    let count = ap length c.arcs-arcs.ensures.value in
    let all : c.loop-k.k ≡ length s.arcs = omega (arith, c.loop-k-test.false, c.loop-k.invariant.0, count) in
    all ∙ sym (first_none (fits s wt c.args.m c.args.j) (length s.arcs) (λ x lt. c.loop-k.invariant.2 x (omega (arith, lt, all))))
