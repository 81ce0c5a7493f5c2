use Rattle.std.proofs.Common.{◌≡◌, ◌∙◌, sym, ℕ, ℤ, List, pos, ◌+◌, ◌-◌, ◌*◌, ◌<◌, suc, ap, arith}
use Rattle.std.proofs.lemmas.Int.{ints}
use Rattle.std.proofs.lemmas.Bool.{eqb-true, both_ways, eq-eqb}
use Rattle.longest_path.specs.System.{SystemData, IsSystem}
use Rattle.longest_path.specs.Rounds.{weights_at, value_from, number, cell}
use Rattle.longest_path.proofs.ValueLemmas.{from_at, from_alike, from_still}
use Rattle.cycle_walk.specs.Values.{zeros, value}
use Rattle.cycle_walk.proofs.closed_walks.rises.Goals as goal

-- a table with zeros in row 0
zeros_at : (s : SystemData) (n : ℕ) (rows : List ℤ) → n ≡ s.nodes → ((i : ℕ) → i < n → number rows i ≡ pos 0) → (i : ℕ)
    → i < s.nodes → cell s.nodes rows 0 i ≡ zeros i
zeros_at s n rows e zero i p =
    let place : 0 * s.nodes + i ≡ i = omega arith in
    ap (number rows) place ∙ zero i (omega (arith, p, e))

same_values : (s : SystemData) (period n : ℕ) (rows : List ℤ) → IsSystem s → n ≡ s.nodes
    → ((i : ℕ) → i < n → number rows i ≡ pos 0) → (m i : ℕ) → i < s.nodes
    → value_from s (weights_at s period) (cell s.nodes rows 0) m i ≡ value s (weights_at s period) m i
same_values s period n rows valid e zero m i p =
    from_alike s (weights_at s period) (cell s.nodes rows 0) zeros m i valid (zeros_at s n rows e zero) p

pub returns-clause-rows : goal.returns-clause-rows
returns-clause-rows c is_n =
    let s = c.args.s.now in
    let n = c.nodes-n.result in
    let same = same_values s c.args.period n c.begin.new.rows.items c.nodes-n.ensures.valid c.nodes-n.ensures.value c.begin.ensures.zero in
    let all = eqb-true c.fill.result n is_n in
    record {
      table = c.fill.ensures.rows.table;
      is = λ r i le p. c.fill.ensures.rows.is r i (omega (arith, le, all, c.nodes-n.ensures.value)) p ∙ same r i p;
    }

pub returns-clause-rises : goal.returns-clause-rises
returns-clause-rises c is_n =
    let s = c.args.s.now in
    let n = c.nodes-n.result in
    let same = same_values s c.args.period n c.begin.new.rows.items c.nodes-n.ensures.valid c.nodes-n.ensures.value c.begin.ensures.zero in
    let all = eqb-true c.fill.result n is_n in
    let (i, p, lt) = c.fill.ensures.grown (all ∙ c.nodes-n.ensures.value) in
    (i, p, omega (arith, ints, lt, same (s.nodes - 1) i p, same s.nodes i p))

pub returns-clause-still : goal.returns-clause-still
returns-clause-still c not_n i p =
    let s = c.args.s.now in
    let wt = weights_at s c.args.period in
    let n = c.nodes-n.result in
    let same = same_values s c.args.period n c.begin.new.rows.items c.nodes-n.ensures.valid c.nodes-n.ensures.value c.begin.ensures.zero in
    let m = c.fill.result in
    let other : m ≡ n → ⊥ = λ e. both_ways _ not_n (eq-eqb m n e) in
    let less : m < s.nodes = omega (arith, other, c.fill.ensures.within, c.nodes-n.ensures.value) in
    let d = s.nodes - suc m in
    from_at s wt zeros s.nodes (suc (m + d)) i (omega (arith, less))
    ∙ from_still s wt zeros m d c.nodes-n.ensures.valid (λ j q. sym (same (suc m) j q) ∙ c.fill.ensures.still less j q ∙ same m j q) i p
    ∙ from_at s wt zeros (m + d) (s.nodes - 1) i (omega (arith, less))
