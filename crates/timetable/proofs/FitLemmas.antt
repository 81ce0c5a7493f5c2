-- The rules on parts, from what their tests look at.
use Rattle.std.proofs.Common.{◌≡◌, ℕ, ◌+◌, ◌*◌, ◌/◌, ◌%◌, ◌<◌, ◌≤◌, length, get_or, arith, subst, sym, ◌∙◌, List}
use Rattle.std.specs.Prelude.{Bool, IsTrue, ◌↔◌}
use Rattle.std.proofs.lemmas.Nat.{mod_below, mod-mul-add, div-add-mod'}
use Rattle.hoist_base.specs.LineData.{LineData, move_count, Serves}
use Rattle.hoist_base.specs.Routes.{IsRoute}
use Rattle.timetable.specs.TimetableData.{TimetableData}
use Rattle.timetable.specs.FitTests.{HasCounts}
use Rattle.timetable.proofs.Pairs.{number_below, row_below}

-- a route by the numbers of its visits
pub route_from : (l : LineData) (tanks : List ℕ) → length tanks ≡ l.degree * length l.stages
    → ((i : ℕ) → i < length tanks → Serves l (get_or tanks i 0) (i % length l.stages)) → IsRoute l tanks
route_from l tanks count each = record {
  count = count;
  serves = λ c k v.
      let n = length l.stages in
      let lt : c * n + k < length tanks = omega (arith, count, number_below c n k l.degree v.0 v.1) in
      subst (λ (x : ℕ). Serves l (get_or tanks (c * n + k) 0) x) (mod-mul-add c n k v.1) (each (c * n + k) lt);
}

pub route_at : (l : LineData) (tanks : List ℕ) (i : ℕ) → 0 < length l.stages → IsRoute l tanks → i < length tanks
    → Serves l (get_or tanks i 0) (i % length l.stages)
route_at l tanks i some route lt =
    let n = length l.stages in
    let below : i / n < l.degree = row_below n i l.degree (omega (arith, lt, route.count)) in
    subst (λ (x : ℕ). Serves l (get_or tanks x 0) (i % n)) (div-add-mod' i n) (route.serves (i / n) (i % n) (below, mod_below i n some))

-- the counts, by numbers that were read
pub counts_are : (l : LineData) (d : TimetableData) (r : Bool) (carriers moves positions : ℕ) → 1 ≤ d.period
    → d.period ≤ 20000 → carriers ≡ l.degree → moves ≡ move_count l → positions ≡ l.hoists * d.period
    → (IsTrue r ↔ ((length d.put ≡ carriers) × (length d.off ≡ carriers) × (length d.start ≡ moves) × (length d.hoist ≡ moves) × (length d.path ≡ positions)))
    → (IsTrue r ↔ HasCounts l d)
counts_are l d r carriers moves positions low high e e' e'' test = (
  λ yes'. let h = test.0 yes' in record { period = (low, high); put = h.0 ∙ e; off = h.1 ∙ e; start = h.2 ∙ e'; hoist = h.3 ∙ e'; path = h.4 ∙ e'' },
  λ has. test.1 (has.put ∙ sym e, has.off ∙ sym e, has.start ∙ sym e', has.hoist ∙ sym e', has.path ∙ sym e''),
)
