-- The kinds of atomic step, each as a step from any state that meets the rule. Source: this project's own.
use Rattle.std.specs.Prelude.{◌≡◌, ℕ, ◌+◌, ◌*◌, ◌^◌, ◌<◌, ◌≤◌, false, List, [], ◌∷◌, ◌++◌, min, slice_index, slice_set, bit_or}
use mathlib.Core.Option.{some}
use lib.ListN.{get_elem?}
use Rattle.claim_board.specs.declared.rule.View.{View}
use Rattle.claim_board.specs.declared.rule.Plan.{Plan}
use Rattle.claim_board.specs.Tidy.{EachOnceBelow}
use Rattle.claim_board.specs.Rule.{Rule, IsSmall, Whole, first_view, noted_stop, after_claim, with_stop, with_share, kept_part, given_part, joined_view, spent_view}

-- The board meets its rule, and the seat `id` has this view, which isn't spent.
pub record Stands (plan : Plan) (words : List ℕ) (views : List View) (id : ℕ) (v : View) : Type 0 where
  pub rule : Rule plan words views
  pub there : get_elem? views id ≡ some v
  pub live : v.spent ≡ false

-- Whatever state meets the rule:
pub record StepsKeepRule : Type 0 where
  -- make: both words begin at 0, and one view has all claims left
  pub make : (plan : Plan) → IsSmall plan → Rule plan (0 ∷ 0 ∷ []) (first_view plan ∷ [])
  -- load of `stop`: the view may note that it read the word as set
  pub load_stop : (plan : Plan) (words : List ℕ) (views : List View) (id : ℕ) (v : View) → Stands plan words views id v
      → Rule plan words (slice_set views id (noted_stop v (slice_index words 1)))
  -- claim: `next` grows by 1 and doesn't wrap, the view changes by the old `next`, and then a seat with all claims that
  -- has read the end has each number exactly once
  pub claim : (plan : Plan) (words : List ℕ) (views : List View) (id : ℕ) (v : View) → Stands plan words views id v
      → 0 < v.left
      → (slice_index words 0 + 1 < 2 ^ 64) × Rule plan (slice_set words 0 (slice_index words 0 + 1))
      (slice_set views id (after_claim v (slice_index words 0))) × Whole (after_claim v (slice_index words 0))
  -- stop: the lowest bit of `stop` is set, by a view that has used a claim
  pub stop : (plan : Plan) (words : List ℕ) (views : List View) (id : ℕ) (v : View) → Stands plan words views id v
      → 0 < v.used
      → Rule plan (slice_set words 1 (bit_or (slice_index words 1) 1)) (slice_set views id (with_stop v))
  -- mark: the view notes the share that it will cut off
  pub mark : (plan : Plan) (words : List ℕ) (views : List View) (id : ℕ) (v : View) (share : ℕ)
      → Stands plan words views id v
      → Rule plan words (slice_set views id (with_share v share))
  -- split: the marked share moves from the view's left to a new view
  pub split : (plan : Plan) (words : List ℕ) (views : List View) (id : ℕ) (v : View) → Stands plan words views id v
      → v.share ≤ v.left
      → Rule plan words (slice_set views id (kept_part v) ++ given_part v ∷ [])
  -- join: list, left, used and notes go to one view, and the other becomes spent
  pub join : (plan : Plan) (words : List ℕ) (views : List View) (id other : ℕ) (v w : View)
      → Stands plan words views id v → Stands plan words views other w → ¬ (other ≡ id)
      → Rule plan words (slice_set (slice_set views id (joined_view v w)) other spent_view)
  -- load of `next`: a seat with all claims that has read the end has each number exactly once
  pub load_next : (plan : Plan) (words : List ℕ) (views : List View) (id : ℕ) (v : View) → Stands plan words views id v
      → Whole v
  -- close: a seat with all claims has used as many as `next` says, and has each number below `next` and n exactly once
  pub close : (plan : Plan) (words : List ℕ) (views : List View) (id : ℕ) (v : View) → Stands plan words views id v
      → v.left + v.used ≡ plan.workers * (plan.n + 1)
      → (slice_index words 0 ≡ v.used) × EachOnceBelow (min (slice_index words 0) plan.n) v.list
  -- while one seat has every claim left, both words are 0
  pub untouched : (plan : Plan) (words : List ℕ) (views : List View) (id : ℕ) (v : View) → Stands plan words views id v
      → v.left ≡ plan.workers * (plan.n + 1)
      → (slice_index words 0 ≡ 0) × (slice_index words 1 ≡ 0)
