-- A climb that finds a least period finds it under every later cap, with the same walk.
use Rattle.std.proofs.Common.{⊎_elim, inl, inr, ◌⊎◌, ◌≡◌, ℕ, zero, suc, ◌+◌, ◌<◌, ◌≤◌, refl, sym, ◌∙◌, ap, cond, Option, Some, None, pos, ◌<ℤ◌, arith}
use Rattle.std.specs.Prelude.{nat_lt}
use Rattle.std.specs.Int.{is_negative}
use Rattle.std.proofs.lemmas.Int.{by_lt_z}
use Rattle.std.proofs.lemmas.Bool.{cases_lt, cond-true, cond-false, lt-ltb}
use Rattle.longest_path.specs.System.{SystemData, IsSystem}
use Rattle.cycle_walk.specs.Closed.{WalkData, closed_walk_of}
use Rattle.cycle_walk.specs.Climb.{match_walk, least_kept, climb_from, climbed}
use Rattle.cycle_walk.specs.declared.climbing.Climbed.{Climbed}
use Rattle.cycle_walk.specs.declared.climbing.Climbed.TheVariants.{Floor, Shut}
use Rattle.cycle_walk.proofs.ClosedLemmas.{closed_cases}
use Rattle.cycle_walk.proofs.FirstLemmas.{true_lt, false_lt}
use Rattle.cycle_walk.proofs.ClimbLemmas.{kept_later, climb_at_cap, climb_floor, climb_raises}

-- how a climb goes on from a walk
abbrev next : SystemData → ℕ → ℕ → Option WalkData → WalkData → Climbed
next s cap fuel low walk = cond (is_negative walk.q) (climb_from s cap fuel (least_kept walk) (Some walk)) (Shut low (Some walk))

never : (low high last : Option WalkData) (period : ℕ) → Shut low high ≡ Floor period last → ⊥
never low high last period e = cc

same_period : (p q : ℕ) (a b : Option WalkData) → Floor p a ≡ Floor q b → p ≡ q
same_period p q a b e = cc

same_walk : (p q : ℕ) (a b : Option WalkData) → Floor p a ≡ Floor q b → a ≡ b
same_walk p q a b e = cc

-- the climb ends here, or goes on from a walk that raises the period
abbrev GoesOn : SystemData → ℕ → ℕ → ℕ → Option WalkData → ℕ → Option WalkData → Type 0
GoesOn s cap fuel start low period last =
    ((closed_walk_of s start ≡ None) × (start ≡ period) × (low ≡ last))
    ⊎ ((walk : WalkData) × (closed_walk_of s start ≡ Some walk) × (walk.q <ℤ pos 0) × (start < least_kept walk) × (climb_from s cap fuel (least_kept walk)
    (Some walk) ≡ Floor period last))

goes_on : (s : SystemData) (cap fuel start : ℕ) (low : Option WalkData) (period : ℕ) (last : Option WalkData)
    → IsSystem s
    → climb_from s cap (suc fuel) start low ≡ Floor period last → GoesOn s cap fuel start low period last
goes_on s cap fuel start low period last valid is =
    ⊎_elim
    (λ lt.
    let step =
    cond-true (nat_lt start cap) (match_walk (closed_walk_of s start) (Floor start low) (next s cap fuel low)) (Shut low None) (lt-ltb start cap lt) in
    ⊎_elim
    (λ (feasible, none).
    let ends : Floor start low ≡ Floor period last = sym (ap (λ o. match_walk o (Floor start low) (next s cap fuel low)) none) ∙ sym step ∙ is in
    inl (none, same_period start period low last ends, same_walk start period low last ends))
    (λ (walk, some, refuted).
    let goes : next s cap fuel low walk ≡ Floor period last = sym (ap (λ o. match_walk o (Floor start low) (next s cap fuel low)) some) ∙ sym step ∙ is in
    by_lt_z walk.q (pos 0)
    (λ down. inr (
      walk,
      some,
      down,
      kept_later walk start refuted.1 down,
      sym
          (cond-true (is_negative walk.q) (climb_from s cap fuel (least_kept walk) (Some walk)) (Shut low (Some walk)) (true_lt walk.q (pos 0) down)) ∙ goes,
    ))
    (λ up. absurd (never low (Some walk) last period
    (sym (cond-false (is_negative walk.q) (climb_from s cap fuel (least_kept walk) (Some walk)) (Shut low (Some walk)) (false_lt walk.q (pos 0) up)) ∙ goes))))
    (closed_cases s start valid))
    (λ ge. absurd (never low None last period (sym (climb_at_cap s cap (suc fuel) start low ge) ∙ is)))
    (cases_lt start cap)

-- it ends at no period before the one that it begins with
ends_later : (s : SystemData) (cap fuel start : ℕ) (low : Option WalkData) (period : ℕ) (last : Option WalkData)
    → IsSystem s
    → climb_from s cap fuel start low ≡ Floor period last → start ≤ period
ends_later s cap zero start low period last valid is = absurd (never low None last period is)
ends_later s cap (suc fuel) start low period last valid is =
    ⊎_elim (λ (none, same, lows). omega (arith, same))
    (λ (walk, some, down, later, rest). omega (arith, later, ends_later s cap fuel (least_kept walk) (Some walk) period last valid rest))
    (goes_on s cap fuel start low period last valid is)

same_later : (s : SystemData) (cap later fuel left start : ℕ) (low : Option WalkData) (period : ℕ) (last : Option WalkData)
    → IsSystem s
    → climb_from s cap fuel start low ≡ Floor period last → period < later → later ≤ start + left
    → climb_from s later left start low ≡ Floor period last
same_later s cap later zero left start low period last valid is below enough = absurd (never low None last period is)
same_later s cap later (suc fuel) left start low period last valid is below enough =
    let lt : start < later = omega (arith, below, ends_later s cap (suc fuel) start low period last valid is) in
    ⊎_elim
    (λ (none, same, lows).
    climb_floor s later left start low lt enough none ∙ ap (λ (n : ℕ). Floor n low) same ∙ ap (λ (o : Option WalkData). Floor period o) lows)
    (λ (walk, some, down, up, rest).
    let raised = climb_raises s later left start low walk (climb_from s later left start low) lt enough some down up refl in
    sym raised.2 ∙ same_later s cap later fuel raised.0 (least_kept walk) (Some walk) period last valid rest below raised.1)
    (goes_on s cap fuel start low period last valid is)

pub climbed_later : (s : SystemData) (cap period : ℕ) (last : Option WalkData) → IsSystem s
    → climbed s cap ≡ Floor period last → (later : ℕ) → period < later
    → climbed s later ≡ Floor period last
climbed_later s cap period last valid is later below = same_later s cap later cap later 1 None period last valid is below (omega arith)
