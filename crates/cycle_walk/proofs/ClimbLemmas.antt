-- The climb: the next period, and what is ruled out below it.
use Rattle.std.proofs.Common.{◌≡◌, ℕ, zero, suc, ◌+◌, ◌*◌, ◌<◌, ◌≤◌, ⊎_elim, [], refl, sym, ap, subst, ◌∙◌, cond, Option, Some, None, ℤ, pos, negsuc, ◌+ℤ◌, ◌*ℤ◌, ◌≤ℤ◌, ◌<ℤ◌, arith}
use Rattle.std.specs.Prelude.{unsigned_abs, nat_lt, min, IfSome}
use Rattle.std.specs.Int.{div_ceil, is_negative}
use Rattle.std.proofs.lemmas.Int.{ints, by_lt_z}
use Rattle.std.proofs.lemmas.Bool.{cases_lt, cond-true, cond-false, lt-ltb, le-ltb}
use Rattle.std.proofs.lemmas.Nat.{mul-le}
use Rattle.std.proofs.lemmas.Grind.{div_ceil_times}
use Rattle.longest_path.specs.System.{SystemData, IsSystem, Refutes}
use Rattle.cycle_walk.specs.Closed.{WalkData, closed_walk_of, IsFeasible, IsClosedWalk, HasSmallSums}
use Rattle.cycle_walk.specs.declared.climbing.Climbed.{Climbed}
use Rattle.cycle_walk.specs.declared.climbing.Climbed.TheVariants.{Floor, Shut}
use Rattle.cycle_walk.specs.declared.sums.Sums.{Sums}
use Rattle.cycle_walk.specs.Refuting.{sums_of}
use Rattle.cycle_walk.specs.Climb.{match_walk, least_kept, climb_from, AllWalks}
use Rattle.cycle_walk.proofs.ClosedLemmas.{IsRefutedBy, closed_cases, closed_refutes, sums_small}
use Rattle.cycle_walk.proofs.FirstLemmas.{true_lt, false_lt}

-- ---- the least period that a walk does not refute
pub below_kept : (w p t : ℕ) → 0 < p → t < div_ceil w p → t * p < w
below_kept w p t h lt =
    let bounds = div_ceil_times w p h in
    let up = mul-le (suc t) p (div_ceil w p) p (omega (arith, lt)) (omega arith) in
    omega (arith, bounds.1, up)

pub kept_above : (w p t : ℕ) → 0 < p → t * p < w → t < div_ceil w p
kept_above w p t h lt =
    ⊎_elim (λ less. less)
    (λ ge.
    let bounds = div_ceil_times w p h in
    let up = mul-le (div_ceil w p) p t p ge (omega arith) in
    absurd (omega (arith, bounds.0, up, lt)))
    (cases_lt t (div_ceil w p))

-- the walk's line at a natural period
pub falling : (q : ℤ) (t : ℕ) → q <ℤ pos 0 → (0 < unsigned_abs q) × (pos (t * unsigned_abs q) +ℤ q *ℤ pos t ≡ pos 0)
falling (pos n) t h = absurd (omega (arith, ints, h))
falling (negsuc n) t h = (omega (arith, ints), omega (arith, ints))

rising : (q : ℤ) (m t : ℕ) → pos 0 ≤ℤ q → m ≤ t → (q *ℤ pos m) ≤ℤ (q *ℤ pos t)
rising (pos n) m t h le = omega (arith, ints, mul-le n m n t (omega arith) le)
rising (negsuc n) m t h le = absurd (omega (arith, ints, h))

-- it refutes all periods from this one on, where q isn't below 0
pub refutes_on : (w q : ℤ) (period t : ℕ) → Refutes w q period → pos 0 ≤ℤ q → period ≤ t → Refutes w q t
refutes_on w q period t gains up le = omega (arith, ints, gains, rising q period t up le)

-- sums that refute a period, and not an earlier one, refute all later ones
pub refutes_later : (w q : ℤ) (m p t : ℕ) → m ≤ p → p ≤ t → (Refutes w q m → ⊥) → Refutes w q p → Refutes w q t
refutes_later w q m p t le le' shut gains =
    by_lt_z q (pos 0)
    (λ down.
    let (here, at_m) = falling q m down in
    let at_p = falling q p down in
    let under = mul-le m (unsigned_abs q) p (unsigned_abs q) le (omega arith) in
    absurd (shut (omega (arith, ints, gains, at_m, at_p.1, under))))
    (λ up. refutes_on w q p t gains up le')

-- where q is below 0 the least period kept is above this one, and all below it are refuted
pub kept_later : (walk : WalkData) (period : ℕ) → Refutes walk.w walk.q period → walk.q <ℤ pos 0
    → period < least_kept walk
kept_later walk period gains down =
    let (p, line) = falling walk.q period down in
    kept_above (unsigned_abs walk.w) (unsigned_abs walk.q) period p (omega (arith, ints, gains, line))

pub refutes_below : (walk : WalkData) (period t : ℕ) → Refutes walk.w walk.q period → walk.q <ℤ pos 0
    → t < least_kept walk → Refutes walk.w walk.q t
refutes_below walk period t gains down lt =
    let (p, line) = falling walk.q t down in
    let at = falling walk.q period down in
    let under = below_kept (unsigned_abs walk.w) (unsigned_abs walk.q) t p lt in
    omega (arith, ints, gains, line, at.1, under)

-- both at numbers that are read as the sizes of w and of q
abbrev walk_with : ℤ → ℤ → WalkData
walk_with w q = record { arcs = []; w = w; q = q }

pub refuted_before : (w q : ℤ) (a b period t : ℕ) → a ≡ unsigned_abs w → b ≡ unsigned_abs q
    → Refutes w q period → q <ℤ pos 0 → t < div_ceil a b → Refutes w q t
refuted_before w q a b period t is_w is_q gains down lt =
    let kept : div_ceil a b ≡ div_ceil (unsigned_abs w) (unsigned_abs q) = λ i. div_ceil (is_w i) (is_q i) in
    refutes_below (walk_with w q) period t gains down (omega (arith, kept, lt))

pub kept_from : (w q : ℤ) (a b t : ℕ) → a ≡ unsigned_abs w → b ≡ unsigned_abs q
    → q <ℤ pos 0 → div_ceil a b ≤ t → Refutes w q t → ⊥
kept_from w q a b t is_w is_q down le gains =
    let kept : div_ceil a b ≡ div_ceil (unsigned_abs w) (unsigned_abs q) = λ i. div_ceil (is_w i) (is_q i) in
    omega (arith, kept, le, kept_later (walk_with w q) t gains down)

-- the least period below a cap that falling sums don't refute is the least period kept, or the cap where that is less
pub kept_is : (walk : WalkData) (period cap kept : ℕ) → Refutes walk.w walk.q period → walk.q <ℤ pos 0
    → kept ≤ cap → ((t : ℕ) → 1 ≤ t → t < kept → Refutes walk.w walk.q t)
    → (kept < cap → Refutes walk.w walk.q kept → ⊥) → kept ≡ min (least_kept walk) cap
kept_is walk period cap kept gains down most below met =
    let least = least_kept walk in
    let up : kept ≤ least =
    ⊎_elim (λ (less : least < kept). absurd (let later = kept_later walk period gains down in let again = kept_later
    walk least (below least (omega (arith, later)) less) down in omega (arith, again))) (λ le. le)
    (cases_lt least kept) in
    ⊎_elim
    (λ (lt : kept < cap).
    ⊎_elim (λ (less : kept < least). absurd (met lt (refutes_below walk period kept gains down less)))
    (λ (le : least ≤ kept). omega (arith, up, le, lt)) (cases_lt kept least))
    (λ (le : cap ≤ kept). omega (arith, up, le, most))
    (cases_lt kept cap)

-- and so at the walk's sums as they are handed out
pub raised : (sums : Sums) (walk : WalkData) (period cap kept : ℕ) → sums ≡ sums_of walk
    → Refutes walk.w walk.q period → walk.q <ℤ pos 0
    → kept ≤ cap → ((t : ℕ) → 1 ≤ t → t < kept → Refutes sums.w sums.q t)
    → (kept < cap → Refutes sums.w sums.q kept → ⊥) → kept ≡ min (least_kept walk) cap
raised sums walk period cap kept is gains down most below met =
    let refutes_at : ℕ → Sums → Type 0 = λ t x. Refutes x.w x.q t in
    kept_is walk period cap kept gains down most
    (λ t some lt. subst (refutes_at t) is (below t some lt))
    (λ lt again. met lt (subst (refutes_at kept) (sym is) again))

pub down_of : (sums : Sums) (walk : WalkData) → sums ≡ sums_of walk → sums.q <ℤ pos 0 → walk.q <ℤ pos 0
down_of sums walk is down = omega (arith, ints, ap (λ (x : Sums). x.q) is, down)

pub up_of : (sums : Sums) (walk : WalkData) → sums ≡ sums_of walk → (sums.q <ℤ pos 0 → ⊥) → pos 0 ≤ℤ walk.q
up_of sums walk is up =
    by_lt_z walk.q (pos 0)
    (λ lt. absurd (up (omega (arith, ints, ap (λ (x : Sums). x.q) is, lt))))
    (λ le. le)

-- ---- what is known of a period, by what was found
pub found_none : (s : SystemData) (period : ℕ) → IsSystem s → closed_walk_of s period ≡ None → IsFeasible s period
found_none s period valid e =
    ⊎_elim (λ f. f.0) (λ (walk, is, refuted). absurd (let c : Some walk ≡ None = sym is ∙ e in cc)) (closed_cases s period valid)

pub found_some : (s : SystemData) (period : ℕ) (walk : WalkData) → IsSystem s → closed_walk_of s period ≡ Some walk
    → IsRefutedBy s period walk
found_some s period walk valid e =
    ⊎_elim (λ f. absurd (let c : Some walk ≡ None = sym e ∙ f.1 in cc))
    (λ (other, is, refuted). let same : other ≡ walk = (let c : Some other ≡ Some walk = sym is ∙ e in cc) in subst (IsRefutedBy s period) same refuted)
    (closed_cases s period valid)

pub none_where_feasible : (s : SystemData) (period : ℕ) → IsSystem s → IsFeasible s period
    → closed_walk_of s period ≡ None
none_where_feasible s period valid feasible =
    ⊎_elim (λ f. f.1) (λ (walk, is, refuted). absurd (closed_refutes s period walk refuted.0 refuted.1 feasible)) (closed_cases s period valid)

-- ---- steps of the climb
climb_more : (s : SystemData) (cap fuel period : ℕ) (low : Option WalkData) → period < cap
    → climb_from s cap (suc fuel) period low ≡ match_walk (closed_walk_of s period) (Floor period low)
    (λ walk. cond (is_negative walk.q) (climb_from s cap fuel (least_kept walk) (Some walk)) (Shut low (Some walk)))
climb_more s cap fuel period low lt = cond-true (nat_lt period cap) _ (Shut low None) (lt-ltb period cap lt)

pub climb_at_cap : (s : SystemData) (cap fuel period : ℕ) (low : Option WalkData) → cap ≤ period
    → climb_from s cap fuel period low ≡ Shut low None
climb_at_cap s cap zero period low le = refl
climb_at_cap s cap (suc fuel) period low le = cond-false (nat_lt period cap) _ (Shut low None) (le-ltb period cap le)

pub climb_floor : (s : SystemData) (cap fuel period : ℕ) (low : Option WalkData) → period < cap → cap ≤ period + fuel
    → closed_walk_of s period ≡ None → climb_from s cap fuel period low ≡ Floor period low
climb_floor s cap zero period low lt enough e = absurd (omega (arith, lt, enough))
climb_floor s cap (suc fuel) period low lt enough e =
    climb_more s cap fuel period low lt
    ∙ ap (λ o. match_walk o (Floor period low) (λ walk. cond (is_negative walk.q)
    (climb_from s cap fuel (least_kept walk) (Some walk)) (Shut low (Some walk)))) e

pub climb_shut : (s : SystemData) (cap fuel period : ℕ) (low : Option WalkData) (walk : WalkData) → period < cap
    → cap ≤ period + fuel → closed_walk_of s period ≡ Some walk → pos 0 ≤ℤ walk.q
    → climb_from s cap fuel period low ≡ Shut low (Some walk)
climb_shut s cap zero period low walk lt enough e up = absurd (omega (arith, lt, enough))
climb_shut s cap (suc fuel) period low walk lt enough e up =
    climb_more s cap fuel period low lt
    ∙ ap (λ o. match_walk o (Floor period low) (λ walk. cond (is_negative walk.q)
    (climb_from s cap fuel (least_kept walk) (Some walk)) (Shut low (Some walk)))) e
    ∙ cond-false (is_negative walk.q) (climb_from s cap fuel (least_kept walk) (Some walk)) (Shut low (Some walk)) (false_lt walk.q (pos 0) up)

pub climb_raises : (s : SystemData) (cap fuel period : ℕ) (low : Option WalkData) (walk : WalkData) (answer : Climbed)
    → period < cap → cap ≤ period + fuel → closed_walk_of s period ≡ Some walk → walk.q <ℤ pos 0
    → period < least_kept walk → climb_from s cap fuel period low ≡ answer
    → (left : ℕ) × (cap ≤ least_kept walk + left) × (climb_from s cap left (least_kept walk) (Some walk) ≡ answer)
climb_raises s cap zero period low walk answer lt enough e down later is = absurd (omega (arith, lt, enough))
climb_raises s cap (suc fuel) period low walk answer lt enough e down later is =
    let step =
    climb_more s cap fuel period low lt
    ∙ ap (λ o. match_walk o (Floor period low) (λ walk. cond (is_negative walk.q)
    (climb_from s cap fuel (least_kept walk) (Some walk)) (Shut low (Some walk)))) e
    ∙ cond-true (is_negative walk.q) (climb_from s cap fuel (least_kept walk) (Some walk)) (Shut low (Some walk)) (true_lt walk.q (pos 0) down) in
    (fuel, omega (arith, enough, later), sym step ∙ is)

-- a climb that goes on at the cap goes on as one that goes on later
pub climb_capped : (s : SystemData) (cap fuel period kept : ℕ) (low : Option WalkData) (answer : Climbed)
    → kept ≡ min period cap → cap ≤ period + fuel → climb_from s cap fuel period low ≡ answer
    → (cap ≤ kept + fuel) × (climb_from s cap fuel kept low ≡ answer)
climb_capped s cap fuel period kept low answer is enough goes =
    ⊎_elim
    (λ (lt : period < cap). let same : kept ≡ period = omega (arith, is, lt) in
    (omega (arith, same, enough), ap (λ t. climb_from s cap fuel t low) same ∙ goes))
    (λ (le : cap ≤ period). let same : kept ≡ cap = omega (arith, is, le) in
    (omega (arith, same), climb_at_cap s cap fuel kept low (omega (arith, same)) ∙ sym (climb_at_cap s cap fuel period low le) ∙ goes))
    (cases_lt period cap)

-- ---- what is ruled out
pub none_before : (s : SystemData) (period : ℕ) (walk : WalkData) → IsRefutedBy s period walk → walk.q <ℤ pos 0
    → (t : ℕ) → t < least_kept walk → IsFeasible s t → ⊥
none_before s period walk refuted down t lt = closed_refutes s t walk refuted.0 (refutes_below walk period t refuted.1 down lt)

pub none_after : (s : SystemData) (period : ℕ) (walk : WalkData) → IsRefutedBy s period walk → pos 0 ≤ℤ walk.q → (t : ℕ)
    → period ≤ t → IsFeasible s t → ⊥
none_after s period walk refuted up t le = closed_refutes s t walk refuted.0 (refutes_on walk.w walk.q period t refuted.1 up le)

pub refuted_if : (s : SystemData) (period : ℕ) (found : Option WalkData) → IsSystem s → found ≡ closed_walk_of s period
    → IfSome found (λ walk. Refutes walk.w walk.q period)
refuted_if s period None valid e = tt
refuted_if s period (Some walk) valid e = (found_some s period walk valid (sym e)).1

pub closed_if : (s : SystemData) (period : ℕ) (found : Option WalkData) → IsSystem s → found ≡ closed_walk_of s period
    → IfSome found (IsClosedWalk s)
closed_if s period None valid e = tt
closed_if s period (Some walk) valid e = (found_some s period walk valid (sym e)).0

pub small_if : (s : SystemData) (found : Option WalkData) → IsSystem s → IfSome found (IsClosedWalk s)
    → IfSome found HasSmallSums
small_if s None valid h = tt
small_if s (Some walk) valid h = sums_small s walk valid h

pub small_walks : (s : SystemData) (answer : Climbed) → IsSystem s → AllWalks (IsClosedWalk s) answer
    → AllWalks HasSmallSums answer
small_walks s (Floor period low) valid h = small_if s low valid h
small_walks s (Shut low high) valid h = (small_if s low valid h.0, small_if s high valid h.1)
