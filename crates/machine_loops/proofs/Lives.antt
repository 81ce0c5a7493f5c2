-- Every carrier that is put on after the first frame begins each of its moves, and is taken off.
use Rattle.std.proofs.Common.{◌≡◌, ℕ, zero, suc, ◌+◌, ◌-◌, ◌*◌, ◌≤◌, ◌<◌, ◌⊎◌, inl, inr, ⊎_elim, sym, ap, subst, ◌∙◌, add-mul, arith}
use Rattle.std.proofs.lemmas.Bool.{cases_eq, cases_lt, cases_order}
use Rattle.std.proofs.lemmas.Nat.{mul-le}
use Rattle.hoist_base.specs.LineData.{LineData, last_stage}
use Rattle.tick_machine.specs.declared.frame.Carry.{Carry}
use Rattle.tick_machine.specs.Layout.{layout_of}
use Rattle.tick_machine.specs.Scene.{Scene}
use Rattle.machine_loops.specs.Loops.{raised, IsInLine, IsOffAt}
use Rattle.machine_loops.proofs.StepStays.{TakenOff}
use Rattle.machine_loops.proofs.Raised.{raised_in}
use Rattle.machine_loops.proofs.Unrolled.{Unrolled, ring_one}
use Rattle.machine_loops.proofs.History.{Begins, Stays, stays, begin_stay, brought}
use Rattle.machine_loops.proofs.Places.{no_room, place_count, at_place, placed, in_or_out}

-- a carrier that is put on by tick n
pub record Put (frames : ℕ → Scene) (c n : ℕ) : Type 0 where
  pub s : ℕ
  pub early : s < n
  pub before : (frames s).next ≡ c
  pub after : (frames (suc s)).next ≡ c + 1

pub put_found : (l : LineData) (period : ℕ) (frames : ℕ → Scene) (n c : ℕ) → Unrolled l period frames
    → (frames 0).next ≤ c
    → c < (frames n).next → Put frames c n
put_found l period frames zero c run new lt = absurd (omega arith)
put_found l period frames (suc n) c run new lt =
    ⊎_elim
    (λ earlier. let put = put_found l period frames n c run new earlier in let early = put.early in record {
      s = put.s;
      early = omega arith;
      before = put.before;
      after = put.after;
    })
    (λ le. ⊎_elim
    (λ same. absurd (omega arith))
    (λ more. record { s = n; early = omega arith; before = omega arith; after = omega arith })
    (run.passes n).next)
    (cases_lt c (frames n).next)

-- who is in the line is taken off within some ticks, or in it all the time
record Off (frames : ℕ → Scene) (c t n : ℕ) : Type 0 where
  s : ℕ
  late : t ≤ s
  early : s < t + n
  before : IsInLine (frames s) c
  after : IsInLine (frames (suc s)) c → ⊥

off_or_in : (l : LineData) (period : ℕ) (frames : ℕ → Scene) (n t c : ℕ) → Unrolled l period frames
    → IsInLine (frames t) c
    → Off frames c t n ⊎ ((j : ℕ) → j ≤ n → IsInLine (frames (t + j)) c)
off_or_in l period frames zero t c run there = inr (λ j le. let e : t ≡ t + j = omega arith in subst (λ (x : ℕ). IsInLine (frames x) c) e there)
off_or_in l period frames (suc n) t c run there =
    ⊎_elim
    (λ off. inl (let early = off.early in record { s = off.s; late = off.late; early = omega arith; before = off.before; after = off.after }))
    (λ all. ⊎_elim
    (λ stays. inr (λ j le. ⊎_elim
    (λ last. let e : suc (t + n) ≡ t + j = omega arith in subst (λ (x : ℕ). IsInLine (frames x) c) e stays)
    (λ other. all j (omega arith))
    (cases_eq j (suc n))))
    (λ out. inl (record { s = t + n; late = omega arith; early = omega arith; before = all n (omega arith); after = out }))
    (in_or_out (layout_of l) (frames (suc (t + n))) c run.layout (run.sound (suc (t + n)))))
    (off_or_in l period frames n t c run there)

-- different copies are different carriers
copies_differ : (r c i j : ℕ) → 1 ≤ r → c + i * r ≡ c + j * r → i ≡ j
copies_differ r c i j some e =
    ⊎_elim (λ same. same)
    (λ other. ⊎_elim
    (λ less. absurd (let m : (i + 1) * r ≤ j * r = mul-le (i + 1) r j r (omega arith) (omega arith) in let s = ring_one i r in omega arith))
    (λ more. absurd (let m : (j + 1) * r ≤ i * r = mul-le (j + 1) r i r (omega arith) (omega arith) in let s = ring_one j r in omega arith))
    other)
    (cases_order i j)

-- the line has no room for a carrier that stays for so many periods, since its copies would stay too
pub never_stays : (l : LineData) (period : ℕ) (frames : ℕ → Scene) (t c : ℕ) → Unrolled l period frames
    → ((j : ℕ) → j ≤ place_count (layout_of l) * period → IsInLine (frames (t + j)) c) → ⊥
never_stays l period frames t c run all =
    let m = place_count (layout_of l) in
    let end = t + m * period in
    no_room m (at_place (layout_of l) (frames end)) (λ q. c + q * l.degree) (λ i j. copies_differ l.degree c i j run.degree) (λ q le.
    let j = (m - q) * period in
    let some : j ≤ m * period = mul-le (m - q) period m period (omega arith) (omega arith) in
    let parts : m - q + q ≡ m = omega arith in
    let sum : (m - q + q) * period ≡ j + q * period = add-mul (m - q) q period in
    let whole : (m - q + q) * period ≡ m * period = ap (λ (x : ℕ). x * period) parts in
    let e : t + j + q * period ≡ end = omega arith in
    let later : raised (q * l.degree) (frames (t + j)) ≡ frames end = sym (run.again q (t + j)) ∙ ap frames e in
    placed (layout_of l) (frames end) (c + q * l.degree) run.layout (run.sound end)
    (subst (λ (f : Scene). IsInLine f (c + q * l.degree)) later
    (raised_in (q * l.degree) (frames (t + j)) c (all j some))))

-- how many ticks a carrier is in the line at most
abbrev pub longest_stay : LineData → ℕ → ℕ
longest_stay l period = place_count (layout_of l) * period

off_found : (l : LineData) (period : ℕ) (frames : ℕ → Scene) (t c : ℕ) → Unrolled l period frames
    → IsInLine (frames t) c
    → Off frames c t (longest_stay l period)
off_found l period frames t c run there = ⊎_elim (λ off. off) (λ all. absurd (never_stays l period frames t c run all))
    (off_or_in l period frames (longest_stay l period) t c run there)

-- a move of step k of carrier c that begins before tick `end`
pub record Begun (frames : ℕ → Scene) (c k end : ℕ) : Type 0 where
  pub u : ℕ
  pub h : ℕ
  pub y : Carry
  pub begins : Begins frames u h y
  pub carrier : y.carrier ≡ c
  pub step : y.step ≡ k
  pub early : u < end

-- the move that has brought a carrier to a stage
begun_before : (l : LineData) (period : ℕ) (frames : ℕ → Scene) (t i c k age end : ℕ) → Unrolled l period frames
    → (frames 0).next ≤ c → Stays (layout_of l) frames t i c (k + 1) age → t < end → Begun frames c k end
begun_before l period frames t i c k age end run new stay lt =
    ⊎_elim
    (λ set.
    let b = brought l period frames stay.s i c (k + 1) run new set in
    let step = b.step in
    let long = b.long in
    let since = stay.since in
    record { u = b.u; h = b.h; y = b.y; begins = b.begins; carrier = b.carrier; step = omega arith; early = omega arith })
    (λ put. absurd (let e = put.stage in omega arith))
    stay.came

begun_earlier : (l : LineData) (period : ℕ) (frames : ℕ → Scene) (c k end : ℕ) → Unrolled l period frames
    → (frames 0).next ≤ c
    → Begun frames c (k + 1) end → Begun frames c k end
begun_earlier l period frames c k end run new next =
    let carrier = next.carrier in
    let b = begin_stay l period frames next.u next.h next.y run (omega arith) next.begins in
    let stay : Stays (layout_of l) frames next.u next.y.from c (k + 1) b.age =
    subst (λ (n : ℕ). Stays (layout_of l) frames next.u next.y.from n (k + 1) b.age) next.carrier
    (subst (λ (j : ℕ). Stays (layout_of l) frames next.u next.y.from next.y.carrier j b.age) next.step b.stay) in
    begun_before l period frames next.u next.y.from c k b.age end run new stay next.early

-- the life of carrier c
pub record Life (l : LineData) (frames : ℕ → Scene) (c n stay : ℕ) : Type 0 where
  pub put : Put frames c n
  pub off : ℕ
  pub is_off : IsOffAt frames c off
  pub early : off ≤ n + stay
  pub begun : (k : ℕ) → k < last_stage l → Begun frames c k (off + 1)

begun_all : (l : LineData) (period : ℕ) (frames : ℕ → Scene) (c end d k : ℕ) → Unrolled l period frames
    → (frames 0).next ≤ c
    → ((j : ℕ) → j + 1 ≡ last_stage l → Begun frames c j end) → k + suc d ≡ last_stage l → Begun frames c k end
begun_all l period frames c end zero k run new last e = last k (omega arith)
begun_all l period frames c end (suc d) k run new last e = begun_earlier l period frames c k end run new
    (begun_all l period frames c end d (k + 1) run new last (omega arith))

pub lives : (l : LineData) (period : ℕ) (frames : ℕ → Scene) (c n : ℕ) → Unrolled l period frames → (frames 0).next ≤ c
    → c < (frames n).next → Life l frames c n (longest_stay l period)
lives l period frames c n run new lt =
    let put = put_found l period frames n c run new lt in
    let before = put.before in
    let after = put.after in
    let early = put.early in
    let there : IsInLine (frames (suc put.s)) c = subst (λ (x : ℕ). IsInLine (frames (suc put.s)) x) put.before ((run.passes put.s).put (omega arith)) in
    let off = off_found l period frames (suc put.s) c run there in
    let soon = off.early in
    let late = off.late in
    let taken : TakenOff (layout_of l) (frames off.s) (frames (suc off.s)) c = ⊎_elim (λ taken. taken)
    (λ stays. absurd (off.after stays)) ((run.passes off.s).stays c off.before) in
    let stay = stays l period frames taken.age off.s taken.i c (last_stage l) run new taken.comes in
    let some = run.layout.last.0 in
    record {
      put = put;
      off = suc off.s;
      is_off = (off.before, off.after);
      early = omega arith;
      begun = λ k lt. begun_all l period frames c (suc off.s + 1) (last_stage l - k - 1) k run new (λ j e.
          begun_before l period frames (suc off.s) taken.i c j taken.age (suc off.s + 1) run new
          (subst (λ (m : ℕ). Stays (layout_of l) frames (suc off.s) taken.i c m taken.age) (sym e) stay) (omega arith)) (omega arith);
    }
