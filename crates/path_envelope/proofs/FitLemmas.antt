-- Lists that tests look through move by move before they ask for paths.
use Rattle.std.proofs.Common.{◌≡◌, ℕ, ◌+◌, ◌≤◌, ◌<◌, ⊎_elim, ◌∙◌, List, length, get_or, sym, ap, subst, arith}
use Rattle.std.proofs.lemmas.Bool.{cases_lt}
use Rattle.std.proofs.lemmas.List.{get_or_past}
use Rattle.hoist_base.specs.LineData.{LineData, IsMove, move_number, move_count}
use Rattle.hoist_base.specs.Routes.{IsRoute}
use Rattle.hoist_base.proofs.NumberLemmas.{move_below}
use Rattle.line_model.specs.declared.motion.Motion.{Motion}
use Rattle.line_model.specs.Motion.{ReachesMotion}
use Rattle.line_model.specs.Timetable.{motion}
use Rattle.path_envelope.specs.Duties.{duties}
use Rattle.path_envelope.specs.FirstClash.{Given}
use Rattle.path_envelope.specs.Slots.{AreMoves}
use Rattle.path_envelope.proofs.FirstLemmas.{Seen, motion_at}

-- the moves numbered below n start early enough, by hoists of the line that reach them
pub record FitSoFar (l : LineData) (route : List ℕ) (period : ℕ) (starts hoists : List ℕ) (n : ℕ) : Type 0 where
  pub small : (i : ℕ) → i < n → get_or starts i 0 ≤ 1000000000
  pub hoist : (c k : ℕ) → IsMove l c k → move_number l c k < n → get_or hoists (move_number l c k) 0 < l.hoists
  pub reach : (c k : ℕ) → IsMove l c k → move_number l c k < n
      → ReachesMotion l (get_or hoists (move_number l c k) 0) (motion l (duties l route period starts hoists) c k)

pub none_yet : (l : LineData) (route : List ℕ) (period : ℕ) (starts hoists : List ℕ)
    → FitSoFar l route period starts hoists 0
none_yet l route period starts hoists = record {
  small = λ i lt. absurd (omega (arith, lt));
  hoist = λ c k m lt. absurd (omega (arith, lt));
  reach = λ c k m lt. absurd (omega (arith, lt));
}

pub fit_more : (l : LineData) (route : List ℕ) (period : ℕ) (starts hoists : List ℕ) (n h : ℕ) (m : Motion)
    → Seen l route n m → get_or starts n 0 ≤ 1000000000 → h ≡ get_or hoists n 0 → h < l.hoists
    → ReachesMotion l h m → FitSoFar l route period starts hoists n → FitSoFar l route period starts hoists (n + 1)
fit_more l route period starts hoists n h m seen early is there reaches so_far = record {
  small = λ i lt.
      ⊎_elim (λ below. so_far.small i below) (λ past. let e : get_or starts i 0 ≡ get_or starts n 0 = ap
      (λ j. get_or starts j 0) (omega (arith, lt, past)) in omega (arith, e, early)) (cases_lt i n);
  hoist = λ c k move lt.
      ⊎_elim
      (λ below. so_far.hoist c k move below)
      (λ past. let e : get_or hoists (move_number l c k) 0 ≡ get_or hoists n 0 = ap (λ j. get_or hoists j 0)
      (omega (arith, lt, past)) in omega (arith, e, is, there))
      (cases_lt (move_number l c k) n);
  reach = λ c k move lt.
      ⊎_elim
      (λ below. so_far.reach c k move below)
      (λ past.
      let number : move_number l c k ≡ n = omega (arith, lt, past) in
      let e : h ≡ get_or hoists (move_number l c k) 0 = is ∙ ap (λ j. get_or hoists j 0) (sym number) in
      let g : Given = record { carrier = c; step = k; ticks = 0 } in
      let d : m ≡ motion l (duties l route period starts hoists) c k = motion_at l route starts hoists period n m g seen move number in
      subst (λ (j : Motion). ReachesMotion l (get_or hoists (move_number l c k) 0) j) d (subst (λ (i : ℕ). ReachesMotion l i m) e reaches))
      (cases_lt (move_number l c k) n);
}

pub fit_all : (l : LineData) (route : List ℕ) (period : ℕ) (starts hoists : List ℕ) (n : ℕ) → IsRoute l route
    → 1 ≤ period → period ≤ 20000 → length starts ≡ move_count l → length hoists ≡ move_count l → n ≡ move_count l
    → FitSoFar l route period starts hoists n → AreMoves l route period starts hoists
fit_all l route period starts hoists n route_fits some few starts_fit hoists_fit all fit = record {
  route_fits = route_fits;
  period_fits = (some, few);
  start_count = starts_fit;
  start_small = λ i.
      ⊎_elim (λ inside. fit.small i (omega (arith, inside, starts_fit, all))) (λ past. let e : get_or starts i 0 ≡ 0 = get_or_past starts i 0 past in omega (arith, e)) (cases_lt i (length starts));
  hoist_count = hoists_fit;
  reach = record {
    hoist = λ c k move. fit.hoist c k move (below c k move);
    reach = λ c k move. fit.reach c k move (below c k move);
  };
}
  where
    below : (c k : ℕ) → IsMove l c k → move_number l c k < n
    below c k move = omega (arith, all, move_below l c k move)
