-- Each kind of step keeps the rule.
use Rattle.std.proofs.Common.{◌≡◌, ℕ, zero, suc, ◌+◌, ◌*◌, ◌^◌, ◌%◌, ◌<◌, ◌≤◌, ◌⊎◌, ◌↔◌, ◌||◌, List, [], ◌∷◌, ◌++◌, min, nat_lt, sum_by, count_by, slice_index, set, if◌then◌else◌, cond, refl, sym, ap, ◌∙◌, subst, arith, Bool, true, false, inl, inr, ⊎_elim, eqb, mul-le-mul_right}
use Rattle.std.proofs.Math.Nat.{mod-eq_of_lt}
use Rattle.std.proofs.lemmas.List.{length-append}
use Rattle.std.proofs.lemmas.Bool.{true≢false}
use Rattle.std.proofs.lemmas.Nat.{le_or_r}
use Rattle.std.specs.Int.Bits.{bit_or}
use prog.Atomic.{either}
use mathlib.Core.Option.{some, some-injective, some-ne-none}
use lib.ListN.{get_elem?}
use Rattle.atomic_table.proofs.Lists.{at_set, at_snoc, set_here, set_else, exchanged}
use Rattle.claim_board.specs.declared.rule.View.{View}
use Rattle.claim_board.specs.declared.rule.Plan.{Plan}
use Rattle.claim_board.specs.Tidy.{times, once_below}
use Rattle.claim_board.specs.Rule.{Rule, IsSound, IsSmall, Whole, first_view, view_read_stop, noted_stop, view_drew, view_drew_none, after_claim, with_stop, with_share, kept_part, given_part, joined_view, spent_view}
use Rattle.claim_board.specs.Steps.{StepsKeepRule}
use Rattle.claim_board.proofs.Counts.{get_or-there, sum_by-moved, sum_by-last, drawn, lists-sum, times-append, times-snoc, once_below-next, once_below-full, once_below-self, once_below-min, sum_by-below, times-few}

abbrev next_of : List ℕ → ℕ
next_of words = slice_index words 0

abbrev stop_of : List ℕ → ℕ
stop_of words = slice_index words 1

-- what a view says stays true when the words grow
sound_later : (plan : Plan) (next stop next' stop' : ℕ) (v : View) → next ≤ next' → (0 < stop → 0 < stop')
    → IsSound plan next stop v → IsSound plan next' stop' v
sound_later plan next stop next' stop' v later stays s =
    record {
      read_stop = λ e. stays (s.read_stop e);
      read_end = λ e. omega (arith, s.read_end e, later);
      few = s.few;
      set_stop = s.set_stop;
      spent = s.spent;
      n = s.n;
      workers = s.workers;
    }

-- what a step on one view may change
record Moves (plan : Plan) (next stop next' stop' : ℕ) (v w : View) : Type 0 where
  list : (x : ℕ) → times x w.list + once_below (min next plan.n) x ≡ times x v.list + once_below (min next' plan.n) x
  used : w.used + next ≡ v.used + next'
  left : w.left + w.used ≡ v.left + v.used
  flags : ((w.set_stop ≡ v.set_stop) × (stop' ≡ stop)) ⊎ ((w.set_stop ≡ true) × (0 < stop'))
  later : next ≤ next'
  stays : 0 < stop → 0 < stop'
  sound : IsSound plan next' stop' w

abbrev flag : View → ℕ
flag v = cond v.set_stop 1 0

-- the count of those who set `stop` follows the word
stop_moved : (c c' c0 stop stop' : ℕ) (a b : Bool) → c' + cond a 1 0 ≡ c + cond b 1 0 → c0 + cond a 1 0 ≡ c + 0
    → (0 < stop) ↔ (0 < c)
    → ((b ≡ a) × (stop' ≡ stop)) ⊎ ((b ≡ true) × (0 < stop')) → (0 < stop') ↔ (0 < c')
stop_moved c c' c0 stop stop' a b moved without both how =
    let number : Bool → ℕ = λ f. cond f 1 0 in
    ⊎_elim
    (λ same.
    let equal : number b ≡ number a = ap number same.0 in
    let there : c' ≡ c = omega (arith, moved, equal) in (
      (λ h. subst (λ n. 0 < n) (sym there) (both.0 (subst (λ n. 0 < n) same.1 h))),
      (λ h. subst (λ n. 0 < n) (sym same.1) (both.1 (subst (λ n. 0 < n) there h))),
    ))
    (λ now.
    let one : cond b 1 0 ≡ 1 = ap number now.0 in
    ((λ h. omega (arith, moved, without, one)), (λ h. now.1)))
    how

-- a step on one view that moves so keeps the rule
moved : (plan : Plan) (words : List ℕ) (views : List View) (id next' stop' : ℕ) (v w : View) → Rule plan words views
    → get_elem? views id ≡ some v
    → Moves plan (next_of words) (stop_of words) next' stop' v w → Rule plan (next' ∷ stop' ∷ []) (set views id w)
moved plan words views id next' stop' v w rule at m =
    let lefts = sum_by-moved (λ (u : View). u.left) views id v w at in
    let useds = sum_by-moved (λ (u : View). u.used) views id v w at in
    record {
      two_words = refl;
      small = rule.small;
      tidy = λ x. lists-sum x (set views id w) ∙ omega (arith, sum_by-moved (drawn x) views id v w at, sym (lists-sum x views) ∙ rule.tidy x, m.list x);
      counted = omega (arith, useds, rule.counted, m.used);
      all = omega (arith, lefts, useds, rule.all, m.left);
      stop_set = stop_moved _ _ _ _ _ v.set_stop w.set_stop (sum_by-moved flag views id v w at)
          (sum_by-moved flag views id v spent_view at) rule.stop_set m.flags;
      sound = λ k u e. ⊎_elim (λ t. subst (λ z. IsSound plan next' stop' z) t.1 m.sound)
          (λ t. sound_later _ _ _ _ _ u m.later m.stays (rule.sound k u t.1)) (at_set views id k w u e);
    }

-- a word that is written again
same_words : (plan : Plan) (words : List ℕ) (views : List View) → Rule plan words views
    → next_of words ∷ stop_of words ∷ [] ≡ words
same_words plan words views rule = sym rule.two_words

set_next : (plan : Plan) (words : List ℕ) (views : List View) (m : ℕ) → Rule plan words views
    → set words 0 m ≡ m ∷ stop_of words ∷ []
set_next plan words views m rule = ap (λ ws. set ws 0 m) rule.two_words

set_stop : (plan : Plan) (words : List ℕ) (views : List View) (m : ℕ) → Rule plan words views
    → set words 1 m ≡ next_of words ∷ m ∷ []
set_stop plan words views m rule = ap (λ ws. set ws 1 m) rule.two_words

-- a view that isn't spent and doesn't change what it says of itself
same_sound : (plan : Plan) (next stop : ℕ) (v : View) (share : ℕ) → IsSound plan next stop v → v.spent ≡ false
    → IsSound plan next stop (with_share v share)
same_sound plan next stop v share s live =
    record {
      read_stop = s.read_stop;
      read_end = s.read_end;
      few = s.few;
      set_stop = s.set_stop;
      spent = λ e. absurd (true≢false (sym e ∙ live));
      n = s.n;
      workers = s.workers;
    }

-- load of stop
noted_sound : (plan : Plan) (next stop : ℕ) (v : View) → IsSound plan next stop v → v.spent ≡ false
    → IsSound plan next stop (noted_stop v stop)
noted_sound plan next stop v s live = by_test (nat_lt 0 stop) refl where
  by_test : (b : Bool) → nat_lt 0 stop ≡ b → IsSound plan next stop (if b then view_read_stop v else v)
  by_test false e = s
  by_test true e =
      record {
        read_stop = λ _. grind (arith, e);
        read_end = s.read_end;
        few = s.few;
        set_stop = s.set_stop;
        spent = λ f. absurd (true≢false (sym f ∙ live));
        n = s.n;
        workers = s.workers;
      }

noted_moves : (plan : Plan) (next stop : ℕ) (v : View) → IsSound plan next stop v → v.spent ≡ false
    → Moves plan next stop next stop v (noted_stop v stop)
noted_moves plan next stop v s live =
    let sound = noted_sound plan next stop v s live in
    by_test (nat_lt 0 stop) sound where
      by_test : (b : Bool) → IsSound plan next stop (if b then view_read_stop v else v)
          → Moves plan next stop next stop v (if b then view_read_stop v else v)
      by_test true sound =
          record { list = λ x. refl; used = refl; left = refl; flags = inl (refl, refl); later = omega arith; stays = λ h. h; sound = sound }
      by_test false sound =
          record { list = λ x. refl; used = refl; left = refl; flags = inl (refl, refl); later = omega arith; stays = λ h. h; sound = sound }

pub load_keeps : (plan : Plan) (words : List ℕ) (views : List View) (id : ℕ) (v : View) → Rule plan words views
    → get_elem? views id ≡ some v → v.spent ≡ false
    → Rule plan (set words 1 (slice_index words 1)) (set views id (noted_stop v (slice_index words 1)))
load_keeps plan words views id v rule at live =
    subst (λ ws. Rule plan ws (set views id (noted_stop v (stop_of words)))) (sym (set_stop plan words views (stop_of words) rule))
    (moved plan words views id (next_of words) (stop_of words) v _ rule at (noted_moves plan _ _ v (rule.sound id v at) live))

-- claim: all claims are few, so the word doesn't wrap
all_small : (plan : Plan) → IsSmall plan → plan.workers * (plan.n + 1) ≤ 64 * (plan.n + 1)
all_small plan small = mul-le-mul_right (plan.n + 1) small.2

times-after : (x m : ℕ) (v : View) (n : ℕ) → v.n ≡ n
    → times x (after_claim v m).list + once_below (min m n) x ≡ times x v.list + once_below (min (m + 1) n) x
times-after x m v n same = by_test (nat_lt m v.n) refl where
  by_test : (b : Bool) → nat_lt m v.n ≡ b
      → times x (if b then view_drew v m else view_drew_none v).list + once_below (min m n) x ≡ times x v.list + once_below (min (m + 1) n) x
  by_test true e = let below : m < n = grind (arith, e, same) in omega (arith, times-snoc x m v.list, once_below-next x m n below)
  by_test false e = let above : n ≤ m = grind (arith, e, same) in omega (arith, once_below-full x m n above)

claim_sound : (plan : Plan) (next stop : ℕ) (v : View) → IsSound plan next stop v → v.spent ≡ false → v.n ≡ plan.n
    → IsSound plan (next + 1) stop (after_claim v next)
claim_sound plan next stop v s live same = by_test (nat_lt next v.n) refl where
  by_test : (b : Bool) → nat_lt next v.n ≡ b
      → IsSound plan (next + 1) stop (if b then view_drew v next else view_drew_none v)
  by_test true e =
      record {
        read_stop = s.read_stop;
        read_end = λ h. omega (arith, s.read_end h);
        few = omega (arith, length-append v.list (next ∷ []), s.few);
        set_stop = λ h. omega arith;
        spent = λ f. absurd (true≢false (sym f ∙ live));
        n = s.n;
        workers = s.workers;
      }
  by_test false e =
      record {
        read_stop = s.read_stop;
        read_end = λ h. grind (arith, e, same);
        few = omega (arith, s.few);
        set_stop = λ h. omega arith;
        spent = λ f. absurd (true≢false (sym f ∙ live));
        n = s.n;
        workers = s.workers;
      }

claim_moves : (plan : Plan) (next stop : ℕ) (v : View) → IsSound plan next stop v → v.spent ≡ false → v.n ≡ plan.n
    → 0 < v.left → Moves plan next stop (next + 1) stop v (after_claim v next)
claim_moves plan next stop v s live same some_left =
    let sound = claim_sound plan next stop v s live same in
    let list : (x : ℕ) → times x (after_claim v next).list + once_below (min next plan.n) x ≡ times x v.list + once_below (min (next + 1) plan.n) x = λ x. times-after x next v plan.n same in
    by_test (nat_lt next v.n) sound list where
      by_test : (b : Bool) → IsSound plan (next + 1) stop (if b then view_drew v next else view_drew_none v)
          → ((x : ℕ) → times x (if b then view_drew v next else view_drew_none v).list + once_below (min next plan.n) x
          ≡ times x v.list + once_below (min (next + 1) plan.n) x)
          → Moves plan next stop (next + 1) stop v (if b then view_drew v next else view_drew_none v)
      by_test true sound list =
          record {
            list = list;
            used = omega arith;
            left = omega (arith, some_left);
            flags = inl (refl, refl);
            later = omega arith;
            stays = λ h. h;
            sound = sound;
          }
      by_test false sound list =
          record {
            list = list;
            used = omega arith;
            left = omega (arith, some_left);
            flags = inl (refl, refl);
            later = omega arith;
            stays = λ h. h;
            sound = sound;
          }

-- so `next` doesn't wrap
pub claim_fits : (plan : Plan) (words : List ℕ) (views : List View) (id : ℕ) (v : View) → Rule plan words views
    → get_elem? views id ≡ some v → 0 < v.left → slice_index words 0 + 1 < 2 ^ 64
claim_fits plan words views id v rule at some_left =
    let lefts = sum_by-moved (λ (u : View). u.left) views id v spent_view at in
    omega (arith, lefts, rule.counted, rule.all, rule.small.0, all_small plan rule.small, some_left)

pub claim_keeps : (plan : Plan) (words : List ℕ) (views : List View) (id : ℕ) (v : View) → Rule plan words views
    → get_elem? views id ≡ some v → v.spent ≡ false → 0 < v.left
    → Rule plan (set words 0 ((slice_index words 0 + 1) % 2 ^ 64)) (set views id (after_claim v (slice_index words 0)))
claim_keeps plan words views id v rule at live some_left =
    let m : ℕ = next_of words in
    let s = rule.sound id v at in
    let fits : m + 1 < 2 ^ 64 = claim_fits plan words views id v rule at some_left in
    let next : (m + 1) % 2 ^ 64 ≡ m + 1 = mod-eq_of_lt fits in
    subst (λ ws. Rule plan ws (set views id (after_claim v m))) (sym (ap (λ k. set words 0 k) next ∙ set_next plan words views (m + 1) rule))
    (moved plan words views id (m + 1) (stop_of words) v _ rule at (claim_moves plan m (stop_of words) v s live (s.n live) some_left))

-- stop
stop_moves : (plan : Plan) (next stop : ℕ) (v : View) → IsSound plan next stop v → v.spent ≡ false → 0 < v.used
    → Moves plan next stop next (bit_or stop 1) v (with_stop v)
stop_moves plan next stop v s live some_used =
    let is_set : 0 < bit_or stop 1 = omega (arith, le_or_r stop 1) in
    record {
      list = λ x. refl;
      used = refl;
      left = refl;
      flags = inr (refl, is_set);
      later = omega arith;
      stays = λ h. is_set;
      sound = record {
        read_stop = λ h. is_set;
        read_end = s.read_end;
        few = s.few;
        set_stop = λ h. some_used;
        spent = λ f. absurd (true≢false (sym f ∙ live));
        n = s.n;
        workers = s.workers;
      };
    }

pub stop_keeps : (plan : Plan) (words : List ℕ) (views : List View) (id : ℕ) (v : View) → Rule plan words views
    → get_elem? views id ≡ some v → v.spent ≡ false → 0 < v.used
    → Rule plan (set words 1 (bit_or (slice_index words 1) 1)) (set views id (with_stop v))
stop_keeps plan words views id v rule at live some_used =
    subst (λ ws. Rule plan ws (set views id (with_stop v))) (sym (set_stop plan words views (bit_or (stop_of words) 1) rule))
    (moved plan words views id (next_of words) (bit_or (stop_of words) 1) v _ rule at (stop_moves plan _ _ v (rule.sound id v at) live some_used))

-- mark: a compare-exchange of a number by itself leaves the word
same_word : (m share : ℕ) → either (eqb m share) share m ≡ m
same_word m share = exchanged m share share (λ k. k ≡ m) sym (λ ne. refl)

share_moves : (plan : Plan) (next stop : ℕ) (v : View) (share : ℕ) → IsSound plan next stop v → v.spent ≡ false
    → Moves plan next stop next stop v (with_share v share)
share_moves plan next stop v share s live =
    record {
      list = λ x. refl;
      used = refl;
      left = refl;
      flags = inl (refl, refl);
      later = omega arith;
      stays = λ h. h;
      sound = same_sound plan next stop v share s live;
    }

pub mark_keeps : (plan : Plan) (words : List ℕ) (views : List View) (id : ℕ) (v : View) (share : ℕ)
    → Rule plan words views → get_elem? views id ≡ some v → v.spent ≡ false
    → Rule plan (set words 0 (either (eqb (slice_index words 0) share) share (slice_index words 0))) (set views id (with_share v share))
mark_keeps plan words views id v share rule at live =
    subst (λ ws. Rule plan ws (set views id (with_share v share)))
    (sym (ap (λ k. set words 0 k) (same_word (next_of words) share)
    ∙ set_next plan words views (next_of words) rule))
    (moved plan words views id (next_of words) (stop_of words) v _ rule at (share_moves plan _ _ v share (rule.sound id v at) live))

-- load of next: nothing changes
next_moves : (plan : Plan) (next stop : ℕ) (v : View) → IsSound plan next stop v → Moves plan next stop next stop v v
next_moves plan next stop v s =
    record { list = λ x. refl; used = refl; left = refl; flags = inl (refl, refl); later = omega arith; stays = λ h. h; sound = s }

pub next_keeps : (plan : Plan) (words : List ℕ) (views : List View) (id : ℕ) (v : View) → Rule plan words views
    → get_elem? views id ≡ some v
    → Rule plan (set words 0 (slice_index words 0)) (set views id v)
next_keeps plan words views id v rule at =
    subst (λ ws. Rule plan ws (set views id v)) (sym (set_next plan words views (next_of words) rule))
    (moved plan words views id (next_of words) (stop_of words) v _ rule at (next_moves plan _ _ v (rule.sound id v at)))

-- split
kept_sound : (plan : Plan) (next stop : ℕ) (v : View) → IsSound plan next stop v → v.spent ≡ false
    → IsSound plan next stop (kept_part v)
kept_sound plan next stop v s live =
    record {
      read_stop = s.read_stop;
      read_end = s.read_end;
      few = s.few;
      set_stop = s.set_stop;
      spent = λ e. absurd (true≢false (sym e ∙ live));
      n = s.n;
      workers = s.workers;
    }

given_sound : (plan : Plan) (next stop : ℕ) (v : View) → IsSound plan next stop v → v.spent ≡ false
    → IsSound plan next stop (given_part v)
given_sound plan next stop v s live =
    record {
      read_stop = λ e. absurd (true≢false (sym e));
      read_end = λ e. absurd (true≢false (sym e));
      few = omega arith;
      set_stop = λ e. absurd (true≢false (sym e));
      spent = λ e. absurd (true≢false (sym e));
      n = λ _. s.n live;
      workers = λ _. s.workers live;
    }

pub split_keeps : (plan : Plan) (words : List ℕ) (views : List View) (id : ℕ) (v : View) → Rule plan words views
    → get_elem? views id ≡ some v → v.spent ≡ false → v.share ≤ v.left
    → Rule plan words (set views id (kept_part v) ++ given_part v ∷ [])
split_keeps plan words views id v rule at live room =
    let w : View = kept_part v in
    let u : View = given_part v in
    let vs : List View = set views id w in
    let s = rule.sound id v at in
    let lefts = sum_by-moved (λ (z : View). z.left) views id v w at in
    let useds = sum_by-moved (λ (z : View). z.used) views id v w at in
    let flags : count_by (λ (z : View). z.set_stop) (vs ++ u ∷ []) ≡ count_by (λ (z : View). z.set_stop) views = omega (arith, sum_by-moved flag views id v w at, sum_by-last flag vs u) in
    record {
      two_words = rule.two_words;
      small = rule.small;
      tidy = λ x. lists-sum x (vs ++ u ∷ []) ∙ omega (
        arith,
        sum_by-moved (drawn x) views id v w at,
        sum_by-last (drawn x) vs u,
        sym (lists-sum x views) ∙ rule.tidy x,
      );
      counted = omega (arith, useds, sum_by-last (λ (z : View). z.used) vs u, rule.counted);
      all = omega (arith, useds, sum_by-last (λ (z : View). z.used) vs u, lefts, sum_by-last (λ (z : View). z.left) vs u, rule.all, room);
      stop_set = ((λ h. subst (λ k. 0 < k) (sym flags) (rule.stop_set.0 h)), (λ h. rule.stop_set.1 (subst (λ k. 0 < k) flags h)));
      sound = λ k z e. ⊎_elim
          (λ old. ⊎_elim (λ t. subst (λ y. IsSound plan (next_of words) (stop_of words) y) t.1
          (kept_sound plan _ _ v s live)) (λ t. rule.sound k z t.1) (at_set views id k w z old))
          (λ new. subst (λ y. IsSound plan (next_of words) (stop_of words) y) new (given_sound plan _ _ v s live))
          (at_snoc vs u z k e);
    }

-- join
either_note : (a b : Bool) → (a || b) ≡ true → (a ≡ true) ⊎ (b ≡ true)
either_note true b e = inl refl
either_note false b e = inr e

-- a joined view has a note exactly where one of the two had it
note_joined : (a b : Bool)
    → (cond (a || b) 1 0 ≤ cond a 1 0 + cond b 1 0) × (cond a 1 0 ≤ cond (a || b) 1 0) × (cond b 1 0 ≤ cond (a || b) 1 0)
note_joined true true = (omega arith, omega arith, omega arith)
note_joined true false = (omega arith, omega arith, omega arith)
note_joined false true = (omega arith, omega arith, omega arith)
note_joined false false = (omega arith, omega arith, omega arith)

joined_sound : (plan : Plan) (next stop : ℕ) (v w : View) → IsSound plan next stop v → IsSound plan next stop w
    → v.spent ≡ false → IsSound plan next stop (joined_view v w)
joined_sound plan next stop v w s t live =
    record {
      read_stop = λ e. ⊎_elim s.read_stop t.read_stop (either_note v.read_stop w.read_stop e);
      read_end = λ e. ⊎_elim s.read_end t.read_end (either_note v.read_end w.read_end e);
      few = omega (arith, length-append v.list w.list, s.few, t.few);
      set_stop = λ e. ⊎_elim (λ h. omega (arith, s.set_stop h)) (λ h. omega (arith, t.set_stop h)) (either_note v.set_stop w.set_stop e);
      spent = λ e. absurd (true≢false (sym e ∙ live));
      n = s.n;
      workers = s.workers;
    }

spent_sound : (plan : Plan) (next stop : ℕ) → IsSound plan next stop spent_view
spent_sound plan next stop =
    record {
      read_stop = λ e. absurd (true≢false (sym e));
      read_end = λ e. absurd (true≢false (sym e));
      few = omega arith;
      set_stop = λ e. absurd (true≢false (sym e));
      spent = λ e. record { list = refl; left = refl; used = refl; read_stop = refl; set_stop = refl; read_end = refl };
      n = λ e. absurd (true≢false e);
      workers = λ e. absurd (true≢false e);
    }

pub join_keeps : (plan : Plan) (words : List ℕ) (views : List View) (id other : ℕ) (v w : View) → Rule plan words views
    → get_elem? views id ≡ some v → v.spent ≡ false → ¬ (other ≡ id)
    → get_elem? (set views id (joined_view v w)) other ≡ some w
    → Rule plan words (set (set views id (joined_view v w)) other spent_view)
join_keeps plan words views id other v w rule at live apart there =
    let b : View = joined_view v w in
    let vs : List View = set views id b in
    let end : List View = set vs other spent_view in
    let at_other : get_elem? views other ≡ some w = ⊎_elim (λ t. absurd (apart t.0)) (λ t. t.1) (at_set views id other b w there) in
    let at_end : get_elem? end id ≡ some b = set_else vs other id spent_view (λ e. apart (sym e)) ∙ set_here views id b (get_or-there views id v at).0 in
    let note = note_joined v.set_stop w.set_stop in
    let first = sum_by-moved flag views id v b at in
    let second = sum_by-moved flag vs other w spent_view there in
    let has_b = sum_by-moved flag end id b spent_view at_end in
    let has_v = sum_by-moved flag views id v spent_view at in
    let has_w = sum_by-moved flag views other w spent_view at_other in
    let flags : (0 < sum_by flag views) ↔ (0 < sum_by flag end) = (
      (λ h. omega (
        arith,
        note.0,
        note.1,
        note.2,
        first,
        second,
        has_b,
        h,
      )),
      (λ h. omega (arith, note.0, note.1, note.2, first, second, has_v, has_w, h)),
    ) in
    record {
      two_words = rule.two_words;
      small = rule.small;
      tidy = λ x. lists-sum x end ∙ omega (
        arith,
        sum_by-moved (drawn x) views id v b at,
        sum_by-moved (drawn x) vs other w spent_view there,
        times-append x v.list w.list,
        sym (lists-sum x views)
            ∙ rule.tidy x,
      );
      counted = omega (
        arith,
        sum_by-moved (λ (z : View). z.used) views id v b at,
        sum_by-moved (λ (z : View). z.used) vs other w spent_view there,
        rule.counted,
      );
      all = omega (
        arith,
        sum_by-moved (λ (z : View). z.used) views id v b at,
        sum_by-moved (λ (z : View). z.used) vs other w spent_view there,
        sum_by-moved (λ (z : View). z.left) views id v b at,
        sum_by-moved (λ (z : View). z.left) vs other w spent_view there,
        rule.all,
      );
      stop_set = ((λ h. flags.0 (rule.stop_set.0 h)), (λ h. rule.stop_set.1 (flags.1 h)));
      sound = λ k z e. ⊎_elim (λ t. subst (λ y. IsSound plan (next_of words) (stop_of words) y) t.1 (spent_sound plan _ _))
          (λ t. ⊎_elim (λ t'. subst (λ y. IsSound plan (next_of words) (stop_of words) y) t'.1
          (joined_sound plan _ _ v w (rule.sound id v at) (rule.sound other w at_other) live))
          (λ t'. rule.sound k z t'.1) (at_set views id k b z t.1))
          (at_set vs other k spent_view z e);
    }

-- the number that a claim finds was not drawn by this seat
pub found_is_new : (plan : Plan) (words : List ℕ) (views : List View) (id : ℕ) (v : View) → Rule plan words views
    → get_elem? views id ≡ some v → times (slice_index words 0) v.list ≡ 0
found_is_new plan words views id v rule at =
    let m : ℕ = next_of words in
    omega (arith, sum_by-moved (drawn m) views id v spent_view at, sym (lists-sum m views) ∙ rule.tidy m, once_below-self m plan.n)

-- the seat that has all claims drew each number
pub all_drawn : (plan : Plan) (words : List ℕ) (views : List View) (id : ℕ) (v : View) (x : ℕ) → Rule plan words views
    → get_elem? views id ≡ some v → v.left + v.used ≡ plan.workers * (plan.n + 1)
    → times x v.list ≡ once_below (min (slice_index words 0) plan.n) x
all_drawn plan words views id v x rule at all =
    let vs : List View = set views id spent_view in
    let lefts = sum_by-moved (λ (z : View). z.left) views id v spent_view at in
    let useds = sum_by-moved (λ (z : View). z.used) views id v spent_view at in
    let each : (k : ℕ) (z : View) → get_elem? vs k ≡ some z → drawn x z ≤ z.used =
    λ k z e. ⊎_elim (λ t. subst (λ (y : View). drawn x y ≤ y.used) t.1 (omega arith))
    (λ t. omega (arith, times-few x z.list, (rule.sound k z t.1).few)) (at_set views id k spent_view z e) in
    let below = sum_by-below (drawn x) (λ (z : View). z.used) vs each in
    omega (arith, lefts, useds, sum_by-moved (drawn x) views id v spent_view at, below, rule.all, all, sym (lists-sum x views) ∙ rule.tidy x)

-- and then `next` is what it used
pub all_used : (plan : Plan) (words : List ℕ) (views : List View) (id : ℕ) (v : View) → Rule plan words views
    → get_elem? views id ≡ some v → v.left + v.used ≡ plan.workers * (plan.n + 1) → slice_index words 0 ≡ v.used
all_used plan words views id v rule at all =
    let lefts = sum_by-moved (λ (z : View). z.left) views id v spent_view at in
    let useds = sum_by-moved (λ (z : View). z.used) views id v spent_view at in
    omega (arith, lefts, useds, rule.all, all, rule.counted)

pub is_whole : (plan : Plan) (words : List ℕ) (views : List View) (id : ℕ) (v : View) → Rule plan words views
    → get_elem? views id ≡ some v → v.spent ≡ false → Whole v
is_whole plan words views id v rule at live ended all x =
    let s = rule.sound id v at in
    let n = s.n live in
    let all' : v.left + v.used ≡ plan.workers * (plan.n + 1) = all ∙ (λ k. s.workers live k * (n k + 1)) in
    all_drawn plan words views id v x rule at all' ∙ once_below-min x (next_of words) plan.n (s.read_end ended) ∙ ap (λ k. once_below k x) (sym n)

claim_live : (v : View) (m : ℕ) → v.spent ≡ false → (after_claim v m).spent ≡ false
claim_live v m live = by_test (nat_lt m v.n) where
  by_test : (b : Bool) → (if b then view_drew v m else view_drew_none v).spent ≡ false
  by_test true = live
  by_test false = live

pub claim_whole : (plan : Plan) (words : List ℕ) (views : List View) (id : ℕ) (v : View) → Rule plan words views
    → get_elem? views id ≡ some v → v.spent ≡ false → 0 < v.left
    → Whole (after_claim v (slice_index words 0))
claim_whole plan words views id v rule at live some_left =
    is_whole plan _ (set views id (after_claim v (slice_index words 0))) id _
    (claim_keeps plan words views id v rule at live some_left) (set_here views id _ (get_or-there views id v at).0)
    (claim_live v _ live)

-- the word that was read is the first
pub word_is : (words : List ℕ) (next : ℕ) → get_elem? words 0 ≡ some next → slice_index words 0 ≡ next
word_is [] next e = absurd (some-ne-none next (sym e))
word_is (w ∷ ws) next e = some-injective w next e

make_keeps : (plan : Plan) → IsSmall plan → Rule plan (0 ∷ 0 ∷ []) (first_view plan ∷ [])
make_keeps plan small =
    record {
      two_words = refl;
      small = small;
      tidy = λ x. grind arith;
      counted = refl;
      all = omega arith;
      stop_set = ((λ h. absurd (omega (arith, h))), (λ h. absurd (omega (arith, h))));
      sound = λ k v e. one_view k v e;
    }
  where
    one_view : (k : ℕ) (v : View) → get_elem? (first_view plan ∷ []) k ≡ some v → IsSound plan 0 0 v
    one_view zero v e =
        subst (λ y. IsSound plan 0 0 y) (some-injective (first_view plan) v e) record {
          read_stop = λ e. absurd (true≢false (sym e));
          read_end = λ e. absurd (true≢false (sym e));
          few = omega arith;
          set_stop = λ e. absurd (true≢false (sym e));
          spent = λ e. absurd (true≢false (sym e));
          n = λ _. refl;
          workers = λ _. refl;
        }
    one_view (suc k) v e = absurd (some-ne-none v (sym e))

-- where all claims are left, no claim was used, so nobody has set `stop`
none_used : (plan : Plan) (words : List ℕ) (views : List View) (id : ℕ) (v : View) → Rule plan words views
    → get_elem? views id ≡ some v → v.left ≡ plan.workers * (plan.n + 1)
    → (slice_index words 0 ≡ 0) × (slice_index words 1 ≡ 0)
none_used plan words views id v rule at all =
    let used : sum_by (λ (z : View). z.used) views ≡ 0 = omega (arith, sum_by-moved (λ (u : View). u.left) views id v spent_view at, rule.all, all) in
    let flags : sum_by flag views ≤ sum_by (λ (z : View). z.used) views = sum_by-below flag (λ (z : View). z.used) views
    (λ k z e. flag_used z.set_stop z.used (rule.sound k z e).set_stop) in
    (omega (arith, used, rule.counted), zero_unless _ (λ h. omega (arith, rule.stop_set.0 h, flags, used)))
  where
    flag_used : (b : Bool) (used : ℕ) → (b ≡ true → 0 < used) → cond b 1 0 ≤ used
    flag_used true used h = omega (arith, h refl)
    flag_used false used h = omega arith

    zero_unless : (m : ℕ) → (0 < m → ⊥) → m ≡ 0
    zero_unless zero never = refl
    zero_unless (suc m) never = absurd (never (omega arith))

pub steps_keep_rule : StepsKeepRule
steps_keep_rule =
    record {
      make = make_keeps;
      load_stop = λ plan words views id v s. subst (λ ws. Rule plan ws
          (set views id (noted_stop v (slice_index words 1))))
          (set_stop plan words views (stop_of words) s.rule ∙ sym s.rule.two_words)
          (load_keeps plan words views id v s.rule s.there s.live);
      claim = λ plan words views id v s left. let fits = claim_fits plan words views id v s.rule s.there left in (
        fits,
        subst (λ k. Rule plan (set words 0 k) (set views id (after_claim v (slice_index words 0))))
            (mod-eq_of_lt fits) (claim_keeps plan words views id v s.rule s.there s.live left),
        claim_whole plan words views id v s.rule s.there s.live left,
      );
      stop = λ plan words views id v s used. stop_keeps plan words views id v s.rule s.there s.live used;
      mark = λ plan words views id v share s. subst (λ ws. Rule plan ws (set views id (with_share v share)))
          (ap (λ k. set words 0 k) (same_word (next_of words) share) ∙ set_next plan words views (next_of words) s.rule
          ∙ sym s.rule.two_words) (mark_keeps plan words views id v share s.rule s.there s.live);
      split = λ plan words views id v s room. split_keeps plan words views id v s.rule s.there s.live room;
      join = λ plan words views id other v w s t apart. join_keeps plan words views id other v w s.rule s.there s.live
          apart (set_else views id other (joined_view v w) apart ∙ t.there);
      load_next = λ plan words views id v s. is_whole plan words views id v s.rule s.there s.live;
      close = λ plan words views id v s all. (all_used plan words views id v s.rule s.there all, λ x. all_drawn plan words views id v x s.rule s.there all);
      untouched = λ plan words views id v s all. none_used plan words views id v s.rule s.there all;
    }
