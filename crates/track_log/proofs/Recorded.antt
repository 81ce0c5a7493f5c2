-- What a driver orders, as a log of the line.
use Rattle.std.proofs.Common.{◌≡◌, ℕ, ◌+◌, ◌-◌, ◌≤◌, ◌<◌, Option, None, Some, IfSome, List, ◌∷◌, ◌++◌, map, length, get_or, drop, codes, decimal, append_assoc, All, ⊎_elim, sym, refl, ap, subst, ◌∙◌, arith}
use Rattle.std.specs.Prelude.{flat_map}
use Rattle.std.specs.List.{range_with_len}
use Rattle.std.proofs.lemmas.Bool.{cases_eq}
use Rattle.std.proofs.lemmas.List.{flat_map_more, drop_more, drop_all, append-nil}
use Rattle.std.proofs.lemmas.List.Elements.{All-map, All-from_get_or}
use Rattle.std.proofs.lemmas.List.FromFn.{fill_by_all, length-range_with_len, get_or-range_with_len, length-map-range_with_len, get_or-map-range_with_len, map-range_with_len_more}
use Rattle.hoist_base.specs.LineData.{LineData}
use Rattle.hoist_base.specs.Valid.{IsLine}
use Rattle.tick_machine.specs.declared.order.Go.{Go}
use Rattle.tick_machine.specs.declared.order.Go.TheVariants.{Stay}
use Rattle.tick_machine.specs.declared.order.Order.{Order}
use Rattle.tick_machine.specs.Layout.{layout_of}
use Rattle.tick_machine.specs.Rules.{AreApart}
use Rattle.tick_machine.specs.Scene.{Command, command_of, IsSizedOrder}
use Rattle.text_writing.specs.Texts.{end}
use Rattle.track_log.specs.Logs.{TickLine, FitsTick, IsLog, idle, tick_line, most_ticks, most_position, position_text, begin_front, begins_text, tick_text, log_text}
use Rattle.track_log.specs.Reading.{line_of}
use Rattle.track_log.specs.Following.{command}
use Rattle.track_log.specs.Recording.{line_to, lines_from, places_of, recorded, BeginsAtTanks, OrdersThere}

-- ---- one order

-- the line of an order that is sized is that of what it commands
pub line_is : (hoists : ℕ) (o : Order) (c : Command) → IsSizedOrder hoists o → command_of o ≡ c
    → line_of o ≡ line_to hoists c
line_is hoists o c sized same =
    let go = fill_by_all (λ h. get_or o.go.items h Stay) o.go.items hoists Stay sized.go (λ k lt. refl) in
    let begin = fill_by_all (λ h. get_or o.begin.items h None) o.begin.items hoists None sized.begin (λ k lt. refl) in
    ap (λ (xs : List Go). record { go = xs; off = o.off; put = o.put; begin = o.begin.items }) go
    ∙ ap (λ (ys : List (Option ℕ)). record { go = (line_to hoists (command_of o)).go; off = o.off; put = o.put; begin = ys }) begin
    ∙ ap (line_to hoists) same

-- what it commands is commanded of hoists that are there
pub command_is : (hoists : ℕ) (o : Order) (c : Command) → IsSizedOrder hoists o → command_of o ≡ c
    → command (line_to hoists c) ≡ c
command_is hoists o c sized same = ap command (sym (line_is hoists o c sized same)) ∙ same

-- ---- one more of a text

pub one_place : (old text new : List ℕ) (n : ℕ) (at : ℕ → ℕ) → text ≡ old ++ flat_map position_text (places_of n at)
    → new ≡ text ++ position_text (at n)
    → new ≡ old ++ flat_map position_text (places_of (n + 1) at)
one_place old text new n at before after =
    after ∙ ap (λ (t : List ℕ). t ++ position_text (at n)) before ∙ flat_map_more position_text old (places_of n at) (at n)
    ∙ ap (λ (xs : List ℕ). old ++ flat_map position_text xs) (sym (map-range_with_len_more at 0 n n (omega arith)))

pub one_line : (old text new : List ℕ) (hoists first n : ℕ) (orders : ℕ → Command) (x : TickLine)
    → text ≡ old ++ flat_map tick_text (lines_from hoists orders first n)
    → new ≡ text ++ tick_text x → x ≡ line_to hoists (orders (first + n))
    → new ≡ old ++ flat_map tick_text (lines_from hoists orders first (n + 1))
one_line old text new hoists first n orders x before after is =
    let lines = lines_from hoists orders first n in
    let next = line_to hoists (orders (first + n)) in
    after ∙ ap (λ (t : List ℕ). t ++ tick_text x) before ∙ ap (λ (y : TickLine). (old ++ flat_map tick_text lines) ++ tick_text y) is
    ∙ flat_map_more tick_text old lines next
    ∙ ap (λ (xs : List TickLine). old ++ flat_map tick_text xs) (sym (map-range_with_len_more (λ t. line_to hoists (orders t)) first n (first + n) refl))

-- one more tick at which all that is ordered is ordered of hoists that are there
pub one_there : (hoists first n : ℕ) (orders : ℕ → Command) → OrdersThere hoists orders first n
    → command (line_to hoists (orders (first + n))) ≡ orders (first + n) → OrdersThere hoists orders first (n + 1)
one_there hoists first n orders before here t from below =
    ⊎_elim (λ same. subst (λ (u : ℕ). command (line_to hoists (orders u)) ≡ orders u) (sym same) here) (λ other. before t from (omega (arith, below, other)))
    (cases_eq t (first + n))

-- ---- the begins, of which those from hoist h on are still to be written

pub no_begin : (text whole : List ℕ) (h : ℕ) (tanks : List (Option ℕ)) → h < length tanks → get_or tanks h None ≡ None
    → text ++ begins_text h (drop h tanks) ≡ whole → text ++ begins_text (h + 1) (drop (h + 1) tanks) ≡ whole
no_begin text whole h tanks lt none so =
    let step : begins_text h (drop h tanks) ≡ begins_text (h + 1) (drop (h + 1) tanks) =
    ap (begins_text h) (drop_more tanks h None lt) ∙ ap (λ (o : Option ℕ). begins_text h (o ∷ drop (h + 1) tanks)) none in
    ap (λ (t : List ℕ). text ++ t) (sym step) ∙ so

pub one_begin : (text new whole : List ℕ) (h tank : ℕ) (tanks : List (Option ℕ)) → h < length tanks
    → get_or tanks h None ≡ Some tank
    → new ≡ text ++ (begin_front h ++ decimal tank) → text ++ begins_text h (drop h tanks) ≡ whole
    → new ++ begins_text (h + 1) (drop (h + 1) tanks) ≡ whole
one_begin text new whole h tank tanks lt some after so =
    let rest = begins_text (h + 1) (drop (h + 1) tanks) in
    let step : begins_text h (drop h tanks) ≡ begin_front h ++ (decimal tank ++ rest) =
    ap (begins_text h) (drop_more tanks h None lt) ∙ ap (λ (o : Option ℕ). begins_text h (o ∷ drop (h + 1) tanks)) some in
    ap (λ (t : List ℕ). t ++ rest) after ∙ append_assoc text (begin_front h ++ decimal tank) rest
    ∙ ap (λ (t : List ℕ). text ++ t) (append_assoc (begin_front h) (decimal tank) rest) ∙ ap (λ (t : List ℕ). text ++ t) (sym step) ∙ so

pub all_begun : (text whole : List ℕ) (h : ℕ) (tanks : List (Option ℕ)) → length tanks ≤ h
    → text ++ begins_text h (drop h tanks) ≡ whole → text ≡ whole
all_begun text whole h tanks past so =
    sym (append-nil text) ∙ ap (λ (xs : List (Option ℕ)). text ++ begins_text h xs) (sym (drop_all h tanks past)) ∙ so

-- ---- the text

regroup : (a b c d e : List ℕ) → (((a ++ b) ++ c) ++ d) ++ e ≡ a ++ (b ++ (c ++ (d ++ e)))
regroup a b c d e = simp append_assoc

-- what is written part by part is the text of the log
pub text_is : (l : LineData) (first last hoists from to : ℕ) (at : ℕ → ℕ) (orders : ℕ → Command) (a b c d e : List ℕ)
    → hoists ≡ l.hoists → from ≡ first → to ≡ last
    → a ≡ codes "hoist log 1\nat" → b ≡ a ++ flat_map position_text (places_of hoists at) → c ≡ b ++ end
    → d ≡ c ++ flat_map tick_text (lines_from hoists orders from (to - from + 1)) → e ≡ d ++ codes "end\n"
    → e ≡ log_text (recorded l.hoists at orders first last)
text_is l first last hoists from to at orders a b c d e count starts ends ia ib ic id ie =
    let head = codes "hoist log 1\nat" in
    let places = flat_map position_text (places_of l.hoists at) in
    let lines = flat_map tick_text (lines_from l.hoists orders first (last - first + 1)) in
    let one : b ≡ head ++ places =
    ib ∙ ap (λ (t : List ℕ). t ++ flat_map position_text (places_of hoists at)) ia ∙ ap (λ (n : ℕ). head ++ flat_map position_text (places_of n at)) count in
    let two : c ≡ (head ++ places) ++ end = ic ∙ ap (λ (t : List ℕ). t ++ end) one in
    let all : flat_map tick_text (lines_from hoists orders from (to - from + 1)) ≡ lines =
    ap (λ (n : ℕ). flat_map tick_text (lines_from n orders from (to - from + 1))) count
    ∙ ap (λ (n : ℕ). flat_map tick_text (lines_from l.hoists orders n (to - n + 1))) starts
    ∙ ap (λ (n : ℕ). flat_map tick_text (lines_from l.hoists orders first (n - first + 1))) ends in
    let three : d ≡ ((head ++ places) ++ end) ++ lines =
    id ∙ ap (λ (t : List ℕ). t ++ flat_map tick_text (lines_from hoists orders from (to - from + 1))) two
    ∙ ap (λ (t : List ℕ). ((head ++ places) ++ end) ++ t) all in
    ie ∙ ap (λ (t : List ℕ). t ++ codes "end\n") three ∙ regroup head places end lines (codes "end\n")

-- ---- the log

all_numbers : (P : ℕ → Type 0) (a n : ℕ) → ((i : ℕ) → a ≤ i → i < a + n → P i) → All P (range_with_len a n)
all_numbers P a n holds =
    All-from_get_or P (range_with_len a n) 0 (λ i lt.
    let below : i < n = omega (arith, lt, length-range_with_len a n) in
    subst P (sym (get_or-range_with_len a n i 0 below)) (holds (a + i) (omega arith) (omega (arith, below))))

all_of : {A : Type 0} (P : A → Type 0) (f : ℕ → A) (a n : ℕ) → ((i : ℕ) → a ≤ i → i < a + n → P (f i))
    → All P (map f (range_with_len a n))
all_of {A = A} P f a n holds = All-map P f (range_with_len a n) (all_numbers (λ i. P (f i)) a n holds)

-- the line of tick t of the log
pub line_at : (hoists first last t : ℕ) (at : ℕ → ℕ) (orders : ℕ → Command) → first ≤ last → first + t ≤ last
    → tick_line (recorded hoists at orders first last).ticks t ≡ line_to hoists (orders (first + t))
line_at hoists first last t at orders order le =
    get_or-map-range_with_len (λ u. line_to hoists (orders u)) first (last - first + 1) t (first + t) idle (omega (arith, order, le)) refl

pub place_at : (hoists h : ℕ) (at : ℕ → ℕ) → h < hoists → get_or (places_of hoists at) h 0 ≡ at h
place_at hoists h at lt = get_or-map-range_with_len at 0 hoists h h 0 lt (omega arith)

pub ticks_are : (hoists first last : ℕ) (at : ℕ → ℕ) (orders : ℕ → Command)
    → length (recorded hoists at orders first last).ticks ≡ last - first + 1
ticks_are hoists first last at orders = length-map-range_with_len (λ u. line_to hoists (orders u)) first (last - first + 1)

pub is_log : (l : LineData) (first last : ℕ) (at : ℕ → ℕ) (orders : ℕ → Command) → IsLine l → first ≤ last
    → last - first < most_ticks → AreApart (layout_of l) at
    → ((h : ℕ) → h < l.hoists → (orders first).go h ≡ Stay) → BeginsAtTanks l orders first last
    → IsLog l (recorded l.hoists at orders first last)
is_log l first last at orders line order few apart still tanks =
    let n = l.hoists in
    let ticks = (recorded n at orders first last).ticks in
    let count = ticks_are n first last at orders in
    let begun : tick_line ticks 0 ≡ line_to n (orders first) =
    line_at n first last 0 at orders order (omega (arith, order)) ∙ (let e : first + 0 ≡ first = omega arith in ap (λ (t : ℕ). line_to n (orders t)) e) in
    record {
      hoists = length-map-range_with_len at 0 n;
      positions = all_of (λ x. x ≤ most_position) at 0 n (λ h from to. let w = apart.within h (omega (arith, to)) in omega (arith, w, line.limits.track.1));
      some = omega (arith, count);
      few = omega (arith, count, few);
      ticks = all_of (FitsTick l) (λ t. line_to n (orders t)) first (last - first + 1) (λ t from to. record {
        go = length-map-range_with_len (orders t).go 0 n;
        begin = length-map-range_with_len (orders t).begin 0 n;
        tanks = all_of (λ b. IfSome b (λ tank. tank < length l.tanks)) (orders t).begin 0 n
            (λ h a b. tanks t h from (omega (arith, to, order)) (omega (arith, b)));
      });
      still = subst (λ (x : TickLine). All (λ go. go ≡ Stay) x.go) (sym begun)
          (all_of (λ go. go ≡ Stay) (orders first).go 0 n (λ h a b. still h (omega (arith, b))));
    }
