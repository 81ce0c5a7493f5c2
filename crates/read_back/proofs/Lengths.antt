-- How long the text of an answer is at most.
use Rattle.std.proofs.Common.{⊎_elim, Bool, true, false, ◌≡◌, ℕ, ℤ, zero, suc, ◌+◌, ◌*◌, ◌<◌, ◌≤◌, List, [], ◌∷◌, ◌++◌, length, get_or, codes, decimal, Option, Some, None, All, MatchOption, pos, negsuc, refl, ap, subst, arith, length-append}
use Rattle.std.specs.Prelude.{⊤, not, flat_map, unsigned_abs, nat_lt, if◌then◌else◌, ◌==◌}
use Rattle.std.specs.Fmt.{signed_decimal}
use Rattle.std.specs.List.{range_with_len}
use Rattle.std.proofs.lemmas.Bool.{cases_lt}
use Rattle.std.proofs.lemmas.Fmt.{length-decimal-le, length_signed_le}
use Rattle.std.proofs.lemmas.List.{get_or_past}
use Rattle.std.proofs.lemmas.List.Concat.{length-flat_map}
use Rattle.std.proofs.lemmas.List.FromFn.{length-range_with_len}
use Rattle.std.proofs.lemmas.List.Sums.{sum_by-le, prefix_len-le-length}
use Rattle.std.proofs.lemmas.List.Elements.{All-nil, All-cons, All-weaker}
use Rattle.hoist_base.specs.LineData.{LineData, is_single, stage, last_stage}
use Rattle.hoist_base.specs.Valid.{IsLine}
use Rattle.timetable.specs.TimetableData.{TimetableData, timetable_of, IsTimetableOf}
use Rattle.choice_tree.specs.declared.constraint.Constraint.{Constraint}
use Rattle.choice_tree.specs.declared.constraint.Constraint.TheVariants.{Min, Max, Entry, Visit, Repeat, Decided}
use Rattle.choice_tree.specs.declared.question.Question.{Question}
use Rattle.choice_tree.specs.declared.question.Question.TheVariants.{Assign, TankOrder, HoistOrder, Choose}
use Rattle.choice_tree.specs.declared.node.Node.{Node}
use Rattle.choice_tree.specs.declared.node.Node.TheVariants.{Split, Closed, Stuck, Solved, Left}
use Rattle.choice_tree.specs.Nodes.{node_at, children_of}
use Rattle.choice_tree.specs.Trees.{IsTree, preorder}
use Rattle.text_writing.specs.Texts.{end, pair_text}
use Rattle.answer_text.specs.declared.answer.Verdict.{Verdict}
use Rattle.answer_text.specs.declared.answer.Verdict.TheVariants.{Optimal, Nothing, Unfinished}
use Rattle.answer_text.specs.declared.answer.Answer.{Answer}
use Rattle.answer_text.specs.declared.words.TokenKind.TheVariants as tokens
use Rattle.answer_text.specs.Words.{token_word, version_text, verdict_text}
use Rattle.answer_text.specs.Fields.{token_text, walk_text, IsToken, IsWalk}
use Rattle.answer_text.specs.Nodes.{question_text, high_text, closed_text, stuck_text, left_text, node_text, tree_text, IsQuestionText, IsWalkOr, AreWalks, IsStuckText, IsNodeText}
use Rattle.answer_text.specs.Tables.{carrier_line, choice_number, choice_line, move_line, path_line, each_below, table_text, timetable_text}
use Rattle.answer_text.specs.Answers.{HasSmallPath}
use Rattle.answer_text.proofs.OrderLemmas.{preorder_there}
use Rattle.answer_read.specs.Answers.{IsAnswer}
use Rattle.answer_read.proofs.Orders.{Visits, visits_all}
use Rattle.cert_checker.specs.Reasons.{is_split, split_count}
use Rattle.read_back.specs.Laws.{TextIsShort}
use Rattle.read_back.proofs.Counts.{weigh, unit, splits_weighed}

-- ---- parts

digits : (n : ℕ) → n ≤ 1000000000 → length (decimal n) ≤ 10
digits n le = length-decimal-le 10 n (omega arith) (omega (arith, le)) (omega (arith, le))

pair_short : (c k : ℕ) → c ≤ 1000000000 → k ≤ 1000000000 → length (pair_text c k) ≤ 21
pair_short c k le small =
    omega (arith, length-append (decimal c) (codes " " ++ decimal k), length-append (codes " ") (decimal k), digits c le, digits k small)

pieces : {X : Type 0} (f : X → List ℕ) (m : ℕ) (xs : List X) → All (λ x. length (f x) ≤ m) xs
    → length (flat_map f xs) ≤ length xs * m
pieces f m xs h = omega (arith, length-flat_map f xs, sum_by-le (λ x. length (f x)) m xs h)

all_range : (P : ℕ → Type 0) (a n : ℕ) → ((k : ℕ) → a ≤ k → k < a + n → P k) → All P (range_with_len a n)
all_range P a zero h = All-nil P
all_range P a (suc n) h =
    All-cons P a (range_with_len (a + 1) n) (h a (omega arith) (omega arith)) (all_range P (a + 1) n (λ k le lt. h k (omega (arith, le)) (omega (arith, lt))))

each_short : (count most m : ℕ) (line : ℕ → List ℕ) → count ≤ most → ((k : ℕ) → k < count → length (line k) ≤ m)
    → length (each_below count line) ≤ count * m
each_short count most m line few h =
    let range = range_with_len 0 count in
    let le = pieces line m range (all_range (λ k. length (line k) ≤ m) 0 count (λ k low lt. h k (omega (arith, lt)))) in
    let size = length-range_with_len 0 count in
    le_at (length range) count m (length (flat_map line range)) size le
  where
    le_at : (n k m size : ℕ) → n ≡ k → size ≤ n * m → size ≤ k * m
    le_at n k m size e le = let P : ℕ → Type 0 = λ j. size ≤ j * m in subst P e le

-- ---- walks

token_short : (t : Constraint) → IsToken t → length (token_text t) ≤ 24
token_short (Min c k) f =
    omega (arith, length-append (token_word tokens.Min) (pair_text c k), pair_short c k (omega (arith, f.0)) (omega (arith, f.1)))
token_short (Max c k) f =
    omega (arith, length-append (token_word tokens.Max) (pair_text c k), pair_short c k (omega (arith, f.0)) (omega (arith, f.1)))
token_short (Entry c) f = omega (arith, length-append (token_word tokens.Entry) (decimal c), digits c (omega (arith, f)))
token_short (Visit c k) f =
    omega (arith, length-append (token_word tokens.Visit) (pair_text c k), pair_short c k (omega (arith, f.0)) (omega (arith, f.1)))
token_short (Repeat c k) f =
    omega (arith, length-append (token_word tokens.Repeat) (pair_text c k), pair_short c k (omega (arith, f.0)) (omega (arith, f.1)))
token_short (Decided i) f = omega (arith, length-append (token_word tokens.Decided) (decimal i), digits i (omega (arith, f)))

walk_short : (walk : List Constraint) → IsWalk walk → length (walk_text walk) ≤ 24010
walk_short walk f =
    omega (
      arith,
      length-append (decimal (length walk)) (flat_map token_text walk),
      digits (length walk) (omega (arith, f.few)),
      pieces token_text 24 walk (All-weaker IsToken (λ t. length (token_text t) ≤ 24) token_short walk f.tokens),
      f.few,
    )

walk_line_short : (walk : List Constraint) → IsWalk walk → length (walk_text walk ++ end) ≤ 24011
walk_line_short walk f = omega (arith, length-append (walk_text walk) end, walk_short walk f)

-- ---- nodes

high_short : (high : Option (List Constraint)) → IsWalkOr high → length (high_text high) ≤ 24020
high_short None f = omega arith
high_short (Some high) f = omega (arith, length-append (codes " high ") (walk_text high ++ end), walk_line_short high f)

closed_short : (low high : Option (List Constraint)) → AreWalks low high → length (closed_text low high) ≤ 48040
closed_short None None f = absurd f
closed_short None (Some high) f = omega (arith, high_short (Some high) f)
closed_short (Some low) high f =
    omega (
      arith,
      length-append (codes " low ") (walk_text low ++ high_text high),
      length-append (walk_text low) (high_text high),
      walk_short low f.0,
      high_short high f.1,
    )

shift_short : (q : ℤ) → unsigned_abs q ≤ 1000000000 → length (signed_decimal q) ≤ 11
shift_short (pos n) le = length_signed_le 10 (pos n) (omega (arith, le)) (omega (arith, le))
shift_short (negsuc n) le = length_signed_le 10 (negsuc n) (omega (arith, le)) (omega (arith, le))

counted_short : (c k n : ℕ) → c ≤ 1000000000 → k ≤ 1000000000 → n ≤ 1000000000
    → length (pair_text c k ++ (codes " " ++ (decimal n ++ end))) ≤ 40
counted_short c k n a b d =
    omega (
      arith,
      length-append (pair_text c k) (codes " " ++ (decimal n ++ end)),
      length-append (codes " ") (decimal n ++ end),
      length-append (decimal n) end,
      pair_short c k a b,
      digits n d,
    )

order_short : (c k d m : ℕ) (q : ℤ) → c ≤ 1000000000 → k ≤ 1000000000 → d ≤ 1000000000 → m ≤ 1000000000
    → unsigned_abs q ≤ 1000000000
    → length (pair_text c k ++ (codes " " ++ (pair_text d m ++ (codes " " ++ (signed_decimal q ++ end))))) ≤ 60
order_short c k d m q a b e f g =
    omega (
      arith,
      length-append (pair_text c k) (codes " " ++ (pair_text d m ++ (codes " " ++ (signed_decimal q ++ end)))),
      length-append (codes " ") (pair_text d m ++ (codes " " ++ (signed_decimal q ++ end))),
      length-append (pair_text d m) (codes " " ++ (signed_decimal q ++ end)),
      length-append (codes " ") (signed_decimal q ++ end),
      length-append (signed_decimal q) end,
      pair_short c k a b,
      pair_short d m e f,
      shift_short q g,
    )

question_short : (single : Bool) (question : Question) (n : ℕ) → IsQuestionText single question n
    → length (question_text question n) ≤ 80
question_short single (Choose v) n f =
    omega (
      arith,
      length-append (codes "choose ") (pair_text v.carrier v.stage ++ (codes " " ++ (decimal n ++ end))),
      counted_short v.carrier v.stage n (omega (arith, f.1.0)) (omega (arith, f.1.1)) (omega (arith, f.2)),
    )
question_short single (TankOrder a b q) n f =
    omega (
      arith,
      length-append (codes "tank ") (pair_text a.carrier a.stage ++ (codes " " ++ (pair_text b.carrier b.stage ++ (codes " " ++ (signed_decimal q ++ end))))),
      order_short a.carrier a.stage b.carrier b.stage q (omega (arith, f.0.0)) (omega (arith, f.0.1)) (omega (arith, f.1.0)) (omega (arith, f.1.1)) f.2,
    )
question_short single (HoistOrder a b q) n f =
    omega (
      arith,
      length-append (codes "hoist ") (pair_text a.carrier a.step ++ (codes " " ++ (pair_text b.carrier b.step ++ (codes " " ++ (signed_decimal q ++ end))))),
      order_short a.carrier a.step b.carrier b.step q (omega (arith, f.0.0)) (omega (arith, f.0.1)) (omega (arith, f.1.0)) (omega (arith, f.1.1)) f.2,
    )
question_short single (Assign m) n f =
    omega (
      arith,
      length-append (codes "assign ") (pair_text m.carrier m.step ++ (codes " " ++ (decimal n ++ end))),
      counted_short m.carrier m.step n (omega (arith, f.0.0)) (omega (arith, f.0.1)) (omega (arith, f.1)),
    )

stuck_short : (single : Bool) (c k : ℕ) → IsStuckText single c k → length (stuck_text single c k) ≤ 22
stuck_short true c k f = omega (arith, length-append (decimal k) end, digits k (omega (arith, f.1)))
stuck_short false c k f = omega (arith, length-append (pair_text c k) end, pair_short c k (omega (arith, f.0)) (omega (arith, f.1)))

left_short : (low : Option (List Constraint)) → IsWalkOr low → length (left_text low) ≤ 24011
left_short None f = omega arith
left_short (Some low) f = walk_line_short low f

node_short : (single : Bool) (n : Node) → IsNodeText single n → length (node_text single n) ≤ 48100
node_short single (Split question children) f =
    omega (arith, length-append (codes "split ") (question_text question (length children)), question_short single question (length children) f)
node_short single (Closed low high) f = omega (arith, length-append (codes "closed") (closed_text low high), closed_short low high f)
node_short single (Stuck m) f =
    omega (arith, length-append (codes "closed stuck ") (stuck_text single m.carrier m.step), stuck_short single m.carrier m.step f)
node_short single (Solved low) f = omega (arith, length-append (codes "solved ") (walk_text low ++ end), walk_line_short low f)
node_short single (Left low) f = omega (arith, length-append (codes "left ") (left_text low), left_short low f)

-- ---- the tree

-- the nodes of a preorder are those that wait, and the children of all
sizes : (nodes : List Node) (waiting order : List ℕ) → Visits nodes waiting order
    → length order ≡ length waiting + weigh (λ i. length (children_of (node_at nodes i))) order
sizes nodes waiting [] v = omega (arith, ap (λ (xs : List ℕ). length xs) v)
sizes nodes [] (x ∷ order) v = absurd v
sizes nodes (i ∷ waiting) (x ∷ order) v =
    let kids = children_of (node_at nodes i) in
    omega (
      arith,
      sizes nodes (kids ++ waiting) order v.2,
      length-append kids waiting,
      ap (λ (k : ℕ). length (children_of (node_at nodes k))) v.0,
    )

few_children : (n : Node) → length (children_of n) ≤ 6 → length (children_of n) ≤ 6 * unit (is_split n)
few_children (Split question children) few = omega (arith, few)
few_children (Closed low high) few = omega arith
few_children (Stuck m) few = omega arith
few_children (Solved low) few = omega arith
few_children (Left low) few = omega arith

weigh_less : (v w : ℕ → ℕ) (xs : List ℕ) → ((x : ℕ) → v x ≤ 6 * w x) → weigh v xs ≤ 6 * weigh w xs
weigh_less v w [] h = omega arith
weigh_less v w (x ∷ xs) h = omega (arith, h x, weigh_less v w xs h)

few_nodes : (nodes : List Node) → IsTree nodes → length (preorder nodes) ≤ 1 + 6 * split_count nodes
few_nodes nodes tree =
    let kids : ℕ → ℕ = λ i. length (children_of (node_at nodes i)) in
    let splits : ℕ → ℕ = λ i. unit (is_split (node_at nodes i)) in
    omega (
      arith,
      sizes nodes (0 ∷ []) (preorder nodes) (visits_all nodes tree),
      weigh_less kids splits (preorder nodes) (λ i. few_children (node_at nodes i) (tree.few i)),
      splits_weighed nodes tree,
    )

tree_short : (single : Bool) (nodes : List Node) → IsTree nodes
    → ((i : ℕ) → i < length nodes → IsNodeText single (node_at nodes i))
    → length (tree_text single nodes) ≤ length (preorder nodes) * 48100
tree_short single nodes tree fits =
    pieces (λ i. node_text single (node_at nodes i)) 48100 (preorder nodes)
    (All-weaker (λ i. i < length nodes) (λ i. length (node_text single (node_at nodes i)) ≤ 48100) (λ i lt. node_short single (node_at nodes i) (fits i lt))
    (preorder nodes) (preorder_there nodes tree))

-- ---- the timetable

-- a number of a list, or 0 past its end
each_or : (xs : List ℕ) (most : ℕ) → ((i : ℕ) → i < length xs → get_or xs i 0 ≤ most) → (i : ℕ) → get_or xs i 0 ≤ most
each_or xs most h i =
    ⊎_elim (λ lt. h i lt) (λ past. omega (arith, get_or_past xs i 0 past)) (cases_lt i (length xs))

module _ (l : LineData) (line : IsLine l) (d : TimetableData) (fits : IsTimetableOf l d) (small : HasSmallPath d) where
  carrier_short : (c : ℕ) → c < l.degree → length (carrier_line (timetable_of d) c) ≤ 60
  carrier_short c lt =
      let put = get_or d.put c 0 in
      let off = get_or d.off c 0 in
      omega (
        arith,
        length-append (codes "carrier ") (decimal c ++ (codes " put " ++ (decimal put ++ (codes " off " ++ (decimal off ++ end))))),
        length-append (decimal c) (codes " put " ++ (decimal put ++ (codes " off " ++ (decimal off ++ end)))),
        length-append (codes " put ") (decimal put ++ (codes " off " ++ (decimal off ++ end))),
        length-append (decimal put) (codes " off " ++ (decimal off ++ end)),
        length-append (codes " off ") (decimal off ++ end),
        length-append (decimal off) end,
        digits c (omega (arith, lt, line.limits.degree)),
        digits put (fits.put_ticks c),
        digits off (fits.off_ticks c),
      )

  choice_some : (c k : ℕ) (b : Bool) → c < l.degree → k < length l.stages
      → length (if b then codes "choice " ++ (pair_text c k ++ (codes " " ++ (decimal (choice_number l k ((timetable_of d).tank c k)) ++ end))) else []) ≤ 60
  choice_some c k false lt there = omega arith
  choice_some c k true lt there =
      let n = choice_number l k ((timetable_of d).tank c k) in
      let few : length (stage l k).tanks ≤ 4 = (line.stages.count k there).1 in
      let last : n ≤ 4 = omega (arith, few, prefix_len-le-length (λ j. not (j == (timetable_of d).tank c k)) (stage l k).tanks) in
      omega (
        arith,
        length-append (codes "choice ") (pair_text c k ++ (codes " " ++ (decimal n ++ end))),
        counted_short c k n (omega (arith, lt, line.limits.degree)) (omega (arith, there, line.limits.stages)) (omega (arith, last)),
      )

  choice_short : (c k : ℕ) → c < l.degree → k < length l.stages → length (choice_line l (timetable_of d) c k) ≤ 60
  choice_short c k lt there = choice_some c k (nat_lt 1 (length (stage l k).tanks)) lt there

  move_short : (c k : ℕ) → c < l.degree → k < last_stage l → length (move_line (timetable_of d) c k) ≤ 80
  move_short c k lt there =
      let start = (timetable_of d).start c k in
      let hoist = (timetable_of d).hoist c k in
      let hoists : hoist ≤ 6 =
      each_or d.hoist 6 (λ i inside. omega (arith, fits.hoists i inside, line.limits.hoists)) (c * d.steps + k) in
      omega (
        arith,
        length-append (codes "move ") (pair_text c k ++ (codes " start " ++ (decimal start ++ (codes " hoist " ++ (decimal hoist ++ end))))),
        length-append (pair_text c k) (codes " start " ++ (decimal start ++ (codes " hoist " ++ (decimal hoist ++ end)))),
        length-append (codes " start ") (decimal start ++ (codes " hoist " ++ (decimal hoist ++ end))),
        length-append (decimal start) (codes " hoist " ++ (decimal hoist ++ end)),
        length-append (codes " hoist ") (decimal hoist ++ end),
        length-append (decimal hoist) end,
        pair_short c k (omega (arith, lt, line.limits.degree)) (omega (arith, there, line.limits.stages)),
        digits start (fits.start_ticks (c * d.steps + k)),
        digits hoist (omega (arith, hoists)),
      )

  position_short : (h t : ℕ) → length (codes " " ++ decimal ((timetable_of d).path h t)) ≤ 11
  position_short h t =
      let p = (timetable_of d).path h t in
      omega (arith, length-append (codes " ") (decimal p), digits p (omega (arith, small (h * d.period + t))))

  path_short : (h : ℕ) → h < l.hoists → length (path_line (timetable_of d) h) ≤ 220100
  path_short h lt =
      let places = flat_map (λ t. codes " " ++ decimal ((timetable_of d).path h t)) (range_with_len 0 d.period) in
      omega (
        arith,
        length-append (codes "path ") (decimal h ++ (places ++ end)),
        length-append (decimal h) (places ++ end),
        length-append places end,
        digits h (omega (arith, lt, line.limits.hoists)),
        each_short d.period 20000 11 (λ t. codes " " ++ decimal ((timetable_of d).path h t)) fits.period.1 (λ t in_it. position_short h t),
        fits.period,
      )

  table_short : length (table_text l (timetable_of d)) ≤ 2000000
  table_short =
      let p = timetable_of d in
      let a = each_below l.degree (carrier_line p) in
      let b = each_below l.degree (λ c. each_below (length l.stages) (choice_line l p c)) in
      let m = each_below l.degree (λ c. each_below (last_stage l) (move_line p c)) in
      let q = each_below l.hoists (path_line p) in
      omega (
        arith,
        length-append (decimal d.period) (end ++ (a ++ (b ++ (m ++ q)))),
        length-append end (a ++ (b ++ (m ++ q))),
        length-append a (b ++ (m ++ q)),
        length-append b (m ++ q),
        length-append m q,
        digits d.period (omega (arith, fits.period)),
        each_short l.degree 4 60 (carrier_line p) line.limits.degree.1 (λ c lt. carrier_short c lt),
        each_short l.degree 4 1920 (λ c. each_below (length l.stages) (choice_line l p c)) line.limits.degree.1
            (λ c lt. omega (
              arith,
              line.limits.stages,
              each_short (length l.stages) 32 60
                  (choice_line l p c) line.limits.stages.1 (λ k there. choice_short c k lt there),
            )),
        each_short l.degree 4 2560 (λ c. each_below (last_stage l) (move_line p c)) line.limits.degree.1
            (λ c lt. omega (
              arith,
              line.limits.stages,
              each_short (last_stage l) 32 80 (move_line p c)
                  (omega (arith, line.limits.stages)) (λ k there. move_short c k lt there),
            )),
        each_short l.hoists 6 220100 (path_line p) line.limits.hoists.1 (λ h lt. path_short h lt),
        line.limits.degree,
        line.limits.hoists,
      )

timetable_short : (l : LineData) (a : Answer) → IsLine l → IsAnswer l a → (t : Option TimetableData) → a.timetable ≡ t
    → length (timetable_text l t) ≤ 2000000
timetable_short l a line f None e = omega arith
timetable_short l a line f (Some d) e =
    let M : Option TimetableData → Type 0 = λ t. MatchOption t ⊤ (λ x. IsTimetableOf l x × HasSmallPath x) in
    let fits = subst M e f.writable.timetable in
    table_short l line d fits.0 fits.1

-- ---- the whole

verdict_short : (v : Verdict) → length (verdict_text v) ≤ 7
verdict_short Optimal = omega arith
verdict_short Nothing = omega arith
verdict_short Unfinished = omega arith

version_short : (single : Bool) → length (version_text single) ≤ 15
version_short true = omega arith
version_short false = omega arith

pub text_is_short : TextIsShort
text_is_short l a line f few =
    let s = is_single l in
    let t8 = tree_text s a.tree ++ codes "end\n" in
    let t7 = codes "tree\n" ++ t8 in
    let t6 = timetable_text l a.timetable ++ t7 in
    let t5 = codes "\ntimetable " ++ t6 in
    let t4 = decimal a.splits ++ t5 in
    let t3 = codes "\nsplits " ++ t4 in
    let t2 = decimal a.bound ++ t3 in
    let t1 = codes "\nbound " ++ t2 in
    let t0 = verdict_text a.verdict ++ t1 in
    omega (
      arith,
      length-append (version_text s) (codes "verdict " ++ t0),
      length-append (codes "verdict ") t0,
      length-append (verdict_text a.verdict) t1,
      length-append (codes "\nbound ") t2,
      length-append (decimal a.bound) t3,
      length-append (codes "\nsplits ") t4,
      length-append (decimal a.splits) t5,
      length-append (codes "\ntimetable ") t6,
      length-append (timetable_text l a.timetable) t7,
      length-append (codes "tree\n") t8,
      length-append (tree_text s a.tree) (codes "end\n"),
      version_short s,
      verdict_short a.verdict,
      digits a.bound (omega (arith, f.writable.bound)),
      digits a.splits (omega (arith, f.writable.splits)),
      timetable_short l a line f a.timetable refl,
      tree_short s a.tree f.tree f.writable.nodes,
      few_nodes a.tree f.tree,
      few,
    )
