-- How long the paths of a search are, and how many children their questions have.
use Rattle.std.proofs.Common.{⊎_elim, ◌≡◌, ℕ, ◌<◌, ◌≤◌, List, [], ◌∷◌, ◌++◌, length, map, take, sym, ◌∙◌, ap, subst, arith, Some, None}
use Rattle.std.specs.Prelude.{Bool, Option, filter}
use Rattle.std.proofs.lemmas.Bool.{cases_lt}
use Rattle.std.proofs.lemmas.List.Sums.{length-filter, count_by-le-length}
use Rattle.std.proofs.lemmas.List.{length-append, take-append-le, take-take, get_or-take, length-take}
use Rattle.std.proofs.Math.Seq.{take-append_seam, get_or-append_seam}
use Rattle.std.proofs.Math.ListN.{get_or-append}
use Rattle.hoist_base.specs.LineData.{LineData, stage, no_stage}
use Rattle.hoist_base.specs.Valid.{IsLine}
use Rattle.hoist_base.specs.declared.stage.Stage.{Stage}
use Rattle.line_model.specs.declared.motion.Motion.{Motion}
use Rattle.choice_tree.specs.declared.question.Question.{Question}
use Rattle.choice_tree.specs.declared.question.Question.TheVariants.{Assign, TankOrder, HoistOrder, Choose}
use Rattle.choice_tree.specs.declared.question.Decision.{Decision}
use Rattle.choice_tree.specs.Nodes.{numbers_from}
use Rattle.choice_tree.proofs.NodeLemmas.{length-numbers_from}
use Rattle.path_constraints.specs.Tanks.{no_decision, decision_at, motion_below}
use Rattle.path_constraints.specs.Hoists.{reaches_motion, hoists_by}
use Rattle.path_constraints.specs.Questions.{child_count}
use Rattle.path_constraints.proofs.NameLemmas.{in_map, in_at}
use Rattle.node_expand.proofs.SettledLemmas.{some_children}
use Rattle.enough_budget.specs.Depth.{depth, most_children}
use Rattle.enough_budget.specs.Asked.{IsAskedBelow, IsAskedDecision, IsAskedPath}
use Rattle.enough_budget.specs.Laws.{HasFewChildren, StaysAbove}
use Rattle.enough_budget.proofs.AgainLemmas.{never_again}
use Rattle.enough_budget.proofs.ListLemmas.{few_different, in_greatest}
use Rattle.enough_budget.proofs.ListedLemmas.{all_questions, questions_length, listed}

-- ---- one decision more, and fewer

pub asked_more : (l : LineData) (path : List Decision) (d : Decision) → IsAskedPath l path → IsAskedDecision l path d
    → IsAskedPath l (path ++ d ∷ [])
asked_more l path d asked last = λ i lt.
    ⊎_elim
    (λ below.
    let same : decision_at (path ++ d ∷ []) i ≡ decision_at path i = get_or-append path (d ∷ []) no_decision i below in
    let part : take i (path ++ d ∷ []) ≡ take i path = take-append-le i path (d ∷ []) (omega (arith, below)) in
    let P : List Decision → Type 0 = λ ds. IsAskedDecision l ds (decision_at (path ++ d ∷ []) i) in
    let Q : Decision → Type 0 = λ x. IsAskedDecision l (take i path) x in
    subst P (sym part) (subst Q (sym same) (asked i below)))
    (λ above.
    let at : length path ≡ i = omega (arith, lt, above, length-append path (d ∷ [])) in
    let R : ℕ → Type 0 = λ n. IsAskedDecision l (take n (path ++ d ∷ [])) (decision_at (path ++ d ∷ []) n) in
    let same : decision_at (path ++ d ∷ []) (length path) ≡ d = get_or-append_seam path d [] no_decision in
    let part : take (length path) (path ++ d ∷ []) ≡ path = take-append_seam path (d ∷ []) in
    let P : List Decision → Type 0 = λ ds. IsAskedDecision l ds (decision_at (path ++ d ∷ []) (length path)) in
    let Q : Decision → Type 0 = λ x. IsAskedDecision l path x in
    subst R at (subst P (sym part) (subst Q (sym same) last)))
    (cases_lt i (length path))

asked-take : (l : LineData) (path : List Decision) (i : ℕ) → IsAskedPath l path → IsAskedPath l (take i path)
asked-take l path i asked j lt =
    let below : j < i = omega (arith, lt, length-take i path) in
    let same : decision_at (take i path) j ≡ decision_at path j = get_or-take i path j no_decision below in
    let prefix : take j (take i path) ≡ take j path = take-take j i path (omega arith) in
    let P : List Decision → Type 0 = λ ds. IsAskedDecision l ds (decision_at (take i path) j) in
    let Q : Decision → Type 0 = λ d. IsAskedDecision l (take j path) d in
    subst P (sym prefix) (subst Q (sym same) (asked j (omega (arith, lt, length-take i path))))

-- ---- lengths

-- the questions of a path are different ones, and all in the list
short : (l : LineData) (path : List Decision) → IsLine l → IsAskedPath l path → length path ≤ depth l
short l path line asked =
    let f : ℕ → Question = λ i. (decision_at path i).question in
    let few =
    few_different f (length path) (all_questions l)
    (λ i j lt lt' e.
    let above = take j path in
    let inside : i < length above = omega (arith, lt, lt', length-take j path) in
    let same : decision_at above i ≡ decision_at path i = get_or-take j path i no_decision lt in
    never_again l above (f j) i line (asked-take l path j asked) (asked j lt').asked inside (ap (λ (d : Decision). d.question) same ∙ e))
    (λ i lt. listed l (take i path) (f i) line (asked-take l path i asked) (asked i lt).asked) in
    omega (arith, few, questions_length l)

pub stays_above : StaysAbove
stays_above l path question line asked below =
    let d : Decision = record { question = question; child = 0 } in
    let two = (some_children l path question line below.free below.first.0).0 in
    let on = short l (path ++ d ∷ []) line (asked_more l path d asked (record { asked = below; child = omega (arith, two) })) in
    omega (arith, on, length-append path (d ∷ []))

-- ---- children

-- no more hoists reach a move than there are
few_hoists : (l : LineData) (o : Option Motion) → length (hoists_by l o) ≤ l.hoists
few_hoists l None = omega arith
few_hoists l (Some m) =
    let reaches : ℕ → Bool = λ h. reaches_motion l h m in
    let hoists = numbers_from 0 l.hoists in
    omega (arith, length-filter reaches hoists, count_by-le-length reaches hoists, length-numbers_from 0 l.hoists)

few_children : (l : LineData) (path : List Decision) (question : Question) → IsAskedBelow l path question
    → child_count l path question ≤ most_children l
few_children l path (Assign m) below = omega (arith, few_hoists l (motion_below l path m.carrier m.step))
few_children l path (TankOrder a b q) below = omega arith
few_children l path (HoistOrder a b q) below = omega arith
few_children l path (Choose v) below =
    let counts : List ℕ = map (λ (s : Stage). length s.tanks) l.stages in
    let there = in_map (λ (s : Stage). length s.tanks) l.stages (stage l v.stage) (in_at l.stages v.stage no_stage below.first.0.stands.visit.1) in
    omega (arith, in_greatest counts (length (stage l v.stage).tanks) there)

pub has_few_children : HasFewChildren
has_few_children l path question line asked below =
    ((some_children l path question line below.free below.first.0).0, few_children l path question below)
