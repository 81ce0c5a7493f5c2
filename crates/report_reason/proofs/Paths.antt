-- The paths of a tree that proves its bound fit the line, and its walks can be summed.
use Rattle.std.proofs.Common.{
  ◌≡◌,
  ℕ,
  zero,
  suc,
  ◌+◌,
  ◌<◌,
  List,
  [],
  ◌∷◌,
  ◌++◌,
  length,
  get_or,
  take,
  map,
  Bool,
  Option,
  Some,
  None,
  refl,
  sym,
  ap,
  ◌∙◌,
  subst,
  append_assoc,
  arith,
}
use Rattle.std.specs.Prelude.{option_to_list, Contains, All}
use Rattle.std.specs.List.{flat_map}
use Rattle.std.proofs.lemmas.List.{append-nil, get_or_default, take_more, map-append}
use Rattle.std.proofs.lemmas.Grind.{flat_map-append}
use Rattle.std.proofs.lemmas.List.Elements.{Contains-append_left, Contains-append_right}
use Rattle.hoist_base.specs.LineData.{LineData, stage}
use Rattle.hoist_base.specs.Valid.{IsLine}
use Rattle.choice_tree.specs.declared.question.Question.{Question}
use Rattle.choice_tree.specs.declared.question.Question.TheVariants.{Assign, TankOrder, HoistOrder, Choose}
use Rattle.choice_tree.specs.declared.question.Decision.{Decision}
use Rattle.choice_tree.specs.declared.constraint.Constraint.{Constraint}
use Rattle.choice_tree.specs.declared.node.Node.{Node}
use Rattle.choice_tree.specs.declared.node.Node.TheVariants.{Split, Closed, Stuck, Solved, Left}
use Rattle.choice_tree.specs.Nodes.{Leads, IsPathTo}
use Rattle.choice_tree.specs.Trees.{IsTree}
use Rattle.choice_tree.proofs.PathLemmas.{branch_later, leads_on}
use Rattle.path_constraints.specs.Tanks.{decision_at}
use Rattle.path_constraints.specs.Constraints.{IsConstraint, arc_of}
use Rattle.path_constraints.specs.Questions.{Stands, FitsDecision, FitsPath, child_count}
use Rattle.path_constraints.specs.Proves.{IsWholeSplit, Walks, IsClosedWalk, Shows, Proves}
use Rattle.path_constraints.proofs.CoverTreeLemmas.{fits_more}
use Rattle.answer_text.specs.Nodes.{IsNodeText, IsWalkOr}
use Rattle.cert_checker.specs.Walks.{low_of, high_of}
use Rattle.markup.specs.Forms.{Form, form_text, holding, holding_all}
use Rattle.report_reason.specs.Decisions.{IsAnswer}
use Rattle.report_reason.specs.Nearest.{IsUsable}

-- ---- paths

fits_along : (l : LineData) (nodes : List Node) (bound i j : ℕ) (front ds : List Decision) → IsTree nodes
    → Proves l nodes bound → FitsPath l front
    → IsPathTo nodes i front → Leads nodes i ds j → FitsPath l (front ++ ds)
fits_along l nodes bound i j front [] tree proves fits lead rest = subst (FitsPath l) (sym (append-nil front)) fits
fits_along l nodes bound i j front (d ∷ ds) tree proves fits lead (k, b, rest) =
    let later = branch_later nodes i d k tree b in
    let shows = proves i front (omega (arith, later.0, later.1)) lead in
    let whole : IsWholeSplit l front d.question b.children = subst (λ node. Shows l front node bound) b.split shows in
    let fit : FitsDecision l front d = record { question = whole.fits; child = omega (arith, b.there, whole.count) } in
    subst (FitsPath l) (append_assoc front (d ∷ []) ds)
    (fits_along l nodes bound k j (front ++ d ∷ []) ds tree proves (fits_more l front d fits fit)
    (leads_on nodes 0 i k front d lead b) rest)

-- the path to each node fits the line
pub fits_path : (l : LineData) (nodes : List Node) (bound i : ℕ) (path : List Decision) → IsTree nodes
    → Proves l nodes bound → IsPathTo nodes i path
    → FitsPath l path
fits_path l nodes bound i path tree proves lead =
    fits_along l nodes bound 0 i [] path tree proves (λ k lt. absurd (omega (arith, lt))) refl lead

answer_of : (l : LineData) (front : List Decision) (question : Question) (child : ℕ) → Stands l front question
    → child < child_count l front question
    → IsAnswer l question child
answer_of l front (Assign m) child stands lt = stands.move
answer_of l front (TankOrder a b q) child stands lt = tt
answer_of l front (HoistOrder a b q) child stands lt = tt
answer_of l front (Choose v) child stands lt = (stands.visit.1, lt)

-- a decision of a path that fits is an answer to its question
pub answers : (l : LineData) (path : List Decision) (i : ℕ) (d : Decision) → FitsPath l path → i < length path
    → d ≡ decision_at path i
    → IsAnswer l d.question d.child
answers l path i d fits lt is =
    let fit = fits i lt in
    subst (λ x. IsAnswer l x.question x.child) (sym is)
    (answer_of l _ (decision_at path i).question (decision_at path i).child fit.question.stands fit.child)

-- ---- walks

pub one_there : (walk : List Constraint) → Contains (option_to_list (Some walk)) walk
one_there walk = (0, omega arith, refl)

usable : (l : LineData) (path : List Decision) (o : Option (List Constraint))
    → ((walk : List Constraint) → o ≡ Some walk → IsClosedWalk l path walk)
    → IsWalkOr o → IsUsable l path o
usable l path None closed text = tt
usable l path (Some walk) closed text = (closed walk refl, text)

low_there : (low high : Option (List Constraint)) (walk : List Constraint) → low ≡ Some walk
    → Contains (option_to_list low ++ option_to_list high) walk
low_there low high walk is =
    subst (λ o. Contains (option_to_list o ++ option_to_list high) walk) (sym is)
    (Contains-append_left (option_to_list (Some walk)) (option_to_list high) walk (one_there walk))

high_there : (low high : Option (List Constraint)) (walk : List Constraint) → high ≡ Some walk
    → Contains (option_to_list low ++ option_to_list high) walk
high_there low high walk is =
    subst (λ o. Contains (option_to_list low ++ option_to_list o) walk) (sym is)
    (Contains-append_right (option_to_list low) (option_to_list (Some walk)) walk (one_there walk))

here : (o : Option (List Constraint)) (walk : List Constraint) → o ≡ Some walk → Contains (option_to_list o) walk
here o walk is = subst (λ x. Contains (option_to_list x) walk) (sym is) (one_there walk)

low_text : (single : Bool) (low high : Option (List Constraint)) → IsNodeText single (Closed low high) → IsWalkOr low
low_text single None high text = tt
low_text single (Some walk) high text = text.0

high_text : (single : Bool) (low high : Option (List Constraint)) → IsNodeText single (Closed low high) → IsWalkOr high
high_text single low None text = tt
high_text single None (Some walk) text = text
high_text single (Some walk) (Some other) text = text.1

pub usable_low : (l : LineData) (path : List Decision) (node : Node) (bound : ℕ) (single : Bool)
    → Shows l path node bound → IsNodeText single node
    → IsUsable l path (low_of node)
usable_low l path (Split question children) bound single shows text = tt
usable_low l path (Closed low high) bound single shows text =
    usable l path low (λ walk is. shows.closed walk (low_there low high walk is)) (low_text single low high text)
usable_low l path (Stuck m) bound single shows text = tt
usable_low l path (Solved low) bound single shows text = (shows.closed low (one_there low), text)
usable_low l path (Left low) bound single shows text = usable l path low
    (λ walk is. shows.closed walk (here low walk is)) text

pub usable_high : (l : LineData) (path : List Decision) (node : Node) (bound : ℕ) (single : Bool)
    → Shows l path node bound → IsNodeText single node
    → IsUsable l path (high_of node)
usable_high l path (Split question children) bound single shows text = tt
usable_high l path (Closed low high) bound single shows text =
    usable l path high (λ walk is. shows.closed walk (high_there low high walk is)) (high_text single low high text)
usable_high l path (Stuck m) bound single shows text = tt
usable_high l path (Solved low) bound single shows text = tt
usable_high l path (Left low) bound single shows text = tt

-- the constraints of a closed walk are on the path
along : (l : LineData) (path : List Decision) (i j : ℕ) (walk : List Constraint) → Walks l path i walk j
    → All (IsConstraint l path) walk
along l path i j [] walks k d lt = absurd (omega (arith, lt))
along l path i j (t ∷ ts) walks zero d lt = walks.0
along l path i j (t ∷ ts) walks (suc k) d lt = along l path (arc_of l path t).to j ts walks.2 k d (omega (arith, lt))

pub closed_named : (l : LineData) (path : List Decision) (walk : List Constraint) → IsClosedWalk l path walk
    → All (IsConstraint l path) walk
closed_named l path [] closed = absurd closed
closed_named l path (t ∷ ts) closed = along l path (arc_of l path t).from (arc_of l path t).from (t ∷ ts) closed

-- ---- tanks and lists

-- a tank of a stage's list is one of the line
pub tank_there : (l : LineData) (k n i : ℕ) → IsLine l → n < length (stage l k).tanks → i ≡ get_or (stage l k).tanks n 0
    → i < length l.tanks
tank_there l k n i valid lt is =
    valid.stages.there k i (n, lt, get_or_default (stage l k).tanks n i 0 lt ∙ sym is)

pub holds_start : {A : Type 0} (f : Form) (g : A → Form) (xs : List A) → f ≡ holding_all f (map g (take 0 xs))
unfolding holding_all
holds_start f g xs = ap (λ (text : List ℕ). record f { inside = text }) (sym (append-nil f.inside))

-- one element more
pub holds_next : {A : Type 0} (f old new e : Form) (g : A → Form) (xs : List A) (i : ℕ) (d : A) → i < length xs
    → old ≡ holding_all f (map g (take i xs)) → e ≡ g (get_or xs i d) → new ≡ holding old e
    → new ≡ holding_all f (map g (take (i + 1) xs))
unfolding holding holding_all
holds_next {A} f old new e g xs i d lt before is after =
    let first = map g (take i xs) in
    let more : map g (take (i + 1) xs) ≡ first ++ g (get_or xs i d) ∷ [] =
    ap (λ (ys : List A). map g ys) (take_more xs i d lt) ∙ map-append g (take i xs) (get_or xs i d ∷ []) in
    after ∙ ap (λ x. holding x e) before ∙ ap (λ x. holding (holding_all f first) x) is
    ∙ ap (λ (text : List ℕ). record f { inside = text })
    (append_assoc f.inside (flat_map form_text first) (form_text (g (get_or xs i d)))
    ∙ ap (λ (text : List ℕ). f.inside ++ text)
    (ap (λ (text : List ℕ). flat_map form_text first ++ text) (sym (append-nil (form_text (g (get_or xs i d)))))
    ∙ sym (flat_map-append form_text first (g (get_or xs i d) ∷ []))
    ∙ ap (flat_map form_text) (sym more)))
