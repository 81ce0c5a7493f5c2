-- Paths from the root: one more step, and that there is only one.
use Rattle.std.proofs.Common.{⊎_elim, inl, inr, ◌⊎◌, ◌≡◌, ℕ, zero, suc, ◌+◌, ◌-◌, ◌<◌, ◌≤◌, List, [], ◌∷◌, ◌++◌, length, get_or, reverse, refl, sym, ◌∙◌, ap, subst, arith}
use Rattle.std.proofs.lemmas.List.{reverse-append}
use Rattle.choice_tree.specs.declared.question.Question.{Question}
use Rattle.choice_tree.specs.declared.question.Decision.{Decision}
use Rattle.choice_tree.specs.declared.tree.Origin.{Origin}
use Rattle.choice_tree.specs.declared.node.Node.{Node}
use Rattle.choice_tree.specs.declared.node.Node.TheVariants.{Split}
use Rattle.choice_tree.specs.Nodes.{node_at, Branches, Leads, IsPathTo}
use Rattle.choice_tree.specs.Trees.{IsTree}
use Rattle.choice_tree.specs.Laws.{OnePath, GoesOn}
use Rattle.choice_tree.specs.Origins.{HasOrigins}
use Rattle.choice_tree.proofs.NodeLemmas.{branch_child}

-- a decision leads on to a later node
pub branch_later : (nodes : List Node) (i : ℕ) (d : Decision) (j : ℕ) → IsTree nodes → Branches nodes i d j
    → (i < j) × (j < length nodes)
branch_later nodes i d j tree b = tree.later i d.child j (branch_child nodes i d j b)

-- one step up: the decisions from the parent
pub path_up : (nodes : List Node) (origins : List Origin) (at i : ℕ) (path longer : List Decision) (o : Origin)
    → IsTree nodes → HasOrigins nodes origins → 0 < at → at < length nodes → o ≡ get_or origins (at - 1) o
    → Leads nodes at (reverse path) i
    → longer ≡ path ++ o.decision ∷ [] → (o.parent < at) × Leads nodes o.parent (reverse longer) i
path_up nodes origins at i path longer o tree h above there is leads grown =
    let down = h.leads (at - 1) o (omega (arith, h.count)) is in
    let e : at - 1 + 1 ≡ at = omega arith in
    let B : ℕ → Type 0 = λ k. Branches nodes o.parent o.decision k in
    let b : Branches nodes o.parent o.decision at = subst B e down in
    let P : List Decision → Type 0 = λ ds. Leads nodes o.parent ds i in (
      (branch_later nodes o.parent o.decision at tree b).0,
      subst P
          (sym (ap (λ (ds : List Decision). reverse ds) grown ∙ reverse-append path (o.decision ∷ []))) (at, b, leads),
    )

-- decisions that lead to a node, and one there that leads on
pub leads_on : GoesOn
leads_on nodes i j k [] d e b =
    let B : ℕ → Type 0 = λ n. Branches nodes n d k in
    (k, subst B (sym e) b, refl)
leads_on nodes i j k (x ∷ ds) d (n, first, rest) b = (n, first, leads_on nodes n j k ds d rest b)

-- no path comes back
leads_later : (nodes : List Node) (i j : ℕ) (ds : List Decision) → IsTree nodes → Leads nodes i ds j → i ≤ j
leads_later nodes i j [] tree e = omega (arith, e)
leads_later nodes i j (d ∷ ds) tree (k, b, rest) = omega (arith, (branch_later nodes i d k tree b).0, leads_later nodes k j ds tree rest)

-- the last decision that leads to a node
abbrev LastStep : List Node → ℕ → List Decision → ℕ → Type 0
LastStep nodes i path j =
    ((path ≡ []) × (i ≡ j))
    ⊎ ((ds : List Decision) × (d : Decision) × (k : ℕ) × (path ≡ ds ++ d ∷ []) × Leads nodes i ds k × Branches nodes k d j)

last_step_of : (nodes : List Node) (i j : ℕ) (path : List Decision) → Leads nodes i path j → LastStep nodes i path j
last_step_of nodes i j [] e = inl (refl, e)
last_step_of nodes i j (d ∷ ds) (k, b, rest) =
    ⊎_elim
    (λ none.
    let B : ℕ → Type 0 = λ n. Branches nodes i d n in
    inr ([], d, i, ap (λ (xs : List Decision). d ∷ xs) none.0, refl, subst B none.1 b))
    (λ one. inr (d ∷ one.0, one.1, one.2, ap (λ (xs : List Decision). d ∷ xs) one.3, (k, b, one.4), one.5))
    (last_step_of nodes k j ds rest)

same_question : (nodes : List Node) (k k' j j' : ℕ) (d d' : Decision) → k ≡ k' → Branches nodes k d j
    → Branches nodes k' d' j' → d.question ≡ d'.question
same_question nodes k k' j j' d d' e b b' =
    let one : Split d.question b.children ≡ Split d'.question b'.children =
    sym b.split ∙ ap (λ (n : ℕ). node_at nodes n) e ∙ b'.split in
    cc

same_decision : (d d' : Decision) → d.question ≡ d'.question → d.child ≡ d'.child → d ≡ d'
same_decision d d' e f =
    let with_question : ℕ → Question → Decision = λ n q. record { question = q; child = n } in
    ap (λ (q : Question). with_question d.child q) e ∙ ap (λ (n : ℕ). with_question n d'.question) f

-- of two paths to one node, where there is one path to each earlier node
unique_step : (nodes : List Node) (i : ℕ) (p q : List Decision) → IsTree nodes
    → ((k : ℕ) (ds ds' : List Decision) → k < i → IsPathTo nodes k ds → IsPathTo nodes k ds' → ds ≡ ds')
    → IsPathTo nodes i p → IsPathTo nodes i q → p ≡ q
unique_step nodes i p q tree earlier lead lead' =
    ⊎_elim
    (λ none.
    ⊎_elim
    (λ none'. none.0 ∙ sym none'.0)
    (λ one'. absurd (omega (arith, none.1, (branch_later nodes one'.2 one'.1 i tree one'.5).0)))
    (last_step_of nodes 0 i q lead'))
    (λ one.
    ⊎_elim
    (λ none'. absurd (omega (arith, none'.1, (branch_later nodes one.2 one.1 i tree one.5).0)))
    (λ one'. two_last nodes i p q one.0 one'.0 one.1 one'.1 one.2 one'.2 tree earlier one.3 one'.3 one.4 one'.4 one.5 one'.5)
    (last_step_of nodes 0 i q lead'))
    (last_step_of nodes 0 i p lead)
  where
    two_last : (nodes : List Node) (i : ℕ) (p q ds ds' : List Decision) (d d' : Decision) (k k' : ℕ) → IsTree nodes
        → ((k : ℕ) (ds ds' : List Decision) → k < i → IsPathTo nodes k ds → IsPathTo nodes k ds' → ds ≡ ds')
        → p ≡ ds ++ d ∷ [] → q ≡ ds' ++ d' ∷ [] → IsPathTo nodes k ds → IsPathTo nodes k' ds' → Branches nodes k d i
        → Branches nodes k' d' i → p ≡ q
    two_last nodes i p q ds ds' d d' k k' tree earlier e e' lead lead' b b' =
        let one = tree.one_parent k d.child k' d'.child i (branch_child nodes k d i b) (branch_child nodes k' d' i b') in
        let same : d ≡ d' = same_decision d d' (same_question nodes k k' i i d d' one.0 b b') one.1 in
        let P : ℕ → Type 0 = λ n. IsPathTo nodes n ds' in
        let rest : ds ≡ ds' = earlier k ds ds' (branch_later nodes k d i tree b).0 lead (subst P (sym one.0) lead') in
        e ∙ ap (λ (x : Decision). ds ++ x ∷ []) same ∙ ap (λ (xs : List Decision). xs ++ d' ∷ []) rest ∙ sym e'

unique_below : (most : ℕ) (nodes : List Node) (i : ℕ) (p q : List Decision) → IsTree nodes → i ≤ most
    → IsPathTo nodes i p → IsPathTo nodes i q → p ≡ q
unique_below zero nodes i p q tree le lead lead' = unique_step nodes i p q tree (λ k ds ds' lt a b. absurd (omega (arith, lt, le))) lead lead'
unique_below (suc most) nodes i p q tree le lead lead' =
    unique_step nodes i p q tree (λ k ds ds' lt a b. unique_below most nodes k ds ds' tree (omega (arith, lt, le)) a b) lead lead'

-- there is one path to a node
pub one_path : OnePath
one_path nodes i p q tree lead lead' = unique_below i nodes i p q tree (omega arith) lead lead'
