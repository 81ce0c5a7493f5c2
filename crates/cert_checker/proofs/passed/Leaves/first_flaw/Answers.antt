use Rattle.std.proofs.Common.{Option, None, MatchOption, ℕ, ◌<◌, List, length, get_or, map, sym, subst, ap, ◌∙◌}
use Rattle.choice_tree.specs.declared.question.Decision.{Decision}
use Rattle.cert_checker.specs.declared.reason.Reason.{Reason}
use Rattle.cert_checker.specs.declared.passed.Leaf.{Leaf}
use Rattle.cert_checker.specs.Passed.{PassedLeaf, leaf_of}
use Rattle.cert_checker.specs.Trying.{IsPassed, CanBeTried, IsAnswerOf}
use Rattle.cert_checker.proofs.PassLemmas.{unmapped, among_found}
use Rattle.cert_checker.proofs.passed.Leaves.first_flaw.Goals as goal

pub find_first-requires-clause-items : goal.find_first-requires-clause-items
find_first-requires-clause-items g c κs within =
    let l = c.args.line.now in
    let nodes = c.args.tree.now in
    let decisions = c.self.inside.decisions.items in
    let leaves = c.self.inside.leaves.items in
    let P : PassedLeaf → Type 0 = λ x. IsPassed l nodes x in
    let passed = unmapped P (leaf_of decisions) leaves (rw (sym c.self.view_is) at c.requires.passed) in
    let each : (k : ℕ) (d : Leaf) → k < length leaves → CanBeTried l nodes c.args.bound decisions (get_or leaves k d) =
    λ k d lt. record {
      valid = c.requires.valid;
      texts = c.requires.nodes;
      period = c.requires.bound;
      within = c.self.invariant k d lt;
      passed = passed k d lt;
    } in
    rw (c.map.ensures.base, c.map.ensures.f, c.with_min_len.ensures.base, c.par_iter.ensures, c.as_slice.ensures.value, c.as_slice-decisions.ensures.value)
    (λ k d lt x e. (rw e (each k d lt), λ y answer p is. tt))

pub returns-in_err-find_first : goal.returns-in_err-find_first
returns-in_err-find_first g c =
    let l = c.args.line.now in
    let nodes = c.args.tree.now in
    let leaves = c.self.inside.leaves.items in
    let decisions = c.as_slice-decisions.result.now in
    let done = c.find_first.ensures in
    let chain = rw (c.map.ensures.base, c.map.ensures.f) at done.2 in
    let shown = chain.1 ∙ ap (λ it. it.slice.now) c.with_min_len.ensures.base ∙ c.par_iter.ensures ∙ c.as_slice.ensures.value in
    let seen = ap (λ (xs : List Decision). map (leaf_of xs) leaves) c.as_slice-decisions.ensures.value ∙ c.self.view_is in
    let M : Option (Option Reason) → Type 0 =
    λ o. MatchOption o (IsAnswerOf l nodes c.args.bound c.args.self.now None) (λ answer. IsAnswerOf l nodes c.args.bound c.args.self.now answer) in
    let found : M c.find_first.result =
    among_found l nodes c.args.bound decisions leaves c.args.self.now chain.0 done.0 done.1 c.find_first.result shown seen chain.2 done.3 done.4 in
    let A : Option Reason → Type 0 = λ answer. IsAnswerOf l nodes c.args.bound c.args.self.now answer in
    subst A (sym c.from_residual.ensures) (subst M c.in_err-find_first.was found)

pub returns : goal.returns
returns g c =
    let l = c.args.line.now in
    let nodes = c.args.tree.now in
    let leaves = c.self.inside.leaves.items in
    let decisions = c.as_slice-decisions.result.now in
    let done = c.find_first.ensures in
    let chain = rw (c.map.ensures.base, c.map.ensures.f) at done.2 in
    let shown = chain.1 ∙ ap (λ it. it.slice.now) c.with_min_len.ensures.base ∙ c.par_iter.ensures ∙ c.as_slice.ensures.value in
    let seen = ap (λ (xs : List Decision). map (leaf_of xs) leaves) c.as_slice-decisions.ensures.value ∙ c.self.view_is in
    let M : Option (Option Reason) → Type 0 =
    λ o. MatchOption o (IsAnswerOf l nodes c.args.bound c.args.self.now None) (λ answer. IsAnswerOf l nodes c.args.bound c.args.self.now answer) in
    let found : M c.find_first.result =
    among_found l nodes c.args.bound decisions leaves c.args.self.now chain.0 done.0 done.1 c.find_first.result shown seen chain.2 done.3 done.4 in
    subst M c.in_ok-find_first.was found
