use Rattle.path_constraints.proofs.CoverTreeLemmas.{proof_bounds}
use Rattle.cert_checker.proofs.RuleLemmas.{claim_rules, splits_rule, left_rules, fault_rule, first_of_all, no_reason, not_kept, left_kept, left_found, tree_kept, tree_found, all_kept}
use Rattle.cert_checker.proofs.checking.check.Goals as goal

pub returns-in-Some-splits_reason-clause-first : goal.returns-in-Some-splits_reason-clause-first
returns-in-Some-splits_reason-clause-first g c =
    let l = c.args.line.now in
    let a = c.args.a.now in
    first_of_all l a 3 c.in-Some-splits_reason.reason (λ s has lt. claim_rules l a s c.in_default.ensures.first has lt)
    (c.in-Some-splits_reason.ensures.first l)

pub returns-in-Some-2-clause-first : goal.returns-in-Some-2-clause-first
returns-in-Some-2-clause-first g c =
    let l = c.args.line.now in
    let a = c.args.a.now in
    first_of_all l a 4 c.in-Some-2.reason
    (λ s has lt. splits_rule l a s c.in_default.ensures.first (c.in_default-splits_reason.ensures.first l) has lt)
    (left_found l a _ c.in-Some-2.reason c.in_ok-reason.ensures c.in-Some-2.is)

pub returns-in-Some-fault_reason-clause-first : goal.returns-in-Some-fault_reason-clause-first
returns-in-Some-fault_reason-clause-first g c =
    let l = c.args.line.now in
    let a = c.args.a.now in
    let splits = c.in_default-splits_reason.ensures in
    let left = left_kept l a _ c.in_ok-reason.ensures c.in_default-2.is in
    first_of_all l a 6 c.in-Some-fault_reason.reason
    (λ s has lt. left_rules l a s splits.valid c.in_default.ensures.first (splits.first l) left has lt)
    c.in-Some-fault_reason.ensures

pub returns-in-Some-3-clause-first : goal.returns-in-Some-3-clause-first
returns-in-Some-3-clause-first g c =
    let l = c.args.line.now in
    let a = c.args.a.now in
    let claim = c.in_default.ensures in
    let splits = c.in_default-splits_reason.ensures in
    let left = left_kept l a _ c.in_ok-reason.ensures c.in_default-2.is in
    first_of_all l a 7 c.in-Some-3.reason
    (λ s has lt. fault_rule l a s claim.valid splits.valid claim.first (splits.first l) left c.in_default-fault_reason.ensures has lt)
    (tree_found l a _ c.in-Some-3.reason c.in_ok-reason-2.ensures c.in-Some-3.is)

pub returns-in-Some-splits_reason-clause-kept : goal.returns-in-Some-splits_reason-clause-kept
returns-in-Some-splits_reason-clause-kept g c =
    let l = c.args.line.now in
    let found = c.in-Some-splits_reason.ensures in
    (λ none. absurd none, not_kept l c.args.a.now c.in-Some-splits_reason.reason c.in_default.ensures.valid found.valid (found.first l).has)

pub returns-in-Some-2-clause-kept : goal.returns-in-Some-2-clause-kept
returns-in-Some-2-clause-kept g c =
    let l = c.args.line.now in
    let a = c.args.a.now in
    let found = left_found l a _ c.in-Some-2.reason c.in_ok-reason.ensures c.in-Some-2.is in
    (λ none. absurd none, not_kept l a c.in-Some-2.reason c.in_default.ensures.valid c.in_default-splits_reason.ensures.valid found.has)

pub returns-in-Some-fault_reason-clause-kept : goal.returns-in-Some-fault_reason-clause-kept
returns-in-Some-fault_reason-clause-kept g c =
    let found = c.in-Some-fault_reason.ensures in
    let tree = c.in_default-splits_reason.ensures.valid in
    (λ none. absurd none, not_kept c.args.line.now c.args.a.now c.in-Some-fault_reason.reason c.in_default.ensures.valid tree found.has)

pub returns-in-Some-3-clause-kept : goal.returns-in-Some-3-clause-kept
returns-in-Some-3-clause-kept g c =
    let l = c.args.line.now in
    let a = c.args.a.now in
    let found = tree_found l a _ c.in-Some-3.reason c.in_ok-reason-2.ensures c.in-Some-3.is in
    (λ none. absurd none, not_kept l a c.in-Some-3.reason c.in_default.ensures.valid c.in_default-splits_reason.ensures.valid found.has)

pub returns-clause-kept : goal.returns-clause-kept
returns-clause-kept g c =
    let l = c.args.line.now in
    let a = c.args.a.now in
    let kept =
    all_kept l a _ _ c.in_default.ensures.first (c.in_default-splits_reason.ensures.first l) c.in_ok-reason.ensures c.in_default-2.is
    c.in_default-fault_reason.ensures c.in_ok-reason-2.ensures c.in_default-3.is in
    (λ accepted. kept, λ rules. tt)

pub returns-clause-first : goal.returns-clause-first
returns-clause-first g c =
    let l = c.args.line.now in
    let a = c.args.a.now in
    let kept = (returns-clause-kept g c).0 tt in
    (c.claim_of.ensures, λ r has. no_reason l a r c.in_default.ensures.valid c.in_default-splits_reason.ensures.valid kept has)

pub returns-clause-bounds : goal.returns-clause-bounds
returns-clause-bounds g c accepted =
    let l = c.args.line.now in
    let a = c.args.a.now in
    proof_bounds l a.tree a.bound c.in_default.ensures.valid c.in_default-splits_reason.ensures.valid
    (tree_kept l a _ c.in_ok-reason-2.ensures c.in_default-3.is)
