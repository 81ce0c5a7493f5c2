use Rattle.std.proofs.Common.{⊎_elim, inl, inr, ◌⊎◌, ◌≡◌, ◌≤◌, length, suc, subst, sym, refl, ◌∙◌, arith}
use Rattle.std.proofs.lemmas.Bool.{cases_lt}
use Rattle.path_constraints.proofs.CoverTreeLemmas.{proof_bounds}
use Rattle.branch_rounds.specs.Grown.{Search}
use Rattle.branch_rounds.specs.Kept.{IsKept}
use Rattle.branch_rounds.proofs.RoundLemmas.{cap_range}
use Rattle.branch_rounds.proofs.OutcomeLemmas.{kept_start, proves, bound_whole, none_left, some_left}
use Rattle.branch_rounds.proofs.EnoughLemmas.{enough_leaves_none}
use Rattle.branch_rounds.proofs.searching.grow_at_once.Goals as goal

pub loop-state-init : goal.loop-state-init
loop-state-init g c =
    let e = c.in_ok-state.ensures in
    let K : Search → Type 0 = λ s. IsKept c.args.line.now s in
    let B : Search → Type 0 = λ s. s.splits ≤ c.args.budget in
    record {
      workers = c.in_ok-workers.ensures;
      kept = subst K (sym e) (kept_start c.args.line.now);
      splits = subst B (sym e) (omega arith);
      reached = (0, e);
    }

pub loop-state-preserved : goal.loop-state-preserved
loop-state-preserved g c =
    let e = c.in_ok-round_at_once.ensures in
    let v = c.loop-state.invariant in
    record {
      workers = e.workers ∙ v.workers;
      kept = e.kept;
      splits = e.splits;
      reached = (suc v.reached.0, (c.loop-state.state, e.round.0, v.reached.1, e.round.1, e.round.2));
    }

pub returns : goal.returns
returns g c =
    let l = c.args.line.now in
    let s = c.loop-state.state in
    let v = c.loop-state.invariant in
    let e = c.in_ok-bound.ensures in
    let left : c.len-left.result ≡ length s.frontier = c.len-left.ensures in
    let done : (length s.frontier ≡ 0) ⊎ (c.args.budget ≤ s.splits) =
    ⊎_elim
    (λ some. ⊎_elim (λ unspent. absurd (let t = c.goes_on.ensures.1 (some, unspent) in let f = c.loop-state-test.false in cc)) (λ le. inr le)
    (cases_lt s.splits c.args.budget))
    (λ none. inl (omega (arith, none)))
    (cases_lt 0 (length s.frontier)) in
    let proof = proves l s c.in_ok-bound.bound v.kept e.bound in
    let cap = cap_range l s.best e.valid v.kept.best in
    record {
      grown = record {
        rounds = v.reached.0;
        end = s;
        reached = v.reached.1;
        done = done;
        tree = refl;
        best = refl;
        splits = refl;
        left = left;
        bound = e.bound;
      };
      tree = v.kept.placed.tree;
      proves = proof;
      none_below = proof_bounds l s.tree c.in_ok-bound.bound e.valid v.kept.placed.tree proof;
      best = v.kept.best;
      bound = (e.bound.some, e.bound.most, omega (arith, e.bound.most, cap.2));
      whole = λ none. bound_whole l s c.in_ok-bound.bound e.bound (omega (arith, none, left));
      spent = λ some. ⊎_elim (λ none. absurd (omega (arith, none, left, some))) (λ le. omega (arith, le, v.splits)) done;
      enough = λ enough. omega (arith, left, enough_leaves_none l c.args.budget v.reached.0 s e.valid c.requires.budget v.reached.1 done enough);
      splits = v.splits;
      splits_counted = v.kept.placed.counted;
      none_left = λ none. none_left s v.kept.placed (omega (arith, none, left));
      some_left = λ some. some_left s v.kept.placed (omega (arith, some, left));
      valid = e.valid;
      texts = v.kept.texts;
    }
