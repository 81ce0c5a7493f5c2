-- The first paths of a round as jobs, and the answers of these jobs as the expansions of the round.
use Rattle.std.proofs.Common.{◌≡◌, ℕ, ◌≤◌, List, get_or, All, sym, subst, arith, Result, Ok, Err, IfOk}
use Rattle.std.proofs.lemmas.List.{get_or_default}
use Rattle.std.proofs.lemmas.Option.{slice_get-get_or, slice_get_within, get_or_from_slice_get}
use Rattle.hoist_base.specs.LineData.{LineData}
use Rattle.hoist_base.specs.Valid.{IsLine}
use Rattle.longest_path.specs.Bounds.{IsCap}
use Rattle.choice_tree.specs.declared.question.Decision.{Decision}
use Rattle.node_expand.specs.declared.expanded.Expanded.{Expanded}
use Rattle.worker_pool.specs.Pool.{AreAnswers as AreAnswersOf}
use Rattle.branch_rounds.specs.Grown.{Search, cap_of}
use Rattle.branch_rounds.specs.Kept.{IsKept, CanExpand, IsShown, ArePaths, AreAnswers}

pub can_expand : (l : LineData) (s : Search) (cap : ℕ) (paths : List (List Decision)) → IsLine l → IsKept l s
    → s.splits ≤ 20000 → IsCap cap
    → ArePaths s paths → All (λ path. CanExpand l path cap) paths
can_expand l s cap paths line kept short range leads = λ k d lt.
    let path : List Decision = get_or paths k d in
    let f = kept.fits (get_or s.frontier k 0) path (leads k path lt (get_or_default paths k d path lt)) in
    record { valid = line; fits = f.0; short = omega (arith, f.1, short); range = range }

pub answers_of_jobs : (l : LineData) (s : Search) (cap : ℕ) (paths : List (List Decision)) (xs : List Expanded)
    → cap ≡ cap_of l s.best → ArePaths s paths
    → AreAnswersOf (λ path x. IsShown l path cap x) paths xs → AreAnswers l s xs
answers_of_jobs l s cap paths xs cap_is leads answers = λ k x lt is.
    let at = slice_get-get_or xs k x lt in
    let (path, there, shown) = answers.1 k (get_or xs k x) at in
    let E : Expanded → Type 0 = λ y. IsShown l path (cap_of l s.best) y in
    let C : ℕ → Type 0 = λ c. IsShown l path c (get_or xs k x) in
    record {
      path = path;
      leads = leads k path (slice_get_within paths k path there) (sym (get_or_from_slice_get paths k path path there));
      shown = subst E (sym is) (subst C cap_is shown);
    }

-- the same of what answers the jobs, where it isn't an error
pub answers_if_ok : {V E : Type 0} (items : V → List Expanded) (l : LineData) (s : Search) (cap : ℕ) (paths jobs : List (List Decision)) (r : Result V E)
    → jobs ≡ paths → cap ≡ cap_of l s.best → ArePaths s paths
    → IfOk r (λ v. AreAnswersOf (λ path x. IsShown l path cap x) jobs (items v))
    → IfOk r (λ v. AreAnswers l s (items v))
answers_if_ok items l s cap paths jobs (Ok v) same cap_is leads answers =
    let J : List (List Decision) → Type 0 = λ ps. AreAnswersOf (λ path x. IsShown l path cap x) ps (items v) in
    answers_of_jobs l s cap paths (items v) cap_is leads (subst J same answers)
answers_if_ok items l s cap paths jobs (Err e) same cap_is leads answers = tt
