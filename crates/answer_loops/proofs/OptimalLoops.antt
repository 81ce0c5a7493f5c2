-- No loop is shorter than the period of an optimal answer.
use Rattle.std.proofs.Common.{◌≡◌, ℕ, ◌≤◌, subst}
use Rattle.hoist_base.specs.LineData.{LineData}
use Rattle.answer_text.specs.declared.answer.Answer.{Answer}
use Rattle.answer_text.specs.declared.answer.Verdict.{Verdict}
use Rattle.solve_line.specs.Claims.{IsOptimal, ClaimOf}
use Rattle.machine_loops.proofs.LoopLaws as loops
use Rattle.answer_loops.specs.Laws.{NoLoopIsShorter}

pub no_loop_is_shorter : NoLoopIsShorter
no_loop_is_shorter l budget a valid solution claim optimal period frames loop =
    let is : IsOptimal l a = subst (λ (v : Verdict). ClaimOf l budget v a) optimal claim in
    loops.no_loop_is_shorter l a.bound valid is.least.none_below period frames loop
