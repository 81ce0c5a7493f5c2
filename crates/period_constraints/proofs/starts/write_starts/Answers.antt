use Rattle.std.proofs.Common.{ℕ, arith, get_or, None}
use Rattle.path_constraints.specs.Ticks.{tick_at}
use Rattle.period_constraints.specs.Starts.{Start, IsStart, IsNumbered, no_start}
use Rattle.period_constraints.proofs.StayLemmas.{write_more}
use Rattle.period_constraints.proofs.starts.write_starts.Goals as goal

pub loop-number-preserved : goal.loop-number-preserved
loop-number-preserved c =
    record {
      starts =
          write_more (λ (i : ℕ) (x : Start). IsStart c.args.line.now c.args.tanks.now (get_or c.args.assigned.now i None) (tick_at c.args.ticks.now) i x)
          c.loop-number.starts c.loop-number.number
          c.start_at.result no_start (omega (
            arith,
            c.loop-number-test.true,
            c.loop-number.auto.starts,
            c.requires.count,
            c.move_count-number-end.ensures.value,
          )) c.loop-number.invariant.starts c.start_at.ensures.start;
      numbered =
          write_more (λ (i : ℕ) (x : Start). IsNumbered c.args.line.now c.args.table.rides.now x) c.loop-number.starts c.loop-number.number
          c.start_at.result no_start (omega (
            arith,
            c.loop-number-test.true,
            c.loop-number.auto.starts,
            c.requires.count,
            c.move_count-number-end.ensures.value,
          )) c.loop-number.invariant.numbered c.start_at.ensures.numbered;
    }
