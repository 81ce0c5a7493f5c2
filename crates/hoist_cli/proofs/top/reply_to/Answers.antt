use Rattle.std.proofs.Common.{rules, ◌≡◌, Some, string_bytes, subst}
use Rattle.hoist_words.specs.declared.requests.Request.TheVariants.{Solve, Check, Run, Chart, Sweep, Margin, Follow, Batch}
use Rattle.hoist_words.specs.Request.{words_of, IsRequestOf}
use Rattle.hoist_cli.specs.Reading.{reading, AnswerReply}
use Rattle.hoist_cli.specs.Reply.{IsJudged, IsReply, TimetableReply, IsRunOf, IsChartOf, IsMarginOf}
use Rattle.hoist_cli.specs.Solved.{SolveReply}
use Rattle.hoist_cli.specs.Swept.{SweepReply}
use Rattle.hoist_cli.specs.Followed.{FollowReply}
use Rattle.hoist_cli.specs.Batched.{BatchReply}
use Rattle.hoist_cli.proofs.Narrowing.{given_by}
use Rattle.hoist_cli.proofs.top.reply_to.Goals as goal

pub returns-in-Solve : goal.returns-in-Solve
returns-in-Solve g c =
    let r = reading (g.F.Shelf.files c.args.shelf.now) (g.F.Shelf.faults c.args.shelf.now) (g.F.Shelf.faults c.solve_file.new.shelf) in
    let words = words_of c.args.words.now in
    let request = Solve c.in-Solve.file c.in-Solve.budget c.in-Solve.workers in
    let asks : IsRequestOf words (Some request) = search rules in
    let name : c.as_str.result.now ≡ string_bytes c.in-Solve.file = search rules in
    given_by (SolveReply r c.as_str.result.now c.in-Solve.budget) (IsReply r words) c.solve_file.result
    (λ status text is. (Some request, asks, subst (λ n. SolveReply r n c.in-Solve.budget status text) name is)) c.solve_file.ensures

pub returns-in-Check : goal.returns-in-Check
returns-in-Check g c =
    let r = reading (g.F.Shelf.files c.args.shelf.now) (g.F.Shelf.faults c.args.shelf.now) (g.F.Shelf.faults c.check_file.new.shelf) in
    let words = words_of c.args.words.now in
    let request = Check c.in-Check.file c.in-Check.answer in
    let asks : IsRequestOf words (Some request) = search rules in
    let name : c.as_str-in-Check.result.now ≡ string_bytes c.in-Check.file = search rules in
    let other : c.as_str-in-Check-2.result.now ≡ string_bytes c.in-Check.answer = search rules in
    given_by (AnswerReply r c.as_str-in-Check.result.now c.as_str-in-Check-2.result.now IsJudged) (IsReply r words) c.check_file.result
    (λ status text is. (
      Some request,
      asks,
      subst (λ m. AnswerReply r (string_bytes c.in-Check.file) m IsJudged status text) other
          (subst (λ n. AnswerReply r n c.as_str-in-Check-2.result.now IsJudged status text) name is),
    ))
    c.check_file.ensures

pub returns-in-Run : goal.returns-in-Run
returns-in-Run g c =
    let r = reading (g.F.Shelf.files c.args.shelf.now) (g.F.Shelf.faults c.args.shelf.now) (g.F.Shelf.faults c.run_file.new.shelf) in
    let words = words_of c.args.words.now in
    let request = Run c.in-Run.file c.in-Run.answer c.in-Run.carriers in
    let asks : IsRequestOf words (Some request) = search rules in
    let name : c.as_str-in-Run.result.now ≡ string_bytes c.in-Run.file = search rules in
    let other : c.as_str-in-Run-2.result.now ≡ string_bytes c.in-Run.answer = search rules in
    given_by (TimetableReply r c.as_str-in-Run.result.now c.as_str-in-Run-2.result.now (IsRunOf c.in-Run.carriers)) (IsReply r words) c.run_file.result
    (λ status text is. (
      Some request,
      asks,
      subst (λ m. TimetableReply r (string_bytes c.in-Run.file) m (IsRunOf c.in-Run.carriers) status text) other
          (subst (λ n. TimetableReply r n c.as_str-in-Run-2.result.now (IsRunOf c.in-Run.carriers) status text) name is),
    ))
    c.run_file.ensures

pub returns-in-Chart : goal.returns-in-Chart
returns-in-Chart g c =
    let r = reading (g.F.Shelf.files c.args.shelf.now) (g.F.Shelf.faults c.args.shelf.now) (g.F.Shelf.faults c.chart_file.new.shelf) in
    let words = words_of c.args.words.now in
    let request = Chart c.in-Chart.file c.in-Chart.answer in
    let asks : IsRequestOf words (Some request) = search rules in
    let name : c.as_str-in-Chart.result.now ≡ string_bytes c.in-Chart.file = search rules in
    let other : c.as_str-in-Chart-2.result.now ≡ string_bytes c.in-Chart.answer = search rules in
    given_by (TimetableReply r c.as_str-in-Chart.result.now c.as_str-in-Chart-2.result.now IsChartOf) (IsReply r words) c.chart_file.result
    (λ status text is. (
      Some request,
      asks,
      subst (λ m. TimetableReply r (string_bytes c.in-Chart.file) m IsChartOf status text) other
          (subst (λ n. TimetableReply r n c.as_str-in-Chart-2.result.now IsChartOf status text) name is),
    ))
    c.chart_file.ensures

pub returns-in-Sweep : goal.returns-in-Sweep
returns-in-Sweep g c =
    let r = reading (g.F.Shelf.files c.args.shelf.now) (g.F.Shelf.faults c.args.shelf.now) (g.F.Shelf.faults c.sweep_file.new.shelf) in
    let words = words_of c.args.words.now in
    let request = Sweep c.in-Sweep.file c.in-Sweep.upto c.in-Sweep.budget c.in-Sweep.workers in
    let asks : IsRequestOf words (Some request) = search rules in
    let name : c.as_str-in-Sweep.result.now ≡ string_bytes c.in-Sweep.file = search rules in
    given_by (SweepReply r c.as_str-in-Sweep.result.now c.in-Sweep.upto c.in-Sweep.budget) (IsReply r words) c.sweep_file.result
    (λ status text is. (Some request, asks, subst (λ n. SweepReply r n c.in-Sweep.upto c.in-Sweep.budget status text) name is))
    c.sweep_file.ensures

pub returns-in-Follow : goal.returns-in-Follow
returns-in-Follow g c =
    let r = reading (g.F.Shelf.files c.args.shelf.now) (g.F.Shelf.faults c.args.shelf.now) (g.F.Shelf.faults c.follow_file.new.shelf) in
    let words = words_of c.args.words.now in
    let request = Follow c.in-Follow.file c.in-Follow.log in
    let asks : IsRequestOf words (Some request) = search rules in
    let name : c.as_str-in-Follow.result.now ≡ string_bytes c.in-Follow.file = search rules in
    let other : c.as_str-in-Follow-2.result.now ≡ string_bytes c.in-Follow.log = search rules in
    given_by (FollowReply r c.as_str-in-Follow.result.now c.as_str-in-Follow-2.result.now) (IsReply r words) c.follow_file.result
    (λ status text is. (
      Some request,
      asks,
      subst (λ m. FollowReply r (string_bytes c.in-Follow.file) m status text) other
          (subst (λ n. FollowReply r n c.as_str-in-Follow-2.result.now status text) name is),
    ))
    c.follow_file.ensures

pub returns-in-Batch : goal.returns-in-Batch
returns-in-Batch g c =
    let r = reading (g.F.Shelf.files c.args.shelf.now) (g.F.Shelf.faults c.args.shelf.now) (g.F.Shelf.faults c.batch_file.new.shelf) in
    let words = words_of c.args.words.now in
    let request = Batch c.in-Batch.list c.in-Batch.budget c.in-Batch.workers in
    let asks : IsRequestOf words (Some request) = search rules in
    let name : c.as_str-in-Batch.result.now ≡ string_bytes c.in-Batch.list = search rules in
    given_by (BatchReply r c.as_str-in-Batch.result.now c.in-Batch.budget) (IsReply r words) c.batch_file.result
    (λ status text is. (Some request, asks, subst (λ n. BatchReply r n c.in-Batch.budget status text) name is)) c.batch_file.ensures

pub returns-in-Margin : goal.returns-in-Margin
returns-in-Margin g c =
    let r = reading (g.F.Shelf.files c.args.shelf.now) (g.F.Shelf.faults c.args.shelf.now) (g.F.Shelf.faults c.margin_file.new.shelf) in
    let words = words_of c.args.words.now in
    let request = Margin c.in-Margin.file c.in-Margin.answer in
    let asks : IsRequestOf words (Some request) = search rules in
    let name : c.as_str-in-Margin.result.now ≡ string_bytes c.in-Margin.file = search rules in
    let other : c.as_str-in-Margin-2.result.now ≡ string_bytes c.in-Margin.answer = search rules in
    given_by (TimetableReply r c.as_str-in-Margin.result.now c.as_str-in-Margin-2.result.now IsMarginOf) (IsReply r words) c.margin_file.result
    (λ status text is. (
      Some request,
      asks,
      subst (λ m. TimetableReply r (string_bytes c.in-Margin.file) m IsMarginOf status text) other
          (subst (λ n. TimetableReply r n c.as_str-in-Margin-2.result.now IsMarginOf status text) name is),
    ))
    c.margin_file.ensures
