use Rattle.startup_rundown.proofs.RunnerLaw.{driven_done}
use Rattle.run_rows.proofs.runs.played.Goals as goal

pub returns : goal.returns
returns c =
    driven_done c.args.line.now c.args.t.now c.args.carriers c.drive-runner.result c.in_ok-played.played
    c.drive-runner.ensures.done c.drive-runner.ensures.runner c.in_ok-played.ensures.run
