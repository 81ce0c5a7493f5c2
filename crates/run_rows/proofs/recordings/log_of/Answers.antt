use Rattle.track_log.proofs.RunTanks.{runner_begins}
use Rattle.run_rows.proofs.recordings.log_of.Goals as goal

pub write_log-requires-clause-tanks : goal.write_log-requires-clause-tanks
write_log-requires-clause-tanks c =
    runner_begins c.args.line.now c.args.t.now c.args.carriers c.drive-runner.result c.keeps_its_rules.ensures c.requires.legal c.drive-runner.ensures.runner
