use Rattle.worker_pool.proofs.Pooled.{kept_answer}
use Rattle.worker_pool.proofs.worker.keep_answer.Goals as goal

pub returns-clause-keeps : goal.returns-clause-keeps
returns-clause-keeps g c list k =
    kept_answer (g.W.Work.answers c.args.work.now) c.args.jobs.now list c.args.kept.now.items c.push.new.self.items
    c.args.number c.index-jobs-number.result c.in_ok-answer.answer
    c.requires.number c.index-jobs-number.is c.in_ok-answer.ensures.answer c.in_ok-push.ensures.items k
