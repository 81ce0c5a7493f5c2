use Rattle.track_log.proofs.Finish as law
use Rattle.track_log.proofs.laws.texts_tell_logs.Goals as goal

pub returns : goal.returns
returns c = law.texts_tell_logs
