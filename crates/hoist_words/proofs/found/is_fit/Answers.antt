use Rattle.std.proofs.Common.{rules}
use Rattle.hoist_words.proofs.ReadingLemmas.{fit_value}
use Rattle.hoist_words.proofs.found.is_fit.Goals as goal

pub returns : goal.returns
returns c = fit_value c.args.limits c.args.given c.in-Some.value c.as_bytes.result.now c.in-Some.is (search rules) (search rules) (search rules)
