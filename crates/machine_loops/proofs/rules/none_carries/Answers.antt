use Rattle.std.proofs.Common.{rules}
use Rattle.list_facts.proofs.Elements.{up_to_more}
use Rattle.tick_machine.specs.Scene.{scene_of}
use Rattle.machine_loops.specs.RuleTests.{CarriesNot}
use Rattle.machine_loops.proofs.rules.none_carries.Goals as goal

pub loop-j-preserved : goal.loop-j-preserved
loop-j-preserved c = up_to_more (CarriesNot (scene_of c.args.frame.now) c.args.carrier) c.loop-j.j c.loop-j.invariant (c.carries_not.ensures.0 (search rules))
