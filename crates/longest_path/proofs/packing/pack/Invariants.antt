use Rattle.longest_path.specs.Near.{IsPacked}
use Rattle.longest_path.proofs.packing.pack.Given as goal

abbrev pub invariant-loop-k : goal.invariant-loop-k
invariant-loop-k l = IsPacked l.s l.period l.k l.count l.near l.steps
