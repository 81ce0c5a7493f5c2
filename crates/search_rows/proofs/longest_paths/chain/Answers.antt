use Rattle.std.proofs.Common.{ap, refl, arith}
use Rattle.longest_path.specs.declared.systems.Arc.{Arc}
use Rattle.search_rows.specs.Chain.{IsChain}
use Rattle.search_rows.proofs.ChainLemmas.{chain_reached}
use Rattle.search_rows.proofs.longest_paths.chain.Goals as goal

pub returns : goal.returns
returns c =
    let chain : IsChain c.args.nodes c.new-s.result = rw c.new-s.ensures (record {
      nodes_are = refl;
      count = omega (arith, c.loop-k.invariant.0, c.loop-k-test.false, c.requires.nodes);
      links = λ k lt.
          let link = c.loop-k.invariant.1 k (omega (arith, lt, c.loop-k.invariant.0)) in
          (ap (λ (a : Arc). a.from) link, ap (λ (a : Arc). a.to) link);
    }) in
    record { reached = chain_reached c.args.nodes c.new-s.result chain }
