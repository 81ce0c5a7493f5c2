use Rattle.std.proofs.Common.{◌+◌, ◌-◌, ◌*◌, ◌≤◌, ◌<◌, length, subst, sym, arith, ◌∙◌}
use Rattle.branch_rounds.specs.Grown.{Search}
use Rattle.branch_rounds.specs.Kept.{IsKept}
use Rattle.branch_rounds.proofs.RoundLemmas.{kept_round, round_less, is_round, narrow}
use Rattle.branch_rounds.proofs.state.Search.round.Goals as goal

pub take_all-requires : goal.take_all-requires
take_all-requires g c =
    let xs = c.in_ok-expansions.expansions.items in
    let e = c.in_ok-expansions.ensures in
    record {
      placed = c.requires.kept.placed;
      narrow = narrow c.args.line.now c.args.self.now xs e.answers;
      few = omega (arith, e.count, c.round_size-count.ensures);
      room = omega (arith, e.count, c.round_size-count.ensures, c.requires.budget, c.requires.unspent);
    }

pub returns : goal.returns
returns g c =
    let xs = c.in_ok-expansions.expansions.items in
    let l = c.args.line.now in
    let s = c.args.self.now in
    let e = c.in_ok-expansions.ensures in
    let now = c.in_ok-take_all.ensures in
    let size = e.count ∙ c.round_size-count.ensures in
    let less = round_less c.args.budget s xs (narrow l s xs e.answers) c.requires.some c.requires.unspent size in
    let K : Search → Type 0 = λ t. IsKept l t in
    let B : Search → Type 0 = λ t. t.splits ≤ c.args.budget in
    let D : Search → Type 0 = λ t. length t.frontier + 6 * (c.args.budget - t.splits) < length s.frontier + 6 * (c.args.budget - s.splits) in
    record {
      expander = e.expander;
      round = (xs, is_round l c.args.budget s xs c.requires.some c.requires.unspent size e.answers, now);
      kept =
          subst K (sym now) (kept_round l s xs e.valid c.requires.kept e.answers (omega (arith, size))
          (omega (arith, size, c.requires.budget, c.requires.unspent)));
      splits = subst B (sym now) less.0;
      less = subst D (sym now) less.1;
    }
