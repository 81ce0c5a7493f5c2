use Rattle.std.proofs.Common.{◌≡◌, length}
use Rattle.branch_rounds.specs.Kept.{AreAnswers}
use Rattle.branch_rounds.proofs.state.Search.expand_in_turn.Given as goal

abbrev pub invariant-loop-k : goal.invariant-loop-k
invariant-loop-k g l = record {
  expander : l.expander ≡ l.line;
  count : length l.expansions.items ≡ l.k;
  answers : AreAnswers l.line l.self l.expansions.items;
}
