use Rattle.std.proofs.Common.{◌≡◌, ◌+◌, ◌<◌, map}
use Rattle.std.specs.List.{range_with_len}
use Rattle.line_gen.specs.Generated.{number_after, draw}
use Rattle.line_gen.proofs.choices.Choices.of_seed.Given as goal

abbrev pub invariant-loop-bath : goal.invariant-loop-bath
invariant-loop-bath l =
    (l.draws.x ≡ number_after l.seed (3 + l._bath)) × (l.draws.x < 2147483647)
    × (l.z.items ≡ map (λ count. draw l.seed count 80) (range_with_len 4 l._bath))
