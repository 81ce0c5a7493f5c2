use Rattle.std.proofs.Common.{◌≡◌, ◌∙◌, ℕ, ◌<◌, ◌++◌, List, length, take, ℤ, pos, arith}
use Rattle.std.proofs.lemmas.List.{get_or_append_left, get_or-take}
use Rattle.longest_path.specs.Rounds.{number}
use Rattle.cycle_walk.proofs.closed_walks.begin.Goals as goal

-- what was written through a slice of a whole list
written : (n i : ℕ) (new rest : List ℤ) → i < n → i < length new → number (take n (new ++ rest)) i ≡ number new i
written n i new rest lt within = get_or-take n (new ++ rest) i (pos 0) lt ∙ get_or_append_left new rest (pos 0) i within

pub returns-clause-zero : goal.returns-clause-zero
returns-clause-zero c i lt =
    written _ i c.clear.new.rows _ (omega (arith, lt, c.requires, c.args.rows.now.ok))
    (omega (arith, lt, c.requires, c.clear.ensures.len, c.deref_mut.ensures.len)) ∙ c.clear.ensures.zero i lt
