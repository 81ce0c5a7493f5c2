use Rattle.longest_path.proofs.rounds.relax.Goals as goal

pub returns-clause-row : goal.returns-clause-row
returns-clause-row c i i_in = (_, c.bring_near.ensures.row i i_in, c.bring.ensures.row i i_in)
