use Rattle.std.proofs.Common.{refl}
use Rattle.node_expand.proofs.NoneLemmas.{on_err}
use Rattle.node_expand.proofs.PathLemmas.{names_next, path_more, begins_more, begins_same, outgrows}
use Rattle.node_expand.proofs.path_system.PathSystem.take_in.Goals as goal

pub returns-in_err-push_name-clause-err : goal.returns-in_err-push_name-clause-err
returns-in_err-push_name-clause-err c =
    on_err c.from_residual-in_err-push_name.result _
    (outgrows c.args.self.now c.push.new.self c.args.self.now.system c.push_name.new.names (begins_more _ _ _ c.in_ok-push.ensures.items)
    (begins_same _ _ c.in_err-push_name.ensures.err) refl)

pub returns-in_err-decide-clause-err : goal.returns-in_err-decide-clause-err
returns-in_err-decide-clause-err c =
    on_err c.from_residual-in_err-decide.result _
    (outgrows c.args.self.now c.push.new.self c.decide.new.s c.push_name.new.names (begins_more _ _ _ c.in_ok-push.ensures.items)
    (begins_more _ _ _ c.in_ok-push_name.ensures.ok) c.in_err-decide.ensures.err)

pub returns-clause-ok : goal.returns-clause-ok
returns-clause-ok c =
    let l = c.args.line.now in
    let path = c.args.path.now in
    let i = c.args.i in
    record {
      path = path_more path i _ _ _ _ c.requires.there refl c.requires.at.path c.in_ok-push.ensures.items;
      system = c.in_ok-decide.ensures.ok;
      names = names_next l path i _ _ _ _ c.requires.there refl c.requires.at.names c.in_ok-push_name.ensures.ok;
      base = c.requires.at.base;
    }
