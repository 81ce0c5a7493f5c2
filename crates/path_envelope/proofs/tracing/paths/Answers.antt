-- Rows of all hoists are the lowest paths.
use Rattle.std.proofs.Common.{◌≡◌, ℕ, subst, arith}
use Rattle.path_envelope.specs.Duties.{duties}
use Rattle.path_envelope.specs.Slots.{AreLayers}
use Rattle.path_envelope.proofs.FinishLemmas.{agree, are_lowest}
use Rattle.path_envelope.proofs.tracing.paths.Goals as goal

pub returns : goal.returns
returns c =
    let p = duties c.args.line.now c.args.route.now c.args.period c.args.starts.now c.args.hoists.now in
    let all : c.loop-h.h ≡ c.args.line.now.hoists = omega arith in
    let layers : AreLayers c.args.line.now p c.args.line.now.hoists c.loop-h.rows.items = subst
    (λ (n : ℕ). AreLayers c.args.line.now p n c.loop-h.rows.items) all c.loop-h.invariant.layers in
    record {
      traced = (
        agree c.args.line.now p c.loop-h.rows.items (omega arith) c.requires.reach layers,
        are_lowest c.args.line.now p c.loop-h.rows.items (omega arith) c.hoists.ensures.valid c.requires.reach layers,
      );
    }
