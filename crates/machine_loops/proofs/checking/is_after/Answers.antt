use Rattle.std.proofs.Common.{rules, ◌≡◌, ◌+◌, length, sym, ◌∙◌}
use Rattle.machine_loops.specs.Loops.{raised, frame_after}
use Rattle.machine_loops.specs.Lists.{scenes}
use Rattle.machine_loops.proofs.CheckLemmas.{raised_none, frame_next}
use Rattle.machine_loops.proofs.checking.is_after.Goals as goal

pub returns-else-i-frames : goal.returns-else-i-frames
returns-else-i-frames c =
    let frames = scenes c.args.frames.now in
    let e : raised 0 (frames (c.args.i + 1)) ≡ frame_after c.args.line.now (length c.args.frames.now) frames c.args.i =
    raised_none (frames (c.args.i + 1)) ∙ sym (frame_next c.args.line.now (length c.args.frames.now) frames c.args.i (search rules)) in
    (λ test. c.is_later_than-else-i-frames.ensures.0 test ∙ e, λ same. c.is_later_than-else-i-frames.ensures.1 (same ∙ sym e))
