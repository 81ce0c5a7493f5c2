use Rattle.std.proofs.Common.{◌≡◌, ℕ, ◌++◌, Option, ap, ◌∙◌, arith}
use Rattle.std.specs.Prelude.{map}
use Rattle.std.specs.Option.{option_map}
use Rattle.tick_machine.specs.declared.event.What.{What}
use Rattle.tick_machine.specs.Layout.{layout_of}
use Rattle.tick_machine.specs.Scene.{scene_of}
use Rattle.tick_machine.specs.Points as points
use Rattle.tick_machine.specs.Events as events
use Rattle.tick_machine.proofs.Logs.{collect_more}
use Rattle.tick_machine.proofs.log.note_sets.Goals as goal

pub loop-h-preserved : goal.loop-h-preserved
loop-h-preserved c =
    let event = λ (h : ℕ). events.set_of (layout_of c.args.line.now) (option_map points.grown ((scene_of c.args.old.now).carry h)) in
    collect_more c.args.tick c.loop-h.h event c.args.log.now.items c.loop-h.log.items c.note.new.log.items c.loop-h.invariant
    (c.in_ok-note.ensures ∙ ap (λ (w : Option What). c.loop-h.log.items ++ map (events.at_tick c.args.tick) (events.given w)) c.set_of.ensures)

pub returns : goal.returns
returns c =
    let event = λ (h : ℕ). events.set_of (layout_of c.args.line.now) (option_map points.grown ((scene_of c.args.old.now).carry h)) in
    let e : c.loop-h.h ≡ c.args.line.now.hoists = omega arith in
    c.loop-h.invariant ∙ ap (λ (n : ℕ). c.args.log.now.items ++ map (events.at_tick c.args.tick) (events.collect n event)) e
