use Rattle.std.proofs.Common.{◌∙◌, ap, refl, ℕ, ◌+◌, ◌*◌, length}
use Rattle.longest_path.specs.System.{SystemData}
use Rattle.window_margin.specs.Arcs.{undecided_arcs}
use Rattle.window_margin.proofs.UndecidedLemmas.{others_few, others_are, undecided_are}
use Rattle.window_margin.proofs.margin_arcs.undecided_arcs.Goals as goal

pub overflow_sub-arcs : goal.overflow_sub-arcs
overflow_sub-arcs c =
    others_few c.args.line.now c.args.path.now _ c.arcs-arcs.result.now c.requires.chosen.free
    (c.arcs-arcs.ensures.value ∙ ap (λ (s : SystemData). s.arcs) c.in_ok-system.ensures)
    (others_are c.degree.result c.inner.result c.args.line.now c.degree.ensures.value c.inner.ensures.count)

pub returns : goal.returns
returns c =
    let l = c.args.line.now in
    let path = c.args.path.now in
    undecided_are l path (length c.arcs-arcs.result.now) (c.degree.result * (2 * c.inner.result + 3)) c.period.result c.arcs-arcs.result.now
    c.in_ok-listed.listed.items c.requires.chosen.free (c.arcs-arcs.ensures.value ∙ ap (λ (s : SystemData). s.arcs) c.in_ok-system.ensures) refl
    (others_are c.degree.result c.inner.result l c.degree.ensures.value c.inner.ensures.count) c.in_ok-listed.ensures
    ∙ ap (λ (n : ℕ). undecided_arcs l path n) c.period.ensures.value
