use Rattle.std.proofs.Common.{ap, ◌∙◌, drop, if◌then◌else◌}
use Rattle.line_text.specs.declared.fields.Field.TheVariants as fields
use Rattle.line_text.specs.Written.{root_pairs}
use Rattle.line_text.proofs.WrittenLemmas.{then_number, last_number}
use Rattle.line_text.proofs.write.push_root.Goals as goal

pub returns : goal.returns
returns c =
    let pairs = root_pairs c.args.line.now in
    then_number fields.Version _ _ (drop 1 pairs) _ _ _ (c.version.ensures ∙ ap (λ b. if b then 1 else 2) c.requires) c.in_ok-push_number.ensures
    (then_number fields.Track _ _ (drop 2 pairs) _ _ _ c.track.ensures.value c.in_ok-push_number-2.ensures
    (then_number fields.Gap _ _ (drop 3 pairs) _ _ _ c.gap.ensures.value c.in_ok-push_number-3.ensures
    (then_number fields.Hoists _ _ (drop 4 pairs) _ _ _ c.hoists.ensures.value c.in_ok-push_number-4.ensures
    (then_number fields.Degree _ _ (drop 5 pairs) _ _ _ c.degree.ensures.value c.in_ok-push_number-5.ensures
    (then_number fields.MaxPeriod _ _ (drop 6 pairs) _ _ _ c.max_period.ensures.value c.in_ok-push_number-6.ensures
    (then_number fields.Load _ _ (drop 7 pairs) _ _ _ c.load.ensures.value c.in_ok-push_number-7.ensures
    (last_number fields.Unload _ _ _ _ c.unload.ensures.value c.in_ok-push_number-8.ensures)))))))
