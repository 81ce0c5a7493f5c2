use Rattle.std.proofs.Common.{length, ap, ◌∙◌, refl, arith}
use Rattle.batch_lines.proofs.BatchLemmas.{lines_fewer, singles_counted, batch_text_is}
use Rattle.batch_lines.proofs.batches.batch_text.Goals as goal

pub batch-requires-clause-few : goal.batch-requires-clause-few
batch-requires-clause-few g c κs within =
    omega (arith, ap length (c.as_slice.ensures.value ∙ c.in_ok-lines.ensures.lines), lines_fewer c.args.reads.items, c.requires.few)

pub push_parts-requires : goal.push_parts-requires
push_parts-requires g c =
    singles_counted c.args.budget c.args.reads.items c.as_slice.result.now c.as_slice-files.result.now c.as_slice-2.result.now c.in_ok-singles.singles
    (c.as_slice.ensures.value ∙ c.in_ok-lines.ensures.lines) (c.as_slice-files.ensures.value ∙ c.in_ok-lines.ensures.whys) c.as_slice-2.ensures
    c.in_ok-singles.ensures

pub returns : goal.returns
returns g c =
    batch_text_is c.args.budget c.args.reads.items c.as_slice.result.now c.as_slice-files.result.now
    c.as_slice-2.result.now c.in_ok-singles.singles (length c.as_slice-files.result.now)
    c.new-text.result.items c.push_parts.new.text.items c.push_word_number.new.text.items c.push.new.self.items
    (c.as_slice.ensures.value ∙ c.in_ok-lines.ensures.lines) (c.as_slice-files.ensures.value ∙ c.in_ok-lines.ensures.whys) c.as_slice-2.ensures
    c.in_ok-singles.ensures c.new-text.ensures.items c.in_ok-push_parts.ensures c.in_ok-push_word_number.ensures c.in_ok-push.ensures.items
    refl
