use Rattle.std.proofs.Common.{◌++◌, sym, ◌∙◌}
use Rattle.batch_lines.specs.Parts.{parts_text, parts_of}
use Rattle.batch_lines.proofs.PartLemmas.{refusal_more, first_more}
use Rattle.batch_lines.proofs.parts.push_parts.Goals.{in-Some+in_ok-push_refusal-in-Some, in-None+in-len1-up+in_ok-push_single-in-None}
use Rattle.batch_lines.proofs.parts.push_parts.Goals as goal

pub loop-i-preserved : goal.loop-i-preserved
loop-i-preserved c =
    let total = c.args.text.now.items ++ parts_text 0 (parts_of c.args.whys.now c.args.singles.now) in
    elim c.match-whys-i.branch [
      | in-Some+in_ok-push_refusal-in-Some w ↦
          rw (w.text-is, w.rest-is, w.in_ok-push_refusal-in-Some.ensures)
          (refusal_more c.loop-i.text.items c.loop-i.i c.args.whys.now c.loop-i.rest.now total _ w.in-Some.why
          c.loop-i-test.true (sym c.index-whys-i.is ∙ w.in-Some.is) c.loop-i.invariant)
      | in-None+in-len1-up+in_ok-push_single-in-None w ↦
          rw (w.text-is, w.rest-is, w.in_ok-push_single-in-None.ensures, w.single-item.is)
          (first_more c.loop-i.text.items c.loop-i.i c.args.whys.now c.loop-i.rest.now total _ _ c.loop-i-test.true (sym c.index-whys-i.is ∙ w.in-None.is)
          w.in-len1-up.len_at_least c.loop-i.invariant)
    ]
