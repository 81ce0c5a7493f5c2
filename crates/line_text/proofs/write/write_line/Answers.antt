use Rattle.std.proofs.Common.{◌++◌, ap, ◌∙◌}
use Rattle.std.specs.List.{flat_map}
use Rattle.line_text.specs.File.{bytes_read}
use Rattle.line_text.specs.Written.{tank_text}
use Rattle.line_text.proofs.WrittenLemmas.{whole}
use Rattle.line_text.proofs.WrittenRead.{written_lines_are_read}
use Rattle.line_text.proofs.write.write_line.Goals as goal

pub push_root-requires : goal.push_root-requires
push_root-requires c = c.single-single.ensures.test

pub push_stages-requires : goal.push_stages-requires
push_stages-requires c = c.single-single.ensures.test

pub returns : goal.returns
returns c =
    let l = c.args.line.now in
    let text = whole l _ _ _ _ c.new-text.ensures.items c.in_ok-push_root.ensures
    (c.in_ok-push_tanks.ensures ∙ ap (λ tanks. c.push_root.new.text.items ++ flat_map tank_text tanks) c.tanks.ensures.value) c.in_ok-push_stages.ensures in
    record {
      text = text;
      reads = ap bytes_read text ∙ written_lines_are_read l c.tanks.ensures.valid;
    }
