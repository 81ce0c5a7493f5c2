use Rattle.std.proofs.Common.{◌≡◌, codes, map, take}
use Rattle.markup.specs.declared.words.Tag.TheVariants as tags
use Rattle.markup.specs.declared.words.Key.TheVariants as keys
use Rattle.markup.specs.Forms.{fresh, having, holding_all}
use Rattle.report_reason.specs.Decisions.{decision_item}
use Rattle.report_reason.proofs.decisions.decision_list.Given as goal

abbrev pub invariant-loop-i : goal.invariant-loop-i
invariant-loop-i l =
    l.list ≡ holding_all (having (fresh tags.List) keys.Class (codes "choices")) (map (decision_item l.line l.path) (take l.i l.path))
