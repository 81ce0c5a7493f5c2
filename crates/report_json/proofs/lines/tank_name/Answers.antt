use Rattle.std.proofs.Common.{◌≡◌, ◌∙◌, sym, ap, subst}
use Rattle.std.specs.Str.{IsUtf8}
use Rattle.std.proofs.lemmas.List.{get_or_read}
use Rattle.hoist_base.specs.declared.tank.Tank.{Tank}
use Rattle.hoist_base.specs.LineData.{tank, no_tank}
use Rattle.serde_json.specs.Data.{string}
use Rattle.report_json.proofs.Names.{name_is_utf8}
use Rattle.report_json.proofs.lines.tank_name.Goals as goal

pub returns : goal.returns
returns c =
    let l = c.args.line.now in
    let i = c.args.tank in
    let found = get_or_read l.tanks i c.index-tanks-tank.result c.requires (rw c.tanks.ensures.value at c.index-tanks-tank.is) no_tank in
    let bytes : c.as_slice-bytes.result.now ≡ (tank l i).name =
    c.as_slice-bytes.ensures ∙ ap (λ (x : Tank). x.name) (sym c.index-tanks-tank.is ∙ found) in
    let right : IsUtf8 c.as_slice-bytes.result.now = subst IsUtf8 (sym bytes) (name_is_utf8 l i c.tanks.ensures.valid c.requires) in
    c.from.ensures ∙ ap string (c.in_ok-name.ensures.ok right ∙ bytes)
