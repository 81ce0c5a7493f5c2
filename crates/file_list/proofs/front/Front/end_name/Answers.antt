use Rattle.std.proofs.Common.{◌≡◌, true, false}
use Rattle.file_list.proofs.Lists.{name_utf8}
use Rattle.file_list.proofs.front.Front.end_name.Goals as goal

pub unreachable-requires : goal.unreachable-requires
unreachable-requires c =
    let said : false ≡ true = c.in_default.ensures.succeeds (rw c.replace-bytes.ensures.value (name_utf8 c.args.self.now.name.items c.requires)) in
    absurd cc
