use Rattle.std.proofs.Common.{◌≡◌, ◌++◌, codes, flat_map, take}
use Rattle.line_text.specs.Written.{tank_name, quoted}
use Rattle.line_text.proofs.write.push_more_names.Given as goal

abbrev pub invariant-loop-tank : goal.invariant-loop-tank
invariant-loop-tank l =
    l.text.items ≡ l.fn.text.items ++ flat_map (λ i. codes ", " ++ quoted (tank_name l.line i)) (take l.tank-index l.tanks)
