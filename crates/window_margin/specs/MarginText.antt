-- The text of a margin: its ticks, and the closed walk that leaves no more, a line a constraint.
use Rattle.std.specs.Prelude.{ℕ, List, ◌++◌, codes, decimal, flat_map, length}
use Rattle.std.specs.Fmt.{signed_decimal}
use Rattle.text_writing.specs.Texts.{end, pair_text}
use Rattle.window_margin.specs.declared.reads.MarginArc.{MarginArc}
use Rattle.window_margin.specs.declared.reads.MarginRead.{MarginRead}
use Rattle.window_margin.specs.declared.reads.MarginRead.TheVariants.{NoWindow, Found}

-- the moves that a constraint joins, what it asks, and how often the margin stands in it
abbrev pub arc_line : MarginArc → List ℕ
arc_line a =
    codes "arc "
    ++ (pair_text a.from.carrier a.from.step
    ++ (codes " "
    ++ (pair_text a.to.carrier a.to.step
    ++ (codes " " ++ (signed_decimal a.w ++ (codes " " ++ (decimal a.g ++ end)))))))

abbrev pub margin_text : MarginRead → List ℕ
margin_text NoWindow = codes "margin none\n"
margin_text (Found ticks starts walk) =
    codes "margin "
    ++ (decimal ticks
    ++ (codes "\nwalk " ++ (decimal (length walk) ++ (codes "\n" ++ (flat_map arc_line walk ++ codes "end\n")))))
