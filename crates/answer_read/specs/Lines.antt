-- How the lines of the tree are read.
use Rattle.std.specs.Prelude.{ℕ, ℤ, List, [], ◌∷◌, codes, Bool, true, false, Option, Some, None, Result, Ok, if◌then◌else◌}
use Rattle.hoist_base.specs.declared.ids.VisitId.{VisitId}
use Rattle.hoist_base.specs.declared.ids.MoveId.{MoveId}
use Rattle.choice_tree.specs.declared.constraint.Constraint.{Constraint}
use Rattle.choice_tree.specs.declared.constraint.Constraint.TheVariants.{Min, Max, Entry, Visit, Repeat, Decided}
use Rattle.text_writing.specs.Texts.{end}
use Rattle.answer_text.specs.declared.words.TokenKind.{TokenKind}
use Rattle.answer_text.specs.declared.words.TokenKind.TheVariants as tokens
use Rattle.answer_text.specs.Limits.{most_carrier, most_stage, most_decision, most_tokens, most_children, most_shift}
use Rattle.answer_text.specs.Words.{token_word}
use Rattle.answer_read.specs.declared.row.Row.{Row}
use Rattle.answer_read.specs.declared.row.Row.TheVariants as rows
use Rattle.answer_read.specs.declared.row.RowKind.{RowKind}
use Rattle.answer_read.specs.declared.row.RowKind.TheVariants as lines
use Rattle.answer_read.specs.declared.row.Tail.{Tail}
use Rattle.answer_read.specs.declared.row.Tail.TheVariants as tails
use Rattle.field_reading.specs.Reading.{◌>>=◌, word_at, number_at, signed_at, kind_at, begins, both_at, next_at, ended, items_at}

unfoldable pub pair_at : List ℕ → Result ((ℕ × ℕ) × List ℕ) ℕ
pair_at bytes = both_at (number_at 0 most_carrier) (codes " ") (number_at 0 most_stage) bytes

-- ---- constraints and walks

abbrev pub token_kinds : List TokenKind
token_kinds = tokens.Min ∷ tokens.Max ∷ tokens.Entry ∷ tokens.Visit ∷ tokens.Repeat ∷ tokens.Decided ∷ []

unfoldable pub token_rest : TokenKind → List ℕ → Result (Constraint × List ℕ) ℕ
token_rest tokens.Min bytes = pair_at bytes >>= λ x. Ok (Min x.0.0 x.0.1, x.1)
token_rest tokens.Max bytes = pair_at bytes >>= λ x. Ok (Max x.0.0 x.0.1, x.1)
token_rest tokens.Entry bytes = number_at 0 most_carrier bytes >>= λ x. Ok (Entry x.0, x.1)
token_rest tokens.Visit bytes = pair_at bytes >>= λ x. Ok (Visit x.0.0 x.0.1, x.1)
token_rest tokens.Repeat bytes = pair_at bytes >>= λ x. Ok (Repeat x.0.0 x.0.1, x.1)
token_rest tokens.Decided bytes = number_at 0 most_decision bytes >>= λ x. Ok (Decided x.0, x.1)

unfoldable pub token_at : List ℕ → Result (Constraint × List ℕ) ℕ
token_at bytes = do
  kind ← kind_at token_word token_kinds bytes
  token_rest kind.0 kind.1

-- how many constraints, and then each
unfoldable pub walk_at : List ℕ → Result (List Constraint × List ℕ) ℕ
walk_at bytes = do
  count ← number_at 1 most_tokens bytes
  items_at (λ i. token_at) 0 count.0 count.1

unfoldable pub walk_line_at : List ℕ → Result (List Constraint × List ℕ) ℕ
walk_line_at bytes = ended (walk_at bytes)

-- ---- lines

abbrev pub row_word : RowKind → List ℕ
row_word lines.Choose = codes "split choose "
row_word lines.TankOrder = codes "split tank "
row_word lines.HoistOrder = codes "split hoist "
row_word lines.Assign = codes "split assign "
row_word lines.ClosedLow = codes "closed low "
row_word lines.ClosedHigh = codes "closed high "
row_word lines.Stuck = codes "closed stuck "
row_word lines.Solved = codes "solved "
row_word lines.Left = codes "left "

abbrev pub single_kinds : List RowKind
single_kinds =
    lines.TankOrder ∷ lines.HoistOrder ∷ lines.Assign ∷ lines.ClosedLow ∷ lines.ClosedHigh ∷ lines.Stuck ∷ lines.Solved ∷ lines.Left ∷ []

abbrev pub all_kinds : List RowKind
all_kinds =
    lines.Choose ∷ lines.TankOrder ∷ lines.HoistOrder ∷ lines.Assign ∷ lines.ClosedLow ∷ lines.ClosedHigh ∷ lines.Stuck ∷ lines.Solved
    ∷ lines.Left ∷ []

-- where every stage has one tank, none is chosen
abbrev pub row_kinds : Bool → List RowKind
row_kinds true = single_kinds
row_kinds false = all_kinds

abbrev pub visit_of : ℕ × ℕ → VisitId
visit_of p = record { carrier = p.0; stage = p.1 }

abbrev pub move_of : ℕ × ℕ → MoveId
move_of p = record { carrier = p.0; step = p.1 }

-- a pair, and how many children follow
unfoldable pub counted_at : List ℕ → Result (((ℕ × ℕ) × ℕ) × List ℕ) ℕ
counted_at bytes = ended (both_at pair_at (codes " ") (number_at 0 most_children) bytes)

-- two pairs, and how many periods later the second is
unfoldable pub order_at : List ℕ → Result ((((ℕ × ℕ) × (ℕ × ℕ)) × ℤ) × List ℕ) ℕ
order_at bytes = ended (both_at (λ b. both_at pair_at (codes " ") pair_at b) (codes " ") (signed_at most_shift) bytes)

abbrev pub tail_word : Tail → List ℕ
tail_word tails.End = end
tail_word tails.High = codes " high "

abbrev pub tail_kinds : List Tail
tail_kinds = tails.End ∷ tails.High ∷ []

unfoldable pub tail_rest : Tail → List ℕ → Result (Option (List Constraint) × List ℕ) ℕ
tail_rest tails.End bytes = Ok (None, bytes)
tail_rest tails.High bytes = walk_line_at bytes >>= λ x. Ok (Some x.0, x.1)

-- the end of the line, or a high walk before it
unfoldable pub tail_at : List ℕ → Result (Option (List Constraint) × List ℕ) ℕ
tail_at bytes = do
  tail ← kind_at tail_word tail_kinds bytes
  tail_rest tail.0 tail.1

unfoldable pub stuck_at : Bool → List ℕ → Result ((ℕ × ℕ) × List ℕ) ℕ
stuck_at true bytes = ended (number_at 0 most_stage bytes) >>= λ x. Ok ((0, x.0), x.1)
stuck_at false bytes = ended (pair_at bytes)

unfoldable pub left_at : List ℕ → Result (Option (List Constraint) × List ℕ) ℕ
left_at bytes =
    if begins 110 bytes then (word_at (codes "none\n") bytes >>= λ rest. Ok (None, rest)) else (walk_line_at bytes >>= λ x. Ok (Some x.0, x.1))

unfoldable pub row_rest : Bool → RowKind → List ℕ → Result (Row × List ℕ) ℕ
row_rest single lines.Choose bytes = counted_at bytes >>= λ x. Ok (rows.Choose (visit_of x.0.0) x.0.1, x.1)
row_rest single lines.TankOrder bytes = order_at bytes >>= λ x. Ok (rows.TankOrder (visit_of x.0.0.0) (visit_of x.0.0.1) x.0.1, x.1)
row_rest single lines.HoistOrder bytes = order_at bytes >>= λ x. Ok (rows.HoistOrder (move_of x.0.0.0) (move_of x.0.0.1) x.0.1, x.1)
row_rest single lines.Assign bytes = counted_at bytes >>= λ x. Ok (rows.Assign (move_of x.0.0) x.0.1, x.1)
row_rest single lines.ClosedLow bytes = next_at walk_at tail_at bytes >>= λ x. Ok (rows.ClosedLow x.0.0 x.0.1, x.1)
row_rest single lines.ClosedHigh bytes = walk_line_at bytes >>= λ x. Ok (rows.ClosedHigh x.0, x.1)
row_rest single lines.Stuck bytes = stuck_at single bytes >>= λ x. Ok (rows.Stuck (move_of x.0), x.1)
row_rest single lines.Solved bytes = walk_line_at bytes >>= λ x. Ok (rows.Solved x.0, x.1)
row_rest single lines.Left bytes = left_at bytes >>= λ x. Ok (rows.Left x.0, x.1)

-- a line, with or without choices
unfoldable pub row_at : Bool → List ℕ → Result (Row × List ℕ) ℕ
row_at single bytes = do
  kind ← kind_at row_word (row_kinds single) bytes
  row_rest single kind.0 kind.1
