-- The words of an answer's text.
use Rattle.std.specs.Prelude.{ℕ, List, codes, Bool, true, false}
use Rattle.answer_text.specs.declared.answer.Verdict.{Verdict}
use Rattle.answer_text.specs.declared.answer.Verdict.TheVariants.{Optimal, Nothing, Unfinished}
use Rattle.answer_text.specs.declared.words.TokenKind.{TokenKind}
use Rattle.answer_text.specs.declared.words.TokenKind.TheVariants as tokens

-- the first line, which says whether every stage of the line has one tank
abbrev pub version_text : Bool → List ℕ
version_text true = codes "hoist answer 1\n"
version_text false = codes "hoist answer 2\n"

abbrev pub verdict_text : Verdict → List ℕ
verdict_text Optimal = codes "optimal"
verdict_text Nothing = codes "none"
verdict_text Unfinished = codes "open"

-- the letter of a constraint, with the blanks round it
abbrev pub token_word : TokenKind → List ℕ
token_word tokens.Min = codes " m "
token_word tokens.Max = codes " x "
token_word tokens.Entry = codes " e "
token_word tokens.Visit = codes " v "
token_word tokens.Repeat = codes " r "
token_word tokens.Decided = codes " d "
