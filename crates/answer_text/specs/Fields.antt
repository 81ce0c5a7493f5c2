-- The texts of constraints and walks.
use Rattle.std.specs.Prelude.{ℕ, ◌≤◌, List, ◌++◌, decimal, length, flat_map, All}
use Rattle.choice_tree.specs.declared.constraint.Constraint.{Constraint}
use Rattle.choice_tree.specs.declared.constraint.Constraint.TheVariants.{Min, Max, Entry, Visit, Repeat, Decided}
use Rattle.text_writing.specs.Texts.{pair_text}
use Rattle.answer_text.specs.declared.words.TokenKind.TheVariants as tokens
use Rattle.answer_text.specs.Words.{token_word}
use Rattle.answer_text.specs.Limits.{most_carrier, most_stage, most_decision, most_tokens}

-- a constraint, with the blank before it
abbrev pub token_text : Constraint → List ℕ
token_text (Min c k) = token_word tokens.Min ++ pair_text c k
token_text (Max c k) = token_word tokens.Max ++ pair_text c k
token_text (Entry c) = token_word tokens.Entry ++ decimal c
token_text (Visit c k) = token_word tokens.Visit ++ pair_text c k
token_text (Repeat c k) = token_word tokens.Repeat ++ pair_text c k
token_text (Decided i) = token_word tokens.Decided ++ decimal i

-- how many constraints, and then each
abbrev pub walk_text : List Constraint → List ℕ
walk_text walk = decimal (length walk) ++ flat_map token_text walk

-- a carrier, and a step or a stage, that a text may name
abbrev pub IsPair : ℕ → ℕ → Type 0
IsPair c k = (c ≤ most_carrier) × (k ≤ most_stage)

abbrev pub IsToken : Constraint → Type 0
IsToken (Min c k) = IsPair c k
IsToken (Max c k) = IsPair c k
IsToken (Entry c) = c ≤ most_carrier
IsToken (Visit c k) = IsPair c k
IsToken (Repeat c k) = IsPair c k
IsToken (Decided i) = i ≤ most_decision

pub record IsWalk (walk : List Constraint) : Type 0 where
  pub some : 1 ≤ length walk
  pub few : length walk ≤ most_tokens
  pub tokens : All IsToken walk
