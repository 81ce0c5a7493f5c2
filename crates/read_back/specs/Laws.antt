-- What holds of an answer that was written and read back.
use Rattle.std.specs.Prelude.{◌≡◌, ℕ, ◌^◌, ◌≤◌, length}
use Rattle.hoist_base.specs.LineData.{LineData}
use Rattle.hoist_base.specs.Valid.{IsLine}
use Rattle.answer_text.specs.declared.answer.Answer.{Answer}
use Rattle.answer_text.specs.Answers.{answer_text}
use Rattle.answer_read.specs.declared.answer.AnswerRead.{AnswerRead}
use Rattle.answer_read.specs.declared.answer.AnswerRead.TheVariants.{Ready}
use Rattle.answer_read.specs.Answers.{IsAnswer, IsTextOf, IsRead}
use Rattle.cert_checker.specs.Reasons.{split_count}
use Rattle.cert_checker.specs.Rules.{KeepsRules}
use Rattle.answer_read.specs.Same.{SayTheSame}

-- every right answer about the text of an answer is an answer that has this text and says the same
abbrev pub TextIsRead : Type 0
TextIsRead =
    (l : LineData) (a : Answer) (r : AnswerRead) → IsLine l → IsAnswer l a → IsRead l (answer_text l a) r
    → (b : Answer) × (r ≡ Ready b) × IsTextOf l (answer_text l a) b × SayTheSame a b

-- of two answers that say the same, both keep the checker's rules or none does
abbrev pub RulesAreKept : Type 0
RulesAreKept = (l : LineData) (a b : Answer) → IsAnswer l a → IsAnswer l b → SayTheSame a b → KeepsRules l a → KeepsRules l b

-- so many splits a tree may have, so that the text of its answer can be read whatever its walks are
abbrev pub many_splits : ℕ
many_splits = 3000

-- the text of an answer with no more splits isn't too long to be read
abbrev pub TextIsShort : Type 0
TextIsShort =
    (l : LineData) (a : Answer) → IsLine l → IsAnswer l a → split_count a.tree ≤ many_splits → length (answer_text l a) ≤ 2 ^ 30
