-- The answer of a drill, written and read back.
use Rattle.std.proofs.Common.{◌≡◌, ℕ, List, ◌++◌, codes, decimal, Option, ap, sym, subst, ◌∙◌}
use Rattle.hoist_base.specs.LineData.{LineData}
use Rattle.hoist_base.specs.Valid.{IsLine}
use Rattle.timetable.specs.TimetableData.{TimetableData}
use Rattle.answer_text.specs.declared.answer.Verdict.{Verdict}
use Rattle.answer_text.specs.declared.answer.Answer.{Answer}
use Rattle.answer_text.specs.Words.{verdict_text}
use Rattle.answer_text.specs.Answers.{answer_text}
use Rattle.answer_read.specs.declared.answer.AnswerRead.{AnswerRead}
use Rattle.answer_read.specs.declared.answer.AnswerRead.TheVariants.{Ready, Broken}
use Rattle.answer_read.specs.Answers.{IsAnswer, IsRead}
use Rattle.answer_read.specs.Same.{SayTheSame}
use Rattle.read_back.proofs.Back.{text_is_read}
use Rattle.hoist_cli.specs.Drill.{made_text, period_text, played_text, drill_text}

-- the text of a drill, by what it tells of the answer
abbrev told_text : ℕ → LineData → Verdict → ℕ → ℕ → Option TimetableData → List ℕ
told_text seed l verdict bound splits timetable =
    made_text seed l
    ++ ((codes "\nverdict "
    ++ (verdict_text verdict
    ++ (codes "\nbound "
    ++ (decimal bound
    ++ (codes "\nsplits "
    ++ (decimal splits
    ++ (codes "\nperiod "
    ++ period_text timetable)))))))
    ++ (codes "\ncheck accepted\nrun " ++ (played_text l timetable ++ codes "\n")))

-- answers that say the same have one text of a drill
pub same_told : (seed : ℕ) (l : LineData) (a b : Answer) → SayTheSame a b → drill_text seed l b ≡ drill_text seed l a
same_told seed l a b same =
    ap (λ (v : Verdict). told_text seed l v b.bound b.splits b.timetable) (sym same.verdict)
    ∙ ap (λ (n : ℕ). told_text seed l a.verdict n b.splits b.timetable) (sym same.bound)
    ∙ ap (λ (n : ℕ). told_text seed l a.verdict a.bound n b.timetable) (sym same.splits)
    ∙ ap (λ (t : Option TimetableData). told_text seed l a.verdict a.bound a.splits t) (sym same.timetable)

-- what is read of an answer's text
pub read_as : (l : LineData) (a back : Answer) (bytes : List ℕ) (r : AnswerRead) → IsLine l → IsAnswer l a
    → bytes ≡ answer_text l a → IsRead l bytes r
    → r ≡ Ready back → IsAnswer l back × SayTheSame a back
read_as l a back bytes r line answer e read is =
    let (b, ready, text, same) = text_is_read l a r line answer (subst (λ (x : List ℕ). IsRead l x r) e read) in
    let both : Ready b ≡ Ready back = sym ready ∙ is in
    let one : b ≡ back = cc in
    (subst (λ (x : Answer). IsAnswer l x) one text.answer, subst (λ (x : Answer). SayTheSame a x) one same)

pub never_broken : (l : LineData) (a : Answer) (bytes : List ℕ) (r : AnswerRead) (offset : ℕ) → IsLine l → IsAnswer l a
    → bytes ≡ answer_text l a
    → IsRead l bytes r → r ≡ Broken offset → ⊥
never_broken l a bytes r offset line answer e read is =
    let (b, ready, text, same) = text_is_read l a r line answer (subst (λ (x : List ℕ). IsRead l x r) e read) in
    let both : Ready b ≡ Broken offset = sym ready ∙ is in
    absurd cc
