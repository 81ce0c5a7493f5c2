-- The answer of an outcome of the search, with all that is known of it.
use Rattle.std.proofs.Common.{◌≡◌, ℕ, ◌≤◌, refl, sym, subst, arith, Option, IfSome}
use Rattle.std.specs.Prelude.{MatchOption, ⊤}
use Rattle.hoist_base.specs.LineData.{LineData}
use Rattle.line_model.specs.Legal.{IsLegal}
use Rattle.timetable.specs.TimetableData.{TimetableData, timetable_of, IsTimetableOf}
use Rattle.branch_rounds.specs.declared.outcome.Outcome.{Outcome}
use Rattle.branch_rounds.specs.Searched.{IsSearched}
use Rattle.answer_text.specs.declared.answer.Verdict.{Verdict}
use Rattle.answer_text.specs.Answers.{HasSmallPath}
use Rattle.cert_checker.proofs.RuleLemmas.{no_reason}
use Rattle.cert_checker.specs.Rules.{KeepsRules}
use Rattle.solve_line.specs.AnswerOf.{verdict_of, IsPlanOr}
use Rattle.solve_line.specs.Solved.{IsSolved}
use Rattle.solve_line.proofs.AcceptedLemmas.{keeps_rules}
use Rattle.solve_line.proofs.Claimed.{keeps_claim, answer_with}

solved_with : (l : LineData) (budget : ℕ) (o : Outcome) (t : Option TimetableData) → budget ≤ 20000
    → IsSearched l budget o
    → IsPlanOr l o.best t → IfSome t (λ d. IsLegal l (timetable_of d))
    → MatchOption t ⊤ (λ d. IsTimetableOf l d × HasSmallPath d)
    → IsSolved l budget (answer_with o t)
solved_with l budget o t small s plan legal fits =
    let rules : KeepsRules l (answer_with o t) =
    keeps_rules l o.left o.splits o.bound o.best o.tree t s.whole s.bound.1 s.splits_counted s.none_left s.some_left s.proves plan legal in
    record {
      valid = s.valid;
      solution = (o, s.grown, record { verdict = refl; bound = refl; splits = refl; tree = refl; timetable = plan });
      claim = keeps_claim l budget o.left o.splits o.bound o.best o.tree t s.valid s.whole s.spent s.enough s.proves s.none_below plan legal;
      writable = record {
        bound = (s.bound.0, omega (arith, s.bound.2));
        splits = omega (arith, s.splits, small);
        timetable = fits;
        nodes = s.texts;
      };
      tree = s.tree;
      spent = s.splits;
      accepted = rules;
      no_reason = λ r has. no_reason l (answer_with o t) r s.valid s.tree rules has;
    }

pub is_solved : (l : LineData) (budget : ℕ) (o : Outcome) (t : Option TimetableData) (v : Verdict) → v ≡ verdict_of o
    → budget ≤ 20000
    → IsSearched l budget o → IsPlanOr l o.best t → IfSome t (λ d. IsLegal l (timetable_of d))
    → MatchOption t ⊤ (λ d. IsTimetableOf l d × HasSmallPath d)
    → IsSolved l budget (record (answer_with o t) { verdict = v })
is_solved l budget o t v same small s plan legal fits =
    let P : Verdict → Type 0 = λ w. IsSolved l budget (record (answer_with o t) { verdict = w }) in
    subst P (sym same) (solved_with l budget o t small s plan legal fits)
