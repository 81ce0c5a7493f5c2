-- What is printed of an answer to a line.
use Rattle.std.specs.Prelude.{◌≡◌, ℕ, ◌⊎◌, List, ◌++◌, codes, Some, None}
use Rattle.hoist_base.specs.LineData.{LineData, is_single}
use Rattle.line_model.specs.Legal.{NoneBelow}
use Rattle.line_model.specs.Timetable.{Timetable}
use Rattle.timetable.specs.TimetableData.{TimetableData, timetable_of}
use Rattle.answer_text.specs.declared.answer.Answer.{Answer}
use Rattle.cert_checker.specs.declared.reason.Reason.{Reason}
use Rattle.cert_checker.specs.declared.checked.Checked.TheVariants.{Accepted, Rejected}
use Rattle.cert_checker.specs.Order.{IsFirstReason, claim_of}
use Rattle.cert_checker.specs.Rules.{KeepsRules}
use Rattle.check_text.specs.Reasons.{checked_of}
use Rattle.markup.specs.Forms.{IsDocument}
use Rattle.hoist_cli.specs.declared.status.Status.TheVariants.{Done, Negative}
use Rattle.hoist_cli.specs.Reading.{Replies}
use Rattle.report_words.specs.declared.words.Form.{Form}
use Rattle.report_words.specs.declared.words.Form.TheVariants.{Page, Json}
use Rattle.report_json.specs.Document.{json_text}
use Rattle.report_page.specs.Page.{IsPage}

-- the text of an answer and its timetable in a form: a page, which is well-formed, or the one document of JSON
abbrev pub IsTextIn : Form → LineData → Answer → Timetable → List ℕ → Type 0
IsTextIn Page l a p text = IsPage l a p text × IsDocument text
IsTextIn Json l a p text = text ≡ json_text l a p

-- the answer is accepted: it keeps all rules, and no legal timetable has a period below its bound
pub record IsAccepted (l : LineData) (a : Answer) : Type 0 where
  pub kept : KeepsRules l a
  pub none_below : NoneBelow l a.bound

-- the answer is accepted and has a timetable, and the text is theirs in this form
pub record IsDrawn (form : Form) (l : LineData) (a : Answer) (text : List ℕ) : Type 0 where
  pub accepted : IsAccepted l a
  pub timetable : TimetableData
  pub has : a.timetable ≡ Some timetable
  pub shown : IsTextIn form l a (timetable_of timetable) text

-- the answer is rejected, and the text is what `hoist check` prints for its first reason; or it is accepted and has no
-- timetable, and the text says so
abbrev pub IsUndrawn : LineData → Answer → List ℕ → Type 0
IsUndrawn l a text =
    ((reason : Reason) × IsFirstReason l a reason × (text ≡ checked_of (is_single l) (Rejected reason)))
    ⊎ (IsAccepted l a × (a.timetable ≡ None)
    × (text ≡ codes "no timetable to draw: " ++ checked_of (is_single l) (Accepted (claim_of a))))

-- the reply to an answer: drawn in this form, or not
abbrev pub IsAnswered : Form → LineData → Answer → Replies
IsAnswered form l a status text = ((status ≡ Done) × IsDrawn form l a text) ⊎ ((status ≡ Negative) × IsUndrawn l a text)
