-- Replies with which one stops, seen as replies of a larger call.
use Rattle.std.proofs.Common.{◌≡◌, ℕ, ⊎_elim, inl, List, Option, Some, Result, Ok, Err, IfSome, subst}
use Rattle.hoist_base.specs.LineData.{LineData}
use Rattle.hoist_cli.specs.declared.status.Status.{Status}
use Rattle.hoist_cli.specs.declared.replies.Reply.{Reply}
use Rattle.hoist_cli.specs.declared.replies.Stop.{Stop}
use Rattle.hoist_cli.specs.declared.replies.Stop.TheVariants.{Refused, Memory}
use Rattle.hoist_cli.specs.Reading.{Replies}
use Rattle.timetable.specs.TimetableData.{TimetableData}
use Rattle.hoist_cli.specs.Reply.{AfterLegal}
use Rattle.hoist_cli.specs.Stops.{Refuses, Gives, settled_of}

-- each of these replies is one of those
abbrev pub AreAmong : Replies → Replies → Type 0
AreAmong These Those = (status : Status) (text : List ℕ) → These status text → Those status text

pub refused_by : (These Those : Replies) (stop : Stop) → AreAmong These Those → Refuses These stop → Refuses Those stop
refused_by These Those (Refused reply) among is = among reply.status reply.text.items is
refused_by These Those Memory among is = tt

pub given_by : (These Those : Replies) (replied : Result Reply Stop) → AreAmong These Those → Gives These replied
    → Gives Those replied
given_by These Those (Ok reply) among is = among reply.status reply.text.items is
given_by These Those (Err stop) among is = refused_by These Those stop among is

settled_right : (Right : Replies) (replied : Result Reply Stop) → Gives Right replied
    → IfSome (settled_of replied) (λ reply. Right reply.status reply.text.items)
settled_right Right (Ok reply) is = is
settled_right Right (Err (Refused reply)) is = is
settled_right Right (Err Memory) is = tt

-- a reply, whether one stopped with it or not, is right
pub settled_is : (Right : Replies) (replied : Result Reply Stop) (reply : Reply) → Gives Right replied
    → settled_of replied ≡ Some reply
    → Right reply.status reply.text.items
settled_is Right replied reply is e =
    subst (λ (o : Option Reply). IfSome o (λ x. Right x.status x.text.items)) e (settled_right Right replied is)

-- a rejected timetable is, whatever a legal one calls for
pub rejected_still : (l : LineData) (Next : TimetableData → Replies) (timetable : Option TimetableData)
    → AreAmong (AfterLegal l (λ _ _ _. ⊥) timetable) (AfterLegal l Next timetable)
rejected_still l Next timetable status text is = ⊎_elim (λ x. inl x) (λ (t, has, legal, never). absurd never) is
