-- What `follow` prints.
use Rattle.std.specs.Prelude.{◌≡◌, ℕ, List}
use Rattle.hoist_base.specs.LineData.{LineData}
use Rattle.track_log.specs.declared.followed.Followed.{Followed}
use Rattle.track_log.specs.declared.followed.Followed.TheVariants as outcomes
use Rattle.track_log.specs.Following.{IsFollowed}
use Rattle.track_log.specs.Texts.{followed_text}
use Rattle.hoist_cli.specs.declared.status.Status.{Status}
use Rattle.hoist_cli.specs.declared.status.Status.TheVariants.{Done, Negative, Broken}
use Rattle.hoist_cli.specs.Reading.{Replies, Reading, AfterLine, AfterFile, answer_limit}

abbrev pub status_of_followed : Followed → Status
status_of_followed (outcomes.Follows last end) = Done
status_of_followed (outcomes.Departs tick breach) = Negative
status_of_followed (outcomes.Broken offset) = Broken

-- the text that says how far the log of these bytes is followed
abbrev pub IsFollowOf : LineData → List ℕ → Replies
IsFollowOf l bytes status text =
    (f : Followed) × IsFollowed l bytes f × (status ≡ status_of_followed f) × (text ≡ followed_text f)

abbrev pub FollowReply : Reading → List ℕ → List ℕ → Replies
FollowReply r file log = AfterLine r file (λ l. AfterFile r log answer_limit (IsFollowOf l))
