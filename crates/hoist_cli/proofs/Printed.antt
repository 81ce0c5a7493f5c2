-- What a reply that was printed, whole or in part, comes to.
use Rattle.std.proofs.Common.{◌≡◌, ℕ, ◌≤◌, ◌⊎◌, inr, take, length, List, Option, subst}
use Rattle.outside.specs.Sink.{appended}
use Rattle.hoist_cli.specs.declared.status.Status.{Status}
use Rattle.hoist_cli.specs.Reading.{Reading}
use Rattle.hoist_cli.specs.Reply.{IsReply}
use Rattle.hoist_cli.specs.Meaning.{Means}
use Rattle.hoist_cli.proofs.Meanings.{reply_means}

-- a printed status means what it says
pub means_by : (r : Reading) (words : List (List ℕ)) (old new : Option (List ℕ)) (status s : Status) (text : List ℕ)
    → new ≡ appended old text
    → IsReply r words status text → status ≡ s → Means s r words old new
means_by r words old new status s text written is e = subst (λ x. Means x r words old new) e (reply_means r words old new status text written is)

-- what was written is a front of a reply's text
pub prefix_of : (r : Reading) (words : List (List ℕ)) (old new : Option (List ℕ)) (status : Status) (text shown : List ℕ)
    → IsReply r words status text → shown ≡ text → (n : ℕ) × (n ≤ length shown) × (new ≡ appended old (take n shown))
    → (new ≡ old)
    ⊎ ((status : Status) × (text : List ℕ) × (n : ℕ) × IsReply r words status text × (n ≤ length text) × (new ≡ appended old (take n text)))
prefix_of r words old new status text shown is e part =
    let (n, le, written) =
    subst (λ (t : List ℕ). (n : ℕ) × (n ≤ length t) × (new ≡ appended old (take n t))) e part in
    inr (status, text, n, is, le, written)
