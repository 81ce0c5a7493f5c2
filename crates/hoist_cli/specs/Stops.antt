-- What commands answer: a reply, or a reply with which they stop early, or want of memory.
use Rattle.std.specs.Prelude.{Option, Some, None, Result, Ok, Err}
use Rattle.hoist_cli.specs.declared.replies.Reply.{Reply}
use Rattle.hoist_cli.specs.declared.replies.Stop.{Stop}
use Rattle.hoist_cli.specs.declared.replies.Stop.TheVariants.{Refused, Memory}
use Rattle.hoist_cli.specs.Reading.{Replies}

-- a reply with which one stops is one of these; want of memory says nothing
abbrev pub Refuses : Replies → Stop → Type 0
Refuses Right (Refused reply) = Right reply.status reply.text.items
Refuses Right Memory = Unit {0}

-- the reply, whether one stops with it or not, is one of these
abbrev pub Gives : Replies → Result Reply Stop → Type 0
Gives Right (Ok reply) = Right reply.status reply.text.items
Gives Right (Err stop) = Refuses Right stop

-- the reply, whether one stops with it or not; none where memory was wanted
abbrev pub settled_of : Result Reply Stop → Option Reply
settled_of (Ok reply) = Some reply
settled_of (Err (Refused reply)) = Some reply
settled_of (Err Memory) = None
