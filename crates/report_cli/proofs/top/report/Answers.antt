use Rattle.std.proofs.Common.{rules, ◌≡◌, inl, inr, Some}
use Rattle.outside.specs.Sink.{appended}
use Rattle.hoist_words.specs.Request.{words_of}
use Rattle.hoist_cli.specs.declared.status.Status.TheVariants.{Done, Negative, Unfinished, Words}
use Rattle.hoist_cli.specs.Reading.{reading}
use Rattle.hoist_cli.specs.Stops.{settled_of}
use Rattle.hoist_cli.proofs.Narrowing.{settled_is}
use Rattle.report_cli.specs.Reply.{IsReply}
use Rattle.report_cli.proofs.Meanings.{means_by, nothing_asked, prefix_of}
use Rattle.report_cli.proofs.top.report.Goals as goal

pub returns-in-Whole-clause-done : goal.returns-in-Whole-clause-done
returns-in-Whole-clause-done g c =
    let r = reading (g.F.Shelf.files c.args.shelf.now) (g.F.Shelf.faults c.args.shelf.now)
    (g.F.Shelf.faults c.reply_to.new.shelf) in
    let words = words_of c.args.words.now in
    let reply = c.in-Some.reply in
    let settled : settled_of c.reply_to.result ≡ Some reply = search rules in
    let right : IsReply r words reply.status reply.text.items = settled_is
    (IsReply r words) c.reply_to.result reply c.reply_to.ensures settled in
    let written : g.K.Sink.written c.write_all.new.sink ≡ appended (g.K.Sink.written c.args.sink.now) reply.text.items =
    search (rules, c.in-Whole.ensures.whole, c.as_slice.ensures.value) in
    means_by r words (g.K.Sink.written c.args.sink.now)
    (g.K.Sink.written c.write_all.new.sink) reply.status Done reply.text.items written right

pub returns-in-Whole-clause-negative : goal.returns-in-Whole-clause-negative
returns-in-Whole-clause-negative g c =
    let r = reading (g.F.Shelf.files c.args.shelf.now) (g.F.Shelf.faults c.args.shelf.now)
    (g.F.Shelf.faults c.reply_to.new.shelf) in
    let words = words_of c.args.words.now in
    let reply = c.in-Some.reply in
    let settled : settled_of c.reply_to.result ≡ Some reply = search rules in
    let right : IsReply r words reply.status reply.text.items = settled_is
    (IsReply r words) c.reply_to.result reply c.reply_to.ensures settled in
    let written : g.K.Sink.written c.write_all.new.sink ≡ appended (g.K.Sink.written c.args.sink.now) reply.text.items =
    search (rules, c.in-Whole.ensures.whole, c.as_slice.ensures.value) in
    means_by r words (g.K.Sink.written c.args.sink.now)
    (g.K.Sink.written c.write_all.new.sink) reply.status Negative reply.text.items written right

pub returns-in-Whole-clause-words : goal.returns-in-Whole-clause-words
returns-in-Whole-clause-words g c =
    let r = reading (g.F.Shelf.files c.args.shelf.now) (g.F.Shelf.faults c.args.shelf.now)
    (g.F.Shelf.faults c.reply_to.new.shelf) in
    let words = words_of c.args.words.now in
    let reply = c.in-Some.reply in
    let settled : settled_of c.reply_to.result ≡ Some reply = search rules in
    let right : IsReply r words reply.status reply.text.items = settled_is
    (IsReply r words) c.reply_to.result reply c.reply_to.ensures settled in
    let written : g.K.Sink.written c.write_all.new.sink ≡ appended (g.K.Sink.written c.args.sink.now) reply.text.items =
    search (rules, c.in-Whole.ensures.whole, c.as_slice.ensures.value) in
    means_by r words (g.K.Sink.written c.args.sink.now)
    (g.K.Sink.written c.write_all.new.sink) reply.status Words reply.text.items written right

pub returns-in-Whole-clause-finished : goal.returns-in-Whole-clause-finished
returns-in-Whole-clause-finished g c =
    let r = reading (g.F.Shelf.files c.args.shelf.now) (g.F.Shelf.faults c.args.shelf.now)
    (g.F.Shelf.faults c.reply_to.new.shelf) in
    let words = words_of c.args.words.now in
    let reply = c.in-Some.reply in
    let settled : settled_of c.reply_to.result ≡ Some reply = search rules in
    let right : IsReply r words reply.status reply.text.items = settled_is
    (IsReply r words) c.reply_to.result reply c.reply_to.ensures settled in
    let written : g.K.Sink.written c.write_all.new.sink ≡ appended (g.K.Sink.written c.args.sink.now) reply.text.items =
    search (rules, c.in-Whole.ensures.whole, c.as_slice.ensures.value) in
    means_by r words (g.K.Sink.written c.args.sink.now)
    (g.K.Sink.written c.write_all.new.sink) reply.status Unfinished reply.text.items written right

pub returns-in-Whole-clause-reply : goal.returns-in-Whole-clause-reply
returns-in-Whole-clause-reply g c =
    let r = reading (g.F.Shelf.files c.args.shelf.now) (g.F.Shelf.faults c.args.shelf.now)
    (g.F.Shelf.faults c.reply_to.new.shelf) in
    let words = words_of c.args.words.now in
    let reply = c.in-Some.reply in
    let settled : settled_of c.reply_to.result ≡ Some reply = search rules in
    let right : IsReply r words reply.status reply.text.items = settled_is
    (IsReply r words) c.reply_to.result reply c.reply_to.ensures settled in
    let written : g.K.Sink.written c.write_all.new.sink ≡ appended (g.K.Sink.written c.args.sink.now) reply.text.items =
    search (rules, c.in-Whole.ensures.whole, c.as_slice.ensures.value) in
    inr (inr (reply.text.items, right, written))

pub returns-in-Fault-clause-prefix : goal.returns-in-Fault-clause-prefix
returns-in-Fault-clause-prefix g c =
    let r = reading (g.F.Shelf.files c.args.shelf.now) (g.F.Shelf.faults c.args.shelf.now)
    (g.F.Shelf.faults c.reply_to.new.shelf) in
    let words = words_of c.args.words.now in
    let reply = c.in-Some.reply in
    let settled : settled_of c.reply_to.result ≡ Some reply = search rules in
    let right : IsReply r words reply.status reply.text.items = settled_is
    (IsReply r words) c.reply_to.result reply c.reply_to.ensures settled in
    λ _.
    prefix_of r words (g.K.Sink.written c.args.sink.now)
    (g.K.Sink.written c.write_all.new.sink) reply.status reply.text.items c.as_slice.result.now right
    c.as_slice.ensures.value c.in-Fault.ensures.prefix

pub returns-clause-prefix : goal.returns-clause-prefix
returns-clause-prefix g c =
    let r = reading (g.F.Shelf.files c.args.shelf.now) (g.F.Shelf.faults c.args.shelf.now)
    (g.F.Shelf.faults c.reply_to.new.shelf) in
    let words = words_of c.args.words.now in
    let reply = c.in-Some.reply in
    let settled : settled_of c.reply_to.result ≡ Some reply = search rules in
    let right : IsReply r words reply.status reply.text.items = settled_is
    (IsReply r words) c.reply_to.result reply c.reply_to.ensures settled in
    λ _.
    prefix_of r words (g.K.Sink.written c.args.sink.now)
    (g.K.Sink.written c.write_all.new.sink) reply.status reply.text.items c.as_slice.result.now right
    c.as_slice.ensures.value c.in-Memory.ensures.prefix

pub returns-in-Whole-clause-nothing : goal.returns-in-Whole-clause-nothing
returns-in-Whole-clause-nothing g c =
    let r = reading (g.F.Shelf.files c.args.shelf.now) (g.F.Shelf.faults c.args.shelf.now)
    (g.F.Shelf.faults c.reply_to.new.shelf) in
    let words = words_of c.args.words.now in
    let reply = c.in-Some.reply in
    let settled : settled_of c.reply_to.result ≡ Some reply = search rules in
    let right : IsReply r words reply.status reply.text.items = settled_is
    (IsReply r words) c.reply_to.result reply c.reply_to.ensures settled in
    λ asks. inl (nothing_asked r words reply.status reply.text.items right asks)
