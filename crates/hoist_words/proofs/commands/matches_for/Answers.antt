use Rattle.std.proofs.Common.{◌≡◌, ◌∙◌, true, ap, map, string_bytes}
use Rattle.clap.specs.Words.{app_of, matches_of, takes}
use Rattle.hoist_words.proofs.WalkLemmas.{simple_taken}
use Rattle.hoist_words.proofs.commands.matches_for.Goals as goal

pub want_of_memory-requires : goal.want_of_memory-requires
want_of_memory-requires c = c.in-Err.ensures.passes (ap (λ a. takes a (map string_bytes c.args.words.now)) c.in_ok-command.ensures ∙ c.requires)

pub returns-in-Ok : goal.returns-in-Ok
returns-in-Ok c =
    let words = map string_bytes c.args.words.now in
    let app = app_of c.in_ok-command.command in
    let taken : takes app words ≡ true = ap (λ a. takes a words) c.in_ok-command.ensures ∙ c.requires in
    (c.in-Ok.ensures.matches (simple_taken app words taken)).0 ∙ ap (λ a. matches_of a words) c.in_ok-command.ensures
