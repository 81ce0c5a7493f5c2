use Rattle.std.proofs.Common.{◌≡◌, ◌∙◌, ap, sym, subst, Some, length}
use Rattle.std.proofs.lemmas.Result.{IfOk-weaker}
use Rattle.clap.specs.Words.{found_of, matches_of, rows_of, takes}
use Rattle.hoist_words.specs.Commands.{app_by, app_for, IsReadOf}
use Rattle.hoist_words.specs.Found.{FitsRow, IsFit, IsFound}
use Rattle.hoist_words.specs.Request.{words_of, IsRequestOf, Says, files_of}
use Rattle.hoist_words.specs.Table.{name_of_command, row_of}
use Rattle.hoist_words.proofs.RequestLemmas.{asked, call_of, long_words, nothing_fits, nothing_long, read_files, tail_of}
use Rattle.hoist_words.proofs.WordLemmas.{said_rows}
use Rattle.hoist_words.proofs.WalkLemmas.{new_found, words_read, words_taken}
use Rattle.hoist_words.proofs.words.read_words.Goals as goal

pub returns-then-behind-gt-MOST_WORDS : goal.returns-then-behind-gt-MOST_WORDS
returns-then-behind-gt-MOST_WORDS c =
    let ws = c.args.words.now in
    let text = c.as_str.result.now in
    let call = call_of ws c.name-item.result text c.in-len1-up-asked.len_at_least c.name-item.is c.as_str.ensures.value in
    nothing_long (words_of ws) (long_words 7 ws (tail_of ws) (tail_of (tail_of ws)) text call c.if-behind-gt-MOST_WORDS.true)

pub returns-then-not-fits : goal.returns-then-not-fits
returns-then-not-fits c =
    let ws = c.args.words.now in
    let text = c.as_str.result.now in
    let call = call_of ws c.name-item.result text c.in-len1-up-asked.len_at_least c.name-item.is c.as_str.ensures.value in
    let found = c.in-Some-found_in.found in
    nothing_fits c.in-Some.command (words_of ws) found (call.named ∙ ap Some c.in-Some.ensures)
    (subst (λ x. IsFound x (Some found)) call.rest c.in-Some-found_in.ensures)
    (subst (λ b. IsFit (row_of c.in-Some.command) found b) c.if-not-fits.true
    (subst (λ r. IsFit r found c.fits.result) c.row-row.ensures c.fits.ensures))

pub matches_for-requires : goal.matches_for-requires
matches_for-requires c =
    let ws = c.args.words.now in
    let text = c.as_str.result.now in
    let call = call_of ws c.name-item.result text c.in-len1-up-asked.len_at_least c.name-item.is c.as_str.ensures.value in
    let command = c.in-Some.command in
    let found = c.in-Some-found_in.found in
    let (items, says, known, fits) = c.in-Some-found_in.ensures in
    let row : FitsRow (row_of command) found = subst (λ r. FitsRow r found) c.row-row.ensures c.if-not-fits.ensures in
    let taken = words_taken command items text (words_of (tail_of (tail_of ws))) says known (ap length fits.files ∙ row.files)
    (new_found command items found known fits row) in
    let name : c.as_str-2.result.now ≡ name_of_command command = c.as_str-2.ensures.value ∙ sym c.as_str.ensures.value ∙ c.in-Some.ensures in
    ap (λ n. takes (app_by n c.row-row.result) (words_of (tail_of ws))) name
    ∙ ap (λ r. takes (app_by (name_of_command command) r) (words_of (tail_of ws))) c.row-row.ensures
    ∙ ap (takes (app_for command)) call.given ∙ taken

pub request_of-requires : goal.request_of-requires
request_of-requires c =
    let ws = c.args.words.now in
    let text = c.as_str.result.now in
    let call = call_of ws c.name-item.result text c.in-len1-up-asked.len_at_least c.name-item.is c.as_str.ensures.value in
    let command = c.in-Some.command in
    let found = c.in-Some-found_in.found in
    let (items, says, known, fits) = c.in-Some-found_in.ensures in
    let row : FitsRow (row_of command) found = subst (λ r. FitsRow r found) c.row-row.ensures c.if-not-fits.ensures in
    let name : c.as_str-2.result.now ≡ name_of_command command = c.as_str-2.ensures.value ∙ sym c.as_str.ensures.value ∙ c.in-Some.ensures in
    let rows : rows_of (found_of c.in_ok-matches.matches) ≡ said_rows items 1 =
    c.in_ok-matches.ensures ∙ ap (λ n. matches_of (app_by n c.row-row.result) (words_of (tail_of ws))) name
    ∙ ap (λ r. matches_of (app_by (name_of_command command) r) (words_of (tail_of ws))) c.row-row.ensures
    ∙ ap (matches_of (app_for command)) call.given
    ∙ words_read command items text (words_of (tail_of (tail_of ws))) says (new_found command items found known fits row) in
    let count = ap length fits.files ∙ row.files in
    (files_of items, count, read_files command (found_of c.in_ok-matches.matches) items rows known count)

pub returns : goal.returns
returns c =
    let ws = c.args.words.now in
    let text = c.as_str.result.now in
    let call = call_of ws c.name-item.result text c.in-len1-up-asked.len_at_least c.name-item.is c.as_str.ensures.value in
    let command = c.in-Some.command in
    let found = c.in-Some-found_in.found in
    let (items, says, known, fits) = c.in-Some-found_in.ensures in
    let row : FitsRow (row_of command) found = subst (λ r. FitsRow r found) c.row-row.ensures c.if-not-fits.ensures in
    let name : c.as_str-2.result.now ≡ name_of_command command = c.as_str-2.ensures.value ∙ sym c.as_str.ensures.value ∙ c.in-Some.ensures in
    let rows : rows_of (found_of c.in_ok-matches.matches) ≡ said_rows items 1 =
    c.in_ok-matches.ensures ∙ ap (λ n. matches_of (app_by n c.row-row.result) (words_of (tail_of ws))) name
    ∙ ap (λ r. matches_of (app_by (name_of_command command) r) (words_of (tail_of ws))) c.row-row.ensures
    ∙ ap (matches_of (app_for command)) call.given
    ∙ words_read command items text (words_of (tail_of (tail_of ws))) says (new_found command items found known fits row) in
    IfOk-weaker c.request_of.result (IsReadOf command (found_of c.in_ok-matches.matches)) (IsRequestOf (words_of ws))
    (λ r is. asked command (words_of ws) found (found_of c.in_ok-matches.matches) r (call.named ∙ ap Some c.in-Some.ensures) items
    (subst (Says items) call.rest says) known fits row rows is)
    c.request_of.ensures
