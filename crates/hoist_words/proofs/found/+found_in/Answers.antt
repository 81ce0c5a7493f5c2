use Rattle.std.proofs.Common.{◌≡◌, ◌∷◌, ◌-◌, ◌∙◌, length, take, drop, refl, ap, subst, string_bytes}
use Rattle.hoist_words.specs.Request.{words_of, Says, File, Given}
use Rattle.hoist_words.specs.Forms.{name_of}
use Rattle.hoist_words.specs.Found.{IsWith}
use Rattle.hoist_words.proofs.ReadingLemmas.{begins_file, begins_joined, begins_opening, more_found, none_found, none_opening, none_other}
use Rattle.hoist_words.proofs.RequestLemmas.{head_words, no_words}
use Rattle.hoist_words.proofs.found.+found_in.Goals as goal

-- the name of a file

pub returns-in_err-found_in-in-File : goal.returns-in_err-found_in-in-File
returns-in_err-found_in-in-File t c =
    let ws = c.args.words.now in
    let text = c.as_str.result.now in
    let rest = words_of (take (length ws - 1) (drop 1 ws)) in
    let at = head_words ws c.word-item.result text c.in-len1-up.len_at_least c.word-item.is c.as_str.ensures.value in
    none_found (File text) (words_of ws) (text ∷ rest) rest c.from_residual.result at (begins_file text rest c.in-File.ensures.1)
    c.in_err-found_in-in-File.ensures c.from_residual.ensures

pub returns-in_ok-found_in-in-File : goal.returns-in_ok-found_in-in-File
returns-in_ok-found_in-in-File t c =
    let ws = c.args.words.now in
    let text = c.as_str.result.now in
    let rest = words_of (take (length ws - 1) (drop 1 ws)) in
    let at = head_words ws c.word-item.result text c.in-len1-up.len_at_least c.word-item.is c.as_str.ensures.value in
    let name : c.in-File.name.now ≡ text = c.in-File.ensures.0 in
    let found = c.in_ok-found_in-in-File.field-0 in
    more_found (File text) (words_of ws) (text ∷ rest) rest found c.with_file.result at (begins_file text rest c.in-File.ensures.1)
    c.in_ok-found_in-in-File.ensures (subst (λ n. IsWith (File n) found c.with_file.result) name c.with_file.ensures)

-- an option with its value

pub returns-in_err-found_in-in-Given : goal.returns-in_err-found_in-in-Given
returns-in_err-found_in-in-Given t c =
    let ws = c.args.words.now in
    let text = c.as_str.result.now in
    let rest = words_of (take (length ws - 1) (drop 1 ws)) in
    let at = head_words ws c.word-item.result text c.in-len1-up.len_at_least c.word-item.is c.as_str.ensures.value in
    let name = c.in-Given.name in
    let value = c.in-Given.value.now in
    none_found (Given (name_of name) value) (words_of ws) (text ∷ rest) rest c.from_residual-in_err-found_in-in-Given.result at
    (begins_joined name value text rest c.in-Given.ensures) c.in_err-found_in-in-Given.ensures c.from_residual-in_err-found_in-in-Given.ensures

pub returns-in_ok-found_in-in-Given : goal.returns-in_ok-found_in-in-Given
returns-in_ok-found_in-in-Given t c =
    let ws = c.args.words.now in
    let text = c.as_str.result.now in
    let rest = words_of (take (length ws - 1) (drop 1 ws)) in
    let at = head_words ws c.word-item.result text c.in-len1-up.len_at_least c.word-item.is c.as_str.ensures.value in
    let name = c.in-Given.name in
    let value = c.in-Given.value.now in
    more_found (Given (name_of name) value) (words_of ws) (text ∷ rest) rest c.in_ok-found_in-in-Given.field-0 c.with_option.result at
    (begins_joined name value text rest c.in-Given.ensures) c.in_ok-found_in-in-Given.ensures c.with_option.ensures

-- an option whose value is the next word

pub returns-in_default-rest : goal.returns-in_default-rest
returns-in_default-rest t c =
    let ws = c.args.words.now in
    let text = c.as_str.result.now in
    let behind = take (length ws - 1) (drop 1 ws) in
    let at = head_words ws c.word-item.result text c.in-len1-up.len_at_least c.word-item.is c.as_str.ensures.value in
    let last = at ∙ ap (λ x. text ∷ x) (no_words behind c.in_default-rest.len_below) in
    λ items says known few. none_opening c.in-Opens.name text items c.in-Opens.ensures (subst (Says items) last says) known

pub returns-in_err-found_in-in-Opens : goal.returns-in_err-found_in-in-Opens
returns-in_err-found_in-in-Opens t c =
    let ws = c.args.words.now in
    let text = c.as_str.result.now in
    let behind = take (length ws - 1) (drop 1 ws) in
    let rest = words_of (take (length behind - 1) (drop 1 behind)) in
    let at = head_words ws c.word-item.result text c.in-len1-up.len_at_least c.word-item.is c.as_str.ensures.value in
    let name = c.in-Opens.name in
    let value = string_bytes c.value-item.result in
    let next = head_words behind c.value-item.result value c.in-len1-up-rest.len_at_least c.value-item.is refl in
    none_found (Given (name_of name) value) (words_of ws) (text ∷ value ∷ rest) rest c.from_residual-in_err-found_in-in-Opens.result
    (at ∙ ap (λ x. text ∷ x) next) (begins_opening name value text rest c.in-Opens.ensures) c.in_err-found_in-in-Opens.ensures
    c.from_residual-in_err-found_in-in-Opens.ensures

pub returns-in_ok-found_in-in-Opens : goal.returns-in_ok-found_in-in-Opens
returns-in_ok-found_in-in-Opens t c =
    let ws = c.args.words.now in
    let text = c.as_str.result.now in
    let behind = take (length ws - 1) (drop 1 ws) in
    let rest = words_of (take (length behind - 1) (drop 1 behind)) in
    let at = head_words ws c.word-item.result text c.in-len1-up.len_at_least c.word-item.is c.as_str.ensures.value in
    let name = c.in-Opens.name in
    let value = c.as_str-in-Opens.result.now in
    let next = head_words behind c.value-item.result value c.in-len1-up-rest.len_at_least c.value-item.is c.as_str-in-Opens.ensures.value in
    more_found (Given (name_of name) value) (words_of ws) (text ∷ value ∷ rest) rest c.in_ok-found_in-in-Opens.field-0 c.with_option-in-Opens.result
    (at ∙ ap (λ x. text ∷ x) next) (begins_opening name value text rest c.in-Opens.ensures) c.in_ok-found_in-in-Opens.ensures
    c.with_option-in-Opens.ensures

-- no item begins so

pub returns-in-Other : goal.returns-in-Other
returns-in-Other t c =
    let ws = c.args.words.now in
    let text = c.as_str.result.now in
    let rest = words_of (take (length ws - 1) (drop 1 ws)) in
    let at = head_words ws c.word-item.result text c.in-len1-up.len_at_least c.word-item.is c.as_str.ensures.value in
    λ items says known few. none_other text rest items c.in-Other.ensures (subst (Says items) at says) known
