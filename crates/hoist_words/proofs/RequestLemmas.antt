-- From what was found behind the command to the request.
use Rattle.std.proofs.Common.{◌≡◌, ℕ, zero, suc, ◌+◌, ◌-◌, ◌*◌, ◌^◌, ◌<◌, ◌≤◌, ◌∙◌, false, List, [], ◌∷◌, length, get_or, take, drop}
use Rattle.std.proofs.Common.{codes, inl, inr, refl, sym, ap, ap₂, subst, arith, if◌then◌else◌, Option, Some, None, slice_get, String, Global}
use Rattle.std.proofs.Common.{string_bytes, length-drop, Bor}
use Rattle.std.proofs.lemmas.List.{length-map, take_all}
use Rattle.std.specs.Str.Parse.{AllDigits}
use Rattle.std.proofs.lemmas.Fmt.{decimal_injective, decimal_is_IsNumeral}
use Rattle.std.proofs.lemmas.Str.Parse.{digit_from_value}
use Rattle.std.specs.Str.{bytes_eq}
use Rattle.clap.specs.Words.{first_value, rows_of, first_of}
use Rattle.clap.specs.declared.parser.matches.Found.{Found as Matched}
use Rattle.clap.proofs.WalkLemmas.{first_value-rows}
use Rattle.hoist_words.specs.Request.{Item, File, Given, Says, IsFileName, IsValue, IsNumber, IsSeed, files_of, files_under, values_of, is_budget}
use Rattle.hoist_words.specs.Request.{is_workers, is_carriers, is_upto, words_of}
use Rattle.hoist_words.specs.Request.{AsksFor, AskNothing, IsRequestOf, command_in, files_in, numbers_in}
use Rattle.hoist_words.specs.Table.{row_of, name_of_command}
use Rattle.hoist_words.specs.Forms.{name_of}
use Rattle.hoist_words.specs.Found.{AreOptions, AreFew, IsFound, Fits, FitsRow, IsFit, IsPlainFor, listed}
use Rattle.hoist_words.specs.Commands.{AreFiles, AreFilesOf, AreNumbers, IsReadOf, values}
use Rattle.hoist_words.specs.declared.forms.Name.{Name}
use Rattle.hoist_words.specs.declared.forms.Name.TheVariants.{Budget, Workers, Carriers, Upto}
use Rattle.hoist_words.specs.declared.found.Found.{Found}
use Rattle.hoist_words.specs.declared.table.CommandName.{CommandName}
use Rattle.hoist_words.specs.declared.table.CommandName.TheVariants as command
use Rattle.hoist_words.specs.declared.table.Limits.{Limits}
use Rattle.hoist_words.specs.declared.numbers.Numbers.{Numbers}
use Rattle.hoist_words.specs.declared.requests.Request.{Request}
use Rattle.hoist_words.proofs.ReadingLemmas.{options_tail, known_name, one_reading}
use Rattle.hoist_words.proofs.WordLemmas.{said_rows}
use Rattle.hoist_words.proofs.WalkLemmas.{first_in, option_read, first_read, second_read, limits_of, values_for, at_most_two, some_file}

-- lists of words

drop_words : (k : ℕ) (ws : List (String Global)) → words_of (drop k ws) ≡ drop k (words_of ws)
drop_words zero ws = refl
drop_words (suc k) [] = refl
drop_words (suc k) (w ∷ ws) = drop_words k ws

pub behind_words : (k : ℕ) (ws : List (String Global))
    → words_of (take (length ws - k) (drop k ws)) ≡ drop k (words_of ws)
behind_words k ws = ap words_of (take_all (length ws - k) (drop k ws) (omega (arith, length-drop k ws))) ∙ drop_words k ws

pub head_words : (ws : List (String Global)) (w : String Global) (text : List ℕ) → 1 ≤ length ws → w ≡ get_or ws 0 w
    → text ≡ string_bytes w
    → words_of ws ≡ text ∷ words_of (take (length ws - 1) (drop 1 ws))
head_words [] w text some is text_is = absurd (omega (arith, some))
head_words (x ∷ ws) w text some is text_is =
    ap (λ t. t ∷ words_of ws) (sym (text_is ∙ ap string_bytes is)) ∙ ap (λ t. text ∷ t) (sym (behind_words 1 (x ∷ ws)))

pub no_words : (ws : List (String Global)) → length ws < 1 → words_of ws ≡ []
no_words [] none = refl
no_words (w ∷ ws) none = absurd (omega (arith, none))

-- options and files

only_once : (vs : List (List ℕ)) (default least most n : ℕ) → IsValue vs default least most n → length vs ≤ 1
only_once [] default least most n h = omega arith
only_once (v ∷ []) default least most n h = omega arith
only_once (v ∷ w ∷ vs) default least most n h = absurd h

value_same : (vs : List (List ℕ)) (default least most m n : ℕ) → most < 2 ^ 64 → IsValue vs default least most m
    → IsValue vs default least most n → m ≡ n
value_same [] default least most m n small h g = h ∙ sym g
value_same (v ∷ []) default least most m n small h g = decimal_injective m n (omega (arith, h.2)) (omega (arith, g.2)) (sym h.0 ∙ g.0)
value_same (v ∷ w ∷ vs) default least most m n small h g = absurd h

-- how often options are given
abbrev given_count : List Item → ℕ
given_count items =
    length (values_of is_budget items)
    + (length (values_of is_workers items) + (length (values_of is_carriers items) + length (values_of is_upto items)))

one_more : (m : Name) (name value : List ℕ) (items : List Item) → name ≡ name_of m
    → given_count (Given name value ∷ items) ≡ suc (given_count items)
one_more m name value items is = subst (λ x. given_count (Given x value ∷ items) ≡ suc (given_count items)) (sym is) (at m)
  where
    at : (m : Name) → given_count (Given (name_of m) value ∷ items) ≡ suc (given_count items)
    at Budget = omega arith
    at Workers = omega arith
    at Carriers = omega arith
    at Upto = omega arith

few_words : (items : List Item) (words : List (List ℕ)) → Says items words → AreOptions items
    → length words ≤ length (files_of items) + 2 * given_count items
few_words [] words says known = let e : length words ≡ 0 = ap length says in omega (arith, e)
few_words (File name ∷ items) [] says known = absurd says
few_words (File name ∷ items) (w ∷ words) (e, f, s) known = omega (arith, few_words items words s (options_tail (File name) items known))
few_words (Given name value ∷ items) [] says known = absurd says
few_words (Given name value ∷ items) (w ∷ words) (inl (e, s)) known =
    let (m, is) = known_name items name value known in
    omega (arith, few_words items words s (options_tail (Given name value) items known), one_more m name value items is)
few_words (Given name value ∷ items) (w ∷ words) (inr (e, (rest, ew, s))) known =
    let (m, is) = known_name items name value known in
    let l : length words ≡ suc (length rest) = ap length ew in
    omega (arith, l, few_words items rest s (options_tail (Given name value) items known), one_more m name value items is)

-- an option's number

-- how often an option may be given
abbrev room_in : Option Limits → ℕ
room_in None = 0
room_in (Some l) = 1

few_values : (limits : Option Limits) (vs : List (List ℕ)) (n : ℕ) → IsNumber limits vs n → length vs ≤ room_in limits
few_values None vs n is = let l : length vs ≡ 0 = ap length is.0 in omega (arith, l)
few_values (Some l) vs n is = only_once vs l.default l.least l.most n is

once_in : (limits : Option Limits) → room_in limits ≤ 1
once_in None = omega arith
once_in (Some l) = omega arith

-- a number below the greatest word
abbrev AreSmall : Option Limits → Type 0
AreSmall None = Unit {0}
AreSmall (Some l) = l.most < 2 ^ 64

number_same : (limits : Option Limits) (vs : List (List ℕ)) (m n : ℕ) → AreSmall limits → IsNumber limits vs m
    → IsNumber limits vs n → m ≡ n
number_same None vs m n small h g = h.1 ∙ sym g.1
number_same (Some l) vs m n small h g = value_same vs l.default l.least l.most m n small h g

rows_small : (c : CommandName)
    → AreSmall (row_of c).budget × AreSmall (row_of c).workers × AreSmall (row_of c).carriers × AreSmall (row_of c).upto
rows_small command.Solve = (omega arith, omega arith, tt, tt)
rows_small command.Check = (tt, tt, tt, tt)
rows_small command.Run = (tt, tt, omega arith, tt)
rows_small command.Chart = (tt, tt, tt, tt)
rows_small command.Drill = (tt, tt, tt, tt)
rows_small command.Sweep = (omega arith, omega arith, tt, omega arith)
rows_small command.Margin = (tt, tt, tt, tt)
rows_small command.Follow = (tt, tt, tt, tt)
rows_small command.Batch = (omega arith, omega arith, tt, tt)

small : (c : CommandName) (m : Name) → AreSmall (limits_of c m)
small c Budget = (rows_small c).0
small c Workers = (rows_small c).1
small c Carriers = (rows_small c).2
small c Upto = (rows_small c).3

-- the words of a command have at most seven behind it
few_in_row : (c : CommandName)
    → (row_of c).files
    + 2 * (room_in (row_of c).budget + (room_in (row_of c).workers + (room_in (row_of c).carriers + room_in (row_of c).upto)))
    ≤ 7
few_in_row command.Solve = omega arith
few_in_row command.Check = omega arith
few_in_row command.Run = omega arith
few_in_row command.Chart = omega arith
few_in_row command.Drill = omega arith
few_in_row command.Sweep = omega arith
few_in_row command.Margin = omega arith
few_in_row command.Follow = omega arith
few_in_row command.Batch = omega arith

few_options : (c : CommandName) (words files : List (List ℕ)) (numbers : Numbers) (a : AsksFor c words files numbers)
    → (length (values_of is_budget a.items) ≤ room_in (row_of c).budget) × (length (values_of is_workers a.items) ≤ room_in (row_of c).workers)
    × (length (values_of is_carriers a.items) ≤ room_in (row_of c).carriers)
    × (length (values_of is_upto a.items) ≤ room_in (row_of c).upto)
few_options c words files numbers a = (
  few_values (row_of c).budget (values_of is_budget a.items) numbers.budget a.budget_is,
  few_values (row_of c).workers (values_of is_workers a.items) numbers.workers a.workers_are,
  few_values (row_of c).carriers (values_of is_carriers a.items) numbers.carriers a.carriers_are,
  few_values (row_of c).upto (values_of is_upto a.items) numbers.upto a.upto_is,
)

few_asked : (c : CommandName) (words files : List (List ℕ)) (numbers : Numbers) (a : AsksFor c words files numbers)
    → AreFew a.items
few_asked c words files numbers a =
    let (b, w, k, u) = few_options c words files numbers a in (
      omega (arith, a.count, at_most_two c),
      omega (arith, b, once_in (row_of c).budget),
      omega (arith, w, once_in (row_of c).workers),
      omega (arith, k, once_in (row_of c).carriers),
      omega (arith, u, once_in (row_of c).upto),
    )

-- more words than a request has
pub nothing_long : (words : List (List ℕ)) → 7 < length (drop 2 words) → AskNothing words
nothing_long words long c files numbers a =
    let (b, w, k, u) = few_options c words files numbers a in
    omega (arith, long, a.count, few_in_row c, b, w, k, u, few_words a.items (drop 2 words) a.says a.known)

pub nothing_found : (words : List (List ℕ)) → IsFound (drop 2 words) None → AskNothing words
nothing_found words none c files numbers a = none a.items a.says a.known (few_asked c words files numbers a)

some_same : (a b : List ℕ) → Some a ≡ Some b → a ≡ b
some_same a b e = cc

pub nothing_named : (words : List (List ℕ)) (text : List ℕ) → slice_get words 1 ≡ Some text
    → ((c : CommandName) → text ≡ name_of_command c → ⊥)
    → AskNothing words
nothing_named words text named none c files numbers a = none c (some_same text (name_of_command c) (sym named ∙ a.named))

-- commands have different names
abbrev command_named : List ℕ → CommandName
command_named text =
    if bytes_eq text (codes "solve") then command.Solve
    else if bytes_eq text (codes "check") then command.Check
    else if bytes_eq text (codes "run") then command.Run
    else if bytes_eq text (codes "chart") then command.Chart
    else if bytes_eq text (codes "drill") then command.Drill
    else if bytes_eq text (codes "sweep") then command.Sweep
    else if bytes_eq text (codes "margin") then command.Margin
    else if bytes_eq text (codes "follow") then command.Follow
    else command.Batch

command_is : (c : CommandName) → command_named (name_of_command c) ≡ c
command_is command.Solve = refl
command_is command.Check = refl
command_is command.Run = refl
command_is command.Chart = refl
command_is command.Drill = refl
command_is command.Sweep = refl
command_is command.Margin = refl
command_is command.Follow = refl
command_is command.Batch = refl

pub same_command : (c d : CommandName) → name_of_command c ≡ name_of_command d → c ≡ d
same_command c d e = sym (command_is c) ∙ ap command_named e ∙ command_is d

-- what is asked has the items that were found
asked_items : (c d : CommandName) (words files : List (List ℕ)) (numbers : Numbers) (items : List Item)
    → slice_get words 1 ≡ Some (name_of_command c)
    → Says items (drop 2 words) → AreOptions items → (a : AsksFor d words files numbers) → (d ≡ c) × (a.items ≡ items)
asked_items c d words files numbers items named says known a = (
  same_command d c (some_same (name_of_command d) (name_of_command c) (sym a.named ∙ named)),
  one_reading a.items items (drop 2 words) a.says a.known says known,
)

-- the number of an option by its name
abbrev number_at : Name → Numbers → ℕ
number_at Budget n = n.budget
number_at Workers n = n.workers
number_at Carriers n = n.carriers
number_at Upto n = n.upto

-- the numbers that are asked for are those of the items that were found

number_asked : (m : Name) (c : CommandName) (words files : List (List ℕ)) (numbers : Numbers) (a : AsksFor c words files numbers)
    → IsNumber (limits_of c m) (values_for m a.items) (number_at m numbers)
number_asked Budget c words files numbers a = a.budget_is
number_asked Workers c words files numbers a = a.workers_are
number_asked Carriers c words files numbers a = a.carriers_are
number_asked Upto c words files numbers a = a.upto_is

number_found : (m : Name) (c d : CommandName) (words files : List (List ℕ)) (numbers : Numbers) (items : List Item) (a : AsksFor d words files numbers)
    → (d ≡ c) × (a.items ≡ items) → IsNumber (limits_of c m) (values_for m items) (number_at m numbers)
number_found m c d words files numbers items a (same, are) =
    subst (λ x. IsNumber (limits_of x m) (values_for m items) (number_at m numbers)) same
    (subst (λ x. IsNumber (limits_of d m) (values_for m x) (number_at m numbers)) are (number_asked m d words files numbers a))

seed_found : (c d : CommandName) (words files : List (List ℕ)) (numbers : Numbers) (items : List Item) (a : AsksFor d words files numbers)
    → (d ≡ c) × (a.items ≡ items) → IsSeed (row_of c).seed (files_of items) numbers.seed
seed_found c d words files numbers items a (same, are) =
    subst (λ x. IsSeed (row_of x).seed (files_of items) numbers.seed) same
    (subst (λ x. IsSeed (row_of d).seed (files_of x) numbers.seed) are a.seed_is)

-- digits don't begin with a dash

plain_digits : (word : List ℕ) → 0 < length word → AllDigits 10 word → IsFileName word
plain_digits [] some digits = absurd (omega (arith, some))
plain_digits (c ∷ cs) some digits = λ e. omega (arith, e, digit_from_value c digits.0)

plain_number : (limits : Option Limits) (vs : List (List ℕ)) (n : ℕ) → AreSmall limits → IsNumber limits vs n
    → IsPlainFor limits vs
plain_number None vs n small is = subst (IsPlainFor None) (sym is.0) tt
plain_number (Some l) [] n small is = tt
plain_number (Some l) (v ∷ []) n small is =
    let numeral = decimal_is_IsNumeral n (omega (arith, small, is.2)) in
    (refl, subst IsFileName (sym is.0) (plain_digits _ numeral.0.0 numeral.0.1))
plain_number (Some l) (v ∷ w ∷ vs) n small is = absurd is

-- the values of an option by its name
abbrev listed_at : Name → Found → List (List ℕ)
listed_at Budget found = listed found.budget
listed_at Workers found = listed found.workers
listed_at Carriers found = listed found.carriers
listed_at Upto found = listed found.upto

fits_at : (m : Name) (items : List Item) (found : Found) → Fits items found → values_for m items ≡ listed_at m found
fits_at Budget items found fits = fits.budget
fits_at Workers items found fits = fits.workers
fits_at Carriers items found fits = fits.carriers
fits_at Upto items found fits = fits.upto

pub nothing_fits : (c : CommandName) (words : List (List ℕ)) (found : Found)
    → slice_get words 1 ≡ Some (name_of_command c)
    → IsFound (drop 2 words) (Some found) → IsFit (row_of c) found false → AskNothing words
nothing_fits c words found named (items, says, known, fits) unfit d files numbers a =
    let (same, are) = asked_items c d words files numbers items named says known a in
    unfit (record {
      files = ap length (sym fits.files ∙ ap files_of (sym are)) ∙ a.count ∙ ap (λ x. (row_of x).files) same;
      budget = plain Budget (same, are);
      workers = plain Workers (same, are);
      carriers = plain Carriers (same, are);
      upto = plain Upto (same, are);
    })
  where
    plain : (m : Name) → (d ≡ c) × (a.items ≡ items) → IsPlainFor (limits_of c m) (listed_at m found)
    plain m is = plain_number (limits_of c m) (listed_at m found) (number_at m numbers) (small c m)
        (subst (λ vs. IsNumber (limits_of c m) vs (number_at m numbers)) (fits_at m items found fits)
        (number_found m c d words files numbers items a is))

-- ---- from what was read

values_of_listed : (given : Option (Bor (List ℕ))) → values (first_in (listed given)) ≡ listed given
values_of_listed None = refl
values_of_listed (Some v) = refl

listed_once : (m : Name) (found : Found) → values (first_in (listed_at m found)) ≡ listed_at m found
listed_once Budget found = values_of_listed found.budget
listed_once Workers found = values_of_listed found.workers
listed_once Carriers found = values_of_listed found.carriers
listed_once Upto found = values_of_listed found.upto

pub read_option : (m : Name) (matched : Matched) (items : List Item) (found : Found)
    → rows_of matched ≡ said_rows items 1 → Fits items found
    → values (first_value matched (name_of m)) ≡ values_for m items
read_option m matched items found rows fits =
    let are = fits_at m items found fits in
    ap values (first_value-rows matched (name_of m) ∙ ap (first_of (name_of m)) rows ∙ option_read m items ∙ ap first_in are)
    ∙ listed_once m found ∙ sym are

read_first : (matched : Matched) (items : List Item) → rows_of matched ≡ said_rows items 1 → AreOptions items
    → first_value matched (codes "first") ≡ first_in (files_of items)
read_first matched items rows known = first_value-rows matched (codes "first") ∙ ap (first_of (codes "first")) rows ∙ first_read items known

-- a seed that is read is the one that is said

seed_read : (greatest : Option ℕ) (placed : List (List ℕ)) (first : Option (List ℕ)) (n : ℕ) → first ≡ first_in placed
    → IsSeed greatest placed n
    → IsSeed greatest (values first) n
seed_read None placed first n e is = is
seed_read (Some most) placed first n e (is, below) = (ap values (e ∙ ap first_in is), below)

seed_said : (c : CommandName) (placed : List (List ℕ)) (first : Option (List ℕ)) (n : ℕ)
    → length placed ≡ (row_of c).files → first ≡ first_in placed
    → IsSeed (row_of c).seed (values first) n → IsSeed (row_of c).seed placed n
seed_said command.Solve placed first n count e is = is
seed_said command.Check placed first n count e is = is
seed_said command.Run placed first n count e is = is
seed_said command.Chart placed first n count e is = is
seed_said command.Drill [] first n count e is = absurd (omega (arith, count))
seed_said command.Drill (v ∷ []) first n count e (is, below) = (sym (ap values e) ∙ is, below)
seed_said command.Drill (v ∷ w ∷ vs) first n count e is = absurd (omega (arith, count))
seed_said command.Sweep placed first n count e is = is
seed_said command.Margin placed first n count e is = is
seed_said command.Follow placed first n count e is = is
seed_said command.Batch placed first n count e is = is

files_read : (matched : Matched) (files : List (List ℕ)) → 1 ≤ length files → length files ≤ 2
    → first_value matched (codes "first") ≡ first_in files
    → first_value matched (codes "second") ≡ first_in (drop 1 files) → AreFiles matched files
files_read matched [] some few first second = absurd (omega (arith, some))
files_read matched (f ∷ []) some few first second = first
files_read matched (f ∷ g ∷ []) some few first second = (first, second, refl)
files_read matched (f ∷ g ∷ h ∷ files) some few first second = absurd (omega (arith, few))

pub read_files : (c : CommandName) (matched : Matched) (items : List Item) → rows_of matched ≡ said_rows items 1
    → AreOptions items
    → length (files_of items) ≡ (row_of c).files → AreFiles matched (files_of items)
read_files c matched items rows known count =
    files_read matched (files_of items) (omega (arith, count, some_file c)) (omega (arith, count, at_most_two c))
    (read_first matched items rows known)
    (first_value-rows matched (codes "second") ∙ ap (first_of (codes "second")) rows ∙ second_read items known)

files_same : (matched : Matched) (a b : List (List ℕ)) → AreFiles matched a → AreFiles matched b → length a ≡ length b
    → a ≡ b
files_same matched [] b fa fb l = absurd fa
files_same matched (x ∷ a) [] fa fb l = absurd fb
files_same matched (x ∷ []) (y ∷ []) fa fb l = ap (λ f. f ∷ []) (some_same x y (sym fa ∙ fb))
files_same matched (x ∷ []) (y ∷ z ∷ b) fa fb l = absurd (omega (arith, l))
files_same matched (x ∷ w ∷ a) (y ∷ []) fa fb l = absurd (omega (arith, l))
files_same matched (x ∷ w ∷ a) (y ∷ z ∷ b) (f, s, n) (g, t, k) l =
    ap (λ h. h ∷ w ∷ a) (some_same x y (sym f ∙ g)) ∙ ap (λ h. y ∷ h ∷ a) (some_same w z (sym s ∙ t)) ∙ ap (λ h. y ∷ z ∷ h) (n ∙ sym k)

files_under_same : (greatest : Option ℕ) (count : ℕ) (matched : Matched) (placed files : List (List ℕ))
    → AreFiles matched placed → length placed ≡ count
    → AreFilesOf greatest count matched files → files_under greatest placed ≡ files
files_under_same None count matched placed files read l (k, are) = files_same matched placed files read are (l ∙ sym k)
files_under_same (Some most) count matched placed files read l none = sym none

-- the numbers that are read are those of the items
numbers_read : (c : CommandName) (matched : Matched) (items : List Item) (found : Found) (numbers : Numbers)
    → rows_of matched ≡ said_rows items 1
    → AreOptions items
    → Fits items found → ((m : Name) → IsNumber (limits_of c m) (values_for m items) (number_at m numbers))
    → IsSeed (row_of c).seed (files_of items) numbers.seed → AreNumbers (row_of c) matched numbers
numbers_read c matched items found numbers rows known fits are seed = record {
  budget = number Budget;
  workers = number Workers;
  carriers = number Carriers;
  upto = number Upto;
  seed = seed_read (row_of c).seed (files_of items) (first_value matched (codes "first")) numbers.seed (read_first matched items rows known) seed;
}
  where
    number : (m : Name) → IsNumber (limits_of c m) (values (first_value matched (name_of m))) (number_at m numbers)
    number m = subst (λ vs. IsNumber (limits_of c m) vs (number_at m numbers)) (sym (read_option m matched items found rows fits)) (are m)

number_read : (m : Name) (c : CommandName) (matched : Matched) (numbers : Numbers)
    → AreNumbers (row_of c) matched numbers
    → IsNumber (limits_of c m) (values (first_value matched (name_of m))) (number_at m numbers)
number_read Budget c matched numbers are = are.budget
number_read Workers c matched numbers are = are.workers
number_read Carriers c matched numbers are = are.carriers
number_read Upto c matched numbers are = are.upto

pub asked : (c : CommandName) (words : List (List ℕ)) (found : Found) (matched : Matched) (answer : Option Request)
    → slice_get words 1 ≡ Some (name_of_command c)
    → (items : List Item) → Says items (drop 2 words) → AreOptions items → Fits items found → FitsRow (row_of c) found
    → rows_of matched ≡ said_rows items 1 → IsReadOf c matched answer → IsRequestOf words answer
asked c words found matched None named items says known fits row rows none = λ d files numbers a.
    let is = asked_items c d words files numbers items named says known a in
    none numbers (numbers_read c matched items found numbers rows known fits (λ m. number_found m c d words files numbers items a is)
    (seed_found c d words files numbers items a is))
asked c words found matched (Some request) named items says known fits row rows (same, files, numbers) =
    let count : length (files_of items) ≡ (row_of c).files = ap length fits.files ∙ row.files in
    let read = read_files c matched items rows known count in record {
      named = named ∙ ap (λ d. Some (name_of_command d)) (sym same);
      items = items;
      says = says;
      known = known;
      count = count ∙ ap (λ d. (row_of d).files) (sym same);
      files_are = subst (λ d. files_under (row_of d).seed (files_of items) ≡ files_in request) (sym same)
          (files_under_same (row_of c).seed (row_of c).files matched (files_of items) (files_in request) read count files);
      seed_is = subst (λ d. IsSeed (row_of d).seed (files_of items) (numbers_in request).seed) (sym same)
          (seed_said c (files_of items) (first_value matched (codes "first")) (numbers_in request).seed count
          (read_first matched items rows known) numbers.seed);
      budget_is = number Budget;
      workers_are = number Workers;
      carriers_are = number Carriers;
      upto_is = number Upto;
    }
  where
    number : (m : Name)
        → IsNumber (limits_of (command_in request) m) (values_for m items) (number_at m (numbers_in request))
    number m = subst (λ d. IsNumber (limits_of d m) (values_for m items) (number_at m (numbers_in request))) (sym same)
        (subst (λ vs. IsNumber (limits_of c m) vs (number_at m (numbers_in request))) (read_option m matched items found rows fits)
        (number_read m c matched (numbers_in request) numbers))

-- words ask for one request at most

seed_same : (c : CommandName) (placed : List (List ℕ)) (m n : ℕ) → IsSeed (row_of c).seed placed m
    → IsSeed (row_of c).seed placed n → m ≡ n
seed_same command.Solve placed m n h g = h ∙ sym g
seed_same command.Check placed m n h g = h ∙ sym g
seed_same command.Run placed m n h g = h ∙ sym g
seed_same command.Chart placed m n h g = h ∙ sym g
seed_same command.Drill placed m n (h, below) (g, under) =
    decimal_injective m n (omega (arith, below)) (omega (arith, under)) (ap (λ (xs : List (List ℕ)). get_or xs 0 []) (sym h ∙ g))
seed_same command.Sweep placed m n h g = h ∙ sym g
seed_same command.Margin placed m n h g = h ∙ sym g
seed_same command.Follow placed m n h g = h ∙ sym g
seed_same command.Batch placed m n h g = h ∙ sym g

abbrev numbers_as : ℕ → ℕ → ℕ → ℕ → ℕ → Numbers
numbers_as budget workers carriers upto seed =
    record { budget = budget; workers = workers; carriers = carriers; upto = upto; seed = seed }

same_numbers : (n k : Numbers) → ((m : Name) → number_at m n ≡ number_at m k) → n.seed ≡ k.seed → n ≡ k
same_numbers n k same seed =
    ap₂ (λ b w. numbers_as b w n.carriers n.upto n.seed) (same Budget) (same Workers)
    ∙ ap₂ (λ c u. numbers_as k.budget k.workers c u n.seed) (same Carriers) (same Upto)
    ∙ ap (numbers_as k.budget k.workers k.carriers k.upto) seed

pub one_asked : (words files files' : List (List ℕ)) (c c' : CommandName) (numbers numbers' : Numbers)
    → AsksFor c words files numbers
    → AsksFor c' words files' numbers' → (c ≡ c') × (files ≡ files') × (numbers ≡ numbers')
one_asked words files files' c c' numbers numbers' a b =
    let is = asked_items c c' words files' numbers' a.items a.named a.says a.known b in
    let placed = ap₂ (λ d items. files_under (row_of d).seed (files_of items)) is.0 is.1 in
    let seed = seed_same c (files_of a.items) numbers.seed numbers'.seed a.seed_is (seed_found c c' words files' numbers' a.items b is) in
    (sym is.0, sym a.files_are ∙ sym placed ∙ b.files_are, same_numbers numbers numbers' (λ m. number m is) seed)
  where
    number : (m : Name) → (c' ≡ c) × (b.items ≡ a.items) → number_at m numbers ≡ number_at m numbers'
    number m is = number_same (limits_of c m) (values_for m a.items) (number_at m numbers) (number_at m numbers') (small c m)
        (number_asked m c words files numbers a) (number_found m c c' words files' numbers' a.items b is)

-- ---- the words of a call

second_of : (xs : List (List ℕ)) (t : List ℕ) (ts : List (List ℕ)) → drop 1 xs ≡ t ∷ ts
    → (slice_get xs 1 ≡ Some t) × (drop 2 xs ≡ ts)
second_of [] t ts e = let f : 0 ≡ suc (length ts) = ap length e in absurd (omega (arith, f))
second_of (x ∷ []) t ts e = let f : 0 ≡ suc (length ts) = ap length e in absurd (omega (arith, f))
second_of (x ∷ y ∷ xs) t ts e = (ap Some (ap (λ (ws : List (List ℕ)). get_or ws 0 []) e), ap (drop 1) e)

-- the words of a call, with the name of the command and what stands behind it
pub record IsCall (ws asked behind : List (String Global)) (text : List ℕ) : Type 0 where
  pub given : words_of asked ≡ text ∷ words_of behind
  pub named : slice_get (words_of ws) 1 ≡ Some text
  pub rest : words_of behind ≡ drop 2 (words_of ws)

abbrev pub tail_of : List (String Global) → List (String Global)
tail_of ws = take (length ws - 1) (drop 1 ws)

pub call_of : (ws : List (String Global)) (w : String Global) (text : List ℕ) → 1 ≤ length (tail_of ws)
    → w ≡ get_or (tail_of ws) 0 w → text ≡ string_bytes w
    → IsCall ws (tail_of ws) (tail_of (tail_of ws)) text
call_of ws w text some is text_is =
    let head = head_words (tail_of ws) w text some is text_is in
    let (named, rest) = second_of (words_of ws) text (words_of (tail_of (tail_of ws))) (sym (behind_words 1 ws) ∙ head) in
    record { given = head; named = named; rest = sym rest }

pub long_words : (n : ℕ) (ws asked behind : List (String Global)) (text : List ℕ) → IsCall ws asked behind text
    → n < length behind
    → n < length (drop 2 (words_of ws))
long_words n ws asked behind text call long =
    let e : length (words_of behind) ≡ length (drop 2 (words_of ws)) = ap length call.rest in
    omega (arith, long, e, length-map behind string_bytes)
