-- The parts of a batch are what `solve` prints.
use Rattle.std.proofs.Common.{◌≡◌, ℕ, zero, suc, ◌+◌, ◌<◌, ◌≤◌, ⊎_elim, inl, inr, List, [], ◌∷◌, ◌++◌, length, get_or, take, Option}
use Rattle.std.proofs.Common.{refl, ap, ◌∙◌, sym, subst, arith, String, Global, string_bytes}
use Rattle.std.proofs.lemmas.List.{take_more, take_all, get_or-map, length-map}
use Rattle.std.specs.List.{AllZip}
use Rattle.outside.specs.Count.{Rose}
use Rattle.outside.specs.Shelf.{Files}
use Rattle.file_list.specs.declared.read.ListRead.{ListRead}
use Rattle.file_list.specs.declared.read.ListRead.TheVariants as lists
use Rattle.file_list.specs.FileList.{IsListRead}
use Rattle.hoist_words.specs.Request.{words_of}
use Rattle.hoist_cli.specs.declared.status.Status.{Status}
use Rattle.hoist_cli.specs.declared.replies.Stop.{Stop}
use Rattle.hoist_cli.specs.declared.replies.Stop.TheVariants as stops
use Rattle.hoist_cli.specs.Stops.{Refuses}
use Rattle.line_text.specs.declared.why.LineRead.{LineRead}
use Rattle.line_text.specs.declared.why.LineRead.TheVariants.{Ready, Refused}
use Rattle.answer_text.specs.declared.answer.Verdict.{Verdict}
use Rattle.answer_text.specs.declared.answer.Verdict.TheVariants as verdicts
use Rattle.batch_lines.specs.declared.single.Single.{Single}
use Rattle.batch_lines.specs.Batch as batches
use Rattle.batch_lines.specs.Parts.{IsPart}
use Rattle.hoist_cli.specs.declared.status.Status.TheVariants as statuses
use Rattle.hoist_cli.specs.Exit.{number_of}
use Rattle.hoist_cli.specs.Reading.{Reading, reading, IsFile, IsFileRefusal, line_limit}
use Rattle.hoist_cli.specs.Solved.{status_of}
use Rattle.hoist_cli.specs.Batched.{IsReadAs, AreReadAs, IsListedStop, IsSolvedPart}

same_status : (v : Verdict) → batches.status_of v ≡ number_of (status_of v)
same_status verdicts.Optimal = refl
same_status verdicts.Nothing = refl
same_status verdicts.Unfinished = refl

part_solved : (r : Reading) (budget : ℕ) (name : List ℕ) (read : LineRead) (part : Single) → IsReadAs r.files name read
    → IsPart budget read part
    → IsSolvedPart r budget name part
part_solved r budget name (Ready l) part seen is = (
  status_of is.answer.verdict,
  is.status ∙ same_status is.answer.verdict,
  inr (
    l,
    record { bytes = seen.bytes; file = seen.file; read = seen.is; valid = seen.valid },
    (is.answer, is.solution, is.claim, is.writable, refl, is.text),
  ),
)
part_solved r budget name (Refused why) part seen is = (
  statuses.Line,
  ap (λ (p : Single). p.status) is,
  inl (inr (why, record { bytes = seen.bytes; file = seen.file; read = seen.is }, (refl, ap (λ (p : Single). p.text) is))),
)

pub parts_solved : (r : Reading) (budget : ℕ) (names : List (List ℕ)) (reads : List LineRead) (parts : List Single)
    → AreReadAs r.files names reads → AllZip (IsPart budget) reads parts → AllZip (IsSolvedPart r budget) names parts
parts_solved r budget [] [] [] are each = tt
parts_solved r budget [] [] (p ∷ ps) are each = absurd each
parts_solved r budget [] (d ∷ ds) ps are each = absurd are
parts_solved r budget (n ∷ ns) [] ps are each = absurd are
parts_solved r budget (n ∷ ns) (d ∷ ds) [] are each = absurd each
parts_solved r budget (n ∷ ns) (d ∷ ds) (p ∷ ps) are each =
    (part_solved r budget n d p are.0 each.0, parts_solved r budget ns ds ps are.1 each.1)

-- ---- the files that a list names, one after another

pushed : {A B : Type 0} (R : A → B → Type 0) (xs : List A) (ys : List B) (x : A) (y : B) → AllZip R xs ys → R x y
    → AllZip R (xs ++ x ∷ []) (ys ++ y ∷ [])
pushed R [] [] x y all one = (one, tt)
pushed R [] (b ∷ ys) x y all one = absurd all
pushed R (a ∷ xs) [] x y all one = absurd all
pushed R (a ∷ xs) (b ∷ ys) x y all one = (all.0, pushed R xs ys x y all.1 one)

pub as_long : {A B : Type 0} (R : A → B → Type 0) (xs : List A) (ys : List B) → AllZip R xs ys → length ys ≡ length xs
as_long R [] [] all = refl
as_long R [] (b ∷ ys) all = absurd all
as_long R (a ∷ xs) [] all = absurd all
as_long R (a ∷ xs) (b ∷ ys) all = ap suc (as_long R xs ys all.1)

-- a list in a code's hands, name by name
name_at : (names : List (String Global)) (i : ℕ) (word : String Global) → i < length names → word ≡ get_or names i word
    → get_or (words_of names) i [] ≡ string_bytes word
name_at names i word lt is = get_or-map string_bytes names i word [] lt ∙ ap string_bytes (sym is)

pub reads_more : (files : Option Files) (names : List (String Global)) (i : ℕ) (word : String Global) (name : List ℕ)
    (reads more : List LineRead) (read : LineRead) → i < length names → word ≡ get_or names i word → name ≡ string_bytes word
    → AreReadAs files (take i (words_of names)) reads → IsReadAs files name read → more ≡ reads ++ read ∷ []
    → AreReadAs files (take (i + 1) (words_of names)) more
reads_more files names i word name reads more read lt at is are one push =
    let within : i < length (words_of names) = omega (arith, lt, length-map names string_bytes) in
    let same : get_or (words_of names) i [] ≡ name = name_at names i word lt at ∙ sym is in
    let grown : take (i + 1) (words_of names) ≡ take i (words_of names) ++ name ∷ [] =
    take_more (words_of names) i [] within ∙ ap (λ (n : List ℕ). take i (words_of names) ++ n ∷ []) same in
    subst (λ (ds : List LineRead). AreReadAs files (take (i + 1) (words_of names)) ds) (sym push)
    (subst (λ (ns : List (List ℕ)). AreReadAs files ns (reads ++ read ∷ [])) (sym grown)
    (pushed (IsReadAs files) (take i (words_of names)) reads name read are one))

pub reads_all : (files : Option Files) (names : List (String Global)) (listed : List (List ℕ)) (i : ℕ) (reads : List LineRead)
    → words_of names ≡ listed → length names ≤ i → AreReadAs files (take i (words_of names)) reads
    → AreReadAs files listed reads
reads_all files names listed i reads same all are =
    let whole : take i (words_of names) ≡ listed = take_all i (words_of names) (omega (arith, all, length-map names string_bytes)) ∙ same in
    subst (λ (ns : List (List ℕ)). AreReadAs files ns reads) whole are

read_at : (files : Option Files) (names : List (List ℕ)) (i j : ℕ) (reads : List LineRead)
    → AreReadAs files (take i names) reads → j < i
    → j < length names → (bytes : List ℕ) × IsFile files (get_or names j []) line_limit bytes
read_at files [] i j reads are before lt = absurd (omega (arith, lt))
read_at files (n ∷ ns) zero j reads are before lt = absurd (omega (arith, before))
read_at files (n ∷ ns) (suc i) j [] are before lt = absurd are
read_at files (n ∷ ns) (suc i) zero (d ∷ ds) are before lt = (are.0.bytes, are.0.file)
read_at files (n ∷ ns) (suc i) (suc j) (d ∷ ds) are before lt =
    read_at files ns i j ds are.1 (omega (arith, before)) (omega (arith, lt))

-- a count that rose since a later moment rose since an earlier one
earlier : (before mid after : ℕ) → before ≤ mid → Rose mid after → Rose before after
earlier before mid after le rose = omega (arith, le, rose)

file_refused : (files files' : Option Files) (before mid after : ℕ) (name name' : List ℕ) (status : Status) (text : List ℕ)
    → files' ≡ files
    → before ≤ mid → name' ≡ name → IsFileRefusal (reading files' mid after) name' line_limit status text
    → IsFileRefusal (reading files before after) name line_limit status text
file_refused files files' before mid after name name' status text same le named is =
    subst (λ (n : List ℕ). IsFileRefusal (reading files before after) n line_limit status text) named
    (subst (λ (fs : Option Files). IsFileRefusal (reading fs before after) name' line_limit status text) same
    (⊎_elim (λ (rose, line). inl (earlier before mid after le rose, line)) (λ long. inr long) is))

pub listed_refused : (files files' : Option Files) (before mid after : ℕ) (names : List (String Global)) (listed : List (List ℕ)) (i : ℕ)
    (word : String Global) (name : List ℕ) (reads : List LineRead) (stop : Stop)
    → words_of names ≡ listed → i < length names → word ≡ get_or names i word → name ≡ string_bytes word
    → AreReadAs files (take i (words_of names)) reads → files' ≡ files → before ≤ mid
    → Refuses (IsFileRefusal (reading files' mid after) name line_limit) stop
    → Refuses (IsListedStop (reading files before after) listed) stop
listed_refused files files' before mid after names listed i word name reads stops.Memory listing lt at is are same le refused = tt
listed_refused files files' before mid after names listed i word name reads (stops.Refused reply) listing lt at is are same le refused =
    subst (λ (ns : List (List ℕ)). IsListedStop (reading files before after) ns reply.status reply.text.items) listing (record {
      index = i;
      there = within;
      before = λ j less. read_at files (words_of names) i j reads are less (omega (arith, less, within));
      refused =
          file_refused files files' before mid after (get_or (words_of names) i []) name reply.status reply.text.items same le
          (is ∙ sym (name_at names i word lt at)) refused;
    })
  where
    within : i < length (words_of names)
    within = omega (arith, lt, length-map names string_bytes)

-- what was found of a list is right of its bytes
pub list_right : (bytes seen : List ℕ) (read : ListRead) (names : List (List ℕ)) → seen ≡ bytes
    → read ≡ lists.Ready names → IsListRead seen read
    → IsListRead bytes (lists.Ready names)
list_right bytes seen read names same ready is =
    subst (λ (b : List ℕ). IsListRead b (lists.Ready names)) same (subst (λ (r : ListRead). IsListRead seen r) ready is)

-- a stop at a file of a list, over the same files, after a moment before
pub listed_still : (files files' : Option Files) (before mid after : ℕ) (names : List (List ℕ)) (stop : Stop)
    → files' ≡ files → before ≤ mid
    → Refuses (IsListedStop (reading files' mid after) names) stop
    → Refuses (IsListedStop (reading files before after) names) stop
listed_still files files' before mid after names stops.Memory same le refused = tt
listed_still files files' before mid after names (stops.Refused reply) same le refused = record {
  index = refused.index;
  there = refused.there;
  before = λ i less. let (bytes, file) = refused.before i less in
      (bytes, subst (λ (fs : Option Files). IsFile fs (get_or names i []) line_limit bytes) same file);
  refused =
      file_refused files files' before mid after (get_or names refused.index []) (get_or names refused.index []) reply.status reply.text.items same le
      refl refused.refused;
}
