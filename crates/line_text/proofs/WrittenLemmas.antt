-- The text of a line file, part by part.
use Rattle.std.proofs.Common.{◌≡◌, ℕ, ◌+◌, ◌<◌, ◌==◌, ◌≢◌, take, List, [], ◌∷◌, ◌++◌, length, get_or, All, map, flat_map, codes, refl, sym, ap, ◌∙◌, append_assoc, arith, Bool, false, if◌then◌else◌}
use Rattle.std.specs.List.{range_with_len}
use Rattle.std.proofs.lemmas.Bool.{eq-eqb}
use Rattle.std.proofs.lemmas.Bool.Decides.{nat_tests}
use Rattle.std.proofs.lemmas.List.{map-id, append-nil, take_more, get_or_read}
use Rattle.std.proofs.lemmas.List.Folds.{flat_map-map}
use Rattle.std.proofs.lemmas.List.Elements.{All-from_get_or, Contains-get_or}
use Rattle.std.proofs.lemmas.List.FromFn.{map-range_with_len_more}
use Rattle.std.proofs.lemmas.Grind.{flat_map-append}
use Rattle.hoist_base.specs.declared.tank.Tank.{Tank}
use Rattle.hoist_base.specs.declared.stage.Stage.{Stage}
use Rattle.hoist_base.specs.LineData.{LineData, stage, no_stage, is_single}
use Rattle.hoist_base.specs.Valid.{IsLine}
use Rattle.line_text.specs.declared.fields.Field.{Field}
use Rattle.line_text.specs.declared.fields.Field.TheVariants as fields
use Rattle.line_text.specs.Written.{Pair, one_number, root_pairs, line_file_text, only_tank, all_tanks, window_pairs, stage_pairs, quoted, names_text, pair_text, header_text, tank_text, stage_text}

-- ---- parts behind one another

-- a line with a key and its number, then the lines of others
pub then_number : (field : Field) (n m : ℕ) (rest : List Pair) (old mid new : List ℕ) → n ≡ m
    → mid ≡ old ++ pair_text (field, one_number n)
    → new ≡ mid ++ flat_map pair_text rest → new ≡ old ++ flat_map pair_text ((field, one_number m) ∷ rest)
then_number field n m rest old mid new same here more =
    more ∙ ap (λ (x : List ℕ). x ++ flat_map pair_text rest) (here ∙ ap (λ i. old ++ pair_text (field, one_number i)) same)
    ∙ append_assoc old (pair_text (field, one_number m)) (flat_map pair_text rest)

then_pair : (p : Pair) (rest : List Pair) (old mid new : List ℕ) → mid ≡ old ++ pair_text p
    → new ≡ mid ++ flat_map pair_text rest
    → new ≡ old ++ flat_map pair_text (p ∷ rest)
then_pair p rest old mid new here more = more ∙ ap (λ (x : List ℕ). x ++ flat_map pair_text rest) here
    ∙ append_assoc old (pair_text p) (flat_map pair_text rest)

pub last_number : (field : Field) (n m : ℕ) (old new : List ℕ) → n ≡ m → new ≡ old ++ pair_text (field, one_number n)
    → new ≡ old ++ flat_map pair_text ((field, one_number m) ∷ [])
last_number field n m old new same here =
    here ∙ ap (λ i. old ++ pair_text (field, one_number i)) same ∙ ap (λ (x : List ℕ). old ++ x) (sym (append-nil (pair_text (field, one_number m))))

-- two parts are one
two_parts : (x y old mid new : List ℕ) → mid ≡ old ++ x → new ≡ mid ++ y → new ≡ old ++ (x ++ y)
two_parts x y old mid new before after = after ∙ ap (λ (z : List ℕ). z ++ y) before ∙ append_assoc old x y

-- a table more
pub one_tank_more : (tanks : List Tank) (i : ℕ) (t d : Tank) (old text new : List ℕ) → i < length tanks
    → t ≡ get_or tanks i d
    → text ≡ old ++ flat_map tank_text (take i tanks) → new ≡ text ++ tank_text t
    → new ≡ old ++ flat_map tank_text (take (i + 1) tanks)
one_tank_more tanks i t d old text new there same before after =
    two_parts (flat_map tank_text (take i tanks)) (tank_text t) old text new before after
    ∙ ap (λ (x : List ℕ). old ++ x) (sym (
    ap (flat_map tank_text) (take_more tanks i d there) ∙ flat_map-append tank_text (take i tanks) (get_or tanks i d ∷ [])
    ∙ ap (λ (x : List ℕ). flat_map tank_text (take i tanks) ++ x) (append-nil (tank_text (get_or tanks i d)))
    ∙ ap (λ (x : Tank). flat_map tank_text (take i tanks) ++ tank_text x) (sym same)))

-- a name, and those behind it
pub names_behind : (f : ℕ → List ℕ) (tanks rest : List ℕ) (i : ℕ) (old mid new : List ℕ) → tanks ≡ i ∷ rest
    → mid ≡ old ++ quoted (f i)
    → new ≡ mid ++ flat_map (λ j. codes ", " ++ quoted (f j)) rest → new ≡ old ++ names_text (map f tanks)
names_behind f tanks rest i old mid new parts here more =
    two_parts (quoted (f i)) (flat_map (λ j. codes ", " ++ quoted (f j)) rest) old mid new here more
    ∙ ap (λ (x : List ℕ). old ++ (quoted (f i) ++ x)) (sym (flat_map-map (λ n. codes ", " ++ quoted n) f rest))
    ∙ ap (λ (xs : List ℕ). old ++ names_text (map f xs)) (sym parts)

-- ---- the keys of a stage

unequal : (a b : ℕ) → a ≢ b → (a == b) ≡ false
unequal a b h = grind (arith, nat_tests)

first_pairs : (l : LineData) (k : ℕ) → k ≡ 0
    → stage_pairs l k ≡ only_tank l (stage l k) ∷ (fields.Lift, one_number (stage l k).lift) ∷ []
first_pairs l k first = rw (eq-eqb k 0 first)

last_pairs : (l : LineData) (k : ℕ) → k ≢ 0 → k + 1 ≡ length l.stages
    → stage_pairs l k ≡ only_tank l (stage l k) ∷ (fields.Lower, one_number (stage l k).lower) ∷ []
last_pairs l k later last = rw (unequal k 0 later, eq-eqb (k + 1) (length l.stages) last)

inner_pairs : (l : LineData) (k : ℕ) (single : Bool) → single ≡ is_single l → k ≢ 0 → k + 1 ≢ length l.stages
    → stage_pairs l k ≡ (if single then only_tank l (stage l k) else all_tanks l (stage l k)) ∷ window_pairs (stage l k)
inner_pairs l k single same later inner = rw (unequal k 0 later, unequal (k + 1) (length l.stages) inner, same)

-- the header and the lines of a stage
stage_with : (l : LineData) (k : ℕ) (pairs : List Pair) (old head new : List ℕ) → stage_pairs l k ≡ pairs
    → head ≡ old ++ header_text fields.Stage
    → new ≡ head ++ flat_map pair_text pairs → new ≡ old ++ stage_text l k
stage_with l k pairs old head new is here more =
    two_parts (header_text fields.Stage) (flat_map pair_text pairs) old head new here more
    ∙ ap (λ (ps : List Pair). old ++ (header_text fields.Stage ++ flat_map pair_text ps)) (sym is)

the_stage : (l : LineData) (k : ℕ) (s : Stage) → k < length l.stages → s ≡ get_or l.stages k s → s ≡ stage l k
the_stage l k s there read = get_or_read l.stages k s there read no_stage

pub first_stage : (l : LineData) (k : ℕ) (s : Stage) (old head one new : List ℕ) → k < length l.stages
    → s ≡ get_or l.stages k s → k ≡ 0
    → head ≡ old ++ header_text fields.Stage → one ≡ head ++ pair_text (only_tank l s)
    → new ≡ one ++ pair_text (fields.Lift, one_number s.lift)
    → new ≡ old ++ stage_text l k
first_stage l k s old head one new there read first header named lift =
    let same = the_stage l k s there read in
    let rest = (fields.Lift, one_number s.lift) ∷ [] in
    let pairs : stage_pairs l k ≡ only_tank l s ∷ rest = first_pairs l k first
    ∙ ap (λ (t : Stage). only_tank l t ∷ (fields.Lift, one_number t.lift) ∷ []) (sym same) in
    stage_with l k (only_tank l s ∷ rest) old head new pairs header
    (then_pair (only_tank l s) rest head one new named (last_number fields.Lift s.lift s.lift one new refl lift))

pub last_stage : (l : LineData) (k : ℕ) (s : Stage) (old head one new : List ℕ) → k < length l.stages
    → s ≡ get_or l.stages k s → k ≢ 0 → k + 1 ≡ length l.stages
    → head ≡ old ++ header_text fields.Stage → one ≡ head ++ pair_text (only_tank l s)
    → new ≡ one ++ pair_text (fields.Lower, one_number s.lower)
    → new ≡ old ++ stage_text l k
last_stage l k s old head one new there read later last header named lower =
    let same = the_stage l k s there read in
    let rest = (fields.Lower, one_number s.lower) ∷ [] in
    let pairs : stage_pairs l k ≡ only_tank l s ∷ rest = last_pairs l k later last
    ∙ ap (λ (t : Stage). only_tank l t ∷ (fields.Lower, one_number t.lower) ∷ []) (sym same) in
    stage_with l k (only_tank l s ∷ rest) old head new pairs header
    (then_pair (only_tank l s) rest head one new named (last_number fields.Lower s.lower s.lower one new refl lower))

pub inner_stage : (l : LineData) (k : ℕ) (single : Bool) (s : Stage) (old head new : List ℕ) → single ≡ is_single l
    → k < length l.stages → s ≡ get_or l.stages k s
    → k ≢ 0 → k + 1 ≢ length l.stages → head ≡ old ++ header_text fields.Stage
    → new ≡ head ++ flat_map pair_text ((if single then only_tank l s else all_tanks l s) ∷ window_pairs s)
    → new ≡ old ++ stage_text l k
inner_stage l k single s old head new version there read later inner header lines =
    let same = the_stage l k s there read in
    let pairs : stage_pairs l k ≡ (if single then only_tank l s else all_tanks l s) ∷ window_pairs s =
    inner_pairs l k single version later inner ∙ ap (λ (t : Stage). (if single then only_tank l t else all_tanks l t) ∷ window_pairs t) (sym same) in
    stage_with l k _ old head new pairs header lines

-- ---- a line per number

range_more : (n : ℕ) → range_with_len 0 (n + 1) ≡ range_with_len 0 n ++ n ∷ []
range_more n =
    sym (map-id (range_with_len 0 (n + 1))) ∙ map-range_with_len_more (λ (x : ℕ). x) 0 n n (omega arith)
    ∙ ap (λ (xs : List ℕ). xs ++ n ∷ []) (map-id (range_with_len 0 n))

each_more : (n : ℕ) (f : ℕ → List ℕ) → flat_map f (range_with_len 0 (n + 1)) ≡ flat_map f (range_with_len 0 n) ++ f n
each_more n f =
    ap (flat_map f) (range_more n) ∙ flat_map-append f (range_with_len 0 n) (n ∷ [])
    ∙ ap (λ (xs : List ℕ). flat_map f (range_with_len 0 n) ++ xs) (append-nil (f n))

-- what stands for one number more, behind what was there
pub one_more : (old text new : List ℕ) (n : ℕ) (f : ℕ → List ℕ) → text ≡ old ++ flat_map f (range_with_len 0 n)
    → new ≡ text ++ f n
    → new ≡ old ++ flat_map f (range_with_len 0 (n + 1))
one_more old text new n f before after =
    after ∙ ap (λ (xs : List ℕ). xs ++ f n) before ∙ append_assoc old (flat_map f (range_with_len 0 n)) (f n)
    ∙ ap (λ (xs : List ℕ). old ++ xs) (sym (each_more n f))

-- ---- the tanks of a stage are there

pub tanks_there : (l : LineData) (k : ℕ) → IsLine l → All (λ i. i < length l.tanks) (stage l k).tanks
tanks_there l k valid =
    All-from_get_or (λ i. i < length l.tanks) (stage l k).tanks 0
    (λ j there. valid.stages.there k (get_or (stage l k).tanks j 0) (Contains-get_or (stage l k).tanks j 0 there))

-- ---- the whole

pub whole : (l : LineData) (none root tanks all : List ℕ) → none ≡ [] → root ≡ none ++ flat_map pair_text (root_pairs l)
    → tanks ≡ root ++ flat_map tank_text l.tanks
    → all ≡ tanks ++ flat_map (stage_text l) (range_with_len 0 (length l.stages)) → all ≡ line_file_text l
unfolding line_file_text
whole l none root tanks all empty p q r =
    two_parts (flat_map pair_text (root_pairs l)) _ none root all p (two_parts (flat_map tank_text l.tanks) _ root tanks all q r)
    ∙ ap (λ (x : List ℕ). x ++ (flat_map pair_text (root_pairs l)
    ++ (flat_map tank_text l.tanks ++ flat_map (stage_text l) (range_with_len 0 (length l.stages))))) empty
