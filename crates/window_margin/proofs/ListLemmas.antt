-- Lists of constraints that are made one by one.
use Rattle.std.proofs.Common.{⊎_elim, ◌≡◌, ℕ, ◌+◌, ◌-◌, ◌<◌, List, [], ◌∷◌, ◌++◌, length, get_or, map, sym, ◌∙◌, ap, subst, arith}
use Rattle.std.proofs.lemmas.Bool.{cases_lt}
use Rattle.std.proofs.lemmas.List.{length-append, length-map, ext_get_or, get_or-map, get_or_append_left, get_or-append_right}
use Rattle.longest_path.specs.declared.systems.Arc.{Arc}
use Rattle.path_constraints.specs.Constraints.{no_arc}
use Rattle.hoist_base.specs.LineData.{LineData, move_count}
use Rattle.longest_path.specs.System.{SystemData}
use Rattle.window_margin.specs.declared.reads.MarginArc.{MarginArc}
use Rattle.window_margin.specs.Found.{named_arc, named_walk}
use Rattle.window_margin.specs.Systems.{arc_at}

-- the first so many have what each has by its number
abbrev pub AreUpTo : (ℕ → Arc → Type 0) → ℕ → List Arc → Type 0
AreUpTo P n xs = (length xs ≡ n) × ((j : ℕ) → j < n → P j (arc_at xs j))

pub pushed : (P : ℕ → Arc → Type 0) (n : ℕ) (xs ys : List Arc) (a : Arc) → AreUpTo P n xs → P n a → ys ≡ xs ++ a ∷ []
    → AreUpTo P (n + 1) ys
pushed P n xs ys a (count, each) last e = (
  omega (arith, ap (λ (zs : List Arc). length zs) e, length-append xs (a ∷ []), count),
  λ j lt.
      ⊎_elim
      (λ below. subst (λ (x : Arc). P j x) (sym (ap (λ (zs : List Arc). arc_at zs j) e
      ∙ get_or_append_left xs (a ∷ []) no_arc j (omega (arith, below, count)))) (each j below))
      (λ past.
      let at : n ≡ j = omega (arith, lt, past) in
      let first : n - n ≡ 0 = omega arith in
      let here : arc_at ys n ≡ a = ap (λ (zs : List Arc). arc_at zs n) e
      ∙ get_or-append_right xs (a ∷ []) n n no_arc count (omega arith)
      ∙ ap (λ (i : ℕ). get_or (a ∷ []) i no_arc) first in
      subst (λ (m : ℕ). P m (arc_at ys m)) at (subst (λ (x : Arc). P n x) (sym here) last))
      (cases_lt j n),
)

pub mapped : (f : Arc → Arc) (xs ys : List Arc) → length ys ≡ length xs
    → ((j : ℕ) → j < length xs → arc_at ys j ≡ f (arc_at xs j)) → ys ≡ map f xs
mapped f xs ys count each =
    ext_get_or no_arc ys (map f xs) (count ∙ sym (length-map xs f))
    (λ j lt. let below : j < length xs = omega (arith, lt, count) in each j below ∙ sym (get_or-map f xs j no_arc no_arc below))

pub system_made : (f : Arc → Arc) (l : LineData) (n k : ℕ) (arcs list : List Arc) (s : SystemData) → s ≡ record { nodes = n; arcs = list } → n ≡ move_count l
    → k ≡ length arcs → AreUpTo (λ j a. a ≡ f (arc_at arcs j)) k list
    → s ≡ record { nodes = move_count l; arcs = map f arcs }
system_made f l n k arcs list s made nodes all (count, each) =
    let system : ℕ → List Arc → SystemData = λ m xs. record { nodes = m; arcs = xs } in
    let is : list ≡ map f arcs = mapped f arcs list (count ∙ all) (λ j lt. each j (omega (arith, lt, all))) in
    made ∙ ap (λ (m : ℕ). system m list) nodes ∙ ap (λ (xs : List Arc). system (move_count l) xs) is

-- ---- walks by the moves that they join

abbrev pub no_named : LineData → MarginArc
no_named l = named_arc l no_arc

abbrev pub AreNamed : LineData → List Arc → List ℕ → ℕ → List MarginArc → Type 0
AreNamed l arcs walk n xs =
    (length xs ≡ n) × ((j : ℕ) → j < n → get_or xs j (no_named l) ≡ named_arc l (arc_at arcs (get_or walk j 0)))

pub named_more : (l : LineData) (arcs : List Arc) (walk : List ℕ) (n : ℕ) (xs ys : List MarginArc) (a : MarginArc)
    → AreNamed l arcs walk n xs
    → a ≡ named_arc l (arc_at arcs (get_or walk n 0)) → ys ≡ xs ++ a ∷ [] → AreNamed l arcs walk (n + 1) ys
named_more l arcs walk n xs ys a (count, each) last e = (
  omega (arith, ap (λ (zs : List MarginArc). length zs) e, length-append xs (a ∷ []), count),
  λ j lt.
      let d = no_named l in
      ⊎_elim
      (λ below. ap (λ (zs : List MarginArc). get_or zs j d) e ∙ get_or_append_left xs (a ∷ []) d j (omega (arith, below, count)) ∙ each j below)
      (λ past.
      let at : j ≡ n = omega (arith, lt, past) in
      let first : j - n ≡ 0 = omega (arith, at) in
      ap (λ (zs : List MarginArc). get_or zs j d) e ∙ get_or-append_right xs (a ∷ []) n j d count past ∙ ap (λ (i : ℕ). get_or (a ∷ []) i d) first ∙ last
      ∙ ap (λ (m : ℕ). named_arc l (arc_at arcs (get_or walk m 0))) (sym at))
      (cases_lt j n),
)

pub all_named : (l : LineData) (arcs : List Arc) (walk : List ℕ) (n : ℕ) (xs : List MarginArc)
    → AreNamed l arcs walk n xs → n ≡ length walk
    → xs ≡ named_walk l arcs walk
all_named l arcs walk n xs (count, each) all =
    let f : ℕ → MarginArc = λ k. named_arc l (arc_at arcs k) in
    ext_get_or (no_named l) xs (map f walk) (count ∙ all ∙ sym (length-map walk f))
    (λ j lt.
    let below : j < n = omega (arith, lt, count) in
    each j below ∙ sym (get_or-map f walk j 0 (no_named l) (omega (arith, below, all))))
