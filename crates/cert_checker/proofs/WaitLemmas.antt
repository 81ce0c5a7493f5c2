-- The children of a split on a stack.
use Rattle.std.proofs.Common.{◌≡◌, ℕ, zero, suc, ◌+◌, ◌-◌, ◌<◌, ◌≤◌, List, [], ◌∷◌, ◌++◌, length, get_or, take, map, reverse, refl, sym, ◌∙◌, ap, arith, append_assoc}
use Rattle.std.proofs.lemmas.List.{take_all, take_more, get_or-reverse, length-reverse}
use Rattle.choice_tree.specs.declared.question.Question.{Question}
use Rattle.cert_checker.specs.declared.tree.Waiting.{Waiting}
use Rattle.cert_checker.specs.Waiting.{waits_of}

-- a child that waits
abbrev pub wait : ℕ → Question → ℕ → ℕ → Waiting
wait above question m c = record { node = c; above = above; decision = record { question = question; child = m } }

pub length-waits : (above : ℕ) (question : Question) (m : ℕ) (cs : List ℕ)
    → length (waits_of above question m cs) ≡ length cs
length-waits above question m [] = refl
length-waits above question m (c ∷ cs) = ap (λ (n : ℕ). suc n) (length-waits above question (m + 1) cs)

get_or-waits : (above : ℕ) (question : Question) (m : ℕ) (cs : List ℕ) (j : ℕ) (d : Waiting) → j < length cs
    → get_or (waits_of above question m cs) j d ≡ wait above question (m + j) (get_or cs j 0)
get_or-waits above question m [] j d lt = absurd (omega (arith, lt))
get_or-waits above question m (c ∷ cs) zero d lt = let e : m ≡ m + 0 = omega arith in ap (λ (n : ℕ). wait above question n c) e
get_or-waits above question m (c ∷ cs) (suc j) d lt =
    let e : m + 1 + j ≡ m + suc j = omega arith in
    get_or-waits above question (m + 1) cs j d (omega (arith, lt)) ∙ ap (λ (n : ℕ). wait above question n (get_or cs j 0)) e

-- one more of a list goes on a stack, from the last to the first
pushed_more : {X : Type 0} (old xs stack pushed : List X) (k : ℕ) (v : X) → k < length xs
    → v ≡ get_or xs (length xs - 1 - k) v
    → stack ≡ old ++ take k (reverse xs) → pushed ≡ stack ++ v ∷ [] → pushed ≡ old ++ take (k + 1) (reverse xs)
pushed_more {X} old xs stack pushed k v lt read was is =
    let there : k < length (reverse xs) = omega (arith, length-reverse xs) in
    let e : v ≡ get_or (reverse xs) k v = read ∙ sym (get_or-reverse xs k v lt) in
    let more : take (k + 1) (reverse xs) ≡ take k (reverse xs) ++ v ∷ [] =
    take_more (reverse xs) k v there ∙ ap (λ (x : X). take k (reverse xs) ++ x ∷ []) (sym e) in
    is ∙ ap (λ (ys : List X). ys ++ v ∷ []) was ∙ append_assoc old (take k (reverse xs)) (v ∷ []) ∙ ap (λ (ys : List X). old ++ ys) (sym more)

pub waits_more : (above : ℕ) (question : Question) (cs : List ℕ) (old stack pushed : List Waiting) (k : ℕ)
    → k < length cs
    → stack ≡ old ++ take k (reverse (waits_of above question 0 cs))
    → pushed ≡ stack ++ wait above question (length cs - 1 - k) (get_or cs (length cs - 1 - k) 0) ∷ []
    → pushed ≡ old ++ take (k + 1) (reverse (waits_of above question 0 cs))
waits_more above question cs old stack pushed k lt was is =
    let ws = waits_of above question 0 cs in
    let v = wait above question (length cs - 1 - k) (get_or cs (length cs - 1 - k) 0) in
    let size = length-waits above question 0 cs in
    let at : length cs - 1 - k ≡ length ws - 1 - k = omega (arith, size) in
    let zero_in : 0 + (length cs - 1 - k) ≡ length cs - 1 - k = omega arith in
    let read : get_or ws (length cs - 1 - k) v ≡ v =
    get_or-waits above question 0 cs (length cs - 1 - k) v (omega (arith, lt)) ∙ ap
    (λ (n : ℕ). wait above question n (get_or cs (length cs - 1 - k) 0)) zero_in in
    pushed_more old ws stack pushed k v (omega (arith, lt, size)) (sym read ∙ ap (λ (n : ℕ). get_or ws n v) at) was is

pub waits_all : (above : ℕ) (question : Question) (cs : List ℕ) (old stack : List Waiting) (k : ℕ) → length cs ≤ k
    → stack ≡ old ++ take k (reverse (waits_of above question 0 cs))
    → stack ≡ old ++ reverse (waits_of above question 0 cs)
waits_all above question cs old stack k le was =
    let ws = waits_of above question 0 cs in
    was ∙ ap (λ (ys : List Waiting). old ++ ys) (take_all k (reverse ws) (omega (arith, le, length-reverse ws, length-waits above question 0 cs)))

pub nodes-waits : (above : ℕ) (question : Question) (m : ℕ) (cs : List ℕ)
    → map (λ (w : Waiting). w.node) (waits_of above question m cs) ≡ cs
nodes-waits above question m [] = refl
nodes-waits above question m (c ∷ cs) = ap (λ (ns : List ℕ). c ∷ ns) (nodes-waits above question (m + 1) cs)
