-- A stack with the first path on top.
use Rattle.std.proofs.Common.{◌≡◌, ℕ, ◌+◌, ◌-◌, ◌≤◌, List, ◌++◌, length, take, drop, reverse, sym, ◌∙◌, ap, arith}
use Rattle.std.proofs.lemmas.List.{reverse-append, reverse-reverse, length-reverse, drop_at, take-append-drop, length-drop, take_all}

-- without its last elements a list is, turned round, without the first
reverse_front : (xs : List ℕ) (n : ℕ) → n ≤ length xs → reverse (take (length xs - n) xs) ≡ drop n (reverse xs)
reverse_front xs n le =
    let m = length xs - n in
    let parts : reverse xs ≡ reverse (drop m xs) ++ reverse (take m xs) =
    sym (ap (λ (ys : List ℕ). reverse ys) (take-append-drop m xs)) ∙ reverse-append (take m xs) (drop m xs) in
    let size : length (reverse (drop m xs)) ≡ n = omega (arith, le, length-reverse (drop m xs), length-drop m xs) in
    sym (ap (λ (ys : List ℕ). drop n ys) parts ∙ drop_at (reverse (drop m xs)) (reverse (take m xs)) n size)

-- other paths in the place of the first ones
pub replaced_first : (stack short pushed paths frontier : List ℕ) (count rest k : ℕ) → reverse stack ≡ frontier
    → short ≡ take rest stack
    → rest + count ≡ length stack → length paths ≤ k → k ≤ length paths → pushed ≡ short ++ take k (reverse paths)
    → reverse pushed ≡ paths ++ drop count frontier
replaced_first stack short pushed paths frontier count rest k is cut size past le on =
    let all : take k (reverse paths) ≡ reverse paths = take_all k (reverse paths) (omega (arith, past, length-reverse paths)) in
    let n : rest ≡ length stack - count = omega (arith, size) in
    let front : reverse short ≡ drop count (reverse stack) =
    ap (λ (ys : List ℕ). reverse ys) (cut ∙ ap (λ (m : ℕ). take m stack) n) ∙ reverse_front stack count (omega (arith, size)) in
    ap (λ (ys : List ℕ). reverse ys) (on ∙ ap (λ (ys : List ℕ). short ++ ys) all) ∙ reverse-append short (reverse paths)
    ∙ ap (λ (ys : List ℕ). ys ++ reverse short) (reverse-reverse paths) ∙ ap (λ (ys : List ℕ). paths ++ ys) (front ∙ ap (λ (ys : List ℕ). drop count ys) is)
