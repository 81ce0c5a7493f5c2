-- Rows in a table.
use Rattle.std.proofs.Common.{◌≡◌, ℕ, suc, ◌+◌, ◌-◌, ◌*◌, ◌<◌, ◌≤◌, ⊎_elim, List, ◌++◌, length, take, drop, get_or, sym, ap, ◌∙◌, ℤ, pos, ◌+ℤ◌, length-take, length-drop, arith}
use Rattle.std.proofs.lemmas.Bool.{cases_eq}
use Rattle.std.proofs.lemmas.List.{get_or_append_left, get_or-append-add, get_or-take, get_or-drop}
use Rattle.std.proofs.lemmas.Nat.{mul-le}
use Rattle.std.specs.Prelude.{unsigned_abs}
use Rattle.longest_path.specs.declared.room.Step.{Step}
use Rattle.longest_path.specs.declared.room.Near.{Near}
use Rattle.longest_path.specs.System.{SystemData, IsSystem, arc}
use Rattle.longest_path.specs.Rounds.{weights_at, value_from, cell, number, AreRows, IsTable}
use Rattle.longest_path.specs.Near.{IsMade, IsPacked}
use Rattle.longest_path.proofs.ValueLemmas.{from_at, brought_same}
use Rattle.longest_path.proofs.NearLemmas.{round_brings}

-- ---- rows in a table
-- the row that was written, behind those before it
pub row_new : (n k m i : ℕ) (done new rest : List ℤ) → k ≡ n → length done ≡ (m + 1) * k → length new ≡ k → i < n
    → cell n (done ++ (new ++ rest)) (m + 1) i ≡ number new i
row_new n k m i done new rest e count size p =
    let same = ap (λ x. (m + 1) * x) e in
    let place : (m + 1) * n + i ≡ length done + i = omega (arith, same, count) in
    ap (λ x. get_or (done ++ (new ++ rest)) x (pos 0)) place
    ∙ get_or-append-add done (new ++ rest) i (pos 0)
    ∙ get_or_append_left new rest (pos 0) i (omega (arith, p, size, e))

-- the row before it
pub row_old : (n k m i : ℕ) (rows done back : List ℤ) → k ≡ n → rows ≡ done ++ back → length done ≡ (m + 1) * k → i < n
    → number (take (length done - m * k) (drop (m * k) done)) i ≡ cell n rows m i
row_old n k m i rows done back e is count p =
    let same = ap (λ x. m * x) e in
    let inside : m * k + i < length done = omega (arith, count, p, e) in
    get_or-take (length done - m * k) (drop (m * k) done) i (pos 0) (omega (arith, inside))
    ∙ get_or-drop (m * k) done i (pos 0)
    ∙ sym (get_or_append_left done back (pos 0) (m * k + i) inside)
    ∙ ap (λ xs. get_or xs (m * k + i) (pos 0)) (sym is)
    ∙ ap (λ x. get_or rows (x + i) (pos 0)) same

-- both, where a table is split behind row m; and the two rows as slices
pub next_rows : (s : SystemData) (n m : ℕ) (rows done back new : List ℤ) → n ≡ s.nodes → m < s.nodes → IsTable s rows
    → rows ≡ done ++ back → length done ≡ (m + 1) * n → length back + (m + 1) * n ≡ length rows
    → length new ≡ length (take n back)
    → (length (take (length done - m * n) (drop (m * n) done)) ≡ s.nodes) × (length new ≡ s.nodes)
    × ((i : ℕ) → i < s.nodes → (cell s.nodes (done ++ (new ++ drop n back)) (m + 1) i ≡ number new i)
    × (number (take (length done - m * n) (drop (m * n) done)) i ≡ cell s.nodes rows m i)
    × (number (take n (new ++ drop n back)) i ≡ number new i))
next_rows s n m rows done back new e lt table is front behind size =
    let room = mul-le (m + 1) n n n (omega (arith, lt, e)) (omega arith) in
    let count : length new ≡ n = omega (arith, size, length-take n back, behind, table, e, ap (λ x. x * x) e, room) in
    let same : (m + 1) * n ≡ m * n + n = omega arith in (
      omega (arith, length-take (length done - m * n) (drop (m * n) done), length-drop (m * n) done, front, same, e),
      omega (arith, count, e),
      λ i p. (
        row_new s.nodes n m i done new (drop n back) e front count p,
        row_old s.nodes n m i rows done back e is front p,
        get_or-take n (new ++ drop n back) i (pos 0) (omega (arith, p, e)) ∙ get_or_append_left new (drop n back) (pos 0) i (omega (arith, p, count, e)),
      ),
    )

-- the first row that was written, with what stands behind it
pub row_first : (n i : ℕ) (new rest : List ℤ) → length new ≡ n → i < n → cell n (new ++ rest) 0 i ≡ number new i
row_first n i new rest size p =
    let place : 0 * n + i ≡ i = omega arith in
    ap (λ x. get_or (new ++ rest) x (pos 0)) place ∙ get_or_append_left new rest (pos 0) i (omega (arith, p, size))

-- a row that is read whole
pub row_whole : (n k r : ℕ) (rows out : List ℤ) → k ≡ n → r < n → length rows ≡ (n + 1) * n
    → out ≡ take ((r + 1) * k - r * k) (drop (r * k) rows)
    → (length out ≡ n) × ((i : ℕ) → i < n → number out i ≡ cell n rows r i)
row_whole n k r rows out e lt count is =
    let same = ap (λ x. r * x) e in
    let room = mul-le (r + 1) n (n + 1) n (omega (arith, lt)) (omega arith) in
    let size : (r + 1) * k - r * k ≡ k = omega arith in (
      ap length is ∙ omega (arith, length-take ((r + 1) * k - r * k) (drop (r * k) rows), length-drop (r * k) rows, size, same, e, room, count),
      λ i p.
          ap (λ xs. number xs i) is
          ∙ get_or-take ((r + 1) * k - r * k) (drop (r * k) rows) i (pos 0) (omega (arith, p, size, e))
          ∙ get_or-drop (r * k) rows i (pos 0)
          ∙ ap (λ x. get_or rows (x + i) (pos 0)) same,
    )

-- one more row
pub rows_more : (s : SystemData) (period : ℕ) (first : ℕ → ℤ) (m n : ℕ) (near : Near) (steps : List Step) (old new : List ℤ)
    → IsSystem s → IsPacked s period (length s.arcs) n near steps → AreRows s period first m old
    → ((i : ℕ) → i < s.nodes → unsigned_abs (cell s.nodes old m i) ≤ 20000000000000000) → IsTable s new
    → ((r i : ℕ) → r ≤ m → i < s.nodes → cell s.nodes new r i ≡ cell s.nodes old r i)
    → ((i : ℕ) → i < s.nodes → IsMade s.nodes near steps n (cell s.nodes old m) i (cell s.nodes new (m + 1) i))
    → AreRows s period first (m + 1) new
rows_more s period first m n near steps old new valid are rows small table kept made =
    let wt = weights_at s period in
    record {
      table = table;
      is = λ r i le p.
          ⊎_elim
          (λ e.
          ap (λ x. cell s.nodes new x i) e ∙ round_brings s period n near steps (cell s.nodes old m) i
          (cell s.nodes new (m + 1) i) are valid (λ j j_in. omega (arith, small j j_in)) p (made i p)
          ∙ brought_same s wt (cell s.nodes old m) wt (value_from s wt first m) i (length s.arcs) (rows.is m i (omega arith) p)
          (λ k lt. ap (λ z. z +ℤ wt k) (rows.is m (arc s k).from (omega arith) (valid.ends k lt).0))
          ∙ from_at s wt first (suc m) r i (omega (arith, e)))
          (λ ne. kept r i (omega (arith, le, ne)) p ∙ rows.is r i (omega (arith, le, ne)) p)
          (cases_eq r (m + 1));
    }
