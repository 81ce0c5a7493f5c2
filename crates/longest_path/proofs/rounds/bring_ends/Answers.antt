use Rattle.std.proofs.Common.{◌≡◌, ◌∙◌, ℕ, ◌-◌, ◌≤◌, subst, sym, ap, length, List, ℤ, pos, to_z, of_z, w64, get_or-set_same, get_or-set_other, length-set, set, ◌+ℤ◌, arith}
use Rattle.std.specs.Prelude.{unsigned_abs}
use Rattle.std.specs.Int.{int_max}
use Rattle.std.proofs.lemmas.Int.{ints, clamps}
use Rattle.longest_path.specs.Rounds.{number}
use Rattle.longest_path.specs.Near.{IsNearest}
use Rattle.longest_path.proofs.NearLemmas.{cast, greater_of, nearest_first, nearest_last}
use Rattle.longest_path.proofs.rounds.bring_ends.Goals as goal

le_trans : {n : ℕ} → n ≤ 40000000000000000 → n ≤ 100000000000000000
le_trans le = omega (arith, le)

pub returns-clause-first : goal.returns-clause-first
returns-clause-first c =
    let old = c.args.old.now in
    let near = c.args.near.now in
    let last = length old - 1 in
    let z = to_z w64 (of_z w64 c.greater.result) in
    let y = to_z w64 (of_z w64 c.greater-2.result) in
    let stays = ap (λ (xs : List ℤ). number xs 0) c.as_slice-stay.ensures.value in
    let falls = ap (λ (xs : List ℤ). number xs 0) c.as_slice-fall.ensures.value in
    let told : c.greater.result ≡ int_max (cast (number old 0) +ℤ cast (number c.as_slice-stay.result.now 0)) (cast (number old 1) +ℤ cast (number c.as_slice-fall.result.now 0)) = c.greater.ensures.value in
    let (small_stay, small_rise, small_fall) = c.requires.near.1 0 in
    let is : z ≡ int_max (number old 0 +ℤ number near.stay.items 0) (number old 1 +ℤ number near.fall.items 0) =
    greater_of c.greater.result (number old 0) (number c.as_slice-stay.result.now 0) (number old 1)
    (number c.as_slice-fall.result.now 0) (le_trans (c.requires.small 0))
    (subst (λ (x : ℤ). unsigned_abs x ≤ 100000000000000000) (sym stays) small_stay) (le_trans (c.requires.small 1))
    (subst (λ (x : ℤ). unsigned_abs x ≤ 100000000000000000) (sym falls) small_fall) told
    ∙ ap (λ x. int_max (number old 0 +ℤ x) (number old 1 +ℤ number c.as_slice-fall.result.now 0)) stays
    ∙ ap (λ x. int_max (number old 0 +ℤ number near.stay.items 0) (number old 1 +ℤ x)) falls in
    let here = get_or-set_other (set c.args.new.now 0 z) last 0 y (pos 0) (λ e. omega (arith, e, c.requires.several))
    ∙ get_or-set_same c.args.new.now 0 z (pos 0) (omega (arith, c.requires.several, c.requires.new)) in
    nearest_first (length old) near (number old) (number (set (set c.args.new.now 0 z) last y) 0) c.requires.several (here ∙ is)

pub returns-clause-last : goal.returns-clause-last
returns-clause-last c i end =
    let old = c.args.old.now in
    let near = c.args.near.now in
    let last = length old - 1 in
    let z = to_z w64 (of_z w64 c.greater.result) in
    let y = to_z w64 (of_z w64 c.greater-2.result) in
    let stays = ap (λ (xs : List ℤ). number xs last) c.as_slice-stay.ensures.value in
    let rises = ap (λ (xs : List ℤ). number xs last) c.as_slice-rise.ensures.value in
    let told : c.greater-2.result ≡ int_max (cast (number old last) +ℤ cast (number c.as_slice-stay.result.now last)) (cast (number old (last - 1)) +ℤ cast (number c.as_slice-rise.result.now last)) = c.greater-2.ensures.value in
    let (small_stay, small_rise, small_fall) = c.requires.near.1 last in
    let is : y ≡ int_max (number old last +ℤ number near.stay.items last) (number old (last - 1) +ℤ number near.rise.items last) = omega (arith, ints, clamps, told, c.greater-2.ensures.small, stays, rises, small_stay, small_rise, c.requires.small last, c.requires.small (last - 1)) in
    let at : i ≡ last = omega (arith, end) in
    let here = get_or-set_same (set c.args.new.now 0 z) last y (pos 0) (omega (arith, c.requires.several, c.requires.new, length-set c.args.new.now 0 z)) in
    subst (λ (x : ℕ). IsNearest (length old) near (number old) x (number (set (set c.args.new.now 0 z) last y) x)) (sym at)
    (nearest_last (length old) near (number old) last (number (set (set c.args.new.now 0 z) last y) last)
    (omega (arith, c.requires.several)) (omega (arith, c.requires.several)) (here ∙ is))
