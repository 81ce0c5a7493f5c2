-- The empty frame keeps the frame rules.
use Rattle.std.proofs.Common.{◌≡◌, ℕ, zero, suc, ◌+◌, ◌≤◌, ◌<◌, Bool, List, [], ◌++◌, length, get_or, take, None, ⊎_elim, sym, refl, ap, subst, ◌∙◌, arith}
use Rattle.std.specs.Prelude.{cond, nat_lt, replicate}
use Rattle.std.proofs.lemmas.Bool.{cases_lt, lt-ltb, le-ltb}
use Rattle.std.proofs.lemmas.List.{get_or_past}
use Rattle.std.proofs.Math.Seq.{take-nil}
use Rattle.hoist_base.specs.LineData.{LineData}
use Rattle.tick_machine.specs.declared.frame.Frame.{Frame}
use Rattle.tick_machine.specs.Layout.{Layout, layout_of}
use Rattle.tick_machine.specs.Scene.{scene_of}
use Rattle.tick_machine.specs.Rules.{AreApart, KeepsRules, IsBelow}
use Rattle.tick_machine.specs.Play.{empty_scene}
use Rattle.tick_machine.proofs.Scenes.{scene_same}

pub replicate_at : {A : Type 0} (n : ℕ) (x : A) (h : ℕ) → get_or (replicate n x) h x ≡ x
replicate_at zero x h = refl
replicate_at (suc n) x zero = refl
replicate_at (suc n) x (suc h) = replicate_at n x h

-- the position of a hoist that is there, and of one that isn't
pub there_at : (n : ℕ) (at : ℕ → ℕ) (h : ℕ) → h < n → cond (nat_lt h n) (at h) 0 ≡ at h
there_at n at h lt = ap (λ (b : Bool). cond b (at h) 0) (lt-ltb h n lt)

pub not_there_at : (n : ℕ) (at : ℕ → ℕ) (h : ℕ) → n ≤ h → cond (nat_lt h n) (at h) 0 ≡ 0
not_there_at n at h le = ap (λ (b : Bool). cond b (at h) 0) (le-ltb h n le)

pub empty_is : (l : LineData) (at : List ℕ) (f : Frame) → length at ≡ l.hoists → f.at.items ≡ at
    → ((h : ℕ) → get_or f.carry.items h None ≡ None) → ((i : ℕ) → get_or f.hold.items i None ≡ None) → f.next ≡ 0
    → scene_of f ≡ empty_scene (layout_of l) (λ h. get_or at h 0)
empty_is l at f count is carry hold next =
    scene_same (scene_of f) (empty_scene (layout_of l) (λ h. get_or at h 0))
    (λ h. ap (λ (xs : List ℕ). get_or xs h 0) is ∙ ⊎_elim
    (λ lt. sym (there_at l.hoists (λ j. get_or at j 0) h lt))
    (λ le. let past : length at ≤ h = omega arith in get_or_past at h 0 past ∙ sym (not_there_at l.hoists (λ j. get_or at j 0) h le))
    (cases_lt h l.hoists))
    carry hold next

-- positions that agree give the same empty frame
pub empty_same : (l : Layout) (at at' : ℕ → ℕ) → ((h : ℕ) → h < l.hoists → at h ≡ at' h)
    → empty_scene l at ≡ empty_scene l at'
empty_same l at at' same =
    scene_same (empty_scene l at) (empty_scene l at')
    (λ h. ⊎_elim
    (λ lt. there_at l.hoists at h lt ∙ same h lt ∙ sym (there_at l.hoists at' h lt))
    (λ le. not_there_at l.hoists at h le ∙ sym (not_there_at l.hoists at' h le))
    (cases_lt h l.hoists))
    (λ h. refl) (λ i. refl) refl

pub empty_keeps : (l : Layout) (at : ℕ → ℕ) → AreApart l at → KeepsRules l (empty_scene l at)
empty_keeps l at apart = record {
  apart = record {
    within = λ h lt. subst (λ (n : ℕ). n ≤ l.track) (sym (there_at l.hoists at h lt)) (apart.within h lt);
    gap = λ h lt.
        let low : cond (nat_lt h l.hoists) (at h) 0 ≡ at h = there_at l.hoists at h (omega arith) in
        let high : cond (nat_lt (h + 1) l.hoists) (at (h + 1)) 0 ≡ at (h + 1) = there_at l.hoists at (h + 1) lt in
        let g = apart.gap h lt in
        subst (λ (n : ℕ). n + l.gap ≤ cond (nat_lt (h + 1) l.hoists) (at (h + 1)) 0) (sym low) (subst (λ (n : ℕ). at h + l.gap ≤ n) (sym high) g);
  };
  carries = λ h y e. absurd (let g = e in cc);
  holds = λ i x e. absurd (let g = e in cc);
  one_hoist = λ h h' y y' e e' same. absurd (let g = e in cc);
  one_rest = λ c i j (k, age, e) b. absurd (let g = e in cc);
  not_both = λ c i h y (k, age, e) e' same. absurd (let g = e in cc);
}

-- nothing in it is older than any tick
pub empty_by : (l : Layout) (at : ℕ → ℕ) (t : ℕ) → IsBelow (t + 1) (empty_scene l at)
empty_by l at t = record { next = omega arith; ages = λ i. tt }

pub empty_below : (l : Layout) (at : ℕ → ℕ) → IsBelow 1 (empty_scene l at)
empty_below l at = empty_by l at 0

-- a list that was empty and is filled up holds one value
pub filled : {A : Type 0} (xs old : List A) (n m : ℕ) (x : A) → old ≡ [] → xs ≡ take n old ++ replicate m x → (h : ℕ)
    → get_or xs h x ≡ x
filled {A = A} xs old n m x none is h =
    let all : xs ≡ replicate m x = is ∙ ap (λ (o : List A). take n o ++ replicate m x) none ∙ ap (λ (ys : List A). ys ++ replicate m x) (take-nil n) in
    ap (λ (ys : List A). get_or ys h x) all ∙ replicate_at m x h
