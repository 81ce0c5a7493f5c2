-- What one write to a tank or a hoist keeps.
use Rattle.std.proofs.Common.{◌≡◌, ℕ, Option, Some, None, ⊎_elim, sym, refl, ap, subst, ◌∙◌}
use Rattle.std.proofs.lemmas.Bool.{cases_eq}
use Rattle.tick_machine.specs.declared.frame.Carry.{Carry}
use Rattle.tick_machine.specs.declared.frame.Hold.{Hold}
use Rattle.tick_machine.specs.declared.frame.Rest.{Rest}
use Rattle.tick_machine.specs.Scene.{with, hold_of}
use Rattle.tick_machine.proofs.Writes.{with_same, with_other}
use Rattle.startup_rundown.proofs.Plan.{Plan, IsVisit, IsMove}
use Rattle.startup_rundown.proofs.Shown.{ShowsHolds, ShowsCarries, carry_of}

-- the visit (c, k) is another one than (d, m)
abbrev pub Other : ℕ → ℕ → ℕ → ℕ → Type 0
Other d m c k = (c ≡ d) × (k ≡ m) → ⊥

abbrev pub Agree : (ℕ → ℕ → Rest → Type 0) → (ℕ → ℕ → Rest → Type 0) → ℕ → ℕ → Type 0
Agree P Q c k = (r : Rest) → (P c k r → Q c k r) × (Q c k r → P c k r)

pub hold_same : (s : Plan) (P Q : ℕ → ℕ → Rest → Type 0) (hold : ℕ → Option Hold) → ShowsHolds s P hold
    → ((c k : ℕ) → IsVisit s c k → Agree P Q c k) → ShowsHolds s Q hold
hold_same s P Q hold shows agree = record {
  held = λ c k r v q. shows.held c k r v ((agree c k v r).1 q);
  holds = λ i x e. let h = shows.holds i x e in (h.0, h.1, (agree x.carrier x.stage h.0 x.rest).0 h.2);
}

-- the tank of visit (d, m), which no other visit holds, gets its rest w
pub hold_write : (s : Plan) (P Q : ℕ → ℕ → Rest → Type 0) (hold : ℕ → Option Hold) (d m i : ℕ) (w : Rest)
    → ShowsHolds s P hold
    → IsVisit s d m → s.tank d m ≡ i
    → ((x : Hold) → hold i ≡ Some x → (x.carrier ≡ d) × (x.stage ≡ m))
    → Q d m w → ((r : Rest) → Q d m r → r ≡ w)
    → ((c k : ℕ) → IsVisit s c k → Other d m c k → Agree P Q c k)
    → ShowsHolds s Q (with hold i (Some (hold_of d m w)))
hold_write s P Q hold d m i w shows there tank own is only agree =
    let new : (ℕ → Option Hold) = with hold i (Some (hold_of d m w)) in
    record {
      held = λ c k r v q.
          ⊎_elim
          (λ same_c. ⊎_elim
          (λ same_k.
          let q' : Q d m r = subst (λ (k' : ℕ). Q d k' r) same_k (subst (λ (c' : ℕ). Q c' k r) same_c q) in
          let here : i ≡ s.tank c k = cc in
          with_same hold i (Some (hold_of d m w)) (s.tank c k) here ∙ (let e : r ≡ w = only r q' in cc))
          (λ other. away c k r v q (λ (e : (c ≡ d) × (k ≡ m)). other e.1))
          (cases_eq k m))
          (λ other. away c k r v q (λ (e : (c ≡ d) × (k ≡ m)). other e.0))
          (cases_eq c d);
      holds = λ j x e.
          ⊎_elim
          (λ here.
          let same : hold_of d m w ≡ x = let g = with_same hold i (Some (hold_of d m w)) j here in cc in
          subst (λ (y : Hold). IsVisit s y.carrier y.stage × (s.tank y.carrier y.stage ≡ j) × Q y.carrier y.stage y.rest) same (there, tank ∙ here, is))
          (λ elsewhere.
          let old : hold j ≡ Some x = let g = with_other hold i (Some (hold_of d m w)) j elsewhere in cc in
          let h = shows.holds j x old in
          let other : Other d m x.carrier x.stage = λ (e : (x.carrier ≡ d) × (x.stage ≡ m)). elsewhere (let a = e.0 in let b = e.1 in let g = h.1 in cc) in
          (h.0, h.1, (agree x.carrier x.stage h.0 other x.rest).0 h.2))
          (cases_eq i j);
    }
  where
    away : (c k : ℕ) (r : Rest) → IsVisit s c k → Q c k r → Other d m c k
        → with hold i (Some (hold_of d m w)) (s.tank c k) ≡ Some (hold_of c k r)
    away c k r v q other =
        let old = shows.held c k r v ((agree c k v other r).1 q) in
        let elsewhere : i ≡ s.tank c k → ⊥ = λ e. other (own (hold_of c k r) (let g = old in cc)) in
        with_other hold i (Some (hold_of d m w)) (s.tank c k) elsewhere ∙ old

-- the tank of visit (d, m) gets free
pub hold_clear : (s : Plan) (P Q : ℕ → ℕ → Rest → Type 0) (hold : ℕ → Option Hold) (d m i : ℕ) → ShowsHolds s P hold
    → ((x : Hold) → hold i ≡ Some x → (x.carrier ≡ d) × (x.stage ≡ m))
    → s.tank d m ≡ i
    → ((r : Rest) → Q d m r → ⊥)
    → ((c k : ℕ) → IsVisit s c k → Other d m c k → Agree P Q c k)
    → ShowsHolds s Q (with hold i None)
hold_clear s P Q hold d m i shows own tank gone agree =
    record {
      held = λ c k r v q.
          let other : Other d m c k = λ (e : (c ≡ d) × (k ≡ m)). gone r (subst (λ (k' : ℕ). Q d k' r) e.1 (subst (λ (c' : ℕ). Q c' k r) e.0 q)) in
          let old = shows.held c k r v ((agree c k v other r).1 q) in
          let elsewhere : i ≡ s.tank c k → ⊥ = λ e. other (own (hold_of c k r) (let g = old in cc)) in
          with_other hold i None (s.tank c k) elsewhere ∙ old;
      holds = λ j x e.
          ⊎_elim
          (λ here. absurd (let g = with_same hold i None j here in cc))
          (λ elsewhere.
          let old : hold j ≡ Some x = let g = with_other hold i None j elsewhere in cc in
          let h = shows.holds j x old in
          let other : Other d m x.carrier x.stage = λ (e : (x.carrier ≡ d) × (x.stage ≡ m)). elsewhere (let a = e.0 in let b = e.1 in let g = h.1 in cc) in
          (h.0, h.1, (agree x.carrier x.stage h.0 other x.rest).0 h.2))
          (cases_eq i j);
    }

-- the same for the hoists
abbrev pub Same : (ℕ → ℕ → Type 0) → (ℕ → ℕ → Type 0) → ℕ → ℕ → Type 0
Same P Q c k = (P c k → Q c k) × (Q c k → P c k)

pub carry_same : (s : Plan) (t : ℕ) (P Q : ℕ → ℕ → Type 0) (carry : ℕ → Option Carry) → ShowsCarries s t P carry
    → ((c k : ℕ) → IsMove s c k → Same P Q c k) → ShowsCarries s t Q carry
carry_same s t P Q carry shows same = record {
  carried = λ c k v q. shows.carried c k v ((same c k v).1 q);
  carries = λ h x e. let g = shows.carries h x e in (g.0, g.1, (same x.carrier x.step g.0).0 g.2, g.3);
}

-- hoist h ends its carry (d, m)
pub carry_clear : (s : Plan) (t : ℕ) (P Q : ℕ → ℕ → Type 0) (carry : ℕ → Option Carry) (d m h : ℕ)
    → ShowsCarries s t P carry
    → carry h ≡ Some (carry_of s t d m) → s.lifter d m ≡ h
    → (Q d m → ⊥)
    → ((c k : ℕ) → IsMove s c k → Other d m c k → Same P Q c k)
    → ShowsCarries s t Q (with carry h None)
carry_clear s t P Q carry d m h shows own by gone same =
    record {
      carried = λ c k v q.
          let other : Other d m c k = λ (e : (c ≡ d) × (k ≡ m)). gone (subst (λ (k' : ℕ). Q d k') e.1 (subst (λ (c' : ℕ). Q c' k) e.0 q)) in
          let old = shows.carried c k v ((same c k v other).1 q) in
          let elsewhere : h ≡ s.lifter c k → ⊥ = λ e.
          let two : carry_of s t d m ≡ carry_of s t c k = let g = old in cc in
          other (sym (ap (λ (y : Carry). y.carrier) two), sym (ap (λ (y : Carry). y.step) two)) in
          with_other carry h None (s.lifter c k) elsewhere ∙ old;
      carries = λ j x e.
          ⊎_elim
          (λ here. absurd (let g = with_same carry h None j here in cc))
          (λ elsewhere.
          let old : carry j ≡ Some x = let g = with_other carry h None j elsewhere in cc in
          let g = shows.carries j x old in
          let other : Other d m x.carrier x.step = λ (e : (x.carrier ≡ d) × (x.step ≡ m)). elsewhere (let a = e.0 in let b = e.1 in let g' = g.1 in cc) in
          (g.0, g.1, (same x.carrier x.step g.0 other).0 g.2, g.3))
          (cases_eq h j);
    }

-- hoist h, which carries nothing, begins (d, m)
pub carry_write : (s : Plan) (t : ℕ) (P Q : ℕ → ℕ → Type 0) (carry : ℕ → Option Carry) (d m h : ℕ)
    → ShowsCarries s t P carry
    → carry h ≡ None → IsMove s d m → s.lifter d m ≡ h
    → Q d m
    → ((c k : ℕ) → IsMove s c k → Other d m c k → Same P Q c k)
    → ShowsCarries s t Q (with carry h (Some (carry_of s t d m)))
carry_write s t P Q carry d m h shows none there by is same =
    record {
      carried = λ c k v q.
          ⊎_elim
          (λ same_c. ⊎_elim
          (λ same_k.
          let here : h ≡ s.lifter c k = cc in
          let e : carry_of s t d m ≡ carry_of s t c k = ap (λ (c' : ℕ). carry_of s t c' m) (sym same_c) ∙ ap (carry_of s t c) (sym same_k) in
          with_same carry h (Some (carry_of s t d m)) (s.lifter c k) here ∙ ap (λ (y : Carry). Some y) e)
          (λ other. away c k v q (λ (e : (c ≡ d) × (k ≡ m)). other e.1))
          (cases_eq k m))
          (λ other. away c k v q (λ (e : (c ≡ d) × (k ≡ m)). other e.0))
          (cases_eq c d);
      carries = λ j x e.
          ⊎_elim
          (λ here.
          let two : carry_of s t d m ≡ x = let g = with_same carry h (Some (carry_of s t d m)) j here in cc in
          subst (λ (y : Carry). IsMove s y.carrier y.step × (s.lifter y.carrier y.step ≡ j) × Q y.carrier y.step
          × (y ≡ carry_of s t y.carrier y.step)) two (there, by ∙ here, is, refl))
          (λ elsewhere.
          let old : carry j ≡ Some x = let g = with_other carry h (Some (carry_of s t d m)) j elsewhere in cc in
          let g = shows.carries j x old in
          let other : Other d m x.carrier x.step = λ (e : (x.carrier ≡ d) × (x.step ≡ m)). elsewhere (let a = e.0 in let b = e.1 in let g' = g.1 in cc) in
          (g.0, g.1, (same x.carrier x.step g.0 other).0 g.2, g.3))
          (cases_eq h j);
    }
  where
    away : (c k : ℕ) → IsMove s c k → Q c k → Other d m c k
        → with carry h (Some (carry_of s t d m)) (s.lifter c k) ≡ Some (carry_of s t c k)
    away c k v q other =
        let old = shows.carried c k v ((same c k v other).1 q) in
        let elsewhere : h ≡ s.lifter c k → ⊥ = λ e. (let g = old in cc) in
        with_other carry h (Some (carry_of s t d m)) (s.lifter c k) elsewhere ∙ old
