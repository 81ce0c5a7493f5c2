-- Logs that grow event by event.
use Rattle.std.proofs.Common.{◌≡◌, ℕ, suc, ◌+◌, List, ◌++◌, Option, sym, ap, ◌∙◌, arith, append_assoc}
use Rattle.std.specs.Prelude.{map}
use Rattle.std.proofs.lemmas.List.{map-append}
use Rattle.tick_machine.specs.declared.event.What.{What}
use Rattle.tick_machine.specs.declared.event.Event.{Event}
use Rattle.tick_machine.specs.Events.{given, collect, at_tick}

-- events upon events
pub noted : (t : ℕ) (start now after : List Event) (ws vs : List What) → now ≡ start ++ map (at_tick t) ws
    → after ≡ now ++ map (at_tick t) vs → after ≡ start ++ map (at_tick t) (ws ++ vs)
noted t start now after ws vs a b =
    b ∙ ap (λ (xs : List Event). xs ++ map (at_tick t) vs) a
    ∙ append_assoc start (map (at_tick t) ws) (map (at_tick t) vs)
    ∙ ap (λ (xs : List Event). start ++ xs) (sym (map-append (at_tick t) ws vs))

-- the event of one more hoist
pub collect_more : (t n : ℕ) (event : ℕ → Option What) (start now after : List Event)
    → now ≡ start ++ map (at_tick t) (collect n event) → after ≡ now ++ map (at_tick t) (given (event n))
    → after ≡ start ++ map (at_tick t) (collect (n + 1) event)
collect_more t n event start now after a b =
    let e : suc n ≡ n + 1 = omega arith in
    noted t start now after (collect n event) (given (event n)) a b ∙ ap (λ (m : ℕ). start ++ map (at_tick t) (collect m event)) e
