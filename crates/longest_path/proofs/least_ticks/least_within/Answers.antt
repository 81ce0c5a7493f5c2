use Rattle.std.proofs.Common.{◌≡◌, ◌∙◌, ◌-◌, refl, ap, length, List, ℤ, arith}
use Rattle.longest_path.specs.Rounds.{number}
use Rattle.longest_path.proofs.ValueLemmas.{weight_small}
use Rattle.longest_path.proofs.LeastLemmas.{IsStart, is_least, ticks_within}
use Rattle.longest_path.proofs.least_ticks.least_within.Goals as goal

pub returns-clause-least : goal.returns-clause-least
returns-clause-least c =
    let s = c.args.s.now in
    let valid = c.nodes-n.ensures.valid in
    let row = c.begin.new.row in
    let ticks = c.in_ok-ticks.ticks.items in
    let count : length row ≡ s.nodes = omega (arith, c.begin.ensures.len, c.split_at_mut-row.ensures.front_len, c.nodes-n.ensures.value) in
    let start : IsStart s (number row) = record {
      at_start = c.begin.ensures.start;
      others = λ i after in_row. c.begin.ensures.others i after
          (omega (arith, in_row, count, c.begin.ensures.len));
    } in
    let done = c.if-not-settle.ensures.settled refl in
    is_least s c.args.period (number row) (s.nodes - 1) ticks valid start c.requires.period.1
    (omega (arith, valid.nodes.1)) done.still c.requires.reached
    (ap length c.in_ok-ticks.ensures.items ∙ c.settle.ensures.len ∙ count)
    (λ i i_in. ap (λ (xs : List ℤ). number xs i) c.in_ok-ticks.ensures.items ∙ done.is i i_in)

pub returns-clause-within : goal.returns-clause-within
returns-clause-within c w within i =
    let s = c.args.s.now in
    let valid = c.nodes-n.ensures.valid in
    let row = c.begin.new.row in
    let ticks = c.in_ok-ticks.ticks.items in
    let count : length row ≡ s.nodes = omega (arith, c.begin.ensures.len, c.split_at_mut-row.ensures.front_len, c.nodes-n.ensures.value) in
    let start : IsStart s (number row) = record {
      at_start = c.begin.ensures.start;
      others = λ j after in_row. c.begin.ensures.others j after
          (omega (arith, in_row, count, c.begin.ensures.len));
    } in
    let done = c.if-not-settle.ensures.settled refl in
    ticks_within s c.args.period (number row) (s.nodes - 1) ticks w i valid start c.requires.period.1
    (omega (arith, valid.nodes.0)) done.still c.requires.reached
    (ap length c.in_ok-ticks.ensures.items ∙ c.settle.ensures.len ∙ count)
    (λ j j_in. ap (λ (xs : List ℤ). number xs j) c.in_ok-ticks.ensures.items ∙ done.is j j_in) within

pub returns-clause-small : goal.returns-clause-small
returns-clause-small c i =
    let s = c.args.s.now in
    let valid = c.nodes-n.ensures.valid in
    let row = c.begin.new.row in
    let ticks = c.in_ok-ticks.ticks.items in
    let count : length row ≡ s.nodes = omega (arith, c.begin.ensures.len, c.split_at_mut-row.ensures.front_len, c.nodes-n.ensures.value) in
    let start : IsStart s (number row) = record {
      at_start = c.begin.ensures.start;
      others = λ j after in_row. c.begin.ensures.others j after
          (omega (arith, in_row, count, c.begin.ensures.len));
    } in
    let done = c.if-not-settle.ensures.settled refl in
    let within = ticks_within s c.args.period (number row) (s.nodes - 1) ticks 20001010000000 i valid start
    c.requires.period.1 (omega (arith, valid.nodes.0)) done.still c.requires.reached
    (ap length c.in_ok-ticks.ensures.items ∙ c.settle.ensures.len ∙ count)
    (λ j j_in. ap (λ (xs : List ℤ). number xs j) c.in_ok-ticks.ensures.items ∙ done.is j j_in)
    (λ k k_in. weight_small s c.args.period k valid c.requires.period.1 k_in) in
    omega (arith, within, valid.nodes.1)
