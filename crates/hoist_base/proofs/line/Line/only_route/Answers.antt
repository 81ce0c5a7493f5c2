use Rattle.std.proofs.Common.{rules, ◌≡◌, ◌*◌, length, ap, ◌∙◌, arith}
use Rattle.hoist_base.specs.LineData.{LineData}
use Rattle.hoist_base.proofs.RouteLemmas.{first_tanks}
use Rattle.hoist_base.proofs.line.Line.only_route.Goals as goal

pub returns : goal.returns
returns c =
    let l = c.args.self.now in
    let n = c.len-count.result in
    let long : n ≡ length c.self.inside.parts.stages.items = search rules in
    let count : n ≡ length l.stages = long ∙ ap (λ (m : LineData). length m.stages) c.self.view_is in
    let degree : c.self.inside.parts.degree ≡ l.degree = ap (λ (m : LineData). m.degree) c.self.view_is in
    let all : c.loop-i.i ≡ c.self.inside.parts.degree * n = omega (arith, c.loop-i.auto.i-end, c.loop-i-test.false) in
    let is : c.loop-i.i ≡ l.degree * length l.stages = all ∙ ap (λ d. d * n) degree ∙ ap (λ m. l.degree * m) count in
    rw c.from_vec.ensures (first_tanks l c.loop-i.numbers.items c.loop-i.i c.requires c.loop-i.invariant.0 is c.loop-i.invariant.1)
