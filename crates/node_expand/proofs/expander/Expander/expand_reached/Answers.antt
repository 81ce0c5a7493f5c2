use Rattle.std.proofs.Common.{◌≡◌, ◌∙◌, ◌≤◌, length, subst, sym, arith, Vec, Global}
use Rattle.std.specs.Prelude.{All}
use Rattle.hoist_base.specs.LineData.{LineData}
use Rattle.hoist_base.specs.Valid.{IsLine}
use Rattle.node_expand.specs.PathSystems.{IsPathSystem}
use Rattle.node_expand.specs.Climbs.{AreClimbs, IsLeastPeriodOf, IsPathClimb}
use Rattle.node_expand.specs.declared.least_period.PathClimb.{PathClimb}
use Rattle.node_expand.specs.declared.climbs.Climb.{Climb}
use Rattle.node_expand.specs.declared.climbs.Climbs.{Climbs}
use Rattle.node_expand.proofs.LeastLemmas.{least_found}
use Rattle.node_expand.proofs.expander.Expander.expand_reached.Goals as goal

-- a search moves only the place where the next one begins
climbs_searched : (l : LineData) (old new : Climbs) → AreClimbs l old → (new.kept ≡ old.kept) × (new.next ≡ old.next)
    → new.found ≤ 512 → AreClimbs l new
climbs_searched l old new climbs same found =
    let P : Vec Climb Global → Type 0 = λ v. All (λ (climb : Climb). IsLeastPeriodOf l climb.path.items climb.least) v.items in
    let Q : Vec Climb Global → Type 0 = λ v. length v.items ≤ 512 in
    record { each = subst P (sym same.0) climbs.each; few = subst Q (sym same.0) climbs.few; next = omega (arith, same.1, climbs.next); found = found }

pub expand_again-requires-clause-valid : goal.expand_again-requires-clause-valid
expand_again-requires-clause-valid c =
    let P : LineData → Type 0 = λ x. IsPathSystem x c.self.inside.at in
    (subst P (c.self.view_is ∙ c.requires.line) c.self.invariant.0).valid

pub expand_again-requires-clause-least : goal.expand_again-requires-clause-least
expand_again-requires-clause-least c =
    let l = c.args.line.now in
    let P : LineData → Type 0 = λ x. AreClimbs x c.self.inside.climbs in
    let climbs : AreClimbs l c.self.inside.climbs = subst P (c.self.view_is ∙ c.requires.line) c.self.invariant.3 in
    let Q : LineData → Type 0 = λ x. IsPathSystem x c.self.inside.at in
    let line : IsLine l = (subst Q (c.self.view_is ∙ c.requires.line) c.self.invariant.0).valid in
    let h = c.in-Some.ensures.climb in
    (least_found l c.args.path.now c.args.cap c.in-Some.k h.0 c.self.inside.climbs c.find_climb.new.climbs c.index.result.now c.requires.fits line
    climbs c.in-Some.ensures.same.0 h.1 h.2 h.3 c.index.ensures).0

pub returns-in-Some-clause-expansion : goal.returns-in-Some-clause-expansion
returns-in-Some-clause-expansion c =
    let below = (c.in-Some.ensures.climb.3.1 c.index.result.now c.index.ensures).1 in
    c.in_ok-expanded.ensures.expansion c.args.cap below

pub returns-in-Some-clause-shows : goal.returns-in-Some-clause-shows
returns-in-Some-clause-shows c =
    let below = (c.in-Some.ensures.climb.3.1 c.index.result.now c.index.ensures).1 in
    c.in_ok-expanded.ensures.shows c.args.cap below

pub climb_at-requires-clause-valid : goal.climb_at-requires-clause-valid
climb_at-requires-clause-valid c = c.go_to.ensures.kept.valid

pub expand_first-requires-clause-valid : goal.expand_first-requires-clause-valid
expand_first-requires-clause-valid c = c.go_to.ensures.kept.valid

pub returns-in_ok-expanded-in-Least-clause-expansion : goal.returns-in_ok-expanded-in-Least-clause-expansion
returns-in_ok-expanded-in-Least-clause-expansion c =
    let P : PathClimb → Type 0 = λ x. IsPathClimb c.args.line.now c.args.path.now c.args.cap x in
    c.in_ok-expanded-in-Least.ensures.expansion c.args.cap (subst P c.in-Least.is c.in_ok-climb.ensures).1

pub returns-in_ok-expanded-in-Least-clause-shows : goal.returns-in_ok-expanded-in-Least-clause-shows
returns-in_ok-expanded-in-Least-clause-shows c =
    let P : PathClimb → Type 0 = λ x. IsPathClimb c.args.line.now c.args.path.now c.args.cap x in
    c.in_ok-expanded-in-Least.ensures.shows c.args.cap (subst P c.in-Least.is c.in_ok-climb.ensures).1

pub expand_first-requires-clause-climbs : goal.expand_first-requires-clause-climbs
expand_first-requires-clause-climbs c =
    let found = c.in_default.ensures in
    let P : LineData → Type 0 = λ x. AreClimbs x c.find_climb.new.climbs in
    subst P (c.self.view_is ∙ c.requires.line)
    (climbs_searched c.self.inside.line c.self.inside.climbs c.find_climb.new.climbs c.self.invariant.3 found.same found.found)

pub invariant_of-self-in-Shut : goal.invariant_of-self-in-Shut
invariant_of-self-in-Shut c =
    let found = c.in_default.ensures in
    let P : LineData → Type 0 = λ x. IsPathSystem x c.go_to.new.self in (
      subst P (sym (c.self.view_is ∙ c.requires.line)) c.go_to.ensures.kept,
      c.self.invariant.1,
      c.self.invariant.2,
      climbs_searched c.self.inside.line c.self.inside.climbs c.find_climb.new.climbs c.self.invariant.3 found.same found.found,
    )
