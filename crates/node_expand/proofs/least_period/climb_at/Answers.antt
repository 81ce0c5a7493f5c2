use Rattle.std.proofs.Common.{ℕ, ◌<◌, ◌≤◌, subst, ap, ◌∙◌, Some}
use Rattle.std.specs.Prelude.{Option}
use Rattle.longest_path.specs.System.{SystemData, IsSystem}
use Rattle.cycle_walk.specs.Closed.{WalkData}
use Rattle.cycle_walk.specs.Climb.{Gives}
use Rattle.cycle_walk.specs.declared.climbing.Climbed.TheVariants.{Floor}
use Rattle.path_constraints.specs.Places.{system_below}
use Rattle.node_expand.proofs.ExpandLemmas.{names_there, some_names_there, names_are, some_names_are, shut_at, shut_shows, shut_few, floor_at, walk_is_there, floor_closed}
use Rattle.node_expand.proofs.CapLemmas.{climbed_later}
use Rattle.node_expand.proofs.LeastLemmas.{climb_is}
use Rattle.node_expand.proofs.least_period.climb_at.Goals as goal

pub proof_of-requires : goal.proof_of-requires
proof_of-requires c =
    let l = c.args.line.now in
    let path = c.args.path.now in
    let h = shut_at l path c.args.cap _ _ _ _ c.requires.at.system c.in-Shut.is c.in_ok-low.ensures.refuted c.in_ok-low.ensures.closed in
    some_names_there l path _ c.in-Shut.low c.requires.at.names h.low_closed

pub proof_of-requires-in-Shut : goal.proof_of-requires-in-Shut
proof_of-requires-in-Shut c =
    let l = c.args.line.now in
    let path = c.args.path.now in
    let h = shut_at l path c.args.cap _ _ _ _ c.requires.at.system c.in-Shut.is c.in_ok-low.ensures.refuted c.in_ok-low.ensures.closed in
    some_names_there l path _ c.in-Shut.high c.requires.at.names h.high_closed

pub returns-in_ok-high-in-Shut : goal.returns-in_ok-high-in-Shut
returns-in_ok-high-in-Shut c =
    let l = c.args.line.now in
    let path = c.args.path.now in
    let h = shut_at l path c.args.cap _ _ _ _ c.requires.at.system c.in-Shut.is c.in_ok-low.ensures.refuted c.in_ok-low.ensures.closed in
    let low = some_names_are l path _ c.in-Shut.low _ c.requires.at.names c.in_ok-low-in-Shut.ensures in
    let high = some_names_are l path _ c.in-Shut.high _ c.requires.at.names c.in_ok-high-in-Shut.ensures in
    let few = shut_few l path c.args.cap c.in-Shut.low c.in-Shut.high _ _ c.requires.cap.0 h low high in (
      record {
        low_walk = c.in-Shut.low;
        high_walk = c.in-Shut.high;
        climb = climb_is l path c.args.cap _ _ _ c.requires.at.system c.in_ok-low.ensures.climb c.in-Shut.is;
        low_names = low;
        high_names = high;
      },
      shut_shows l path c.args.cap c.in-Shut.low c.in-Shut.high _ _ h low high,
      few.0,
      few.1,
      few.2,
    )

pub unreachable-requires : goal.unreachable-requires
unreachable-requires c =
    let l = c.args.line.now in
    let path = c.args.path.now in
    let h =
    floor_at l path c.args.cap _ _ _ _ c.requires.at.system c.in-Floor.is c.in_ok-low.ensures.least c.in_ok-low.ensures.refuted c.in_ok-low.ensures.closed in
    walk_is_there l path c.args.cap _ _ c.requires.valid h c.in_default.is

pub proof_of-requires-in-Floor : goal.proof_of-requires-in-Floor
proof_of-requires-in-Floor c =
    let l = c.args.line.now in
    let path = c.args.path.now in
    let h =
    floor_at l path c.args.cap _ _ _ _ c.requires.at.system c.in-Floor.is c.in_ok-low.ensures.least c.in_ok-low.ensures.refuted c.in_ok-low.ensures.closed in
    names_there l path _ c.in-Some.walk c.requires.at.names (floor_closed l path c.args.cap _ _ c.in-Some.walk h c.in-Some.is)

pub ticks_at-requires-clause-feasible : goal.ticks_at-requires-clause-feasible
ticks_at-requires-clause-feasible c =
    let l = c.args.line.now in
    let path = c.args.path.now in
    let h =
    floor_at l path c.args.cap _ _ _ _ c.requires.at.system c.in-Floor.is c.in_ok-low.ensures.least c.in_ok-low.ensures.refuted c.in_ok-low.ensures.closed in
    h.feasible

pub returns-in_ok-ticks-in-Floor : goal.returns-in_ok-ticks-in-Floor
returns-in_ok-ticks-in-Floor c =
    let l = c.args.line.now in
    let path = c.args.path.now in
    let period = c.in-Floor.period in
    let h =
    floor_at l path c.args.cap _ _ _ _ c.requires.at.system c.in-Floor.is c.in_ok-low.ensures.least c.in_ok-low.ensures.refuted c.in_ok-low.ensures.closed in
    let P : Option WalkData → Type 0 = λ o. (t : ℕ) → 1 ≤ t → t < period → Gives o t in
    let V : SystemData → Type 0 = λ s. IsSystem s in
    let valid : IsSystem (system_below l path) = subst V c.requires.at.system c.nodes-nodes.ensures.valid in
    let climb = climb_is l path c.args.cap _ _ _ c.requires.at.system c.in_ok-low.ensures.climb c.in-Floor.is
    ∙ ap (λ (o : Option WalkData). Floor period o) c.in-Some.is in (
      record {
        walk = c.in-Some.walk;
        some = h.some;
        walk_closed = floor_closed l path c.args.cap _ _ c.in-Some.walk h c.in-Some.is;
        gives = subst P c.in-Some.is h.gives;
        climb = climbed_later (system_below l path) c.args.cap period (Some c.in-Some.walk) valid climb;
        names = names_are l path _ c.in-Some.walk _ c.requires.at.names c.in_ok-low-in-Floor.ensures;
        solution = c.in_ok-ticks-in-Floor.ensures.least;
        ticks = c.in_ok-ticks-in-Floor.ensures.ticks;
      },
      h.below,
    )
