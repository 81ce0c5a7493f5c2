-- The keys of a line file: their names, the tables that have them, the kinds and ranges of their values.
use Rattle.std.specs.Prelude.{ℕ, List, [], ◌∷◌, codes, true, false, if◌then◌else◌, ◌==◌, ◌+◌}
use Rattle.hoist_base.specs.Limits.{max_track, max_gap, max_hoists, max_degree, period_limit, max_dwell, max_lift, max_lower, min_tanks, max_tanks, min_stages, max_stages, max_tanks_of_stage}
use Rattle.line_text.specs.declared.fields.Field.{Field}
use Rattle.line_text.specs.declared.fields.Field.TheVariants.{Version, Track, Gap, Hoists, Degree, MaxPeriod, Load, Unload, Tank, Stage, Name, At, Tanks, Min, Max, Lift, Lower}
use Rattle.line_text.specs.declared.fields.Kind.{Kind}
use Rattle.line_text.specs.declared.fields.Kind.TheVariants.{Integer, Text, Tables, Texts}
use Rattle.line_text.specs.declared.fields.Rule.{Rule}

abbrev pub name_of : Field → List ℕ
name_of Version = codes "version"
name_of Track = codes "track"
name_of Gap = codes "gap"
name_of Hoists = codes "hoists"
name_of Degree = codes "degree"
name_of MaxPeriod = codes "max_period"
name_of Load = codes "load"
name_of Unload = codes "unload"
name_of Tank = codes "tank"
name_of Stage = codes "stage"
name_of Name = codes "name"
name_of At = codes "at"
name_of Tanks = codes "tanks"
name_of Min = codes "min"
name_of Max = codes "max"
name_of Lift = codes "lift"
name_of Lower = codes "lower"

-- a key that has to be there, and one that may be absent
abbrev pub must_have : Field → Kind → Rule
must_have f k = record { field = f; required = true; kind = k }

abbrev pub may_have : Field → Kind → Rule
may_have f k = record { field = f; required = false; kind = k }

abbrev pub root_rules : List Rule
root_rules =
    must_have Version (Integer 1 2)
    ∷ must_have Track (Integer 1 max_track)
    ∷ must_have Gap (Integer 1 max_gap)
    ∷ must_have Hoists (Integer 1 max_hoists)
    ∷ must_have Degree (Integer 1 max_degree)
    ∷ must_have MaxPeriod (Integer 1 period_limit)
    ∷ must_have Load (Integer 0 max_dwell)
    ∷ must_have Unload (Integer 0 max_dwell)
    ∷ must_have Tank (Tables min_tanks max_tanks)
    ∷ must_have Stage (Tables min_stages max_stages)
    ∷ []

-- of each tank, on a track of this length
abbrev pub tank_rules : ℕ → List Rule
tank_rules track = must_have Name Text ∷ must_have At (Integer 0 track) ∷ []

abbrev pub lift_rule : Rule
lift_rule = must_have Lift (Integer 1 max_lift)

abbrev pub lower_rule : Rule
lower_rule = must_have Lower (Integer 1 max_lower)

-- of the first stage, of an inner stage whose one tank or whose tanks are named, and of the last stage
abbrev pub first_stage_rules : List Rule
first_stage_rules = must_have Tank Text ∷ lift_rule ∷ []

abbrev pub window_rules : List Rule
window_rules = must_have Min (Integer 1 max_dwell) ∷ may_have Max (Integer 1 max_dwell) ∷ lift_rule ∷ lower_rule ∷ []

abbrev pub single_stage_rules : List Rule
single_stage_rules = must_have Tank Text ∷ window_rules

abbrev pub inner_stage_rules : List Rule
inner_stage_rules = must_have Tanks (Texts 1 max_tanks_of_stage) ∷ window_rules

abbrev pub last_stage_rules : List Rule
last_stage_rules = must_have Tank Text ∷ lower_rule ∷ []

-- of stage k of so many, in a file of this version
abbrev pub stage_rules : ℕ → ℕ → ℕ → List Rule
stage_rules version count k =
    if k == 0 then first_stage_rules
    else if k + 1 == count then last_stage_rules
    else if version == 1 then single_stage_rules
    else inner_stage_rules
