-- The system of a path in memory.
use Rattle.std.specs.Prelude.{◌≡◌, ◌≤◌, List, [], length, take}
use Rattle.hoist_base.specs.LineData.{LineData}
use Rattle.hoist_base.specs.Valid.{IsLine}
use Rattle.choice_tree.specs.declared.question.Decision.{Decision}
use Rattle.path_constraints.specs.Constraints.{constraint_list}
use Rattle.path_constraints.specs.Questions.{FitsPath}
use Rattle.path_constraints.specs.Places.{system_below}
use Rattle.node_expand.specs.declared.path_system.PathSystem.{PathSystem}

-- it has the constraints of this path, with their names, and those of the line before any decision
pub record IsAt (l : LineData) (ds : List Decision) (at : PathSystem) : Type 0 where
  pub path : at.path.items ≡ ds
  pub system : at.system ≡ system_below l ds
  pub names : at.names.items ≡ constraint_list l ds
  pub base : at.base ≡ system_below l []

-- it has those of its own path, which fits the line
pub record IsPathSystem (l : LineData) (at : PathSystem) : Type 0 where
  pub valid : IsLine l
  pub fits : FitsPath l at.path.items
  pub short : length at.path.items ≤ 20000
  pub here : IsAt l at.path.items at

-- one list begins another
abbrev pub IsPrefix : {A : Type 0} → List A → List A → Type 0
IsPrefix xs ys = xs ≡ take (length xs) ys

-- its path and its names may have grown, and its systems are as before
pub record Outgrows (old new : PathSystem) : Type 0 where
  pub path : take (length old.path.items) new.path.items ≡ old.path.items
  pub names : take (length old.names.items) new.names.items ≡ old.names.items
  pub system : new.system ≡ old.system
  pub base : new.base ≡ old.base
