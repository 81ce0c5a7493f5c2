-- The first row of the least solution.
use Rattle.std.specs.Prelude.{ℤ, negsuc}

-- what a node has that no walk has reached yet
abbrev pub far : ℤ
far = negsuc 9999999999999999
