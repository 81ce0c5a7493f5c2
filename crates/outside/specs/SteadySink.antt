-- A sink in memory that fails only for want of memory.
use Rattle.std.specs.Prelude.{ℕ, List}

-- the bytes written, and how many writes found no memory
pub record SteadySinkData : Type 0 where
  pub written : List ℕ
  pub wants : ℕ
