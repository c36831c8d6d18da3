-- A sink in memory.
use Rattle.std.specs.Prelude.{ℕ, List}
use Rattle.tool_files.specs.Calls.{CallPlan}

-- what was written, how many bytes a call moves at most, its calls and its faults
pub record SinkMemory : Type 0 where
  pub written : List ℕ
  pub most : ℕ
  pub gives : CallPlan
  pub faults : ℕ
