-- When two modules mean the same: their runs (chapter 4 of the standard) under the scripts of this project.
use Rattle.std.specs.Prelude.{◌≡◌, ℕ, Bool, List}
use Rattle.host_kit.specs.declared.script.Script.{Script}
use Rattle.wasm_ast.specs.declared.module.parts.Module.{Module}
use Rattle.meaning_new.specs.Runs.{trace, depth, bounded_trace, bounded_depth}

-- Under every script and within any number of turns both leave the same behind, and as many calls are open at once, at
-- most; and so it is within bounds.
pub record SameRuns (m other : Module) : Type 0 where
  pub trace : (script : Script) (n : ℕ) → trace other script n ≡ trace m script n
  pub depth : (script : Script) (n : ℕ) → depth other script n ≡ depth m script n
  pub bounded_trace : (permits : List ℕ → Bool) (room : ℕ → Bool) (script : Script) (n : ℕ) → bounded_trace permits room other script n ≡ bounded_trace permits room m script n
  pub bounded_depth : (permits : List ℕ → Bool) (room : ℕ → Bool) (script : Script) (n : ℕ) → bounded_depth permits room other script n ≡ bounded_depth permits room m script n
