-- What a crossed module has to do with the module that it comes of.
use Rattle.std.specs.Prelude.{◌≡◌, ℕ}
use Rattle.host_kit.specs.Fits.{ScriptFits}
use Rattle.host_kit.specs.declared.script.Script.{Script}
use Rattle.wasm_ast.specs.declared.module.parts.Module.{Module}
use Rattle.core1_ast.specs.declared.module.parts.Module1.{Module1}
use Rattle.meaning_new.specs.Interface.{interface}
use Rattle.meaning_new.specs.Runs.{trace, depth}
use Rattle.meaning_core1.specs.Interface.{interface1}
use Rattle.meaning_core1.specs.Runs.{trace1, depth1}
use Rattle.crossing.specs.Interfaces.{cross_interface}

-- A host links it by the same names and the types that 1.0 writes, and under every script that fits it shows what the
-- module shows, turn for turn, with as many calls open at once, at most.
pub record IsCrossed (m : Module) (out : Module1) : Type 0 where
  pub linked : interface1 out ≡ cross_interface (interface m)
  pub trace : (script : Script) (n : ℕ) → ScriptFits m script → trace1 out script n ≡ trace m script n
  pub depth : (script : Script) (n : ℕ) → ScriptFits m script → depth1 out script n ≡ depth m script n
