-- A small stage, as a relation of modules: ref.is_null becomes the call of a new function, which answers by way of a new
-- global.
use Rattle.std.specs.Prelude.{nat_lt, ◌≡◌, ℕ, ◌-◌, true, false, List, [], ◌∷◌, map, slice_get, Some}
use Rattle.std.specs.List.{AllByRecursion}
use Rattle.host_kit.specs.Offered.{func_type}
use Rattle.wasm_ast.specs.declared.module.code.Instr.{Instr, roll-Instr}
use Rattle.wasm_ast.specs.declared.module.code.Instr.TheOpen.{Instr-F}
use Rattle.wasm_ast.specs.declared.module.op.Op.TheVariants as ops
use Rattle.wasm_ast.specs.declared.module.parts.Global.{Global}
use Rattle.wasm_ast.specs.declared.module.parts.Module.{Module}
use Rattle.evaluation_kit.specs.Control.{Function, Own}
use Rattle.simulation_kit.specs.Rewriting.{Step}
use Rattle.meaning_new.specs.declared.val.Val.{Val}
use Rattle.meaning_new.specs.Forms.{param_count, imported_funcs, callee}
use Rattle.stage_kit.specs.Adding.{Adding, CodeNamed}
use Rattle.stage_kit.specs.Appended.{Appended, Alike, names_of}
use Rattle.stage_kit.specs.Hosting.{export_named}
use Rattle.stage_kit.specs.Naming.{ModuleNamed}
use Rattle.stage_kit.specs.Staged.{CodeStays}
use Rattle.stage_kit.specs.Kept.{keep}
use Rattle.stage_kit.proofs.Appending.{appending}

-- the new function, where the new global has this index
abbrev pub asking : ℕ → List (Instr-F Instr)
asking global = Instr-F.LocalGet 0 ∷ (Instr-F.Pure ops.RefIsNull ∷ (Instr-F.GlobalSet global ∷ (Instr-F.GlobalGet global ∷ [])))

abbrev pub helper_function : ℕ → Function Instr Val
helper_function global = record { params = 1; results = 1; zeros = []; body = map roll-Instr (asking global) }

-- what becomes of an instruction, where the new function has this index
abbrev pub step : ℕ → Step (Unit {0}) Instr-F Instr
step helper (Instr-F.Pure ops.RefIsNull) x = roll-Instr (Instr-F.Call helper) ∷ []
step helper l x = keep tt l

-- one global more
abbrev pub OneMore : List Val → Type 0
OneMore extra = (v : Val) × (extra ≡ v ∷ [])

-- how many more calls may be open
abbrev pub more_calls : ℕ
more_calls = 1

abbrev pub adds : {m o : Module} → Appended m o → ℕ → Adding m o
adds appended globals = appending appended globals false more_calls (Unit {0}) (λ p q. Unit {0}) OneMore

-- A module of so many globals, and the lowered one.
pub record Lowers (m o : Module) (globals helper : ℕ) : Type 0 where
  pub appended : Appended m o
  pub alike : Alike m o
  pub named : ModuleNamed m (names_of m globals) globals
  pub exports : AllByRecursion (λ e. export_named (names_of m globals) e.desc ≡ true) m.exports
  pub global : Global
  pub one_global : alike.more_globals ≡ global ∷ []
  pub helper_params : param_count (func_type o helper) ≡ 1
  pub helper_body : callee o helper ≡ Some (Own (helper_function globals))
  pub code : (x : ℕ) → (names_of m globals).func x ≡ true → nat_lt x (imported_funcs m) ≡ false → CodeStays (adds appended globals) (step helper) (λ p. tt) (CodeNamed m (names_of m globals)) (slice_get m.codes (x - imported_funcs m)) (slice_get o.codes (x - imported_funcs m))
