-- Small modules that are told apart: by one result, and by an import; and a script that tells them apart.
use Rattle.std.specs.Prelude.{ℕ, List, [], ◌∷◌, None, codes}
use Rattle.num_core.specs.declared.operators.Bin.TheVariants.{Shl, ShrS}
use Rattle.num_core.specs.declared.operators.Conv.TheVariants.{S8of32}
use Rattle.num_core.specs.declared.operators.Width.TheVariants.{W32}
use Rattle.host_kit.specs.Trace.{Mark, Shows}
use Rattle.host_kit.specs.declared.event.Event.TheVariants as events
use Rattle.host_kit.specs.declared.script.Item.TheVariants.{Call}
use Rattle.host_kit.specs.declared.script.Script.{Script}
use Rattle.host_kit.specs.declared.value.Value.TheVariants as values
use Rattle.wasm_ast.specs.declared.module.code.Instr.TheVariants as source
use Rattle.wasm_ast.specs.declared.module.op.Op.TheVariants.{Convert}
use Rattle.wasm_ast.specs.declared.module.parts.ExportDesc.TheVariants as source_exports
use Rattle.wasm_ast.specs.declared.module.parts.Module.{Module}
use Rattle.wasm_ast.specs.declared.module.ty.Ty.TheVariants as source_types
use Rattle.core1_ast.specs.declared.module.code.Instr1.{Instr1}
use Rattle.core1_ast.specs.declared.module.code.Instr1.TheVariants.{LocalGet, Pure}
use Rattle.core1_ast.specs.declared.module.op.Op1.TheVariants.{I32Const, Binary}
use Rattle.core1_ast.specs.declared.module.parts.ExportDesc1.TheVariants as exports
use Rattle.core1_ast.specs.declared.module.parts.ImportDesc1.TheVariants as imports
use Rattle.core1_ast.specs.declared.module.parts.Module1.{Module1}
use Rattle.core1_ast.specs.declared.module.ty.Ty1.TheVariants as types

-- the name f
abbrev pub name_f : List ℕ
name_f = 102 ∷ []

-- local.get 0 i32.extend8_s, exported as f
abbrev pub extending : Module
extending = record {
  types = record { params = source_types.I32 ∷ []; results = source_types.I32 ∷ [] } ∷ [];
  imports = [];
  funcs = 0 ∷ [];
  tables = [];
  memories = [];
  tags = [];
  globals = [];
  exports = record { name = name_f; desc = source_exports.Func 0 } ∷ [];
  start = None;
  elems = [];
  data_count = None;
  codes = record { locals = []; code = source.LocalGet 0 ∷ (source.Pure (Convert S8of32) ∷ []) } ∷ [];
  datas = [];
}

-- a function of 1.0 with this code, exported as f
abbrev pub exporting : List Instr1 → Module1
exporting code = record {
  types = record { params = types.I32 ∷ []; results = types.I32 ∷ [] } ∷ [];
  imports = [];
  funcs = 0 ∷ [];
  tables = [];
  memories = [];
  globals = [];
  exports = record { name = name_f; desc = exports.Func 0 } ∷ [];
  start = None;
  elems = [];
  codes = record { locals = []; code = code } ∷ [];
  datas = [];
}

-- local.get 0
abbrev pub returning : Module1
returning = exporting (LocalGet 0 ∷ [])

-- local.get 0, and twice a shift by 24
abbrev pub shifting : Module1
shifting =
    exporting (LocalGet 0 ∷ (Pure (I32Const 24) ∷ (Pure (Binary W32 Shl) ∷ (Pure (I32Const 24) ∷ (Pure (Binary W32 ShrS) ∷ [])))))

-- the same behind an imported function of the same type, which is then the one that the export names
abbrev pub behind_an_import : Module1
behind_an_import = record shifting { imports = record { «module» = codes "env"; name = codes "g"; desc = imports.Func 0 } ∷ [] }

-- a call of f with 128
abbrev pub one_call : Script
one_call = record { globals = []; replies = []; grows = []; items = Call name_f (values.I32 128 ∷ []) ∷ [] }

-- it returns this number, and the script is done
abbrev pub returned : ℕ → List Mark
returned r = Shows events.Started ∷ (Shows (events.Returned 0 (values.I32 r ∷ []) []) ∷ (Shows events.Done ∷ []))

-- it is a call of the host's function, which has no reply
abbrev pub unanswered : List Mark
unanswered = Shows events.Started ∷ (Shows (events.HostCall 0 (values.I32 128 ∷ []) []) ∷ (Shows (events.NoReply 0) ∷ []))
