-- The interface of a crossed module: the same names in the same order, and each type as 1.0 writes it.
use Rattle.std.specs.Prelude.{◌≡◌, Bool, true, false, map, option_map}
use Rattle.std.specs.List.{AllByRecursion}
use Rattle.wasm_ast.specs.Spaces.{is_tag}
use Rattle.wasm_ast.specs.declared.module.parts.Import.{Import}
use Rattle.wasm_ast.specs.declared.module.parts.Export.{Export}
use Rattle.wasm_ast.specs.declared.module.parts.ExportDesc.{ExportDesc}
use Rattle.wasm_ast.specs.declared.module.parts.ExportDesc.TheVariants as exports
use Rattle.wasm_ast.specs.declared.module.parts.Module.{Module}
use Rattle.core1_ast.specs.declared.module.ty.Ty1.TheVariants as types1
use Rattle.meaning_new.specs.Interface as new
use Rattle.meaning_core1.specs.Interface as old
use Rattle.crossing.specs.Code.{cross_type}
use Rattle.crossing.specs.Modules.{cross, cross_func_type, cross_limits}

-- external types; a tag is written as a global
abbrev pub cross_extern : new.ExternType → old.ExternType1
cross_extern (new.func t) = old.func (cross_func_type t)
cross_extern (new.table t limits) = old.table (cross_limits limits)
cross_extern (new.memory limits) = old.memory (cross_limits limits)
cross_extern (new.global t mutable) = old.global (cross_type t) mutable
cross_extern (new.tag t) = old.global types1.I32 false

abbrev pub cross_interface : new.Interface → old.Interface1
cross_interface i = record {
  imports = map (λ x. record { from = x.from; name = x.name; type = option_map cross_extern x.type }) i.imports;
  exports = map (λ x. record { name = x.name; type = option_map cross_extern x.type }) i.exports;
}

-- no tag comes from a host or goes to one
abbrev pub exports_tag : ExportDesc → Bool
exports_tag (exports.Tag x) = true
exports_tag _ = false

pub record LinksNoTag (m : Module) : Type 0 where
  pub imports : AllByRecursion (λ (i : Import). is_tag i.desc ≡ false) m.imports
  pub exports : AllByRecursion (λ (e : Export). exports_tag e.desc ≡ false) m.exports

-- the law
abbrev pub CrossesInterface : Type 0
CrossesInterface = (m : Module) → LinksNoTag m → old.interface1 (cross m) ≡ cross_interface (new.interface m)
