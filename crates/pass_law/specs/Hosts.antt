-- What a host sees of a module beside its runs, on which the maps of a stage act.
use Rattle.std.specs.Prelude.{Bool, true, false}
use Rattle.std.specs.List.{list_any}
use Rattle.wasm_ast.specs.declared.module.code.Instr.TheOpen.{Instr-F}
use Rattle.wasm_ast.specs.declared.module.immediates.Catch.{Catch}
use Rattle.wasm_ast.specs.declared.module.immediates.Catch.TheVariants as catches
use Rattle.wasm_ast.specs.declared.module.parts.Module.{Module}
use Rattle.wasm_ast.specs.Occurrence.{Head}
use Rattle.wasm_ast.specs.Places.{anywhere}
use Rattle.meaning_new.specs.Interface.{Interface, interface}

-- The interface, by which a host links the module and by whose types it speaks with it; and whether the module may make
-- captures, as a mark of the lowered module tells.
pub record HostTypes : Type 0 where
  pub interface : Interface
  pub by_reference : Bool

-- a clause that hands over a reference to the exception that it takes
abbrev pub is_by_reference : Catch → Bool
is_by_reference (catches.TagRef x label) = true
is_by_reference (catches.AllRef label) = true
is_by_reference _ = false

abbrev pub catches_by_reference : Head → Bool
catches_by_reference (Instr-F.TryTable type clauses code) = list_any is_by_reference clauses
catches_by_reference _ = false

abbrev pub host_types : Module → HostTypes
host_types m = record { interface = interface m; by_reference = anywhere catches_by_reference m }
