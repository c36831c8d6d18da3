-- The interface of a lowered module: what it imports and exports, by what its input does. This project's own mapping.
use Rattle.std.specs.Prelude.{◌≡◌, ℕ, zero, suc, ◌+◌, true, List, [], ◌∷◌, ◌++◌, codes, filter_map, take, slice_get, Option, Some, None, option_map, option_and_then}
use Rattle.wasm_ast.specs.declared.module.parts.Module.{Module}
use Rattle.wasm_ast.specs.declared.module.ty.FuncType.{FuncType}
use Rattle.wasm_ast.specs.declared.module.ty.Limits.{Limits}
use Rattle.core1_ast.specs.declared.module.parts.Module1.{Module1}
use Rattle.core1_ast.specs.declared.module.ty.FuncType1.{FuncType1}
use Rattle.core1_ast.specs.declared.module.ty.Limits1.{Limits1}
use Rattle.core1_ast.specs.declared.module.ty.Ty1.{Ty1}
use Rattle.core1_ast.specs.declared.module.ty.Ty1.TheVariants.{I32, I64}
use Rattle.meaning_new.specs.Interface.{ExternType, Imported, Exported, Interface, interface, func, table, memory, global, tag}
use Rattle.meaning_core1.specs.Interface as old
use Rattle.headline.specs.Flattening.{flattened, flat}
use Rattle.headline.specs.Marks.{exception_count, payload_count, result_count, payload_mark, result_mark}

-- the type of the lowered function: the parameters flattened, and the first flattened result alone
abbrev pub mapped_func : FuncType → FuncType1
mapped_func t = record { params = flat t.params; results = take 1 (flat t.results) }

abbrev pub mapped_limits : Limits → Limits1
mapped_limits limits = record { min = limits.min; max = limits.max }

-- What a host of the lowered module links. Tables and tags are not linked, and a global is one of a single word: the
-- profile has no imported or exported table, no imported tag and no imported or exported global of another type
abbrev pub mapped_extern : ExternType → Option old.ExternType1
mapped_extern (func t) = Some (old.func (mapped_func t))
mapped_extern (table t limits) = None
mapped_extern (memory limits) = Some (old.memory (mapped_limits limits))
mapped_extern (global t mutable) = option_map (λ word. old.global word mutable) (slice_get (flattened t) 0)
mapped_extern (tag t) = None

-- the names stay
abbrev pub mapped_import : Imported → Option old.Imported1
mapped_import i = option_map (λ type. record { from = i.from; name = i.name; type = Some type }) (option_and_then mapped_extern i.type)

abbrev pub mapped_export : Exported → Option old.Exported1
mapped_export e = option_map (λ type. record { name = e.name; type = Some type }) (option_and_then mapped_extern e.type)

-- a mark is a mutable global
abbrev pub mark : List ℕ → Ty1 → old.Exported1
mark name t = record { name = name; type = Some (old.global t true) }

-- so many marks, numbered from this number on
abbrev pub numbered_marks : (ℕ → List ℕ) → Ty1 → ℕ → ℕ → List old.Exported1
numbered_marks name t first zero = []
numbered_marks name t first (suc count) = mark (name first) t ∷ numbered_marks name t (first + 1) count

-- The marks, in order: of the exception that is not caught, of the words of its payload, and of the results of a linked
-- function beyond the first. The mark of a full capture store comes with the first module that captures
abbrev pub marks : Interface → List old.Exported1
marks i =
    numbered_marks (λ k. codes "lower.exn") I32 0 (exception_count i.tags)
    ++ numbered_marks payload_mark I64 0 (payload_count i)
    ++ numbered_marks result_mark I64 1 (result_count i)

-- imports and exports keep their order; the marks come last
abbrev pub mapped_interface : Interface → old.Interface1
mapped_interface i = record { imports = filter_map mapped_import i.imports; exports = filter_map mapped_export i.exports ++ marks i }

-- a host links the second module as it links the first: the same imports and exports under the same names, with mapped
-- types, and beside them the marks alone
abbrev pub SameInterface : Module → Module1 → Type 0
SameInterface m m1 = old.interface1 m1 ≡ mapped_interface (interface m)
