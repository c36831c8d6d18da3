-- The index spaces and contexts of a crossed module are those of the module, as 1.0 writes them.
use Rattle.std.proofs.Common.{◌≡◌, ℕ, suc, ◌+◌, false, List, [], ◌∷◌, ◌++◌, map, length, Option, Some, None, option_map, refl, sym, ap, ◌∙◌, arith}
use Rattle.std.specs.Prelude.{filter_map, is_some}
use Rattle.std.specs.List.{AllByRecursion, cons_option}
use Rattle.std.proofs.lemmas.List.{map-append, length-append, length-map}
use Rattle.wasm_ast.specs.declared.module.ty.FuncType.{FuncType}
use Rattle.wasm_ast.specs.declared.module.code.Body.{Body}
use Rattle.wasm_ast.specs.declared.module.parts.Import.{Import}
use Rattle.wasm_ast.specs.declared.module.parts.ImportDesc.{ImportDesc}
use Rattle.wasm_ast.specs.declared.module.parts.ImportDesc.TheVariants as imports
use Rattle.wasm_ast.specs.declared.module.parts.Global.{Global}
use Rattle.wasm_ast.specs.declared.module.parts.Module.{Module}
use Rattle.wasm_ast.specs.Spaces.{is_tag}
use Rattle.core1_ast.specs.declared.module.ty.Ty1.{Ty1}
use Rattle.core1_ast.specs.declared.module.parts.Global1.{Global1}
use Rattle.core1_ast.specs.Spaces as spaces1
use Rattle.core1_ast.specs.Code as old
use Rattle.core1_ast.specs.Typing as typing1
use Rattle.typed_trees.specs.Modules.{table_import, memory_import, global_import, imported_of, all_tables, all_memories, all_globals, global_type, body_context}
use Rattle.crossing.specs.Code.{cross_type}
use Rattle.crossing.specs.Modules.{cross_func_type, cross_limits, cross_import_desc, cross_import, cross_global, cross_body, cross}
use Rattle.crossing.proofs.Types.{indices-cross}
use Rattle.pass_cross.specs.Contexts.{cross_types, cross_global_type, crossed_context}

-- what a map makes of what is filtered
module _ {X X' Y Y' : Type 0} (f : X → X') (g : X → Option Y) (g' : X' → Option Y') where
  cons_count : (o : Option Y) (o' : Option Y') → is_some o' ≡ is_some o → (l : List Y) (l' : List Y') → length l' ≡ length l → length (cons_option o' l') ≡ length (cons_option o l)
  cons_count None None e l l' q = q
  cons_count (Some y) (Some y') e l l' q = ap (λ (n : ℕ). suc n) q
  cons_count None (Some y') e l l' q = absurd cc
  cons_count (Some y) None e l l' q = absurd cc

  pub same_count : ((x : X) → is_some (g' (f x)) ≡ is_some (g x)) → (xs : List X) → length (filter_map g' (map f xs)) ≡ length (filter_map g xs)
  same_count e [] = refl
  same_count e (x ∷ xs) = cons_count (g x) (g' (f x)) (e x) (filter_map g xs) (filter_map g' (map f xs)) (same_count e xs)

  module _ (v : Y → Y') where
    cons_image : (o : Option Y) (o' : Option Y') → o' ≡ option_map v o → (l : List Y) (l' : List Y') → l' ≡ map v l → cons_option o' l' ≡ map v (cons_option o l)
    cons_image None o' e l l' q = ap (λ o. cons_option o l') e ∙ q
    cons_image (Some y) o' e l l' q = ap (λ o. cons_option o l') e ∙ ap (λ r. v y ∷ r) q

    pub filtered_image : (xs : List X) → AllByRecursion (λ x. g' (f x) ≡ option_map v (g x)) xs → filter_map g' (map f xs) ≡ map v (filter_map g xs)
    filtered_image [] h = refl
    filtered_image (x ∷ xs) h = cons_image (g x) (g' (f x)) h.0 (filter_map g xs) (filter_map g' (map f xs)) (filtered_image xs h.1)

table_kind : (d : ImportDesc) → is_some (spaces1.table_import (cross_import_desc d)) ≡ is_some (table_import d)
table_kind (imports.Table t l) = refl
table_kind (imports.Func x) = refl
table_kind (imports.Memory l) = refl
table_kind (imports.Global t b) = refl
table_kind (imports.Tag x) = refl

memory_kind : (d : ImportDesc) → is_some (spaces1.memory_import (cross_import_desc d)) ≡ is_some (memory_import d)
memory_kind (imports.Memory l) = refl
memory_kind (imports.Func x) = refl
memory_kind (imports.Table t l) = refl
memory_kind (imports.Global t b) = refl
memory_kind (imports.Tag x) = refl

global_kind : (d : ImportDesc) → is_tag d ≡ false → spaces1.global_import (cross_import_desc d) ≡ option_map cross_global_type (global_import d)
global_kind (imports.Global t b) h = refl
global_kind (imports.Func x) h = refl
global_kind (imports.Table t l) h = refl
global_kind (imports.Memory l) h = refl
global_kind (imports.Tag x) h = absurd cc

pub tables_cross : (m : Module) → length (spaces1.all_tables (cross m)) ≡ length (all_tables m)
tables_cross m =
    length-append (filter_map (λ i. spaces1.table_import i.desc) (map cross_import m.imports)) (map (λ t. cross_limits t.limits) m.tables)
    ∙ sums (same_count cross_import (λ i. table_import i.desc) (λ i. spaces1.table_import i.desc) (λ i. table_kind i.desc) m.imports) (length-map m.tables (λ t. cross_limits t.limits) ∙ sym (length-map m.tables (λ t. t.ty)))
    ∙ sym (length-append (imported_of table_import m) (map (λ t. t.ty) m.tables))
  where
    sums : {a b c d : ℕ} → a ≡ c → b ≡ d → a + b ≡ c + d
    sums p q = omega arith

pub memories_cross : (m : Module) → length (spaces1.all_memories (cross m)) ≡ length (all_memories m)
memories_cross m =
    length-append (filter_map (λ i. spaces1.memory_import i.desc) (map cross_import m.imports)) (map cross_limits m.memories)
    ∙ sums (same_count cross_import (λ i. memory_import i.desc) (λ i. spaces1.memory_import i.desc) (λ i. memory_kind i.desc) m.imports) (length-map m.memories cross_limits)
    ∙ sym (length-append (imported_of memory_import m) m.memories)
  where
    sums : {a b c d : ℕ} → a ≡ c → b ≡ d → a + b ≡ c + d
    sums p q = omega arith

module _ (m : Module) (untagged : AllByRecursion (λ i. is_tag i.desc ≡ false) m.imports) where
  kinds : (is : List Import) → AllByRecursion (λ i. is_tag i.desc ≡ false) is → AllByRecursion (λ (i : Import). spaces1.global_import (cross_import_desc i.desc) ≡ option_map cross_global_type (global_import i.desc)) is
  kinds [] h = tt
  kinds (i ∷ is) h = (global_kind i.desc h.0, kinds is h.1)

  pub imported_globals_cross : spaces1.imported_globals (cross m) ≡ map cross_global_type (imported_of global_import m)
  imported_globals_cross = filtered_image cross_import (λ i. global_import i.desc) (λ i. spaces1.global_import i.desc) cross_global_type m.imports (kinds m.imports untagged)

  abbrev typed_global1 : Global1 → spaces1.GlobalType
  typed_global1 g = record { type = g.ty; mutable = g.mutable }

  own : (gs : List Global) → map typed_global1 (map cross_global gs) ≡ map cross_global_type (map global_type gs)
  own [] = refl
  own (g ∷ gs) = ap (λ l. cross_global_type (global_type g) ∷ l) (own gs)

  pub globals_cross : spaces1.all_globals (cross m) ≡ map cross_global_type (all_globals m)
  globals_cross =
      ap (λ l. l ++ map typed_global1 (map cross_global m.globals)) imported_globals_cross
      ∙ ap (λ l. map cross_global_type (imported_of global_import m) ++ l) (own m.globals)
      ∙ sym (map-append cross_global_type (imported_of global_import m) (map global_type m.globals))

  -- the context of a body
  pub body_context_cross : (t : FuncType) (b : Body) → crossed_context (body_context m t b) (t.results ∷ []) (spaces1.all_tables (cross m)) (spaces1.all_memories (cross m)) ≡ typing1.body_context (cross m) (cross_func_type t) (cross_body b)
  body_context_cross t b =
      let base : List ℕ → List spaces1.GlobalType → List Ty1 → old.Context = λ funcs globals locals. record {
        types = map cross_func_type m.types;
        funcs = funcs;
        tables = spaces1.all_tables (cross m);
        memories = spaces1.all_memories (cross m);
        globals = globals;
        locals = locals;
        labels = cross_types t.results ∷ [];
        returns = Some (cross_types t.results);
      } in
      ap (λ funcs. base funcs (map cross_global_type (all_globals m)) (cross_types (t.params ++ b.locals))) (sym (indices-cross m))
      ∙ ap (λ globals. base (spaces1.func_indices (cross m)) globals (cross_types (t.params ++ b.locals))) (sym globals_cross)
      ∙ ap (λ locals. base (spaces1.func_indices (cross m)) (spaces1.all_globals (cross m)) locals) (map-append cross_type t.params b.locals)
