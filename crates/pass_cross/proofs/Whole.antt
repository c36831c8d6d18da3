-- A typed module that has nothing of 3.0 but typed selects crosses.
use Rattle.std.proofs.Common.{◌≡◌, ◌<◌, true, false, List, [], ◌∷◌, map, length, Option, Some, None, refl, ap, subst, arith}
use Rattle.std.specs.Prelude.{filter_map, is_none}
use Rattle.std.specs.List.{AllByRecursion}
use Rattle.wasm_ast.specs.declared.module.parts.ImportDesc.{ImportDesc}
use Rattle.wasm_ast.specs.declared.module.parts.ImportDesc.TheVariants as imports
use Rattle.wasm_ast.specs.declared.module.parts.Global.{Global}
use Rattle.wasm_ast.specs.declared.module.parts.Table.{Table}
use Rattle.wasm_ast.specs.declared.module.code.Instr.{Instr}
use Rattle.wasm_ast.specs.declared.module.parts.Module.{Module}
use Rattle.wasm_ast.specs.Has.{is_wide_memory}
use Rattle.wasm_ast.specs.Kept.{is_funcref, is_plain_table}
use Rattle.wasm_ast.specs.Spaces.{global_import, table_count}
use Rattle.typed_trees.specs.declared.module.TypedFn.{TypedFn}
use Rattle.typed_trees.specs.Typed.{module_of, IsTypedTree}
use Rattle.host_kit.specs.Offered.{imported_global, all_globals}
use Rattle.meaning_new.specs.Instances.{memory_import}
use Rattle.crossing.specs.Code.{is_integer}
use Rattle.crossing.specs.Crossing.{AreIntegers, Crosses, ConstantCrosses, imported_globals, ElementCrosses, ModeCrosses}
use Rattle.crossing.proofs.Keeping.{IfThere, all_append}
use Rattle.pass_cross.specs.Crossable.{Crossable}
use Rattle.pass_cross.proofs.Nodes.{and_right}
use Rattle.pass_cross.proofs.Facts.{all_map, all_filtered, DescInteger, narrow_by, table_kept, tables_kept}
use Rattle.pass_cross.proofs.Bodies.{types_cross, codes_cross, own_integers, descs}
use Rattle.pass_cross.proofs.Segments.{globals_out, elements_out, segments_out}

-- each has a part of what it has
pub all_weaker : {X : Type 0} (P Q : X → Type 0) (xs : List X) → ((x : X) → P x → Q x) → AllByRecursion P xs → AllByRecursion Q xs
all_weaker P Q [] f h = tt
all_weaker P Q (x ∷ xs) f h = (f x h.0, all_weaker P Q xs f h.1)

no_init : (o : Option (List Instr)) → is_none o ≡ true → o ≡ None
no_init None h = refl
no_init (Some code) h = absurd cc

module _ (p : Module × List TypedFn) (is_typed : IsTypedTree p) (h : Crossable (module_of p)) where
  abbrev m : Module
  m = module_of p

  type_of : (d : ImportDesc) → DescInteger d → IfThere (λ t. is_integer t ≡ true) (global_import d)
  type_of (imports.Global t b) k = k
  type_of (imports.Func x) k = tt
  type_of (imports.Table t l) k = tt
  type_of (imports.Memory l) k = tt
  type_of (imports.Tag x) k = tt

  offered_of : (d : ImportDesc) → DescInteger d → IfThere (λ g. is_integer g.ty ≡ true) (imported_global d)
  offered_of (imports.Global t b) k = k
  offered_of (imports.Func x) k = tt
  offered_of (imports.Table t l) k = tt
  offered_of (imports.Memory l) k = tt
  offered_of (imports.Tag x) k = tt

  imported_integers : AreIntegers (filter_map (λ i. global_import i.desc) m.imports)
  imported_integers = all_filtered (λ i. global_import i.desc) (λ t. is_integer t ≡ true) m.imports (all_weaker (λ i. DescInteger i.desc) (λ i. IfThere (λ t. is_integer t ≡ true) (global_import i.desc)) m.imports (λ i k. type_of i.desc k) (descs p is_typed h))

  offered_integers : AreIntegers (map (λ g. g.ty) (all_globals m))
  offered_integers =
      all_map (λ g. g.ty) (λ t. is_integer t ≡ true) (all_globals m)
      (all_append (λ g. is_integer g.ty ≡ true) (filter_map (λ i. imported_global i.desc) m.imports) (map (λ g. record { ty = g.ty; mutable = g.mutable }) m.globals)
      (all_filtered (λ i. imported_global i.desc) (λ g. is_integer g.ty ≡ true) m.imports (all_weaker (λ i. DescInteger i.desc) (λ i. IfThere (λ g. is_integer g.ty ≡ true) (imported_global i.desc)) m.imports (λ i k. offered_of i.desc k) (descs p is_typed h)))
      (all_map (λ g. record { ty = g.ty; mutable = g.mutable }) (λ g. is_integer g.ty ≡ true) m.globals (own_integers p is_typed h)))

  memory_of : (d : ImportDesc) → is_wide_memory d ≡ false → IfThere (λ l. l.wide ≡ false) (memory_import d)
  memory_of (imports.Memory l) k = k
  memory_of (imports.Func x) k = tt
  memory_of (imports.Table t l) k = tt
  memory_of (imports.Global t b) k = tt
  memory_of (imports.Tag x) k = tt

  no_inits : (ts : List Table) → m.tables ≡ ts → AllByRecursion (λ (t : Table). t.init ≡ None) ts
  no_inits [] e = tt
  no_inits (t ∷ ts) e =
      let some : 0 < table_count m = let n = ap length e in omega arith in
      subst (λ l. AllByRecursion (λ (t : Table). t.init ≡ None) l) e
      (all_weaker (λ t. is_plain_table t ≡ true) (λ (t : Table). t.init ≡ None) m.tables (λ t k. no_init t.init (and_right (is_funcref t.ty) (is_none t.init) k)) (tables_kept m h (table_kept m h some)))

  pub crossable_crosses : Crosses m
  crossable_crosses = record {
    functions = record { types = types_cross p is_typed h; codes = codes_cross p is_typed h };
    globals = record { imported = imported_integers; all = offered_integers };
    parts = record {
      globals = all_weaker _ (λ (g : Global). ConstantCrosses (imported_globals m) g.init) m.globals (λ g o. o.crosses) (globals_out p is_typed h);
      memories = narrow_by m h memory_import memory_of;
      tables = no_inits m.tables refl;
    };
    segments = record {
      elems = all_weaker _ (ElementCrosses (imported_globals m)) m.elems (λ e o. o.crosses) (elements_out p is_typed h);
      datas = all_weaker _ (λ d. ModeCrosses (imported_globals m) d.mode) m.datas (λ d o. o.crosses) (segments_out p is_typed h);
    };
  }
