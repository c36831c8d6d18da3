-- The functions of a typed module that shows no feature but typed selects: their bodies cross, and are typed in 1.0.
use Rattle.std.proofs.Common.{◌≡◌, ℕ, true, false, List, [], ◌∷◌, ◌++◌, map, option_map, ap, ◌∙◌, subst}
use Rattle.std.specs.List.{AllByRecursion, list_any}
use Rattle.std.proofs.lemmas.Option.{slice_get-map}
use Rattle.wasm_ast.specs.declared.features.kind.Feature.{Feature}
use Rattle.wasm_ast.specs.declared.module.ty.Ty.{Ty}
use Rattle.wasm_ast.specs.declared.module.ty.FuncType.{FuncType}
use Rattle.wasm_ast.specs.declared.module.code.Body.{Body}
use Rattle.wasm_ast.specs.declared.module.parts.ImportDesc.{ImportDesc}
use Rattle.wasm_ast.specs.declared.module.parts.ImportDesc.TheVariants as imports
use Rattle.wasm_ast.specs.declared.module.parts.Global.{Global}
use Rattle.wasm_ast.specs.declared.module.parts.Module.{Module}
use Rattle.wasm_ast.specs.Features.{type_shows}
use Rattle.core1_ast.specs.Spaces as spaces1
use Rattle.core1_ast.specs.Code as old
use Rattle.core1_ast.specs.Typing as typing1
use Rattle.typed_trees.specs.declared.module.TypedFn.{TypedFn}
use Rattle.typed_trees.specs.declared.global_type.GlobalType.{GlobalType}
use Rattle.typed_trees.specs.Contexts.{is_value_type}
use Rattle.typed_trees.specs.Trees.{erased}
use Rattle.typed_trees.specs.Typed.{body_of, module_of, TypedTrees, TypedFuncTree, IsTypedTree}
use Rattle.typed_trees.specs.Modules.{global_import, imported_of, all_globals, global_type, TypedGlobals, body_context}
use Rattle.crossing.specs.Code.{is_integer}
use Rattle.crossing.specs.Modules.{cross_func_type, cross_body, cross}
use Rattle.crossing.specs.Crossing.{AreIntegers, TypeCrosses, BodyCrosses}
use Rattle.crossing.proofs.Keeping.{IfThere, all_get, all_append}
use Rattle.pass_cross.specs.Crossable.{Crossable}
use Rattle.pass_cross.specs.Contexts.{cross_types}
use Rattle.pass_cross.specs.Short.{are_short_inside}
use Rattle.pass_cross.proofs.Heads.{IsPlain}
use Rattle.pass_cross.proofs.Nodes.{LacksIn}
use Rattle.pass_cross.proofs.Trees.{nodes_out, integer_typed}
use Rattle.pass_cross.proofs.Facts.{is_declared, integers, all_zip, all_map, all_filtered, DescInteger, imports_integers, types_integers, globals_shown, global_integer, locals_shown, bodies_lack, no_tag_imports, one_table, one_memory, narrow}
use Rattle.pass_cross.proofs.Spaces.{tables_cross, memories_cross, body_context_cross}

-- the types of globals are value types
pub globals_valued : (m : Module) (before : List GlobalType) (gs : List Global) → TypedGlobals m before gs → AllByRecursion (λ g. is_value_type g.ty ≡ true) gs
globals_valued m before [] h = tt
globals_valued m before (g ∷ gs) h = (h.0.type, globals_valued m (before ++ global_type g ∷ []) gs h.1)

pub types_typed : (ts : List Ty) → AreIntegers ts → AllByRecursion old.TypedTy (cross_types ts)
types_typed [] h = tt
types_typed (t ∷ ts) h = (integer_typed t h.0, types_typed ts h.1)

module _ (p : Module × List TypedFn) (is_typed : IsTypedTree p) (h : Crossable (module_of p)) where
  abbrev pub m : Module
  m = module_of p

  pub own_integers : AllByRecursion (λ g. is_integer g.ty ≡ true) m.globals
  own_integers =
      all_zip (λ g. is_value_type g.ty ≡ true) (λ g. (f : Feature) → is_declared f ≡ true → type_shows f g.ty ≡ false) (λ g. is_integer g.ty ≡ true) m.globals
      (global_integer m h) (globals_valued m (imported_of global_import m) m.globals is_typed.parts.globals) (globals_shown m h)

  of_desc : (d : ImportDesc) → DescInteger d → IfThere (λ g. is_integer g.ty ≡ true) (global_import d)
  of_desc (imports.Global t b) k = k
  of_desc (imports.Func x) k = tt
  of_desc (imports.Table t l) k = tt
  of_desc (imports.Memory l) k = tt
  of_desc (imports.Tag x) k = tt

  pub descs : AllByRecursion (λ i. DescInteger i.desc) m.imports
  descs = imports_integers m h is_typed.parts.imports

  pub all_integers : AllByRecursion (λ g. is_integer g.ty ≡ true) (all_globals m)
  all_integers =
      all_append (λ g. is_integer g.ty ≡ true) (imported_of global_import m) (map global_type m.globals)
      (all_filtered (λ i. global_import i.desc) (λ g. is_integer g.ty ≡ true) m.imports (all_zip (λ i. DescInteger i.desc) (λ i. DescInteger i.desc) (λ i. IfThere (λ g. is_integer g.ty ≡ true) (global_import i.desc)) m.imports (λ i k q. of_desc i.desc k) descs descs))
      (all_map global_type (λ g. is_integer g.ty ≡ true) m.globals own_integers)

  pub types_cross : AllByRecursion TypeCrosses m.types
  types_cross = types_integers m h is_typed.parts.types

  body_plain : (t : FuncType) (b : Body) → AreIntegers t.params → AreIntegers b.locals → IsPlain (body_context m t b)
  body_plain t b params locals = record {
    types = types_cross;
    globals = all_integers;
    locals = all_append (λ t. is_integer t ≡ true) t.params b.locals params locals;
    tables = one_table m h;
    memories = one_memory m h;
    narrow = narrow m h;
  }

  -- a body in both
  pub record BodyOut (index : ℕ) (b : Body) : Type 0 where
    pub crosses : BodyCrosses m b
    pub typed : are_short_inside (cross_body b).code ≡ true → typing1.TypedFunc (cross m) index (cross_body b)

  func_out : (index : ℕ) (f : TypedFn) → TypedFuncTree m index f → LacksIn (erased f.body) → ((f' : Feature) → is_declared f' ≡ true → list_any (type_shows f') f.locals ≡ false) → BodyOut index (body_of f)
  func_out index f tree lacks shown =
      let type : TypeCrosses tree.type = subst (IfThere TypeCrosses) tree.declared (all_get TypeCrosses m.types index types_cross) in
      let locals = integers f.locals tree.typed.locals shown in
      let c = body_context m tree.type (body_of f) in
      let out = nodes_out m c (body_plain tree.type (body_of f) type.params locals) (spaces1.all_tables (cross m)) (spaces1.all_memories (cross m)) (tables_cross m) (memories_cross m) (tree.type.results ∷ []) f.body [] tree.typed.end tree.typed.nodes lacks tt in
      record {
        crosses = record { locals = locals; code = out.fits };
        typed = λ short. record {
          type = cross_func_type tree.type;
          declared = slice_get-map cross_func_type m.types index ∙ ap (option_map cross_func_type) tree.declared;
          typed = record {
            locals = types_typed f.locals locals;
            code = subst (λ c1. old.TypedCode c1 (cross_body (body_of f)).code [] (cross_types tree.type.results)) (body_context_cross m (no_tag_imports m h) tree.type (body_of f)) (out.typed short tree.type.results tree.typed.ends);
          };
        };
      }

  abbrev Out : List ℕ → List Body → Type 0
  Out [] [] = Unit {0}
  Out (t ∷ ts) (b ∷ bs) = BodyOut t b × Out ts bs
  Out _ _ = ⊥

  funcs_out : (ts : List ℕ) (fns : List TypedFn) → TypedTrees m ts fns → AllByRecursion (λ b. LacksIn b.code) (map body_of fns) → AllByRecursion (λ b. (f : Feature) → is_declared f ≡ true → list_any (type_shows f) b.locals ≡ false) (map body_of fns) → Out ts (map body_of fns)
  funcs_out [] [] tree lacks shown = tt
  funcs_out [] (f ∷ fns) tree lacks shown = absurd tree
  funcs_out (t ∷ ts) [] tree lacks shown = absurd tree
  funcs_out (t ∷ ts) (f ∷ fns) tree lacks shown = (func_out t f tree.0 lacks.0 shown.0, funcs_out ts fns tree.1 lacks.1 shown.1)

  bodies_cross : (ts : List ℕ) (bs : List Body) → Out ts bs → AllByRecursion (BodyCrosses m) bs
  bodies_cross [] [] o = tt
  bodies_cross [] (b ∷ bs) o = absurd o
  bodies_cross (t ∷ ts) [] o = absurd o
  bodies_cross (t ∷ ts) (b ∷ bs) o = (o.0.crosses, bodies_cross ts bs o.1)

  bodies_typed : (ts : List ℕ) (bs : List Body) → Out ts bs → AllByRecursion (λ b. are_short_inside b.code ≡ true) (map cross_body bs) → typing1.TypedFuncs (cross m) ts (map cross_body bs)
  bodies_typed [] [] o s = tt
  bodies_typed [] (b ∷ bs) o s = absurd o
  bodies_typed (t ∷ ts) [] o s = absurd o
  bodies_typed (t ∷ ts) (b ∷ bs) o s = (o.0.typed s.0, bodies_typed ts bs o.1 s.1)

  all_out : Out m.funcs m.codes
  all_out = funcs_out m.funcs p.1 is_typed.trees (bodies_lack m h) (locals_shown m h)

  pub codes_cross : AllByRecursion (BodyCrosses m) m.codes
  codes_cross = bodies_cross m.funcs m.codes all_out

  pub codes_typed : AllByRecursion (λ b. are_short_inside b.code ≡ true) (cross m).codes → typing1.TypedFuncs (cross m) m.funcs (cross m).codes
  codes_typed s = bodies_typed m.funcs m.codes all_out s
