-- What the law of the stage asks of its input holds of each typed module that the stage takes: all that is named is there,
-- initial values can be given by code, and entries read no globals.
use Rattle.std.proofs.Common.{◌≡◌, ℕ, Bool, true, false, not, ◌||◌, List, [], ◌∷◌, ◌++◌, map, Option, Some, None, refl, sym, ap, ◌∙◌}
use Rattle.std.specs.Prelude.{slice_get}
use Rattle.std.specs.List.{AllByRecursion, list_any}
use Rattle.std.proofs.lemmas.List.{append-nil}
use Rattle.wasm_ast.specs.Has.{makes_reference, is_one_reference, has_initialiser}
use Rattle.wasm_ast.specs.Occurrence.{head}
use Rattle.wasm_ast.specs.Spaces.{func_indices}
use Rattle.wasm_ast.specs.declared.module.ty.Ty.{Ty}
use Rattle.wasm_ast.specs.declared.module.code.Instr.{Instr, out-Instr}
use Rattle.wasm_ast.specs.declared.module.code.Instr.TheOpen.{Instr-F}
use Rattle.wasm_ast.specs.declared.module.parts.Element.{Element}
use Rattle.wasm_ast.specs.declared.module.parts.Global.{Global}
use Rattle.wasm_ast.specs.declared.module.parts.Table.{Table}
use Rattle.wasm_ast.specs.declared.module.parts.Module.{Module}
use Rattle.typing_kit.specs.Form.{Flat}
use Rattle.typed_trees.specs.declared.global_type.GlobalType.{GlobalType}
use Rattle.typed_trees.specs.declared.module.TypedFn.{TypedFn}
use Rattle.typed_trees.specs.Constants.{is_constant_layer, TypedConstant}
use Rattle.typed_trees.specs.Contexts.{Context}
use Rattle.typed_trees.specs.Forms.{layer_form, where_some}
use Rattle.typed_trees.specs.Modules.{context, imported_of, global_import, global_type, TypedElement}
use Rattle.typed_trees.specs.Trees.{erased}
use Rattle.typed_trees.specs.Typed.{body_of, module_of, IsTypedTree}
use Rattle.evaluation_kit.specs.Leaves.{top}
use Rattle.meaning_new.specs.declared.val.Val.{Val}
use Rattle.meaning_new.specs.Store.{missing}
use Rattle.meaning_new.specs.Instances.{constant_step, constant_steps}
use Rattle.stage_kit.specs.Adding.{CodeNamed}
use Rattle.stage_kit.specs.Appended.{Appended}
use Rattle.stage_kit.proofs.Lists.{IfAny, all_get, all_append}
use Rattle.stage_kit.proofs.TypedModules.{all_map, global_count, all_names, module_named, exports_named, bodies_named, appended_typed}
use Rattle.pass_plain.specs.Constants.{CodeInRange, ModeInRange, ReadsNone, EntryReadsNone, HasConstants, NamesThere}
use Rattle.pass_plain.specs.Foldable.{is_integer, Foldable}
use Rattle.pass_plain.proofs.ConstantFlow.{Flows, constant_flows}
use Rattle.pass_plain.proofs.ConstantTypes.{GivesNone, none_given}
use Rattle.pass_plain.proofs.FoldedModule.{reference_alone}
use Rattle.pass_plain.proofs.FoldedTree.{settable}

-- an expression that leaves no integer reads no global, where globals are integers
module _ (c : Context) (integers : AllByRecursion (λ g. is_integer g.ty ≡ true) c.globals) (globals others : List Val) where
  get_none : (x : ℕ) (o : Option GlobalType) (takes gives : List Ty) → IfAny (λ g. is_integer g.ty ≡ true) o → where_some o (λ g. Flat [] (g.ty ∷ [])) ≡ Flat takes gives → list_any is_integer gives ≡ false → ⊥
  get_none x None takes gives i e h = let no : ⊥ = cc in no
  get_none x (Some g) takes gives i e h =
      let one : g.ty ∷ [] ≡ gives = cc in
      let none : list_any is_integer (g.ty ∷ []) ≡ false = ap (list_any is_integer) one ∙ h in
      let some : list_any is_integer (g.ty ∷ []) ≡ true = ap (λ b. b || false) i in
      let no : ⊥ = cc in
      no

  step_same : (l : Instr-F Instr) (takes gives : List Ty) (vs : List Val) → layer_form c [] l ≡ Flat takes gives → list_any is_integer gives ≡ false → constant_step others l vs ≡ constant_step globals l vs
  step_same (Instr-F.GlobalGet x) takes gives vs e h = absurd (get_none x (slice_get c.globals x) takes gives (all_get (λ g. is_integer g.ty ≡ true) c.globals x integers) e h)
  step_same l takes gives vs e h = refl

  steps_same : (code : List Instr) (s t : List Ty) (vs : List Val) → Flows c code s t → AllByRecursion (λ i. GivesNone c is_integer (out-Instr i)) code → constant_steps others code vs ≡ constant_steps globals code vs
  steps_same [] s t vs f h = refl
  steps_same (i ∷ code) s t vs f h =
      ap (constant_steps others code) (step_same (out-Instr i) f.1 f.2 vs f.4 (h.0 f.1 f.2 f.4)) ∙ steps_same code (f.0 ++ f.2) t (constant_step globals (out-Instr i) vs) f.6 h.1

item_reads_none : (c : Context) → AllByRecursion (λ g. is_integer g.ty ≡ true) c.globals → (code : List Instr) (t : Ty) → list_any is_integer (t ∷ []) ≡ false → TypedConstant c code t → ReadsNone code
item_reads_none c integers code t r h globals others =
    let f = constant_flows c code t h in
    ap (top missing) (steps_same c integers globals others code [] (t ∷ []) [] f (none_given c is_integer code [] (t ∷ []) f r).1)

-- one reference
reference_reads_none : (l : Instr-F Instr) → makes_reference (head l) ≡ true → (globals others : List Val) → constant_step others l [] ≡ constant_step globals l []
reference_reads_none (Instr-F.GlobalGet x) h globals others = let no : ⊥ = cc in absurd no
reference_reads_none l h globals others = refl

entry_reads_none : (init : Option (List Instr)) → has_initialiser init ≡ false → EntryReadsNone init
entry_reads_none None h = tt
entry_reads_none (Some []) h = let no : ⊥ = cc in absurd no
entry_reads_none (Some (i ∷ [])) h = λ globals others. ap (top missing) (reference_reads_none (out-Instr i) (on (makes_reference (head (out-Instr i))) h) globals others)
  where
    on : (b : Bool) → not b ≡ false → b ≡ true
    on true e = refl
    on false e = let no : ⊥ = cc in absurd no
entry_reads_none (Some (i ∷ (j ∷ code))) h = let no : ⊥ = cc in absurd no

module _ (t : Module × List TypedFn) (typed : IsTypedTree t) where
  abbrev m : Module
  m = module_of t

  appended : Appended m m
  appended = appended_typed m typed.parts m [] [] (sym (append-nil m.types)) (sym (append-nil (func_indices m))) refl

  codes_named : (fns : List TypedFn) → AllByRecursion (λ f. AllByRecursion (CodeNamed m (all_names m)) (erased f.body)) fns → AllByRecursion (λ b. AllByRecursion (CodeNamed m (all_names m)) b.code) (map body_of fns)
  codes_named [] h = tt
  codes_named (f ∷ fns) h = (h.0, codes_named fns h.1)

  -- The lemma, of names.
  pub names_there : NamesThere m (global_count m)
  names_there = record {
    named = module_named m typed.parts;
    exports_named = exports_named m typed.parts;
    code_named = codes_named t.1 (bodies_named m typed.parts t.0.funcs t.1 typed.trees);
    funcs_typed = appended.funcs_typed;
    tags_typed = appended.tags_typed;
    bodies = typed.counts.bodies;
  }

  -- The lemma, of constant expressions: that their numbers are in range is known of the code alone.
  pub has_constants : Foldable m → AllByRecursion (λ b. has_initialiser b.init ≡ false) m.tables
      → AllByRecursion (λ g. CodeInRange g.init) m.globals → AllByRecursion (λ e. ModeInRange e.mode) m.elems → AllByRecursion (λ d. ModeInRange d.mode) m.datas → HasConstants m
  has_constants foldable entries ranges elem_ranges data_ranges = record {
    ranges = ranges;
    elem_ranges = elem_ranges;
    data_ranges = data_ranges;
    settable = settable t typed foldable;
    elem_offsets = foldable.elem_offsets;
    data_offsets = foldable.data_offsets;
    entries = all_map (λ b. has_initialiser b.init ≡ false) (λ b. EntryReadsNone b.init) (λ (b : Table). entry_reads_none b.init) m.tables entries;
    items = all_map (TypedElement m) (λ e. AllByRecursion ReadsNone e.items)
        (λ (e : Element) h. all_map (λ code. TypedConstant (context m) code e.ty) ReadsNone (λ code. item_reads_none (context m) integers code e.ty (reference_alone e.ty h.type)) e.items h.items) m.elems typed.parts.elems;
  }
    where
      own : (gs : List Global) → AllByRecursion (λ g. is_integer g.ty ≡ true) gs → AllByRecursion (λ g. is_integer g.ty ≡ true) (map global_type gs)
      own [] h = tt
      own (g ∷ gs) h = (h.0, own gs h.1)

      integers : AllByRecursion (λ g. is_integer g.ty ≡ true) (context m).globals
      integers = all_append (λ g. is_integer g.ty ≡ true) (imported_of global_import m) (map global_type m.globals) foldable.imported_integers (own m.globals foldable.integers)
