-- The typed tree without constant expressions that compute is a typed tree.
use Rattle.std.proofs.Common.{◌≡◌, ℕ, zero, suc, ◌+◌, ◌<◌, ◌≤◌, IsTrue, MatchOption, Bool, true, false, List, [], ◌∷◌, ◌++◌, map, length, filter_map, Option, Some, None, refl, sym, ap, ◌∙◌, subst, arith}
use Rattle.std.specs.Prelude.{slice_get, option_and_then, option_to_list}
use Rattle.std.specs.List.{AllByRecursion, list_any}
use Rattle.std.proofs.lemmas.List.{append_assoc, append-nil, length-append, length-map, map-append}
use Rattle.wasm_ast.specs.Counts.{is_data_use, names_data, Agrees}
use Rattle.wasm_ast.specs.Fold.{known_globals}
use Rattle.wasm_ast.specs.Marking.{is_marked}
use Rattle.wasm_ast.specs.Occurrence.{some_in}
use Rattle.wasm_ast.specs.Spaces as spaces
use Rattle.wasm_ast.specs.Spaces.{is_global, is_func, imported, func_import, func_indices, func_count, global_types}
use Rattle.wasm_ast.specs.declared.module.ty.Ty.{Ty}
use Rattle.wasm_ast.specs.declared.module.ty.FuncType.{FuncType}
use Rattle.wasm_ast.specs.declared.module.code.Body.{Body}
use Rattle.wasm_ast.specs.declared.module.code.Instr.{Instr}
use Rattle.wasm_ast.specs.declared.module.parts.Global.{Global}
use Rattle.wasm_ast.specs.declared.module.parts.Module.{Module}
use Rattle.typed_trees.specs.declared.global_type.GlobalType.{GlobalType}
use Rattle.typed_trees.specs.declared.module.TypedFn.{TypedFn}
use Rattle.typed_trees.specs.Contexts.{Context, func_type}
use Rattle.typed_trees.specs.Modules.{context, refs_of, early_context, body_context, imported_of, global_import, global_type, all_globals, TypedFuncType, TypedGlobals, TypedStart, TypedParts}
use Rattle.typed_trees.specs.Trees.{TypedNodes}
use Rattle.typed_trees.specs.Typed.{body_of, module_of, TypedFuncTree, TypedTrees, IsTypedTree}
use Rattle.stage_kit.specs.Prepared.{call_start}
use Rattle.stage_kit.proofs.Lists.{all_append}
use Rattle.stage_kit.proofs.TypedModules.{all_map}
use Rattle.pass_plain.specs.Constants.{AreSettable, IsSettable}
use Rattle.pass_plain.specs.Foldable.{Foldable}
use Rattle.pass_plain.specs.Folding.{folded_globals, folded_part, setting_code, nothing_to_nothing, with_start, started_part, start_body, start_bodies, start_fns, started, folded_data, setting_node, type_at, without_constants, tree_without_constants}
use Rattle.pass_plain.proofs.ConstantFlow.{constant_flows}
use Rattle.pass_plain.proofs.ConstantReads.{flow_reads, flow_leaves_one}
use Rattle.pass_plain.proofs.ConstantRuns.{funcs_counted}
use Rattle.pass_plain.proofs.Constants.{globals_unseen}
use Rattle.pass_plain.proofs.FoldedGlobals.{one_longer}
use Rattle.pass_plain.proofs.FoldedModule.{parts_fold, trees_fold, globals_kept, refs_kept, imports_count}
use Rattle.pass_plain.proofs.FoldedTyped.{keeps_more}
use Rattle.pass_plain.proofs.Keeping.{unnamed}
use Rattle.pass_plain.proofs.KnownGlobals.{imported_types}
use Rattle.pass_plain.proofs.MoreContext.{Keeps, SettableAs, func_kept}
use Rattle.pass_plain.proofs.NothingNew.{set_all, start_free, join_free}
use Rattle.pass_plain.proofs.SettingNodes.{tree_stands}
use Rattle.pass_plain.proofs.SettingTyped.{CallsNothing, setting_typed}

-- each initial value of a typed module can be given by code
settable_from : (m : Module) (x : ℕ) (before : List GlobalType) (gs : List Global) → x ≡ length before → TypedGlobals m before gs → AreSettable x gs
settable_from m x before [] at h = tt
settable_from m x before (g ∷ gs) at h =
    let c = early_context m before in
    let f = constant_flows c g.init g.ty h.0.init in (
      subst (λ n. IsSettable n g.init) (sym at) (flow_reads c g.init [] (g.ty ∷ []) f),
      flow_leaves_one c g.init g.ty f,
      settable_from m (x + 1) (before ++ global_type g ∷ []) gs (ap (λ n. n + 1) at ∙ sym (one_longer before (global_type g))) h.1,
    )

got_map : {A B : Type 0} (f : A → B) (l : List A) (x : ℕ) (a : A) → slice_get l x ≡ Some a → slice_get (map f l) x ≡ Some (f a)
got_map f [] x a e = let no : ⊥ = cc in absurd no
got_map f (b ∷ l) zero a e = let is : b ≡ a = cc in ap (λ v. Some (f v)) is
got_map f (b ∷ l) (suc x) a e = got_map f l x a e

at_end : {A : Type 0} (l : List A) (a : A) → slice_get (l ++ a ∷ []) (length l) ≡ Some a
at_end [] a = refl
at_end (b ∷ l) a = at_end l a

trees_append : (m : Module) (indices : List ℕ) (fns : List TypedFn) (t : ℕ) (f : TypedFn) → TypedTrees m indices fns → TypedFuncTree m t f → TypedTrees m (indices ++ t ∷ []) (fns ++ f ∷ [])
trees_append m [] [] t f h k = (k, tt)
trees_append m [] (g ∷ fns) t f h k = absurd h
trees_append m (u ∷ indices) [] t f h k = absurd h
trees_append m (u ∷ indices) (g ∷ fns) t f h k = (h.0, trees_append m indices fns t f h.1 k)

module _ (t : Module × List TypedFn) (typed : IsTypedTree t) (foldable : Foldable (module_of t)) where
  abbrev m : Module
  m = module_of t

  abbrev imps : List GlobalType
  imps = imported_of global_import m

  counted : imported is_global m ≡ length imps
  counted = imports_count m foldable typed.parts m.types m.funcs m.start m.codes (λ i x e. e) (λ i x e. e) (omega arith) (omega arith)

  pub settable : AreSettable (imported is_global m) m.globals
  settable = settable_from m (imported is_global m) imps m.globals counted typed.parts.globals

  -- the types of globals, as code that sets them sees them
  types_are : global_types m ≡ map (λ g. g.ty) (all_globals m)
  types_are = ap (λ l. l ++ map (λ g. g.ty) m.globals) (imported_types m.imports) ∙ ap (λ l. map (λ g. g.ty) imps ++ l) (own m.globals) ∙ sym (map-append (λ g. g.ty) imps (map global_type m.globals))
    where
      own : (gs : List Global) → map (λ g. g.ty) gs ≡ map (λ g. g.ty) (map global_type gs)
      own [] = refl
      own (g ∷ gs) = ap (λ l. g.ty ∷ l) (own gs)

  type_told : (x : ℕ) (g : GlobalType) → slice_get (all_globals m) x ≡ Some g → type_at (global_types m) x ≡ g.ty ∷ []
  type_told x g e = ap (λ l. type_at l x) types_are ∙ ap option_to_list (got_map (λ u. u.ty) (all_globals m) x g e)

  -- where all expressions fold
  folded_tree : (fns : List TypedFn) → fns ≡ t.1 → Agrees (module_of (folded_part t.0, fns)) → IsTypedTree (folded_part t.0, fns)
  folded_tree fns e agrees =
      let kept : Keeps m.types m.types = λ i x e. e in
      let kept' : Keeps (func_indices m) (func_indices m) = λ i x e. e in
      let codes = map body_of fns in
      record {
        no_bodies = typed.no_bodies;
        counts = agrees;
        parts = parts_fold m foldable typed.parts m.types m.funcs m.start codes kept kept' (omega arith) (omega arith) typed.parts.types typed.parts.funcs (begins m.start typed.parts.start);
        trees = subst (TypedTrees (module_of (folded_part t.0, fns)) t.0.funcs) (sym e) (trees_fold m foldable typed.parts m.types m.funcs m.start codes kept kept' (omega arith) (omega arith) t.0.funcs t.1 typed.trees);
      }
    where
      begins : (s : Option ℕ) → TypedStart m s → TypedStart (module_of (folded_part t.0, fns)) s
      begins None h = tt
      begins (Some x) h = record { type = h.type; declared = h.declared; params = h.params; results = h.results }

  -- where code sets a global
  module _ (i : Instr) (code : List Instr) (is : setting_code m ≡ i ∷ code) where
    abbrev more_types : List FuncType
    more_types = m.types ++ nothing_to_nothing ∷ []

    abbrev more_funcs : List ℕ
    more_funcs = m.funcs ++ length m.types ∷ []

    abbrev fns : List TypedFn
    fns = t.1 ++ start_fns t.0 (i ∷ code)

    abbrev out : Module
    out = module_of (with_start (folded_part t.0), fns)

    funcs_are : func_indices out ≡ func_indices m ++ length m.types ∷ []
    funcs_are = sym (append_assoc (filter_map (λ j. func_import j.desc) m.imports) m.funcs (length m.types ∷ []))

    types_kept : Keeps m.types more_types
    types_kept = keeps_more m.types (nothing_to_nothing ∷ [])

    funcs_kept : Keeps (func_indices m) (func_indices out)
    funcs_kept x u e = ap (λ l. slice_get l x) funcs_are ∙ keeps_more (func_indices m) (length m.types ∷ []) x u e

    types_longer : length more_types ≡ length m.types + 1
    types_longer = one_longer m.types nothing_to_nothing

    funcs_longer : length (func_indices out) ≡ length (func_indices m) + 1
    funcs_longer = ap length funcs_are ∙ one_longer (func_indices m) (length m.types)

    less_types : length m.types ≤ length more_types
    less_types = let e : length more_types ≡ length m.types + 1 = types_longer in omega (arith, e)

    less_funcs : length (func_indices m) ≤ length (func_indices out)
    less_funcs = let e : length (func_indices out) ≡ length (func_indices m) + 1 = funcs_longer in omega (arith, e)

    -- the function that runs first
    new_declared : slice_get more_types (length m.types) ≡ Some nothing_to_nothing
    new_declared = at_end m.types nothing_to_nothing

    start_is : func_count m ≡ length (func_indices m)
    start_is = ap (λ n. n + length m.funcs) (sym (funcs_counted m.imports)) ∙ sym (length-append (filter_map (λ j. func_import j.desc) m.imports) m.funcs)

    begins : TypedStart out (Some (func_count m))
    begins = record {
      type = nothing_to_nothing;
      declared = ap (func_type (context out)) start_is ∙ ap (λ l. option_and_then (slice_get more_types) (slice_get l (length (func_indices m)))) funcs_are ∙ ap (option_and_then (slice_get more_types)) (at_end (func_indices m) (length m.types)) ∙ new_declared;
      params = refl;
      results = refl;
    }

    abbrev new_body : TypedFn
    new_body = record { locals = []; body = map (setting_node (global_types m)) (start_body m.start (i ∷ code)) }

    abbrev inside : Context
    inside = body_context out nothing_to_nothing (body_of new_body)

    abbrev codes : List Body
    codes = map body_of fns

    kept_globals : (x : ℕ) (g : GlobalType) → slice_get (all_globals m) x ≡ Some g → SettableAs g (slice_get (all_globals out) x)
    kept_globals = globals_kept m foldable typed.parts more_types more_funcs (Some (func_count m)) codes types_kept funcs_kept less_types less_funcs

    kept_refs : (x : ℕ) → is_marked (refs_of m) x ≡ true → is_marked (refs_of out) x ≡ true
    kept_refs = refs_kept m foldable typed.parts more_types more_funcs (Some (func_count m)) codes types_kept funcs_kept less_types less_funcs

    calls : (s : Option ℕ) → TypedStart m s → CallsNothing inside s
    calls None h = tt
    calls (Some f) h = (
      h.type,
      func_kept (context m) more_types (func_indices out) (all_globals out) (refs_of out) types_kept funcs_kept kept_globals kept_refs f h.type h.declared,
      h.params,
      h.results,
    )

    nodes : TypedNodes inside ([] ∷ []) new_body.body [] (Some [])
    nodes =
        subst (λ l. TypedNodes inside ([] ∷ []) (map (setting_node (global_types m)) (start_body m.start l)) [] (Some [])) is
        (setting_typed m (global_types m) inside ([] ∷ []) kept_globals type_told (known_globals m) (imported is_global m) imps imps m.globals m.start refl refl counted counted typed.parts.globals foldable.integers
        (calls m.start typed.parts.start))

    new_tree : TypedFuncTree out (length m.types) new_body
    new_tree = record { type = nothing_to_nothing; declared = new_declared; typed = record { locals = tt; end = Some []; nodes = nodes; ends = refl } }

    still_typed : (u : ℕ) → u < length m.types → u < length more_types
    still_typed u lt = let e : length more_types ≡ length m.types + 1 = types_longer in omega (arith, lt, e)

    new_typed : length m.types < length more_types
    new_typed = let e : length more_types ≡ length m.types + 1 = types_longer in omega (arith, e)

    started_tree : Agrees out → IsTypedTree (with_start (folded_part t.0), fns)
    started_tree agrees = record {
      no_bodies = typed.no_bodies;
      counts = agrees;
      parts = parts_fold m foldable typed.parts more_types more_funcs (Some (func_count m)) codes types_kept funcs_kept less_types less_funcs
          (all_append TypedFuncType m.types (nothing_to_nothing ∷ []) typed.parts.types (record { params = tt; results = tt }, tt))
          (all_append (λ u. u < length more_types) m.funcs (length m.types ∷ []) (all_map (λ u. u < length m.types) (λ u. u < length more_types) still_typed m.funcs typed.parts.funcs) (new_typed, tt))
          begins;
      trees = trees_append out t.0.funcs t.1 (length m.types) new_body
          (trees_fold m foldable typed.parts more_types more_funcs (Some (func_count m)) codes types_kept funcs_kept less_types less_funcs t.0.funcs t.1 typed.trees) new_tree;
    }

  -- the counts agree: the code names no data segment
  setting_names_none : some_in is_data_use (setting_code m) ≡ false
  setting_names_none =
      set_all is_data_use (record { narrow = λ n. refl; wide = λ n. refl; get = λ x. refl; set = λ x. refl; call = λ x. refl }) (known_globals m) (imported is_global m) m.globals
      (globals_unseen is_data_use (λ op k. refl) (λ x. refl) m imps m.globals typed.parts.globals)

  bodies_name_none : (code : List Instr) → some_in is_data_use code ≡ false → AllByRecursion (λ b. ¬ (IsTrue (names_data b.code))) (start_bodies m.start code)
  bodies_name_none [] e = tt
  bodies_name_none (i ∷ code) e = (
    unnamed (names_data (start_body m.start (i ∷ code)))
        (join_free is_data_use (record { narrow = λ n. refl; wide = λ n. refl; get = λ x. refl; set = λ x. refl; call = λ x. refl }) (i ∷ code) (call_start m.start) e
        (start_free is_data_use (record { narrow = λ n. refl; wide = λ n. refl; get = λ x. refl; set = λ x. refl; call = λ x. refl }) m.start)),
    tt,
  )

  segments_agree : (code : List Instr) (o : Option ℕ) → some_in is_data_use code ≡ false → MatchOption o (AllByRecursion (λ b. ¬ (IsTrue (names_data b.code))) m.codes) (λ n. n ≡ length m.datas)
      → MatchOption o (AllByRecursion (λ b. ¬ (IsTrue (names_data b.code))) (m.codes ++ start_bodies m.start code)) (λ n. n ≡ length (map (folded_data (known_globals m)) m.datas))
  segments_agree code None e h = all_append (λ b. ¬ (IsTrue (names_data b.code))) m.codes (start_bodies m.start code) h (bodies_name_none code e)
  segments_agree code (Some n) e h = h ∙ sym (length-map m.datas (folded_data (known_globals m)))

  all_agree : (code : List Instr) → some_in is_data_use code ≡ false → Agrees (started m code)
  all_agree [] e = record {
    bodies = typed.counts.bodies ∙ ap length (sym (append-nil m.codes));
    segments = segments_agree [] m.data_count e typed.counts.segments;
  }
  all_agree (i ∷ code) e = record {
    bodies = one_longer m.funcs (length m.types) ∙ ap (λ n. n + 1) typed.counts.bodies ∙ sym (one_longer m.codes (record { locals = []; code = start_body m.start (i ∷ code) }));
    segments = segments_agree (i ∷ code) m.data_count e typed.counts.segments;
  }

  by_code : (code : List Instr) → setting_code m ≡ code → Agrees (module_of (started_part code (folded_part t.0), t.1 ++ start_fns t.0 code)) → IsTypedTree (started_part code (folded_part t.0), t.1 ++ start_fns t.0 code)
  by_code [] is agrees = folded_tree (t.1 ++ []) (append-nil t.1) agrees
  by_code (i ∷ code) is agrees = started_tree i code is agrees

  -- The lemma.
  pub constants_tree : IsTypedTree (tree_without_constants t)
  constants_tree = by_code (setting_code m) refl (subst Agrees (sym (tree_stands t settable)) (all_agree (setting_code m) setting_names_none))
