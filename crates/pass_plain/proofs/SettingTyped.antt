-- The code that sets globals, and then calls the start function, is typed.
use Rattle.std.proofs.Common.{◌≡◌, ℕ, zero, suc, ◌+◌, Bool, true, false, not, ◌||◌, List, [], ◌∷◌, ◌++◌, map, length, Option, Some, None, refl, sym, ap, ◌∙◌, subst}
use Rattle.std.specs.Prelude.{slice_get}
use Rattle.std.specs.List.{AllByRecursion, list_any}
use Rattle.std.proofs.lemmas.List.{append_assoc, map-append}
use Rattle.wasm_ast.specs.Fold.{known_at}
use Rattle.wasm_ast.specs.declared.folding.folded.Folded.{Folded}
use Rattle.wasm_ast.specs.declared.module.ty.Ty.{Ty}
use Rattle.wasm_ast.specs.declared.module.ty.Ty.TheVariants as types
use Rattle.wasm_ast.specs.declared.module.ty.FuncType.{FuncType}
use Rattle.wasm_ast.specs.declared.module.op.Op.{Op}
use Rattle.wasm_ast.specs.declared.module.op.Op.TheVariants as ops
use Rattle.wasm_ast.specs.declared.module.code.Instr.{Instr, out-Instr, out-roll-Instr}
use Rattle.wasm_ast.specs.declared.module.code.Instr.TheOpen.{Instr-F}
use Rattle.wasm_ast.specs.declared.module.code.Instr.TheVariants.{GlobalSet, Call}
use Rattle.wasm_ast.specs.declared.module.parts.Global.{Global}
use Rattle.wasm_ast.specs.declared.module.parts.Module.{Module}
use Rattle.wasm_ast.specs.Marking.{is_marked}
use Rattle.typing_kit.specs.Form.{Flat}
use Rattle.typing_kit.specs.Leaf.{FitsLeaf}
use Rattle.typed_trees.specs.declared.global_type.GlobalType.{GlobalType}
use Rattle.typed_trees.specs.Constants.{is_constant_op, is_constant_layer}
use Rattle.typed_trees.specs.Contexts.{Context, func_type, is_reference_type}
use Rattle.typed_trees.specs.Forms.{layer_form, form, op_form, language, where_some, where_true, set_form}
use Rattle.typed_trees.specs.Modules.{early_context, global_type, all_globals, TypedGlobals}
use Rattle.typed_trees.specs.Operands.{int_type}
use Rattle.typed_trees.specs.Trees.{leaves, leaves_layer, TypedNodes}
use Rattle.rewriting_kit.specs.Rewrites.{node_of}
use Rattle.rewriting_kit.specs.Lines.{Written, written, Line}
use Rattle.rewriting_kit.proofs.Lines.{line_typed}
use Rattle.rewriting_kit.proofs.Trees.{map_twice}
use Rattle.stage_kit.specs.Prepared.{call_start}
use Rattle.stage_kit.proofs.Unchanged.{call_rolled}
use Rattle.pass_plain.specs.Foldable.{is_integer}
use Rattle.pass_plain.specs.Folding.{folded_global, folded_globals, set_global, set_globals, start_body, type_at, setting_types, setting_node}
use Rattle.pass_plain.proofs.ConstantFlow.{flat_form, Flows, constant_flows}
use Rattle.pass_plain.proofs.ConstantTypes.{is_other, integer_alone, no_reference, no_function, GivesNone, none_given}
use Rattle.pass_plain.proofs.FoldedGlobals.{out_set, one_longer}
use Rattle.pass_plain.proofs.FoldedTyped.{keeps_more}
use Rattle.pass_plain.proofs.MoreContext.{SettableAs}

-- a start function that takes and gives nothing
abbrev pub CallsNothing : Context → Option ℕ → Type 0
CallsNothing c None = Unit {0}
CallsNothing c (Some f) = (t : FuncType) × (func_type c f ≡ Some t) × (t.params ≡ []) × (t.results ≡ [])

module _ (m : Module) (tys : List Ty) (into : Context) (ls : List (List Ty))
    (kept : (x : ℕ) (g : GlobalType) → slice_get (all_globals m) x ≡ Some g → SettableAs g (slice_get into.globals x))
    (told : (x : ℕ) (g : GlobalType) → slice_get (all_globals m) x ≡ Some g → type_at tys x ≡ g.ty ∷ []) where
  -- an instruction with the types that it has there
  abbrev put : Instr → Written
  put i = record { head = i; takes = (setting_types tys (out-Instr i)).0; gives = (setting_types tys (out-Instr i)).1 }

  record Puts (l : Instr-F Instr) (takes gives : List Ty) : Type 0 where
    takes_are : (setting_types tys l).0 ≡ takes
    gives_are : (setting_types tys l).1 ≡ gives
    form_is : layer_form into ls l ≡ flat_form takes gives
    stays : leaves_layer l ≡ false

  one_put : (i : Instr) (takes gives below end : List Ty) (line : List Written) → Puts (out-Instr i) takes gives → Line into ls line (below ++ gives) end → (s : List Ty) → s ≡ below ++ takes → Line into ls (put i ∷ line) s end
  one_put i takes gives below end line p rest s e =
      (below, e ∙ ap (λ l. below ++ l) (sym p.takes_are), subst (λ f. FitsLeaf (language into) f (put i).takes (put i).gives) (sym p.form_is) (p.takes_are, p.gives_are), p.stays, subst (λ l. Line into ls line (below ++ l) end) (sym p.gives_are) rest)

  module _ (before : List GlobalType) (within : (x : ℕ) (g : GlobalType) → slice_get before x ≡ Some g → slice_get (all_globals m) x ≡ Some g) where
    abbrev c : Context
    c = early_context m before

    op_puts : (op : Op) (takes gives : List Ty) → is_constant_op op ≡ true → op_form c op ≡ Flat takes gives → list_any is_other gives ≡ false → Puts (Instr-F.Pure op) takes gives
    op_puts (ops.I32Const n) takes gives k e h = record { takes_are = cc; gives_are = cc; form_is = e; stays = refl }
    op_puts (ops.I64Const n) takes gives k e h = record { takes_are = cc; gives_are = cc; form_is = e; stays = refl }
    op_puts (ops.Binary w op) takes gives k e h = record { takes_are = cc; gives_are = cc; form_is = e; stays = refl }
    op_puts (ops.V128Const v) takes gives k e h =
        let one : types.V128 ∷ [] ≡ gives = cc in
        let none : list_any is_other (types.V128 ∷ []) ≡ false = ap (list_any is_other) one ∙ h in
        let no : ⊥ = cc in
        absurd no
    op_puts (ops.RefNull t) takes gives k e h = absurd (no_reference t takes gives (is_reference_type t) refl e h)
    op_puts (ops.RefFunc x) takes gives k e h = absurd (no_function (slice_get c.funcs x) (is_marked c.refs x) takes gives e h)
    op_puts op takes gives k e h = let no : ⊥ = cc in absurd no

    get_puts : (x : ℕ) (o : Option GlobalType) (takes gives : List Ty) → slice_get before x ≡ o → where_some o (λ g. Flat [] (g.ty ∷ [])) ≡ Flat takes gives → Puts (Instr-F.GlobalGet x) takes gives
    get_puts x None takes gives i e = let no : ⊥ = cc in absurd no
    get_puts x (Some g) takes gives i e =
        let s = kept x g (within x g i) in
        let one : g.ty ∷ [] ≡ gives = cc in
        let form_here : layer_form into ls (Instr-F.GlobalGet x) ≡ flat_form [] (g.ty ∷ []) = ap (λ u. where_some u (λ w. Flat [] (w.ty ∷ []))) s.there ∙ ap (λ t. Flat [] (t ∷ [])) s.type in
        record { takes_are = cc; gives_are = told x g (within x g i) ∙ one; form_is = form_here ∙ e; stays = refl }

    puts : (l : Instr-F Instr) (takes gives : List Ty) → is_constant_layer c l ≡ true → layer_form c [] l ≡ Flat takes gives → list_any is_other gives ≡ false → Puts l takes gives
    puts (Instr-F.Pure op) takes gives k e h = op_puts op takes gives k e h
    puts (Instr-F.GlobalGet x) takes gives k e h = get_puts x (slice_get before x) takes gives refl e
    puts l takes gives k e h = let no : ⊥ = cc in absurd no

    -- an initial value, and what stands behind it
    value_line : (code : List Instr) (s t : List Ty) (line : List Written) (end : List Ty) → Flows c code s t → AllByRecursion (λ i. GivesNone c is_other (out-Instr i)) code → Line into ls line t end → Line into ls (map put code ++ line) s end
    value_line [] s t line end f h rest = subst (λ l. Line into ls line l end) (sym f) rest
    value_line (i ∷ code) s t line end f h rest =
        one_put i f.1 f.2 f.0 end (map put code ++ line) (puts (out-Instr i) f.1 f.2 f.5 f.4 (h.0 f.1 f.2 f.4)) (value_line code (f.0 ++ f.2) t line end f.6 h.1 rest) s f.3

  -- a global that is set
  set_puts : (x : ℕ) (t : Ty) (other : GlobalType) → slice_get into.globals x ≡ Some other → other.ty ≡ t → other.mutable ≡ true → type_at tys x ≡ t ∷ [] → Puts (out-Instr (GlobalSet x)) (t ∷ []) []
  set_puts x t other there type changes is =
      subst (λ l. Puts l (t ∷ []) []) (sym (out_set x))
      (record {
        takes_are = is;
        gives_are = refl;
        form_is = ap (λ o. where_some o set_form) there ∙ ap (λ b. where_true b (Flat (other.ty ∷ []) [])) changes ∙ ap (λ u. Flat (u ∷ []) []) type;
        stays = refl;
      })

  pub got_middle : (front rest : List GlobalType) (g : GlobalType) → slice_get (front ++ g ∷ rest) (length front) ≡ Some g
  got_middle [] rest g = refl
  got_middle (f ∷ front) rest g = got_middle front rest g

  global_line : (x : ℕ) (before : List GlobalType) (g : Global) (k : Option Folded) (line : List Written) (end : List Ty)
      → ((y : ℕ) (u : GlobalType) → slice_get before y ≡ Some u → slice_get (all_globals m) y ≡ Some u) → slice_get (all_globals m) x ≡ Some (global_type g) → slice_get into.globals x ≡ Some (global_type (folded_global g k))
      → TypedGlobals m before (g ∷ []) → is_integer g.ty ≡ true → Line into ls line [] end → Line into ls (map put (set_global x g.init k) ++ line) [] end
  global_line x before g (Some v) line end within here there typed integer rest = rest
  global_line x before g None line end within here there typed integer rest =
      let f = constant_flows (early_context m before) g.init g.ty typed.0.init in
      let given = none_given (early_context m before) is_other g.init [] (g.ty ∷ []) f (integer_alone g.ty integer) in
      let set = one_put (GlobalSet x) (g.ty ∷ []) [] [] end line (set_puts x g.ty (record { ty = g.ty; mutable = true }) there refl refl (told x (global_type g) here)) rest (g.ty ∷ []) refl in
      subst (λ l. Line into ls l [] end) (sym (ap (λ l. l ++ line) (map-append put g.init (GlobalSet x ∷ [])) ∙ append_assoc (map put g.init) (put (GlobalSet x) ∷ []) line))
      (value_line before within g.init [] (g.ty ∷ []) (put (GlobalSet x) ∷ line) end f given.1 set)

  globals_line : (known : List (Option Folded)) (x : ℕ) (before front : List GlobalType) (gs : List Global) (line : List Written) (end : List Ty)
      → all_globals m ≡ before ++ map global_type gs → into.globals ≡ front ++ map global_type (folded_globals known x gs) → x ≡ length before → x ≡ length front
      → TypedGlobals m before gs → AllByRecursion (λ g. is_integer g.ty ≡ true) gs → Line into ls line [] end → Line into ls (map put (set_globals known x gs) ++ line) [] end
  globals_line known x before front [] line end e e' at at' typed integers rest = rest
  globals_line known x before front (g ∷ gs) line end e e' at at' typed integers rest =
      let k = known_at known x in
      let behind = set_globals known (x + 1) gs in
      let next = globals_line known (x + 1) (before ++ global_type g ∷ []) (front ++ global_type (folded_global g k) ∷ []) gs line end
      (e ∙ sym (append_assoc before (global_type g ∷ []) (map global_type gs)))
      (e' ∙ sym (append_assoc front (global_type (folded_global g k) ∷ []) (map global_type (folded_globals known (x + 1) gs))))
      (ap (λ n. n + 1) at ∙ sym (one_longer before (global_type g))) (ap (λ n. n + 1) at' ∙ sym (one_longer front (global_type (folded_global g k)))) typed.1 integers.1 rest in
      subst (λ l. Line into ls l [] end) (sym (ap (λ l. l ++ line) (map-append put (set_global x g.init k) behind) ∙ append_assoc (map put (set_global x g.init k)) (map put behind) line))
      (global_line x before g k (map put behind ++ line) end
      (λ y u i. subst (λ l. slice_get l y ≡ Some u) (sym e) (keeps_more before (map global_type (g ∷ gs)) y u i))
      (ap (λ l. slice_get l x) e ∙ ap (slice_get (before ++ map global_type (g ∷ gs))) at ∙ got_middle before (map global_type gs) (global_type g))
      (ap (λ l. slice_get l x) e' ∙ ap (slice_get (front ++ map global_type (folded_globals known x (g ∷ gs)))) at' ∙ got_middle front (map global_type (folded_globals known (x + 1) gs)) (global_type (folded_global g k)))
      (typed.0, tt) integers.0 next)

  -- the call
  out_call : (f : ℕ) → out-Instr (Call f) ≡ Instr-F.Call f
  out_call f = ap out-Instr (sym (call_rolled f)) ∙ out-roll-Instr (Instr-F.Call f)

  call_line : (start : Option ℕ) → CallsNothing into start → Line into ls (map put (call_start start)) [] []
  call_line None h = refl
  call_line (Some f) h =
      one_put (Call f) [] [] [] [] []
      (subst (λ l. Puts l [] []) (sym (out_call f))
      (record {
        takes_are = refl;
        gives_are = refl;
        form_is = ap (λ o. where_some o (λ t. Flat t.params t.results)) h.1 ∙ ap (λ l. Flat l h.0.results) h.2 ∙ ap (λ l. Flat [] l) h.3;
        stays = refl;
      })) refl [] refl

  -- The lemma.
  pub setting_typed : (known : List (Option Folded)) (x : ℕ) (before front : List GlobalType) (gs : List Global) (start : Option ℕ)
      → all_globals m ≡ before ++ map global_type gs → into.globals ≡ front ++ map global_type (folded_globals known x gs) → x ≡ length before → x ≡ length front
      → TypedGlobals m before gs → AllByRecursion (λ g. is_integer g.ty ≡ true) gs → CallsNothing into start → TypedNodes into ls (map (setting_node tys) (start_body start (set_globals known x gs))) [] (Some [])
  setting_typed known x before front gs start e e' at at' typed integers calls =
      let code = start_body start (set_globals known x gs) in
      let line = globals_line known x before front gs (map put (call_start start)) [] e e' at at' typed integers (call_line start calls) in
      subst (λ l. TypedNodes into ls l [] (Some [])) (map_twice put (λ w. node_of w.head w.takes w.gives [] []) code)
      (line_typed into ls (map put code) [] [] (subst (λ l. Line into ls l [] []) (sym (map-append put (set_globals known x gs) (call_start start))) line))
