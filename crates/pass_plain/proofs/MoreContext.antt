-- Code that is typed stays so in a context with more functions and types behind, where globals have the types that they
-- had, and what could be changed and be referred to still can.
use Rattle.std.proofs.Common.{◌≡◌, ℕ, Bool, true, false, ◌&&◌, if◌then◌else◌, List, [], ◌∷◌, ◌++◌, Option, Some, None, option_and_then, slice_get, refl, sym, ap, ◌∙◌, subst}
use Rattle.std.specs.List.{list_all}
use Rattle.wasm_ast.specs.Marking.{is_marked}
use Rattle.wasm_ast.specs.declared.module.ty.Ty.{Ty}
use Rattle.wasm_ast.specs.declared.module.ty.Ty.TheVariants as types
use Rattle.wasm_ast.specs.declared.module.ty.BlockType.{BlockType}
use Rattle.wasm_ast.specs.declared.module.ty.BlockType.TheVariants as blocks
use Rattle.wasm_ast.specs.declared.module.ty.FuncType.{FuncType}
use Rattle.wasm_ast.specs.declared.module.immediates.Catch.{Catch}
use Rattle.wasm_ast.specs.declared.module.immediates.Catch.TheVariants as catches
use Rattle.wasm_ast.specs.declared.module.op.Op.{Op}
use Rattle.wasm_ast.specs.declared.module.op.Op.TheVariants as ops
use Rattle.wasm_ast.specs.declared.module.code.Instr.{Instr, out-Instr}
use Rattle.wasm_ast.specs.declared.module.code.Instr.TheOpen.{Instr-F}
use Rattle.typing_kit.specs.declared.operand.Operand.{Operand}
use Rattle.typing_kit.specs.Form.{Untyped, Flat, Block, Choice}
use Rattle.typing_kit.specs.Leaf.{FitsLeaf}
use Rattle.typing_kit.specs.Matching.{known}
use Rattle.typing_kit.specs.Typing as typing
use Rattle.typing_kit.specs.Typing.{Typed, TypedCode}
use Rattle.typed_trees.specs.declared.global_type.GlobalType.{GlobalType}
use Rattle.typed_trees.specs.declared.node.Node.{Node}
use Rattle.typed_trees.specs.Contexts.{Context, func_type, block_type}
use Rattle.typed_trees.specs.Forms.{InstrForm, form, layer_form, op_form, language, where_some, where_true, holds_functions, set_form, clause_fits, payload_fits, block_form}
use Rattle.typed_trees.specs.Trees.{TypedNode, TypedNodes, plain, block, choice, none, more, last, head_of, takes_of, gives_of, first_of, second_of}
use Rattle.pass_law.specs.ThenLawful.{both, and_left, and_right}

-- what is there in one list is there in another
abbrev pub Keeps : {X : Type 0} → List X → List X → Type 0
Keeps {X} l l' = (i : ℕ) (x : X) → slice_get l i ≡ Some x → slice_get l' i ≡ Some x

-- a global of the same type that can be changed where the first can
pub record SettableAs (g : GlobalType) (o : Option GlobalType) : Type 0 where
  pub other : GlobalType
  pub there : o ≡ Some other
  pub type : other.ty ≡ g.ty
  pub changes : g.mutable ≡ true → other.mutable ≡ true

-- a form that some rule gives
abbrev Formed : InstrForm → Type 0
Formed Untyped = ⊥
Formed _ = Unit {0}

-- what is asked of an item that is there in both
some_kept : {X : Type 0} (o o' : Option X) (f f' : X → InstrForm) → ((x : X) → o ≡ Some x → o' ≡ Some x) → ((x : X) → Formed (f x) → f' x ≡ f x) → Formed (where_some o f) → where_some o' f' ≡ where_some o f
some_kept None o' f f' h k formed = absurd formed
some_kept (Some x) o' f f' h k formed = ap (λ i. where_some i f') (h x refl) ∙ k x formed

true_kept : (b b' : Bool) (f : InstrForm) → (b ≡ true → b' ≡ true) → Formed (where_true b f) → where_true b' f ≡ where_true b f
true_kept true b' f h formed = ap (λ i. where_true i f) (h refl)
true_kept false b' f h formed = absurd formed

then_kept : {X Y : Type 0} (g g' : X → Option Y) (o o' : Option X) → ((x : X) → o ≡ Some x → o' ≡ Some x) → ((x : X) (y : Y) → g x ≡ Some y → g' x ≡ Some y) → (y : Y) → option_and_then g o ≡ Some y → option_and_then g' o' ≡ Some y
then_kept g g' None o' h k y e = let no : ⊥ = cc in absurd no
then_kept g g' (Some x) o' h k y e = ap (option_and_then g') (h x refl) ∙ k x y e

module _ (c : Context) (new_types : List FuncType) (new_funcs : List ℕ) (new_globals : List GlobalType) (new_refs : List Bool)
    (types_kept : Keeps c.types new_types) (funcs_kept : Keeps c.funcs new_funcs)
    (globals_kept : (x : ℕ) (g : GlobalType) → slice_get c.globals x ≡ Some g → SettableAs g (slice_get new_globals x))
    (refs_kept : (x : ℕ) → is_marked c.refs x ≡ true → is_marked new_refs x ≡ true) where
  abbrev pub wide : Context
  wide = record c { types = new_types; funcs = new_funcs; globals = new_globals; refs = new_refs }

  block_kept : (t : BlockType) (u : FuncType) → block_type c t ≡ Some u → block_type wide t ≡ Some u
  block_kept blocks.Empty u e = e
  block_kept (blocks.One t) u e = e
  block_kept (blocks.Index x) u e = types_kept x u e

  pub func_kept : (x : ℕ) (u : FuncType) → func_type c x ≡ Some u → func_type wide x ≡ Some u
  func_kept x = then_kept (slice_get c.types) (slice_get new_types) (slice_get c.funcs x) (slice_get new_funcs x) (funcs_kept x) types_kept

  tag_kept : (x : ℕ) (u : FuncType) → option_and_then (slice_get c.types) (slice_get c.tags x) ≡ Some u → option_and_then (slice_get new_types) (slice_get c.tags x) ≡ Some u
  tag_kept x = then_kept (slice_get c.types) (slice_get new_types) (slice_get c.tags x) (slice_get c.tags x) (λ t e. e) types_kept

  payload_kept : (o o' : Option FuncType) (p : List Ty → Bool) → ((u : FuncType) → o ≡ Some u → o' ≡ Some u) → payload_fits o p ≡ true → payload_fits o' p ≡ true
  payload_kept None o' p h e = let no : ⊥ = cc in absurd no
  payload_kept (Some u) o' p h e = ap (λ i. payload_fits i p) (h u refl) ∙ e

  clause_kept : (ls : List (List Ty)) (k : Catch) → clause_fits c ls k ≡ true → clause_fits wide ls k ≡ true
  clause_kept ls (catches.Tag x l) h = payload_kept _ _ _ (tag_kept x) h
  clause_kept ls (catches.TagRef x l) h = payload_kept _ _ _ (tag_kept x) h
  clause_kept ls (catches.All l) h = h
  clause_kept ls (catches.AllRef l) h = h

  clauses_kept : (ls : List (List Ty)) (ks : List Catch) → list_all (clause_fits c ls) ks ≡ true → list_all (clause_fits wide ls) ks ≡ true
  clauses_kept ls [] h = refl
  clauses_kept ls (k ∷ ks) h =
      both (clause_fits wide ls k) (list_all (clause_fits wide ls) ks)
      (clause_kept ls k (and_left (clause_fits c ls k) (list_all (clause_fits c ls) ks) h)) (clauses_kept ls ks (and_right (clause_fits c ls k) (list_all (clause_fits c ls) ks) h))

  indirect_kept : (b : Bool) (x : ℕ) (u : FuncType) → (if b then slice_get c.types x else None) ≡ Some u → (if b then slice_get new_types x else None) ≡ Some u
  indirect_kept true x u e = types_kept x u e
  indirect_kept false x u e = e

  op_kept : (op : Op) → Formed (op_form c op) → op_form wide op ≡ op_form c op
  op_kept (ops.RefFunc x) h =
      some_kept (slice_get c.funcs x) (slice_get new_funcs x) (λ t. where_true (is_marked c.refs x) (Flat [] (types.Func ∷ []))) (λ t. where_true (is_marked new_refs x) (Flat [] (types.Func ∷ []))) (funcs_kept x)
      (λ t. true_kept (is_marked c.refs x) (is_marked new_refs x) (Flat [] (types.Func ∷ [])) (refs_kept x)) h
  op_kept op h = refl

  get_kept : (x : ℕ) (o : Option GlobalType) → slice_get c.globals x ≡ o → Formed (where_some o (λ g. Flat [] (g.ty ∷ []))) → where_some (slice_get new_globals x) (λ g. Flat [] (g.ty ∷ [])) ≡ where_some o (λ g. Flat [] (g.ty ∷ []))
  get_kept x None e h = absurd h
  get_kept x (Some g) e h =
      let s = globals_kept x g e in
      ap (λ i. where_some i (λ g. Flat [] (g.ty ∷ []))) s.there ∙ ap (λ t. Flat [] (t ∷ [])) s.type

  set_kept : (x : ℕ) (o : Option GlobalType) → slice_get c.globals x ≡ o → Formed (where_some o set_form) → where_some (slice_get new_globals x) set_form ≡ where_some o set_form
  set_kept x None e h = absurd h
  set_kept x (Some g) e h =
      let s = globals_kept x g e in
      ap (λ i. where_some i set_form) s.there ∙ ap (λ t. where_true s.other.mutable (Flat (t ∷ []) [])) s.type
      ∙ true_kept g.mutable s.other.mutable (Flat (g.ty ∷ []) []) s.changes h

  -- the form of an instruction that some rule types
  pub form_kept : (ls : List (List Ty)) (l : Instr-F Instr) → Formed (layer_form c ls l) → layer_form wide ls l ≡ layer_form c ls l
  form_kept ls (Instr-F.Block t code) h = some_kept (block_type c t) (block_type wide t) _ _ (block_kept t) (λ u k. refl) h
  form_kept ls (Instr-F.Loop t code) h = some_kept (block_type c t) (block_type wide t) _ _ (block_kept t) (λ u k. refl) h
  form_kept ls (Instr-F.If t first second) h = some_kept (block_type c t) (block_type wide t) _ _ (block_kept t) (λ u k. refl) h
  form_kept ls (Instr-F.TryTable t clauses code) h =
      some_kept (block_type c t) (block_type wide t) _ _ (block_kept t)
      (λ u. true_kept (list_all (clause_fits c ls) clauses) (list_all (clause_fits wide ls) clauses) (block_form u code) (clauses_kept ls clauses)) h
  form_kept ls (Instr-F.Call x) h = some_kept (func_type c x) (func_type wide x) _ _ (func_kept x) (λ u k. refl) h
  form_kept ls (Instr-F.CallIndirect x t) h = some_kept _ _ _ _ (indirect_kept (holds_functions (slice_get c.tables t)) x) (λ u k. refl) h
  form_kept ls (Instr-F.ReturnCall x) h = some_kept (func_type c x) (func_type wide x) _ _ (func_kept x) (λ u k. refl) h
  form_kept ls (Instr-F.ReturnCallIndirect x t) h = some_kept _ _ _ _ (indirect_kept (holds_functions (slice_get c.tables t)) x) (λ u k. refl) h
  form_kept ls (Instr-F.Throw x) h = some_kept _ _ _ _ (tag_kept x) (λ u k. refl) h
  form_kept ls (Instr-F.GlobalGet x) h = get_kept x (slice_get c.globals x) refl h
  form_kept ls (Instr-F.GlobalSet x) h = set_kept x (slice_get c.globals x) refl h
  form_kept ls (Instr-F.Pure op) h = op_kept op h
  form_kept ls l h = refl

  leaf_formed : (f : InstrForm) (takes gives : List Ty) → FitsLeaf (language c) f takes gives → Formed f
  leaf_formed Untyped takes gives h = h
  leaf_formed f takes gives h = tt

  leaf_kept : (f : InstrForm) (takes gives : List Ty) → FitsLeaf (language c) f takes gives → FitsLeaf (language wide) f takes gives
  leaf_kept Untyped takes gives h = h
  leaf_kept f takes gives h = h

  -- an instruction has the form that it had
  same_here : (ls : List (List Ty)) (i : Instr) (f : InstrForm) → form c ls i ≡ f → Formed f → form wide ls i ≡ f
  same_here ls i f e h = form_kept ls (out-Instr i) (subst Formed (sym e) h) ∙ e

  mutual
    node_kept : (ls : List (List Ty)) (n : Node) → TypedNode c ls n → TypedNode wide ls n
    node_kept ls n (plain _ _ _ h e e') =
        plain wide ls n
        (subst (λ f. FitsLeaf (language wide) f (takes_of n) (gives_of n)) (sym (form_kept ls (out-Instr (head_of n)) (leaf_formed (form c ls (head_of n)) (takes_of n) (gives_of n) h)))
        (leaf_kept (form c ls (head_of n)) (takes_of n) (gives_of n) h)) e e'
    node_kept ls n (block _ _ _ label end f inside ends e') =
        block wide ls n label end (same_here ls (head_of n) _ f tt) (nodes_kept (label ∷ ls) (first_of n) _ end inside) ends e'
    node_kept ls n (choice _ _ _ label takes end end' f t inside ends inside' ends') =
        choice wide ls n label takes end end' (same_here ls (head_of n) _ f tt) t (nodes_kept (label ∷ ls) (first_of n) takes end inside) ends
        (nodes_kept (label ∷ ls) (second_of n) takes end' inside') ends'

    -- The lemma, of nodes.
    pub nodes_kept : (ls : List (List Ty)) (nodes : List Node) (start : List Ty) (end : Option (List Ty)) → TypedNodes c ls nodes start end → TypedNodes wide ls nodes start end
    nodes_kept ls _ _ _ (none _ _ stack) = none wide ls stack
    nodes_kept ls _ _ _ (more _ _ n rest below end typed stays code) = more wide ls n rest below end (node_kept ls n typed) stays (nodes_kept ls rest _ end code)
    nodes_kept ls _ _ _ (last _ _ n below typed left) = last wide ls n below (node_kept ls n typed) left

  mutual
    instr_kept : (ls : List (List Ty)) (i : Instr) (takes gives : List (Operand Ty)) → Typed (language c) ls i takes gives → Typed (language wide) ls i takes gives
    instr_kept ls i _ _ (typing.flat _ _ a b e) = typing.flat ls i a b (same_here ls i _ e tt)
    instr_kept ls i _ _ (typing.any _ _ kind b t e h) = typing.any ls i kind b t (same_here ls i _ e tt) h
    instr_kept ls i _ _ (typing.select _ _ t e h) = typing.select ls i t (same_here ls i _ e tt) h
    instr_kept ls i _ _ (typing.leaves _ _ a below after e) = typing.leaves ls i a below after (same_here ls i _ e tt)
    instr_kept ls i _ _ (typing.table _ _ label others takes below after e h hs) = typing.table ls i label others takes below after (same_here ls i _ e tt) h hs
    instr_kept ls i _ _ (typing.block _ _ label a b code e h) = typing.block ls i label a b code (same_here ls i _ e tt) (code_kept (label ∷ ls) code (known a) (known b) h)
    instr_kept ls i _ _ (typing.choice _ _ label a b first second e h h') =
        typing.choice ls i label a b first second (same_here ls i _ e tt) (code_kept (label ∷ ls) first (known a) (known b) h) (code_kept (label ∷ ls) second (known a) (known b) h')

    -- The lemma, of code.
    pub code_kept : (ls : List (List Ty)) (code : List Instr) (before after : List (Operand Ty)) → TypedCode (language c) ls code before after → TypedCode (language wide) ls code before after
    code_kept ls _ _ _ (typing.none _ stack after h) = typing.none ls stack after h
    code_kept ls _ _ _ (typing.more _ i code below operands takes gives after h match rest) =
        typing.more ls i code below operands takes gives after (instr_kept ls i takes gives h) match (code_kept ls code (below ++ gives) after rest)
