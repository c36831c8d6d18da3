-- What typed code names is there: each index that it holds lies below the count of what the index names. So typed bodies and
-- constant expressions fit what a stage asks of code that names nothing else.
use Rattle.std.proofs.Common.{◌≡◌, ℕ, zero, suc, ◌<◌, Bool, true, false, List, [], ◌∷◌, length, map, Option, Some, None, if◌then◌else◌, option_and_then, slice_get, refl, sym, ap, ◌∙◌, subst, arith}
use Rattle.std.specs.Prelude.{nat_lt}
use Rattle.std.specs.List.{AllByRecursion}
use Rattle.std.proofs.lemmas.Bool.{lt-ltb}
use Rattle.wasm_ast.specs.declared.module.ty.Ty.{Ty}
use Rattle.wasm_ast.specs.declared.module.ty.Ty.TheVariants as types
use Rattle.wasm_ast.specs.declared.module.ty.BlockType.{BlockType}
use Rattle.wasm_ast.specs.declared.module.ty.BlockType.TheVariants as blocks
use Rattle.wasm_ast.specs.declared.module.ty.FuncType.{FuncType}
use Rattle.wasm_ast.specs.declared.module.op.Op.{Op}
use Rattle.wasm_ast.specs.declared.module.op.Op.TheVariants as ops
use Rattle.wasm_ast.specs.declared.module.code.Instr.{Instr, out-Instr}
use Rattle.wasm_ast.specs.declared.module.code.Instr.TheOpen.{Instr-F}
use Rattle.wasm_ast.specs.declared.module.code.Instr.TheFolds.{map-Instr, fold-roll-Instr}
use Rattle.wasm_ast.specs.declared.module.parts.Module.{Module}
use Rattle.wasm_ast.specs.Marking.{is_marked}
use Rattle.typing_kit.specs.declared.operand.Operand.{Operand}
use Rattle.typing_kit.specs.Form.{Untyped, Flat}
use Rattle.typing_kit.specs.Leaf.{FitsLeaf}
use Rattle.typing_kit.specs.Typing as typing
use Rattle.typing_kit.specs.Typing.{Typed, TypedCode}
use Rattle.typed_trees.specs.declared.node.Node.{Node}
use Rattle.typed_trees.specs.Constants.{TypedConstant}
use Rattle.typed_trees.specs.Contexts.{Context, block_type}
use Rattle.typed_trees.specs.Forms.{InstrForm, form, layer_form, op_form, language, where_some, where_true, holds_functions, set_form}
use Rattle.typed_trees.specs.Trees.{with_bodies, erase, erased, TypedNode, TypedNodes, plain, block, choice, none, more, last, head_of, first_of, second_of}
use Rattle.typed_trees.proofs.Erasing.{erase_out}
use Rattle.simulation_kit.specs.Fitting.{all_true, form_fits, fits_step, fits}
use Rattle.meaning_new.specs.Forms.{layer}
use Rattle.meaning_new.specs.Language as meaning
use Rattle.pass_law.specs.ThenLawful.{both, and_left, and_right}
use Rattle.stage_kit.specs.Adding.{Names, block_named, op_named, own_named, own_named_over, test_of, CodeNamed}
use Rattle.stage_kit.specs.Naming.{ConstantNamed}

-- all that a context has
abbrev pub names_in : Context → Names
names_in c = record {
  func = λ x. nat_lt x (length c.funcs);
  global = λ x. nat_lt x (length c.globals);
  type = λ x. nat_lt x (length c.types);
}

-- a form that some rule gives
abbrev Formed : InstrForm → Type 0
Formed Untyped = ⊥
Formed _ = Unit {0}

-- what is asked of an item that an index names holds only where there is one
below_end : {X : Type 0} (l : List X) (x : ℕ) (asked : Option X → InstrForm) → (Formed (asked None) → ⊥) → Formed (asked (slice_get l x)) → x < length l
below_end [] x asked empty h = absurd (empty h)
below_end (a ∷ l) zero asked empty h = omega arith
below_end (a ∷ l) (suc x) asked empty h = let less : x < length l = below_end l x asked empty h in omega arith

pub there : {X : Type 0} (l : List X) (x : ℕ) (asked : Option X → InstrForm) → (Formed (asked None) → ⊥) → Formed (asked (slice_get l x)) → nat_lt x (length l) ≡ true
there l x asked empty h = lt-ltb x (length l) (below_end l x asked empty h)

-- an item that is there by an equation
pub found : {X Y : Type 0} (l : List X) (x : ℕ) (g : X → Option Y) (y : Y) → option_and_then g (slice_get l x) ≡ Some y → x < length l
found l x g y e =
    below_end l x (λ o. where_some (option_and_then g o) (λ z. Flat [] [])) (λ n. n) (subst (λ o. Formed (where_some o (λ z. Flat [] []))) (sym e) tt)

pub got : {X : Type 0} (l : List X) (x : ℕ) (y : X) → slice_get l x ≡ Some y → x < length l
got l x y e = below_end l x (λ o. where_some o (λ z. Flat [] [])) (λ n. n) (subst (λ o. Formed (where_some o (λ z. Flat [] []))) (sym e) tt)

module _ (c : Context) (ls : List (List Ty)) where
  abbrev names : Names
  names = names_in c

  block_there : (t : BlockType) (f : FuncType → InstrForm) → Formed (where_some (block_type c t) f) → block_named names t ≡ true
  block_there blocks.Empty f h = refl
  block_there (blocks.One t) f h = refl
  block_there (blocks.Index x) f h = there c.types x (λ o. where_some o f) (λ n. n) h

  no_type : (b : Bool) (f : FuncType → InstrForm) → Formed (where_some (if b then None else None) f) → ⊥
  no_type true f h = h
  no_type false f h = h

  indirect_there : (b : Bool) (x : ℕ) (f : FuncType → InstrForm) → Formed (where_some (if b then slice_get c.types x else None) f) → names.type x ≡ true
  indirect_there b x f h = there c.types x (λ o. where_some (if b then o else None) f) (no_type b f) h

  op_there : (op : Op) → Formed (op_form c op) → op_named names op ≡ true
  op_there (ops.RefFunc x) h = there c.funcs x (λ o. where_some o (λ t. where_true (is_marked c.refs x) (Flat [] (types.Func ∷ [])))) (λ n. n) h
  op_there op h = refl

  called_there : (x : ℕ) (f : FuncType → InstrForm) → Formed (where_some (option_and_then (slice_get c.types) (slice_get c.funcs x)) f) → names.func x ≡ true
  called_there x f h = there c.funcs x (λ o. where_some (option_and_then (slice_get c.types) o) f) (λ n. n) h

  -- an instruction that some rule types
  pub own_there : (l : Instr-F Instr) → Formed (layer_form c ls l) → own_named names Instr l ≡ true
  own_there (Instr-F.Block t code) h = block_there t _ h
  own_there (Instr-F.Loop t code) h = block_there t _ h
  own_there (Instr-F.If t first second) h = block_there t _ h
  own_there (Instr-F.TryTable t clauses code) h = block_there t _ h
  own_there (Instr-F.CallIndirect t table) h = indirect_there (holds_functions (slice_get c.tables table)) t _ h
  own_there (Instr-F.ReturnCall f) h = called_there f _ h
  own_there (Instr-F.ReturnCallIndirect t table) h = indirect_there (holds_functions (slice_get c.tables table)) t _ h
  own_there (Instr-F.GlobalGet x) h = there c.globals x (λ o. where_some o (λ g. Flat [] (g.ty ∷ []))) (λ n. n) h
  own_there (Instr-F.GlobalSet x) h = there c.globals x (λ o. where_some o set_form) (λ n. n) h
  own_there (Instr-F.Pure op) h = op_there op h
  own_there l h = refl

-- constant expressions
module _ (c : Context) where
  typed_formed : (ls : List (List Ty)) (i : Instr) (takes gives : List (Operand Ty)) → Typed (language c) ls i takes gives → Formed (form c ls i)
  typed_formed ls i _ _ (typing.flat _ _ a b e) = subst Formed (sym e) tt
  typed_formed ls i _ _ (typing.any _ _ kind b t e h) = subst Formed (sym e) tt
  typed_formed ls i _ _ (typing.select _ _ t e h) = subst Formed (sym e) tt
  typed_formed ls i _ _ (typing.leaves _ _ a below after e) = subst Formed (sym e) tt
  typed_formed ls i _ _ (typing.table _ _ label others takes below after e h hs) = subst Formed (sym e) tt
  typed_formed ls i _ _ (typing.block _ _ label a b code e h) = subst Formed (sym e) tt
  typed_formed ls i _ _ (typing.choice _ _ label a b first second e h h') = subst Formed (sym e) tt

  expression_named : (ls : List (List Ty)) (code : List Instr) (stack after : List (Operand Ty)) → TypedCode (language c) ls code stack after → ConstantNamed (names_in c) code
  expression_named ls _ _ _ (typing.none _ stack after h) = tt
  expression_named ls _ _ _ (typing.more _ i code below operands takes gives after h match rest) =
      (own_there c ls (out-Instr i) (typed_formed ls i takes gives h), expression_named ls code _ _ rest)

  pub constant_named : (code : List Instr) (t : Ty) → TypedConstant c code t → ConstantNamed (names_in c) code
  constant_named code t h = expression_named [] code _ _ h.typed

-- bodies
module _ (m : Module) (c : Context) where
  abbrev known : Instr → Bool
  known = fits (meaning.language m) (names_in c).func (test_of (names_in c))

  abbrev step : Instr-F Bool → Bool
  step = fits_step (meaning.language m) (names_in c).func (test_of (names_in c))

  own_with : (l : Instr-F Instr) (a b : List Instr) → own_named (names_in c) Instr (with_bodies l a b) ≡ own_named (names_in c) Instr l
  own_with Instr-F.Nop a b = refl
  own_with l a b = refl

  form_there : (ls : List (List Ty)) (l : Instr-F Instr) (a b : List Instr) → Formed (layer_form c ls l) → all_true (map known a) ≡ true → all_true (map known b) ≡ true
      → form_fits (names_in c).func (layer m Bool (map-Instr Instr Bool known (with_bodies l a b))) ≡ true
  form_there ls (Instr-F.Block t code) a b h e e' = e
  form_there ls (Instr-F.Loop t code) a b h e e' = e
  form_there ls (Instr-F.If t first second) a b h e e' = both (all_true (map known a)) (all_true (map known b)) e e'
  form_there ls (Instr-F.TryTable t clauses code) a b h e e' = e
  form_there ls (Instr-F.Call f) a b h e e' = called_there c ls f _ h
  form_there ls l a b h e e' = refl

  node_by : (ls : List (List Ty)) (n : Node) → Formed (form c ls (head_of n)) → all_true (map known (erased (first_of n))) ≡ true → all_true (map known (erased (second_of n))) ≡ true → known (erase n) ≡ true
  node_by ls n h e e' =
      let l : Instr-F Instr = with_bodies (out-Instr (head_of n)) (erased (first_of n)) (erased (second_of n)) in
      ap known (erase_out n) ∙ fold-roll-Instr Bool step l
      ∙ both (own_named (names_in c) Bool (map-Instr Instr Bool known l)) (form_fits (names_in c).func (layer m Bool (map-Instr Instr Bool known l)))
      (own_named_over (names_in c) Instr Bool known l ∙ own_with (out-Instr (head_of n)) (erased (first_of n)) (erased (second_of n)) ∙ own_there c ls (out-Instr (head_of n)) h)
      (form_there ls (out-Instr (head_of n)) (erased (first_of n)) (erased (second_of n)) h e e')

  leaf_formed : (f : InstrForm) (takes gives : List Ty) → FitsLeaf (language c) f takes gives → Formed f
  leaf_formed Untyped takes gives h = h
  leaf_formed f takes gives h = tt

  no_code : (nodes : List Node) → nodes ≡ [] → all_true (map known (erased nodes)) ≡ true
  no_code nodes e = ap (λ ns. all_true (map known (erased ns))) e

  mutual
    node_known : (ls : List (List Ty)) (n : Node) → TypedNode c ls n → known (erase n) ≡ true
    node_known ls n (plain _ _ _ h e e') = node_by ls n (leaf_formed _ _ _ h) (no_code (first_of n) e) (no_code (second_of n) e')
    node_known ls n (block _ _ _ label end f inside ends e') = node_by ls n (subst Formed (sym f) tt) (code_known (label ∷ ls) (first_of n) _ end inside) (no_code (second_of n) e')
    node_known ls n (choice _ _ _ label takes end end' f t inside ends inside' ends') =
        node_by ls n (subst Formed (sym f) tt) (code_known (label ∷ ls) (first_of n) takes end inside) (code_known (label ∷ ls) (second_of n) takes end' inside')

    code_known : (ls : List (List Ty)) (nodes : List Node) (start : List Ty) (end : Option (List Ty)) → TypedNodes c ls nodes start end → all_true (map known (erased nodes)) ≡ true
    code_known ls _ _ _ (none _ _ stack) = refl
    code_known ls _ _ _ (more _ _ n rest below end typed stays code) = both (known (erase n)) (all_true (map known (erased rest))) (node_known ls n typed) (code_known ls rest _ end code)
    code_known ls _ _ _ (last _ _ n below typed left) = both (known (erase n)) true (node_known ls n typed) refl

  all_known : (code : List Instr) → all_true (map known code) ≡ true → AllByRecursion (CodeNamed m (names_in c)) code
  all_known [] h = tt
  all_known (i ∷ code) h = (and_left (known i) (all_true (map known code)) h, all_known code (and_right (known i) (all_true (map known code)) h))

  -- The lemma: typed code names what its context has.
  pub code_named : (ls : List (List Ty)) (nodes : List Node) (start : List Ty) (end : Option (List Ty)) → TypedNodes c ls nodes start end → AllByRecursion (CodeNamed m (names_in c)) (erased nodes)
  code_named ls nodes start end h = all_known (erased nodes) (code_known ls nodes start end h)
