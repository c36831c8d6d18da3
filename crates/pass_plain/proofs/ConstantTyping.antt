-- Typed constant expressions: each leaves one value, reads globals before its own alone, and where it leaves a reference and
-- no global holds one, it reads no global.
use Rattle.std.proofs.Common.{◌≡◌, ℕ, zero, suc, ◌+◌, ◌<◌, ◌≤◌, Bool, true, false, ◌⊎◌, inl, inr, List, [], ◌∷◌, ◌++◌, map, length, Option, Some, None, refl, sym, ap, ◌∙◌, subst, arith}
use Rattle.std.specs.Prelude.{slice_get}
use Rattle.std.specs.List.{AllByRecursion, list_all}
use Rattle.std.proofs.lemmas.List.{length-append}
use Rattle.num_core.specs.declared.operators.Bin.{Bin}
use Rattle.num_core.specs.declared.operators.Bin.TheVariants.{Add, Sub, Mul}
use Rattle.num_core.specs.declared.operators.Width.{Width}
use Rattle.num_core.specs.declared.operators.Width.TheVariants.{W32, W64}
use Rattle.wasm_ast.specs.Marking.{is_marked}
use Rattle.wasm_ast.specs.declared.module.code.Instr.{Instr, out-Instr}
use Rattle.wasm_ast.specs.declared.module.code.Instr.TheOpen.{Instr-F}
use Rattle.wasm_ast.specs.declared.module.op.Op.TheVariants as ops
use Rattle.wasm_ast.specs.declared.module.ty.Ty.{Ty}
use Rattle.wasm_ast.specs.declared.module.ty.Ty.TheVariants as types
use Rattle.typing_kit.specs.declared.operand.Operand.{Operand}
use Rattle.typing_kit.specs.declared.operand.Operand.TheVariants.{Known, Bottom}
use Rattle.typing_kit.specs.Form.{Untyped, Flat, Any, Select, Leaves, Table, Block, Choice}
use Rattle.typing_kit.specs.Matching.{known, Matches, AllMatch}
use Rattle.typing_kit.specs.Typing as typing
use Rattle.typing_kit.specs.Typing.{Typed, TypedCode}
use Rattle.typed_trees.specs.declared.global_type.GlobalType.{GlobalType}
use Rattle.typed_trees.specs.Constants.{is_constant_binary, is_fixed, is_constant, is_constant_layer, TypedConstant}
use Rattle.typed_trees.specs.Contexts.{Context, is_reference_type}
use Rattle.typed_trees.specs.Forms.{InstrForm, form, layer_form, language, where_some, where_true}
use Rattle.typed_trees.specs.Matching.{matches}
use Rattle.typed_trees.specs.Operands.{int_type}
use Rattle.typed_trees.proofs.Lawfulness.{matches_equal}
use Rattle.evaluation_kit.specs.Leaves.{top, below}
use Rattle.meaning_new.specs.declared.val.Val.{Val}
use Rattle.meaning_new.specs.Store.{missing}
use Rattle.meaning_new.specs.Instances.{constant_step, constant_steps, constant}
use Rattle.pass_law.specs.ThenLawful.{and_left, and_right}
use Rattle.stage_kit.proofs.Lists.{IfAny, all_get}
use Rattle.pass_plain.specs.Constants.{Reads, IsSettable, LeavesOne, ReadsNone}

-- a form that some rule gives
abbrev IsRule : InstrForm → Type 0
IsRule Untyped = ⊥
IsRule _ = Unit {0}

abbrev pub SameForm : InstrForm → InstrForm → Type 0
SameForm x y = x ≡ y

by_true : (b : Bool) (f : InstrForm) → IsRule (where_true b f) → where_true b f ≡ f
by_true true f h = refl
by_true false f h = absurd h

by_func : (o : Option ℕ) (b : Bool) (f : InstrForm) → IsRule (where_some o (λ t. where_true b f)) → where_some o (λ t. where_true b f) ≡ f
by_func None b f h = absurd h
by_func (Some t) b f h = by_true b f h

by_global : (o : Option GlobalType) → IsRule (where_some o (λ g. Flat [] (g.ty ∷ []))) → (g : GlobalType) × (o ≡ Some g)
by_global None h = absurd h
by_global (Some g) h = (g, refl)

two_below : (l : List Val) (n : ℕ) → length l ≡ suc (suc n) → length (below (below l)) ≡ n
two_below [] n e = let no : ⊥ = omega (arith, e) in absurd no
two_below (a ∷ []) n e = let no : ⊥ = omega (arith, e) in absurd no
two_below (a ∷ (b ∷ l)) n e = omega (arith, e)

one_below : (l : List Val) → length l ≡ 1 → below l ≡ []
one_below [] e = refl
one_below (a ∷ []) e = refl
one_below (a ∷ (b ∷ l)) e = let no : ⊥ = omega (arith, e) in absurd no

no_items : {A : Type 0} (l : List A) → length l ≡ 0 → l ≡ []
no_items [] e = refl
no_items (a ∷ l) e = let no : ⊥ = omega (arith, e) in absurd no

module _ (c : Context) (ls : List (List Ty)) where
  -- an instruction that puts one value on the operands: it reads no global, or is the read of one
  pub record Pushes (l : Instr-F Instr) : Type 0 where
    pub type : Ty
    pub is_form : layer_form c ls l ≡ Flat [] (type ∷ [])
    pub counts : (globals operands : List Val) → length (constant_step globals l operands) ≡ suc (length operands)
    pub origin : ((globals others operands : List Val) → constant_step others l operands ≡ constant_step globals l operands) ⊎ ((x : ℕ) × (g : GlobalType) × (slice_get c.globals x ≡ Some g) × (type ≡ g.ty))

  -- and one that makes one integer of two
  pub record Combines (l : Instr-F Instr) : Type 0 where
    pub width : Width
    pub is_form : layer_form c ls l ≡ Flat (int_type width ∷ (int_type width ∷ [])) (int_type width ∷ [])
    pub counts : (globals operands : List Val) (n : ℕ) → length operands ≡ suc (suc n) → length (constant_step globals l operands) ≡ suc n

  binary_shape : (w : Width) (op : Bin) → is_constant_binary op ≡ true → Combines (Instr-F.Pure (ops.Binary w op))
  binary_shape w Add h = record { width = w; is_form = refl; counts = λ globals operands n e. ap suc (two_below operands n e) }
  binary_shape w Sub h = record { width = w; is_form = refl; counts = λ globals operands n e. ap suc (two_below operands n e) }
  binary_shape w Mul h = record { width = w; is_form = refl; counts = λ globals operands n e. ap suc (two_below operands n e) }
  binary_shape w op h = absurd cc

  -- a constant instruction that some rule types is one of them
  pub shape : (l : Instr-F Instr) → is_constant_layer c l ≡ true → IsRule (layer_form c ls l) → Pushes l ⊎ Combines l
  shape (Instr-F.Pure (ops.I32Const n)) h r = inl (record { type = types.I32; is_form = refl; counts = λ globals operands. refl; origin = inl (λ globals others operands. refl) })
  shape (Instr-F.Pure (ops.I64Const n)) h r = inl (record { type = types.I64; is_form = refl; counts = λ globals operands. refl; origin = inl (λ globals others operands. refl) })
  shape (Instr-F.Pure (ops.V128Const v)) h r = inl (record { type = types.V128; is_form = refl; counts = λ globals operands. refl; origin = inl (λ globals others operands. refl) })
  shape (Instr-F.Pure (ops.RefNull t)) h r = inl (record { type = t; is_form = by_true (is_reference_type t) (Flat [] (t ∷ [])) r; counts = λ globals operands. refl; origin = inl (λ globals others operands. refl) })
  shape (Instr-F.Pure (ops.RefFunc x)) h r = inl (record { type = types.Func; is_form = by_func (slice_get c.funcs x) (is_marked c.refs x) (Flat [] (types.Func ∷ [])) r; counts = λ globals operands. refl; origin = inl (λ globals others operands. refl) })
  shape (Instr-F.Pure (ops.Binary w op)) h r = inr (binary_shape w op h)
  shape (Instr-F.GlobalGet x) h r =
      let g = by_global (slice_get c.globals x) r in
      inl (record { type = g.0.ty; is_form = ap (λ (o : Option GlobalType). where_some o (λ t. Flat [] (t.ty ∷ []))) g.1; counts = λ globals operands. refl; origin = inr (x, g.0, g.1, refl) })
  shape (Instr-F.Pure op) h r = absurd cc
  shape l h r = absurd cc

module _ (c : Context) where
  pub typed_rule : (ls : List (List Ty)) (i : Instr) (takes gives : List (Operand Ty)) → Typed (language c) ls i takes gives → IsRule (form c ls i)
  typed_rule ls i _ _ (typing.flat _ _ a b e) = subst IsRule (sym e) tt
  typed_rule ls i _ _ (typing.any _ _ kind b t e h) = subst IsRule (sym e) tt
  typed_rule ls i _ _ (typing.select _ _ t e h) = subst IsRule (sym e) tt
  typed_rule ls i _ _ (typing.leaves _ _ a below after e) = subst IsRule (sym e) tt
  typed_rule ls i _ _ (typing.table _ _ label others takes below after e h hs) = subst IsRule (sym e) tt
  typed_rule ls i _ _ (typing.block _ _ label a b code e h) = subst IsRule (sym e) tt
  typed_rule ls i _ _ (typing.choice _ _ label a b first second e h h') = subst IsRule (sym e) tt

  -- what an instruction of a flat form takes and gives
  pub flat_typed : (ls : List (List Ty)) (i : Instr) (takes gives : List (Operand Ty)) → Typed (language c) ls i takes gives → (a b : List Ty) → form c ls i ≡ Flat a b → (takes ≡ known a) × (gives ≡ known b)
  flat_typed ls i _ _ (typing.flat _ _ a' b' e) a b f =
      let same : SameForm (Flat a' b') (Flat a b) = sym e ∙ f in
      let x : a' ≡ a = cc in
      let y : b' ≡ b = cc in
      (ap known x, ap known y)
  flat_typed ls i _ _ (typing.any _ _ kind b' t e h) a b f = let same : SameForm (Any kind b') (Flat a b) = sym e ∙ f in let no : ⊥ = cc in absurd no
  flat_typed ls i _ _ (typing.select _ _ t e h) a b f = let same : SameForm (Select) (Flat a b) = sym e ∙ f in let no : ⊥ = cc in absurd no
  flat_typed ls i _ _ (typing.leaves _ _ a' under after e) a b f = let same : SameForm (Leaves a') (Flat a b) = sym e ∙ f in let no : ⊥ = cc in absurd no
  flat_typed ls i _ _ (typing.table _ _ label others takes under after e h hs) a b f = let same : SameForm (Table label others) (Flat a b) = sym e ∙ f in let no : ⊥ = cc in absurd no
  flat_typed ls i _ _ (typing.block _ _ label a' b' code e h) a b f = let same : SameForm (Block label a' b' code) (Flat a b) = sym e ∙ f in let no : ⊥ = cc in absurd no
  flat_typed ls i _ _ (typing.choice _ _ label a' b' first second e h h') a b f = let same : SameForm (Choice label a' b' first second) (Flat a b) = sym e ∙ f in let no : ⊥ = cc in absurd no

  pub as_many : (a b : List (Operand Ty)) → AllMatch matches a b → length a ≡ length b
  as_many [] [] h = refl
  as_many [] (y ∷ b) h = absurd h
  as_many (x ∷ a) [] h = absurd h
  as_many (x ∷ a) (y ∷ b) h = ap suc (as_many a b h.1)

  -- what one instruction over operands does to their number, and to that of the values
  pub record Step (i : Instr) (operands gives : List (Operand Ty)) : Type 0 where
    pub given : length gives ≡ 1
    pub counts : (globals values : List Val) (n : ℕ) → length values ≡ n + length operands → length (constant_step globals (out-Instr i) values) ≡ n + 1

  pub step_of : (ls : List (List Ty)) (i : Instr) (operands takes gives : List (Operand Ty)) → Typed (language c) ls i takes gives → AllMatch matches operands takes → Pushes c ls (out-Instr i) ⊎ Combines c ls (out-Instr i) → Step i operands gives
  step_of ls i operands takes gives h match (inl p) =
      let f = flat_typed ls i takes gives h [] (p.type ∷ []) p.is_form in
      let none : length operands ≡ 0 = as_many operands takes match ∙ ap length f.0 in
      record {
        given = ap length f.1;
        counts = λ globals values n e. (let more : length (constant_step globals (out-Instr i) values) ≡ suc (length values) = p.counts globals values in omega (arith, e, none, more));
      }
  step_of ls i operands takes gives h match (inr q) =
      let f = flat_typed ls i takes gives h (int_type q.width ∷ (int_type q.width ∷ [])) (int_type q.width ∷ []) q.is_form in
      let two : length operands ≡ 2 = as_many operands takes match ∙ ap length f.0 in
      record {
        given = ap length f.1;
        counts = λ globals values n e. (let all : length values ≡ suc (suc n) = omega (arith, e, two) in let less : length (constant_step globals (out-Instr i) values) ≡ suc n = q.counts globals values n all in omega (arith, less));
      }

  -- code leaves as many values as its type has
  code_counts : (ls : List (List Ty)) (code : List Instr) (stack after : List (Operand Ty)) → TypedCode (language c) ls code stack after → list_all (is_constant c) code ≡ true → (globals values : List Val) → length values ≡ length stack → length (constant_steps globals code values) ≡ length after
  code_counts ls _ _ _ (typing.none _ stack after h) all globals values e = e ∙ as_many stack after h
  code_counts ls _ _ _ (typing.more _ i code below operands takes gives after h match rest) all globals values e =
      let s = step_of ls i operands takes gives h match (shape c ls (out-Instr i) (and_left (is_constant c i) (list_all (is_constant c) code) all) (typed_rule ls i takes gives h)) in
      code_counts ls code (below ++ gives) after rest (and_right (is_constant c i) (list_all (is_constant c) code) all) globals (constant_step globals (out-Instr i) values)
      (s.counts globals values (length below) (e ∙ length-append below operands) ∙ sym (length-append below gives ∙ ap (λ n. length below + n) s.given))

  pub leaves_one : (code : List Instr) (t : Ty) → TypedConstant c code t → LeavesOne code
  leaves_one code t h globals = one_below (constant_steps globals code []) (code_counts [] code [] (known (t ∷ [])) h.typed h.constant globals [] refl)

  -- it reads globals that are there
  fixed_there : (l : List GlobalType) (x : ℕ) → is_fixed (slice_get l x) ≡ true → x < length l
  fixed_there [] x e = let no : ⊥ = cc in absurd no
  fixed_there (g ∷ l) zero e = omega arith
  fixed_there (g ∷ l) (suc x) e = let less : x < length l = fixed_there l x e in omega arith

  layer_reads : (l : Instr-F Instr) → is_constant_layer c l ≡ true → Reads (length c.globals) l
  layer_reads (Instr-F.Pure op) h = h
  layer_reads (Instr-F.GlobalGet x) h = fixed_there c.globals x h
  layer_reads l h = absurd cc

  pub settable : (code : List Instr) → list_all (is_constant c) code ≡ true → IsSettable (length c.globals) code
  settable [] h = tt
  settable (i ∷ code) h = (layer_reads (out-Instr i) (and_left (is_constant c i) (list_all (is_constant c) code) h), settable code (and_right (is_constant c i) (list_all (is_constant c) code) h))

  -- One instruction that leaves one value: its form.
  ended : (ls : List (List Ty)) (code : List Instr) (stack after : List (Operand Ty)) → code ≡ [] → TypedCode (language c) ls code stack after → AllMatch matches stack after
  ended ls _ _ _ e (typing.none _ stack after h) = h
  ended ls _ _ _ e (typing.more _ i code below operands takes gives after h match rest) = let no : ⊥ = cc in absurd no

  pub last_matches : (below : List (Operand Ty)) (s t : Ty) → AllMatch matches (below ++ Known s ∷ []) (known (t ∷ [])) → s ≡ t
  last_matches [] s t h = matches_equal s t h.0
  last_matches (a ∷ []) s t h = absurd h.1
  last_matches (a ∷ (b ∷ below)) s t h = absurd h.1

  pub pushed_type : (ls : List (List Ty)) (i : Instr) (code : List Instr) (below operands takes gives : List (Operand Ty)) (t : Ty) → code ≡ [] → length (below ++ operands) ≡ 0 → Typed (language c) ls i takes gives → AllMatch matches operands takes → TypedCode (language c) ls code (below ++ gives) (known (t ∷ [])) → Pushes c ls (out-Instr i) ⊎ Combines c ls (out-Instr i) → (p : Pushes c ls (out-Instr i)) × (p.type ≡ t)
  pushed_type ls i code below operands takes gives t e none h match rest (inl p) =
      let f = flat_typed ls i takes gives h [] (p.type ∷ []) p.is_form in
      (p, last_matches below p.type t (subst (λ l. AllMatch matches (below ++ l) (known (t ∷ []))) f.1 (ended ls code (below ++ gives) (known (t ∷ [])) e rest)))
  pushed_type ls i code below operands takes gives t e none h match rest (inr q) =
      let f = flat_typed ls i takes gives h (int_type q.width ∷ (int_type q.width ∷ [])) (int_type q.width ∷ []) q.is_form in
      let two : length operands ≡ 2 = as_many operands takes match ∙ ap length f.0 in
      let sum = length-append below operands in
      let no : ⊥ = omega (arith, two, sum, none) in
      absurd no

  one_pushes : (ls : List (List Ty)) (i : Instr) (code : List Instr) (stack after : List (Operand Ty)) (t : Ty) → code ≡ i ∷ [] → length stack ≡ 0 → after ≡ known (t ∷ []) → is_constant c i ≡ true → TypedCode (language c) ls code stack after → (p : Pushes c ls (out-Instr i)) × (p.type ≡ t)
  one_pushes ls i _ _ _ t e none f k (typing.none _ stack after h) = let no : ⊥ = cc in absurd no
  one_pushes ls i _ _ _ t e none f k (typing.more _ j code below operands takes gives after h match rest) =
      let is : j ≡ i = cc in
      let end : code ≡ [] = cc in
      let there = subst (λ n. Typed (language c) ls n takes gives) is h in
      pushed_type ls i code below operands takes gives t end none there match (subst (λ l. TypedCode (language c) ls code (below ++ gives) l) f rest) (shape c ls (out-Instr i) k (typed_rule ls i takes gives there))

  pub one_form : (i : Instr) (t : Ty) → TypedConstant c (i ∷ []) t → layer_form c [] (out-Instr i) ≡ Flat [] (t ∷ [])
  one_form i t h =
      let p = one_pushes [] i (i ∷ []) [] (known (t ∷ [])) t refl refl refl (and_left (is_constant c i) true h.constant) h.typed in
      p.0.is_form ∙ ap (λ u. Flat [] (u ∷ [])) p.1
