-- Constant expressions, and the parts that hold them.
use Rattle.std.proofs.Common.{◌≡◌, ℕ, zero, suc, ◌+◌, ◌<◌, Bool, true, false, List, [], ◌∷◌, ◌++◌, append_assoc, add-one, map, take, length, Some, None, IfSome, slice_get, Result, Ok, Err, IfOk, ap, sym, subst, ◌∙◌, arith}
use Rattle.std.specs.List.{AllByRecursion, list_all}
use Rattle.wasm_ast.specs.declared.module.ty.Ty.{Ty}
use Rattle.wasm_ast.specs.declared.module.ty.Ty.TheVariants.{I32}
use Rattle.wasm_ast.specs.declared.module.ty.Limits.{Limits}
use Rattle.wasm_ast.specs.declared.module.code.Instr.{Instr}
use Rattle.wasm_ast.specs.declared.module.parts.Table.{Table}
use Rattle.wasm_ast.specs.declared.module.parts.Global.{Global}
use Rattle.wasm_ast.specs.declared.module.parts.Element.{Element}
use Rattle.wasm_ast.specs.declared.module.parts.Module.{Module}
use Rattle.typing_kit.specs.Matching.{known}
use Rattle.typing_kit.specs.Typing.{TypedCode}
use Rattle.typed_trees.specs.declared.global_type.GlobalType.{GlobalType}
use Rattle.typed_trees.specs.Constants.{is_constant, TypedConstant}
use Rattle.typed_trees.specs.Contexts.{Context, address_type, is_reference_type, is_value_type}
use Rattle.typed_trees.specs.Forms.{language}
use Rattle.typed_trees.specs.Matching.{matches}
use Rattle.typed_trees.specs.Modules.{context, early_context, global_import, global_type, imported_of, TypedAddress, TypedElement, TypedElementMode, TypedGlobal, TypedInitialiser, TypedTable, TypedTableType, TypedTarget}
use Rattle.valid_mod.specs.Parts.{Globals, globals_before, PartTyped}
use Rattle.valid_new.specs.Judged.{Decided}
use Rattle.valid_mod.proofs.Deciding.{decided_as, decided_no, decided_yes}

-- the fact that an answer decides, of which another one follows and from which it follows
pub decides_as : {E : Type 0} (r : Result Bool E) (P Q : Type 0) → (P → Q) → (Q → P) → IfOk r (λ yes. Decided yes P) → IfOk r (λ yes. Decided yes Q)
decides_as (Ok b) P Q f g d = decided_as b P Q f g d
decides_as (Err e) P Q f g d = tt

module _ (c : Context) (code : List Instr) (t : Ty) where
  pub not_constant : (r : Bool) → r ≡ list_all (is_constant c) code → r ≡ false → TypedConstant c code t → ⊥
  not_constant r e f h = let no : true ≡ false = sym h.constant ∙ sym e ∙ f in cc

  pub constant_decided : {E : Type 0} (b : Bool) (r : Result Bool E) → b ≡ list_all (is_constant c) code → b ≡ true → IfOk r (λ yes. Decided yes (TypedCode (language c) [] code [] (known (t ∷ [])))) → IfOk r (λ yes. Decided yes (TypedConstant c code t))
  constant_decided b r e f d = decides_as r _ _ (λ typed. record { constant = sym e ∙ f; typed = typed }) (λ h. h.typed) d

-- the same in a context that is another one
pub constant_in : {E : Type 0} (c d : Context) (code : List Instr) (t : Ty) (r : Result Bool E) → c ≡ d → IfOk r (λ yes. Decided yes (TypedConstant c code t)) → IfOk r (λ yes. Decided yes (TypedConstant d code t))
constant_in c d code t r e h = subst (λ x. IfOk r (λ yes. Decided yes (TypedConstant x code t))) e h

-- several expressions

pub all_constants : (P : List Instr → Type 0) (xs : List (List Instr)) → ((k : ℕ) → k < length xs → IfSome (slice_get xs k) P) → AllByRecursion P xs
all_constants P [] h = tt
all_constants P (x ∷ xs) h = (h 0 (omega arith), all_constants P xs (λ k l. h (suc k) (omega arith)))

pub constant_at : (P : List Instr → Type 0) (xs : List (List Instr)) (k : ℕ) (x : List Instr) → slice_get xs k ≡ Some x → AllByRecursion P xs → P x
constant_at P [] k x e h = let no : ⊥ = cc in absurd no
constant_at P (y ∷ xs) zero x e h = let same : y ≡ x = cc in subst P same h.0
constant_at P (y ∷ xs) (suc k) x e h = constant_at P xs k x e h.1

module _ (m : Module) {E : Type 0} where
  pub table_decided : (t : Table) (b : Bool) (r : Result Bool E) → Decided b (TypedTableType t.ty t.limits) → b ≡ true → IfOk r (λ yes. Decided yes (TypedInitialiser m t.ty t.init)) → IfOk r (λ yes. Decided yes (TypedTable m t))
  table_decided t b r d e h = decides_as r _ _ (λ i. record { type = decided_yes b _ d e; init = i }) (λ x. x.init) h

  pub global_decided : (s : Context) (before : List GlobalType) (g : Global) (b : Bool) (r : Result Bool E) → s ≡ early_context m before → b ≡ is_value_type g.ty → b ≡ true → IfOk r (λ yes. Decided yes (TypedConstant s g.init g.ty)) → IfOk r (λ yes. Decided yes (TypedGlobal m before g))
  global_decided s before g b r c e f h = decides_as r _ _ (λ i. record { type = sym e ∙ f; init = i }) (λ x. x.init) (constant_in s (early_context m before) g.init g.ty r c h)

  pub target_decided : (s : Context) (table : ℕ) (code : List Instr) (t wanted : Ty) (b : Bool) (r : Result Bool E) → s ≡ context m → slice_get s.tables table ≡ Some wanted → b ≡ matches t wanted → b ≡ true → IfOk r (λ yes. Decided yes (TypedConstant s code I32)) → IfOk r (λ yes. Decided yes (TypedTarget m table code t))
  target_decided s table code t wanted b r c d e f h = decides_as r _ _
      (λ i. record { type = wanted; declared = sym (ap (λ x. slice_get x.tables table) c) ∙ d; serves = sym e ∙ f; offset = i })
      (λ x. x.offset)
      (constant_in s (context m) code I32 r c h)

  pub address_decided : (s : Context) (memory : ℕ) (code : List Instr) (limits : Limits) (t : Ty) (r : Result Bool E) → s ≡ context m → slice_get s.memories memory ≡ Some limits → t ≡ address_type limits → IfOk r (λ yes. Decided yes (TypedConstant s code t)) → IfOk r (λ yes. Decided yes (TypedAddress m memory code))
  address_decided s memory code limits t r c d e h =
      let at = sym (ap (λ x. slice_get x.memories memory) c) ∙ d in
      decides_as r _ _
      (λ i. record { limits = limits; declared = at; offset = i })
      (λ x. (let same : x.limits ≡ limits = (let both : Some x.limits ≡ Some limits = sym x.declared ∙ at in cc) in subst (λ l. TypedConstant (context m) code (address_type l)) same x.offset))
      (subst (λ u. IfOk r (λ yes. Decided yes (TypedConstant (context m) code u))) e (constant_in s (context m) code t r c h))

  pub element_decided : (s : Context) (e : Element) (b y : Bool) (r : Result Bool E) → s ≡ context m → b ≡ is_reference_type e.ty → b ≡ true → Decided y (AllByRecursion (λ code. TypedConstant s code e.ty) e.items) → y ≡ true → IfOk r (λ yes. Decided yes (TypedElementMode m e.ty e.mode)) → IfOk r (λ yes. Decided yes (TypedElement m e))
  element_decided s e b y r c f g d z h = decides_as r _ _
      (λ i. record { type = sym f ∙ g; items = subst (λ x. AllByRecursion (λ code. TypedConstant x code e.ty) e.items) c (decided_yes y _ d z); mode = i })
      (λ x. x.mode) h

module _ (m : Module) where
  pub no_table : (s : Context) (table : ℕ) (code : List Instr) (t : Ty) → s ≡ context m → slice_get s.tables table ≡ None → TypedTarget m table code t → ⊥
  no_table s table code t c d x =
      let no : None ≡ Some x.type = sym d ∙ ap (λ y. slice_get y.tables table) c ∙ x.declared in
      cc

  pub no_match : (s : Context) (table : ℕ) (code : List Instr) (t wanted : Ty) (b : Bool) → s ≡ context m → slice_get s.tables table ≡ Some wanted → b ≡ matches t wanted → b ≡ false → TypedTarget m table code t → ⊥
  no_match s table code t wanted b c d e f x =
      let both : Some wanted ≡ Some x.type = sym d ∙ ap (λ y. slice_get y.tables table) c ∙ x.declared in
      let same : wanted ≡ x.type = cc in
      let no : true ≡ false = sym x.serves ∙ sym (ap (matches t) same) ∙ sym e ∙ f in
      cc

  pub no_memory : (s : Context) (memory : ℕ) (code : List Instr) → s ≡ context m → slice_get s.memories memory ≡ None → TypedAddress m memory code → ⊥
  no_memory s memory code c d x =
      let no : None ≡ Some x.limits = sym d ∙ ap (λ y. slice_get y.memories memory) c ∙ x.declared in
      cc

  pub no_items : (s : Context) (e : Element) (y : Bool) → s ≡ context m → Decided y (AllByRecursion (λ code. TypedConstant s code e.ty) e.items) → y ≡ false → TypedElement m e → ⊥
  no_items s e y c d z x = decided_no y _ d z (subst (λ v. AllByRecursion (λ code. TypedConstant v code e.ty) e.items) (sym c) x.items)

-- the globals before a place, and the one at it
take_one : (gs : List Global) (k : ℕ) (g : Global) → slice_get gs k ≡ Some g → map global_type (take (suc k) gs) ≡ map global_type (take k gs) ++ global_type g ∷ []
take_one [] k g e = let no : ⊥ = cc in absurd no
take_one (x ∷ gs) zero g e = let same : x ≡ g = cc in ap (λ y. global_type y ∷ []) same
take_one (x ∷ gs) (suc k) g e = ap (λ l. global_type x ∷ l) (take_one gs k g e)

one_more_global : (m : Module) (k : ℕ) (g : Global) → slice_get m.globals k ≡ Some g → globals_before m k ++ global_type g ∷ [] ≡ globals_before m (k + 1)
one_more_global m k g e =
    append_assoc (imported_of global_import m) (map global_type (take k m.globals)) (global_type g ∷ [])
    ∙ ap (λ l. imported_of global_import m ++ l) (sym (take_one m.globals k g e))
    ∙ ap (globals_before m) (sym (add-one k))

pub more_globals : (m : Module) (s t : Context) (k : ℕ) (g : Global) → slice_get m.globals k ≡ Some g → s ≡ early_context m (globals_before m k) → t ≡ record s { globals = s.globals ++ global_type g ∷ [] } → t ≡ early_context m (globals_before m (k + 1))
more_globals m s t k g e f h =
    h
    ∙ ap (λ (c : Context). let r : Context = record c { globals = c.globals ++ global_type g ∷ [] } in r) f
    ∙ ap (early_context m) (one_more_global m k g e)

pub global_at : (m : Module) (k : ℕ) (g : Global) → slice_get m.globals k ≡ Some g → TypedGlobal m (globals_before m k) g → PartTyped m Globals k
global_at m k g e h = subst (λ o. IfSome o (TypedGlobal m (globals_before m k))) (sym e) h
