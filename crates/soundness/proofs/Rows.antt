-- Each instruction does what the row of its type says, over typed operands.
use Rattle.std.proofs.Common.{◌≡◌, ℕ, Bool, true, false, if◌then◌else◌, List, [], ◌∷◌, ◌++◌, length, reverse, Option, Some, None, option_map, refl, sym, ap, ◌∙◌, subst}
use Rattle.std.specs.Prelude.{slice_get}
use Rattle.std.specs.List.{list_all}
use Rattle.std.proofs.lemmas.List.{reverse-append, length-reverse}
use Rattle.wasm_ast.specs.declared.module.ty.Ty.{Ty}
use Rattle.wasm_ast.specs.declared.module.ty.Ty.TheVariants as types
use Rattle.wasm_ast.specs.declared.module.ty.BlockType.{BlockType}
use Rattle.wasm_ast.specs.declared.module.ty.BlockType.TheVariants as blocks
use Rattle.wasm_ast.specs.declared.module.ty.FuncType.{FuncType}
use Rattle.wasm_ast.specs.declared.module.code.Instr.{Instr}
use Rattle.wasm_ast.specs.declared.module.immediates.Catch.{Catch}
use Rattle.wasm_ast.specs.declared.module.parts.Module.{Module}
use Rattle.typing_kit.specs.Form as form
use Rattle.typed_trees.specs.Contexts.{Context, func_type, block_type, one_result, is_value_type}
use Rattle.typed_trees.specs.Forms.{InstrForm, clause_fits, holds_functions, indirect_type, tail_form, select_form}
use Rattle.typed_trees.specs.Modules.{context}
use Rattle.outcome_kit.specs.Code.{run}
use Rattle.evaluation_kit.specs.Configurations.{Plain, PlainRes, Sem}
use Rattle.evaluation_kit.specs.Control
use Rattle.evaluation_kit.specs.Control.{leaf}
use Rattle.evaluation_kit.specs.Leaves as leaves
use Rattle.evaluation_kit.specs.Leaves.{on_operands}
use Rattle.meaning_new.specs.declared.val.Val.{Val}
use Rattle.meaning_new.specs.Store.{State}
use Rattle.meaning_new.specs.Exceptions.{handler}
use Rattle.meaning_new.specs.Forms.{param_count, result_count, type_of_block, holds, select, pick, tail_call, tail_call_by}
use Rattle.soundness.specs.States.{made, PlainTyped, ResultTyped}
use Rattle.soundness.specs.Laws.{inside}
use Rattle.soundness.proofs.Lists.{IfAny}
use Rattle.soundness.proofs.Judging.{CodeSafe, FuncsSafe, ActSafe, leaf_safe}
use Rattle.soundness.proofs.Blocks.{block_safe, loop_safe, choose_safe, guard_safe}
use Rattle.soundness.proofs.Calling.{call_safe, call_by_safe}
use Rattle.soundness.proofs.Forms.{Bodies, Owed, true_safe}
use Rattle.soundness.proofs.Operators.{select_safe}
use Rattle.soundness.proofs.JumpRows
use Rattle.soundness.proofs.JumpRows.{all_same}
use Rattle.soundness.proofs.Handlers.{handler_safe}
use Rattle.soundness.proofs.Picking.{pick_typed}

-- an operand on the top of others
pub on_the_top : (ts : List Ty) (t : Ty) (rest : List Ty) → reverse (ts ++ t ∷ []) ++ rest ≡ t ∷ (reverse ts ++ rest)
on_the_top ts t rest = ap (λ l. l ++ rest) (reverse-append ts (t ∷ []))

pub image_of : {A B : Type 0} (f : A → B) (o : Option A) (y : B) → option_map f o ≡ Some y → (x : A) × (o ≡ Some x) × (f x ≡ y)
image_of f None y h = let no : ⊥ = cc in absurd no
image_of f (Some x) y h = (x, refl, cc)

module _ (m : Module) (locals : List Ty) (returns : Option (List Ty)) where
  abbrev pub c : Context
  c = inside m locals returns

  -- "Block Types" are those of the meaning
  pub block_type_is : (type : BlockType) (t : FuncType) → block_type c type ≡ Some t → type_of_block m type ≡ Some t
  block_type_is blocks.Empty t h = h
  block_type_is (blocks.Index x) t h = h
  block_type_is (blocks.One s) t h = one (is_value_type s) h
    where
      one : (b : Bool) → one_result b s ≡ Some t → type_of_block m (blocks.One s) ≡ Some t
      one true h = h
      one false h = let no : ⊥ = cc in absurd no

  pub counts : (o : Option FuncType) (t : FuncType) → o ≡ Some t → param_count o ≡ length (reverse t.params)
  counts o t h = ap param_count h ∙ sym (length-reverse t.params)

  pub counts_results : (o : Option FuncType) (t : FuncType) → o ≡ Some t → result_count o ≡ length (reverse t.results)
  counts_results o t h = ap result_count h ∙ sym (length-reverse t.results)

  pub called_type : (table type : ℕ) (t : FuncType) → indirect_type c type table ≡ Some t → slice_get m.types type ≡ Some t
  called_type table type t h = at (holds_functions (slice_get c.tables table)) h
    where
      at : (b : Bool) → (if b then slice_get m.types type else None) ≡ Some t → slice_get m.types type ≡ Some t
      at true h = h
      at false h = let no : ⊥ = cc in absurd no

  module _ (N : ℕ) (ls : List (List Ty)) (funcs others : ℕ → Sem Val State) (safe : FuncsSafe m N funcs others) (inner : Bodies m N c ls) where
    abbrev pub Row : InstrForm → Sem Val State → Sem Val State → Type 0
    Row f a b = Owed m N c ls inner f a b

    abbrev pub Act : List Ty → Option (List Ty) → (Plain Val State → PlainRes Val State) → Type 0
    Act stack end act = ActSafe m c ls stack end act

    pub flat : (takes gives : List Ty) (act : Plain Val State → PlainRes Val State) → ((rest : List Ty) → Act (reverse takes ++ rest) (Some (reverse gives ++ rest)) act) → Row (form.Flat takes gives) (leaf act) (leaf act)
    flat takes gives act h = record { safe = λ rest. leaf_safe m N c ls (reverse takes ++ rest) (Some (reverse gives ++ rest)) act (h rest) }

    -- one that takes a condition above the others
    pub above : (ts gives : List Ty) (t : Ty) (act : Plain Val State → PlainRes Val State) → ((rest : List Ty) → Act (t ∷ (reverse ts ++ rest)) (Some (reverse gives ++ rest)) act) → Row (form.Flat (ts ++ t ∷ []) gives) (leaf act) (leaf act)
    above ts gives t act h = flat (ts ++ t ∷ []) gives act (λ rest. subst (λ l. Act l (Some (reverse gives ++ rest)) act) (sym (on_the_top ts t rest)) (h rest))

    pub gone : (takes : List Ty) (act : Plain Val State → PlainRes Val State) → ((rest : List Ty) → Act (reverse takes ++ rest) None act) → Row (form.Leaves takes) (leaf act) (leaf act)
    gone takes act h = record { safe = λ rest. leaf_safe m N c ls (reverse takes ++ rest) None act (h rest) }

    -- "Control Instructions"
    pub enclosed : (type : BlockType) (t : FuncType) (code : List Instr) → block_type c type ≡ Some t → Row (form.Block t.results t.params t.results code) (Control.block (param_count (type_of_block m type)) (result_count (type_of_block m type)) (run inner.first)) (Control.block (param_count (type_of_block m type)) (result_count (type_of_block m type)) (run inner.other_first))
    enclosed type t code is = record {
      safe = λ body rest.
          let there = block_type_is type t is in
          subst (λ p. CodeSafe m N c ls (reverse t.params ++ rest) (Some (reverse t.results ++ rest)) (Control.block p (result_count (type_of_block m type)) (run inner.first)) (Control.block p (result_count (type_of_block m type)) (run inner.other_first))) (sym (counts (type_of_block m type) t there))
          (subst (λ r. CodeSafe m N c ls (reverse t.params ++ rest) (Some (reverse t.results ++ rest)) (Control.block (length (reverse t.params)) r (run inner.first)) (Control.block (length (reverse t.params)) r (run inner.other_first))) (sym (counts_results (type_of_block m type) t there))
          (block_safe m c ls N (reverse t.params) (reverse t.results) rest t.results (run inner.first) (run inner.other_first) refl body));
    }

    pub repeated : (type : BlockType) (t : FuncType) (code : List Instr) → block_type c type ≡ Some t → Row (form.Block t.params t.params t.results code) (Control.loop (param_count (type_of_block m type)) (result_count (type_of_block m type)) (run inner.first)) (Control.loop (param_count (type_of_block m type)) (result_count (type_of_block m type)) (run inner.other_first))
    repeated type t code is = record {
      safe = λ body rest.
          let there = block_type_is type t is in
          subst (λ p. CodeSafe m N c ls (reverse t.params ++ rest) (Some (reverse t.results ++ rest)) (Control.loop p (result_count (type_of_block m type)) (run inner.first)) (Control.loop p (result_count (type_of_block m type)) (run inner.other_first))) (sym (counts (type_of_block m type) t there))
          (subst (λ r. CodeSafe m N c ls (reverse t.params ++ rest) (Some (reverse t.results ++ rest)) (Control.loop (length (reverse t.params)) r (run inner.first)) (Control.loop (length (reverse t.params)) r (run inner.other_first))) (sym (counts_results (type_of_block m type) t there))
          (loop_safe m c ls N (reverse t.params) (reverse t.results) rest t.params (run inner.first) (run inner.other_first) refl body));
    }

    pub guarded : (type : BlockType) (t : FuncType) (clauses : List Catch) (code : List Instr) → block_type c type ≡ Some t → list_all (clause_fits c ls) clauses ≡ true → Row (form.Block t.results t.params t.results code) (Control.guard (param_count (type_of_block m type)) (result_count (type_of_block m type)) (handler clauses) (run inner.first)) (Control.guard (param_count (type_of_block m type)) (result_count (type_of_block m type)) (handler clauses) (run inner.other_first))
    guarded type t clauses code is fits = record {
      safe = λ body rest.
          let there = block_type_is type t is in
          subst (λ p. CodeSafe m N c ls (reverse t.params ++ rest) (Some (reverse t.results ++ rest)) (Control.guard p (result_count (type_of_block m type)) (handler clauses) (run inner.first)) (Control.guard p (result_count (type_of_block m type)) (handler clauses) (run inner.other_first))) (sym (counts (type_of_block m type) t there))
          (subst (λ r. CodeSafe m N c ls (reverse t.params ++ rest) (Some (reverse t.results ++ rest)) (Control.guard (length (reverse t.params)) r (handler clauses) (run inner.first)) (Control.guard (length (reverse t.params)) r (handler clauses) (run inner.other_first))) (sym (counts_results (type_of_block m type) t there))
          (guard_safe m c ls N (reverse t.params) (reverse t.results) rest t.results (handler clauses) (run inner.first) (run inner.other_first) refl (handler_safe m c ls refl N (Some (reverse t.results ++ rest)) clauses fits) body));
    }

    pub chosen : (type : BlockType) (t : FuncType) (code other : List Instr) → block_type c type ≡ Some t → Row (form.Choice t.results t.params t.results code other) (Control.choose holds (param_count (type_of_block m type)) (result_count (type_of_block m type)) (run inner.first) (run inner.second)) (Control.choose holds (param_count (type_of_block m type)) (result_count (type_of_block m type)) (run inner.other_first) (run inner.other_second))
    chosen type t code other is = record {
      safe = λ first second rest.
          let there = block_type_is type t is in
          let gives = reverse t.results ++ rest in
          subst (λ l. CodeSafe m N c ls l (Some gives) (Control.choose holds (param_count (type_of_block m type)) (result_count (type_of_block m type)) (run inner.first) (run inner.second)) (Control.choose holds (param_count (type_of_block m type)) (result_count (type_of_block m type)) (run inner.other_first) (run inner.other_second))) (sym (on_the_top t.params types.I32 rest))
          (subst (λ p. CodeSafe m N c ls (types.I32 ∷ (reverse t.params ++ rest)) (Some gives) (Control.choose holds p (result_count (type_of_block m type)) (run inner.first) (run inner.second)) (Control.choose holds p (result_count (type_of_block m type)) (run inner.other_first) (run inner.other_second))) (sym (counts (type_of_block m type) t there))
          (subst (λ r. CodeSafe m N c ls (types.I32 ∷ (reverse t.params ++ rest)) (Some gives) (Control.choose holds (length (reverse t.params)) r (run inner.first) (run inner.second)) (Control.choose holds (length (reverse t.params)) r (run inner.other_first) (run inner.other_second))) (sym (counts_results (type_of_block m type) t there))
          (choose_safe m c ls N holds types.I32 (reverse t.params) (reverse t.results) rest t.results (run inner.first) (run inner.other_first) (run inner.second) (run inner.other_second) refl first second)));
    }

    pub called : (x : ℕ) (t : FuncType) → func_type c x ≡ Some t → Row (form.Flat t.params t.results) (Control.call (param_count (func_type c x)) (funcs x)) (Control.call (param_count (func_type c x)) (others x))
    called x t is = record {
      safe = λ rest.
          subst (λ p. CodeSafe m N c ls (reverse t.params ++ rest) (Some (reverse t.results ++ rest)) (Control.call p (funcs x)) (Control.call p (others x))) (sym (ap param_count is))
          (call_safe m c ls N funcs others safe x t is rest);
    }

    pub called_by : (type table : ℕ) (t : FuncType) → indirect_type c type table ≡ Some t → Row (form.Flat (t.params ++ types.I32 ∷ []) t.results) (Control.call_by (param_count (slice_get m.types type)) (pick m type table) funcs) (Control.call_by (param_count (slice_get m.types type)) (pick m type table) others)
    called_by type table t is = record {
      safe = λ rest.
          let there = called_type table type t is in
          subst (λ l. CodeSafe m N c ls l (Some (reverse t.results ++ rest)) (Control.call_by (param_count (slice_get m.types type)) (pick m type table) funcs) (Control.call_by (param_count (slice_get m.types type)) (pick m type table) others)) (sym (on_the_top t.params types.I32 rest))
          (subst (λ p. CodeSafe m N c ls (types.I32 ∷ (reverse t.params ++ rest)) (Some (reverse t.results ++ rest)) (Control.call_by p (pick m type table) funcs) (Control.call_by p (pick m type table) others)) (sym (ap param_count there))
          (call_by_safe m c ls N funcs others safe types.I32 t rest (pick m type table) (record { by = λ p h. pick_typed m type t there table p })));
    }

    pub tail_owed : (o : Option (List Ty)) (t : FuncType) (takes : List Ty) (a b : Sem Val State) → returns ≡ o → (returns ≡ Some t.results → Row (form.Leaves takes) a b) → Row (tail_form o t takes) a b
    tail_owed None t takes a b e h = record { safe = tt }
    tail_owed (Some rs) t takes a b e h = true_safe m N c ls inner (λ same. h (e ∙ ap (λ z. Some z) (sym (all_same t.results rs same))))

    pub tail_by : (type table : ℕ) (t : FuncType) (rest : List Ty) → slice_get m.types type ≡ Some t → returns ≡ Some t.results → Act (types.I32 ∷ (reverse t.params ++ rest)) None (tail_call_by m type table)
    tail_by type table t rest there same = record {
      by = λ p h. at (leaves.with_operands (leaves.below p.operands) p) (JumpRows.lower m c ls types.I32 (reverse t.params ++ rest) p h) (pick m type table p) (pick_typed m type t there table p);
    }
      where
        at : (p : Plain Val State) → PlainTyped m c (reverse t.params ++ rest) p → (o : Option ℕ) → IfAny (λ f. func_type (context m) f ≡ Some t) o → ResultTyped m c ls None (made p.state) (tail_call o p)
        at p h None i = (JumpRows.trap_safe m c ls (reverse t.params ++ rest) None).by p h
        at p h (Some f) i = JumpRows.tail_typed m c ls f t rest i same p h

    pub select_row : (ts : List Ty) → Row (select_form ts) (leaf (on_operands select)) (leaf (on_operands select))
    select_row [] = record { safe = tt }
    select_row (t ∷ []) = true_safe m N c ls inner {o = is_value_type t} {f = form.Flat (t ∷ (t ∷ (types.I32 ∷ []))) (t ∷ [])} (λ h. record { safe = select_safe m N c ls t })
    select_row (t ∷ (s ∷ more)) = record { safe = tt }
