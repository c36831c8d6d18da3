-- An instruction behind which nothing is reached has a form that says so.
use Rattle.std.proofs.Common.{◌≡◌, Bool, true, false, List, [], ◌∷◌, Option, Some, None, subst}
use Rattle.wasm_ast.specs.declared.module.ty.Ty.{Ty}
use Rattle.wasm_ast.specs.declared.module.ty.FuncType.{FuncType}
use Rattle.wasm_ast.specs.declared.module.op.Op.{Op}
use Rattle.wasm_ast.specs.declared.module.op.Op.TheVariants as ops
use Rattle.wasm_ast.specs.declared.module.code.Instr.{Instr}
use Rattle.wasm_ast.specs.declared.module.code.Instr.TheOpen.{Instr-F}
use Rattle.typed_trees.specs.Contexts.{Context}
use Rattle.typed_trees.specs.Forms.{InstrForm, where_some, where_true, layer_form, tail_form, select_form, op_form, language}
use Rattle.typing_kit.specs.Form.{Leaves, Table}
use Rattle.typed_trees.specs.Trees.{leaves_layer}
use Rattle.typed_trees.proofs.LeafTyped.{IsLeaving}

abbrev is_true : Bool → Type 0
is_true true = Unit {0}
is_true false = ⊥

clash : false ≡ true → ⊥
clash h = subst (λ b. is_true (elim b as (λ x. Bool) [ true ↦ false | false ↦ true ])) h tt

module _ (c : Context) where
  leaving_some : {X : Type 0} (o : Option X) (f : X → InstrForm) → ((x : X) → IsLeaving (language c) (f x)) → IsLeaving (language c) (where_some o f)
  leaving_some None f h = tt
  leaving_some (Some x) f h = h x

  leaving_true : (b : Bool) (f : InstrForm) → IsLeaving (language c) f → IsLeaving (language c) (where_true b f)
  leaving_true true f h = h
  leaving_true false f h = tt

  leaving_tail : (returns : Option (List Ty)) (t : FuncType) (takes : List Ty) → IsLeaving (language c) (tail_form returns t takes)
  leaving_tail None t takes = tt
  leaving_tail (Some rs) t takes = search leaving_true

  ruleset leaving_rules = (leaving_some, leaving_true, leaving_tail)

  pub leaving_layer : (ls : List (List Ty)) (l : Instr-F Instr) → leaves_layer l ≡ true → IsLeaving (language c) (layer_form c ls l)
  leaving_layer ls Instr-F.Unreachable h = tt
  leaving_layer ls (Instr-F.Br x) h = search leaving_rules
  leaving_layer ls (Instr-F.BrTable xs last) h = search leaving_rules
  leaving_layer ls Instr-F.Return h = search leaving_rules
  leaving_layer ls (Instr-F.ReturnCall x) h = search leaving_rules
  leaving_layer ls (Instr-F.ReturnCallIndirect x table) h = search leaving_rules
  leaving_layer ls (Instr-F.Throw x) h = search leaving_rules
  leaving_layer ls Instr-F.ThrowRef h = tt
  leaving_layer ls _ h = absurd (clash h)

-- a form behind which something may be reached
abbrev pub IsStaying : InstrForm → Type 0
IsStaying (Leaves a) = ⊥
IsStaying (Table last others) = ⊥
IsStaying _ = Unit {0}

staying_some : {X : Type 0} (o : Option X) (f : X → InstrForm) → ((x : X) → IsStaying (f x)) → IsStaying (where_some o f)
staying_some None f h = tt
staying_some (Some x) f h = h x

staying_true : (b : Bool) (f : InstrForm) → IsStaying f → IsStaying (where_true b f)
staying_true true f h = h
staying_true false f h = tt

staying_select : (ts : List Ty) → IsStaying (select_form ts)
staying_select [] = tt
staying_select (t ∷ []) = search staying_true
staying_select (t ∷ (s ∷ more)) = tt

staying_op : (c : Context) (op : Op) → IsStaying (op_form c op)
staying_op c (ops.RefNull t) = search staying_true
staying_op c (ops.RefFunc x) = search (staying_some, staying_true)
staying_op c (ops.Shuffle places) = search staying_true
staying_op c (ops.Extract op lane) = search staying_true
staying_op c (ops.Replace shape lane) = search staying_true
staying_op c _ = tt

ruleset staying_rules = (staying_some, staying_true, staying_select, staying_op)

clash_of_true : true ≡ false → ⊥
clash_of_true h = subst is_true h tt

pub staying_layer : (c : Context) (ls : List (List Ty)) (l : Instr-F Instr) → leaves_layer l ≡ false → IsStaying (layer_form c ls l)
staying_layer c ls Instr-F.Unreachable h = absurd (clash_of_true h)
staying_layer c ls (Instr-F.Br x) h = absurd (clash_of_true h)
staying_layer c ls (Instr-F.BrTable xs last) h = absurd (clash_of_true h)
staying_layer c ls Instr-F.Return h = absurd (clash_of_true h)
staying_layer c ls (Instr-F.ReturnCall x) h = absurd (clash_of_true h)
staying_layer c ls (Instr-F.ReturnCallIndirect x table) h = absurd (clash_of_true h)
staying_layer c ls (Instr-F.Throw x) h = absurd (clash_of_true h)
staying_layer c ls Instr-F.ThrowRef h = absurd (clash_of_true h)
staying_layer c ls l h = search staying_rules
