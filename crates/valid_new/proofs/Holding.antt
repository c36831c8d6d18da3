-- The node of an instruction that holds code, where it is reached.
use Rattle.std.proofs.Common.{◌≡◌, Bool, true, false, List, [], ◌∷◌, map, Option, Some, None, refl, ap, sym, subst, ◌∙◌}
use Rattle.std.specs.List.{list_all}
use Rattle.wasm_ast.specs.declared.module.ty.Ty.{Ty}
use Rattle.wasm_ast.specs.declared.module.ty.FuncType.{FuncType}
use Rattle.wasm_ast.specs.declared.module.op.Op.{Op}
use Rattle.wasm_ast.specs.declared.module.op.Op.TheVariants as ops
use Rattle.wasm_ast.specs.declared.module.code.Instr.{Instr, out-Instr, roll-Instr}
use Rattle.wasm_ast.specs.declared.module.code.Instr.TheOpen.{Instr-F}
use Rattle.wasm_ast.specs.declared.module.code.Instr.TheFolds.{map-Instr, fold_out-Instr}
use Rattle.typing_kit.specs.Form as forms
use Rattle.typed_trees.specs.declared.node.Node.{Node}
use Rattle.typed_trees.specs.Contexts.{Context, block_type}
use Rattle.typed_trees.specs.Forms.{InstrForm, where_some, where_true, form, layer_form, op_form, select_form, tail_form, language, block_form, loop_form, if_form, try_form, clause_fits}
use Rattle.typed_trees.specs.Trees.{with_bodies, cut_bodies, cut, first_body, second_body, leaves_layer, reachable, reachable_code, erase, erased, head_of, first_of, second_of}
use Rattle.typed_trees.proofs.Erasing.{erase_out}
use Rattle.typed_trees.proofs.LeafTyped.{IsLeaving}
use Rattle.typed_trees.proofs.Leaving.{leaving_layer}
use Rattle.typed_trees.proofs.Refilled.{refill, refilled}

-- the form holds this code, where it holds any
abbrev pub Holds : List Instr → List Instr → InstrForm → Type 0
Holds first second (forms.Block label a b code) = (code ≡ first) × (second ≡ [])
Holds first second (forms.Choice label a b code other) = (code ≡ first) × (other ≡ second)
Holds first second _ = Unit {0}

module _ (first second : List Instr) where
  holds_some : {X : Type 0} (o : Option X) (f : X → InstrForm) → ((x : X) → Holds first second (f x)) → Holds first second (where_some o f)
  holds_some None f h = tt
  holds_some (Some x) f h = h x

  holds_true : (b : Bool) (f : InstrForm) → Holds first second f → Holds first second (where_true b f)
  holds_true true f h = h
  holds_true false f h = tt

  holds_select : (ts : List Ty) → Holds first second (select_form ts)
  holds_select [] = tt
  holds_select (t ∷ []) = search holds_true
  holds_select (t ∷ (s ∷ more)) = tt

  holds_tail : (returns : Option (List Ty)) (t : FuncType) (takes : List Ty) → Holds first second (tail_form returns t takes)
  holds_tail None t takes = tt
  holds_tail (Some rs) t takes = search holds_true

  holds_op : (c : Context) (op : Op) → Holds first second (op_form c op)
  holds_op c (ops.RefNull t) = search holds_true
  holds_op c (ops.RefFunc x) = search (holds_some, holds_true)
  holds_op c (ops.Shuffle places) = search holds_true
  holds_op c (ops.Extract op lane) = search holds_true
  holds_op c (ops.Replace shape lane) = search holds_true
  holds_op c _ = tt

  ruleset holds_rules = (holds_some, holds_true, holds_select, holds_tail, holds_op)

holds_layer : (c : Context) (ls : List (List Ty)) (l : Instr-F Instr) → Holds (first_body l) (second_body l) (layer_form c ls l)
holds_layer c ls (Instr-F.Block type code) = holds_some code [] (block_type c type) (λ t. block_form t code) (λ t. (refl, refl))
holds_layer c ls (Instr-F.Loop type code) = holds_some code [] (block_type c type) (λ t. loop_form t code) (λ t. (refl, refl))
holds_layer c ls (Instr-F.If type code other) = holds_some code other (block_type c type) (λ t. if_form t code other) (λ t. (refl, refl))
holds_layer c ls (Instr-F.TryTable type clauses code) =
    holds_some code [] (block_type c type) (λ t. try_form c ls clauses t code) (λ t. holds_true code [] (list_all (clause_fits c ls) clauses) (block_form t code) (refl, refl))
holds_layer c ls l = search holds_rules

-- bodies that are put in twice are the last ones
refilled_twice : (l : Instr-F Instr) (a b first second : List Instr) → with_bodies (with_bodies l a b) first second ≡ with_bodies l first second
refilled_twice (Instr-F.Block type code) a b first second = refl
refilled_twice (Instr-F.Loop type code) a b first second = refl
refilled_twice (Instr-F.If type code other) a b first second = refl
refilled_twice (Instr-F.TryTable type clauses code) a b first second = refl
refilled_twice l a b first second = refl

refilled_mapped : (l : Instr-F Instr) (f : Instr → Instr) (first second : List Instr) → with_bodies (map-Instr Instr Instr f l) first second ≡ with_bodies l first second
refilled_mapped (Instr-F.Block type code) f first second = refl
refilled_mapped (Instr-F.Loop type code) f first second = refl
refilled_mapped (Instr-F.If type code other) f first second = refl
refilled_mapped (Instr-F.TryTable type clauses code) f first second = refl
refilled_mapped l f first second = refl

first_mapped : (l : Instr-F Instr) (f : Instr → Instr) → first_body (map-Instr Instr Instr f l) ≡ map f (first_body l)
first_mapped (Instr-F.Block type code) f = refl
first_mapped (Instr-F.Loop type code) f = refl
first_mapped (Instr-F.If type code other) f = refl
first_mapped (Instr-F.TryTable type clauses code) f = refl
first_mapped l f = refl

second_mapped : (l : Instr-F Instr) (f : Instr → Instr) → second_body (map-Instr Instr Instr f l) ≡ map f (second_body l)
second_mapped (Instr-F.If type code other) f = refl
second_mapped l f = refl

pub leaves_refilled : (l : Instr-F Instr) (first second : List Instr) → leaves_layer (with_bodies l first second) ≡ leaves_layer l
leaves_refilled (Instr-F.Block type code) first second = refl
leaves_refilled (Instr-F.Loop type code) first second = refl
leaves_refilled (Instr-F.If type code other) first second = refl
leaves_refilled (Instr-F.TryTable type clauses code) first second = refl
leaves_refilled l first second = refl

-- one layer of what can be reached
pub reachable_out : (i : Instr) → reachable i ≡ roll-Instr (with_bodies (out-Instr i) (reachable_code (first_body (out-Instr i))) (reachable_code (second_body (out-Instr i))))
reachable_out i =
    fold_out-Instr Instr cut_bodies i
    ∙ ap roll-Instr (refilled_mapped (out-Instr i) reachable (cut (first_body (map-Instr Instr Instr reachable (out-Instr i)))) (cut (second_body (map-Instr Instr Instr reachable (out-Instr i)))))
    ∙ ap (λ x. roll-Instr (with_bodies (out-Instr i) (cut x) (cut (second_body (map-Instr Instr Instr reachable (out-Instr i)))))) (first_mapped (out-Instr i) reachable)
    ∙ ap (λ x. roll-Instr (with_bodies (out-Instr i) (reachable_code (first_body (out-Instr i))) (cut x))) (second_mapped (out-Instr i) reachable)

-- a node whose head is the instruction with empty bodies, and whose nodes stand for what can be reached in its bodies
module _ (i : Instr) (n : Node) (head : out-Instr (head_of n) ≡ with_bodies (out-Instr i) [] []) where
  pub tree_is : erased (first_of n) ≡ reachable_code (first_body (out-Instr i)) → erased (second_of n) ≡ reachable_code (second_body (out-Instr i)) → erase n ≡ reachable i
  tree_is a b =
      erase_out n
      ∙ ap (λ x. roll-Instr (with_bodies x (erased (first_of n)) (erased (second_of n)))) head
      ∙ ap roll-Instr (refilled_twice (out-Instr i) [] [] (erased (first_of n)) (erased (second_of n)))
      ∙ ap (λ x. roll-Instr (with_bodies (out-Instr i) x (erased (second_of n)))) a
      ∙ ap (λ x. roll-Instr (with_bodies (out-Instr i) (reachable_code (first_body (out-Instr i))) x)) b
      ∙ sym (reachable_out i)

  pub head_form : (c : Context) (ls : List (List Ty)) → form c ls (head_of n) ≡ refill (form c ls i) [] []
  head_form c ls = ap (layer_form c ls) head ∙ refilled c ls (out-Instr i) [] []

  pub head_leaves : (c : Context) (ls : List (List Ty)) → (IsLeaving (language c) (form c ls i) → ⊥) → leaves_layer (out-Instr (head_of n)) ≡ false
  head_leaves c ls h = ap leaves_layer head ∙ leaves_refilled (out-Instr i) [] [] ∙ go (leaves_layer (out-Instr i)) refl
    where
      go : (b : Bool) → leaves_layer (out-Instr i) ≡ b → leaves_layer (out-Instr i) ≡ false
      go true e = absurd (h (leaving_layer c ls (out-Instr i) e))
      go false e = e

  pub first_held : (c : Context) (ls : List (List Ty)) (label takes gives : List Ty) (code : List Instr) → form c ls i ≡ forms.Block label takes gives code → (code ≡ first_body (out-Instr i)) × (second_body (out-Instr i) ≡ [])
  first_held c ls label takes gives code e = subst (Holds (first_body (out-Instr i)) (second_body (out-Instr i))) e (holds_layer c ls (out-Instr i))

  pub both_held : (c : Context) (ls : List (List Ty)) (label takes gives : List Ty) (code other : List Instr) → form c ls i ≡ forms.Choice label takes gives code other → (code ≡ first_body (out-Instr i)) × (other ≡ second_body (out-Instr i))
  both_held c ls label takes gives code other e = subst (Holds (first_body (out-Instr i)) (second_body (out-Instr i))) e (holds_layer c ls (out-Instr i))
