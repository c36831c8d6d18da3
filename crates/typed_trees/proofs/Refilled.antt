-- The form of an instruction with other bodies: the same form with these bodies.
use Rattle.std.proofs.Common.{◌≡◌, ℕ, Bool, true, false, List, [], ◌∷◌, Option, Some, None, refl, ap, sym, ◌∙◌}
use Rattle.wasm_ast.specs.declared.module.ty.Ty.{Ty}
use Rattle.wasm_ast.specs.declared.module.ty.FuncType.{FuncType}
use Rattle.wasm_ast.specs.declared.module.op.Op.{Op}
use Rattle.wasm_ast.specs.declared.module.op.Op.TheVariants as ops
use Rattle.wasm_ast.specs.declared.module.code.Instr.{Instr}
use Rattle.wasm_ast.specs.declared.module.code.Instr.TheOpen.{Instr-F}
use Rattle.typing_kit.specs.Form.{Form, Untyped, Flat, Any, Select, Leaves, Table, Block, Choice}
use Rattle.typed_trees.specs.Contexts.{Context, block_type}
use Rattle.std.specs.List.{list_all}
use Rattle.typed_trees.specs.Forms.{InstrForm, clause_fits, try_form, where_some, where_true, layer_form, op_form, block_form, loop_form, if_form, select_form, ref_func_form, tail_form}
use Rattle.typed_trees.specs.Trees.{with_bodies}

-- a form with these bodies in place of its own
abbrev pub refill : InstrForm → List Instr → List Instr → InstrForm
refill (Block label a b code) first second = Block label a b first
refill (Choice label a b code other) first second = Choice label a b first second
refill f first second = f

-- a form without bodies
abbrev pub Bare : InstrForm → Type 0
Bare (Block label a b code) = ⊥
Bare (Choice label a b code other) = ⊥
Bare _ = Unit {0}

refill_bare : (f : InstrForm) (first second : List Instr) → Bare f → f ≡ refill f first second
refill_bare (Block label a b code) first second h = absurd h
refill_bare (Choice label a b code other) first second h = absurd h
refill_bare _ first second h = refl

bare_some : {X : Type 0} (o : Option X) (f : X → InstrForm) → ((x : X) → Bare (f x)) → Bare (where_some o f)
bare_some None f h = tt
bare_some (Some x) f h = h x

bare_true : (b : Bool) (f : InstrForm) → Bare f → Bare (where_true b f)
bare_true true f h = h
bare_true false f h = tt

refill_some : (o : Option FuncType) (f g : FuncType → InstrForm) (first second : List Instr) → ((t : FuncType) → g t ≡ refill (f t) first second) → where_some o g ≡ refill (where_some o f) first second
refill_some None f g first second h = refl
refill_some (Some t) f g first second h = h t

refill_true : (b : Bool) (f g : InstrForm) (first second : List Instr) → g ≡ refill f first second → where_true b g ≡ refill (where_true b f) first second
refill_true true f g first second h = h
refill_true false f g first second h = refl

bare_select : (ts : List Ty) → Bare (select_form ts)
bare_select [] = tt
bare_select (t ∷ []) = search bare_true
bare_select (t ∷ (s ∷ more)) = tt

bare_tail : (returns : Option (List Ty)) (t : FuncType) (takes : List Ty) → Bare (tail_form returns t takes)
bare_tail None t takes = tt
bare_tail (Some rs) t takes = search bare_true

bare_op : (c : Context) (op : Op) → Bare (op_form c op)
bare_op c (ops.RefNull t) = search bare_true
bare_op c (ops.RefFunc x) = search (bare_some, bare_true)
bare_op c (ops.Shuffle places) = search bare_true
bare_op c (ops.Extract op lane) = search bare_true
bare_op c (ops.Replace shape lane) = search bare_true
bare_op c _ = tt

ruleset bare_rules = (bare_some, bare_true, bare_select, bare_tail, bare_op)

pub refilled : (c : Context) (ls : List (List Ty)) (l : Instr-F Instr) (first second : List Instr) → layer_form c ls (with_bodies l first second) ≡ refill (layer_form c ls l) first second
refilled c ls (Instr-F.Block type code) first second =
    refill_some (block_type c type) (λ t. block_form t code) (λ t. block_form t first) first second (λ t. refl)
refilled c ls (Instr-F.Loop type code) first second =
    refill_some (block_type c type) (λ t. loop_form t code) (λ t. loop_form t first) first second (λ t. refl)
refilled c ls (Instr-F.If type code other) first second =
    refill_some (block_type c type) (λ t. if_form t code other) (λ t. if_form t first second) first second (λ t. refl)
refilled c ls (Instr-F.TryTable type clauses code) first second =
    refill_some (block_type c type) (λ t. try_form c ls clauses t code) (λ t. try_form c ls clauses t first) first second (λ t. refill_true (list_all (clause_fits c ls) clauses) (block_form t code) (block_form t first) first second refl)
refilled c ls l first second = refill_bare _ first second (search bare_rules)
