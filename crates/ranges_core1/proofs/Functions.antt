-- Instructions and functions of a module whose constants are in range keep what runs keep.
use Rattle.std.proofs.Common.{◌≡◌, ℕ, ◌-◌, Bool, true, false, List, [], ◌∷◌, map, slice_get, Option, Some, None, length, sym, ap, ◌∙◌, subst, lit<}
use Rattle.std.specs.Prelude.{nat_lt, option_map, option_and_then, if◌then◌else◌}
use Rattle.std.specs.List.{AllByRecursion}
use Rattle.host_kit.specs.Offered1.{func_type1}
use Rattle.core1_ast.specs.declared.module.ty.Ty1.{Ty1}
use Rattle.core1_ast.specs.declared.module.ty.Ty1.TheVariants as types
use Rattle.core1_ast.specs.declared.module.ty.FuncType1.{FuncType1}
use Rattle.core1_ast.specs.declared.module.parts.Module1.{Module1}
use Rattle.core1_ast.specs.declared.module.code.Body1.{Body1}
use Rattle.core1_ast.specs.declared.module.code.Instr1.{Instr1, roll-Instr1}
use Rattle.core1_ast.specs.declared.module.code.Instr1.TheOpen.{Instr1-F}
use Rattle.core1_ast.specs.declared.module.code.Instr1.TheFolds.{map-Instr1, fold-Instr1, fold-roll-Instr1}
use Rattle.evaluation_kit.specs.declared.jump.Jump.TheVariants as jumps
use Rattle.evaluation_kit.specs.Configurations.{Sem}
use Rattle.evaluation_kit.specs.Control.{Callee, Own, Host}
use Rattle.evaluation_kit.specs.Languages.{exec_layer, exec_with, code_with}
use Rattle.meaning_core1.specs.declared.val1.Val1.{Val1}
use Rattle.meaning_core1.specs.Store.{State1, zero_of_type}
use Rattle.meaning_core1.specs.Operators.{pure_op, dropped, selected}
use Rattle.meaning_core1.specs.Accesses.{get_global1, set_global1, load1, store1, size1}
use Rattle.meaning_core1.specs.Hosting.{call_host}
use Rattle.meaning_core1.specs.Language.{layer1, function1, imported_count, callee_as, callee1, over_over, induct1, language1}
use Rattle.ranges_core1.specs.Ranges.{all_true, range_step, is_in_range, are_in_range, CodeInRange}
use Rattle.ranges_core1.proofs.Lists.{IfThere, all_get, both}
use Rattle.ranges_core1.proofs.Running.{SemKeeps, FormKeeps, CalleeKeeps, run_keeps, eval_keeps}
use Rattle.ranges_core1.proofs.Tasks.{FunctionKeeps}
use Rattle.ranges_core1.proofs.States.{ValueInRange, ValuesInRange, StateInRange}
use Rattle.ranges_core1.proofs.Operators.{pure_in, dropped_in, selected_in}
use Rattle.ranges_core1.proofs.Instructions.{on_operands_keeps, get_local_keeps, set_local_keeps, tee_local_keeps, nothing_keeps, jump_keeps, branch_if_keeps, branch_table_keeps, by_store_keeps, get_global_in, set_global_in, load_in, store_in, size_in, grow_keeps}
use Rattle.ranges_core1.proofs.Hosts.{call_host_keeps}

abbrev Sems : Type 0
Sems = Sem Val1 State1

abbrev Keeps : Sems → Type 0
Keeps a = SemKeeps ValueInRange StateInRange a

module _ (m : Module1) (funcs : ℕ → Sems) (fs : (f : ℕ) → Keeps (funcs f)) where
  -- an instruction, and one of which it is known that it keeps what runs keep
  abbrev does : Instr1 → Sems
  does i = exec_with (language1 m) funcs i

  abbrev DoesKeep : Instr1 → Type 0
  DoesKeep i = is_in_range i ≡ true → Keeps (does i)

  abbrev Known : Type 0
  Known = (i : Instr1) × DoesKeep i

  body_keeps : (code : List Known) → all_true (map (λ k. is_in_range k.0) code) ≡ true → AllByRecursion Keeps (map (λ k. does k.0) code)
  body_keeps [] h = tt
  body_keeps (k ∷ code) h =
      let parts = both (is_in_range k.0) (all_true (map (λ j. is_in_range j.0) code)) h in
      (k.1 parts.0, body_keeps code parts.1)

  layer_keeps : (l : Instr1-F Known) → range_step (map-Instr1 Known Bool (λ k. is_in_range k.0) l) ≡ true → FormKeeps ValueInRange StateInRange (layer1 m Sems (map-Instr1 Known Sems (λ k. does k.0) l))
  layer_keeps (Instr1-F.Pure op) h = on_operands_keeps (pure_op op) (λ o k. pure_in op o h k)
  layer_keeps Instr1-F.Drop h = on_operands_keeps dropped dropped_in
  layer_keeps Instr1-F.Select h = on_operands_keeps selected selected_in
  layer_keeps (Instr1-F.LocalGet x) h = get_local_keeps x
  layer_keeps (Instr1-F.LocalSet x) h = set_local_keeps x
  layer_keeps (Instr1-F.LocalTee x) h = tee_local_keeps x
  layer_keeps (Instr1-F.GlobalGet x) h = by_store_keeps (get_global1 x) (get_global_in x)
  layer_keeps (Instr1-F.GlobalSet x) h = by_store_keeps (set_global1 x) (set_global_in x)
  layer_keeps (Instr1-F.Load op arg) h = by_store_keeps (load1 op arg) (load_in op arg)
  layer_keeps (Instr1-F.Store op arg) h = by_store_keeps (store1 op arg) (store_in op arg)
  layer_keeps Instr1-F.MemorySize h = by_store_keeps size1 size_in
  layer_keeps Instr1-F.MemoryGrow h = grow_keeps
  layer_keeps Instr1-F.Nop h = nothing_keeps
  layer_keeps Instr1-F.Unreachable h = jump_keeps jumps.Trap
  layer_keeps (Instr1-F.Block t code) h = body_keeps code h
  layer_keeps (Instr1-F.Loop t code) h = body_keeps code h
  layer_keeps (Instr1-F.If t first second) h =
      let parts = both (all_true (map (λ k. is_in_range k.0) first)) (all_true (map (λ k. is_in_range k.0) second)) h in
      (body_keeps first parts.0, body_keeps second parts.1)
  layer_keeps (Instr1-F.Br l) h = jump_keeps (jumps.Branch l)
  layer_keeps (Instr1-F.BrIf l) h = branch_if_keeps l
  layer_keeps (Instr1-F.BrTable labels last) h = branch_table_keeps labels last
  layer_keeps Instr1-F.Return h = jump_keeps jumps.Return
  layer_keeps (Instr1-F.Call x) h = tt
  layer_keeps (Instr1-F.CallIndirect t) h = tt
  layer_keeps (Instr1-F.Float code immediates) h = jump_keeps jumps.Trap

  -- a fold of an instruction whose bodies are known
  folded : (A : Type 0) (step : Instr1-F A → A) (l : Instr1-F Known) → fold-Instr1 A step (roll-Instr1 (map-Instr1 Known Instr1 (λ k. k.0) l)) ≡ step (map-Instr1 Known A (λ k. fold-Instr1 A step k.0) l)
  folded A step l =
      fold-roll-Instr1 A step (map-Instr1 Known Instr1 (λ k. k.0) l) ∙ ap step (over_over Known Instr1 A (λ k. k.0) (fold-Instr1 A step) l)

  instr_keeps : (i : Instr1) → DoesKeep i
  instr_keeps = induct1 DoesKeep (λ l h.
      subst Keeps (sym (folded Sems (exec_layer (language1 m) funcs) l))
      (record {
        keeps = (eval_keeps ValueInRange StateInRange funcs fs (layer1 m Sems (map-Instr1 Known Sems (λ k. does k.0) l))
            (layer_keeps l (sym (folded Bool range_step l) ∙ h))).keeps;
      }))

  instrs_keep : (code : List Instr1) → CodeInRange code → AllByRecursion Keeps (map does code)
  instrs_keep [] h = tt
  instrs_keep (i ∷ code) h = let parts = both (is_in_range i) (are_in_range code) h in (instr_keeps i parts.0, instrs_keep code parts.1)

  pub code_keeps : (code : List Instr1) → CodeInRange code → Keeps (code_with (language1 m) funcs code)
  code_keeps code h = run_keeps ValueInRange StateInRange (map does code) (instrs_keep code h)

-- what locals begin with
zero_in : (t : Ty1) → ValueInRange (zero_of_type t)
zero_in types.I32 = lit< tt
zero_in types.I64 = lit< tt
zero_in types.F32 = lit< tt
zero_in types.F64 = lit< tt

zeros_in : (ts : List Ty1) → ValuesInRange (map zero_of_type ts)
zeros_in [] = tt
zeros_in (t ∷ ts) = (zero_in t, zeros_in ts)

module _ (m : Module1) (codes : AllByRecursion (λ b. CodeInRange b.code) m.codes) where
  abbrev pub CalleeIs : Option (Callee Instr1 Val1 State1) → Type 0
  CalleeIs o = CalleeKeeps ValueInRange StateInRange (FunctionKeeps (language1 m) ValueInRange StateInRange) o

  own_keeps : (t : FuncType1) (o : Option Body1) → IfThere (λ b. CodeInRange b.code) o → CalleeIs (option_map (λ body. Own (function1 t body)) o)
  own_keeps t None h = tt
  own_keeps t (Some body) h = record { zeros = zeros_in body.locals; body = λ funcs fs. code_keeps m funcs fs body.code h }

  typed_keeps : (x : ℕ) (t : FuncType1) (b : Bool) → CalleeIs (if b then Some (Host (length t.params) (call_host m x)) else option_map (λ body. Own (function1 t body)) (slice_get m.codes (x - imported_count m)))
  typed_keeps x t true = call_host_keeps m x
  typed_keeps x t false = own_keeps t (slice_get m.codes (x - imported_count m)) (all_get (λ b. CodeInRange b.code) m.codes (x - imported_count m) codes)

  index_keeps : (x : ℕ) (o : Option FuncType1) → CalleeIs (option_and_then (callee_as m x) o)
  index_keeps x None = tt
  index_keeps x (Some t) = typed_keeps x t (nat_lt x (imported_count m))

  pub callees_keep : (x : ℕ) → CalleeIs (callee1 m x)
  callees_keep x = index_keeps x (func_type1 m x)
