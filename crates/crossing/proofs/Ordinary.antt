-- Functions of a module of 1.0 are left by ordinary jumps alone.
use Rattle.std.proofs.Common.{ℕ, ◌-◌, Bool, true, false, nat_lt, List, [], ◌∷◌, length, Option, Some, None, option_map, refl, if◌then◌else◌}
use Rattle.std.specs.Prelude.{slice_get, option_and_then}
use Rattle.evaluation_kit.specs.declared.jump.Jump.TheVariants as jumps
use Rattle.evaluation_kit.specs.Configurations.{Plain}
use Rattle.evaluation_kit.specs.Control.{Own, Host}
use Rattle.evaluation_kit.specs.Languages.{func}
use Rattle.evaluation_kit.specs.Leaves as leaves
use Rattle.host_kit.specs.Offered1.{func_type1}
use Rattle.host_kit.specs.declared.script.Reply.{Reply}
use Rattle.core1_ast.specs.declared.module.ty.FuncType1.{FuncType1}
use Rattle.core1_ast.specs.declared.module.code.Body1.{Body1}
use Rattle.core1_ast.specs.declared.module.code.Instr1.TheOpen.{Instr1-F}
use Rattle.core1_ast.specs.declared.module.parts.Module1.{Module1}
use Rattle.meaning_core1.specs.declared.val1.Val1.{Val1}
use Rattle.meaning_core1.specs.Store.{State1, Store1, Effect, Growth1, effect_or_trap, by_store, grow_or_trap, by_growth}
use Rattle.meaning_core1.specs.Operators.{pure_op, is_true, dropped, selected}
use Rattle.meaning_core1.specs.Accesses.{get_global1, set_global1, load1, store1, size1, grow1}
use Rattle.meaning_core1.specs.Hosting.{answer1, call_host}
use Rattle.meaning_core1.specs.Language.{layer1, language1, function1, imported_count, callee_as}
use Rattle.crossing.proofs.Jumps.{EndsSo, Does, Acts, FormSo, CalleeSo, func_so}

operands_so : (q : Plain Val1 State1) (o : Option (List Val1)) → EndsSo (leaves.operands_or_trap q o)
operands_so q None = tt
operands_so q (Some o) = tt

on_operands_so : (f : List Val1 → Option (List Val1)) → Acts {S = State1} (leaves.on_operands f)
on_operands_so f = record { by = λ q. operands_so q (f q.operands) }

effect_so : (q : Plain Val1 State1) (r : Effect) → EndsSo (effect_or_trap q r)
effect_so q None = tt
effect_so q (Some r) = tt

by_store_so : (f : List Val1 → Store1 → Effect) → Acts (by_store f)
by_store_so f = record { by = λ q. effect_so q (f q.operands q.state.store) }

growth_so : (q : Plain Val1 State1) (g : Option Growth1) → EndsSo (grow_or_trap q g)
growth_so q None = tt
growth_so q (Some g) = tt

by_growth_so : (f : List Val1 → Store1 → Option Growth1) → Acts (by_growth f)
by_growth_so f = record { by = λ q. growth_so q (f q.operands q.state.store) }

branch_so : (b : Bool) (l : ℕ) (q : Plain Val1 State1) → EndsSo (leaves.jump_where b (jumps.Branch l) q)
branch_so true l q = tt
branch_so false l q = tt

module _ (m : Module1) where
  form_so : (X : Type 0) (l : Instr1-F X) → FormSo (layer1 m X l)
  form_so X (Instr1-F.Pure op) = on_operands_so (pure_op op)
  form_so X Instr1-F.Drop = on_operands_so dropped
  form_so X Instr1-F.Select = on_operands_so selected
  form_so X (Instr1-F.LocalGet x) = record { by = λ q. tt }
  form_so X (Instr1-F.LocalSet x) = record { by = λ q. tt }
  form_so X (Instr1-F.LocalTee x) = record { by = λ q. tt }
  form_so X (Instr1-F.GlobalGet x) = by_store_so (get_global1 x)
  form_so X (Instr1-F.GlobalSet x) = by_store_so (set_global1 x)
  form_so X (Instr1-F.Load op arg) = by_store_so (load1 op arg)
  form_so X (Instr1-F.Store op arg) = by_store_so (store1 op arg)
  form_so X Instr1-F.MemorySize = by_store_so size1
  form_so X Instr1-F.MemoryGrow = by_growth_so grow1
  form_so X Instr1-F.Nop = record { by = λ q. tt }
  form_so X Instr1-F.Unreachable = record { by = λ q. tt }
  form_so X (Instr1-F.Block t code) = tt
  form_so X (Instr1-F.Loop t code) = tt
  form_so X (Instr1-F.If t first second) = tt
  form_so X (Instr1-F.Br l) = record { by = λ q. tt }
  form_so X (Instr1-F.BrIf l) = record { by = λ q. branch_so (is_true q.operands) l (leaves.with_operands (leaves.below q.operands) q) }
  form_so X (Instr1-F.BrTable labels last) = record { by = λ q. tt }
  form_so X Instr1-F.Return = record { by = λ q. tt }
  form_so X (Instr1-F.Call x) = tt
  form_so X (Instr1-F.CallIndirect t) = tt
  form_so X (Instr1-F.Float code immediates) = record { by = λ q. tt }

  answer_so : (x : ℕ) (o : Option (List Reply)) (s : State1) → EndsSo (answer1 m x o s)
  answer_so x (Some (reply ∷ more)) s = tt
  answer_so x (Some []) s = tt
  answer_so x None s = tt

  own_so : (t : FuncType1) (o : Option Body1) → CalleeSo {V = Val1} {S = State1} (option_map (λ body. Own (function1 t body)) o)
  own_so t None = tt
  own_so t (Some b) = tt

  hosted_so : (x : ℕ) (t : FuncType1) (b : Bool) → CalleeSo (if b then Some (Host (length t.params) (call_host m x)) else option_map (λ body. Own (function1 t body)) (slice_get m.codes (x - imported_count m)))
  hosted_so x t true = record { by = λ q. answer_so x (slice_get q.state.replies x) _ }
  hosted_so x t false = own_so t (slice_get m.codes (x - imported_count m))

  typed_so : (x : ℕ) (o : Option FuncType1) → CalleeSo (option_and_then (callee_as m x) o)
  typed_so x None = tt
  typed_so x (Some t) = hosted_so x t (nat_lt x (imported_count m))

  pub functions_so : (x : ℕ) → Does (func (language1 m) x)
  functions_so = func_so (language1 m) (λ X l q. refl) form_so (λ x. typed_so x (func_type1 m x))
