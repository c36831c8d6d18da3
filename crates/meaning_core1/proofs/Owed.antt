-- The language of a module of 1.0 keeps to each law of runs: what each instruction is, and what each function index names.
use Rattle.std.proofs.Common.{◌≡◌, ℕ, ◌-◌, Bool, true, false, if◌then◌else◌, List, ◌⊎◌, inl, inr, Option, Some, None, refl, subst}
use Rattle.std.specs.Prelude.{slice_get, nat_lt, option_map, option_and_then, length}
use Rattle.host_kit.specs.Offered1.{func_type1}
use Rattle.core1_ast.specs.declared.module.ty.FuncType1.{FuncType1}
use Rattle.core1_ast.specs.declared.module.code.Body1.{Body1}
use Rattle.core1_ast.specs.declared.module.code.Instr1.{Instr1}
use Rattle.core1_ast.specs.declared.module.code.Instr1.TheOpen.{Instr1-F}
use Rattle.core1_ast.specs.declared.module.parts.Module1.{Module1}
use Rattle.evaluation_kit.specs.declared.jump.Jump.TheVariants as jumps
use Rattle.evaluation_kit.specs.Configurations.{Plain, PlainRes}
use Rattle.evaluation_kit.specs.Control.{Callee, Own, Host}
use Rattle.evaluation_kit.specs.Forms.{Form, Flat, Enclose, Repeat, Choose, Guard, Invoke, InvokeBy}
use Rattle.evaluation_kit.proofs.Whole.{Owes}
use Rattle.evaluation_kit.proofs.Growing.{growing, growing_owes, LeadsOn, FormLeads, CalleeLeads}
use Rattle.evaluation_kit.proofs.Invariants.{keeping, keeping_owes, Keeps, FormKeeps, CalleeKeeps}
use Rattle.evaluation_kit.proofs.Replaying.{replaying, replaying_owes, free_plain, ActReplays, FormReplays, CalleeReplays}
use Rattle.meaning_core1.specs.declared.val1.Val1.{Val1}
use Rattle.meaning_core1.specs.Store.{Store1, State1, Growth1, by_growth}
use Rattle.meaning_core1.specs.Operators.{top1, pure_op, is_true, dropped, selected}
use Rattle.meaning_core1.specs.Accesses.{get_global1, set_global1, load1, store1, size1, grow1}
use Rattle.meaning_core1.specs.Hosting.{call_host}
use Rattle.meaning_core1.specs.Language.{imported_count, function1, callee_as, callee1, layer1, language1}
use Rattle.meaning_core1.proofs.Even.{EvenAct, order, clean, answering, even_leads, even_clean, even_replays, even_operands, even_store, even_nothing, even_get, even_set, even_tee, even_jump, even_branch_if, even_branch_table, even_host, grow_leads, grow_clean, grow_replays}

-- an instruction that grows the memory
record Grows (act : Plain Val1 State1 → PlainRes Val1 State1) : Type 0 where
  growth : List Val1 → Store1 → Option Growth1
  is_growth : by_growth growth ≡ act

-- 1.0 has no handlers
abbrev FormIs : {X : Type 0} → Form Val1 State1 X → Type 0
FormIs (Flat act) = EvenAct act ⊎ Grows act
FormIs (Guard p r h body) = ⊥
FormIs (InvokeBy n pick) = (p : Plain Val1 State1) (g : List Bool) → pick (free_plain answering g p) ≡ pick p
FormIs _ = Unit {0}

forms_are : (m : Module1) (X : Type 0) (l : Instr1-F X) → FormIs (layer1 m X l)
forms_are m X (Instr1-F.Pure op) = inl (even_operands (pure_op op))
forms_are m X Instr1-F.Drop = inl (even_operands dropped)
forms_are m X Instr1-F.Select = inl (even_operands selected)
forms_are m X (Instr1-F.LocalGet x) = inl (even_get x)
forms_are m X (Instr1-F.LocalSet x) = inl (even_set x)
forms_are m X (Instr1-F.LocalTee x) = inl (even_tee x)
forms_are m X (Instr1-F.GlobalGet x) = inl (even_store (get_global1 x))
forms_are m X (Instr1-F.GlobalSet x) = inl (even_store (set_global1 x))
forms_are m X (Instr1-F.Load op arg) = inl (even_store (load1 op arg))
forms_are m X (Instr1-F.Store op arg) = inl (even_store (store1 op arg))
forms_are m X Instr1-F.MemorySize = inl (even_store size1)
forms_are m X Instr1-F.MemoryGrow = inr (record { growth = grow1; is_growth = refl })
forms_are m X Instr1-F.Nop = inl even_nothing
forms_are m X Instr1-F.Unreachable = inl (even_jump jumps.Trap)
forms_are m X (Instr1-F.Block t code) = tt
forms_are m X (Instr1-F.Loop t code) = tt
forms_are m X (Instr1-F.If t one other) = tt
forms_are m X (Instr1-F.Br l) = inl (even_jump (jumps.Branch l))
forms_are m X (Instr1-F.BrIf l) = inl (even_branch_if is_true l)
forms_are m X (Instr1-F.BrTable labels last) = inl (even_branch_table top1 labels last)
forms_are m X Instr1-F.Return = inl (even_jump jumps.Return)
forms_are m X (Instr1-F.Call x) = tt
forms_are m X (Instr1-F.CallIndirect t) = λ p g. refl
forms_are m X (Instr1-F.Float code immediates) = inl (even_jump jumps.Trap)

-- what an index names is even, if it is a function of the host's
abbrev CalleeIs : Option (Callee Instr1 Val1 State1) → Type 0
CalleeIs (Some (Host n act)) = EvenAct act
CalleeIs _ = Unit {0}

own_is : (t : FuncType1) (o : Option Body1) → CalleeIs (option_map (λ body. Own (function1 t body)) o)
own_is t None = tt
own_is t (Some body) = tt

typed_is : (m : Module1) (x : ℕ) (t : FuncType1) (b : Bool) → CalleeIs (if b then Some (Host (length t.params) (call_host m x)) else option_map (λ body. Own (function1 t body)) (slice_get m.codes (x - imported_count m)))
typed_is m x t true = even_host m x
typed_is m x t false = own_is t (slice_get m.codes (x - imported_count m))

index_is : (m : Module1) (x : ℕ) (o : Option FuncType1) → CalleeIs (option_and_then (callee_as m x) o)
index_is m x None = tt
index_is m x (Some t) = typed_is m x t (nat_lt x (imported_count m))

callees_are : (m : Module1) (x : ℕ) → CalleeIs (callee1 m x)
callees_are m x = index_is m x (func_type1 m x)

form_leads : {X : Type 0} (form : Form Val1 State1 X) → FormIs form → FormLeads order form
form_leads (Flat act) (inl e) = even_leads act e
form_leads (Flat act) (inr g) = subst (λ a. LeadsOn order a) g.is_growth (grow_leads g.growth)
form_leads (Guard p r h body) e = absurd e
form_leads (InvokeBy n pick) e = tt
form_leads (Enclose p r body) e = tt
form_leads (Repeat p r body) e = tt
form_leads (Choose test p r one other) e = tt
form_leads (Invoke n x) e = tt

callee_leads : (o : Option (Callee Instr1 Val1 State1)) → CalleeIs o → CalleeLeads order o
callee_leads None e = tt
callee_leads (Some (Own f)) e = tt
callee_leads (Some (Host n act)) e = even_leads act e

pub owes_growing : (m : Module1) → Owes (language1 m) (growing order)
owes_growing m = growing_owes order (language1 m) (λ X l. form_leads (layer1 m X l) (forms_are m X l)) (λ x. callee_leads (callee1 m x) (callees_are m x))

form_clean : {X : Type 0} (form : Form Val1 State1 X) → FormIs form → FormKeeps clean form
form_clean (Flat act) (inl e) = even_clean act e
form_clean (Flat act) (inr g) = subst (λ a. Keeps clean a) g.is_growth (grow_clean g.growth)
form_clean (Guard p r h body) e = absurd e
form_clean (InvokeBy n pick) e = tt
form_clean (Enclose p r body) e = tt
form_clean (Repeat p r body) e = tt
form_clean (Choose test p r one other) e = tt
form_clean (Invoke n x) e = tt

callee_clean : (o : Option (Callee Instr1 Val1 State1)) → CalleeIs o → CalleeKeeps clean o
callee_clean None e = tt
callee_clean (Some (Own f)) e = tt
callee_clean (Some (Host n act)) e = even_clean act e

pub owes_clean : (m : Module1) → Owes (language1 m) (keeping clean)
owes_clean m = keeping_owes clean (language1 m) (λ X l. form_clean (layer1 m X l) (forms_are m X l)) (λ x. callee_clean (callee1 m x) (callees_are m x))

form_replays : {X : Type 0} (form : Form Val1 State1 X) → FormIs form → FormReplays answering form
form_replays (Flat act) (inl e) = even_replays act e
form_replays (Flat act) (inr g) = subst (λ a. ActReplays answering a) g.is_growth (grow_replays g.growth)
form_replays (Guard p r h body) e = absurd e
form_replays (InvokeBy n pick) e = e
form_replays (Enclose p r body) e = tt
form_replays (Repeat p r body) e = tt
form_replays (Choose test p r one other) e = tt
form_replays (Invoke n x) e = tt

callee_replays : (o : Option (Callee Instr1 Val1 State1)) → CalleeIs o → CalleeReplays answering o
callee_replays None e = tt
callee_replays (Some (Own f)) e = tt
callee_replays (Some (Host n act)) e = even_replays act e

pub owes_replaying : (m : Module1) → Owes (language1 m) (replaying answering)
owes_replaying m = replaying_owes answering (language1 m) (λ X l. form_replays (layer1 m X l) (forms_are m X l)) (λ X l p g. refl) (λ x. callee_replays (callee1 m x) (callees_are m x))
