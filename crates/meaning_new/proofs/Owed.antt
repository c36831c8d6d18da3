-- The language of a module keeps to each law of runs: what each instruction is, and what each function index names.
use Rattle.std.proofs.Common.{◌≡◌, ℕ, ◌-◌, Bool, true, false, if◌then◌else◌, List, ◌⊎◌, inl, inr, Option, Some, None, refl, subst}
use Rattle.std.specs.Prelude.{slice_get, nat_lt, option_map, option_and_then, length}
use Rattle.host_kit.specs.Offered.{func_type}
use Rattle.wasm_ast.specs.declared.module.immediates.Catch.{Catch}
use Rattle.wasm_ast.specs.declared.module.ty.FuncType.{FuncType}
use Rattle.wasm_ast.specs.declared.module.code.Body.{Body}
use Rattle.wasm_ast.specs.declared.module.code.Instr.{Instr}
use Rattle.wasm_ast.specs.declared.module.code.Instr.TheOpen.{Instr-F}
use Rattle.wasm_ast.specs.declared.module.parts.Module.{Module}
use Rattle.evaluation_kit.specs.declared.jump.Jump.TheVariants as jumps
use Rattle.evaluation_kit.specs.Configurations.{Plain, PlainRes}
use Rattle.evaluation_kit.specs.Control.{Callee, Own, Host}
use Rattle.evaluation_kit.specs.Forms.{Form, Flat, Enclose, Repeat, Choose, Guard, Invoke, InvokeBy}
use Rattle.evaluation_kit.proofs.Whole.{Owes}
use Rattle.evaluation_kit.proofs.Growing.{growing, growing_owes, LeadsOn, FormLeads, CaughtLeads, CalleeLeads}
use Rattle.evaluation_kit.proofs.Invariants.{After, keeping, keeping_owes, Keeps, FormKeeps, CaughtKeeps, CalleeKeeps}
use Rattle.evaluation_kit.proofs.Replaying.{replaying, replaying_owes, ActReplays, HandlerReplays, FormReplays, CalleeReplays}
use Rattle.evaluation_kit.proofs.Cutting.{cutting, cutting_owes, ActCuts, HandlerCuts, FormCuts, CalleeCuts}
use Rattle.meaning_new.specs.declared.val.Val.{Val}
use Rattle.meaning_new.specs.Store.{Store, State, Growth, on_growth}
use Rattle.meaning_new.specs.Numeric.{first, pure}
use Rattle.meaning_new.specs.Memories
use Rattle.meaning_new.specs.Tables
use Rattle.meaning_new.specs.Exceptions.{handler}
use Rattle.meaning_new.specs.Host.{host_call}
use Rattle.meaning_new.specs.Forms.{layer, callee, callee_of_type, function, imported_funcs, type_of_tag, param_count, holds, drop_operand, select}
use Rattle.meaning_new.specs.Language.{language}
use Rattle.meaning_new.proofs.Even.{EvenAct, redial_plain}
use Rattle.meaning_new.proofs.EvenLeaves.{even_operands, even_store, even_nothing, even_get, even_set, even_tee, even_jump, even_branch_if, even_branch_table, even_tail, even_throw, even_throw_ref, even_host}
use Rattle.meaning_new.proofs.Bounds.{order, roomy, clean, counted, answering, bounding, any_sizes, any_room, even_leads, even_roomy, even_clean, even_counted, even_replays, even_cuts}
use Rattle.meaning_new.proofs.Growths.{grow_leads, grow_roomy, grow_clean, grow_counted, grow_replays, grow_cuts}
use Rattle.meaning_new.proofs.Handlers.{handler_leads, handler_roomy, handler_clean, handler_counted, handler_replays, handler_cuts}

-- an instruction that grows a memory or a table
record Grows (act : Plain Val State → PlainRes Val State) : Type 0 where
  growth : List Val → Store → Option Growth
  is_growth : on_growth growth ≡ act

abbrev FormIs : {X : Type 0} → Form Val State X → Type 0
FormIs (Flat act) = EvenAct act ⊎ Grows act
FormIs (Guard p r h body) = (clauses : List Catch) × (handler clauses ≡ h)
FormIs (InvokeBy n pick) = (g : List Bool) (permits : List ℕ → Bool) (room : ℕ → Bool) (p : Plain Val State) → pick (redial_plain g permits room p) ≡ pick p
FormIs _ = Unit {0}

forms_are : (m : Module) (X : Type 0) (l : Instr-F X) → FormIs (layer m X l)
forms_are m X Instr-F.Nop = inl even_nothing
forms_are m X Instr-F.Unreachable = inl (even_jump jumps.Trap (λ e. cc))
forms_are m X Instr-F.Drop = inl (even_operands drop_operand)
forms_are m X Instr-F.Select = inl (even_operands select)
forms_are m X (Instr-F.SelectTyped ts) = inl (even_operands select)
forms_are m X (Instr-F.Block t code) = tt
forms_are m X (Instr-F.Loop t code) = tt
forms_are m X (Instr-F.If t one other) = tt
forms_are m X (Instr-F.Br l) = inl (even_jump (jumps.Branch l) (λ e. cc))
forms_are m X (Instr-F.BrIf l) = inl (even_branch_if holds l)
forms_are m X (Instr-F.BrTable labels last) = inl (even_branch_table first labels last)
forms_are m X Instr-F.Return = inl (even_jump jumps.Return (λ e. cc))
forms_are m X (Instr-F.Call x) = tt
forms_are m X (Instr-F.CallIndirect t table) = λ g permits room p. refl
forms_are m X (Instr-F.ReturnCall x) = inl (even_jump (jumps.TailCall x) (λ e. cc))
forms_are m X (Instr-F.ReturnCallIndirect t table) = inl (even_tail m t table)
forms_are m X (Instr-F.Throw x) = inl (even_throw x (param_count (type_of_tag m x)))
forms_are m X Instr-F.ThrowRef = inl even_throw_ref
forms_are m X (Instr-F.TryTable t clauses code) = (clauses, refl)
forms_are m X (Instr-F.LocalGet x) = inl (even_get x)
forms_are m X (Instr-F.LocalSet x) = inl (even_set x)
forms_are m X (Instr-F.LocalTee x) = inl (even_tee x)
forms_are m X (Instr-F.GlobalGet x) = inl (even_store (Tables.global_get x))
forms_are m X (Instr-F.GlobalSet x) = inl (even_store (Tables.global_set x))
forms_are m X (Instr-F.TableGet x) = inl (even_store (Tables.table_get x))
forms_are m X (Instr-F.TableSet x) = inl (even_store (Tables.table_set x))
forms_are m X (Instr-F.TableSize x) = inl (even_store (Tables.table_size x))
forms_are m X (Instr-F.TableGrow x) = inr (record { growth = Tables.table_grow x; is_growth = refl })
forms_are m X (Instr-F.TableFill x) = inl (even_store (Tables.table_fill x))
forms_are m X (Instr-F.TableCopy to from) = inl (even_store (Tables.table_copy to from))
forms_are m X (Instr-F.TableInit segment x) = inl (even_store (Tables.table_init segment x))
forms_are m X (Instr-F.ElemDrop segment) = inl (even_store (Tables.elem_drop segment))
forms_are m X (Instr-F.Load op arg) = inl (even_store (Memories.load_integer op arg))
forms_are m X (Instr-F.Store op arg) = inl (even_store (Memories.store_integer op arg))
forms_are m X (Instr-F.LoadVector op arg) = inl (even_store (Memories.load_vector op arg))
forms_are m X (Instr-F.StoreVector arg) = inl (even_store (Memories.store_vector arg))
forms_are m X (Instr-F.LoadLane shape arg lane) = inl (even_store (Memories.load_lane shape arg lane))
forms_are m X (Instr-F.StoreLane shape arg lane) = inl (even_store (Memories.store_lane shape arg lane))
forms_are m X (Instr-F.MemorySize x) = inl (even_store (Memories.memory_size x))
forms_are m X (Instr-F.MemoryGrow x) = inr (record { growth = Memories.memory_grow x; is_growth = refl })
forms_are m X (Instr-F.MemoryFill x) = inl (even_store (Memories.memory_fill x))
forms_are m X (Instr-F.MemoryCopy to from) = inl (even_store (Memories.memory_copy to from))
forms_are m X (Instr-F.MemoryInit segment x) = inl (even_store (Memories.memory_init segment x))
forms_are m X (Instr-F.DataDrop segment) = inl (even_store (Memories.data_drop segment))
forms_are m X (Instr-F.Pure op) = inl (even_operands (pure op))
forms_are m X (Instr-F.Float code immediates) = inl (even_jump jumps.Trap (λ e. cc))

-- what an index names is even, if it is a function of the host's
abbrev CalleeIs : Option (Callee Instr Val State) → Type 0
CalleeIs (Some (Host n act)) = EvenAct act
CalleeIs _ = Unit {0}

own_is : (t : FuncType) (o : Option Body) → CalleeIs (option_map (λ body. Own (function t body)) o)
own_is t None = tt
own_is t (Some body) = tt

typed_is : (m : Module) (x : ℕ) (t : FuncType) (b : Bool) → CalleeIs (if b then Some (Host (length t.params) (host_call m x)) else option_map (λ body. Own (function t body)) (slice_get m.codes (x - imported_funcs m)))
typed_is m x t true = even_host m x
typed_is m x t false = own_is t (slice_get m.codes (x - imported_funcs m))

index_is : (m : Module) (x : ℕ) (o : Option FuncType) → CalleeIs (option_and_then (callee_of_type m x) o)
index_is m x None = tt
index_is m x (Some t) = typed_is m x t (nat_lt x (imported_funcs m))

callees_are : (m : Module) (x : ℕ) → CalleeIs (callee m x)
callees_are m x = index_is m x (func_type m x)

form_leads : {X : Type 0} (form : Form Val State X) → FormIs form → FormLeads order form
form_leads (Flat act) (inl e) = even_leads act e
form_leads (Flat act) (inr g) = subst (λ a. LeadsOn order a) g.is_growth (grow_leads g.growth)
form_leads (Guard p r h body) e = subst (λ k. (x : ℕ) (s : State) → CaughtLeads order s (k x s)) e.1 (handler_leads e.0)
form_leads (InvokeBy n pick) e = tt
form_leads (Enclose p r body) e = tt
form_leads (Repeat p r body) e = tt
form_leads (Choose test p r one other) e = tt
form_leads (Invoke n x) e = tt

callee_leads : (o : Option (Callee Instr Val State)) → CalleeIs o → CalleeLeads order o
callee_leads None e = tt
callee_leads (Some (Own f)) e = tt
callee_leads (Some (Host n act)) e = even_leads act e

pub owes_growing : (m : Module) → Owes (language m) (growing order)
owes_growing m = growing_owes order (language m) (λ X l. form_leads (layer m X l) (forms_are m X l)) (λ x. callee_leads (callee m x) (callees_are m x))

form_roomy : {X : Type 0} (form : Form Val State X) → FormIs form → FormKeeps roomy form
form_roomy (Flat act) (inl e) = even_roomy act e
form_roomy (Flat act) (inr g) = subst (λ a. Keeps roomy a) g.is_growth (grow_roomy g.growth)
form_roomy (Guard p r h body) e = subst (λ k. (x : ℕ) (s : State) → After roomy (Some (jumps.Throw x)) s → CaughtKeeps roomy (k x s)) e.1 (handler_roomy e.0)
form_roomy (InvokeBy n pick) e = tt
form_roomy (Enclose p r body) e = tt
form_roomy (Repeat p r body) e = tt
form_roomy (Choose test p r one other) e = tt
form_roomy (Invoke n x) e = tt

callee_roomy : (o : Option (Callee Instr Val State)) → CalleeIs o → CalleeKeeps roomy o
callee_roomy None e = tt
callee_roomy (Some (Own f)) e = tt
callee_roomy (Some (Host n act)) e = even_roomy act e

pub owes_roomy : (m : Module) → Owes (language m) (keeping roomy)
owes_roomy m = keeping_owes roomy (language m) (λ X l. form_roomy (layer m X l) (forms_are m X l)) (λ x. callee_roomy (callee m x) (callees_are m x))

form_clean : {X : Type 0} (form : Form Val State X) → FormIs form → FormKeeps clean form
form_clean (Flat act) (inl e) = even_clean act e
form_clean (Flat act) (inr g) = subst (λ a. Keeps clean a) g.is_growth (grow_clean g.growth)
form_clean (Guard p r h body) e = subst (λ k. (x : ℕ) (s : State) → After clean (Some (jumps.Throw x)) s → CaughtKeeps clean (k x s)) e.1 (handler_clean e.0)
form_clean (InvokeBy n pick) e = tt
form_clean (Enclose p r body) e = tt
form_clean (Repeat p r body) e = tt
form_clean (Choose test p r one other) e = tt
form_clean (Invoke n x) e = tt

callee_clean : (o : Option (Callee Instr Val State)) → CalleeIs o → CalleeKeeps clean o
callee_clean None e = tt
callee_clean (Some (Own f)) e = tt
callee_clean (Some (Host n act)) e = even_clean act e

pub owes_clean : (m : Module) → Owes (language m) (keeping clean)
owes_clean m = keeping_owes clean (language m) (λ X l. form_clean (layer m X l) (forms_are m X l)) (λ x. callee_clean (callee m x) (callees_are m x))

form_counted : (N : ℕ) {X : Type 0} (form : Form Val State X) → FormIs form → FormKeeps (counted N) form
form_counted N (Flat act) (inl e) = even_counted act e N
form_counted N (Flat act) (inr g) = subst (λ a. Keeps (counted N) a) g.is_growth (grow_counted g.growth N)
form_counted N (Guard p r h body) e = subst (λ k. (x : ℕ) (s : State) → After (counted N) (Some (jumps.Throw x)) s → CaughtKeeps (counted N) (k x s)) e.1 (handler_counted N e.0)
form_counted N (InvokeBy n pick) e = tt
form_counted N (Enclose p r body) e = tt
form_counted N (Repeat p r body) e = tt
form_counted N (Choose test p r one other) e = tt
form_counted N (Invoke n x) e = tt

callee_counted : (N : ℕ) (o : Option (Callee Instr Val State)) → CalleeIs o → CalleeKeeps (counted N) o
callee_counted N None e = tt
callee_counted N (Some (Own f)) e = tt
callee_counted N (Some (Host n act)) e = even_counted act e N

pub owes_counted : (N : ℕ) (m : Module) → Owes (language m) (keeping (counted N))
owes_counted N m = keeping_owes (counted N) (language m) (λ X l. form_counted N (layer m X l) (forms_are m X l)) (λ x. callee_counted N (callee m x) (callees_are m x))

form_replays : {X : Type 0} (form : Form Val State X) → FormIs form → FormReplays answering form
form_replays (Flat act) (inl e) = even_replays act e
form_replays (Flat act) (inr g) = subst (λ a. ActReplays answering a) g.is_growth (grow_replays g.growth)
form_replays (Guard p r h body) e = subst (λ k. HandlerReplays answering k) e.1 (handler_replays e.0)
form_replays (InvokeBy n pick) e = λ p g. e g any_sizes any_room p
form_replays (Enclose p r body) e = tt
form_replays (Repeat p r body) e = tt
form_replays (Choose test p r one other) e = tt
form_replays (Invoke n x) e = tt

callee_replays : (o : Option (Callee Instr Val State)) → CalleeIs o → CalleeReplays answering o
callee_replays None e = tt
callee_replays (Some (Own f)) e = tt
callee_replays (Some (Host n act)) e = even_replays act e

pub owes_replaying : (m : Module) → Owes (language m) (replaying answering)
owes_replaying m = replaying_owes answering (language m) (λ X l. form_replays (layer m X l) (forms_are m X l)) (λ X l p g. refl) (λ x. callee_replays (callee m x) (callees_are m x))

module _ (permits : List ℕ → Bool) (room : ℕ → Bool) where
  form_cuts : {X : Type 0} (form : Form Val State X) → FormIs form → FormCuts (bounding permits room) form
  form_cuts (Flat act) (inl e) = even_cuts act e permits room
  form_cuts (Flat act) (inr g) = subst (λ a. ActCuts (bounding permits room) a) g.is_growth (grow_cuts g.growth permits room)
  form_cuts (Guard p r h body) e = subst (λ k. HandlerCuts (bounding permits room) k) e.1 (handler_cuts permits room e.0)
  form_cuts (InvokeBy n pick) e = λ p. e p.state.grows permits room p
  form_cuts (Enclose p r body) e = tt
  form_cuts (Repeat p r body) e = tt
  form_cuts (Choose test p r one other) e = tt
  form_cuts (Invoke n x) e = tt

  callee_cuts : (o : Option (Callee Instr Val State)) → CalleeIs o → CalleeCuts (bounding permits room) o
  callee_cuts None e = tt
  callee_cuts (Some (Own f)) e = tt
  callee_cuts (Some (Host n act)) e = even_cuts act e permits room

  pub owes_cutting : (m : Module) → Owes (language m) (cutting (bounding permits room))
  owes_cutting m = cutting_owes (bounding permits room) (language m) (λ X l. form_cuts (layer m X l) (forms_are m X l)) (λ X l p. refl) (λ x. callee_cuts (callee m x) (callees_are m x))
