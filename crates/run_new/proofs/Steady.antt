-- No instruction and no host touches the bounds of a run.
use Rattle.std.proofs.Common.{ℕ, ◌+◌, nat_lt, set, Bool, true, false, if◌then◌else◌, List, [], ◌∷◌, ◌++◌, slice_get, Option, Some, None, option_map, option_and_then, find, refl, subst}
use Rattle.std.specs.List.{AllByRecursion}
use Rattle.host_kit.specs.Offered.{func_type, exported}
use Rattle.host_kit.specs.declared.script.Act.{Act}
use Rattle.host_kit.specs.declared.script.Act.TheVariants as acts
use Rattle.host_kit.specs.declared.script.Item.{Item}
use Rattle.host_kit.specs.declared.script.Item.TheVariants as items
use Rattle.host_kit.specs.declared.script.Reply.{Reply}
use Rattle.host_kit.specs.declared.event.Event.TheVariants as events
use Rattle.host_kit.specs.declared.value.Value.{Value}
use Rattle.wasm_ast.specs.declared.module.ty.FuncType.{FuncType}
use Rattle.wasm_ast.specs.declared.module.immediates.Catch.{Catch}
use Rattle.wasm_ast.specs.declared.module.immediates.Catch.TheVariants as catches
use Rattle.wasm_ast.specs.declared.module.parts.ExportDesc.{ExportDesc}
use Rattle.wasm_ast.specs.declared.module.parts.ExportDesc.TheVariants as exports
use Rattle.wasm_ast.specs.declared.module.parts.Module.{Module}
use Rattle.wasm_ast.specs.declared.module.code.Body.{Body}
use Rattle.wasm_ast.specs.declared.module.code.Instr.TheOpen.{Instr-F}
use Rattle.evaluation_kit.specs.declared.jump.Jump.{Jump}
use Rattle.evaluation_kit.specs.declared.jump.Jump.TheVariants as jumps
use Rattle.outcome_kit.specs.Code.{Go, Leave}
use Rattle.evaluation_kit.specs.Configurations.{Plain, PlainRes}
use Rattle.evaluation_kit.specs.Control.{Own, Host}
use Rattle.evaluation_kit.specs.Leaves.{top, below, operands_or_trap, jump_where}
use Rattle.evaluation_kit.specs.Tasks.{Change}
use Rattle.run_kit.specs.Narrowing.{whole_plain, whole_plain_res, IsWhole, IsWholeRes, IsWholeCaught, IsWholeStatus, Steady, SteadyForm, SteadyCallee, SteadyTask}
use Rattle.meaning_new.specs.declared.val.Val.{Val}
use Rattle.meaning_new.specs.declared.val.Val.TheVariants as vals
use Rattle.meaning_new.specs.Store.{Store, Memory, Exception, After, Growth, missing, store_or_trap, growth_or_trap, tell}
use Rattle.meaning_new.specs.Exceptions as exceptions
use Rattle.meaning_new.specs.Exceptions.{caught, caught_by, handler}
use Rattle.meaning_new.specs.Host as host
use Rattle.meaning_new.specs.Host.{set_export, exported_memory, peek, poke, told_bytes, told_write, act, replied, host_call, global_values}
use Rattle.meaning_new.specs.Memories.{write_at}
use Rattle.meaning_new.specs.Forms.{layer, holds, pick, tail_call, function, callee_of_type, imported_funcs, callee}
use Rattle.meaning_new.specs.Runs.{started, start_task, uncaught, answered, call_task, item_task, item_tasks}
use Rattle.run_new.specs.States.{Kept, whole, part, unbounded}

module _ (p : Plain Val Kept) where
  stored : (o : After) → IsWholeRes unbounded (store_or_trap (whole_plain unbounded p) o)
  stored None = refl
  stored (Some r) = refl

  grown : (o : Option Growth) → IsWholeRes unbounded (growth_or_trap (whole_plain unbounded p) o)
  grown None = refl
  grown (Some g) = refl

  computed : (o : Option (List Val)) → IsWholeRes unbounded (operands_or_trap (whole_plain unbounded p) o)
  computed None = refl
  computed (Some operands) = refl

  jumps_where : (b : Bool) (j : Jump) → IsWholeRes unbounded (jump_where b j (whole_plain unbounded p))
  jumps_where true j = refl
  jumps_where false j = refl

  tail_called : (o : Option ℕ) → IsWholeRes unbounded (tail_call o (whole_plain unbounded p))
  tail_called None = refl
  tail_called (Some f) = refl

  thrown_again : (v : Val) → IsWholeRes unbounded (exceptions.thrown v (whole_plain unbounded p))
  thrown_again (vals.I32 i) = refl
  thrown_again (vals.I64 i) = refl
  thrown_again (vals.V128 v) = refl
  thrown_again (vals.Func f) = refl
  thrown_again (vals.Extern a) = refl
  thrown_again (vals.Exn e) = refl
  thrown_again (vals.Null t) = refl

clause_kept : (o : Option Catch) (e : ℕ) (x : Exception) (s : Kept) → IsWholeCaught unbounded (caught_by o e x (whole s))
clause_kept None e x s = tt
clause_kept (Some (catches.Tag t l)) e x s = refl
clause_kept (Some (catches.TagRef t l)) e x s = refl
clause_kept (Some (catches.All l)) e x s = refl
clause_kept (Some (catches.AllRef l)) e x s = refl

caught_kept : (o : Option Exception) (clauses : List Catch) (e : ℕ) (s : Kept) → IsWholeCaught unbounded (caught o clauses e (whole s))
caught_kept None clauses e s = tt
caught_kept (Some x) clauses e s = clause_kept (find (exceptions.takes x.tag) clauses) e x s

pub forms_steady : (m : Module) (X : Type 0) (l : Instr-F X) → SteadyForm unbounded (layer m X l)
forms_steady m X Instr-F.Nop = λ p. refl
forms_steady m X Instr-F.Unreachable = λ p. refl
forms_steady m X Instr-F.Drop = λ p. refl
forms_steady m X Instr-F.Select = λ p. refl
forms_steady m X (Instr-F.SelectTyped ts) = λ p. refl
forms_steady m X (Instr-F.Block t code) = tt
forms_steady m X (Instr-F.Loop t code) = tt
forms_steady m X (Instr-F.If t first second) = tt
forms_steady m X (Instr-F.Br l) = λ p. refl
forms_steady m X (Instr-F.BrIf l) = λ p. jumps_where (record p { operands = below p.operands }) (holds p.operands) (jumps.Branch l)
forms_steady m X (Instr-F.BrTable labels last) = λ p. refl
forms_steady m X Instr-F.Return = λ p. refl
forms_steady m X (Instr-F.Call x) = tt
forms_steady m X (Instr-F.CallIndirect t table) = tt
forms_steady m X (Instr-F.ReturnCall x) = λ p. refl
forms_steady m X (Instr-F.ReturnCallIndirect t table) = λ p. tail_called (record p { operands = below p.operands }) (pick m t table (whole_plain unbounded p))
forms_steady m X (Instr-F.Throw x) = λ p. refl
forms_steady m X Instr-F.ThrowRef = λ p. thrown_again (record p { operands = below p.operands }) (top missing p.operands)
forms_steady m X (Instr-F.TryTable t clauses code) = λ e s. caught_kept (slice_get s.store.exceptions e) clauses e s
forms_steady m X (Instr-F.LocalGet x) = λ p. refl
forms_steady m X (Instr-F.LocalSet x) = λ p. refl
forms_steady m X (Instr-F.LocalTee x) = λ p. refl
forms_steady m X (Instr-F.GlobalGet x) = λ p. refl
forms_steady m X (Instr-F.GlobalSet x) = λ p. refl
forms_steady m X (Instr-F.TableGet x) = λ p. stored p _
forms_steady m X (Instr-F.TableSet x) = λ p. stored p _
forms_steady m X (Instr-F.TableSize x) = λ p. stored p _
forms_steady m X (Instr-F.TableGrow x) = λ p. grown p _
forms_steady m X (Instr-F.TableFill x) = λ p. stored p _
forms_steady m X (Instr-F.TableCopy to from) = λ p. stored p _
forms_steady m X (Instr-F.TableInit segment x) = λ p. stored p _
forms_steady m X (Instr-F.ElemDrop segment) = λ p. refl
forms_steady m X (Instr-F.Load op arg) = λ p. stored p _
forms_steady m X (Instr-F.Store op arg) = λ p. stored p _
forms_steady m X (Instr-F.LoadVector op arg) = λ p. stored p _
forms_steady m X (Instr-F.StoreVector arg) = λ p. stored p _
forms_steady m X (Instr-F.LoadLane shape arg lane) = λ p. stored p _
forms_steady m X (Instr-F.StoreLane shape arg lane) = λ p. stored p _
forms_steady m X (Instr-F.MemorySize x) = λ p. stored p _
forms_steady m X (Instr-F.MemoryGrow x) = λ p. grown p _
forms_steady m X (Instr-F.MemoryFill x) = λ p. stored p _
forms_steady m X (Instr-F.MemoryCopy to from) = λ p. stored p _
forms_steady m X (Instr-F.MemoryInit segment x) = λ p. stored p _
forms_steady m X (Instr-F.DataDrop segment) = λ p. refl
forms_steady m X (Instr-F.Pure op) = λ p. computed p _
forms_steady m X (Instr-F.Float code immediates) = λ p. refl

-- acts of the host
set_kept : (o : Option ExportDesc) (v : Value) (s : Kept) → IsWhole unbounded (set_export o v (whole s))
set_kept None v s = refl
set_kept (Some (exports.Func x)) v s = refl
set_kept (Some (exports.Table x)) v s = refl
set_kept (Some (exports.Memory x)) v s = refl
set_kept (Some (exports.Global x)) v s = refl
set_kept (Some (exports.Tag x)) v s = refl

told_kept : (o : Option (List ℕ)) (s : Kept) → IsWhole unbounded (told_bytes o (whole s))
told_kept None s = refl
told_kept (Some bytes) s = refl

peek_kept : (o : Option Memory) (at count : ℕ) (s : Kept) → IsWhole unbounded (peek o at count (whole s))
peek_kept None at count s = refl
peek_kept (Some m) at count s = told_kept _ s

write_kept : (o : Option Store) (s : Kept) → IsWhole unbounded (told_write o (whole s))
write_kept None s = refl
write_kept (Some store) s = refl

poke_kept : (o : Option ExportDesc) (m : Option Memory) (at : ℕ) (bytes : List ℕ) (s : Kept) → IsWhole unbounded (poke o m at bytes (whole s))
poke_kept None m at bytes s = refl
poke_kept (Some (exports.Func x)) m at bytes s = refl
poke_kept (Some (exports.Table x)) m at bytes s = refl
poke_kept (Some (exports.Memory x)) None at bytes s = refl
poke_kept (Some (exports.Memory x)) (Some m) at bytes s = write_kept (write_at x m at bytes s.store) s
poke_kept (Some (exports.Global x)) m at bytes s = refl
poke_kept (Some (exports.Tag x)) m at bytes s = refl

pub act_kept : (m : Module) (a : Act) (s : Kept) → IsWhole unbounded (act m a (whole s))
act_kept m (acts.Set name v) s = set_kept (exported m name) v s
act_kept m (acts.Peek name at count) s = peek_kept (exported_memory (exported m name) s.store) at count s
act_kept m (acts.Poke name at bytes) s = poke_kept (exported m name) (exported_memory (exported m name) s.store) at bytes s

acts_kept : (m : Module) (all : List Act) (s : Kept) → IsWhole unbounded (host.acts m all (whole s))
acts_kept m [] s = refl
acts_kept m (a ∷ more) s = subst (λ t. IsWhole unbounded (host.acts m more t)) (act_kept m a s) (acts_kept m more (part (act m a (whole s))))

replied_kept : (m : Module) (x : ℕ) (o : Option (List Reply)) (s : Kept) → IsWholeRes {V = Val} unbounded (replied m x o (whole s))
replied_kept m x None s = refl
replied_kept m x (Some []) s = refl
replied_kept m x (Some (reply ∷ more)) s = acts_kept m reply.acts (record s { replies = set s.replies x more })

host_steady : (m : Module) (x : ℕ) → Steady unbounded (host_call m x)
host_steady m x p = replied_kept m x _ (part (tell (events.HostCall x _ (global_values m (whole p.state))) (whole p.state)))

named_steady : (m : Module) (x k : ℕ) (t : FuncType) (b : Bool) (o : Option Body) → SteadyCallee unbounded (if b then Some (Host k (host_call m x)) else option_map (λ body. Own (function t body)) o)
named_steady m x k t true o = host_steady m x
named_steady m x k t false None = tt
named_steady m x k t false (Some body) = tt

typed_steady : (m : Module) (x : ℕ) (o : Option FuncType) → SteadyCallee unbounded (option_and_then (callee_of_type m x) o)
typed_steady m x None = tt
typed_steady m x (Some t) = named_steady m x _ t (nat_lt x (imported_funcs m)) (slice_get m.codes _)

pub callees_steady : (m : Module) (x : ℕ) → SteadyCallee unbounded (callee m x)
callees_steady m x = typed_steady m x (func_type m x)

-- tasks
started_kept : (r : PlainRes Val Kept) → IsWholeStatus unbounded (started (whole_plain_res unbounded r))
started_kept (Go p) = refl
started_kept (Leave (jumps.Branch k) p) = refl
started_kept (Leave jumps.Return p) = refl
started_kept (Leave (jumps.Throw e) p) = refl
started_kept (Leave (jumps.TailCall x) p) = refl
started_kept (Leave jumps.Trap p) = refl
started_kept (Leave (jumps.NoReply x) p) = refl
started_kept (Leave jumps.Full p) = refl
started_kept (Leave jumps.Stuck p) = refl

uncaught_kept : (m : Module) (i : ℕ) (o : Option Exception) (s : Kept) → IsWhole unbounded (uncaught m i o (whole s))
uncaught_kept m i None s = refl
uncaught_kept m i (Some x) s = refl

answered_kept : (m : Module) (i : ℕ) (r : PlainRes Val Kept) → IsWholeStatus unbounded (answered m i (whole_plain_res unbounded r))
answered_kept m i (Go p) = refl
answered_kept m i (Leave (jumps.Branch k) p) = refl
answered_kept m i (Leave jumps.Return p) = refl
answered_kept m i (Leave (jumps.Throw e) p) = uncaught_kept m i (slice_get p.state.store.exceptions e) p.state
answered_kept m i (Leave (jumps.TailCall x) p) = refl
answered_kept m i (Leave jumps.Trap p) = refl
answered_kept m i (Leave (jumps.NoReply x) p) = refl
answered_kept m i (Leave jumps.Full p) = refl
answered_kept m i (Leave jumps.Stuck p) = refl

call_steady : (m : Module) (i : ℕ) (o : Option ExportDesc) (arguments : List Value) → SteadyTask unbounded (call_task m i o arguments)
call_steady m i None arguments = λ s. refl
call_steady m i (Some (exports.Func x)) arguments = λ r. answered_kept m i r
call_steady m i (Some (exports.Table x)) arguments = λ s. refl
call_steady m i (Some (exports.Memory x)) arguments = λ s. refl
call_steady m i (Some (exports.Global x)) arguments = λ s. refl
call_steady m i (Some (exports.Tag x)) arguments = λ s. refl

item_steady : (m : Module) (i : ℕ) (item : Item) → SteadyTask unbounded (item_task m i item)
item_steady m i (items.Call name arguments) = call_steady m i (exported m name) arguments
item_steady m i (items.Host a) = λ s. act_kept m a s

items_steady : (m : Module) (i : ℕ) (is : List Item) → AllByRecursion (SteadyTask unbounded) (item_tasks m i is)
items_steady m i [] = ((λ s. refl), tt)
items_steady m i (item ∷ is) = (item_steady m i item, items_steady m (i + 1) is)

pub behind_steady : (m : Module) (start : Option ℕ) (is : List Item) → AllByRecursion (SteadyTask unbounded) (start_task start ++ (Change (λ s. Go (tell events.Started s)) ∷ item_tasks m 0 is))
behind_steady m None is = ((λ s. refl), items_steady m 0 is)
behind_steady m (Some x) is = (started_kept, ((λ s. refl), items_steady m 0 is))
