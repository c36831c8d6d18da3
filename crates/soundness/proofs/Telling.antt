-- Code tells of nothing but the calls of imported functions, and what the host does in them: what a script's items come to
-- is told between the calls of its items.
use Rattle.std.proofs.Common.{ℕ, ◌-◌, Bool, true, false, if◌then◌else◌, nat_lt, List, [], ◌∷◌, map, length, reverse, Option, Some, None, option_map, le_refl}
use Rattle.std.specs.Prelude.{slice_get, set, find, option_and_then}
use Rattle.std.specs.List.{AllByRecursion}
use Rattle.host_kit.specs.Offered.{exported, func_type}
use Rattle.host_kit.specs.Trace.{Mark, Shows, Grown, Captured, captured}
use Rattle.host_kit.specs.declared.event.Event.{Event}
use Rattle.host_kit.specs.declared.event.Event.TheVariants as events
use Rattle.host_kit.specs.declared.script.Act.{Act}
use Rattle.host_kit.specs.declared.script.Act.TheVariants.{Set, Peek, Poke}
use Rattle.host_kit.specs.declared.script.Reply.{Reply}
use Rattle.host_kit.specs.declared.script.Script.{Script}
use Rattle.host_kit.specs.declared.value.Value.{Value}
use Rattle.wasm_ast.specs.declared.module.immediates.Catch.{Catch}
use Rattle.wasm_ast.specs.declared.module.immediates.Catch.TheVariants as catches
use Rattle.wasm_ast.specs.declared.module.ty.FuncType.{FuncType}
use Rattle.wasm_ast.specs.declared.module.code.Body.{Body}
use Rattle.wasm_ast.specs.declared.module.code.Instr.TheOpen.{Instr-F}
use Rattle.wasm_ast.specs.declared.module.parts.ExportDesc.{ExportDesc}
use Rattle.wasm_ast.specs.declared.module.parts.ExportDesc.TheVariants as exports
use Rattle.wasm_ast.specs.declared.module.parts.Module.{Module}
use Rattle.outcome_kit.specs.Code.{Go, Leave}
use Rattle.evaluation_kit.specs.declared.jump.Jump.{Jump}
use Rattle.evaluation_kit.specs.declared.jump.Jump.TheVariants as jumps
use Rattle.evaluation_kit.specs.Configurations.{World, Plain, PlainRes}
use Rattle.evaluation_kit.specs.Control.{Own, Host}
use Rattle.evaluation_kit.specs.Languages.{func}
use Rattle.evaluation_kit.specs.Leaves
use Rattle.evaluation_kit.specs.Leaves.{operands_or_trap, on_operands, jump_where, top, below, read_range, with_operands}
use Rattle.evaluation_kit.proofs.Closure.{res_place}
use Rattle.evaluation_kit.proofs.Functions.{func_related}
use Rattle.evaluation_kit.proofs.Growing.{state_after}
use Rattle.evaluation_kit.proofs.Invariants.{Kept, After, Leaves as KeptIn, PlainAfter, Keeps, CaughtKeeps, FormKeeps, CalleeKeeps, keeping, keeping_owes}
use Rattle.evaluation_kit.proofs.Whole.{Owes}
use Rattle.meaning_new.specs.declared.val.Val.{Val}
use Rattle.meaning_new.specs.declared.val.Val.TheVariants as vals
use Rattle.meaning_new.specs.Store.{Store, State, Memory, Exception, Growth, After as Effect, missing, tell, to_host, store_or_trap, on_store, settled_growth, growth_or_trap, on_growth, is_granted, sizes}
use Rattle.meaning_new.specs.Numeric.{first, pure}
use Rattle.meaning_new.specs.Memories
use Rattle.meaning_new.specs.Memories.{write_at}
use Rattle.meaning_new.specs.Tables
use Rattle.meaning_new.specs.Exceptions.{takes, caught_ref, caught_by, caught, handler, thrown, throw, throw_ref}
use Rattle.meaning_new.specs.Host.{global_values, set_export, exported_memory, told_bytes, peek, told_write, poke, act, acts, replied, host_call}
use Rattle.meaning_new.specs.Forms.{layer, callee_of_type, function, imported_funcs, type_of_tag, param_count, holds, drop_operand, select, pick, tail_call, tail_call_by}
use Rattle.meaning_new.specs.Language.{language}
use Rattle.soundness.specs.Events.{EventTyped}
use Rattle.soundness.proofs.Lists.{all_append}

module _ (m : Module) (script : Script) where
  -- an event that no code tells has its types; a full store is left to the law that there is none
  abbrev pub ItemMark : Mark → Type 0
  ItemMark (Shows (events.HostCall j arguments globals)) = Unit {0}
  ItemMark (Shows events.Full) = Unit {0}
  ItemMark (Shows e) = EventTyped m script e
  ItemMark mark = Unit {0}

  abbrev pub Told : State → Type 0
  Told s = AllByRecursion ItemMark s.trace

  abbrev pub telling : Kept State
  telling = record { Always = Told; At = λ j s. Unit {0}; trap = λ s h. tt; stuck = λ s h. tt; branch = λ k i s h. tt }

  pub tells : (s : State) (e : Event) → ItemMark (Shows e) → Told s → Told (tell e s)
  tells s e t h = all_append ItemMark s.trace (Shows e ∷ []) h (t, tt)

  -- plain instructions: all but growths leave the trace as it is
  after : (r : PlainRes Val State) → Told (state_after r) → PlainAfter telling r
  after (Go p) h = h
  after (Leave j p) h = record { always = h; at_jump = tt }

  tells_operands : (f : List Val → Option (List Val)) → Keeps telling (on_operands f)
  tells_operands f p h = by (f p.operands)
    where
      by : (o : Option (List Val)) → PlainAfter telling (operands_or_trap p o)
      by None = after (Leave jumps.Trap p) h
      by (Some operands) = h

  tells_store : (f : List Val → Store → Effect) → Keeps telling (on_store f)
  tells_store f p h = by (f p.operands p.state.store)
    where
      by : (o : Effect) → PlainAfter telling (store_or_trap p o)
      by None = after (Leave jumps.Trap p) h
      by (Some r) = h

  tells_growth : (f : List Val → Store → Option Growth) → Keeps telling (on_growth f)
  tells_growth f p h = by (f p.operands p.state.store)
    where
      settled : (ok : Bool) (g : Growth) → PlainAfter telling (settled_growth ok g p)
      settled true g = all_append ItemMark p.state.trace (Grown true (sizes g.larger) ∷ []) h (tt, tt)
      settled false g = all_append ItemMark p.state.trace (Grown false (sizes p.state.store) ∷ []) h (tt, tt)

      by : (o : Option Growth) → PlainAfter telling (growth_or_trap p o)
      by None = after (Leave jumps.Trap p) h
      by (Some g) = settled (is_granted g p.state) g

  tells_nothing : Keeps telling (Leaves.nothing {V = Val} {S = State})
  tells_nothing p h = h

  tells_get : (x : ℕ) → Keeps telling (Leaves.get_local missing x)
  tells_get x p h = h

  tells_set : (x : ℕ) → Keeps telling (Leaves.set_local missing x)
  tells_set x p h = h

  tells_tee : (x : ℕ) → Keeps telling (Leaves.tee_local missing x)
  tells_tee x p h = h

  tells_jump : (j : Jump) → Keeps telling (Leaves.jump {V = Val} {S = State} j)
  tells_jump j p h = after (Leave j p) h

  tells_branch_if : (test : List Val → Bool) (k : ℕ) → Keeps telling (Leaves.branch_if test k)
  tells_branch_if test k p h = by (test p.operands)
    where
      by : (b : Bool) → PlainAfter telling (jump_where b (jumps.Branch k) (with_operands (below p.operands) p))
      by true = after (Leave (jumps.Branch k) (with_operands (below p.operands) p)) h
      by false = h

  tells_branch_table : (number : List Val → ℕ) (labels : List ℕ) (last : ℕ) → Keeps telling (Leaves.branch_table number labels last)
  tells_branch_table number labels last p h = after (Leaves.branch_table number labels last p) h

  tells_tail : (type table : ℕ) → Keeps telling (tail_call_by m type table)
  tells_tail type table p h = by (pick m type table p)
    where
      by : (o : Option ℕ) → PlainAfter telling (tail_call o (with_operands (below p.operands) p))
      by None = after (Leave jumps.Trap (with_operands (below p.operands) p)) h
      by (Some f) = after (Leave (jumps.TailCall f) (with_operands (below p.operands) p)) h

  tells_throw : (x count : ℕ) → Keeps telling (throw x count)
  tells_throw x count p h = after (throw x count p) h

  tells_throw_ref : Keeps telling throw_ref
  tells_throw_ref p h = by (top missing p.operands) (with_operands (below p.operands) p) h
    where
      by : (v : Val) (q : Plain Val State) → Told q.state → PlainAfter telling (thrown v q)
      by (vals.Exn e) q g = after (Leave (jumps.Throw e) q) g
      by (vals.I32 i) q g = after (Leave jumps.Trap q) g
      by (vals.I64 i) q g = after (Leave jumps.Trap q) g
      by (vals.V128 i) q g = after (Leave jumps.Trap q) g
      by (vals.Func i) q g = after (Leave jumps.Trap q) g
      by (vals.Extern i) q g = after (Leave jumps.Trap q) g
      by (vals.Null t) q g = after (Leave jumps.Trap q) g

  -- a clause that keeps its exception leaves a mark, which is no event
  tells_handler : (clauses : List Catch) (e : ℕ) (s : State) → After telling (Some (jumps.Throw e)) s → CaughtKeeps telling (handler clauses e s)
  tells_handler clauses e s h = there (slice_get s.store.exceptions e)
    where
      with_ref : (room : Bool) (l : ℕ) (vs : List Val) → CaughtKeeps telling (caught_ref room e l vs s)
      with_ref true l vs = record { always = all_append ItemMark s.trace (Captured ∷ []) h.always (tt, tt); at_jump = tt }
      with_ref false l vs = record { always = h.always; at_jump = tt }

      by : (o : Option Catch) (x : Exception) → CaughtKeeps telling (caught_by o e x s)
      by None x = tt
      by (Some (catches.Tag tag l)) x = record { always = h.always; at_jump = tt }
      by (Some (catches.TagRef tag l)) x = with_ref (s.room (captured s.trace)) l x.payload
      by (Some (catches.All l)) x = record { always = h.always; at_jump = tt }
      by (Some (catches.AllRef l)) x = with_ref (s.room (captured s.trace)) l []

      there : (o : Option Exception) → CaughtKeeps telling (caught o clauses e s)
      there None = tt
      there (Some x) = by (find (takes x.tag) clauses) x

  form_tells : (X : Type 0) (l : Instr-F X) → FormKeeps telling (layer m X l)
  form_tells X Instr-F.Nop = tells_nothing
  form_tells X Instr-F.Unreachable = tells_jump jumps.Trap
  form_tells X Instr-F.Drop = tells_operands drop_operand
  form_tells X Instr-F.Select = tells_operands select
  form_tells X (Instr-F.SelectTyped ts) = tells_operands select
  form_tells X (Instr-F.Block t code) = tt
  form_tells X (Instr-F.Loop t code) = tt
  form_tells X (Instr-F.If t one other) = tt
  form_tells X (Instr-F.Br l) = tells_jump (jumps.Branch l)
  form_tells X (Instr-F.BrIf l) = tells_branch_if holds l
  form_tells X (Instr-F.BrTable labels last) = tells_branch_table first labels last
  form_tells X Instr-F.Return = tells_jump jumps.Return
  form_tells X (Instr-F.Call x) = tt
  form_tells X (Instr-F.CallIndirect t table) = tt
  form_tells X (Instr-F.ReturnCall x) = tells_jump (jumps.TailCall x)
  form_tells X (Instr-F.ReturnCallIndirect t table) = tells_tail t table
  form_tells X (Instr-F.Throw x) = tells_throw x (param_count (type_of_tag m x))
  form_tells X Instr-F.ThrowRef = tells_throw_ref
  form_tells X (Instr-F.TryTable t clauses code) = tells_handler clauses
  form_tells X (Instr-F.LocalGet x) = tells_get x
  form_tells X (Instr-F.LocalSet x) = tells_set x
  form_tells X (Instr-F.LocalTee x) = tells_tee x
  form_tells X (Instr-F.GlobalGet x) = tells_store (Tables.global_get x)
  form_tells X (Instr-F.GlobalSet x) = tells_store (Tables.global_set x)
  form_tells X (Instr-F.TableGet x) = tells_store (Tables.table_get x)
  form_tells X (Instr-F.TableSet x) = tells_store (Tables.table_set x)
  form_tells X (Instr-F.TableSize x) = tells_store (Tables.table_size x)
  form_tells X (Instr-F.TableGrow x) = tells_growth (Tables.table_grow x)
  form_tells X (Instr-F.TableFill x) = tells_store (Tables.table_fill x)
  form_tells X (Instr-F.TableCopy to from) = tells_store (Tables.table_copy to from)
  form_tells X (Instr-F.TableInit segment x) = tells_store (Tables.table_init segment x)
  form_tells X (Instr-F.ElemDrop segment) = tells_store (Tables.elem_drop segment)
  form_tells X (Instr-F.Load op arg) = tells_store (Memories.load_integer op arg)
  form_tells X (Instr-F.Store op arg) = tells_store (Memories.store_integer op arg)
  form_tells X (Instr-F.LoadVector op arg) = tells_store (Memories.load_vector op arg)
  form_tells X (Instr-F.StoreVector arg) = tells_store (Memories.store_vector arg)
  form_tells X (Instr-F.LoadLane shape arg lane) = tells_store (Memories.load_lane shape arg lane)
  form_tells X (Instr-F.StoreLane shape arg lane) = tells_store (Memories.store_lane shape arg lane)
  form_tells X (Instr-F.MemorySize x) = tells_store (Memories.memory_size x)
  form_tells X (Instr-F.MemoryGrow x) = tells_growth (Memories.memory_grow x)
  form_tells X (Instr-F.MemoryFill x) = tells_store (Memories.memory_fill x)
  form_tells X (Instr-F.MemoryCopy to from) = tells_store (Memories.memory_copy to from)
  form_tells X (Instr-F.MemoryInit segment x) = tells_store (Memories.memory_init segment x)
  form_tells X (Instr-F.DataDrop segment) = tells_store (Memories.data_drop segment)
  form_tells X (Instr-F.Pure op) = tells_operands (pure op)
  form_tells X (Instr-F.Float code immediates) = tells_jump jumps.Trap

  -- the host: a call is shown, and of its acts the bytes that are read
  sets : (o : Option ExportDesc) (v : Value) (s : State) → Told s → Told (set_export o v s)
  sets (Some (exports.Global x)) v s h = h
  sets (Some d) v s h = h
  sets None v s h = h

  peeks : (o : Option Memory) (at count : ℕ) (s : State) → Told s → Told (peek o at count s)
  peeks None at count s h = h
  peeks (Some mem) at count s h = bytes (read_range at count mem.bytes)
    where
      bytes : (o : Option (List ℕ)) → Told (told_bytes o s)
      bytes None = tells s events.OutOfRange tt h
      bytes (Some l) = tells s (events.Peeked l) tt h

  pokes : (o : Option ExportDesc) (mem : Option Memory) (at : ℕ) (bytes : List ℕ) (s : State) → Told s → Told (poke o mem at bytes s)
  pokes (Some (exports.Memory x)) (Some mem) at bytes s h = wrote (write_at x mem at bytes s.store)
    where
      wrote : (o : Option Store) → Told (told_write o s)
      wrote None = tells s events.OutOfRange tt h
      wrote (Some store) = h
  pokes (Some (exports.Memory x)) None at bytes s h = h
  pokes (Some d) mem at bytes s h = h
  pokes None mem at bytes s h = h

  pub act_tells : (a : Act) (s : State) → Told s → Told (act m a s)
  act_tells (Set name v) s h = sets (exported m name) v s h
  act_tells (Peek name at count) s h = peeks (exported_memory (exported m name) s.store) at count s h
  act_tells (Poke name at bytes) s h = pokes (exported m name) (exported_memory (exported m name) s.store) at bytes s h

  acts_tell : (list : List Act) (s : State) → Told s → Told (acts m list s)
  acts_tell [] s h = h
  acts_tell (a ∷ more) s h = acts_tell more (act m a s) (act_tells a s h)

  host_tells : (x : ℕ) → Keeps telling (host_call m x)
  host_tells x p h =
      let call = events.HostCall x (map to_host (reverse p.operands)) (global_values m p.state) in
      by (slice_get p.state.replies x) (tell call p.state) (tells p.state call tt h)
    where
      by : (o : Option (List Reply)) (s : State) → Told s → PlainAfter telling (replied m x o s)
      by (Some (reply ∷ more)) s g = acts_tell reply.acts (record s { replies = set s.replies x more }) g
      by (Some []) s g = after (replied m x (Some []) s) g
      by None s g = after (replied m x None s) g

  own_tells : (t : FuncType) (o : Option Body) → CalleeKeeps telling (option_map (λ body. Own (function t body)) o)
  own_tells t None = tt
  own_tells t (Some body) = tt

  typed_tells : (x : ℕ) (t : FuncType) (b : Bool) → CalleeKeeps telling (if b then Some (Host (length t.params) (host_call m x)) else option_map (λ body. Own (function t body)) (slice_get m.codes (x - imported_funcs m)))
  typed_tells x t true = host_tells x
  typed_tells x t false = own_tells t (slice_get m.codes (x - imported_funcs m))

  index_tells : (x : ℕ) (o : Option FuncType) → CalleeKeeps telling (option_and_then (callee_of_type m x) o)
  index_tells x None = tt
  index_tells x (Some t) = typed_tells x t (nat_lt x (imported_funcs m))

  owes_telling : Owes (language m) (keeping telling)
  owes_telling = keeping_owes telling (language m) form_tells (λ x. index_tells x (func_type m x))

  -- a call of a function
  pub call_tells : (x n : ℕ) (operands : List Val) (w : World State) → Told w.state → KeptIn telling (res_place {V = Val}) (func (language m) x 0 n (record { operands = operands; locals = []; world = w }))
  unfolding keeping
  call_tells x n operands w h =
      ((func_related (language m) (keeping telling) owes_telling n x).from 0 (record { operands = operands; locals = []; world = w })).by w n (le_refl n) (record { always = h; at_jump = tt })
