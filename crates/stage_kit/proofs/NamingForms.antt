-- What all instructions and the functions of the host keep by themselves.
use Rattle.std.proofs.Common.{◌≡◌, ℕ, ◌+◌, Bool, true, false, List, [], ◌∷◌, ◌++◌, map, take, reverse, Option, Some, None, option_map, ◌∙◌, if◌then◌else◌}
use Rattle.std.specs.Prelude.{slice_get, set, find, replicate, option_and_then, ◌%◌, ◌^◌}
use Rattle.std.specs.List.{AllByRecursion}
use Rattle.num_core.specs.Accesses.{load_width, load_bytes}
use Rattle.num_core.specs.Bytes.{loaded, stored}
use Rattle.lane_core.specs.Shapes.{lane_load_bytes, lane_bytes}
use Rattle.lane_core.specs.Memory.{loaded_vector, vector_bytes, stored_lane, loaded_lane}
use Rattle.std.proofs.lemmas.List.{length-set}
use Rattle.host_kit.specs.Offered.{exported, func_type}
use Rattle.host_kit.specs.Trace.{captured}
use Rattle.host_kit.specs.declared.event.Event.TheVariants as events
use Rattle.host_kit.specs.declared.script.Act.{Act}
use Rattle.host_kit.specs.declared.script.Act.TheVariants.{Set, Peek, Poke}
use Rattle.host_kit.specs.declared.script.Reply.{Reply}
use Rattle.host_kit.specs.declared.value.Value.{Value}
use Rattle.wasm_ast.specs.declared.module.parts.ExportDesc.{ExportDesc}
use Rattle.wasm_ast.specs.declared.module.parts.ExportDesc.TheVariants as exports
use Rattle.wasm_ast.specs.declared.module.code.Instr.TheOpen.{Instr-F}
use Rattle.wasm_ast.specs.declared.module.immediates.Catch.{Catch}
use Rattle.wasm_ast.specs.declared.module.immediates.Catch.TheVariants as catches
use Rattle.wasm_ast.specs.declared.module.immediates.MemArg.{MemArg}
use Rattle.wasm_ast.specs.declared.module.parts.Module.{Module}
use Rattle.evaluation_kit.specs.declared.jump.Jump.{Jump}
use Rattle.evaluation_kit.specs.declared.jump.Jump.TheVariants as jumps
use Rattle.evaluation_kit.specs.Configurations.{Plain, PlainRes}
use Rattle.evaluation_kit.specs.Leaves
use Rattle.evaluation_kit.specs.Leaves.{jump_where, with_operands, below, top, read_range, write_range}
use Rattle.simulation_kit.specs.Keeping.{Holds, NamedJump, HoldsAfter, HoldsCaught, HoldsPicked, ActKeeps, HandlerKeeps, FormKeeps}
use Rattle.meaning_new.specs.declared.val.Val.{Val}
use Rattle.meaning_new.specs.declared.val.Val.TheVariants as vals
use Rattle.meaning_new.specs.Store.{Store, State, Memory, Table, Exception, Growth, After, missing, int, address_width, to_host, from_host, tell, on_growth, growth_or_trap, settled_growth, is_granted}
use Rattle.meaning_new.specs.Numeric.{first, second, third}
use Rattle.meaning_new.specs.Memories
use Rattle.meaning_new.specs.Tables
use Rattle.meaning_new.specs.Host.{global_values, set_export, exported_memory, told_bytes, peek, told_write, poke, act, acts, replied, host_call}
use Rattle.meaning_new.specs.Exceptions.{throw, throw_ref, thrown, takes, caught_ref, caught_by, caught, handler}
use Rattle.meaning_new.specs.Forms.{param_count, type_of_tag, function_of, same_type, of_type, pick, tail_call, tail_call_by, layer, holds as is_true}
use Rattle.stage_kit.specs.Adding.{Names, own_named}
use Rattle.stage_kit.specs.Naming.{ValNamed, AllNamed, ActNamed, ReplyNamed, StoreNamed, StateNamed}
use Rattle.stage_kit.proofs.Lists.{IfAny, all_take, all_drop, all_append, all_reverse, all_set, all_replicate, all_get, all_index}
use Rattle.stage_kit.proofs.Naming
use Rattle.stage_kit.proofs.Naming.{naming}

module _ (names : Names) (globals : ℕ) where
  abbrev V : Val → Type 0
  V = ValNamed names globals

  abbrev All : List Val → Type 0
  All = AllNamed names globals

  abbrev S : Store → Type 0
  S = StoreNamed names globals

  abbrev R : List Val × Store → Type 0
  R r = All r.0 × S r.1

  abbrev Keeps : (Plain Val State → PlainRes Val State) → Type 0
  Keeps act = ActKeeps (naming names globals) act

  -- memories hold no references
  load_named : (count : ℕ) (make : List ℕ → Val) (arg : MemArg) → ((bytes : List ℕ) → V (make bytes)) → (l : List Val) (s : Store) → All l → S s → IfAny R (Memories.load count make arg l s)
  load_named count make arg named l s h g =
      Naming.then_kept names globals (λ mem. Unit {0}) (slice_get s.memories arg.memory) _ (Naming.any names globals (slice_get s.memories arg.memory)) (λ mem k.
      Naming.map_kept names globals (λ bytes. Unit {0}) (Memories.read_at mem (first l + arg.offset) count) _ (Naming.any names globals (Memories.read_at mem (first l + arg.offset) count)) (λ bytes i. ((named bytes, Naming.under names globals l h), g)))

  store_named : (bytes_of : ℕ → List ℕ) (arg : MemArg) (l : List Val) (s : Store) → All l → S s → IfAny R (Memories.store bytes_of arg l s)
  store_named bytes_of arg l s h g =
      Naming.then_kept names globals (λ mem. Unit {0}) (slice_get s.memories arg.memory) _ (Naming.any names globals (slice_get s.memories arg.memory)) (λ mem k.
      Naming.wrote_kept names globals (λ all. Unit {0}) (write_range (second l + arg.offset) (bytes_of (first l)) mem.bytes) (below (below l)) _ (Naming.any names globals (write_range (second l + arg.offset) (bytes_of (first l)) mem.bytes)) (Naming.under2 names globals l h) (λ all i. Naming.with_memories names globals s _ g))

  written : (x : ℕ) (mem : Memory) (at : ℕ) (bytes : List ℕ) (l : List Val) (s : Store) → All l → S s → IfAny R (option_map (λ after. (l, after)) (Memories.write_at x mem at bytes s))
  written x mem at bytes l s h g =
      Naming.wrote_kept names globals (λ all. Unit {0}) (write_range at bytes mem.bytes) l _ (Naming.any names globals (write_range at bytes mem.bytes)) h (λ all i. Naming.with_memories names globals s _ g)

  at_memory : (x : ℕ) (s : Store) (f : Memory → After) → ((mem : Memory) → IfAny R (f mem)) → IfAny R (Memories.at_memory x s f)
  at_memory x s f h = Naming.then_kept names globals (λ mem. Unit {0}) (slice_get s.memories x) f (Naming.any names globals (slice_get s.memories x)) (λ mem k. h mem)

  size_named : (x : ℕ) (l : List Val) (s : Store) → All l → S s → IfAny R (Memories.memory_size x l s)
  size_named x l s h g = at_memory x s _ (λ mem. ((Naming.int_named names globals (address_width mem.wide) _, h), g))

  fill_named : (x : ℕ) (l : List Val) (s : Store) → All l → S s → IfAny R (Memories.memory_fill x l s)
  fill_named x l s h g = at_memory x s _ (λ mem. written x mem (third l) (replicate (first l) (second l % 2 ^ 8)) (below (below (below l))) s (Naming.under3 names globals l h) g)

  copy_named : (to from : ℕ) (l : List Val) (s : Store) → All l → S s → IfAny R (Memories.memory_copy to from l s)
  copy_named to from l s h g =
      at_memory to s _ (λ mem. at_memory from s _ (λ source.
      Naming.then_kept names globals (λ bytes. Unit {0}) (Memories.read_at source (second l) (first l)) _ (Naming.any names globals (Memories.read_at source (second l) (first l))) (λ bytes k.
      written to mem (third l) bytes (below (below (below l))) s (Naming.under3 names globals l h) g)))

  pub init_named : (segment x : ℕ) (l : List Val) (s : Store) → All l → S s → IfAny R (Memories.memory_init segment x l s)
  init_named segment x l s h g =
      at_memory x s _ (λ mem.
      Naming.then_kept names globals (λ bytes. Unit {0}) (read_range (second l) (first l) (Memories.segment_bytes segment s)) _ (Naming.any names globals (read_range (second l) (first l) (Memories.segment_bytes segment s))) (λ bytes k.
      written x mem (third l) bytes (below (below (below l))) s (Naming.under3 names globals l h) g))

  -- growths
  record GrowthNamed (g : Growth) : Type 0 where
    larger : S g.larger
    operands : (ok : Bool) → All (g.operands ok)

  growth_keeps : (f : List Val → Store → Option Growth) → ((l : List Val) (s : Store) → All l → S s → IfAny GrowthNamed (f l s)) → Keeps (on_growth f)
  growth_keeps f h = record { keeps = λ q k. both q k (f q.operands q.state.store) (h q.operands q.state.store k.operands k.state.store) }
    where
      settled : (q : Plain Val State) → Holds (naming names globals) q → (g : Growth) → GrowthNamed g → (ok : Bool) → HoldsAfter (naming names globals) (settled_growth ok g q)
      settled q k g n true = record { operands = n.operands true; locals = k.locals; state = record { store = n.larger; replies = k.state.replies } }
      settled q k g n false = record { operands = n.operands false; locals = k.locals; state = record { store = k.state.store; replies = k.state.replies } }

      both : (q : Plain Val State) → Holds (naming names globals) q → (o : Option Growth) → IfAny GrowthNamed o → HoldsAfter (naming names globals) (growth_or_trap q o)
      both q k None n = (tt, k)
      both q k (Some g) n = settled q k g n (is_granted g q.state)

  memory_grow_named : (x : ℕ) (l : List Val) (s : Store) → All l → S s → IfAny GrowthNamed (Memories.memory_grow x l s)
  memory_grow_named x l s h g = one (slice_get s.memories x)
    where
      one : (o : Option Memory) → IfAny GrowthNamed (option_map (Memories.memory_growth x l s) o)
      one None = tt
      one (Some mem) = record { larger = Naming.with_memories names globals s _ g; operands = λ ok. (Naming.int_named names globals (address_width mem.wide) _, Naming.under names globals l h) }

  table_grow_named : (x : ℕ) (l : List Val) (s : Store) → All l → S s → IfAny GrowthNamed (Tables.table_grow x l s)
  table_grow_named x l s h g = one (slice_get s.tables x) (all_get (λ t. All t.entries) s.tables x g.tables)
    where
      one : (o : Option Table) → IfAny (λ t. All t.entries) o → IfAny GrowthNamed (option_map (Tables.table_growth x l s) o)
      one None k = tt
      one (Some t) k = record {
        larger = Naming.entered names globals x t (t.entries ++ replicate (first l) (top missing (below l))) s g
            (all_append V t.entries (replicate (first l) (top missing (below l))) k (all_replicate V (first l) (top missing (below l)) (Naming.top_named names globals (below l) (Naming.under names globals l h))));
        operands = λ ok. (tt, Naming.under2 names globals l h);
      }

  -- locals and jumps
  jump_keeps : (j : Jump) → NamedJump (naming names globals) j → Keeps (Leaves.jump j)
  jump_keeps j n = record { keeps = λ q k. (n, k) }

  branch_if_keeps : (test : List Val → Bool) (k : ℕ) → Keeps (Leaves.branch_if test k)
  branch_if_keeps test k = record { keeps = λ q h. both (test q.operands) (with_operands (below q.operands) q) (record { operands = Naming.under names globals q.operands h.operands; locals = h.locals; state = h.state }) }
    where
      both : (b : Bool) (q : Plain Val State) → Holds (naming names globals) q → HoldsAfter (naming names globals) (jump_where b (jumps.Branch k) q)
      both true q h = (tt, h)
      both false q h = h

  -- exceptions
  throw_keeps : (x count : ℕ) → Keeps (throw x count)
  throw_keeps x count = record {
    keeps = λ q h. (
      tt,
      record {
        operands = all_drop V count q.operands h.operands;
        locals = h.locals;
        state = record {
          store = record {
            count = h.state.store.count;
            globals_named = h.state.store.globals_named;
            tables = h.state.store.tables;
            elems = h.state.store.elems;
            exceptions = all_append (λ i. All i.payload) q.state.store.exceptions (record { tag = x; payload = take count q.operands } ∷ []) h.state.store.exceptions (all_take V count q.operands h.operands, tt);
          };
          replies = h.state.replies;
        };
      },
    );
  }

  throw_ref_keeps : Keeps throw_ref
  throw_ref_keeps = record { keeps = λ q h. both (top missing q.operands) (record q { operands = below q.operands }) (record { operands = Naming.under names globals q.operands h.operands; locals = h.locals; state = h.state }) }
    where
      both : (v : Val) (q : Plain Val State) → Holds (naming names globals) q → HoldsAfter (naming names globals) (thrown v q)
      both (vals.Exn e) q h = (tt, h)
      both v q h = (tt, h)

  handler_keeps : (clauses : List Catch) → HandlerKeeps (naming names globals) (handler clauses)
  handler_keeps clauses = record { keeps = λ e s h. one e s h (slice_get s.store.exceptions e) (all_get (λ i. All i.payload) s.store.exceptions e h.store.exceptions) }
    where
      referred : (s : State) → StateNamed names globals s → (b : Bool) (e label : ℕ) (l : List Val) → All l → HoldsCaught (naming names globals) (caught_ref b e label l s)
      referred s h true e label l k = (tt, (tt, k), record { store = h.store; replies = h.replies })
      referred s h false e label l k = (tt, tt, h)

      by : (s : State) → StateNamed names globals s → (clause : Option Catch) (e : ℕ) (x : Exception) → All x.payload → HoldsCaught (naming names globals) (caught_by clause e x s)
      by s h None e x k = tt
      by s h (Some (catches.Tag tag label)) e x k = (tt, k, h)
      by s h (Some (catches.TagRef tag label)) e x k = referred s h (s.room (captured s.trace)) e label x.payload k
      by s h (Some (catches.All label)) e x k = (tt, tt, h)
      by s h (Some (catches.AllRef label)) e x k = referred s h (s.room (captured s.trace)) e label [] tt

      one : (e : ℕ) (s : State) → StateNamed names globals s → (i : Option Exception) → IfAny (λ x. All x.payload) i → HoldsCaught (naming names globals) (caught i clauses e s)
      one e s h None k = tt
      one e s h (Some x) k = by s h (find (takes x.tag) clauses) e x k

  module _ (m : Module) where
    -- the entry of a table refers to a function that is named
    pub entry_named : (table : ℕ) (q : Plain Val State) → Holds (naming names globals) q → IfAny (λ f. names.func f ≡ true) (option_and_then function_of (option_and_then (λ t. slice_get t.entries (first q.operands)) (slice_get q.state.store.tables table)))
    entry_named table q h = at (slice_get q.state.store.tables table) (all_get (λ t. All t.entries) q.state.store.tables table h.state.store.tables)
      where
        refers : (o : Option Val) → IfAny V o → IfAny (λ f. names.func f ≡ true) (option_and_then function_of o)
        refers None k = tt
        refers (Some (vals.Func f)) k = k
        refers (Some v) k = tt

        at : (o : Option Table) → IfAny (λ t. All t.entries) o → IfAny (λ f. names.func f ≡ true) (option_and_then function_of (option_and_then (λ t. slice_get t.entries (first q.operands)) o))
        at None k = tt
        at (Some t) k = refers (slice_get t.entries (first q.operands)) (all_get V t.entries (first q.operands) k)

    picked_named : (t table : ℕ) (q : Plain Val State) → Holds (naming names globals) q → HoldsPicked (naming names globals) (pick m t table q)
    picked_named t table q h = typed (option_and_then function_of (option_and_then (λ i. slice_get i.entries (first q.operands)) (slice_get q.state.store.tables table))) (entry_named table q h)
      where
        either : (b : Bool) (f : ℕ) → names.func f ≡ true → HoldsPicked (naming names globals) (if b then Some f else None)
        either true f k = k
        either false f k = tt

        typed : (o : Option ℕ) → IfAny (λ f. names.func f ≡ true) o → HoldsPicked (naming names globals) (option_and_then (of_type m t) o)
        typed None k = tt
        typed (Some f) k = either (same_type (func_type m f) (slice_get m.types t)) f k

    tail_keeps : (t table : ℕ) → Keeps (tail_call_by m t table)
    tail_keeps t table = record {
      keeps = λ q h. calls (pick m t table q) (with_operands (below q.operands) q) (picked_named t table q h) (record { operands = Naming.under names globals q.operands h.operands; locals = h.locals; state = h.state });
    }
      where
        calls : (i : Option ℕ) (q : Plain Val State) → HoldsPicked (naming names globals) i → Holds (naming names globals) q → HoldsAfter (naming names globals) (tail_call i q)
        calls None q k h = (tt, h)
        calls (Some f) q k h = (k, h)

    -- every instruction
    pub form_keeps : (X : Type 0) (l : Instr-F X) → own_named names X l ≡ true → FormKeeps (naming names globals) (layer m X l)
    form_keeps X Instr-F.Nop n = record { keeps = λ q h. h }
    form_keeps X Instr-F.Unreachable n = jump_keeps jumps.Trap tt
    form_keeps X Instr-F.Drop n = Naming.drop_keeps names globals
    form_keeps X Instr-F.Select n = Naming.select_keeps names globals
    form_keeps X (Instr-F.SelectTyped ts) n = Naming.select_keeps names globals
    form_keeps X (Instr-F.Block t code) n = tt
    form_keeps X (Instr-F.Loop t code) n = tt
    form_keeps X (Instr-F.If t first second) n = tt
    form_keeps X (Instr-F.Br l) n = jump_keeps (jumps.Branch l) tt
    form_keeps X (Instr-F.BrIf l) n = branch_if_keeps is_true l
    form_keeps X (Instr-F.BrTable labels last) n = record { keeps = λ q h. (tt, record { operands = Naming.under names globals q.operands h.operands; locals = h.locals; state = h.state }) }
    form_keeps X Instr-F.Return n = jump_keeps jumps.Return tt
    form_keeps X (Instr-F.Call x) n = tt
    form_keeps X (Instr-F.CallIndirect t table) n = record { keeps = λ q h. picked_named t table q h }
    form_keeps X (Instr-F.ReturnCall x) n = jump_keeps (jumps.TailCall x) n
    form_keeps X (Instr-F.ReturnCallIndirect t table) n = tail_keeps t table
    form_keeps X (Instr-F.Throw x) n = throw_keeps x (param_count (type_of_tag m x))
    form_keeps X Instr-F.ThrowRef n = throw_ref_keeps
    form_keeps X (Instr-F.TryTable t clauses code) n = handler_keeps clauses
    form_keeps X (Instr-F.LocalGet x) n = record { keeps = λ q h. record { operands = (all_index V q.locals x missing tt h.locals, h.operands); locals = h.locals; state = h.state } }
    form_keeps X (Instr-F.LocalSet x) n = record { keeps = λ q h. record { operands = Naming.under names globals q.operands h.operands; locals = all_set V q.locals x (top missing q.operands) (Naming.top_named names globals q.operands h.operands) h.locals; state = h.state } }
    form_keeps X (Instr-F.LocalTee x) n = record { keeps = λ q h. record { operands = h.operands; locals = all_set V q.locals x (top missing q.operands) (Naming.top_named names globals q.operands h.operands) h.locals; state = h.state } }
    form_keeps X (Instr-F.GlobalGet x) n = Naming.get_keeps names globals x
    form_keeps X (Instr-F.GlobalSet x) n = Naming.set_keeps names globals x
    form_keeps X (Instr-F.TableGet x) n = Naming.table_get_keeps names globals x
    form_keeps X (Instr-F.TableSet x) n = Naming.table_set_keeps names globals x
    form_keeps X (Instr-F.TableSize x) n = Naming.table_size_keeps names globals x
    form_keeps X (Instr-F.TableGrow x) n = growth_keeps (Tables.table_grow x) (table_grow_named x)
    form_keeps X (Instr-F.TableFill x) n = Naming.table_fill_keeps names globals x
    form_keeps X (Instr-F.TableCopy to from) n = Naming.table_copy_keeps names globals to from
    form_keeps X (Instr-F.TableInit segment x) n = Naming.table_init_keeps names globals segment x
    form_keeps X (Instr-F.ElemDrop segment) n = Naming.elem_drop_keeps names globals segment
    form_keeps X (Instr-F.Load op arg) n = Naming.store_keeps names globals (Memories.load_integer op arg) (load_named (load_bytes op) (λ bytes. int (load_width op) (loaded op bytes)) arg (λ bytes. Naming.int_named names globals (load_width op) (loaded op bytes)))
    form_keeps X (Instr-F.Store op arg) n = Naming.store_keeps names globals (Memories.store_integer op arg) (store_named (stored op) arg)
    form_keeps X (Instr-F.LoadVector op arg) n = Naming.store_keeps names globals (Memories.load_vector op arg) (load_named (lane_load_bytes op) (λ bytes. vals.V128 (loaded_vector op bytes)) arg (λ bytes. tt))
    form_keeps X (Instr-F.StoreVector arg) n = Naming.store_keeps names globals (Memories.store_vector arg) (store_named vector_bytes arg)
    form_keeps X (Instr-F.LoadLane shape arg lane) n = Naming.store_keeps names globals (Memories.load_lane shape arg lane) (λ l s h g. load_named (lane_bytes shape) (λ bytes. vals.V128 (loaded_lane shape lane (first l) bytes)) arg (λ bytes. tt) (below l) s (Naming.under names globals l h) g)
    form_keeps X (Instr-F.StoreLane shape arg lane) n = Naming.store_keeps names globals (Memories.store_lane shape arg lane) (store_named (stored_lane shape lane) arg)
    form_keeps X (Instr-F.MemorySize x) n = Naming.store_keeps names globals (Memories.memory_size x) (size_named x)
    form_keeps X (Instr-F.MemoryGrow x) n = growth_keeps (Memories.memory_grow x) (memory_grow_named x)
    form_keeps X (Instr-F.MemoryFill x) n = Naming.store_keeps names globals (Memories.memory_fill x) (fill_named x)
    form_keeps X (Instr-F.MemoryCopy to from) n = Naming.store_keeps names globals (Memories.memory_copy to from) (copy_named to from)
    form_keeps X (Instr-F.MemoryInit segment x) n = Naming.store_keeps names globals (Memories.memory_init segment x) (init_named segment x)
    form_keeps X (Instr-F.DataDrop segment) n = Naming.store_keeps names globals (Memories.data_drop segment) (λ l s h g. (h, Naming.with_datas names globals s (set s.datas segment []) g))
    form_keeps X (Instr-F.Pure op) n = Naming.pure_keeps names globals op n
    form_keeps X (Instr-F.Float code immediates) n = jump_keeps jumps.Trap tt

    -- what a host does
    told_bytes_named : (bytes : Option (List ℕ)) (s : State) → StateNamed names globals s → StateNamed names globals (told_bytes bytes s)
    told_bytes_named None s h = record { store = h.store; replies = h.replies }
    told_bytes_named (Some bytes) s h = record { store = h.store; replies = h.replies }

    set_named : (i : Option ExportDesc) (v : Value) (s : State) → V (from_host v) → StateNamed names globals s → StateNamed names globals (set_export i v s)
    set_named (Some (exports.Global x)) v s n h = record {
      store = Naming.with_globals names globals s.store (set s.store.globals x (from_host v)) h.store (length-set s.store.globals x (from_host v) ∙ h.store.count) (all_set V s.store.globals x (from_host v) n h.store.globals_named);
      replies = h.replies;
    }
    set_named (Some d) v s n h = h
    set_named None v s n h = h

    peek_named : (mem : Option Memory) (at count : ℕ) (s : State) → StateNamed names globals s → StateNamed names globals (peek mem at count s)
    peek_named None at count s h = h
    peek_named (Some mem) at count s h = told_bytes_named (read_range at count mem.bytes) s h

    poke_named : (i : Option ExportDesc) (mem : Option Memory) (at : ℕ) (bytes : List ℕ) (s : State) → StateNamed names globals s → StateNamed names globals (poke i mem at bytes s)
    poke_named (Some (exports.Memory x)) (Some mem) at bytes s h = wrote (write_range at bytes mem.bytes)
      where
        wrote : (all : Option (List ℕ)) → StateNamed names globals (told_write (option_map (λ l. Memories.with_bytes x mem l s.store) all) s)
        wrote None = record { store = h.store; replies = h.replies }
        wrote (Some l) = record { store = Naming.with_memories names globals s.store _ h.store; replies = h.replies }
    poke_named (Some (exports.Memory x)) None at bytes s h = h
    poke_named (Some d) mem at bytes s h = h
    poke_named None mem at bytes s h = h

    pub act_named : (a : Act) (s : State) → ActNamed names globals a → StateNamed names globals s → StateNamed names globals (act m a s)
    act_named (Set name v) s n h = set_named (exported m name) v s n h
    act_named (Peek name at count) s n h = peek_named (exported_memory (exported m name) s.store) at count s h
    act_named (Poke name at bytes) s n h = poke_named (exported m name) (exported_memory (exported m name) s.store) at bytes s h

    acts_named : (all : List Act) (s : State) → AllByRecursion (ActNamed names globals) all → StateNamed names globals s → StateNamed names globals (acts m all s)
    acts_named [] s n h = h
    acts_named (a ∷ rest) s n h = acts_named rest (act m a s) n.1 (act_named a s n.0 h)

    pub host_keeps : (x : ℕ) → Keeps (host_call m x)
    host_keeps x = record {
      keeps = λ q h. replies (slice_get q.state.replies x) (tell (events.HostCall x (map to_host (reverse q.operands)) (global_values m q.state)) q.state)
          (record { store = h.state.store; replies = h.state.replies }) (all_get (λ l. AllByRecursion (ReplyNamed names globals) l) q.state.replies x h.state.replies);
    }
      where
        replies : (o : Option (List Reply)) (s : State) → StateNamed names globals s → IfAny (λ l. AllByRecursion (ReplyNamed names globals) l) o → HoldsAfter (naming names globals) (replied m x o s)
        replies None s h k = (tt, record { operands = tt; locals = tt; state = h })
        replies (Some []) s h k = (tt, record { operands = tt; locals = tt; state = h })
        replies (Some (reply ∷ rest)) s h k = record {
          operands = all_reverse V (map from_host reply.values) k.0.0;
          locals = tt;
          state = acts_named reply.acts (record s { replies = set s.replies x rest }) k.0.1 (record { store = h.store; replies = all_set (λ l. AllByRecursion (ReplyNamed names globals) l) s.replies x rest k.1 h.replies });
        }
