-- Plain instructions do the same with more globals behind: each is one line.
use Rattle.std.proofs.Common.{◌≡◌, ℕ, Bool, true, false, List, [], ◌∷◌, Option, Some, None, option_map, refl, sym, ap, ◌∙◌, subst}
use Rattle.std.specs.Prelude.{option_and_then, slice_get, replicate, ◌%◌, ◌^◌, ◌+◌}
use Rattle.evaluation_kit.specs.declared.jump.Jump.{Jump}
use Rattle.evaluation_kit.specs.declared.jump.Jump.TheVariants.{Branch, TailCall}
use Rattle.outcome_kit.specs.Code.{Go, Leave}
use Rattle.evaluation_kit.specs.Configurations.{Plain, PlainRes}
use Rattle.evaluation_kit.specs.Leaves
use Rattle.evaluation_kit.specs.Leaves.{on_operands, operands_or_trap, jump_where, with_operands, below, top, read_range, write_range}
use Rattle.simulation_kit.specs.Keeping.{Holds, NamedJump, HoldsAfter, ActKeeps}
use Rattle.simulation_kit.specs.Likenesses.{JumpLike, Like, ResultLike, LeafLike}
use Rattle.lane_core.specs.declared.vector.Shape.{Shape}
use Rattle.lane_core.specs.Shapes.{lane_bytes}
use Rattle.lane_core.specs.Memory.{loaded_lane}
use Rattle.wasm_ast.specs.declared.module.immediates.MemArg.{MemArg}
use Rattle.wasm_ast.specs.declared.module.parts.Module.{Module}
use Rattle.meaning_new.specs.declared.val.Val.{Val}
use Rattle.meaning_new.specs.declared.val.Val.TheVariants as vals
use Rattle.meaning_new.specs.declared.val.Val.TheVariants.{V128}
use Rattle.meaning_new.specs.Store.{Store, State, Memory, Table, After, Growth, missing, on_store, store_or_trap, on_growth, growth_or_trap, settled_growth, is_granted}
use Rattle.meaning_new.specs.Numeric.{first, second, third}
use Rattle.meaning_new.specs.Memories
use Rattle.meaning_new.specs.Tables
use Rattle.meaning_new.specs.Exceptions.{throw, throw_ref, thrown}
use Rattle.meaning_new.specs.Forms.{pick, tail_call, tail_call_by}
use Rattle.stage_kit.specs.Adding.{Adding, more_store, moved, moved_result, added, Moves}

-- what an instruction on the store comes to
abbrev pub lifted : List Val → After → After
lifted extra o = option_map (λ r. (r.0, more_store extra r.1)) o

stored : (extra : List Val) (p : Plain Val State) (o : After) → store_or_trap (moved extra p) (lifted extra o) ≡ moved_result extra (store_or_trap p o)
stored extra p None = refl
stored extra p (Some r) = refl

-- a growth
abbrev grown : List Val → Growth → Growth
grown extra g = record g { larger = more_store extra g.larger }

settled : (extra : List Val) (ok : Bool) (p : Plain Val State) (g : Growth) → settled_growth ok (grown extra g) (moved extra p) ≡ moved_result extra (settled_growth ok g p)
settled extra true p g = refl
settled extra false p g = refl

grows : (extra : List Val) (p : Plain Val State) (o : Option Growth) → growth_or_trap (moved extra p) (option_map (grown extra) o) ≡ moved_result extra (growth_or_trap p o)
grows extra p None = refl
grows extra p (Some g) = settled extra (is_granted g p.state) p g

-- what reads and writes only what stays
then_lifted : {B : Type 0} (extra : List Val) (o : Option B) (f f' : B → After) → ((b : B) → f' b ≡ lifted extra (f b)) → option_and_then f' o ≡ lifted extra (option_and_then f o)
then_lifted extra None f f' e = refl
then_lifted extra (Some b) f f' e = e b

read_lifted : {B : Type 0} (extra : List Val) (o : Option B) (f : B → List Val) (s : Store) → option_map (λ b. (f b, more_store extra s)) o ≡ lifted extra (option_map (λ b. (f b, s)) o)
read_lifted extra None f s = refl
read_lifted extra (Some b) f s = refl

wrote_lifted : {B : Type 0} (extra : List Val) (o : Option B) (operands : List Val) (f f' : B → Store) → ((b : B) → f' b ≡ more_store extra (f b)) → option_map (λ after. (operands, after)) (option_map f' o) ≡ lifted extra (option_map (λ after. (operands, after)) (option_map f o))
wrote_lifted extra None operands f f' e = refl
wrote_lifted extra (Some b) operands f f' e = ap (λ s. Some (operands, s)) (e b)

-- An instruction on the store that reads no globals.
abbrev pub Apart : (List Val → Store → After) → Type 0
Apart f = (extra operands : List Val) (s : Store) → f operands (more_store extra s) ≡ lifted extra (f operands s)

pub load : (count : ℕ) (make : List ℕ → Val) (arg : MemArg) → Apart (Memories.load count make arg)
load count make arg extra operands s =
    then_lifted extra (slice_get s.memories arg.memory) _ _ (λ mem. read_lifted extra (Memories.read_at mem (first operands + arg.offset) count) (λ bytes. make bytes ∷ below operands) s)

pub load_lane : (shape : Shape) (arg : MemArg) (lane : ℕ) → Apart (Memories.load_lane shape arg lane)
load_lane shape arg lane extra operands s = load (lane_bytes shape) (λ bytes. V128 (loaded_lane shape lane (first operands) bytes)) arg extra (below operands) s

pub store : (bytes_of : ℕ → List ℕ) (arg : MemArg) → Apart (Memories.store bytes_of arg)
store bytes_of arg extra operands s =
    then_lifted extra (slice_get s.memories arg.memory) _ _ (λ mem. wrote_lifted extra (write_range (second operands + arg.offset) (bytes_of (first operands)) mem.bytes) (below (below operands)) _ _ (λ all. refl))

pub memory_size : (x : ℕ) → Apart (Memories.memory_size x)
memory_size x extra operands s = then_lifted extra (slice_get s.memories x) _ _ (λ mem. refl)

pub memory_fill : (x : ℕ) → Apart (Memories.memory_fill x)
memory_fill x extra operands s =
    then_lifted extra (slice_get s.memories x) _ _ (λ mem. wrote_lifted extra (write_range (third operands) (replicate (first operands) (second operands % 2 ^ 8)) mem.bytes) (below (below (below operands))) _ _ (λ all. refl))

pub memory_copy : (to from : ℕ) → Apart (Memories.memory_copy to from)
memory_copy to from extra operands s =
    then_lifted extra (slice_get s.memories to) _ _ (λ mem. then_lifted extra (slice_get s.memories from) _ _ (λ source.
    then_lifted extra (Memories.read_at source (second operands) (first operands)) _ _ (λ bytes. wrote_lifted extra (write_range (third operands) bytes mem.bytes) (below (below (below operands))) _ _ (λ all. refl))))

pub memory_init : (segment x : ℕ) → Apart (Memories.memory_init segment x)
memory_init segment x extra operands s =
    then_lifted extra (slice_get s.memories x) _ _ (λ mem.
    then_lifted extra (read_range (second operands) (first operands) (Memories.segment_bytes segment s)) _ _ (λ bytes. wrote_lifted extra (write_range (third operands) bytes mem.bytes) (below (below (below operands))) _ _ (λ all. refl)))

pub data_drop : (segment : ℕ) → Apart (Memories.data_drop segment)
data_drop segment extra operands s = refl

pub table_get : (x : ℕ) → Apart (Tables.table_get x)
table_get x extra operands s = then_lifted extra (slice_get s.tables x) _ _ (λ t. read_lifted extra (slice_get t.entries (first operands)) (λ v. v ∷ below operands) s)

pub table_set : (x : ℕ) → Apart (Tables.table_set x)
table_set x extra operands s =
    then_lifted extra (slice_get s.tables x) _ _ (λ t. wrote_lifted extra (write_range (second operands) (top missing operands ∷ []) t.entries) (below (below operands)) _ _ (λ all. refl))

pub table_size : (x : ℕ) → Apart (Tables.table_size x)
table_size x extra operands s = then_lifted extra (slice_get s.tables x) _ _ (λ t. refl)

pub table_fill : (x : ℕ) → Apart (Tables.table_fill x)
table_fill x extra operands s =
    then_lifted extra (slice_get s.tables x) _ _ (λ t. wrote_lifted extra (write_range (third operands) (replicate (first operands) (top missing (below operands))) t.entries) (below (below (below operands))) _ _ (λ all. refl))

pub table_copy : (to from : ℕ) → Apart (Tables.table_copy to from)
table_copy to from extra operands s =
    then_lifted extra (slice_get s.tables to) _ _ (λ t. then_lifted extra (slice_get s.tables from) _ _ (λ source.
    then_lifted extra (read_range (second operands) (first operands) source.entries) _ _ (λ entries. wrote_lifted extra (write_range (third operands) entries t.entries) (below (below (below operands))) _ _ (λ all. refl))))

pub table_init : (segment x : ℕ) → Apart (Tables.table_init segment x)
table_init segment x extra operands s =
    then_lifted extra (slice_get s.tables x) _ _ (λ t.
    then_lifted extra (read_range (second operands) (first operands) (Tables.segment_entries segment s)) _ _ (λ entries. wrote_lifted extra (write_range (third operands) entries t.entries) (below (below (below operands))) _ _ (λ all. refl)))

pub elem_drop : (segment : ℕ) → Apart (Tables.elem_drop segment)
elem_drop segment extra operands s = refl

-- growths
memory_grows : (x : ℕ) (extra operands : List Val) (s : Store) → Memories.memory_grow x operands (more_store extra s) ≡ option_map (grown extra) (Memories.memory_grow x operands s)
memory_grows x extra operands s = both (slice_get s.memories x)
  where
    both : (o : Option Memory) → option_map (Memories.memory_growth x operands (more_store extra s)) o ≡ option_map (grown extra) (option_map (Memories.memory_growth x operands s) o)
    both None = refl
    both (Some mem) = refl

table_grows : (x : ℕ) (extra operands : List Val) (s : Store) → Tables.table_grow x operands (more_store extra s) ≡ option_map (grown extra) (Tables.table_grow x operands s)
table_grows x extra operands s = both (slice_get s.tables x)
  where
    both : (o : Option Table) → option_map (Tables.table_growth x operands (more_store extra s)) o ≡ option_map (grown extra) (option_map (Tables.table_growth x operands s) o)
    both None = refl
    both (Some t) = refl

module _ {m o : Module} (A : Adding m o) where
  -- an instruction on operands alone, on the store, and a growth
  pub moves_operands : (f : List Val → Option (List Val)) → Moves A (on_operands f) (on_operands f)
  moves_operands f = record { moves = λ extra q h e. both extra q (f q.operands) }
    where
      both : (extra : List Val) (q : Plain Val State) (r : Option (List Val)) → operands_or_trap (moved extra q) r ≡ moved_result extra (operands_or_trap q r)
      both extra q None = refl
      both extra q (Some l) = refl

  pub moves_store : (f : List Val → Store → After) → Apart f → Moves A (on_store f) (on_store f)
  moves_store f apart = record {
    moves = λ extra q h e. ap (store_or_trap (moved extra q)) (apart extra q.operands q.state.store) ∙ stored extra q (f q.operands q.state.store);
  }

  pub moves_memory_grow : (x : ℕ) → Moves A (on_growth (Memories.memory_grow x)) (on_growth (Memories.memory_grow x))
  moves_memory_grow x = record {
    moves = λ extra q h e. ap (growth_or_trap (moved extra q)) (memory_grows x extra q.operands q.state.store) ∙ grows extra q (Memories.memory_grow x q.operands q.state.store);
  }

  pub moves_table_grow : (x : ℕ) → Moves A (on_growth (Tables.table_grow x)) (on_growth (Tables.table_grow x))
  moves_table_grow x = record {
    moves = λ extra q h e. ap (growth_or_trap (moved extra q)) (table_grows x extra q.operands q.state.store) ∙ grows extra q (Tables.table_grow x q.operands q.state.store);
  }

  -- globals that are named
  pub moves_global_get : (x : ℕ) → A.names.global x ≡ true → Moves A (on_store (Tables.global_get x)) (on_store (Tables.global_get x))
  moves_global_get x named = record {
    moves = λ extra q h e. ap (λ v. store_or_trap (moved extra q) (Some (v ∷ q.operands, more_store extra q.state.store))) (A.reads q.state.store.globals extra x (A.counted q.state h.state) e named);
  }

  pub moves_global_set : (x : ℕ) → A.names.global x ≡ true → Moves A (on_store (Tables.global_set x)) (on_store (Tables.global_set x))
  moves_global_set x named = record {
    moves = λ extra q h e.
        ap (λ (l : List Val). store_or_trap (moved extra q) (Some (below q.operands, record q.state.store { globals = l })))
        (A.writes q.state.store.globals extra x (top missing q.operands) (A.counted q.state h.state) e named);
  }

  -- locals and jumps
  pub moves_nothing : Moves A (Leaves.nothing {V = Val} {S = State}) Leaves.nothing
  moves_nothing = record { moves = λ extra q h e. refl }

  pub moves_get : (x : ℕ) → Moves A (Leaves.get_local missing x) (Leaves.get_local missing x)
  moves_get x = record { moves = λ extra q h e. refl }

  pub moves_set : (x : ℕ) → Moves A (Leaves.set_local missing x) (Leaves.set_local missing x)
  moves_set x = record { moves = λ extra q h e. refl }

  pub moves_tee : (x : ℕ) → Moves A (Leaves.tee_local missing x) (Leaves.tee_local missing x)
  moves_tee x = record { moves = λ extra q h e. refl }

  pub moves_jump : (j : Jump) → Moves A (Leaves.jump {V = Val} {S = State} j) (Leaves.jump j)
  moves_jump j = record { moves = λ extra q h e. refl }

  pub moves_branch_if : (test : List Val → Bool) (k : ℕ) → Moves A (Leaves.branch_if test k) (Leaves.branch_if test k)
  moves_branch_if test k = record { moves = λ extra q h e. both extra (test q.operands) (with_operands (below q.operands) q) }
    where
      both : (extra : List Val) (b : Bool) (q : Plain Val State) → jump_where b (Branch k) (moved extra q) ≡ moved_result extra (jump_where b (Branch k) q)
      both extra true q = refl
      both extra false q = refl

  pub moves_branch_table : (number : List Val → ℕ) (labels : List ℕ) (last : ℕ) → Moves A (Leaves.branch_table number labels last) (Leaves.branch_table number labels last)
  moves_branch_table number labels last = record { moves = λ extra q h e. refl }

  -- exceptions
  pub moves_throw : (x count : ℕ) → Moves A (throw x count) (throw x count)
  moves_throw x count = record { moves = λ extra q h e. refl }

  pub moves_throw_ref : Moves A throw_ref throw_ref
  moves_throw_ref = record { moves = λ extra q h e. both extra (top missing q.operands) (record q { operands = below q.operands }) }
    where
      both : (extra : List Val) (v : Val) (q : Plain Val State) → thrown v (moved extra q) ≡ moved_result extra (thrown v q)
      both extra (vals.Exn x) q = refl
      both extra v q = refl

  -- a tail call of what an entry of a table picks
  pub moves_tail : (t table : ℕ) → A.names.type t ≡ true → Moves A (tail_call_by m t table) (tail_call_by o t table)
  moves_tail t table named = record {
    moves = λ extra q h e.
        ap (λ i. tail_call i (with_operands (below q.operands) (moved extra q))) (A.picks t table extra q named h)
        ∙ both extra (pick m t table q) (with_operands (below q.operands) q);
  }
    where
      both : (extra : List Val) (i : Option ℕ) (q : Plain Val State) → tail_call i (moved extra q) ≡ moved_result extra (tail_call i q)
      both extra None q = refl
      both extra (Some f) q = refl

  -- what moves is alike
  pub jump_like : (j : Jump) → NamedJump A.keeps j → JumpLike (added A) j j
  jump_like (TailCall f) n = (n, refl)
  jump_like j n = refl

  like_moved : (extra : List Val) (q : Plain Val State) → A.Extra extra → Holds A.keeps q → Like (added A) q (moved extra q)
  like_moved extra q e h = record { operands = refl; locals = refl; state = record { extra = extra; is_extra = e; is_more = refl }; sound_operands = h.operands; sound_locals = h.locals; safe = h.state }

  pub result_moved : (extra : List Val) (r : PlainRes Val State) → A.Extra extra → HoldsAfter A.keeps r → ResultLike (added A) r (moved_result extra r)
  result_moved extra (Go q) e h = like_moved extra q e h
  result_moved extra (Leave j q) e h = (jump_like j h.0, like_moved extra q e h.1)

  -- a configuration that is alike is the same with more globals
  pub is_moved : (q q' : Plain Val State) → (h : Like (added A) q q') → q' ≡ moved h.state.extra q
  is_moved q q' h =
      ap (λ (l : List Val). record { operands = l; locals = q'.locals; state = q'.state }) h.operands
      ∙ ap (λ (l : List Val). record { operands = q.operands; locals = l; state = q'.state }) h.locals
      ∙ ap (λ (s : State). record { operands = q.operands; locals = q.locals; state = s }) h.state.is_more

  pub holds : (q q' : Plain Val State) → Like (added A) q q' → Holds A.keeps q
  holds q q' h = record { operands = h.sound_operands; locals = h.sound_locals; state = h.safe }

  pub act_like : (act act' : Plain Val State → PlainRes Val State) → Moves A act act' → ActKeeps A.keeps act → (q q' : Plain Val State) → Like (added A) q q' → ResultLike (added A) (act q) (act' q')
  act_like act act' h keeps q q' e =
      subst (λ r. ResultLike (added A) (act q) r) (sym (ap act' (is_moved q q' e) ∙ h.moves e.state.extra q (holds q q' e) e.state.is_extra))
      (result_moved e.state.extra (act q) e.state.is_extra (keeps.keeps q (holds q q' e)))

  pub leaf_like : (act act' : Plain Val State → PlainRes Val State) → Moves A act act' → ActKeeps A.keeps act → LeafLike (added A) act act'
  leaf_like act act' h keeps = record { acts = act_like act act' h keeps }
