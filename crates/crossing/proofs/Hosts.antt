-- What the host does: it sees the same, and it leaves images.
use Rattle.std.proofs.Math.ListN.{get_or-map}
use Rattle.std.proofs.Common.{◌≡◌, ℕ, Bool, true, false, List, [], ◌∷◌, map, set, reverse, Option, Some, None, option_map, refl, ap, ◌∙◌}
use Rattle.std.specs.Prelude.{slice_get, slice_index_or, bytes_eq, cond}
use Rattle.std.specs.List.{AllByRecursion, find}
use Rattle.std.proofs.lemmas.Option.{slice_get-map}
use Rattle.evaluation_kit.specs.Configurations.{Plain}
use Rattle.evaluation_kit.specs.Leaves.{read_range, write_range}
use Rattle.outcome_kit.specs.Code.{Go}
use Rattle.simulation_kit.specs.Keeping.{HoldsAfter}
use Rattle.simulation_kit.specs.Likenesses.{Lasts, HostLike}
use Rattle.simulation_kit.specs.Mirrors.{mirrored, result_image, reverse-map}
use Rattle.host_kit.specs.Offered.{exported}
use Rattle.host_kit.specs.Offered1.{exported1}
use Rattle.host_kit.specs.declared.event.Event.{Event}
use Rattle.host_kit.specs.declared.event.Event.TheVariants as events
use Rattle.host_kit.specs.declared.script.Act.{Act}
use Rattle.host_kit.specs.declared.script.Act.TheVariants.{Set, Peek, Poke}
use Rattle.host_kit.specs.declared.script.Reply.{Reply}
use Rattle.host_kit.specs.declared.value.Value.{Value}
use Rattle.host_kit.specs.declared.value.Value.TheVariants as values
use Rattle.wasm_ast.specs.declared.module.parts.Export.{Export}
use Rattle.core1_ast.specs.declared.module.parts.Export1.{Export1}
use Rattle.wasm_ast.specs.declared.module.parts.ExportDesc.{ExportDesc}
use Rattle.wasm_ast.specs.declared.module.parts.ExportDesc.TheVariants as exports
use Rattle.wasm_ast.specs.declared.module.parts.Module.{Module}
use Rattle.meaning_new.specs.declared.val.Val.{Val}
use Rattle.meaning_new.specs.declared.val.Val.TheVariants as vals
use Rattle.meaning_new.specs.Store.{Memory, Store, State, missing, to_host, from_host, tell, with_store}
use Rattle.meaning_new.specs.Memories.{with_bytes}
use Rattle.meaning_new.specs.Tables.{with_global}
use Rattle.meaning_new.specs.Host.{global_value, global_values, set_export, exported_memory, told_bytes, peek, told_write, poke, act, acts, replied, host_call}
use Rattle.meaning_core1.specs.declared.val1.Val1.{Val1}
use Rattle.meaning_core1.specs.Store.{Store1, State1, in_store, host_value, value_from, show}
use Rattle.meaning_core1.specs.Accesses.{put_global}
use Rattle.meaning_core1.specs.Hosting.{exported_value, exported_values, set1, shown_bytes, peek_memory, peek1, poked, poke_memory, poke1, act1, acts1, answer1, call_host}
use Rattle.crossing.specs.Modules.{cross, cross_export, cross_export_desc}
use Rattle.crossing.specs.States.{cross_value, cross_memory, cross_store, cross_state, IsInteger, IsIntegerOfHost, ActIsPlain, ReplyIsPlain, StoreIsPlain, IsPlain}
use Rattle.crossing.proofs.Keeping.{Integers, IfThere, keeps, all_reverse, all_set, all_at, all_get}
use Rattle.crossing.proofs.Images.{M, crossed, leaf_kept}
use Rattle.crossing.proofs.Stores.{IsNarrow, with_global_plain, with_global_cross, with_bytes_plain, with_bytes_cross}
use Rattle.crossing.proofs.Types.{filter_map-cross}

-- values between code and the host
pub host-cross : (v : Val) → IsInteger v → host_value (cross_value v) ≡ to_host v
host-cross (vals.I32 i) h = refl
host-cross (vals.I64 i) h = refl
host-cross v h = absurd h

hosts-cross : (l : List Val) → Integers l → map host_value (crossed l) ≡ map to_host l
hosts-cross [] h = refl
hosts-cross (v ∷ l) h = ap (λ (w : Value). w ∷ map host_value (crossed l)) (host-cross v h.0) ∙ ap (λ (ws : List Value). to_host v ∷ ws) (hosts-cross l h.1)

pub given-cross : (l : List Val) → Integers l → map host_value (reverse (crossed l)) ≡ map to_host (reverse l)
given-cross l h = ap (map host_value) (reverse-map cross_value l) ∙ hosts-cross (reverse l) (all_reverse IsInteger l h)

from-cross : (v : Value) → IsIntegerOfHost v → value_from v ≡ cross_value (from_host v)
from-cross (values.I32 i) h = refl
from-cross (values.I64 i) h = refl
from-cross v h = absurd h

pub froms-cross : (l : List Value) → AllByRecursion IsIntegerOfHost l → map value_from l ≡ crossed (map from_host l)
froms-cross [] h = refl
froms-cross (v ∷ l) h = ap (λ (w : Val1). w ∷ map value_from l) (from-cross v h.0) ∙ ap (λ (ws : List Val1). cross_value (from_host v) ∷ ws) (froms-cross l h.1)

pub taken-cross : (l : List Value) → AllByRecursion IsIntegerOfHost l → reverse (map value_from l) ≡ crossed (reverse (map from_host l))
taken-cross l h = ap reverse (froms-cross l h) ∙ reverse-map cross_value (map from_host l)

from_plain : (v : Value) → IsIntegerOfHost v → IsInteger (from_host v)
from_plain (values.I32 i) h = tt
from_plain (values.I64 i) h = tt
from_plain v h = absurd h

pub froms_plain : (l : List Value) → AllByRecursion IsIntegerOfHost l → Integers (map from_host l)
froms_plain [] h = tt
froms_plain (v ∷ l) h = (from_plain v h.0, froms_plain l h.1)

pub taken_plain : (l : List Value) → AllByRecursion IsIntegerOfHost l → Integers (reverse (map from_host l))
taken_plain l h = all_reverse IsInteger (map from_host l) (froms_plain l h)

-- what the host sees of globals
shown_value : (s : Store) → StoreIsPlain s → (d : ExportDesc) → exported_value (cross_store s) (cross_export_desc d) ≡ global_value s d
shown_value s h (exports.Global x) =
    ap (λ (v : Val1). Some (host_value v)) (get_or-map cross_value s.globals x missing)
    ∙ ap (λ (v : Value). Some v) (host-cross (slice_index_or s.globals x missing) (all_at IsInteger s.globals x missing h.globals tt))
shown_value s h d = refl

module _ (m : Module) where
  pub globals-cross : (s : State) → StoreIsPlain s.store → exported_values (cross m) (cross_state s) ≡ global_values m s
  globals-cross s h = filter_map-cross cross_export (λ e. global_value s.store e.desc) (λ e. exported_value (cross_store s.store) e.desc) (λ e. shown_value s.store h e.desc) m.exports

  -- what is exported under a name
  found : (b : Bool) (e : Export) (o : Option Export1) (o' : Option Export) → option_map (λ x. x.desc) o ≡ option_map cross_export_desc (option_map (λ x. x.desc) o') → option_map (λ x. x.desc) (cond b (Some (cross_export e)) o) ≡ option_map cross_export_desc (option_map (λ x. x.desc) (cond b (Some e) o'))
  found true e o o' h = refl
  found false e o o' h = h

  find-cross : (name : List ℕ) (es : List Export) → option_map (λ e. e.desc) (find (λ e. bytes_eq e.name name) (map cross_export es)) ≡ option_map cross_export_desc (option_map (λ e. e.desc) (find (λ e. bytes_eq e.name name) es))
  find-cross name [] = refl
  find-cross name (e ∷ es) = found (bytes_eq e.name name) e (find (λ x. bytes_eq x.name name) (map cross_export es)) (find (λ x. bytes_eq x.name name) es) (find-cross name es)

  pub exported-cross : (name : List ℕ) → exported1 (cross m) name ≡ option_map cross_export_desc (exported m name)
  exported-cross name = find-cross name m.exports

  -- acts
  sets : (o : Option ExportDesc) (v : Value) (s : State) → IsIntegerOfHost v → set1 (option_map cross_export_desc o) v (cross_state s) ≡ cross_state (set_export o v s)
  sets (Some (exports.Global x)) v s h =
      ap (λ (w : Val1). in_store (put_global x w (cross_store s.store)) (cross_state s)) (from-cross v h)
      ∙ ap (λ (l : List Val1). in_store (record (cross_store s.store) { globals = l }) (cross_state s)) (with_global_cross x (from_host v) s.store)
  sets (Some d) v s h = refl
  sets None v s h = refl

  shows_bytes : (o : Option (List ℕ)) (s : State) → shown_bytes o (cross_state s) ≡ cross_state (told_bytes o s)
  shows_bytes None s = refl
  shows_bytes (Some bytes) s = refl

  peeks_at : (o : Option Memory) (at count : ℕ) (s : State) → peek_memory (option_map cross_memory o) at count (cross_state s) ≡ cross_state (peek o at count s)
  peeks_at None at count s = refl
  peeks_at (Some n) at count s = shows_bytes (read_range at count n.bytes) s

  peeks : (o : Option ExportDesc) (at count : ℕ) (s : State) → peek1 (option_map cross_export_desc o) at count (cross_state s) ≡ cross_state (peek (exported_memory o s.store) at count s)
  peeks (Some (exports.Memory x)) at count s =
      ap (λ o. peek_memory o at count (cross_state s)) (slice_get-map cross_memory s.store.memories x)
      ∙ peeks_at (slice_get s.store.memories x) at count s
  peeks (Some d) at count s = refl
  peeks None at count s = refl

  writes : (x : ℕ) (n : Memory) (o : Option (List ℕ)) (s : State) → poked x (cross_memory n) o (cross_state s) ≡ cross_state (told_write (option_map (λ all. with_bytes x n all s.store) o) s)
  writes x n None s = refl
  writes x n (Some bytes) s = ap (λ (t : Store1). in_store t (cross_state s)) (with_bytes_cross x n bytes s.store)

  pokes_at : (x : ℕ) (o : Option Memory) (at : ℕ) (bytes : List ℕ) (s : State) → poke_memory x (option_map cross_memory o) at bytes (cross_state s) ≡ cross_state (poke (Some (exports.Memory x)) o at bytes s)
  pokes_at x None at bytes s = refl
  pokes_at x (Some n) at bytes s = writes x n (write_range at bytes n.bytes) s

  pokes : (o : Option ExportDesc) (at : ℕ) (bytes : List ℕ) (s : State) → poke1 (option_map cross_export_desc o) at bytes (cross_state s) ≡ cross_state (poke o (exported_memory o s.store) at bytes s)
  pokes (Some (exports.Memory x)) at bytes s =
      ap (λ o. poke_memory x o at bytes (cross_state s)) (slice_get-map cross_memory s.store.memories x)
      ∙ pokes_at x (slice_get s.store.memories x) at bytes s
  pokes (Some d) at bytes s = refl
  pokes None at bytes s = refl

  pub act-cross : (a : Act) (s : State) → ActIsPlain a → act1 (cross m) a (cross_state s) ≡ cross_state (act m a s)
  act-cross (Set name v) s h = ap (λ o. set1 o v (cross_state s)) (exported-cross name) ∙ sets (exported m name) v s h
  act-cross (Peek name at count) s h = ap (λ o. peek1 o at count (cross_state s)) (exported-cross name) ∙ peeks (exported m name) at count s
  act-cross (Poke name at bytes) s h = ap (λ o. poke1 o at bytes (cross_state s)) (exported-cross name) ∙ pokes (exported m name) at bytes s

  -- what acts keep
  pub tell_plain : (e : Event) (s : State) → IsPlain s → IsPlain (tell e s)
  tell_plain e s h = record { store = h.store; permits = h.permits; replies = h.replies }

  store_plain : (t : Store) (s : State) → StoreIsPlain t → IsPlain s → IsPlain (with_store t s)
  store_plain t s k h = record { store = k; permits = h.permits; replies = h.replies }

  sets_plain : (o : Option ExportDesc) (v : Value) (s : State) → IsIntegerOfHost v → IsPlain s → IsPlain (set_export o v s)
  sets_plain (Some (exports.Global x)) v s k h = store_plain (with_global x (from_host v) s.store) s (with_global_plain x (from_host v) s.store (from_plain v k) h.store) h
  sets_plain (Some d) v s k h = h
  sets_plain None v s k h = h

  told_plain : (o : Option (List ℕ)) (s : State) → IsPlain s → IsPlain (told_bytes o s)
  told_plain None s h = tell_plain events.OutOfRange s h
  told_plain (Some bytes) s h = tell_plain (events.Peeked bytes) s h

  peeks_plain : (o : Option Memory) (at count : ℕ) (s : State) → IsPlain s → IsPlain (peek o at count s)
  peeks_plain None at count s h = h
  peeks_plain (Some n) at count s h = told_plain (read_range at count n.bytes) s h

  writes_plain : (x : ℕ) (n : Memory) (o : Option (List ℕ)) (s : State) → IsNarrow n → IsPlain s → IsPlain (told_write (option_map (λ all. with_bytes x n all s.store) o) s)
  writes_plain x n None s k h = tell_plain events.OutOfRange s h
  writes_plain x n (Some bytes) s k h = store_plain (with_bytes x n bytes s.store) s (with_bytes_plain x n bytes s.store k h.store) h

  pokes_at_plain : (x : ℕ) (o : Option Memory) (at : ℕ) (bytes : List ℕ) (s : State) → IfThere IsNarrow o → IsPlain s → IsPlain (poke (Some (exports.Memory x)) o at bytes s)
  pokes_at_plain x None at bytes s k h = h
  pokes_at_plain x (Some n) at bytes s k h = writes_plain x n (write_range at bytes n.bytes) s k h

  pokes_plain : (o : Option ExportDesc) (at : ℕ) (bytes : List ℕ) (s : State) → IsPlain s → IsPlain (poke o (exported_memory o s.store) at bytes s)
  pokes_plain (Some (exports.Memory x)) at bytes s h = pokes_at_plain x (slice_get s.store.memories x) at bytes s (all_get IsNarrow s.store.memories x h.store.memories) h
  pokes_plain (Some d) at bytes s h = h
  pokes_plain None at bytes s h = h

  pub act_plain : (a : Act) (s : State) → ActIsPlain a → IsPlain s → IsPlain (act m a s)
  act_plain (Set name v) s k h = sets_plain (exported m name) v s k h
  act_plain (Peek name at count) s k h = peeks_plain (exported_memory (exported m name) s.store) at count s h
  act_plain (Poke name at bytes) s k h = pokes_plain (exported m name) at bytes s h

  acts-cross : (done : List Act) (s : State) → AllByRecursion ActIsPlain done → acts1 (cross m) done (cross_state s) ≡ cross_state (acts m done s)
  acts-cross [] s h = refl
  acts-cross (a ∷ done) s h = ap (acts1 (cross m) done) (act-cross a s h.0) ∙ acts-cross done (act m a s) h.1

  acts_plain : (done : List Act) (s : State) → AllByRecursion ActIsPlain done → IsPlain s → IsPlain (acts m done s)
  acts_plain [] s k h = h
  acts_plain (a ∷ done) s k h = acts_plain done (act m a s) k.1 (act_plain a s k.0 h)

  -- a call of an imported function
  abbrev Replies : List Reply → Type 0
  Replies rs = AllByRecursion ReplyIsPlain rs

  abbrev after_reply : ℕ → List Reply → State → State
  after_reply x more s = record s { replies = set s.replies x more }

  after_plain : (x : ℕ) (more : List Reply) (s : State) → Replies more → IsPlain s → IsPlain (after_reply x more s)
  after_plain x more s k h = record { store = h.store; permits = h.permits; replies = all_set Replies s.replies x more h.replies k }

  answers : (x : ℕ) (o : Option (List Reply)) (s : State) → IfThere Replies o → answer1 (cross m) x o (cross_state s) ≡ result_image M (replied m x o s)
  answers x (Some (reply ∷ more)) s k =
      ap (λ (l : List Val1). Go (record { operands = l; locals = []; state = acts1 (cross m) reply.acts (cross_state (after_reply x more s)) })) (taken-cross reply.values k.0.values)
      ∙ ap (λ (t : State1). Go (record { operands = crossed (reverse (map from_host reply.values)); locals = []; state = t })) (acts-cross reply.acts (after_reply x more s) k.0.acts)
  answers x (Some []) s k = refl
  answers x None s k = refl

  answers_kept : (x : ℕ) (o : Option (List Reply)) (s : State) → IfThere Replies o → IsPlain s → HoldsAfter keeps (replied m x o s)
  answers_kept x (Some (reply ∷ more)) s k h = record {
    operands = taken_plain reply.values k.0.values;
    locals = tt;
    state = acts_plain reply.acts (after_reply x more s) k.0.acts (after_plain x more s k.1 h);
  }
  answers_kept x (Some []) s k h = (tt, record { operands = tt; locals = tt; state = h })
  answers_kept x None s k h = (tt, record { operands = tt; locals = tt; state = h })

  answers_last : (x : ℕ) (o : Option (List Reply)) (s : State) → Lasts (mirrored M) (replied m x o s)
  answers_last x (Some (reply ∷ more)) s = tt
  answers_last x (Some []) s = tt
  answers_last x None s = tt

  abbrev called : ℕ → Plain Val State → State
  called x q = tell (events.HostCall x (map to_host (reverse q.operands)) (global_values m q.state)) q.state

  pub host_like : (x : ℕ) → HostLike (mirrored M) (host_call m x) (call_host (cross m) x)
  host_like x = record {
    acts =
        (leaf_kept (host_call m x) (call_host (cross m) x)
        (λ q h.
        ap (λ (vs : List Value). answer1 (cross m) x (slice_get q.state.replies x) (show (events.HostCall x vs (exported_values (cross m) (cross_state q.state))) (cross_state q.state))) (given-cross q.operands h.operands)
        ∙ ap (λ (vs : List Value). answer1 (cross m) x (slice_get q.state.replies x) (show (events.HostCall x (map to_host (reverse q.operands)) vs) (cross_state q.state))) (globals-cross q.state h.state.store)
        ∙ answers x (slice_get q.state.replies x) (called x q) (all_get Replies q.state.replies x h.state.replies))
        (record { keeps = λ q h. answers_kept x (slice_get q.state.replies x) (called x q) (all_get Replies q.state.replies x h.state.replies) (tell_plain (events.HostCall x (map to_host (reverse q.operands)) (global_values m q.state)) q.state h.state) })).acts;
    lasts = λ q. answers_last x (slice_get q.state.replies x) (called x q);
  }
