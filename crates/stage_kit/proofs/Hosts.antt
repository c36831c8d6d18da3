-- What a host does with a module it does with the output, where the output has more globals behind.
use Rattle.std.proofs.Common.{◌≡◌, ℕ, Bool, true, false, List, [], ◌∷◌, map, length, reverse, Option, Some, None, option_map, refl, sym, ap, ◌∙◌, subst}
use Rattle.std.specs.Prelude.{slice_get, set, find, filter_map, bytes_eq, cond}
use Rattle.std.specs.List.{AllByRecursion, cons_option}
use Rattle.std.proofs.lemmas.List.{length-set}
use Rattle.host_kit.specs.Offered.{exported}
use Rattle.host_kit.specs.declared.event.Event.TheVariants as events
use Rattle.host_kit.specs.declared.script.Act.{Act}
use Rattle.host_kit.specs.declared.script.Act.TheVariants.{Set, Peek, Poke}
use Rattle.host_kit.specs.declared.script.Reply.{Reply}
use Rattle.host_kit.specs.declared.value.Value.{Value}
use Rattle.wasm_ast.specs.declared.module.parts.Export.{Export}
use Rattle.wasm_ast.specs.declared.module.parts.ExportDesc.{ExportDesc}
use Rattle.wasm_ast.specs.declared.module.parts.ExportDesc.TheVariants as exports
use Rattle.wasm_ast.specs.declared.module.parts.Module.{Module}
use Rattle.outcome_kit.specs.Code.{Go}
use Rattle.evaluation_kit.specs.Configurations.{Plain}
use Rattle.evaluation_kit.specs.Leaves.{read_range, write_range}
use Rattle.simulation_kit.specs.Likenesses.{Lasts, HostLike}
use Rattle.meaning_new.specs.declared.val.Val.{Val}
use Rattle.meaning_new.specs.Store.{Store, State, Memory, to_host, from_host, tell}
use Rattle.meaning_new.specs.Memories.{with_bytes}
use Rattle.meaning_new.specs.Host.{global_value, global_values, set_export, exported_memory, told_bytes, peek, told_write, poke, act, acts, replied, host_call}
use Rattle.stage_kit.specs.Adding.{Names, Adding, more_store, more, moved, moved_result, added, Moves}
use Rattle.stage_kit.specs.Hosting.{export_named, Offers}
use Rattle.stage_kit.proofs.Moving.{act_like}

-- what is exported under a name is named
abbrev OptionNamed : Names → Option ExportDesc → Type 0
OptionNamed names None = Unit {0}
OptionNamed names (Some desc) = export_named names desc ≡ true

found_named : (names : Names) (p : Export → Bool) (es : List Export) → AllByRecursion (λ e. export_named names e.desc ≡ true) es → OptionNamed names (option_map (λ e. e.desc) (find p es))
found_named names p [] h = tt
found_named names p (e ∷ es) h = one (p e) (found_named names p es h.1)
  where
    one : (b : Bool) → OptionNamed names (option_map (λ i. i.desc) (find p es)) → OptionNamed names (option_map (λ i. i.desc) (cond b (Some e) (find p es)))
    one true rest = h.0
    one false rest = rest

module _ {m o : Module} (A : Adding m o) (offers : Offers A) where
  pub exported_same : (name : List ℕ) → exported o name ≡ exported m name
  exported_same name = ap (λ (es : List Export). option_map (λ e. e.desc) (find (λ e. bytes_eq e.name name) es)) offers.exports

  exported_named : (name : List ℕ) → OptionNamed A.names (exported m name)
  exported_named name = found_named A.names (λ e. bytes_eq e.name name) m.exports offers.named

  module _ (extra : List Val) (is_extra : A.Extra extra) where
    -- the values of the exported globals
    value_same : (s : State) → A.Count (length s.store.globals) → (desc : ExportDesc) → export_named A.names desc ≡ true → global_value (more_store extra s.store) desc ≡ global_value s.store desc
    value_same s count (exports.Global x) named = ap (λ v. Some (to_host v)) (A.reads s.store.globals extra x count is_extra named)
    value_same s count desc named = refl

    values_of : (s : State) → A.Count (length s.store.globals) → (es : List Export) → AllByRecursion (λ e. export_named A.names e.desc ≡ true) es → filter_map (λ e. global_value (more_store extra s.store) e.desc) es ≡ filter_map (λ e. global_value s.store e.desc) es
    values_of s count [] named = refl
    values_of s count (e ∷ es) named =
        ap (λ v. cons_option v (filter_map (λ i. global_value (more_store extra s.store) i.desc) es)) (value_same s count e.desc named.0)
        ∙ ap (cons_option (global_value s.store e.desc)) (values_of s count es named.1)

    pub values_same : (s : State) → A.Count (length s.store.globals) → global_values o (more extra s) ≡ global_values m s
    values_same s count =
        ap (λ (es : List Export). filter_map (λ e. global_value (more_store extra s.store) e.desc) es) offers.exports ∙ values_of s count m.exports offers.named

    -- acts
    sets : (s : State) → A.Count (length s.store.globals) → (i : Option ExportDesc) → OptionNamed A.names i → (v : Value) → set_export i v (more extra s) ≡ more extra (set_export i v s)
    sets s count (Some (exports.Global x)) named v =
        ap (λ (l : List Val). record s { store = record s.store { globals = l } }) (A.writes s.store.globals extra x (from_host v) count is_extra named)
    sets s count (Some desc) named v = refl
    sets s count None named v = refl

    told : (s : State) (bytes : Option (List ℕ)) → told_bytes bytes (more extra s) ≡ more extra (told_bytes bytes s)
    told s None = refl
    told s (Some bytes) = refl

    peeks : (s : State) (mem : Option Memory) (at count : ℕ) → peek mem at count (more extra s) ≡ more extra (peek mem at count s)
    peeks s None at count = refl
    peeks s (Some mem) at count = told s (read_range at count mem.bytes)

    pokes : (s : State) (i : Option ExportDesc) (mem : Option Memory) (at : ℕ) (bytes : List ℕ) → poke i mem at bytes (more extra s) ≡ more extra (poke i mem at bytes s)
    pokes s (Some (exports.Memory x)) (Some mem) at bytes = wrote (write_range at bytes mem.bytes)
      where
        wrote : (all : Option (List ℕ)) → told_write (option_map (λ l. with_bytes x mem l (more_store extra s.store)) all) (more extra s) ≡ more extra (told_write (option_map (λ l. with_bytes x mem l s.store) all) s)
        wrote None = refl
        wrote (Some l) = refl
    pokes s (Some (exports.Memory x)) None at bytes = refl
    pokes s (Some desc) mem at bytes = refl
    pokes s None mem at bytes = refl

    memory_same : (i : Option ExportDesc) (s : Store) → exported_memory i (more_store extra s) ≡ exported_memory i s
    memory_same (Some (exports.Memory x)) s = refl
    memory_same (Some desc) s = refl
    memory_same None s = refl

    pub act_same : (a : Act) (s : State) → A.Count (length s.store.globals) → act o a (more extra s) ≡ more extra (act m a s)
    act_same (Set name v) s count = ap (λ i. set_export i v (more extra s)) (exported_same name) ∙ sets s count (exported m name) (exported_named name) v
    act_same (Peek name at count) s c =
        ap (λ i. peek (exported_memory i (more_store extra s.store)) at count (more extra s)) (exported_same name)
        ∙ ap (λ mem. peek mem at count (more extra s)) (memory_same (exported m name) s.store)
        ∙ peeks s (exported_memory (exported m name) s.store) at count
    act_same (Poke name at bytes) s c =
        ap (λ i. poke i (exported_memory i (more_store extra s.store)) at bytes (more extra s)) (exported_same name)
        ∙ ap (λ mem. poke (exported m name) mem at bytes (more extra s)) (memory_same (exported m name) s.store)
        ∙ pokes s (exported m name) (exported_memory (exported m name) s.store) at bytes

    -- acts leave the number of globals
    set_counts : (i : Option ExportDesc) (v : Value) (s : State) → length (set_export i v s).store.globals ≡ length s.store.globals
    set_counts (Some (exports.Global x)) v s = length-set s.store.globals x (from_host v)
    set_counts (Some desc) v s = refl
    set_counts None v s = refl

    told_counts : (bytes : Option (List ℕ)) (s : State) → length (told_bytes bytes s).store.globals ≡ length s.store.globals
    told_counts None s = refl
    told_counts (Some bytes) s = refl

    peek_counts : (mem : Option Memory) (at count : ℕ) (s : State) → length (peek mem at count s).store.globals ≡ length s.store.globals
    peek_counts None at count s = refl
    peek_counts (Some mem) at count s = told_counts (read_range at count mem.bytes) s

    poke_counts : (i : Option ExportDesc) (mem : Option Memory) (at : ℕ) (bytes : List ℕ) (s : State) → length (poke i mem at bytes s).store.globals ≡ length s.store.globals
    poke_counts (Some (exports.Memory x)) (Some mem) at bytes s = wrote (write_range at bytes mem.bytes)
      where
        wrote : (all : Option (List ℕ)) → length (told_write (option_map (λ l. with_bytes x mem l s.store) all) s).store.globals ≡ length s.store.globals
        wrote None = refl
        wrote (Some l) = refl
    poke_counts (Some (exports.Memory x)) None at bytes s = refl
    poke_counts (Some desc) mem at bytes s = refl
    poke_counts None mem at bytes s = refl

    pub act_counts : (a : Act) (s : State) → length (act m a s).store.globals ≡ length s.store.globals
    act_counts (Set name v) s = set_counts (exported m name) v s
    act_counts (Peek name at count) s = peek_counts (exported_memory (exported m name) s.store) at count s
    act_counts (Poke name at bytes) s = poke_counts (exported m name) (exported_memory (exported m name) s.store) at bytes s

    acts_same : (all : List Act) (s : State) → A.Count (length s.store.globals) → acts o all (more extra s) ≡ more extra (acts m all s)
    acts_same [] s count = refl
    acts_same (a ∷ rest) s count = ap (acts o rest) (act_same a s count) ∙ acts_same rest (act m a s) (subst A.Count (sym (act_counts a s)) count)

    replies_same : (x : ℕ) (replies : Option (List Reply)) (s : State) → A.Count (length s.store.globals) → replied o x replies (more extra s) ≡ moved_result extra (replied m x replies s)
    replies_same x None s count = refl
    replies_same x (Some []) s count = refl
    replies_same x (Some (reply ∷ rest)) s count =
        ap (λ (t : State). Go (record { operands = reverse (map from_host reply.values); locals = []; state = t })) (acts_same reply.acts (record s { replies = set s.replies x rest }) count)

    host_same : (x : ℕ) (q : Plain Val State) → A.Count (length q.state.store.globals) → host_call o x (moved extra q) ≡ moved_result extra (host_call m x q)
    host_same x q count =
        ap (λ values. replied o x (slice_get q.state.replies x) (tell (events.HostCall x (map to_host (reverse q.operands)) values) (more extra q.state))) (values_same q.state count)
        ∙ replies_same x (slice_get q.state.replies x) (tell (events.HostCall x (map to_host (reverse q.operands)) (global_values m q.state)) q.state) count

  -- a call of an imported function
  pub host_moves : (x : ℕ) → Moves A (host_call m x) (host_call o x)
  host_moves x = record { moves = λ extra q h e. host_same extra e x q (A.counted q.state h.state) }

  host_lasts : (x : ℕ) (replies : Option (List Reply)) (s : State) → Lasts (added A) (replied m x replies s)
  host_lasts x None s = tt
  host_lasts x (Some []) s = tt
  host_lasts x (Some (reply ∷ rest)) s = tt

  pub host_like : (x : ℕ) → HostLike (added A) (host_call m x) (host_call o x)
  host_like x = record {
    acts = act_like A (host_call m x) (host_call o x) (host_moves x) (offers.keeps_host x);
    lasts = λ q. host_lasts x (slice_get q.state.replies x) (tell (events.HostCall x (map to_host (reverse q.operands)) (global_values m q.state)) q.state);
  }
