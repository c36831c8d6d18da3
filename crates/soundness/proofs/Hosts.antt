-- What the host of a module does keeps its state typed: its replies have the results of the functions that are called, and
-- it sees arguments of their types.
use Rattle.std.proofs.Common.{◌≡◌, ℕ, ◌≤◌, true, List, [], ◌∷◌, map, reverse, Option, Some, None, option_map, refl, sym, ap, ◌∙◌, subst, le_refl}
use Rattle.std.specs.Prelude.{slice_get, set, filter_map, option_and_then}
use Rattle.std.specs.List.{AllByRecursion}
use Rattle.std.proofs.lemmas.List.{reverse-reverse}
use Rattle.host_kit.specs.Fits.{ActFits, SetFits, ReplyFits, results_of}
use Rattle.host_kit.specs.Offered.{exported}
use Rattle.host_kit.specs.Trace.{Shows}
use Rattle.host_kit.specs.declared.event.Event.{Event}
use Rattle.host_kit.specs.declared.event.Event.TheVariants as events
use Rattle.host_kit.specs.declared.script.Act.{Act}
use Rattle.host_kit.specs.declared.script.Act.TheVariants.{Set, Peek, Poke}
use Rattle.host_kit.specs.declared.script.Reply.{Reply}
use Rattle.host_kit.specs.declared.value.Value.{Value}
use Rattle.wasm_ast.specs.Spaces.{func_import}
use Rattle.wasm_ast.specs.declared.module.parts.ExportDesc.TheVariants as exports
use Rattle.wasm_ast.specs.declared.module.parts.Module.{Module}
use Rattle.wasm_ast.specs.declared.module.ty.FuncType.{FuncType}
use Rattle.typed_trees.specs.Modules.{TypedParts}
use Rattle.evaluation_kit.specs.Configurations.{Plain}
use Rattle.evaluation_kit.specs.Leaves.{read_range, write_range}
use Rattle.meaning_new.specs.declared.val.Val.{Val}
use Rattle.meaning_new.specs.Store.{State, Memory, to_host, from_host, tell}
use Rattle.meaning_new.specs.Memories.{with_bytes}
use Rattle.meaning_new.specs.Host.{global_values, set_export, exported_memory, told_bytes, peek, told_write, poke, act, acts, replied, host_call}
use Rattle.soundness.specs.Events.{AreShownAs, imported_type, ShownCall}
use Rattle.soundness.specs.States.{made, Has, HaveTypes, MarkTyped, StateTyped, CallResultTyped}
use Rattle.soundness.proofs.Lists.{pair_get, pair_reverse, pair_replace, all_append}
use Rattle.soundness.proofs.Values.{host_typed, all_host_typed}
use Rattle.soundness.proofs.Stores.{with_globals, with_memory}
use Rattle.soundness.proofs.Spaces.{global_offered}
use Rattle.soundness.proofs.Showing.{all_shown, globals_shown}

module _ (m : Module) where
  -- a typed state with as many exceptions
  pub record Acted (k : ℕ) (s : State) : Type 0 where
    pub state : StateTyped m s
    pub same : made s ≡ k

  pub told : (s : State) (e : Event) → MarkTyped m (Shows e) → StateTyped m s → StateTyped m (tell e s)
  told s e t h = record { store = h.store; replies = h.replies; trace = all_append (MarkTyped m) s.trace (Shows e ∷ []) h.trace (t, tt) }

  sets : (name : List ℕ) (v : Value) (s : State) → SetFits m name v → StateTyped m s → Acted (made s) (set_export (exported m name) v s)
  sets name v s fit h =
      subst (λ o. Acted (made s) (set_export o v s)) (sym fit.offered)
      (record {
        state = record {
          store = with_globals m s.store fit.index (record { ty = fit.type; mutable = true }) (from_host v) (global_offered m fit.index fit.type fit.mutable) (host_typed m (made s) v fit.type fit.value) h.store;
          replies = h.replies;
          trace = h.trace;
        };
        same = refl;
      })

  peeks : (mem : Option Memory) (at count : ℕ) (s : State) → StateTyped m s → Acted (made s) (peek mem at count s)
  peeks None at count s h = record { state = h; same = refl }
  peeks (Some mem) at count s h = bytes (read_range at count mem.bytes)
    where
      bytes : (o : Option (List ℕ)) → Acted (made s) (told_bytes o s)
      bytes None = record { state = told s events.OutOfRange tt h; same = refl }
      bytes (Some l) = record { state = told s (events.Peeked l) tt h; same = refl }

  writes : (x at : ℕ) (bytes : List ℕ) (s : State) → StateTyped m s → (o : Option Memory) → slice_get s.store.memories x ≡ o → Acted (made s) (poke (Some (exports.Memory x)) o at bytes s)
  writes x at bytes s h None e = record { state = h; same = refl }
  writes x at bytes s h (Some mem) e = wrote (write_range at bytes mem.bytes)
    where
      wrote : (all : Option (List ℕ)) → Acted (made s) (told_write (option_map (λ l. with_bytes x mem l s.store) all) s)
      wrote None = record { state = told s events.OutOfRange tt h; same = refl }
      wrote (Some l) = record { state = record { store = with_memory m s.store x mem l e h.store; replies = h.replies; trace = h.trace }; same = refl }

  pub act_typed : (a : Act) (s : State) → ActFits m a → StateTyped m s → Acted (made s) (act m a s)
  act_typed (Set name v) s fit h = sets name v s fit h
  act_typed (Peek name at count) s fit h = peeks (exported_memory (exported m name) s.store) at count s h
  act_typed (Poke name at bytes) s fit h =
      subst (λ o. Acted (made s) (poke o (exported_memory o s.store) at bytes s)) (sym fit.0.offered) (writes fit.0.index at bytes s h (slice_get s.store.memories fit.0.index) refl)

  acts_typed : (all : List Act) (s : State) → AllByRecursion (ActFits m) all → StateTyped m s → Acted (made s) (acts m all s)
  acts_typed [] s fit h = record { state = h; same = refl }
  acts_typed (a ∷ more) s fit h =
      let first = act_typed a s fit.0 h in
      subst (λ k. Acted k (acts m more (act m a s))) first.same (acts_typed more (act m a s) fit.1 first.state)

  -- the replies that are left when one is taken
  abbrev Fitting : List Reply → ℕ → Type 0
  Fitting rs t = AllByRecursion (ReplyFits m (results_of (slice_get m.types t))) rs

  module _ (x t : ℕ) (is : slice_get (filter_map (λ i. func_import i.desc) m.imports) x ≡ Some t) where
    reply_typed : (s : State) → StateTyped m s → (rs : List Reply) → slice_get s.replies x ≡ Some rs → Fitting rs t → CallResultTyped m (results_of (slice_get m.types t)) (made s) (replied m x (Some rs) s)
    reply_typed s h [] e fit = (tt, record { state = h; extends = le_refl (made s) })
    reply_typed s h (reply ∷ more) e fit =
        let left = record s { replies = set s.replies x more } in
        let fewer = pair_replace (λ r u. Fitting r u) s.replies (filter_map (λ i. func_import i.desc) m.imports) x (reply ∷ more) more e (λ u g. g.1) h.replies in
        let done = acts_typed reply.acts left fit.0.acts (record { store = h.store; replies = fewer; trace = h.trace }) in
        let results = results_of (slice_get m.types t) in (
          pair_reverse (λ v u. Has m (made (acts m reply.acts left)) v u) (map from_host reply.values) results (all_host_typed m (made (acts m reply.acts left)) reply.values results fit.0.values),
          record { state = done.state; extends = subst (λ k. made s ≤ k) (sym done.same) (le_refl (made s)) },
        )

    -- a call of an imported function, with arguments of its type
    call_shown : TypedParts m → (type : FuncType) → slice_get m.types t ≡ Some type → (p : Plain Val State) → HaveTypes m (made p.state) p.operands (reverse type.params) → StateTyped m p.state → ShownCall m (imported_type m x) (global_values m p.state) (λ u. AreShownAs (map to_host (reverse p.operands)) u.params)
    call_shown parts type declared p top h =
        let arguments = pair_reverse (Has m (made p.state)) p.operands (reverse type.params) top in
        record {
          type = type;
          named = ap (option_and_then (slice_get m.types)) is ∙ declared;
          values = all_shown m (made p.state) (reverse p.operands) type.params (subst (HaveTypes m (made p.state) (reverse p.operands)) (reverse-reverse type.params) arguments);
          globals = globals_shown m parts p.state h;
        }

    pub host_call_typed : TypedParts m → (type : FuncType) → slice_get m.types t ≡ Some type → (p : Plain Val State) → HaveTypes m (made p.state) p.operands (reverse type.params) → StateTyped m p.state → CallResultTyped m (results_of (slice_get m.types t)) (made p.state) (host_call m x p)
    host_call_typed parts type declared p top h =
        let call = events.HostCall x (map to_host (reverse p.operands)) (global_values m p.state) in
        let seen = tell call p.state in
        let there = pair_get (λ r u. Fitting r u) p.state.replies (filter_map (λ i. func_import i.desc) m.imports) x t is h.replies in
        subst (λ o. CallResultTyped m (results_of (slice_get m.types t)) (made p.state) (replied m x o seen)) (sym there.1)
        (reply_typed seen (told p.state call (call_shown parts type declared p top h) h) there.0 there.1 there.2)
