-- What a host is told of a module does not rest on its bodies.
use Rattle.std.proofs.Common.{◌≡◌, ℕ, zero, suc, ◌≤◌, ◌⊎◌, List, [], ◌∷◌, ◌++◌, map, length, take, drop, filter_map, Option, Some, None, option_and_then, slice_get, refl, sym, ap, ◌∙◌, subst}
use Rattle.host_kit.specs.Fits.{ActFits, CallFits, ItemFits, MemoryFits, RepliesFit, ReplyFits, ScriptFits, SetFits, results_of}
use Rattle.host_kit.specs.Fits1.{ValuesHaveTypes1}
use Rattle.host_kit.specs.Offered.{exported}
use Rattle.host_kit.specs.Trace.{Seen, Told, Answered}
use Rattle.host_kit.specs.declared.event.Event.{Event}
use Rattle.host_kit.specs.declared.event.Event.TheVariants as event
use Rattle.host_kit.specs.declared.script.Act.{Act}
use Rattle.host_kit.specs.declared.script.Act.TheVariants.{Set, Peek, Poke}
use Rattle.host_kit.specs.declared.script.Item.{Item}
use Rattle.host_kit.specs.declared.script.Item.TheVariants.{Call, Host}
use Rattle.host_kit.specs.declared.script.Reply.{Reply}
use Rattle.host_kit.specs.declared.script.Script.{Script}
use Rattle.host_kit.specs.declared.value.Value.{Value}
use Rattle.wasm_ast.specs.Spaces.{func_import}
use Rattle.wasm_ast.specs.declared.module.code.Body.{Body}
use Rattle.wasm_ast.specs.declared.module.parts.Export.{Export}
use Rattle.wasm_ast.specs.declared.module.parts.ExportDesc.{ExportDesc}
use Rattle.wasm_ast.specs.declared.module.parts.ExportDesc.TheVariants as exports
use Rattle.wasm_ast.specs.declared.module.parts.Import.{Import}
use Rattle.wasm_ast.specs.declared.module.parts.ImportDesc.{ImportDesc}
use Rattle.wasm_ast.specs.declared.module.parts.ImportDesc.TheVariants as imports
use Rattle.wasm_ast.specs.declared.module.parts.Module.{Module}
use Rattle.wasm_ast.specs.declared.module.ty.FuncType.{FuncType}
use Rattle.wasm_ast.specs.declared.module.ty.Ty.{Ty}
use Rattle.core1_ast.specs.declared.module.ty.Ty1.TheVariants as types1
use Rattle.meaning_new.specs.Interface.{ExternType, Interface, Imported, Exported, interface, import_type, export_type}
use Rattle.headline.specs.Flattening.{flat, word}
use Rattle.headline.specs.MappedEvents.{FitEvents, FitsEvent, GlobalsFit, MarksFit, ResultsFit, ShownCall, UnlessFull, mark_types}
use Rattle.soundness.specs.Events.{global_type, called_type, exported_type, imported_type, item_type}
use Rattle.headline.specs.Marks.{Marks, marks_of, own_globals, read_marks}
use Rattle.headline.specs.Unmapping.{followed, grouped, params_of, unmap, unmap_event, unmap_return, unmap_trap}
use Rattle.headline.proofs.Called.{as_exported, as_imported}
use Rattle.headline.proofs.Listed.{all_through}

abbrev imported_with : Import → Option ExternType → Imported
imported_with i o = record { from = i.«module»; name = i.name; type = o }

abbrev exported_with : Export → Option ExternType → Exported
exported_with e o = record { name = e.name; type = o }

module _ (m : Module) (codes : List Body) where
  abbrev pub other : Module
  other = record m { codes = codes }

  -- ---- scripts

  call_fits : (name : List ℕ) (arguments : List Value) → CallFits m name arguments → CallFits other name arguments
  call_fits name arguments h = record { func = h.func; type = h.type; offered = h.offered; typed = h.typed; params = h.params }

  set_fits : (name : List ℕ) (v : Value) → SetFits m name v → SetFits other name v
  set_fits name v h = record { index = h.index; type = h.type; offered = h.offered; mutable = h.mutable; value = h.value }

  memory_fits : (name : List ℕ) (at count : ℕ) → MemoryFits m name at count → MemoryFits other name at count
  memory_fits name at count h = record { index = h.index; offered = h.offered; there = h.there; address = h.address; few = h.few }

  act_fits : (a : Act) → ActFits m a → ActFits other a
  act_fits (Set name v) h = set_fits name v h
  act_fits (Peek name at count) h = memory_fits name at count h
  act_fits (Poke name at bytes) h = (memory_fits name at (length bytes) h.0, h.1)

  item_fits : (item : Item) → ItemFits m item → ItemFits other item
  item_fits (Call name arguments) h = call_fits name arguments h
  item_fits (Host a) h = act_fits a h

  reply_fits : (results : List Ty) (r : Reply) → ReplyFits m results r → ReplyFits other results r
  reply_fits results r h = record { acts = all_through (ActFits m) (ActFits other) r.acts act_fits h.acts; values = h.values }

  replies_fit : (replies : List (List Reply)) (indices : List ℕ) → RepliesFit m replies indices → RepliesFit other replies indices
  replies_fit [] [] h = tt
  replies_fit [] (t ∷ indices) h = absurd h
  replies_fit (rs ∷ replies) [] h = absurd h
  replies_fit (rs ∷ replies) (t ∷ indices) h =
      let results = results_of (slice_get m.types t) in
      (all_through (ReplyFits m results) (ReplyFits other results) rs (reply_fits results) h.0, replies_fit replies indices h.1)

  pub fits_bodies : (s : Script) → ScriptFits m s → ScriptFits other s
  fits_bodies s h = record {
    globals = h.globals;
    replies = replies_fit s.replies (filter_map (λ i. func_import i.desc) m.imports) h.replies;
    items = all_through (ItemFits m) (ItemFits other) s.items item_fits h.items;
  }

  -- ---- the interface

  import_bodies : (d : ImportDesc) → import_type other d ≡ import_type m d
  import_bodies (imports.Func t) = refl
  import_bodies (imports.Table t l) = refl
  import_bodies (imports.Memory l) = refl
  import_bodies (imports.Global t b) = refl
  import_bodies (imports.Tag t) = refl

  export_bodies : (d : ExportDesc) → export_type other d ≡ export_type m d
  export_bodies (exports.Func x) = refl
  export_bodies (exports.Table x) = refl
  export_bodies (exports.Memory x) = refl
  export_bodies (exports.Global x) = refl
  export_bodies (exports.Tag x) = refl

  imports_bodies : (is : List Import) → map (as_imported other) is ≡ map (as_imported m) is
  imports_bodies [] = refl
  imports_bodies (i ∷ is) = ap (λ o. imported_with i o ∷ map (as_imported other) is) (import_bodies i.desc) ∙ ap (λ l. as_imported m i ∷ l) (imports_bodies is)

  exports_bodies : (es : List Export) → map (as_exported other) es ≡ map (as_exported m) es
  exports_bodies [] = refl
  exports_bodies (e ∷ es) = ap (λ o. exported_with e o ∷ map (as_exported other) es) (export_bodies e.desc) ∙ ap (λ l. as_exported m e ∷ l) (exports_bodies es)

  pub interface_bodies : interface other ≡ interface m
  interface_bodies =
      ap (λ (l : List Imported). record (interface other) { imports = l }) (imports_bodies m.imports)
      ∙ ap (λ (l : List Exported). record (interface m) { exports = l }) (exports_bodies m.exports)

  -- ---- events

  exported_bodies : (d : ExportDesc) → exported_type other d ≡ exported_type m d
  exported_bodies (exports.Func x) = refl
  exported_bodies d = refl

  named_bodies : (o : Option ExportDesc) → option_and_then (exported_type other) o ≡ option_and_then (exported_type m) o
  named_bodies None = refl
  named_bodies (Some d) = exported_bodies d

  item_bodies : (item : Item) → item_type other item ≡ item_type m item
  item_bodies (Call name arguments) = named_bodies (exported m name)
  item_bodies (Host act) = refl

  items_bodies : (o : Option Item) → option_and_then (item_type other) o ≡ option_and_then (item_type m) o
  items_bodies None = refl
  items_bodies (Some item) = item_bodies item

  called_bodies : (s : Script) (i : ℕ) → called_type other s i ≡ called_type m s i
  called_bodies s i = items_bodies (slice_get s.items i)

  own_bodies : (globals : List Value) → own_globals other globals ≡ own_globals m globals
  own_bodies globals = ap (λ (i : Interface). take (length (filter_map (λ e. option_and_then global_type e.type) i.exports)) globals) interface_bodies

  marks_bodies : (globals : List Value) → marks_of other globals ≡ marks_of m globals
  marks_bodies globals = ap (λ (i : Interface). read_marks i (drop (length (filter_map (λ e. option_and_then global_type e.type) i.exports)) globals)) interface_bodies

  return_bodies : (type : Option FuncType) (i : ℕ) (words : List ℕ) (own : List Value) (exception : ℕ) (marks : Marks) → unmap_return other type i words own exception marks ≡ unmap_return m type i words own exception marks
  return_bodies type i words own zero marks = refl
  return_bodies type i words own (suc tag) marks = refl

  event_bodies : (s : Script) (e : Event) → unmap_event other s e ≡ unmap_event m s e
  event_bodies s (event.HostCall j arguments globals) = ap (λ l. event.HostCall j (grouped (params_of (imported_type m j)) (map word arguments)) l) (own_bodies globals)
  event_bodies s (event.Returned i results globals) =
      ap (λ o. unmap_return other o i (map word results) (own_globals other globals) (marks_of other globals).exception (marks_of other globals)) (called_bodies s i)
      ∙ ap (λ l. unmap_return other (called_type m s i) i (map word results) l (marks_of other globals).exception (marks_of other globals)) (own_bodies globals)
      ∙ ap (λ (x : Marks). unmap_return other (called_type m s i) i (map word results) (own_globals m globals) x.exception x) (marks_bodies globals)
      ∙ return_bodies (called_type m s i) i (map word results) (own_globals m globals) (marks_of m globals).exception (marks_of m globals)
  event_bodies s (event.Trapped i globals) =
      ap (λ l. unmap_trap i l (marks_of other globals).full) (own_bodies globals) ∙ ap (λ (x : Marks). unmap_trap i (own_globals m globals) x.full) (marks_bodies globals)
  event_bodies s e = refl

  pub unmap_bodies : (s : Script) (shown : List Seen) → unmap other s shown ≡ unmap m s shown
  unmap_bodies s [] = refl
  unmap_bodies s (Answered ok ∷ more) = ap (λ l. Answered ok ∷ l) (unmap_bodies s more)
  unmap_bodies s (Told e ∷ more) = ap (λ x. followed x (unmap other s more)) (event_bodies s e) ∙ ap (followed (unmap_event m s e)) (unmap_bodies s more)

  -- ---- that events fit

  globals_bodies : (globals : List Value) → GlobalsFit m globals → GlobalsFit other globals
  globals_bodies globals h = record {
    values = subst (λ (i : Interface). ValuesHaveTypes1 globals (flat (filter_map (λ e. option_and_then global_type e.type) i.exports) ++ mark_types i)
        ⊎ ValuesHaveTypes1 globals (flat (filter_map (λ e. option_and_then global_type e.type) i.exports) ++ types1.I32 ∷ mark_types i)) (sym interface_bodies) h.values;
    tag = subst (λ (x : Marks). x.exception ≤ length (interface other).tags) (sym (marks_bodies globals)) h.tag;
  }

  call_bodies : (called called' : Option FuncType) (shown : List Value) (P Q : FuncType → Type 0) → called' ≡ called → ((t : FuncType) → P t → Q t) → ShownCall m called shown P → ShownCall other called' shown Q
  call_bodies called called' shown P Q e f h = record { type = h.type; named = e ∙ h.named; values = f h.type h.values; globals = globals_bodies shown h.globals }

  words_bodies : (t : FuncType) (exception : ℕ) (marks : Marks) → MarksFit m t exception marks → MarksFit other t exception marks
  words_bodies t zero marks h = h
  words_bodies t (suc tag) marks h = h

  results_bodies : (results globals : List Value) (t : FuncType) → ResultsFit m results (marks_of m globals) t → ResultsFit other results (marks_of other globals) t
  results_bodies results globals t h =
      subst (λ x. ResultsFit other results x t) (sym (marks_bodies globals)) (h.0, words_bodies t (marks_of m globals).exception (marks_of m globals) h.1)

  event_fits : (s : Script) (e : Event) → FitsEvent m s e → FitsEvent other s e
  event_fits s (event.HostCall j arguments globals) h =
      call_bodies (imported_type m j) (imported_type m j) globals (λ t. ValuesHaveTypes1 arguments (flat t.params)) (λ t. ValuesHaveTypes1 arguments (flat t.params)) refl (λ t k. k) h
  event_fits s (event.Returned i results globals) h =
      call_bodies (called_type m s i) (called_type other s i) globals (ResultsFit m results (marks_of m globals)) (ResultsFit other results (marks_of other globals)) (called_bodies s i) (results_bodies results globals) h
  event_fits s (event.Trapped i globals) h = call_bodies (called_type m s i) (called_type other s i) globals (λ t. Unit {0}) (λ t. Unit {0}) (called_bodies s i) (λ t k. k) h
  event_fits s (event.Uncaught i tag payload globals) h = absurd h
  event_fits s event.Full h = absurd h
  event_fits s e h = tt

  unless_bodies : (e : Event) (X Y : Type 0) → (X → Y) → UnlessFull e X → UnlessFull e Y
  unless_bodies event.Full X Y f h = tt
  unless_bodies e X Y f h = f h

  pub fit_events_bodies : (s : Script) (es : List Event) → FitEvents m s es → FitEvents other s es
  fit_events_bodies s [] h = tt
  fit_events_bodies s (e ∷ es) h = (
    event_fits s e h.0,
    subst (λ x. UnlessFull x (FitEvents other s es)) (sym (event_bodies s e)) (unless_bodies (unmap_event m s e) (FitEvents m s es) (FitEvents other s es) (fit_events_bodies s es) h.1),
  )
