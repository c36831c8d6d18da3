-- What a module shows whose values are integers of its types: it stands for itself, and a lowered module may show it.
use Rattle.std.proofs.Common.{◌≡◌, ℕ, ◌≤◌, true, List, [], ◌∷◌, ◌++◌, map, length, take, drop, append-nil, Some, None, refl, sym, ap, ◌∙◌, subst, inl, arith}
use Rattle.std.specs.List.{AllByRecursion}
use Rattle.host_kit.specs.Fits.{results_of}
use Rattle.host_kit.specs.Fits1.{ValuesHaveTypes1}
use Rattle.host_kit.specs.Trace.{Mark, Shows, Grown, Captured, Seen, Told, Answered, seen, events}
use Rattle.host_kit.specs.declared.event.Event.{Event}
use Rattle.host_kit.specs.declared.event.Event.TheVariants as event
use Rattle.host_kit.specs.declared.script.Script.{Script}
use Rattle.host_kit.specs.declared.value.Value.{Value}
use Rattle.wasm_ast.specs.declared.module.parts.Module.{Module}
use Rattle.wasm_ast.specs.declared.module.ty.FuncType.{FuncType}
use Rattle.meaning_new.specs.Forms.{type_of_tag}
use Rattle.meaning_new.specs.Interface.{interface}
use Rattle.crossing.specs.Code.{cross_type}
use Rattle.crossing.specs.Crossing.{AreIntegers}
use Rattle.headline.specs.Flattening.{flat, word}
use Rattle.headline.specs.MappedEvents.{FitEvents, FitsEvent, GlobalsFit, ResultsFit, UnlessFull, WordsFit, mark_types}
use Rattle.soundness.specs.Events.{exported_globals, AreShownAs, EventTyped, is_shown_as, called_type, imported_type}
use Rattle.headline.specs.Marks.{Marks, marks_of, own_globals, read_marks}
use Rattle.ranges_core1.specs.Ranges.{EventInRange, IsInRange}
use Rattle.headline.specs.Unmapping.{followed, grouped, params_of, unmap, unmap_event, unmap_return, unmap_trap}
use Rattle.headline.proofs.Links.{PlainType}
use Rattle.headline.proofs.Marked.{no_marks, nothing_read}
use Rattle.headline.proofs.Values.{all_shown_fit, all_taken, first_of, flat-integers, grouped-shown, none_behind, none_left}

-- What is known of a module that shows integers alone under a script: the types of the functions that are called, and of
-- the globals that are shown; and no exceptions.
pub record ShowsIntegers (m : Module) (s : Script) : Type 0 where
  pub imported : (j : ℕ) (t : FuncType) → imported_type m j ≡ Some t → PlainType t
  pub called : (i : ℕ) (t : FuncType) → called_type m s i ≡ Some t → PlainType t
  pub globals : AreIntegers (exported_globals m)
  pub tags : (interface m).tags ≡ []
  pub mark_types : mark_types (interface m) ≡ []
  pub no_tag : (x : ℕ) → type_of_tag m x ≡ None

module _ (m : Module) (s : Script) (h : ShowsIntegers m s) where
  -- globals
  shown_alone : (globals : List Value) → AreShownAs globals (exported_globals m) → own_globals m globals ≡ globals
  shown_alone globals k = all_taken (λ v t. is_shown_as v t ≡ true) globals (exported_globals m) k

  marks-none : (globals : List Value) → AreShownAs globals (exported_globals m) → marks_of m globals ≡ no_marks
  marks-none globals k = ap (read_marks (interface m)) (none_left (λ v t. is_shown_as v t ≡ true) globals (exported_globals m) k) ∙ nothing_read (interface m) h.tags

  types-shown : flat (exported_globals m) ++ mark_types (interface m) ≡ map cross_type (exported_globals m)
  types-shown = ap (λ l. flat (exported_globals m) ++ l) h.mark_types ∙ append-nil (flat (exported_globals m)) ∙ flat-integers (exported_globals m) h.globals

  globals_fit : (globals : List Value) → AreShownAs globals (exported_globals m) → AllByRecursion IsInRange globals → GlobalsFit m globals
  globals_fit globals k r = record {
    values = inl (subst (ValuesHaveTypes1 globals) (sym types-shown) (all_shown_fit globals (exported_globals m) k h.globals r));
    tag = subst (λ (x : Marks). x.exception ≤ length (interface m).tags) (sym (marks-none globals k)) (omega arith);
  }

  -- results
  no_words : (t : FuncType) → PlainType t → WordsFit (drop 1 (flat t.results)) []
  no_words t p = subst (λ l. WordsFit l []) (sym (ap (drop 1) (flat-integers t.results p.integers.results) ∙ none_behind t.results p.one)) tt

  results_fit : (results : List Value) (t : FuncType) → PlainType t → AreShownAs results t.results → AllByRecursion IsInRange results → ResultsFit m results no_marks t
  results_fit results t p k r =
      (subst (ValuesHaveTypes1 results) (sym (ap (take 1) (flat-integers t.results p.integers.results) ∙ first_of t.results p.one)) (all_shown_fit results t.results k p.integers.results r), no_words t p)

  -- what is known of an event: it stands for itself, and a lowered module may show it
  pub record StandsAlone (e : Event) : Type 0 where
    pub same : unmap_event m s e ≡ e
    pub fits : FitsEvent m s e

  host_call : (j : ℕ) (arguments globals : List Value) → EventTyped m s (event.HostCall j arguments globals) → EventInRange (event.HostCall j arguments globals) → StandsAlone (event.HostCall j arguments globals)
  host_call j arguments globals k r =
      let p = h.imported j k.type k.named in
      record {
        same =
            ap (λ o. event.HostCall j (grouped (params_of o) (map word arguments)) (own_globals m globals)) k.named
            ∙ ap (λ l. event.HostCall j l (own_globals m globals)) (grouped-shown arguments k.type.params k.values p.integers.params)
            ∙ ap (λ l. event.HostCall j arguments l) (shown_alone globals k.globals);
        fits = record {
          type = k.type;
          named = k.named;
          values = subst (ValuesHaveTypes1 arguments) (sym (flat-integers k.type.params p.integers.params)) (all_shown_fit arguments k.type.params k.values p.integers.params r.0);
          globals = globals_fit globals k.globals r.1;
        };
      }

  returned : (i : ℕ) (results globals : List Value) → EventTyped m s (event.Returned i results globals) → EventInRange (event.Returned i results globals) → StandsAlone (event.Returned i results globals)
  returned i results globals k r =
      let p = h.called i k.type k.named in
      record {
        same =
            ap (λ (x : Marks). unmap_return m (called_type m s i) i (map word results) (own_globals m globals) x.exception x) (marks-none globals k.globals)
            ∙ ap (λ l. event.Returned i (grouped (results_of (called_type m s i)) l) (own_globals m globals)) (append-nil (map word results))
            ∙ ap (λ o. event.Returned i (grouped (results_of o) (map word results)) (own_globals m globals)) k.named
            ∙ ap (λ l. event.Returned i l (own_globals m globals)) (grouped-shown results k.type.results k.values p.integers.results)
            ∙ ap (λ l. event.Returned i results l) (shown_alone globals k.globals);
        fits = record {
          type = k.type;
          named = k.named;
          values = subst (λ x. ResultsFit m results x k.type) (sym (marks-none globals k.globals)) (results_fit results k.type p k.values r.0);
          globals = globals_fit globals k.globals r.1;
        };
      }

  trapped : (i : ℕ) (globals : List Value) → EventTyped m s (event.Trapped i globals) → EventInRange (event.Trapped i globals) → StandsAlone (event.Trapped i globals)
  trapped i globals k r = record {
    same =
        ap (λ (x : Marks). unmap_trap i (own_globals m globals) x.full) (marks-none globals k.globals)
        ∙ ap (λ l. event.Trapped i l) (shown_alone globals k.globals);
    fits = record { type = k.type; named = k.named; values = tt; globals = globals_fit globals k.globals r };
  }

  pub stands_alone : (e : Event) → EventTyped m s e → EventInRange e → StandsAlone e
  stands_alone (event.HostCall j arguments globals) k r = host_call j arguments globals k r
  stands_alone (event.Returned i results globals) k r = returned i results globals k r
  stands_alone (event.Trapped i globals) k r = trapped i globals k r
  stands_alone (event.Uncaught i tag payload globals) k r = let no : None ≡ Some k.1.type = sym (h.no_tag tag) ∙ k.1.named in absurd cc
  stands_alone event.Full k r = absurd k
  stands_alone e k r = record { same = refl; fits = tt }

  -- a whole trace
  unless_full : (e : Event) (Fact : Type 0) → Fact → UnlessFull e Fact
  unless_full event.Full Fact k = tt
  unless_full e Fact k = k

  pub events_fit : (es : List Event) → AllByRecursion (EventTyped m s) es → AllByRecursion EventInRange es → FitEvents m s es
  events_fit [] k r = tt
  events_fit (e ∷ es) k r = ((stands_alone e k.0 r.0).fits, unless_full (unmap_event m s e) (FitEvents m s es) (events_fit es k.1 r.1))

  followed_as_is : (e : Event) (rest : List Seen) → EventTyped m s e → followed e rest ≡ Told e ∷ rest
  followed_as_is event.Full rest k = absurd k
  followed_as_is e rest k = refl

  pub unmap-same : (marks : List Mark) → AllByRecursion (EventTyped m s) (events marks) → AllByRecursion EventInRange (events marks) → unmap m s (seen marks) ≡ seen marks
  unmap-same [] k r = refl
  unmap-same (Shows e ∷ marks) k r =
      ap (λ x. followed x (unmap m s (seen marks))) (stands_alone e k.0 r.0).same
      ∙ followed_as_is e (unmap m s (seen marks)) k.0
      ∙ ap (λ rest. Told e ∷ rest) (unmap-same marks k.1 r.1)
  unmap-same (Grown ok sizes ∷ marks) k r = ap (λ l. Answered ok ∷ l) (unmap-same marks k r)
  unmap-same (Captured ∷ marks) k r = unmap-same marks k r
