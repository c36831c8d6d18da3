-- Code, functions and tasks that owe what is alike are simulated.
use Rattle.std.proofs.Common.{◌≡◌, ℕ, List, [], ◌∷◌, map, take, reverse, Option, Some, None, ◌⊎◌, refl, sym, ap, ◌∙◌, subst}
use Rattle.std.specs.List.{AllByRecursion}
use Rattle.evaluation_kit.specs.declared.jump.Jump.{Jump}
use Rattle.evaluation_kit.specs.declared.jump.Jump.TheVariants.{Branch, Return, Throw, TailCall, Trap, NoReply, Full, Stuck}
use Rattle.outcome_kit.specs.Code.{Go, Leave, run}
use Rattle.evaluation_kit.specs.Configurations.{Plain, PlainRes}
use Rattle.evaluation_kit.specs.Control.{Function, Callee, Own, Host}
use Rattle.evaluation_kit.specs.Forms.{Form, Flat, Enclose, Repeat, Choose, Guard, Invoke, InvokeBy}
use Rattle.evaluation_kit.specs.Languages.{Language, func, exec, exec_code}
use Rattle.evaluation_kit.specs.Tasks.{Status, Task, Change, Enter, tasks, world_after}
use Rattle.simulation_kit.specs.Labels.{Outermost, IsShared}
use Rattle.simulation_kit.specs.Matches.{Match, Context, inside, PlainReturns, Sims}
use Rattle.simulation_kit.specs.Staying.{AllFuncsSim, IsLasting, FallsBy, TailBy, FunctionStays, HostStays, CalleeStays, plain_opened}
use Rattle.simulation_kit.specs.Rewriting.{Step, body_at, rewrite, FormStays, Inner, layer_sem, Layers, Through}
use Rattle.simulation_kit.specs.Hosting.{NoParts, IsStuckRun, StateMatches, TaskStays, TasksStay, Final}
use Rattle.simulation_kit.specs.Likenesses.{Likeness, JumpLike, Like, Handed, ResultLike, StatusLike, matching, ReadyLike, Lasts, HostLike, FormLike, FunctionLike, CalleeLike, SeeLike, TaskLike, TasksLike}
use Rattle.simulation_kit.proofs.Rewriting.{sims_stays, body_simulated, code_simulated}
use Rattle.simulation_kit.proofs.Functions.{functions_sim}
use Rattle.simulation_kit.proofs.Hosting.{final}
use Rattle.simulation_kit.proofs.Liking.{values_none, takes, appends, lawful, calls_stay, leaf_stays, handler_stays, test_stays, pick_stays}

module _ {V S V' S' : Type 0} (K : Likeness V S V' S') {I I' X : Type 0} {F F' : Type 0 → Type 0} (L : Language I F V S) (L' : Language I' F' V' S') (step : Step X F I') (seen : K.Place → X) (Fits : I → Type 0) where
  abbrev W : Match V S V' S'
  W = matching K

  abbrev pub sees_place : Context W → X
  sees_place x = seen x.place

  -- code that fits is claimed wherever the output has no labels of its own
  abbrev pub Alike : I → Context W → Unit {0} → Unit {0} → Type 0
  Alike i x k m = IsShared x.labels × Fits i

  abbrev pub Body : ℕ → Type 0
  Body N = Inner W L L' step sees_place Alike N

  all_through : (code : List I) → AllByRecursion Fits code → (x : Context W) (k m : Unit {0}) → IsShared x.labels → Through W L L' Alike code x k m
  all_through [] fits x k m shared = refl
  all_through (i ∷ code) fits x k m shared = (tt, (shared, fits.0), all_through code fits.1 x tt m shared)

  module _ (N : ℕ) where
    pub body_sims : (x : Context W) → IsShared x.labels → (k m : Unit {0}) (code : List (Body N)) (code' : List I') → AllByRecursion Fits (map (λ y. y.0) code) → code' ≡ body_at (seen x.place) (map (λ y. rewrite L step y.0) code) → Sims W N x k m (run (map (λ y. exec L y.0) code)) (exec_code L' code')
    body_sims x shared k m code code' fits e =
        subst (λ c. Sims W N x k m (run (map (λ y. exec L y.0) code)) (exec_code L' c)) (sym e)
        (body_simulated W L L' step sees_place Alike N code x k m (all_through (map (λ y. y.0) code) fits x k m shared))

    form_stays : (x : Context W) → IsShared x.labels → (k m : Unit {0}) (form : Form V S (Body N)) (form' : Form V' S' I') → FormLike K L step seen Fits _ x.place form form' → FormStays W L L' N x k m form form'
    form_stays x shared k m (Flat act) (Flat act') h = leaf_stays K x shared m k act act' h
    form_stays x shared k m (Enclose p r code) (Enclose p' r' code') h = record {
      inner = h.2.inner;
      takes = tt;
      gives = tt;
      rest = tt;
      around = h.2.around;
      takes_width = h.0;
      gives_width = h.1;
      from = refl;
      to = refl;
      body = body_sims (inside W x h.2.inner tt) shared tt tt code code' h.2.fits h.2.rewritten;
    }
    form_stays x shared k m (Repeat p r code) (Repeat p' r' code') h = record {
      inner = h.2.inner;
      takes = tt;
      gives = tt;
      rest = tt;
      around = h.2.around;
      takes_width = h.0;
      gives_width = h.1;
      from = refl;
      to = refl;
      body = body_sims (inside W x h.2.inner tt) shared tt tt code code' h.2.fits h.2.rewritten;
    }
    form_stays x shared k m (Choose test p r first second) (Choose test' p' r' first' second') h = record {
      inner = h.3.inner;
      takes = tt;
      gives = tt;
      rest = tt;
      around = h.3.around;
      takes_width = h.0;
      gives_width = h.1;
      tests = test_stays K x.place k tt test test' h.2;
      to = refl;
      first = body_sims (inside W x h.3.inner tt) shared tt tt first first' h.3.first_fits h.3.first_rewritten;
      second = body_sims (inside W x h.3.inner tt) shared tt tt second second' h.3.second_fits h.3.second_rewritten;
    }
    form_stays x shared k m (Guard p r t code) (Guard p' r' t' code') h = record {
      inner = h.3.inner;
      takes = tt;
      gives = tt;
      rest = tt;
      around = h.3.around;
      takes_width = h.0;
      gives_width = h.1;
      handlers = handler_stays K x shared tt h.3.inner t t' h.2;
      from = refl;
      to = refl;
      body = body_sims (inside W x h.3.inner tt) shared tt tt code code' h.3.fits h.3.rewritten;
    }
    form_stays x shared k m (Invoke p f) (Invoke p' f') h = record { takes = tt; gives = tt; rest = tt; width = h.0; names = (h.1, h.2); from = refl; to = refl }
    form_stays x shared k m (InvokeBy p pick) (InvokeBy p' pick') h = record { takes = tt; gives = tt; rest = tt; width = h.0; picks = pick_stays K x.place k tt tt tt pick pick' h.1; to = refl }
    form_stays x shared k m _ _ h = absurd h

    -- an instruction that becomes one whose form is alike
    pub like_stays : AllFuncsSim W N (func L) (func L') → (l : F (Body N)) (l' : F' I') (x : Context W) (k m : Unit {0}) → IsShared x.labels → ReadyLike K (L.ready (Body N) l) (L'.ready I' l') → FormLike K L step seen Fits _ x.place (L.layer (Body N) l) (L'.layer I' l') → Sims W N x k m (layer_sem W L L' step sees_place Alike N l) (exec_code L' (L'.tree.roll l' ∷ []))
    like_stays fs l l' x k m shared ready h =
        sims_stays W L L' (lawful K) (calls_stay K) N fs _ x k m l l'
        (record { readies = ready.readies; asks = ready.asks })
        (form_stays x shared k m (L.layer (Body N) l) (L'.layer I' l') h)

  -- functions
  falls : (r' : ℕ) (j j' : Jump) (q : Plain V S) (q' : Plain V' S') → IsLasting W j → JumpLike K j j' → Handed K q.operands q.state q'.operands q'.state → FallsBy W r' j q j' q'
  falls r' (Branch k) j' q q' o e f = absurd o
  falls r' Return j' q q' o e f = absurd o
  falls r' (TailCall g) j' q q' o e f = absurd o
  falls r' (Throw x) j' q q' o e f = subst (λ i. FallsBy W r' (Throw x) q i q') (sym e) (refl, f)
  falls r' Trap j' q q' o e f = subst (λ i. FallsBy W r' Trap q i q') (sym e) (refl, f)
  falls r' (NoReply x) j' q q' o e f = subst (λ i. FallsBy W r' (NoReply x) q i q') (sym e) (refl, f)
  falls r' Full j' q q' o e f = subst (λ i. FallsBy W r' Full q i q') (sym e) (refl, f)
  falls r' Stuck j' q q' o e f = subst (λ i. FallsBy W r' Stuck q i q') (sym e) (refl, f)

  handed : (q : Plain V S) (q' : Plain V' S') → Like K q q' → Handed K q.operands q.state q'.operands q'.state
  handed q q' e = record { operands = e.operands; state = e.state; sound = e.sound_operands; safe = e.safe }

  opens : (f : Function I V) (f' : Function I' V') → FunctionLike K L step seen Fits f f' → (a : List V) (s : S) (a' : List V') (s' : S') → W.Takes tt a s a' s' → Like K (plain_opened f a s) (plain_opened f' a' s')
  opens f f' h a s a' s' e = record {
    operands = sym (values_none K);
    locals =
        appends K (reverse (take f.params a)) f.zeros (reverse (take f'.params a')) f'.zeros
        (ap reverse (takes K f.params f'.params a a' h.params e.operands) ∙ K.reverse_values (take f.params a)) h.zeros;
    state = e.state;
    sound_operands = K.keeps.none;
    sound_locals = K.keeps.appends (reverse (take f.params a)) f.zeros (K.keeps.reverses (take f.params a) (K.keeps.takes f.params a e.sound)) h.sound;
    safe = e.safe;
  }

  function_stays : (N : ℕ) → Layers W L L' step sees_place Alike N → (f : Function I V) (f' : Function I' V') → FunctionLike K L step seen Fits f f' → FunctionStays W N tt tt f f' (exec_code L f.body) (exec_code L' f'.body)
  function_stays N owes f f' h = record {
    place = h.place;
    start = tt;
    width = h.results;
    opens = λ a s a' s' e. opens f f' h a s a' s' e;
    body =
        subst (λ c. Sims W N (record { place = h.place; labels = Outermost tt }) tt tt (exec_code L f.body) (exec_code L' c)) (sym h.body)
        (code_simulated W L L' step sees_place Alike N owes f.body (record { place = h.place; labels = Outermost tt }) tt tt (all_through f.body h.fits (record { place = h.place; labels = Outermost tt }) tt tt tt));
    gives = handed;
    falls = λ j j' q q' o e. falls f'.results j j' q q' o e.0 (handed q q' e.1);
    tails = λ g j' q q' e. subst (λ i. TailBy W tt g q i q') (sym e.0.1) (tt, (e.0.0, refl), handed q q' e.1);
  }

  host_returns : (r : PlainRes V S) (r' : PlainRes V' S') → Lasts K r → ResultLike K r r' → PlainReturns W tt r r'
  host_returns (Go q) (Go q') o e = handed q q' e
  host_returns (Go q) (Leave j' q') o e = absurd e
  host_returns (Leave j q) (Go q') o e = absurd e
  host_returns (Leave j q) (Leave j' q') o e = (o, (e.0, handed q q' e.1))

  host_stays : (p p' : ℕ) (act : Plain V S → PlainRes V S) (act' : Plain V' S' → PlainRes V' S') → (p' ≡ p) → HostLike K act act' → HostStays W tt tt p p' act act'
  host_stays p p' act act' e h = record {
    acts = λ a s a' s' g.
        let q : Plain V S = record { operands = take p a; locals = []; state = s } in
        let q' : Plain V' S' = record { operands = take p' a'; locals = []; state = s' } in
        host_returns (act q) (act' q') (h.lasts q) (h.acts q q' (record {
          operands = takes K p p' a a' e g.operands;
          locals = sym (values_none K);
          state = g.state;
          sound_operands = K.keeps.takes p a g.sound;
          sound_locals = K.keeps.none;
          safe = g.safe;
        }));
  }

  callee_stays : (N : ℕ) → Layers W L L' step sees_place Alike N → (o : Option (Callee I V S)) (o' : Option (Callee I' V' S')) → CalleeLike K L step seen Fits o o' → CalleeStays W N tt tt (exec_code L) (exec_code L') o o'
  callee_stays N owes None None h = record { traps = λ q q' e. (refl, e) }
  callee_stays N owes None (Some o') h = absurd h
  callee_stays N owes (Some (Own f)) None h = absurd h
  callee_stays N owes (Some (Host p act)) None h = absurd h
  callee_stays N owes (Some (Own f)) (Some (Own f')) h = function_stays N owes f f' h
  callee_stays N owes (Some (Own f)) (Some (Host p' act')) h = absurd h
  callee_stays N owes (Some (Host p act)) (Some (Own f')) h = absurd h
  callee_stays N owes (Some (Host p act)) (Some (Host p' act')) h = host_stays p p' act act' h.0 h.1

  -- what a pass owes: its one layer, if all functions are simulated, and what indices name
  abbrev pub OwesLayers : Type 0
  OwesLayers = (N : ℕ) → AllFuncsSim W N (func L) (func L') → Layers W L L' step sees_place Alike N

  abbrev pub OwesCallees : Type 0
  OwesCallees = (f : ℕ) → K.keeps.Named f → CalleeLike K L step seen Fits (L.callee f) (L'.callee (K.index f))

  -- all functions
  pub like_functions : OwesLayers → OwesCallees → (N : ℕ) → AllFuncsSim W N (func L) (func L')
  like_functions owes callees =
      functions_sim W (lawful K) L L' (λ N fs f f' k h names.
      subst (λ g. CalleeStays W N tt tt (exec_code L) (exec_code L') (L.callee f) (L'.callee g)) (sym names.1) (callee_stays N (owes N fs) (L.callee f) (L'.callee (K.index f)) (callees f names.0)))

  -- tasks, from states that are related and safe
  abbrev pub Rests : S → S' → Type 0
  Rests s s' = K.States s s' × K.keeps.Safe s

  pub statuses : (r : Status S) (r' : Status S') → StatusLike K r r' → StateMatches W Rests NoParts r r'
  statuses (Go s) (Go s') h = h
  statuses (Go s) (Leave j' s') h = absurd h
  statuses (Leave j s) (Go s') h = absurd h
  statuses (Leave j s) (Leave j' s') h = h

  pub at_values : {a : List V} {s : S} {a' : List V'} {s' : S'} → Handed K a s a' s' → Handed K a s (K.values a) s'
  at_values g = record { operands = refl; state = g.state; sound = g.sound; safe = g.safe }

  sees : (see : PlainRes V S → Status S) (see' : PlainRes V' S' → Status S') → SeeLike K see see' → (r : PlainRes V S) (r' : PlainRes V' S') → PlainReturns W tt r r' → StateMatches W Rests NoParts (see r) (see' r')
  sees see see' h (Go q) (Go q') g =
      subst (λ (o : List V'). StateMatches W Rests NoParts (see (Go q)) (see' (Go (record { operands = o; locals = q'.locals; state = q'.state })))) (sym g.operands)
      (statuses (see (Go q)) (see' (Go (record { operands = K.values q.operands; locals = q'.locals; state = q'.state }))) (h.goes q.operands q.locals q.state q'.locals q'.state (at_values g)))
  sees see see' h (Go q) (Leave j' q') g = absurd g
  sees see see' h (Leave j q) (Go q') g = absurd g.1
  sees see see' h (Leave j q) (Leave j' q') g =
      subst (λ (o : List V'). StateMatches W Rests NoParts (see (Leave j q)) (see' (Leave j' (record { operands = o; locals = q'.locals; state = q'.state })))) (sym g.1.1.operands)
      (statuses (see (Leave j q)) (see' (Leave j' (record { operands = K.values q.operands; locals = q'.locals; state = q'.state }))) (h.leaves j j' q.operands q.locals q.state q'.locals q'.state g.0 g.1.0 (at_values g.1.1)))

  task_stays : (t : Task V S) (t' : Task V' S') → TaskLike K t t' → TaskStays W Rests NoParts t t'
  task_stays (Change f) (Change f') h = record { changes = λ s s' e. statuses (f s) (f' s') (h.changes s s' e.0 e.1) }
  task_stays (Change f) (Enter x' operands' see') h = absurd h
  task_stays (Enter x operands see) (Change f') h = absurd h
  task_stays (Enter x operands see) (Enter x' operands' see') h = record {
    takes_kind = tt;
    gives_kind = tt;
    names = (h.0, h.1);
    takes = λ s s' e. record { operands = h.2; state = e.0; sound = h.3; safe = e.1 };
    sees = sees see see' h.4;
    stuck = h.4.stuck;
  }

  pub tasks_stay : (ts : List (Task V S)) (ts' : List (Task V' S')) → TasksLike K ts ts' → TasksStay W Rests NoParts ts ts'
  tasks_stay [] [] h = tt
  tasks_stay [] (t' ∷ ts') h = absurd h
  tasks_stay (t ∷ ts) [] h = absurd h
  tasks_stay (t ∷ ts) (t' ∷ ts') h = (task_stays t t' h.0, tasks_stay ts ts' h.1)

  -- the worlds after tasks
  pub like_final : OwesLayers → OwesCallees → (ts : List (Task V S)) (ts' : List (Task V' S')) → TasksLike K ts ts' → (s : S) (s' : S') → Rests s s' → (n : ℕ) → IsStuckRun (tasks (func L) ts n (record { state = s; deepest = 0 })) K.strict ⊎ Final W n (world_after (func L) ts s n) (world_after (func L') ts' s')
  like_final owes callees ts ts' h s s' e n =
      final W Rests NoParts (record { idle_end = λ t t' i. K.states_end t t' i.0 }) (λ t t' h. h) L L' (lawful K) (like_functions owes callees) ts ts' (tasks_stay ts ts' h) s s' e n
