-- Code in order, plain instructions, and instructions that are run where their operands have their types.
use Rattle.std.proofs.Common.{◌≡◌, ℕ, suc, ◌<◌, List, [], ◌∷◌, ◌++◌, Bool, true, false, refl, sym, ◌∙◌, subst, arith}
use Rattle.evaluation_kit.specs.declared.jump.Jump.TheVariants.{Stuck}
use Rattle.outcome_kit.specs.Outcome.{Done, bind}
use Rattle.outcome_kit.specs.Code.{Go, Leave, go_on, run}
use Rattle.outcome_kit.proofs.Outcomes.{bind-same, bind-unit, run-append}
use Rattle.evaluation_kit.specs.Configurations.{World, Conf, Plain, PlainRes, Res, Sem, plain_of, settled}
use Rattle.evaluation_kit.specs.Control
use Rattle.evaluation_kit.specs.Control.{where_ready, when_ready}
use Rattle.simulation_kit.specs.Runs.{Runs, IsFree}
use Rattle.simulation_kit.specs.Matches.{Match, Context, Calls, Depths, Same, Halts, PlainMatches, Results, IsStuck, ends, Sims}
use Rattle.simulation_kit.specs.Staying.{LeafStays, ReadyStays}
use Rattle.simulation_kit.proofs.Running.{runs_done, runs_free, runs_alike, runs_bind}

module _ {V S : Type 0} where
  ends_there : (d : ℕ) (r : Res V S) (m : ℕ) → go_on {H = World S} (run [] d) r m ≡ Done 0 r
  ends_there d (Go e) m = refl
  ends_there d (Leave j e) m = refl

  -- a run of one part
  pub run-one : (a : Sem V S) (d n : ℕ) (c : Conf V S) → run (a ∷ []) d n c ≡ a d n c
  run-one a d n c = bind-same n (a d n c) (go_on (run [] d)) (λ r m. Done 0 r) (ends_there d) ∙ bind-unit n (a d n c)

module _ {V S V' S' : Type 0} (W : Match V S V' S') where
  pub less_sims : (N : ℕ) (x : Context W) (k m : W.Kind) (a : Sem V S) (b : Sem V' S') → Sims W (suc N) x k m a b → Sims W N x k m a b
  less_sims N x k m a b h = record { by = λ d d' n c c' lt calls same. let more : n < suc N = omega arith in h.by d d' n c c' more calls same }

  -- the same code, said otherwise
  pub sims_alike : (N : ℕ) (x : Context W) (k m : W.Kind) (a e : Sem V S) (b f : Sem V' S') → ((d n : ℕ) (c : Conf V S) → a d n c ≡ e d n c) → ((d n : ℕ) (c : Conf V' S') → b d n c ≡ f d n c) → Sims W N x k m a b → Sims W N x k m e f
  sims_alike N x k m a e b f ea eb h = record {
    by = λ d d' n c c' lt calls same. runs_alike W.exact (Halts W) (ends W x m d) n (a d n c) (e d n c) (λ j. b d' j c') (λ j. f d' j c') (ea d n c) (λ j. eb d' j c') (h.by d d' n c c' lt calls same);
  }

  -- no code
  pub sims_nothing : (N : ℕ) (x : Context W) (k : W.Kind) → Sims W N x k k (run []) (run [])
  sims_nothing N x k = record {
    by = λ d d' n c c' lt calls same. runs_done W.exact (Halts W) (ends W x k d) n (Go c) (Go c') (record { depths = same.depths; plain = same.plain });
  }

  pub stuck_goes_on : (x : Context W) (m : W.Kind) (d : ℕ) (a : ℕ → Conf V S → _) (r : Res V S) (i : ℕ) → IsStuck r W.strict → IsFree W.exact (Halts W) (ends W x m d) (go_on a r i)
  stuck_goes_on x m d a (Leave Stuck c) i f = f
  stuck_goes_on x m d a (Leave j c) i f = absurd f
  stuck_goes_on x m d a (Go c) i f = absurd f

  goes_on : (N : ℕ) (x : Context W) (h m : W.Kind) (d d' : ℕ) → Calls W d d' → (a : Sem V S) (b : Sem V' S') → Sims W N x h m a b → (r : Res V S) (r' : Res V' S') (i : ℕ) → i < N → Results W x h d r r' → Runs W.exact (Halts W) (ends W x m d) i (go_on (a d) r i) (λ j. go_on (b d') r' j)
  goes_on N x h m d d' calls a b sims (Go c) (Go c') i lt g = sims.by d d' i c c' lt calls (record { depths = g.depths; plain = g.plain })
  goes_on N x h m d d' calls a b sims (Go c) (Leave j' c') i lt g = absurd g.plain
  goes_on N x h m d d' calls a b sims (Leave j c) (Go c') i lt g = absurd g.plain
  goes_on N x h m d d' calls a b sims (Leave j c) (Leave j' c') i lt g =
      runs_done W.exact (Halts W) (ends W x m d) i (Leave j c) (Leave j' c') (record { depths = g.depths; plain = g.plain })

  -- one part after another
  pub sims_then : (N : ℕ) (x : Context W) (k h m : W.Kind) (a : Sem V S) (b : Sem V' S') (more : List (Sem V S)) (others : List (Sem V' S')) → Sims W N x k h a b → Sims W N x h m (run more) (run others) → Sims W N x k m (run (a ∷ more)) (run (b ∷ others))
  sims_then N x k h m a b more others first rest = record {
    by = λ d d' n c c' lt calls same.
        runs_bind W.exact (Halts W) (ends W x h d) (ends W x m d) (go_on (run more d)) (go_on (run others d')) n (a d n c) (λ j. b d' j c')
        (first.by d d' n c c' lt calls same)
        (λ r i f. stuck_goes_on x m d (run more d) r i f)
        (λ r r' i le g. let less : i < N = omega arith in goes_on N x h m d d' calls (run more) (run others) rest r r' i less g);
  }

  -- one part becomes one, and one part becomes several
  pub sims_one : (N : ℕ) (x : Context W) (k m : W.Kind) (a : Sem V S) (b : Sem V' S') → Sims W N x k m a b → Sims W N x k m a (run (b ∷ []))
  sims_one N x k m a b h = sims_alike N x k m a a b (run (b ∷ [])) (λ d n c. refl) (λ d n c. sym (run-one b d n c)) h

  pub sims_several : (N : ℕ) (x : Context W) (k h m : W.Kind) (a : Sem V S) (bs : List (Sem V' S')) (more : List (Sem V S)) (others : List (Sem V' S')) → Sims W N x k h a (run bs) → Sims W N x h m (run more) (run others) → Sims W N x k m (run (a ∷ more)) (run (bs ++ others))
  sims_several N x k h m a bs more others first rest = record {
    by = λ d d' n c c' lt calls same.
        runs_alike W.exact (Halts W) (ends W x m d) n (run (a ∷ more) d n c) (run (a ∷ more) d n c) (λ j. bind j (run bs d' j c') (go_on (run others d'))) (λ j. run (bs ++ others) d' j c') refl
        (λ j. sym (run-append bs others d' j c'))
        (runs_bind W.exact (Halts W) (ends W x h d) (ends W x m d) (go_on (run more d)) (go_on (run others d')) n (a d n c) (λ j. run bs d' j c')
        (first.by d d' n c c' lt calls same)
        (λ r i f. stuck_goes_on x m d (run more d) r i f)
        (λ r r' i le g. let less : i < N = omega arith in goes_on N x h m d d' calls (run more) (run others) rest r r' i less g));
  }

  settles : (x : Context W) (m : W.Kind) (d : ℕ) (w : World S) (w' : World S') (r : PlainRes V S) (r' : PlainRes V' S') → Depths W d w w' → PlainMatches W x m r r' → Results W x m d (settled w r) (settled w' r')
  settles x m d w w' (Go p) (Go p') h g = record { depths = record { reached = h.reached; bound = h.bound }; plain = g }
  settles x m d w w' (Go p) (Leave j' p') h g = absurd g
  settles x m d w w' (Leave j p) (Go p') h g = absurd g
  settles x m d w w' (Leave j p) (Leave j' p') h g = record { depths = record { reached = h.reached; bound = h.bound }; plain = g }

  -- a plain instruction
  pub sims_leaf : (N : ℕ) (x : Context W) (k m : W.Kind) (act : Plain V S → PlainRes V S) (act' : Plain V' S' → PlainRes V' S') → LeafStays W x k m act act' → Sims W N x k m (Control.leaf act) (Control.leaf act')
  sims_leaf N x k m act act' h = record {
    by = λ d d' n c c' lt calls same.
        runs_done W.exact (Halts W) (ends W x m d) n (settled c.world (act (plain_of c))) (settled c'.world (act' (plain_of c')))
        (settles x m d c.world c'.world (act (plain_of c)) (act' (plain_of c')) same.depths (h.acts (plain_of c) (plain_of c') same.plain));
  }

  -- an instruction that learns that its operands have their types
  pub sims_learning : (N : ℕ) (x : Context W) (k m : W.Kind) (ready : Plain V S → Bool) (a : Sem V S) (b : Sem V' S') → ((q : Plain V S) → ready q ≡ false → W.strict ≡ true) → ((d d' n : ℕ) (c : Conf V S) (c' : Conf V' S') → n < N → Calls W d d' → Same W x k d c c' → ready (plain_of c) ≡ true → Runs W.exact (Halts W) (ends W x m d) n (a d n c) (λ j. b d' j c')) → Sims W N x k m (when_ready ready a) b
  sims_learning N x k m ready a b asks h = record { by = λ d d' n c c' lt calls same. either d d' n c c' (ready (plain_of c)) (asks (plain_of c)) (h d d' n c c' lt calls same) }
    where
      either : (d d' n : ℕ) (c : Conf V S) (c' : Conf V' S') (is : Bool) → (is ≡ false → W.strict ≡ true) → (is ≡ true → Runs W.exact (Halts W) (ends W x m d) n (a d n c) (λ j. b d' j c')) → Runs W.exact (Halts W) (ends W x m d) n (where_ready is a d n c) (λ j. b d' j c')
      either d d' n c c' true asks g = g refl
      either d d' n c c' false asks g = runs_free W.exact (Halts W) (ends W x m d) n (Done 0 (Leave Stuck c)) (λ j. b d' j c') (asks refl)

  pub sims_ready : (N : ℕ) (x : Context W) (k m : W.Kind) (ready : Plain V S → Bool) (ready' : Plain V' S' → Bool) (a : Sem V S) (b : Sem V' S') → ReadyStays W x k ready ready' → Sims W N x k m a b → Sims W N x k m (when_ready ready a) (when_ready ready' b)
  sims_ready N x k m ready ready' a b stays h = sims_learning N x k m ready a (when_ready ready' b) stays.asks (λ d d' n c c' lt calls same is.
      subst (λ i. Runs W.exact (Halts W) (ends W x m d) n (a d n c) (λ j. where_ready i b d' j c')) (sym (stays.readies (plain_of c) (plain_of c') same.plain is)) (h.by d d' n c c' lt calls same))
