-- What is alike matches: the laws, and what each form owes.
use Rattle.std.proofs.Common.{◌≡◌, ℕ, zero, suc, Bool, List, [], ◌++◌, take, drop, Option, Some, None, refl, sym, ap, ◌∙◌, subst}
use Rattle.evaluation_kit.specs.declared.jump.Jump.{Jump}
use Rattle.evaluation_kit.specs.declared.jump.Jump.TheVariants.{Branch, Return, Throw, TailCall, Trap, NoReply, Full, Stuck}
use Rattle.outcome_kit.specs.Code.{Go, Leave}
use Rattle.evaluation_kit.specs.Configurations.{Plain, PlainRes}
use Rattle.evaluation_kit.specs.Control.{Handler, Caught}
use Rattle.simulation_kit.specs.Labels.{Labels, Outermost, Shared, Added, target, IsShared, IsOther, outward}
use Rattle.simulation_kit.specs.Matches.{Match, Context, Reaches, Jumps, PlainMatches, LeftBy, Lawful, in_locals, front, without_top}
use Rattle.simulation_kit.specs.Staying.{LeafStays, TestStays, HandledBy, HandlerStays, GoneBy, CallsStay, PickedBy, PickStays, plain_taken}
use Rattle.simulation_kit.specs.Likenesses.{Likeness, JumpLike, Like, ResultLike, GoneLike, CaughtLike, matching, LeafLike, HandlerLike, PickedLike, PickLike}

module _ {V S V' S' : Type 0} (K : Likeness V S V' S') where
  abbrev W : Match V S V' S'
  W = matching K

  pub values_none : K.values [] ≡ []
  values_none = sym (K.take_values 0 [])

  pub takes : (n n' : ℕ) (l : List V) (l' : List V') → n' ≡ n → l' ≡ K.values l → take n' l' ≡ K.values (take n l)
  takes n n' l l' e f = ap (λ (i : ℕ). take i l') e ∙ ap (take n) f ∙ K.take_values n l

  drops : (n n' : ℕ) (l : List V) (l' : List V') → n' ≡ n → l' ≡ K.values l → drop n' l' ≡ K.values (drop n l)
  drops n n' l l' e f = ap (λ (i : ℕ). drop i l') e ∙ ap (drop n) f ∙ K.drop_values n l

  pub appends : (a b : List V) (a' b' : List V') → a' ≡ K.values a → b' ≡ K.values b → a' ++ b' ≡ K.values (a ++ b)
  appends a b a' b' e f = ap (λ (i : List V'). i ++ b') e ∙ ap (λ (i : List V'). K.values a ++ i) f ∙ K.append_values a b

  fronts : (n n' : ℕ) (q : Plain V S) (q' : Plain V' S') → n' ≡ n → Like K q q' → Like K (front n q) (front n' q')
  fronts n n' q q' e h = record {
    operands = takes n n' q.operands q'.operands e h.operands;
    locals = h.locals;
    state = h.state;
    sound_operands = K.keeps.takes n q.operands h.sound_operands;
    sound_locals = h.sound_locals;
    safe = h.safe;
  }

  pub popped : (q : Plain V S) (q' : Plain V' S') → Like K q q' → Like K (without_top q) (without_top q')
  popped q q' h = record {
    operands = drops 1 1 q.operands q'.operands refl h.operands;
    locals = h.locals;
    state = h.state;
    sound_operands = K.keeps.drops 1 q.operands h.sound_operands;
    sound_locals = h.sound_locals;
    safe = h.safe;
  }

  -- what stands for a jump that is no branch passes blocks
  jump_out : (j j' : Jump) → IsOther j → JumpLike K j j' → outward j' ≡ Some j'
  jump_out (Branch k) j' o e = absurd o
  jump_out Return j' o e = absurd o
  jump_out (Throw x) j' o e = ap outward e ∙ ap Some (sym e)
  jump_out (TailCall f) j' o e = ap outward e.1 ∙ ap Some (sym e.1)
  jump_out Trap j' o e = ap outward e ∙ ap Some (sym e)
  jump_out (NoReply x) j' o e = ap outward e ∙ ap Some (sym e)
  jump_out Full j' o e = ap outward e ∙ ap Some (sym e)
  jump_out Stuck j' o e = ap outward e ∙ ap Some (sym e)

  pub lawful : Lawful W
  lawful = record {
    frames_some = K.frames_some;
    spare_within = K.spare_within;
    stands_end = λ p k q q' e. K.states_end q.state q'.state e.state;
    takes_end = λ k a s a' s' e. K.states_end s s' e.state;
    lands = λ p k q q' e. e;
    lands_at = λ p k n n' q q' w e. fronts n n' q q' w e;
    enters = λ inner outer k m n n' q q' a w e. (fronts n n' q q' w e, (drops n n' q.operands q'.operands w e.operands, K.keeps.drops n q.operands e.sound_operands));
    leaves = λ inner outer h m b b' q q' a e f. record {
      operands = appends q.operands b q'.operands b' e.operands f.0;
      locals = e.locals;
      state = e.state;
      sound_operands = K.keeps.appends q.operands b e.sound_operands f.1;
      sound_locals = e.sound_locals;
      safe = e.safe;
    };
    lands_out = λ inner outer k q q' a e. e;
    left_out = λ inner outer j j' q q' a o e. subst (λ i. LeftBy W outer j q i q') (sym (jump_out j j' o e.0)) e;
  }

  gone_by : (p : K.Place) (j : Jump) (q : Plain V S) (r' : PlainRes V' S') (locals : List V) (locals' : List V') → GoneLike K j q r' → (locals' ≡ K.values locals) × K.keeps.Sound locals → GoneBy W p j (in_locals locals q) locals' r'
  gone_by p j q (Go q') locals locals' e f = absurd e
  gone_by p j q (Leave j' q') locals locals' e f =
      (e.0, record { operands = e.1.operands; locals = f.0; state = e.1.state; sound_operands = e.1.sound; sound_locals = f.1; safe = e.1.safe })

  pub calls_stay : CallsStay W
  calls_stay = record {
    calls = λ p k m n n' q q' w e. (
      record { operands = takes n n' q.operands q'.operands w e.operands; state = e.state; sound = K.keeps.takes n q.operands e.sound_operands; safe = e.safe },
      (drops n n' q.operands q'.operands w e.operands, K.keeps.drops n q.operands e.sound_operands),
      (e.locals, e.sound_locals),
    );
    returns = λ p h m a b locals s a' b' locals' s' g e f. record {
      operands = appends a b a' b' g.operands e.0;
      locals = f.0;
      state = g.state;
      sound_operands = K.keeps.appends a b g.sound e.1;
      sound_locals = f.1;
      safe = g.safe;
    };
    gone = λ p j q r' locals locals' o e f. gone_by p j q r' locals locals' e f;
  }

  shared_reaches : (x : Context W) (y : Labels (Unit {0})) → IsShared y → (k : ℕ) (q : Plain V S) (q' : Plain V' S') → Like K q q' → Reaches W x (target y k k) q q'
  shared_reaches x (Outermost h) s k q q' e = e
  shared_reaches x (Shared h y) s zero q q' e = e
  shared_reaches x (Shared h y) s (suc k) q q' e = shared_reaches x y s k q q' e
  shared_reaches x (Added y) s k q q' e = absurd s

  module _ (x : Context W) (shared : IsShared x.labels) (m : Unit {0}) where
    jumps : (j j' : Jump) (q : Plain V S) (q' : Plain V' S') → JumpLike K j j' → Like K q q' → Jumps W x j q j' q'
    jumps (Branch k) j' q q' e f = subst (λ i. Jumps W x (Branch k) q i q') (sym e) (shared_reaches x x.labels shared k q q' f)
    jumps Return j' q q' e f = subst (λ i. Jumps W x Return q i q') (sym e) f
    jumps j j' q q' e f = (e, f)

    -- what is alike matches
    pub alike_matches : (r : PlainRes V S) (r' : PlainRes V' S') → ResultLike K r r' → PlainMatches W x m r r'
    alike_matches (Go q) (Go q') e = e
    alike_matches (Go q) (Leave j' q') e = absurd e
    alike_matches (Leave j q) (Go q') e = absurd e
    alike_matches (Leave j q) (Leave j' q') e = jumps j j' q q' e.0 e.1

    pub leaf_stays : (k : Unit {0}) (act : Plain V S → PlainRes V S) (act' : Plain V' S' → PlainRes V' S') → LeafLike K act act' → LeafStays W x k m act act'
    leaf_stays k act act' h = record { acts = λ q q' e. alike_matches (act q) (act' q') (h.acts q q' e) }

    caught_matches : (e : ℕ) (o : Option (Caught V S)) (o' : Option (Caught V' S')) (q : Plain V S) (q' : Plain V' S') → Like K q q' → CaughtLike K o o' → PlainMatches W x m (plain_taken e o q) (plain_taken e o' q')
    caught_matches e None None q q' f h = (refl, f)
    caught_matches e None (Some k') q q' f h = absurd h
    caught_matches e (Some k) None q q' f h = absurd h
    caught_matches e (Some k) (Some k') q q' f h =
        alike_matches (Leave k.jump (record q { operands = k.operands; state = k.state })) (Leave k'.jump (record q' { operands = k'.operands; state = k'.state }))
        (h.0, record { operands = h.1.operands; locals = f.locals; state = h.1.state; sound_operands = h.1.sound; sound_locals = f.sound_locals; safe = h.1.safe })

    handles : (t : Handler V S) (t' : Handler V' S') → HandlerLike K t t' → (j j' : Jump) (q : Plain V S) (q' : Plain V' S') → IsOther j → JumpLike K j j' → Like K q q' → HandledBy W x m t t' j q (outward j') q'
    handles t t' h (Branch k) j' q q' o e f = absurd o
    handles t t' h Return j' q q' o e f = absurd o
    handles t t' h (Throw n) j' q q' o e f =
        subst (λ i. HandledBy W x m t t' (Throw n) q (outward i) q') (sym e) (caught_matches n (t n q.state) (t' n q'.state) q q' f (h.catches n q.state q'.state f.state f.safe))
    handles t t' h (TailCall g) j' q q' o e f = subst (λ i. HandledBy W x m t t' (TailCall g) q (outward i) q') (sym e.1) ((e.0, refl), f)
    handles t t' h Trap j' q q' o e f = subst (λ i. HandledBy W x m t t' Trap q (outward i) q') (sym e) (refl, f)
    handles t t' h (NoReply n) j' q q' o e f = subst (λ i. HandledBy W x m t t' (NoReply n) q (outward i) q') (sym e) (refl, f)
    handles t t' h Full j' q q' o e f = subst (λ i. HandledBy W x m t t' Full q (outward i) q') (sym e) (refl, f)
    handles t t' h Stuck j' q q' o e f = subst (λ i. HandledBy W x m t t' Stuck q (outward i) q') (sym e) (refl, f)

    pub handler_stays : (inner : K.Place) (t : Handler V S) (t' : Handler V' S') → HandlerLike K t t' → HandlerStays W x inner m t t'
    handler_stays inner t t' h = record { handles = λ j j' q q' o e. handles t t' h j j' q q' o e.0 e.1 }

  pub test_stays : (p : K.Place) (k j : Unit {0}) (test : List V → Bool) (test' : List V' → Bool) → ((operands : List V) → test' (K.values operands) ≡ test operands) → TestStays W p k j test test'
  test_stays p k j test test' h = record { same = λ q q' e. ap test' e.operands ∙ h q.operands; popped = λ q q' e. popped q q' e }

  picked : (p : K.Place) (k h : Unit {0}) (o o' : Option ℕ) (q : Plain V S) (q' : Plain V' S') → PickedLike K o o' → Like K q q' → PickedBy W p k h o o' q q'
  picked p k h None o' q q' e f = subst (λ i. PickedBy W p k h None i q q') (sym e) (refl, popped q q' f)
  picked p k h (Some g) o' q q' e f = subst (λ i. PickedBy W p k h (Some g) i q q') (sym e.1) (e.0, refl)

  pub pick_stays : (p : K.Place) (j k h m : Unit {0}) (pick : Plain V S → Option ℕ) (pick' : Plain V' S' → Option ℕ) → PickLike K pick pick' → PickStays W p j k h m pick pick'
  pick_stays p j k h m pick pick' e = record {
    picks = λ q q' f. picked p k h (pick q) (pick' q') q q' (e.picks q q' f) f;
    popped = λ q q' f. popped q q' f;
  }
