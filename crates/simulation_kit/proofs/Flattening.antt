-- The laws of a matching where a value becomes several.
use Rattle.std.proofs.Common.{◌≡◌, ℕ, ◌+◌, List, [], ◌∷◌, ◌++◌, take, drop, length, reverse, refl, sym, ap, ◌∙◌, subst, append-nil}
use Rattle.std.proofs.Math.Seq.{take-append-add, drop-append-add}
use Rattle.std.proofs.lemmas.List.{reverse-append}
use Rattle.std.proofs.lemmas.Grind.{flat_map-append}
use Rattle.evaluation_kit.specs.declared.jump.Jump.{Jump}
use Rattle.evaluation_kit.specs.declared.jump.Jump.TheVariants.{Branch, Return, Throw, TailCall, Trap, NoReply, Full, Stuck}
use Rattle.outcome_kit.specs.Code.{Go, Leave}
use Rattle.evaluation_kit.specs.Configurations.{Plain, PlainRes, Sem}
use Rattle.evaluation_kit.specs.Control.{Function}
use Rattle.simulation_kit.specs.Labels.{IsOther, outward}
use Rattle.simulation_kit.specs.Matches.{Match, LeftBy, Lawful, in_locals, front, over}
use Rattle.simulation_kit.specs.Staying.{GoneBy, CallsStay, IsLasting, FallsBy, TailBy, FunctionStays, plain_opened}
use Rattle.simulation_kit.specs.Flattenings.{Flattening, Frame, AllOf, widths, flats, flat_locals, Flat, Taken, LeftFlat, GoneFlat, flattened, FunctionFlat}

module _ {V S V' S' T : Type 0} (K : Flattening V S V' S' T) where
  abbrev W : Match V S V' S'
  W = flattened K

  -- values of types that are joined, taken apart, in both
  front_of : (k m : List T) (l : List V) → AllOf K (k ++ m) l → AllOf K k (take (length k) l)
  front_of [] m l h = tt
  front_of (t ∷ k) m [] h = absurd h
  front_of (t ∷ k) m (v ∷ l) h = (h.0, front_of k m l h.1)

  rest_of : (k m : List T) (l : List V) → AllOf K (k ++ m) l → AllOf K m (drop (length k) l)
  rest_of [] m l h = h
  rest_of (t ∷ k) m [] h = absurd h
  rest_of (t ∷ k) m (v ∷ l) h = rest_of k m l h.1

  join_of : (k m : List T) (a b : List V) → AllOf K k a → AllOf K m b → AllOf K (k ++ m) (a ++ b)
  join_of [] m [] b h g = g
  join_of [] m (v ∷ a) b h g = absurd h
  join_of (t ∷ k) m [] b h g = absurd h
  join_of (t ∷ k) m (v ∷ a) b h g = (h.0, join_of k m a b h.1 g)

  take-flats : (k m : List T) (l : List V) → AllOf K (k ++ m) l → take (widths K k) (flats K l) ≡ flats K (take (length k) l)
  take-flats [] m l h = refl
  take-flats (t ∷ k) m [] h = absurd h
  take-flats (t ∷ k) m (v ∷ l) h =
      ap (λ (n : ℕ). take (n + widths K k) (K.flat v ++ flats K l)) (sym (K.flat_width t v h.0))
      ∙ take-append-add (K.flat v) (flats K l) (widths K k)
      ∙ ap (λ (r : List V'). K.flat v ++ r) (take-flats k m l h.1)

  drop-flats : (k m : List T) (l : List V) → AllOf K (k ++ m) l → drop (widths K k) (flats K l) ≡ flats K (drop (length k) l)
  drop-flats [] m l h = refl
  drop-flats (t ∷ k) m [] h = absurd h
  drop-flats (t ∷ k) m (v ∷ l) h =
      ap (λ (n : ℕ). drop (n + widths K k) (K.flat v ++ flats K l)) (sym (K.flat_width t v h.0))
      ∙ drop-append-add (K.flat v) (flats K l) (widths K k)
      ∙ drop-flats k m l h.1

  module _ (k m : List T) (n n' : ℕ) (l : List V) (l' : List V') (width : (n ≡ length k) × (n' ≡ widths K k)) (of : AllOf K (k ++ m) l) (is : l' ≡ flats K l) where
    taken_of : AllOf K k (take n l)
    taken_of = subst (λ i. AllOf K k (take i l)) (sym width.0) (front_of k m l of)

    dropped_of : AllOf K m (drop n l)
    dropped_of = subst (λ i. AllOf K m (drop i l)) (sym width.0) (rest_of k m l of)

    taken : take n' l' ≡ flats K (take n l)
    taken = ap (λ (i : ℕ). take i l') width.1 ∙ ap (take (widths K k)) is ∙ take-flats k m l of ∙ ap (λ (i : ℕ). flats K (take i l)) (sym width.0)

    dropped : drop n' l' ≡ flats K (drop n l)
    dropped = ap (λ (i : ℕ). drop i l') width.1 ∙ ap (drop (widths K k)) is ∙ drop-flats k m l of ∙ ap (λ (i : ℕ). flats K (drop i l)) (sym width.0)

  joined : (a b : List V) (a' b' : List V') → a' ≡ flats K a → b' ≡ flats K b → a' ++ b' ≡ flats K (a ++ b)
  joined a b a' b' e f = ap (λ (i : List V'). i ++ b') e ∙ ap (λ (i : List V'). flats K a ++ i) f ∙ sym (flat_map-append K.flat a b)

  fronts : (p : Frame T) (k m : List T) (n n' : ℕ) (q : Plain V S) (q' : Plain V' S') → (n ≡ length k) × (n' ≡ widths K k) → Flat K p (k ++ m) q q' → Flat K p k (front n q) (front n' q')
  fronts p k m n n' q q' w h = record {
    operands_of = taken_of k m n n' q.operands q'.operands w h.operands_of h.operands;
    operands = taken k m n n' q.operands q'.operands w h.operands_of h.operands;
    locals_of = h.locals_of;
    locals = h.locals;
    state = h.state;
  }

  over_none : (p : Frame T) (k : List T) (q : Plain V S) (q' : Plain V' S') → Flat K p k q q' → Flat K p (k ++ []) q q'
  over_none p k q q' h = subst (λ i. Flat K p i q q') (sym (append-nil k)) h

  left_out : (p : Frame T) (j j' : Jump) (q : Plain V S) (q' : Plain V' S') → IsOther j → LeftFlat K p j q j' q' → LeftBy W p j q (outward j') q'
  left_out p (Branch k) j' q q' o h = absurd o
  left_out p Return j' q q' o h = absurd o
  left_out p (TailCall f) j' q q' o h = subst (λ i. LeftBy W p (TailCall f) q (outward i) q') (sym h.2) (h.0, h.1, refl, h.3)
  left_out p (Throw e) j' q q' o h = subst (λ i. LeftBy W p (Throw e) q (outward i) q') (sym h.0) (refl, h.1)
  left_out p Trap j' q q' o h = subst (λ i. LeftBy W p Trap q (outward i) q') (sym h.0) (refl, h.1)
  left_out p (NoReply e) j' q q' o h = subst (λ i. LeftBy W p (NoReply e) q (outward i) q') (sym h.0) (refl, h.1)
  left_out p Full j' q q' o h = subst (λ i. LeftBy W p Full q (outward i) q') (sym h.0) (refl, h.1)
  left_out p Stuck j' q q' o h = subst (λ i. LeftBy W p Stuck q (outward i) q') (sym h.0) (refl, h.1)

  pub lawful : Lawful W
  lawful = record {
    frames_some = K.frames_some;
    spare_within = K.spare_within;
    stands_end = λ p k q q' h. K.states_end q.state q'.state h.state;
    takes_end = λ k a s a' s' h. K.states_end s s' h.1.state;
    lands = λ p k q q' h. ([], over_none p k q q' h);
    lands_at = λ p k n n' q q' w h. fronts p k h.0 n n' q q' w h.1;
    enters = λ inner outer k m n n' q q' a w h. (
      subst (λ i. Flat K i k (front n q) (front n' q')) (sym a) (fronts outer k m n n' q q' w h),
      (dropped_of k m n n' q.operands q'.operands w h.operands_of h.operands, dropped k m n n' q.operands q'.operands w h.operands_of h.operands),
    );
    leaves = λ inner outer h m b b' q q' a f g. subst (λ i. Flat K i (h ++ m) (over b q) (over b' q')) a (record {
      operands_of = join_of h m q.operands b f.operands_of g.0;
      operands = joined q.operands b q'.operands b' f.operands g.1;
      locals_of = f.locals_of;
      locals = f.locals;
      state = f.state;
    });
    lands_out = λ inner outer k q q' a h. (h.0, subst (λ i. Flat K i (k ++ h.0) q q') a h.1);
    left_out = λ inner outer j j' q q' a o h. left_out outer j j' q q' o (subst (λ i. LeftFlat K i j q j' q') a h);
  }

  gone_by : (p : Frame T) (j : Jump) (q : Plain V S) (r' : PlainRes V' S') (locals : List V) (locals' : List V') → IsOther j → GoneFlat K j q r' → GoneBy W p j (in_locals locals q) locals' r'
  gone_by p (Branch k) q r' l l' o h = absurd o
  gone_by p Return q r' l l' o h = absurd o
  gone_by p (TailCall f) q r' l l' o h = absurd h
  gone_by p j q (Go q') l l' o h = absurd h
  gone_by p j q (Leave j' q') l l' o h = h

  pub calls_stay : CallsStay W
  calls_stay = record {
    calls = λ p k m n n' q q' w h. (
      (
        [],
        record {
          of = subst (λ i. AllOf K i (take n q.operands)) (sym (append-nil k)) (taken_of k m n n' q.operands q'.operands w h.operands_of h.operands);
          operands = taken k m n n' q.operands q'.operands w h.operands_of h.operands;
          state = h.state;
        },
      ),
      (dropped_of k m n n' q.operands q'.operands w h.operands_of h.operands, dropped k m n n' q.operands q'.operands w h.operands_of h.operands),
      (h.locals_of, h.locals),
    );
    returns = λ p h m a b locals s a' b' locals' s' g e f. record {
      operands_of = join_of h m a b g.of e.0;
      operands = joined a b a' b' g.operands e.1;
      locals_of = f.0;
      locals = f.1;
      state = g.state;
    };
    gone = λ p j q r' locals locals' o h f. gone_by p j q r' locals locals' o h;
  }

  flat_map-reverse : (l : List V) → reverse (flats K l) ≡ flat_locals K (reverse l)
  flat_map-reverse [] = refl
  flat_map-reverse (v ∷ l) =
      reverse-append (K.flat v) (flats K l)
      ∙ ap (λ (i : List V'). i ++ reverse (K.flat v)) (flat_map-reverse l)
      ∙ ap (λ (i : List V'). flat_locals K (reverse l) ++ i) (sym (append-nil (reverse (K.flat v))))
      ∙ sym (flat_map-append (λ u. reverse (K.flat u)) (reverse l) (v ∷ []))
      ∙ ap (flat_locals K) (sym (reverse-append (v ∷ []) l))

  -- the operands that a function takes become its first locals
  pub opened_locals : (k m : List T) (n n' : ℕ) (a : List V) (a' : List V') → (n ≡ length k) × (n' ≡ widths K k) → AllOf K (k ++ m) a → a' ≡ flats K a → reverse (take n' a') ≡ flat_locals K (reverse (take n a))
  opened_locals k m n n' a a' w of is = ap reverse (taken k m n n' a a' w of is) ∙ flat_map-reverse (take n a)

  reverse_of : (k : List T) (l : List V) → AllOf K k l → AllOf K (reverse k) (reverse l)
  reverse_of [] [] h = tt
  reverse_of [] (v ∷ l) h = absurd h
  reverse_of (t ∷ k) [] h = absurd h
  reverse_of (t ∷ k) (v ∷ l) h =
      subst (λ i. AllOf K i (reverse (v ∷ l))) (sym (reverse-append (t ∷ []) k))
      (subst (λ i. AllOf K (reverse k ++ t ∷ []) i) (sym (reverse-append (v ∷ []) l)) (join_of (reverse k) (t ∷ []) (reverse l) (v ∷ []) (reverse_of k l h.1) (h.0, tt)))

  falls : (p : Frame T) (r' : ℕ) (j j' : Jump) (q : Plain V S) (q' : Plain V' S') → IsLasting W j → LeftFlat K p j q j' q' → FallsBy W r' j q j' q'
  falls p r' (Branch k) j' q q' o h = absurd o
  falls p r' Return j' q q' o h = absurd o
  falls p r' (TailCall f) j' q q' o h = absurd o
  falls p r' (Throw e) j' q q' o h = subst (λ i. FallsBy W r' (Throw e) q i q') (sym h.0) (refl, h.1)
  falls p r' Trap j' q q' o h = subst (λ i. FallsBy W r' Trap q i q') (sym h.0) (refl, h.1)
  falls p r' (NoReply e) j' q q' o h = subst (λ i. FallsBy W r' (NoReply e) q i q') (sym h.0) (refl, h.1)
  falls p r' Full j' q q' o h = subst (λ i. FallsBy W r' Full q i q') (sym h.0) (refl, h.1)
  falls p r' Stuck j' q q' o h = subst (λ i. FallsBy W r' Stuck q i q') (sym h.0) (refl, h.1)

  module _ {I I' : Type 0} (N : ℕ) (k h z : List T) (f : Function I V) (f' : Function I' V') (code : Sem V S) (code' : Sem V' S') (is : FunctionFlat K N k h z f f' code code') where
    opens : (a : List V) (s : S) (a' : List V') (s' : S') → Taken K k a s a' s' → Flat K (record { locals = reverse k ++ z; results = h }) [] (plain_opened f a s) (plain_opened f' a' s')
    opens a s a' s' t = record {
      operands_of = tt;
      operands = refl;
      locals_of = join_of (reverse k) z (reverse (take f.params a)) f.zeros (reverse_of k (take f.params a) (taken_of k t.0 f.params f'.params a a' is.params t.1.of t.1.operands)) is.zeros_of;
      locals =
          ap (λ (l : List V'). l ++ f'.zeros) (opened_locals k t.0 f.params f'.params a a' is.params t.1.of t.1.operands)
          ∙ ap (λ (l : List V'). flat_locals K (reverse (take f.params a)) ++ l) is.zeros
          ∙ sym (flat_map-append (λ v. reverse (K.flat v)) (reverse (take f.params a)) f.zeros);
      state = t.1.state;
    }

    pub function_flat : FunctionStays W N k h f f' code code'
    function_flat = record {
      place = record { locals = reverse k ++ z; results = h };
      start = [];
      width = is.results;
      opens = opens;
      body = is.body;
      gives = λ q q' g. record { of = g.operands_of; operands = g.operands; state = g.state };
      falls = λ j j' q q' o l. falls (record { locals = reverse k ++ z; results = h }) f'.results j j' q q' o l;
      tails = λ g j' q q' l. subst (λ i. TailBy W h g q i q') (sym l.2) (l.0, (l.1, refl), l.3);
    }
