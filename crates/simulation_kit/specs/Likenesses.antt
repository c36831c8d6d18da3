-- Passes under which values become values, one for one, and states are related: operands and locals of the output are the
-- images of those of the input.
use Rattle.std.specs.Prelude.{◌≡◌, ℕ, ◌≤◌, Bool, true, false, List, [], ◌∷◌, ◌++◌, map, take, drop, reverse, flat_map, Option, Some, None}
use Rattle.std.specs.List.{AllByRecursion}
use Rattle.evaluation_kit.specs.declared.jump.Jump.{Jump}
use Rattle.evaluation_kit.specs.declared.jump.Jump.TheVariants.{TailCall, Stuck}
use Rattle.outcome_kit.specs.Code.{Go, Leave}
use Rattle.evaluation_kit.specs.Configurations.{Plain, PlainRes}
use Rattle.evaluation_kit.specs.Control.{Caught, Handler, Function, Callee, Own, Host}
use Rattle.evaluation_kit.specs.Forms.{Form, Flat, Enclose, Repeat, Choose, Guard, Invoke, InvokeBy}
use Rattle.evaluation_kit.specs.Languages.{Language}
use Rattle.evaluation_kit.specs.Tasks.{Status, Task, Change, Enter}
use Rattle.simulation_kit.specs.Labels.{IsOther}
use Rattle.simulation_kit.specs.Matches.{Match}
use Rattle.simulation_kit.specs.Rewriting.{Step, body_at, rewrite}
use Rattle.simulation_kit.specs.Hosting.{IsStuckStatus}
use Rattle.simulation_kit.specs.Keeping.{Keeping}

-- Lists of values and their images, indices of functions, and states; frames and places are those of `Match`.
pub record Likeness (V S V' S' : Type 0) : Type 1 where
  pub exact : Bool
  pub strict : Bool
  pub frames : ℕ
  pub more_frames : ℕ
  pub spare : ℕ
  pub frames_some : 1 ≤ frames
  pub spare_within : spare ≤ more_frames
  pub Place : Type 0
  pub Around : Place → Place → Type 0
  pub values : List V → List V'
  pub take_values : (n : ℕ) (l : List V) → take n (values l) ≡ values (take n l)
  pub drop_values : (n : ℕ) (l : List V) → drop n (values l) ≡ values (drop n l)
  pub append_values : (a b : List V) → values a ++ values b ≡ values (a ++ b)
  pub reverse_values : (l : List V) → reverse (values l) ≡ values (reverse l)
  -- what the input keeps by itself; the output has all functions that it calls, at these indices
  pub keeps : Keeping V S
  pub index : ℕ → ℕ
  -- the states while code runs, and those where both runs are halted
  pub States : S → S' → Type 0
  pub Ends : S → S' → Type 0
  pub states_end : (s : S) (s' : S') → States s s' → Ends s s'

module _ {V S V' S' : Type 0} (K : Likeness V S V' S') where
  -- what stands for a jump
  abbrev pub JumpLike : Jump → Jump → Type 0
  JumpLike (TailCall f) j' = K.keeps.Named f × (j' ≡ TailCall (K.index f))
  JumpLike j j' = j' ≡ j

  -- configurations that are alike
  pub record Like (q : Plain V S) (q' : Plain V' S') : Type 0 where
    pub operands : q'.operands ≡ K.values q.operands
    pub locals : q'.locals ≡ K.values q.locals
    pub state : K.States q.state q'.state
    pub sound_operands : K.keeps.Sound q.operands
    pub sound_locals : K.keeps.Sound q.locals
    pub safe : K.keeps.Safe q.state

  -- operands and states that are alike
  pub record Handed (a : List V) (s : S) (a' : List V') (s' : S') : Type 0 where
    pub operands : a' ≡ K.values a
    pub state : K.States s s'
    pub sound : K.keeps.Sound a
    pub safe : K.keeps.Safe s

  -- results of plain instructions
  abbrev pub ResultLike : PlainRes V S → PlainRes V' S' → Type 0
  ResultLike (Go q) (Go q') = Like q q'
  ResultLike (Leave j q) (Leave j' q') = JumpLike j j' × Like q q'
  ResultLike _ _ = ⊥

  -- a function that is left: its locals are gone
  abbrev pub GoneLike : Jump → Plain V S → PlainRes V' S' → Type 0
  GoneLike j q (Go q') = ⊥
  GoneLike j q (Leave j' q') = JumpLike j j' × Handed q.operands q.state q'.operands q'.state

  -- what handlers make of an exception
  abbrev pub CaughtLike : Option (Caught V S) → Option (Caught V' S') → Type 0
  CaughtLike None None = Unit {0}
  CaughtLike (Some k) (Some k') = JumpLike k.jump k'.jump × Handed k.operands k.state k'.operands k'.state
  CaughtLike _ _ = ⊥

  -- the ends of tasks
  abbrev pub StatusLike : Status S → Status S' → Type 0
  StatusLike (Go s) (Go s') = K.States s s' × K.keeps.Safe s
  StatusLike (Leave j s) (Leave j' s') = K.Ends s s'
  StatusLike _ _ = ⊥

  -- what matches is alike; there is one kind
  abbrev pub matching : Match V S V' S'
  matching = record {
    exact = K.exact;
    strict = K.strict;
    frames = K.frames;
    more_frames = K.more_frames;
    spare = K.spare;
    Place = K.Place;
    Around = K.Around;
    Kind = Unit {0};
    join = λ k m. tt;
    Width = λ k n n'. n' ≡ n;
    Stands = λ p k q q'. Like q q';
    Lands = λ p k q q'. Like q q';
    Aside = λ k b b'. (b' ≡ K.values b) × K.keeps.Sound b;
    Waits = λ p l l'. (l' ≡ K.values l) × K.keeps.Sound l;
    Takes = λ k a s a' s'. Handed a s a' s';
    Gives = λ k a s a' s'. Handed a s a' s';
    Left = λ p j q j' q'. JumpLike j j' × Like q q';
    Gone = GoneLike;
    Names = λ f f' k h. K.keeps.Named f × (f' ≡ K.index f);
    Ends = K.Ends;
  }

  -- what plain instructions, handlers, picks and tests owe
  pub record LeafLike (act : Plain V S → PlainRes V S) (act' : Plain V' S' → PlainRes V' S') : Type 0 where
    pub acts : (q : Plain V S) (q' : Plain V' S') → Like q q' → ResultLike (act q) (act' q')

  pub record HandlerLike (t : Handler V S) (t' : Handler V' S') : Type 0 where
    pub catches : (e : ℕ) (s : S) (s' : S') → K.States s s' → K.keeps.Safe s → CaughtLike (t e s) (t' e s')

  abbrev pub PickedLike : Option ℕ → Option ℕ → Type 0
  PickedLike None o' = o' ≡ None
  PickedLike (Some f) o' = K.keeps.Named f × (o' ≡ Some (K.index f))

  pub record PickLike (pick : Plain V S → Option ℕ) (pick' : Plain V' S' → Option ℕ) : Type 0 where
    pub picks : (q : Plain V S) (q' : Plain V' S') → Like q q' → PickedLike (pick q) (pick' q')

  pub record ReadyLike (ready : Plain V S → Bool) (ready' : Plain V' S' → Bool) : Type 0 where
    pub readies : (q : Plain V S) (q' : Plain V' S') → Like q q' → ready q ≡ true → ready' q' ≡ true
    pub asks : (q : Plain V S) → ready q ≡ false → K.strict ≡ true

  -- a function of the host, which is left by no branch and no return
  abbrev pub Lasts : PlainRes V S → Type 0
  Lasts (Go q) = Unit {0}
  Lasts (Leave j q) = IsOther j

  pub record HostLike (act : Plain V S → PlainRes V S) (act' : Plain V' S' → PlainRes V' S') : Type 0 where
    pub acts : (q : Plain V S) (q' : Plain V' S') → Like q q' → ResultLike (act q) (act' q')
    pub lasts : (q : Plain V S) → Lasts (act q)

  -- Fits says of which code a pass speaks: for one, that it calls no function that is not there.
  module _ {I I' X : Type 0} {F : Type 0 → Type 0} (L : Language I F V S) (step : Step X F I') (seen : K.Place → X) (Fits : I → Type 0) where
    -- a body that is rewritten where it stands
    pub record BodyLike (P : I → Type 0) (outer : K.Place) (code : List ((i : I) × P i)) (code' : List I') : Type 0 where
      pub inner : K.Place
      pub around : K.Around inner outer
      pub fits : AllByRecursion Fits (map (λ y. y.0) code)
      pub rewritten : code' ≡ body_at (seen inner) (map (λ y. rewrite L step y.0) code)

    pub record ChoiceLike (P : I → Type 0) (outer : K.Place) (first second : List ((i : I) × P i)) (first' second' : List I') : Type 0 where
      pub inner : K.Place
      pub around : K.Around inner outer
      pub first_fits : AllByRecursion Fits (map (λ y. y.0) first)
      pub second_fits : AllByRecursion Fits (map (λ y. y.0) second)
      pub first_rewritten : first' ≡ body_at (seen inner) (map (λ y. rewrite L step y.0) first)
      pub second_rewritten : second' ≡ body_at (seen inner) (map (λ y. rewrite L step y.0) second)

    -- a form that stays a form of its sort
    abbrev pub FormLike : (P : I → Type 0) → K.Place → Form V S ((i : I) × P i) → Form V' S' I' → Type 0
    FormLike P x (Flat act) (Flat act') = LeafLike act act'
    FormLike P x (Enclose p r code) (Enclose p' r' code') = (p' ≡ p) × (r' ≡ r) × BodyLike P x code code'
    FormLike P x (Repeat p r code) (Repeat p' r' code') = (p' ≡ p) × (r' ≡ r) × BodyLike P x code code'
    FormLike P x (Choose test p r first second) (Choose test' p' r' first' second') =
        (p' ≡ p) × (r' ≡ r) × ((operands : List V) → test' (K.values operands) ≡ test operands) × ChoiceLike P x first second first' second'
    FormLike P x (Guard p r t code) (Guard p' r' t' code') = (p' ≡ p) × (r' ≡ r) × HandlerLike t t' × BodyLike P x code code'
    FormLike P x (Invoke p f) (Invoke p' f') = (p' ≡ p) × K.keeps.Named f × (f' ≡ K.index f)
    FormLike P x (InvokeBy p pick) (InvokeBy p' pick') = (p' ≡ p) × PickLike pick pick'
    FormLike P x _ _ = ⊥

    -- a function whose body is rewritten
    pub record FunctionLike (f : Function I V) (f' : Function I' V') : Type 0 where
      pub place : K.Place
      pub params : f'.params ≡ f.params
      pub results : f'.results ≡ f.results
      pub zeros : f'.zeros ≡ K.values f.zeros
      pub sound : K.keeps.Sound f.zeros
      pub fits : AllByRecursion Fits f.body
      pub body : f'.body ≡ flat_map (λ i. rewrite L step i (seen place)) f.body

    -- what an index names
    abbrev pub CalleeLike : Option (Callee I V S) → Option (Callee I' V' S') → Type 0
    CalleeLike None None = Unit {0}
    CalleeLike (Some (Own f)) (Some (Own f')) = FunctionLike f f'
    CalleeLike (Some (Host p act)) (Some (Host p' act')) = (p' ≡ p) × HostLike act act'
    CalleeLike _ _ = ⊥

  -- what becomes of the result of a call: it reads no locals
  pub record SeeLike (see : PlainRes V S → Status S) (see' : PlainRes V' S' → Status S') : Type 0 where
    pub goes : (operands locals : List V) (s : S) (locals' : List V') (s' : S') → Handed operands s (K.values operands) s' → StatusLike (see (Go (record { operands = operands; locals = locals; state = s }))) (see' (Go (record { operands = K.values operands; locals = locals'; state = s' })))
    pub leaves : (j j' : Jump) (operands locals : List V) (s : S) (locals' : List V') (s' : S') → IsOther j → JumpLike j j' → Handed operands s (K.values operands) s' → StatusLike (see (Leave j (record { operands = operands; locals = locals; state = s }))) (see' (Leave j' (record { operands = K.values operands; locals = locals'; state = s' })))
    pub stuck : (q : Plain V S) → K.strict ≡ true → IsStuckStatus (see (Leave Stuck q)) K.strict

  -- a change of the state
  pub record ChangeLike (f : S → Status S) (f' : S' → Status S') : Type 0 where
    pub changes : (s : S) (s' : S') → K.States s s' → K.keeps.Safe s → StatusLike (f s) (f' s')

  -- tasks
  abbrev pub TaskLike : Task V S → Task V' S' → Type 0
  TaskLike (Change f) (Change f') = ChangeLike f f'
  TaskLike (Enter x operands see) (Enter x' operands' see') = K.keeps.Named x × (x' ≡ K.index x) × (operands' ≡ K.values operands) × K.keeps.Sound operands × SeeLike see see'
  TaskLike _ _ = ⊥

  abbrev pub TasksLike : List (Task V S) → List (Task V' S') → Type 0
  TasksLike [] [] = Unit {0}
  TasksLike (t ∷ ts) (t' ∷ ts') = TaskLike t t' × TasksLike ts ts'
  TasksLike _ _ = ⊥
