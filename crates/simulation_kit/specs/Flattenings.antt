-- Passes under which a value becomes several, by its type: what a matching is where kinds are lists of types.
use Rattle.std.specs.Prelude.{◌≡◌, ℕ, ◌+◌, ◌≤◌, Bool, List, [], ◌∷◌, ◌++◌, length, reverse, flat_map}
use Rattle.evaluation_kit.specs.declared.jump.Jump.{Jump}
use Rattle.evaluation_kit.specs.declared.jump.Jump.TheVariants.{TailCall}
use Rattle.outcome_kit.specs.Code.{Go, Leave}
use Rattle.evaluation_kit.specs.Configurations.{Plain, PlainRes, Sem}
use Rattle.simulation_kit.specs.Matches.{Match, Sims}
use Rattle.evaluation_kit.specs.Control.{Function}
use Rattle.simulation_kit.specs.Labels.{Outermost}

-- Values of types T, and what they become, the top first; frames are those of `Match`.
pub record Flattening (V S V' S' T : Type 0) : Type 1 where
  pub exact : Bool
  pub strict : Bool
  pub frames : ℕ
  pub more_frames : ℕ
  pub spare : ℕ
  pub frames_some : 1 ≤ frames
  pub spare_within : spare ≤ more_frames
  pub Of : T → V → Type 0
  pub width : T → ℕ
  pub flat : V → List V'
  pub flat_width : (t : T) (v : V) → Of t v → length (flat v) ≡ width t
  -- functions of the input, with what they take and give, and their indices in the output
  pub Typed : ℕ → List T → List T → Type 0
  pub index : ℕ → ℕ
  pub States : S → S' → Type 0
  pub Ends : S → S' → Type 0
  pub states_end : (s : S) (s' : S') → States s s' → Ends s s'

-- the types of the locals of a function, and of its results
pub record Frame (T : Type 0) : Type 0 where
  pub locals : List T
  pub results : List T

module _ {V S V' S' T : Type 0} (K : Flattening V S V' S' T) where
  -- values of these types
  abbrev pub AllOf : List T → List V → Type 0
  AllOf [] [] = Unit {0}
  AllOf (t ∷ ts) (v ∷ vs) = K.Of t v × AllOf ts vs
  AllOf _ _ = ⊥

  -- how many values they become
  abbrev pub widths : List T → ℕ
  widths [] = 0
  widths (t ∷ ts) = K.width t + widths ts

  -- operands become operands, and locals locals: the order inside a value turns round
  abbrev pub flats : List V → List V'
  flats vs = flat_map K.flat vs

  abbrev pub flat_locals : List V → List V'
  flat_locals vs = flat_map (λ v. reverse (K.flat v)) vs

  -- configurations of which one is the other, flattened
  pub record Flat (p : Frame T) (k : List T) (q : Plain V S) (q' : Plain V' S') : Type 0 where
    pub operands_of : AllOf k q.operands
    pub operands : q'.operands ≡ flats q.operands
    pub locals_of : AllOf p.locals q.locals
    pub locals : q'.locals ≡ flat_locals q.locals
    pub state : K.States q.state q'.state

  -- with more operands below
  abbrev pub FlatOver : Frame T → List T → Plain V S → Plain V' S' → Type 0
  FlatOver p k q q' = (m : List T) × Flat p (k ++ m) q q'

  -- operands that are handed over, with more below, and those that are given back
  pub record Given (k : List T) (a : List V) (s : S) (a' : List V') (s' : S') : Type 0 where
    pub of : AllOf k a
    pub operands : a' ≡ flats a
    pub state : K.States s s'

  abbrev pub Taken : List T → List V → S → List V' → S' → Type 0
  Taken k a s a' s' = (m : List T) × Given (k ++ m) a s a' s'

  -- jumps but branches and returns: a tail call hands its operands over, other jumps leave them
  abbrev pub LeftFlat : Frame T → Jump → Plain V S → Jump → Plain V' S' → Type 0
  LeftFlat p (TailCall f) q j' q' = (k : List T) × K.Typed f k p.results × (j' ≡ TailCall (K.index f)) × Taken k q.operands q.state q'.operands q'.state
  LeftFlat p j q j' q' = (j' ≡ j) × K.States q.state q'.state

  -- a function that is left
  abbrev pub GoneFlat : Jump → Plain V S → PlainRes V' S' → Type 0
  GoneFlat (TailCall f) q r' = ⊥
  GoneFlat j q (Go q') = ⊥
  GoneFlat j q (Leave j' q') = (j' ≡ j) × K.States q.state q'.state

  -- what matches is flattened
  abbrev pub flattened : Match V S V' S'
  flattened = record {
    exact = K.exact;
    strict = K.strict;
    frames = K.frames;
    more_frames = K.more_frames;
    spare = K.spare;
    Place = Frame T;
    Around = λ inner outer. inner ≡ outer;
    Kind = List T;
    join = λ k m. k ++ m;
    Width = λ k n n'. (n ≡ length k) × (n' ≡ widths k);
    Stands = Flat;
    Lands = FlatOver;
    Aside = λ m b b'. AllOf m b × (b' ≡ flats b);
    Waits = λ p l l'. AllOf p.locals l × (l' ≡ flat_locals l);
    Takes = Taken;
    Gives = Given;
    Left = LeftFlat;
    Gone = GoneFlat;
    Names = λ f f' k h. K.Typed f k h × (f' ≡ K.index f);
    Ends = K.Ends;
  }

  -- A function that takes k and gives h, with further locals of types z: it is one of the output if its body is.
  pub record FunctionFlat {I I' : Type 0} (N : ℕ) (k h z : List T) (f : Function I V) (f' : Function I' V') (code : Sem V S) (code' : Sem V' S') : Type 0 where
    pub params : (f.params ≡ length k) × (f'.params ≡ widths k)
    pub results : (f.results ≡ length h) × (f'.results ≡ widths h)
    pub zeros_of : AllOf z f.zeros
    pub zeros : f'.zeros ≡ flat_locals f.zeros
    pub body : Sims flattened N (record { place = record { locals = reverse k ++ z; results = h }; labels = Outermost h }) [] h code code'
