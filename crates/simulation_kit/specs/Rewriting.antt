-- A rewriting of code as a fold with a context, and what it owes for one layer.
use Rattle.std.specs.Prelude.{◌≡◌, ℕ, Bool, List, [], ◌∷◌, map, flat_map, Option}
use Rattle.outcome_kit.specs.Code.{run}
use Rattle.evaluation_kit.specs.Configurations.{Plain, Sem}
use Rattle.evaluation_kit.specs.Control.{Handler, when_ready}
use Rattle.evaluation_kit.specs.Forms.{Form, Flat, Enclose, Repeat, Choose, Guard, Invoke, InvokeBy, map_form, eval}
use Rattle.evaluation_kit.specs.Languages.{Language, func, exec, exec_code}
use Rattle.simulation_kit.specs.Matches.{Match, Context, inside, Sims}
use Rattle.simulation_kit.specs.Staying.{LeafStays, TestStays, HandlerStays, PickStays}

-- What becomes of one layer, whose bodies are rewritten wherever they stand: X is what a rewriting sees of its place.
abbrev pub Step : Type 0 → (Type 0 → Type 0) → Type 0 → Type 0
Step X F I' = F (X → List I') → X → List I'

-- the code of a body at a place
abbrev pub body_at : {X I' : Type 0} → X → List (X → List I') → List I'
body_at x parts = flat_map (λ part. part x) parts

-- an instruction
abbrev pub rewrite : {I : Type 0} {F : Type 0 → Type 0} {V S I' X : Type 0} → Language I F V S → Step X F I' → I → X → List I'
rewrite {I' = I'} {X = X} L step i = L.tree.fold (X → List I') step i

module _ {V S V' S' : Type 0} (W : Match V S V' S') where
  -- Bodies that stay: of which kinds their operands are, and where they stand. The label takes one of the two kinds.
  pub record BodyStays (label : W.Kind → W.Kind → W.Kind) (N : ℕ) (x : Context W) (k m : W.Kind) (p r p' r' : ℕ) (a : Sem V S) (b : Sem V' S') : Type 0 where
    pub inner : W.Place
    pub takes : W.Kind
    pub gives : W.Kind
    pub rest : W.Kind
    pub around : W.Around inner x.place
    pub takes_width : W.Width takes p p'
    pub gives_width : W.Width gives r r'
    pub from : W.join takes rest ≡ k
    pub to : W.join gives rest ≡ m
    pub body : Sims W N (inside W x inner (label takes gives)) takes gives a b

  -- a choice, a call, a call of a picked function, and a handler that stay
  pub record ChoiceStays (N : ℕ) (x : Context W) (k m : W.Kind) (test : List V → Bool) (test' : List V' → Bool) (p r p' r' : ℕ) (a e : Sem V S) (b f : Sem V' S') : Type 0 where
    pub inner : W.Place
    pub takes : W.Kind
    pub gives : W.Kind
    pub rest : W.Kind
    pub around : W.Around inner x.place
    pub takes_width : W.Width takes p p'
    pub gives_width : W.Width gives r r'
    pub tests : TestStays W x.place k (W.join takes rest) test test'
    pub to : W.join gives rest ≡ m
    pub first : Sims W N (inside W x inner gives) takes gives a b
    pub second : Sims W N (inside W x inner gives) takes gives e f

  pub record CallStays (x : Context W) (k m : W.Kind) (p f p' f' : ℕ) : Type 0 where
    pub takes : W.Kind
    pub gives : W.Kind
    pub rest : W.Kind
    pub width : W.Width takes p p'
    pub names : W.Names f f' takes gives
    pub from : W.join takes rest ≡ k
    pub to : W.join gives rest ≡ m

  pub record CallByStays (x : Context W) (k m : W.Kind) (p p' : ℕ) (pick : Plain V S → Option ℕ) (pick' : Plain V' S' → Option ℕ) : Type 0 where
    pub takes : W.Kind
    pub gives : W.Kind
    pub rest : W.Kind
    pub width : W.Width takes p p'
    pub picks : PickStays W x.place k takes gives rest pick pick'
    pub to : W.join gives rest ≡ m

  pub record GuardStays (N : ℕ) (x : Context W) (k m : W.Kind) (p r : ℕ) (t : Handler V S) (p' r' : ℕ) (t' : Handler V' S') (a : Sem V S) (b : Sem V' S') : Type 0 where
    pub inner : W.Place
    pub takes : W.Kind
    pub gives : W.Kind
    pub rest : W.Kind
    pub around : W.Around inner x.place
    pub takes_width : W.Width takes p p'
    pub gives_width : W.Width gives r r'
    pub handlers : HandlerStays W x inner (W.join gives rest) t t'
    pub from : W.join takes rest ≡ k
    pub to : W.join gives rest ≡ m
    pub body : Sims W N (inside W x inner gives) takes gives a b

  module _ {I I' : Type 0} {F F' : Type 0 → Type 0} (L : Language I F V S) (L' : Language I' F' V' S') where
    -- a body whose instructions are given with anything beside, and a body of the output
    abbrev pub code_of : {P : I → Type 0} → List ((i : I) × P i) → Sem V S
    code_of code = run (map (λ y. exec L y.0) code)

    -- a form that stays a form of its sort, with all that it owes
    abbrev pub FormStays : {P : I → Type 0} → ℕ → Context W → W.Kind → W.Kind → Form V S ((i : I) × P i) → Form V' S' I' → Type 0
    FormStays N x k m (Flat act) (Flat act') = LeafStays W x k m act act'
    FormStays N x k m (Enclose p r code) (Enclose p' r' code') = BodyStays (λ t g. g) N x k m p r p' r' (code_of code) (exec_code L' code')
    FormStays N x k m (Repeat p r code) (Repeat p' r' code') = BodyStays (λ t g. t) N x k m p r p' r' (code_of code) (exec_code L' code')
    FormStays N x k m (Choose test p r first second) (Choose test' p' r' first' second') =
        ChoiceStays N x k m test test' p r p' r' (code_of first) (code_of second) (exec_code L' first') (exec_code L' second')
    FormStays N x k m (Guard p r t code) (Guard p' r' t' code') = GuardStays N x k m p r t p' r' t' (code_of code) (exec_code L' code')
    FormStays N x k m (Invoke p f) (Invoke p' f') = CallStays x k m p f p' f'
    FormStays N x k m (InvokeBy p pick) (InvokeBy p' pick') = CallByStays x k m p p' pick pick'
    FormStays N x k m _ _ = ⊥

    -- What a rewriting owes is stated for each instruction for which there is a claim: that it stands here, on operands of
    -- one kind, and makes operands of another kind of them.
    module _ {X : Type 0} (step : Step X F I') (seen : Context W → X) (Claim : I → Context W → W.Kind → W.Kind → Type 0) (N : ℕ) where
      -- an instruction that is simulated by what becomes of it, wherever there is a claim
      pub record Simulated (i : I) : Type 0 where
        pub simulates : (x : Context W) (k m : W.Kind) → Claim i x k m → Sims W N x k m (exec L i) (exec_code L' (rewrite L step i (seen x)))

      -- an instruction of a body, which is simulated
      abbrev pub Inner : Type 0
      Inner = (i : I) × Simulated i

      -- the instruction of a layer, what it does, and what becomes of it
      abbrev pub whole : F Inner → I
      whole l = L.tree.roll (L.tree.over Inner I (λ y. y.0) l)

      abbrev pub layer_sem : F Inner → Sem V S
      layer_sem l = when_ready (L.ready Inner l) (eval (func L) (map_form (λ y. exec L y.0) (L.layer Inner l)))

      abbrev pub stepped : F Inner → X → List I'
      stepped l = step (L.tree.over Inner (X → List I') (λ y. rewrite L step y.0) l)

      -- the one layer
      pub record Layers : Type 0 where
        pub layers : (l : F Inner) (x : Context W) (k m : W.Kind) → Claim (whole l) x k m → Sims W N x k m (layer_sem l) (exec_code L' (stepped l (seen x)))

    -- the claims for code in order
    abbrev pub Through : (I → Context W → W.Kind → W.Kind → Type 0) → List I → Context W → W.Kind → W.Kind → Type 0
    Through Claim [] x k m = k ≡ m
    Through Claim (i ∷ code) x k m = (h : W.Kind) × Claim i x k h × Through Claim code x h m
