-- Passes whose output state is an image of the state of the input: an instruction owes equations.
use Rattle.std.specs.Prelude.{◌≡◌, ℕ, Bool, true, List, [], ◌∷◌, ◌++◌, take, drop, reverse, Option, Some, None, option_map}
use Rattle.std.specs.List.{take-map, drop-map}
use Rattle.std.proofs.Common.{map, le_refl, refl, sym, ap, ◌∙◌}
use Rattle.std.proofs.lemmas.List.{map-append, reverse-append}
use Rattle.evaluation_kit.specs.declared.jump.Jump.{Jump}
use Rattle.evaluation_kit.specs.declared.jump.Jump.TheVariants.{TailCall, Stuck}
use Rattle.outcome_kit.specs.Code.{Go, Leave}
use Rattle.evaluation_kit.specs.Configurations.{Plain, PlainRes}
use Rattle.evaluation_kit.specs.Control.{Caught, Callee, Own, Host}
use Rattle.evaluation_kit.specs.Forms.{Form, Flat, Enclose, Repeat, Choose, Guard, Invoke, InvokeBy}
use Rattle.evaluation_kit.specs.Languages.{Language}
use Rattle.evaluation_kit.specs.Tasks.{Status, Task, Change, Enter}
use Rattle.simulation_kit.specs.Labels.{IsOther}
use Rattle.simulation_kit.specs.Rewriting.{Step}
use Rattle.simulation_kit.specs.Hosting.{IsStuckStatus}
use Rattle.simulation_kit.specs.Keeping.{Keeping, ActKeeps, ChangeKeeps, SeeKeeps}
use Rattle.simulation_kit.specs.Likenesses.{Likeness, BodyLike, ChoiceLike, FunctionLike, Lasts}

pub reverse-map : {A B : Type 0} (f : A → B) (l : List A) → reverse (map f l) ≡ map f (reverse l)
reverse-map f [] = refl
reverse-map f (a ∷ l) =
    reverse-append (f a ∷ []) (map f l)
    ∙ ap (λ r. r ++ f a ∷ []) (reverse-map f l)
    ∙ sym (map-append f (reverse l) (a ∷ []))
    ∙ ap (map f) (sym (reverse-append (a ∷ []) l))

-- The image: of values, as they lie in lists, of the state and of the indices of functions. At most `spare` calls more are
-- open in the output.
pub record Mirror (V S V' S' : Type 0) : Type 1 where
  pub exact : Bool
  pub strict : Bool
  pub spare : ℕ
  pub Place : Type 0
  pub Around : Place → Place → Type 0
  pub values : List V → List V'
  pub take_values : (n : ℕ) (l : List V) → take n (values l) ≡ values (take n l)
  pub drop_values : (n : ℕ) (l : List V) → drop n (values l) ≡ values (drop n l)
  pub append_values : (a b : List V) → values a ++ values b ≡ values (a ++ b)
  pub reverse_values : (l : List V) → reverse (values l) ≡ values (reverse l)
  pub keeps : Keeping V S
  pub index : ℕ → ℕ
  pub state : S → S'

module _ {V S V' S' : Type 0} (M : Mirror V S V' S') where
  -- what is alike is the image
  abbrev pub mirrored : Likeness V S V' S'
  mirrored = record {
    exact = M.exact;
    strict = M.strict;
    frames = 1;
    more_frames = M.spare;
    spare = M.spare;
    frames_some = le_refl 1;
    spare_within = le_refl M.spare;
    Place = M.Place;
    Around = M.Around;
    values = M.values;
    take_values = M.take_values;
    drop_values = M.drop_values;
    append_values = M.append_values;
    reverse_values = M.reverse_values;
    keeps = M.keeps;
    index = M.index;
    States = λ s s'. s' ≡ M.state s;
    Ends = λ s s'. s' ≡ M.state s;
    states_end = λ s s' e. e;
  }

  -- the image of a configuration, of a jump, of a result, of a caught exception and of the end of a task
  abbrev pub image : Plain V S → Plain V' S'
  image q = record { operands = M.values q.operands; locals = M.values q.locals; state = M.state q.state }

  abbrev pub jump_image : Jump → Jump
  jump_image (TailCall f) = TailCall (M.index f)
  jump_image j = j

  abbrev pub result_image : PlainRes V S → PlainRes V' S'
  result_image (Go q) = Go (image q)
  result_image (Leave j q) = Leave (jump_image j) (image q)

  abbrev pub caught_image : Caught V S → Caught V' S'
  caught_image k = record { jump = jump_image k.jump; operands = M.values k.operands; state = M.state k.state }

  abbrev pub status_image : Status S → Status S'
  status_image (Go s) = Go (M.state s)
  status_image (Leave j s) = Leave j (M.state s)

  -- the equation of a plain instruction
  abbrev pub ActMirrors : (Plain V S → PlainRes V S) → (Plain V' S' → PlainRes V' S') → Type 0
  ActMirrors act act' = (q : Plain V S) → act' (image q) ≡ result_image (act q)

  module _ {I I' X : Type 0} {F : Type 0 → Type 0} (L : Language I F V S) (step : Step X F I') (seen : M.Place → X) (Fits : I → Type 0) where
    -- a form that is mirrored by a form of its sort
    abbrev pub FormMirrors : (P : I → Type 0) → M.Place → Form V S ((i : I) × P i) → Form V' S' I' → Type 0
    FormMirrors P x (Flat act) (Flat act') = ActMirrors act act'
    FormMirrors P x (Enclose p r code) (Enclose p' r' code') = (p' ≡ p) × (r' ≡ r) × BodyLike mirrored L step seen Fits P x code code'
    FormMirrors P x (Repeat p r code) (Repeat p' r' code') = (p' ≡ p) × (r' ≡ r) × BodyLike mirrored L step seen Fits P x code code'
    FormMirrors P x (Choose test p r first second) (Choose test' p' r' first' second') =
        (p' ≡ p) × (r' ≡ r) × ((operands : List V) → test' (M.values operands) ≡ test operands) × ChoiceLike mirrored L step seen Fits P x first second first' second'
    FormMirrors P x (Guard p r t code) (Guard p' r' t' code') =
        (p' ≡ p) × (r' ≡ r) × ((e : ℕ) (s : S) → t' e (M.state s) ≡ option_map caught_image (t e s)) × BodyLike mirrored L step seen Fits P x code code'
    FormMirrors P x (Invoke p f) (Invoke p' f') = (p' ≡ p) × M.keeps.Named f × (f' ≡ M.index f)
    FormMirrors P x (InvokeBy p pick) (InvokeBy p' pick') = (p' ≡ p) × ((q : Plain V S) → pick' (image q) ≡ option_map M.index (pick q))
    FormMirrors P x _ _ = ⊥

    -- what an index names
    abbrev pub CalleeMirrors : Option (Callee I V S) → Option (Callee I' V' S') → Type 0
    CalleeMirrors None None = Unit {0}
    CalleeMirrors (Some (Own f)) (Some (Own f')) = FunctionLike mirrored L step seen Fits f f'
    CalleeMirrors (Some (Host p act)) (Some (Host p' act')) = (p' ≡ p) × ActMirrors act act' × ActKeeps M.keeps act × ((q : Plain V S) → Lasts mirrored (act q))
    CalleeMirrors _ _ = ⊥

  -- what becomes of the result of a call: it reads no locals
  pub record SeeMirrors (see : PlainRes V S → Status S) (see' : PlainRes V' S' → Status S') : Type 0 where
    pub goes : (operands locals : List V) (s : S) (locals' : List V') → see' (Go (record { operands = M.values operands; locals = locals'; state = M.state s })) ≡ status_image (see (Go (record { operands = operands; locals = locals; state = s })))
    pub leaves : (j : Jump) (operands locals : List V) (s : S) (locals' : List V') → IsOther j → see' (Leave (jump_image j) (record { operands = M.values operands; locals = locals'; state = M.state s })) ≡ status_image (see (Leave j (record { operands = operands; locals = locals; state = s })))
    pub stuck : (q : Plain V S) → M.strict ≡ true → IsStuckStatus (see (Leave Stuck q)) M.strict

  -- tasks
  abbrev pub TaskMirrors : Task V S → Task V' S' → Type 0
  TaskMirrors (Change f) (Change f') = ((s : S) → f' (M.state s) ≡ status_image (f s)) × ChangeKeeps M.keeps f
  TaskMirrors (Enter x operands see) (Enter x' operands' see') =
      M.keeps.Named x × (x' ≡ M.index x) × (operands' ≡ M.values operands) × M.keeps.Sound operands × SeeMirrors see see' × SeeKeeps M.keeps see
  TaskMirrors _ _ = ⊥

  abbrev pub TasksMirror : List (Task V S) → List (Task V' S') → Type 0
  TasksMirror [] [] = Unit {0}
  TasksMirror (t ∷ ts) (t' ∷ ts') = TaskMirrors t t' × TasksMirror ts ts'
  TasksMirror _ _ = ⊥

-- the mirror that shows each value by its image
abbrev pub mapping : {V S V' S' : Type 0} → Bool → Bool → ℕ → (Place : Type 0) → (Place → Place → Type 0) → Keeping V S → (V → V') → (ℕ → ℕ) → (S → S') → Mirror V S V' S'
mapping exact strict spare Place Around keeps value index state = record {
  exact = exact;
  strict = strict;
  spare = spare;
  Place = Place;
  Around = Around;
  values = map value;
  take_values = λ n l. take-map value n l;
  drop_values = λ n l. drop-map value n l;
  append_values = λ a b. sym (map-append value a b);
  reverse_values = λ l. reverse-map value l;
  keeps = keeps;
  index = index;
  state = state;
}
