-- What is owed of an instruction, by the form that types it: a table of instructions is shown safe row by row.
use Rattle.std.proofs.Common.{◌≡◌, ℕ, Bool, true, false, List, [], ◌∷◌, ◌++◌, reverse, Option, Some, None, refl}
use Rattle.std.specs.List.{AllByRecursion}
use Rattle.wasm_ast.specs.declared.module.ty.Ty.{Ty}
use Rattle.wasm_ast.specs.declared.module.ty.Ty.TheVariants as types
use Rattle.wasm_ast.specs.declared.module.parts.Module.{Module}
use Rattle.outcome_kit.specs.Code.{run}
use Rattle.evaluation_kit.specs.Configurations.{Sem}
use Rattle.typing_kit.specs.Form.{Untyped, Flat, Any, Select, Leaves, Table, Block, Choice}
use Rattle.typing_kit.specs.Leaf.{AllSub, FitsLeaf}
use Rattle.typed_trees.specs.Contexts.{Context}
use Rattle.typed_trees.specs.Forms.{InstrForm, where_some, where_true, is_of_kind, language}
use Rattle.typed_trees.specs.Matching.{matches}
use Rattle.typed_trees.proofs.LeafTyped.{IsLeaving}
use Rattle.meaning_new.specs.declared.val.Val.{Val}
use Rattle.meaning_new.specs.Store.{State}
use Rattle.soundness.proofs.Judging.{CodeSafe, NodeSafe, LeaveSafe, code_never_ends}

module _ (m : Module) (N : ℕ) (c : Context) (ls : List (List Ty)) where
  -- its bodies, of both runs: those of the run that asks for types, and those of the other
  pub record Bodies : Type 0 where
    pub first : List (Sem Val State)
    pub second : List (Sem Val State)
    pub other_first : List (Sem Val State)
    pub other_second : List (Sem Val State)

  abbrev pub Safely : Bodies → InstrForm → Sem Val State → Sem Val State → Type 0
  Safely inner Untyped a b = Unit {0}
  Safely inner (Flat takes gives) a b = NodeSafe m N c ls takes gives a b
  Safely inner (Any kind gives) a b = (t : Ty) → is_of_kind kind t ≡ true → NodeSafe m N c ls (t ∷ []) gives a b
  Safely inner Select a b = (t : Ty) → NodeSafe m N c ls (t ∷ (t ∷ (types.I32 ∷ []))) (t ∷ []) a b
  Safely inner (Leaves takes) a b = LeaveSafe m N c ls takes a b
  Safely inner (Table last others) a b = (ts : List Ty) → AllSub matches ts last → AllByRecursion (λ l. AllSub matches ts l) others → LeaveSafe m N c ls (ts ++ types.I32 ∷ []) a b
  Safely inner (Block label takes gives code) a b = CodeSafe m N c (label ∷ ls) (reverse takes) (Some (reverse gives)) (run inner.first) (run inner.other_first) → NodeSafe m N c ls takes gives a b
  Safely inner (Choice label takes gives first second) a b = CodeSafe m N c (label ∷ ls) (reverse takes) (Some (reverse gives)) (run inner.first) (run inner.other_first) → CodeSafe m N c (label ∷ ls) (reverse takes) (Some (reverse gives)) (run inner.second) (run inner.other_second) → NodeSafe m N c ls (takes ++ types.I32 ∷ []) gives a b

  -- the same, so that what it is owed of is read off it
  pub record Owed (inner : Bodies) (f : InstrForm) (a b : Sem Val State) : Type 0 where
    pub safe : Safely inner f a b

  pub some_safe : (inner : Bodies) {a b : Sem Val State} {X : Type 0} {o : Option X} {f : X → InstrForm} → ((x : X) → o ≡ Some x → Owed inner (f x) a b) → Owed inner (where_some o f) a b
  some_safe inner {o = None} h = record { safe = tt }
  some_safe inner {o = Some x} h = h x refl

  pub true_safe : (inner : Bodies) {a b : Sem Val State} {o : Bool} {f : InstrForm} → (o ≡ true → Owed inner f a b) → Owed inner (where_true o f) a b
  true_safe inner {o = false} h = record { safe = tt }
  true_safe inner {o = true} h = h refl

  module _ (inner : Bodies) (a b : Sem Val State) where
    -- a node without bodies that fits its form, and one behind which nothing is reached
    pub fits_safe : (f : InstrForm) (takes gives : List Ty) → Safely inner f a b → FitsLeaf (language c) f takes gives → NodeSafe m N c ls takes gives a b
    fits_safe Untyped takes gives h fits = absurd fits
    fits_safe (Flat x y) takes gives h fits = rw (fits.0, fits.1) h
    fits_safe (Any kind y) takes gives h fits = rw (fits.0.1, fits.1) (h fits.0.0 fits.0.2)
    fits_safe Select takes gives h fits = rw (fits.1, fits.2) (h fits.0)
    fits_safe (Leaves x) takes gives h fits = rw fits.0 (λ rest. code_never_ends m N c ls (reverse x ++ rest) (Some (reverse gives ++ rest)) a b (h rest))
    fits_safe (Table last others) takes gives h fits = rw fits.1 (λ rest. code_never_ends m N c ls (reverse (fits.0 ++ types.I32 ∷ []) ++ rest) (Some (reverse gives ++ rest)) a b (h fits.0 fits.3 fits.4 rest))
    fits_safe (Block label x y code) takes gives h fits = absurd fits
    fits_safe (Choice label x y first second) takes gives h fits = absurd fits

    pub leaving_safe : (f : InstrForm) (takes gives : List Ty) → IsLeaving (language c) f → Safely inner f a b → FitsLeaf (language c) f takes gives → LeaveSafe m N c ls takes a b
    leaving_safe (Leaves x) takes gives leaving h fits = rw fits.0 h
    leaving_safe (Table last others) takes gives leaving h fits = rw fits.1 (h fits.0 fits.3 fits.4)
    leaving_safe Untyped takes gives leaving h fits = absurd fits
    leaving_safe (Flat x y) takes gives leaving h fits = absurd leaving
    leaving_safe (Any kind y) takes gives leaving h fits = absurd leaving
    leaving_safe Select takes gives leaving h fits = absurd leaving
    leaving_safe (Block label x y code) takes gives leaving h fits = absurd leaving
    leaving_safe (Choice label x y first second) takes gives leaving h fits = absurd leaving
