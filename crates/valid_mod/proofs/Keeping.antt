-- The typed bodies so far, and one more.
use Rattle.std.proofs.Common.{◌≡◌, ℕ, zero, suc, ◌+◌, ◌<◌, List, [], ◌∷◌, ◌++◌, length, length-append, Some, IfSome, slice_get, get_or, Err, ap, sym, subst, ◌∙◌, arith}
use Rattle.std.proofs.lemmas.Option.{slice_get-get_or}
use Rattle.wasm_ast.specs.Counts.{Agrees}
use Rattle.wasm_ast.specs.declared.module.code.Body.{Body as Code}
use Rattle.wasm_ast.specs.declared.module.parts.Module.{Module}
use Rattle.typed_trees.specs.declared.module.TypedFn.{TypedFn}
use Rattle.typed_trees.specs.Modules.{TypedFunc}
use Rattle.valid_new.specs.Annotated.{Found, IsUntyped}
use Rattle.valid_mod.specs.declared.invalid.Invalid.{Invalid}
use Rattle.valid_mod.specs.declared.invalid.Invalid.TheVariants.{Part, Body, Memory}
use Rattle.valid_mod.specs.Bodies.{AreBodies, BodiesTyped, TellsOfBody}
use Rattle.valid_mod.specs.Parts.{Section, BodyTyped}
use Rattle.valid_mod.specs.Verdict.{SectionTyped, FirstBody, Tells}
use Rattle.valid_mod.proofs.Whole.{typed_from}

module _ (m : Module) where
  pub none_kept : (fns : List TypedFn) → fns ≡ [] → AreBodies m 0 fns
  none_kept fns e = record { count = ap length e; found = λ k. subst (λ l. IfSome (slice_get l k) (Found m k)) (sym e) tt }

  -- one item more, of which something holds at its place
  more_at : (P : ℕ → TypedFn → Type 0) (fns : List TypedFn) (f : TypedFn) → ((k : ℕ) → IfSome (slice_get fns k) (P k)) → P (length fns) f → (k : ℕ) → IfSome (slice_get (fns ++ f ∷ []) k) (P k)
  more_at P [] f h here zero = here
  more_at P [] f h here (suc k) = tt
  more_at P (g ∷ fns) f h here zero = h 0
  more_at P (g ∷ fns) f h here (suc k) = more_at (λ j. P (suc j)) fns f (λ j. h (suc j)) here k

  pub more_kept : (n : ℕ) (old new : List TypedFn) (f : TypedFn) → AreBodies m n old → Found m n f → new ≡ old ++ f ∷ [] → AreBodies m (n + 1) new
  more_kept n old new f are found e = record {
    count = ap length e ∙ length-append old (f ∷ []) ∙ ap (λ k. k + 1) are.count;
    found = λ k. subst (λ l. IfSome (slice_get l k) (Found m k)) (sym e) (more_at (Found m) old f are.found (subst (λ k. Found m k f) (sym are.count) found) k);
  }

  pub body_typed : (k : ℕ) (f : TypedFn) → Found m k f → BodyTyped m k
  body_typed k f found =
      subst (λ o. IfSome o (λ t. IfSome (slice_get m.codes k) (TypedFunc m t))) (sym found.func)
      (subst (λ o. IfSome o (TypedFunc m found.index)) (sym found.code)
      (record { type = found.type; declared = found.declared; typed = found.annotated.typed }))

  no_fn : TypedFn
  no_fn = record { locals = []; body = [] }

  typed_before : (n : ℕ) (fns : List TypedFn) → AreBodies m n fns → (k : ℕ) → k < n → BodyTyped m k
  typed_before n fns are k l =
      body_typed k (get_or fns k no_fn) (subst (λ o. IfSome o (Found m k)) (slice_get-get_or fns k no_fn (omega (arith, are.count))) (are.found k))

  -- all bodies are typed where so many are as there are
  pub all_typed : (n : ℕ) (fns : List TypedFn) → n ≡ length m.codes → Agrees m → ((s : Section) → SectionTyped m s) → AreBodies m n fns → BodiesTyped m fns
  all_typed n fns e counts parts are = record {
    typed = typed_from m counts parts (λ k l. typed_before n fns are k (omega (arith, e)));
    kept = subst (λ j. AreBodies m j fns) e are;
  }

  no_body : Code
  no_body = record { locals = []; code = [] }

  at_body : (k t : ℕ) (body : Code) → slice_get m.funcs k ≡ Some t → slice_get m.codes k ≡ Some body → BodyTyped m k → TypedFunc m t body
  at_body k t body f c h =
      subst (λ o. IfSome o (TypedFunc m t)) c (subst (λ o. IfSome o (λ t. IfSome (slice_get m.codes k) (TypedFunc m t))) f h)

  pub untyped_body : (k : ℕ) → length m.funcs ≡ length m.codes → k < length m.codes → IsUntyped m k → BodyTyped m k → ⊥
  untyped_body k same l u h =
      let f = slice_get-get_or m.funcs k 0 (omega arith) in
      let c = slice_get-get_or m.codes k no_body l in
      u (get_or m.funcs k 0) (get_or m.codes k no_body) f c (at_body k (get_or m.funcs k 0) (get_or m.codes k no_body) f c h)

  pub first_body : (place k : ℕ) → k ≡ place → length m.funcs ≡ length m.codes → place < length m.codes → ((s : Section) → SectionTyped m s) → ((j : ℕ) → j < place → BodyTyped m j) → IsUntyped m k → FirstBody m k
  first_body place k e same l parts before u = subst (λ x. IsUntyped m x → FirstBody m x) (sym e) (λ v. record { within = l; parts = parts; places_before = before; untyped = untyped_body place same l v }) u

  -- the fault of the first body that is not typed is that of the module
  pub body_fault : (place : ℕ) (fns : List TypedFn) (fault : Invalid) → Agrees m → place < length m.codes → ((s : Section) → SectionTyped m s) → AreBodies m place fns → TellsOfBody m place (Err fault) → Tells m (Err fault)
  body_fault place fns (Part section index) counts l parts are h = absurd h
  body_fault place fns (Body index) counts l parts are h =
      first_body place index h.0 counts.bodies l parts (typed_before place fns are) (subst (IsUntyped m) (sym h.0) h.1)
  body_fault place fns (Memory e) counts l parts are h = tt
