-- Readings in a row: what is read stands in front of what is left, and the first fault is the fault of all.
use Rattle.std.proofs.Common.{◌≡◌, ℕ, ◌+◌, ◌<◌, ◌≤◌, List, [], ◌∷◌, ◌++◌, length, get_or, drop, Result, Ok, Err, refl, sym, ap, ◌∙◌, subst, append_assoc, append-nil}
use Rattle.std.proofs.Math.ListN.{drop_of_length-le}
use Rattle.std.proofs.lemmas.List.{drop_more}
use Rattle.std.specs.Fmt.{decimal}
use Rattle.serde_json.specs.Data.{Data}
use Rattle.serde_json.specs.View.{view, items_view}
use Rattle.serde_json.specs.declared.value.Value.{Value}
use Rattle.host_kit.specs.declared.fault.ScriptFault.{ScriptFault}
use Rattle.host_kit.specs.declared.fault.ScriptFault.TheVariants.{Shape, Memory}
use Rattle.host_kit.specs.Faults.{Tells}
use Rattle.host_kit.specs.Forms.{below, followed, items_form}

-- a fault of the first is the fault of both
pub stops : {A B : Type 0} (e : ScriptFault) (r : Result A (List ℕ)) (f : A → Result B (List ℕ)) → Tells {A = A} (Err e) r → Tells {A = B} (Err e) (followed r f)
stops (Shape path) r f h = ap (λ s. followed s f) h
stops (Memory e) r f h = tt

-- what is read in front of the rest
abbrev pub onto : {A : Type 0} → List A → Result (List A) (List ℕ) → Result (List A) (List ℕ)
onto xs r = followed r (λ ys. Ok (xs ++ ys))

onto-nothing : {A : Type 0} (r : Result (List A) (List ℕ)) → r ≡ onto [] r
onto-nothing (Ok xs) = refl
onto-nothing (Err path) = refl

onto-more : {A : Type 0} (xs : List A) (x : A) (r : Result (List A) (List ℕ)) → onto xs (followed r (λ ys. Ok (x ∷ ys))) ≡ onto (xs ++ x ∷ []) r
onto-more xs x (Ok ys) = ap Ok (sym (append_assoc xs (x ∷ []) ys))
onto-more xs x (Err path) = refl

module _ {A : Type 0} (f : Data → Result A (List ℕ)) (trees : List Value) where
  -- the values so far, and what the rest is read as
  abbrev pub SoFar : List A → ℕ → Type 0
  SoFar xs i = items_form f 0 (items_view trees) ≡ onto xs (items_form f i (items_view (drop i trees)))

  pub so_far_first : SoFar [] 0
  so_far_first = onto-nothing (items_form f 0 (items_view trees))

  opened : (i : ℕ) (d : Value) → i < length trees → items_form f i (items_view (drop i trees)) ≡ followed (below (decimal i) (f (view (get_or trees i d)))) (λ x. followed (items_form f (i + 1) (items_view (drop (i + 1) trees))) (λ xs. Ok (x ∷ xs)))
  opened i d within = ap (λ l. items_form f i (items_view l)) (drop_more trees i d within)

  pub so_far_more : (xs : List A) (i : ℕ) (d : Value) (x : A) → i < length trees → below (decimal i) (f (view (get_or trees i d))) ≡ Ok x → SoFar xs i → SoFar (xs ++ x ∷ []) (i + 1)
  so_far_more xs i d x within read h =
      let rest = items_form f (i + 1) (items_view (drop (i + 1) trees)) in
      h ∙ ap (onto xs) (opened i d within ∙ ap (λ r. followed r (λ y. followed rest (λ ys. Ok (y ∷ ys)))) read) ∙ onto-more xs x rest

  pub so_far_stops : (e : ScriptFault) (xs : List A) (i : ℕ) (d : Value) → i < length trees → Tells {A = A} (Err e) (below (decimal i) (f (view (get_or trees i d)))) → SoFar xs i → Tells {A = List A} (Err e) (items_form f 0 (items_view trees))
  so_far_stops e xs i d within read h =
      let rest = items_form f (i + 1) (items_view (drop (i + 1) trees)) in
      let here = below (decimal i) (f (view (get_or trees i d))) in
      subst (λ r. Tells {A = List A} (Err e) r) (sym (h ∙ ap (onto xs) (opened i d within))) (stops e (followed here (λ y. followed rest (λ ys. Ok (y ∷ ys)))) (λ ys. Ok (xs ++ ys)) (stops e here (λ y. followed rest (λ ys. Ok (y ∷ ys))) read))

  pub so_far_all : (xs : List A) (i : ℕ) → length trees ≤ i → SoFar xs i → items_form f 0 (items_view trees) ≡ Ok xs
  so_far_all xs i past h = h ∙ ap (λ l. onto xs (items_form f i (items_view l))) (drop_of_length-le trees past) ∙ ap Ok (append-nil xs)
