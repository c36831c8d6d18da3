-- What a test of code computes to at an instruction and at two pieces of code in a row.
use Rattle.std.proofs.Common.{◌≡◌, Bool, true, false, ◌||◌, ◌&&◌, List, [], ◌∷◌, ◌++◌, map, refl, sym, ap, ◌∙◌}
use Rattle.std.specs.List.{list_any, list_all}
use Rattle.std.proofs.lemmas.List.Folds.{list_any-append}
use Rattle.wasm_ast.specs.declared.module.code.Instr.{Instr, out-Instr}
use Rattle.wasm_ast.specs.declared.module.code.Instr.TheOpen.{Instr-F}
use Rattle.wasm_ast.specs.declared.module.code.Instr.TheFolds.{map-Instr, fold_out-Instr}
use Rattle.wasm_ast.specs.Occurrence.{Head, head, head_of, inside, some_step, some, every_step, every, some_in, every_in}

module _ {A B : Type 0} (f : A → B) where
  units-map : (xs : List A) → map {B = Unit {0}} (λ x. tt) (map f xs) ≡ map (λ x. tt) xs
  units-map [] = refl
  units-map (x ∷ xs) = ap (λ us. tt ∷ us) (units-map xs)

  -- the bodies do not matter to the head
  pub head-map : (i : Instr-F A) → head (map-Instr A B f i) ≡ head i
  head-map (Instr-F.Block t code) = ap (Instr-F.Block t) (units-map code)
  head-map (Instr-F.Loop t code) = ap (Instr-F.Loop t) (units-map code)
  head-map (Instr-F.If t a b) = ap (λ us. Instr-F.If t us (map (λ x. tt) (map f b))) (units-map a) ∙ ap (Instr-F.If t (map (λ x. tt) a)) (units-map b)
  head-map (Instr-F.TryTable t clauses code) = ap (Instr-F.TryTable t clauses) (units-map code)
  head-map _ = refl

  map-append : (xs ys : List A) → map f (xs ++ ys) ≡ map f xs ++ map f ys
  map-append [] ys = refl
  map-append (x ∷ xs) ys = ap (λ l. f x ∷ l) (map-append xs ys)

  pub inside-map : (i : Instr-F A) → inside (map-Instr A B f i) ≡ map f (inside i)
  inside-map (Instr-F.If t a b) = sym (map-append a b)
  inside-map _ = refl

any-map : {A : Type 0} (f : A → Bool) (xs : List A) → list_any (λ b. b) (map f xs) ≡ list_any f xs
any-map f [] = refl
any-map f (x ∷ xs) = ap (λ b. f x || b) (any-map f xs)

all-map : {A : Type 0} (f : A → Bool) (xs : List A) → list_all (λ b. b) (map f xs) ≡ list_all f xs
all-map f [] = refl
all-map f (x ∷ xs) = ap (λ b. f x && b) (all-map f xs)

-- an instruction passes by itself or by its bodies
pub some-out : (p : Head → Bool) (i : Instr) → some p i ≡ (p (head_of i) || some_in p (inside (out-Instr i)))
some-out p i =
    fold_out-Instr Bool (some_step p) i
    ∙ ap (λ h. p h || list_any (λ b. b) (inside (map-Instr Instr Bool (some p) (out-Instr i)))) (head-map (some p) (out-Instr i))
    ∙ ap (λ l. p (head_of i) || list_any (λ b. b) l) (inside-map (some p) (out-Instr i))
    ∙ ap (λ b. p (head_of i) || b) (any-map (some p) (inside (out-Instr i)))

pub every-out : (p : Head → Bool) (i : Instr) → every p i ≡ (p (head_of i) && every_in p (inside (out-Instr i)))
every-out p i =
    fold_out-Instr Bool (every_step p) i
    ∙ ap (λ h. p h && list_all (λ b. b) (inside (map-Instr Instr Bool (every p) (out-Instr i)))) (head-map (every p) (out-Instr i))
    ∙ ap (λ l. p (head_of i) && list_all (λ b. b) l) (inside-map (every p) (out-Instr i))
    ∙ ap (λ b. p (head_of i) && b) (all-map (every p) (inside (out-Instr i)))

-- two pieces of code in a row
pub some_in-append : (p : Head → Bool) (xs ys : List Instr) → some_in p (xs ++ ys) ≡ (some_in p xs || some_in p ys)
some_in-append p xs ys = list_any-append (some p) xs ys

pub every_in-append : (p : Head → Bool) (xs ys : List Instr) → every_in p (xs ++ ys) ≡ (every_in p xs && every_in p ys)
every_in-append p [] ys = refl
every_in-append p (x ∷ xs) ys = elim (every p x) as (λ b. (b && every_in p (xs ++ ys)) ≡ ((b && every_in p xs) && every_in p ys)) [ true ↦ every_in-append p xs ys | false ↦ refl ]

pub ruleset bodies = (some-out, some_in-append)
