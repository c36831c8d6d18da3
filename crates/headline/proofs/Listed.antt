-- Lists without some of their items, and what is looked up in them.
use Rattle.std.proofs.Common.{◌≡◌, ℕ, zero, suc, ◌<◌, Bool, true, false, cond, List, [], ◌∷◌, ◌++◌, map, length, filter_map, Option, Some, None, option_map, option_and_then, slice_get, refl, sym, ap, ◌∙◌, arith}
use Rattle.std.specs.Prelude.{is_some}
use Rattle.std.proofs.lemmas.List.{map-append}
use Rattle.std.proofs.lemmas.Option.{slice_get-map}
use Rattle.std.specs.List.{AllByRecursion, filter, find, cons_option}

-- an item that is there, of which P holds
abbrev pub There : {A : Type 0} → (A → Type 0) → Option A → Type 0
There P None = ⊥
There P (Some a) = P a

pub there : {A : Type 0} (P : A → Type 0) (l : List A) (x : ℕ) → AllByRecursion P l → x < length l → There P (slice_get l x)
there P [] x h lt = let no : ⊥ = omega (arith, lt) in absurd no
there P (a ∷ l) zero h lt = h.0
there P (a ∷ l) (suc x) h lt = let less : x < length l = omega (arith, lt) in there P l x h.1 less

pub all_through : {A : Type 0} (P Q : A → Type 0) (l : List A) → ((a : A) → P a → Q a) → AllByRecursion P l → AllByRecursion Q l
all_through P Q [] f h = tt
all_through P Q (a ∷ l) f h = (f a h.0, all_through P Q l f h.1)

-- how many are filtered
one_each : {Y Z : Type 0} (o : Option Y) (o' : Option Z) (l : List Y) (l' : List Z) → is_some o ≡ is_some o' → length l ≡ length l' → length (cons_option o l) ≡ length (cons_option o' l')
one_each None None l l' e h = h
one_each None (Some z) l l' e h = absurd cc
one_each (Some y) None l l' e h = absurd cc
one_each (Some y) (Some z) l l' e h = ap (λ (n : ℕ). suc n) h

pub as_many : {X Y Z : Type 0} (g : X → Option Y) (g' : X → Option Z) → ((x : X) → is_some (g x) ≡ is_some (g' x)) → (xs : List X) → length (filter_map g xs) ≡ length (filter_map g' xs)
as_many g g' e [] = refl
as_many g g' e (x ∷ xs) = one_each (g x) (g' x) (filter_map g xs) (filter_map g' xs) (e x) (as_many g g' e xs)

module _ {X : Type 0} (keep : X → Bool) where
  -- what gives nothing of the items that go, gives the same without them
  module _ {Y : Type 0} (g : X → Option Y) (nothing : (x : X) → keep x ≡ false → g x ≡ None) where
    given_next : (x : X) (b : Bool) → keep x ≡ b → (rest : List X) → filter_map g (cond b (x ∷ rest) rest) ≡ cons_option (g x) (filter_map g rest)
    given_next x true e rest = refl
    given_next x false e rest = ap (λ o. cons_option o (filter_map g rest)) (sym (nothing x e))

    pub given : (xs : List X) → filter_map g (filter keep xs) ≡ filter_map g xs
    given [] = refl
    given (x ∷ xs) = given_next x (keep x) refl (filter keep xs) ∙ ap (cons_option (g x)) (given xs)

  -- what holds of the items that stay, and of those that go
  module _ (P : X → Type 0) (gone : (x : X) → keep x ≡ false → P x) where
    all_next : (x : X) (b : Bool) → keep x ≡ b → (rest more : List X) → (AllByRecursion P rest → AllByRecursion P more) → AllByRecursion P (cond b (x ∷ rest) rest) → AllByRecursion P (x ∷ more)
    all_next x true e rest more f h = (h.0, f h.1)
    all_next x false e rest more f h = (gone x e, f h)

    pub all_of : (xs : List X) → AllByRecursion P (filter keep xs) → AllByRecursion P xs
    all_of [] h = tt
    all_of (x ∷ xs) h = all_next x (keep x) refl (filter keep xs) xs (all_of xs) h

  -- the first item of a kind, where it stays
  module _ {Y : Type 0} (test : X → Bool) (g : X → Option Y) (nothing : (x : X) → keep x ≡ false → g x ≡ None) (y : Y) where
    abbrev got : List X → Option Y
    got xs = option_and_then g (find test xs)

    found_next : (x : X) (kept here : Bool) → keep x ≡ kept → test x ≡ here → (rest more : List X) → (got more ≡ Some y → got rest ≡ Some y) → option_and_then g (cond here (Some x) (find test more)) ≡ Some y → option_and_then g (find test (cond kept (x ∷ rest) rest)) ≡ Some y
    found_next x true here e t rest more f h = ap (λ b. option_and_then g (cond b (Some x) (find test rest))) t ∙ by here h
      where
        by : (here : Bool) → option_and_then g (cond here (Some x) (find test more)) ≡ Some y → option_and_then g (cond here (Some x) (find test rest)) ≡ Some y
        by true h = h
        by false h = f h
    found_next x false true e t rest more f h = let no : None ≡ Some y = sym (nothing x e) ∙ h in absurd cc
    found_next x false false e t rest more f h = f h

    pub found : (xs : List X) → got xs ≡ Some y → got (filter keep xs) ≡ Some y
    found [] h = h
    found (x ∷ xs) h = found_next x (keep x) (test x) refl refl (filter keep xs) xs (found xs) h

-- the first item of an image
find_next : {X X' : Type 0} (f : X → X') (b : Bool) (x : X) (o : Option X) (o' : Option X') → o' ≡ option_map f o → cond b (Some (f x)) o' ≡ option_map f (cond b (Some x) o)
find_next f true x o o' h = refl
find_next f false x o o' h = h

pub find-map : {X X' : Type 0} (f : X → X') (test : X' → Bool) (xs : List X) → find test (map f xs) ≡ option_map f (find (λ x. test (f x)) xs)
find-map f test [] = refl
find-map f test (x ∷ xs) = find_next f (test (f x)) x (find (λ y. test (f y)) xs) (find test (map f xs)) (find-map f test xs)

-- what is filtered of an image
image_next : {Y Y' : Type 0} (h : Y → Y') (o : Option Y) (l : List Y) → cons_option (option_map h o) (map h l) ≡ map h (cons_option o l)
image_next h None l = refl
image_next h (Some y) l = refl

pub image_filtered : {X X' Y Y' : Type 0} (f : X → X') (g : X → Option Y) (g' : X' → Option Y') (h : Y → Y') (xs : List X) → AllByRecursion (λ x. g' (f x) ≡ option_map h (g x)) xs → filter_map g' (map f xs) ≡ map h (filter_map g xs)
image_filtered f g g' h [] e = refl
image_filtered f g g' h (x ∷ xs) e =
    ap (λ o. cons_option o (filter_map g' (map f xs))) e.0
    ∙ ap (cons_option (option_map h (g x))) (image_filtered f g g' h xs e.1)
    ∙ image_next h (g x) (filter_map g xs)

-- an index space of an image: what is imported, and the module's own
own_image : {Y Y' Z Z' : Type 0} (k : Z → Y) (k' : Z' → Y') (f : Z → Z') (h : Y → Y') → ((z : Z) → k' (f z) ≡ h (k z)) → (zs : List Z) → map k' (map f zs) ≡ map h (map k zs)
own_image k k' f h e [] = refl
own_image k k' f h e (z ∷ zs) = ap (λ y. y ∷ map k' (map f zs)) (e z) ∙ ap (λ l. h (k z) ∷ l) (own_image k k' f h e zs)

pub image_space : {X X' Y Y' Z Z' : Type 0} (f : X → X') (g : X → Option Y) (g' : X' → Option Y') (xs : List X) (own : Z → Z') (k : Z → Y) (k' : Z' → Y') (zs : List Z) (h : Y → Y') → AllByRecursion (λ x. g' (f x) ≡ option_map h (g x)) xs → ((z : Z) → k' (own z) ≡ h (k z)) → filter_map g' (map f xs) ++ map k' (map own zs) ≡ map h (filter_map g xs ++ map k zs)
image_space f g g' xs own k k' zs h e e' =
    ap (λ l. l ++ map k' (map own zs)) (image_filtered f g g' h xs e)
    ∙ ap (λ l. map h (filter_map g xs) ++ l) (own_image k k' own h e' zs)
    ∙ sym (map-append h (filter_map g xs) (map k zs))

pub at_image : {A B : Type 0} (l : List A) (l' : List B) (h : A → B) (x : ℕ) (a : A) (b : B) → l' ≡ map h l → slice_get l x ≡ Some a → h a ≡ b → slice_get l' x ≡ Some b
at_image l l' h x a b e is same = ap (λ r. slice_get r x) e ∙ slice_get-map h l x ∙ ap (option_map h) is ∙ ap (λ c. Some c) same
