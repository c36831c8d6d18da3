-- Sections one behind the other, each there or left out, are a frame, and each stands where its id says.
use Rattle.std.proofs.Common.{◌≡◌, ℕ, suc, ◌+◌, ◌<◌, ◌≤◌, Bool, true, false, cond, eqb, List, [], ◌∷◌, ◌++◌, map, drop, Option, Some, None, refl, ap, subst, ◌∙◌, add-one, one-add, ltb, arith}
use Rattle.std.specs.Prelude.{MatchOption, position, option_map, ◌==◌, length}
use Rattle.std.specs.List.{position_or_len}
use Rattle.std.specs.List.{AllByRecursion}
use Rattle.std.proofs.lemmas.Bool.{eqb-true, eq-eqb, lt-ltb}
use Rattle.std.proofs.lemmas.Bool.Decides.{nat_tests}
use Rattle.wasm_frame.specs.Frame.{Part, Sections, Whole, section, left_after}
use Rattle.wasm_frame.specs.Payloads.{payload_of}

-- a section by its id, with its payload where it is there
pub record Piece : Type 0 where
  pub id : ℕ
  pub payload : Option (List ℕ)

abbrev pub shown : ℕ → Option (List ℕ) → List Part → List Part
shown id None more = more
shown id (Some payload) more = (record { id = id; payload = payload }) ∷ more

-- the sections that are there
abbrev pub present : List Piece → List Part
present [] = []
present (p ∷ more) = shown p.id p.payload (present more)

-- the ids ascend
abbrev pub Ascends : ℕ → List Piece → Type 0
Ascends k [] = Unit {0}
Ascends k (p ∷ more) = (k < p.id) × Ascends p.id more

-- the bytes of each, one behind the other
abbrev pub Cut : List Piece → List ℕ → Type 0
Cut [] b = b ≡ []
Cut (p ∷ more) b =
    (t : List ℕ) × (u : List ℕ) × (b ≡ t ++ u) × MatchOption p.payload (t ≡ []) (λ payload. section.text t (record { id = p.id; payload = payload })) × Cut more u

abbrev Above : ℕ → List Part → Type 0
Above k parts = AllByRecursion (λ s. k < s.id) parts

lower : (j k : ℕ) (parts : List Part) → j ≤ k → Above k parts → Above j parts
lower j k [] le h = tt
lower j k (s ∷ parts) le h = (omega (arith, h.0), lower j k parts le h.1)

shown_above : (k id : ℕ) (payload : Option (List ℕ)) (more : List Part) → k < id → Above id more → Above k (shown id payload more)
shown_above k id None more lt h = lower k id more (omega arith) h
shown_above k id (Some payload) more lt h = (lt, lower k id more (omega arith) h)

above : (k : ℕ) (plan : List Piece) → Ascends k plan → Above k (present plan)
above k [] h = tt
above k (p ∷ more) h = shown_above k p.id p.payload (present more) h.0 (above p.id more h.1)

differs : (m n : ℕ) → m < n → eqb n m ≡ false
differs m n lt = step (eqb n m) refl
  where
    step : (t : Bool) → eqb n m ≡ t → t ≡ false
    step true e = let same : n ≡ m = eqb-true n m e in absurd (omega arith)
    step false e = refl

differs_below : (m n : ℕ) → m < n → eqb m n ≡ false
differs_below m n lt = step (eqb m n) refl
  where
    step : (t : Bool) → eqb m n ≡ t → t ≡ false
    step true e = let same : m ≡ n = eqb-true m n e in absurd (omega arith)
    step false e = refl

position_here : (p : ℕ → Bool) (x : ℕ) (xs : List ℕ) → p x ≡ true → position p (x ∷ xs) ≡ Some 0
position_here p x xs e =
    let some : ltb 0 (suc (length xs)) ≡ true = lt-ltb 0 (suc (length xs)) (omega arith) in
    rw (e, some) refl

shift : (n l : ℕ) → ltb (1 + n) (suc l) ≡ ltb n l
shift n l = grind (arith, nat_tests)

position_there : (p : ℕ → Bool) (x : ℕ) (xs : List ℕ) → p x ≡ false → position p (x ∷ xs) ≡ option_map suc (position p xs)
position_there p x xs e =
    let at : position_or_len p (x ∷ xs) ≡ 1 + position_or_len p xs = rw e refl in
    rw (at, shift (position_or_len p xs) (length xs)) (pick (ltb (position_or_len p xs) (length xs)) (position_or_len p xs))
  where
    pick : (t : Bool) (n : ℕ) → cond t (Some (1 + n)) None ≡ option_map suc (cond t (Some n) None)
    pick true n = ap (λ k. Some k) (one-add n)
    pick false n = refl

-- where a section stands that is the next one
here_after : (x : ℕ) (xs : List ℕ) → 0 < x → left_after x (x ∷ xs) ≡ Some xs
here_after x xs some = rw (differs 0 x some, position_here (λ k. k == x) x xs (eq-eqb x x refl)) refl

dropped : (x : ℕ) (xs : List ℕ) (o : Option ℕ) → option_map (λ i. drop (i + 1) (x ∷ xs)) (option_map suc o) ≡ option_map (λ i. drop (i + 1) xs) o
dropped x xs None = refl
dropped x xs (Some i) = rw (add-one, add-one) refl

-- and one that may stand behind an id that is left out
there_after : (x id : ℕ) (xs : List ℕ) → x < id → left_after id (x ∷ xs) ≡ left_after id xs
there_after x id xs lt =
    rw (differs 0 id (omega arith), position_there (λ k. k == id) x xs (differs_below x id lt)) (dropped x xs (position (λ k. k == id) xs))

-- an id that is left out
wider : (x : ℕ) (xs b : List ℕ) (parts : List Part) → Above x parts → Sections xs b parts Whole → Sections (x ∷ xs) b parts Whole
wider x xs b [] h s = s
wider x xs b (p ∷ parts) h s = (s.0, s.1, s.2, s.3, s.4, there_after x p.id xs h.0 ∙ s.5, s.6)

abbrev pub ids : List Piece → List ℕ
ids plan = map (λ p. p.id) plan

-- one section more in front
in_front : (k id : ℕ) (payload : Option (List ℕ)) (xs t u : List ℕ) (more : List Part) → k < id → Above id more → MatchOption payload (t ≡ []) (λ p. section.text t (record { id = id; payload = p })) → Sections xs u more Whole → Sections (id ∷ xs) (t ++ u) (shown id payload more) Whole
in_front k id None xs t u more lt h e s = rw e (wider id xs u more h s)
in_front k id (Some payload) xs t u more lt h e s = (t, u, xs, refl, e, here_after id xs (omega arith), s)

pub sections_of : (k : ℕ) (plan : List Piece) (b : List ℕ) → Ascends k plan → Cut plan b → Sections (ids plan) b (present plan) Whole
sections_of k [] b h c = c
sections_of k (p ∷ more) b h c = rw c.2 (in_front k p.id p.payload (ids more) c.0 c.1 (present more) h.0 (above p.id more h.1) c.3 (sections_of p.id more c.1 h.1 c.4))

-- the payload with an id
abbrev pub find : ℕ → List Piece → Option (List ℕ)
find id [] = None
find id (p ∷ more) = cond (eqb p.id id) p.payload (find id more)

none_above : (id : ℕ) (parts : List Part) → Above id parts → payload_of id parts ≡ None
none_above id [] h = refl
none_above id (s ∷ parts) h = rw (differs id s.id h.0) (none_above id parts h.1)

found : (id at : ℕ) (payload : Option (List ℕ)) (more : List Part) (rest : Option (List ℕ)) → Above at more → payload_of id more ≡ rest → payload_of id (shown at payload more) ≡ cond (eqb at id) payload rest
found id at (Some payload) more rest h e = ap (λ o. cond (eqb at id) (Some payload) o) e
found id at None more rest h e = step (eqb at id) refl
  where
    step : (t : Bool) → eqb at id ≡ t → payload_of id more ≡ cond t None rest
    step true same = none_above id more (subst (λ n. Above n more) (eqb-true at id same) h)
    step false same = e

pub payload_found : (k id : ℕ) (plan : List Piece) → Ascends k plan → payload_of id (present plan) ≡ find id plan
payload_found k id [] h = refl
payload_found k id (p ∷ more) h = found id p.id p.payload (present more) (find id more) (above p.id more h.1) (payload_found p.id id more h.1)

-- what holds of each section that is there
pub each_present : (P : Part → Type 0) (plan : List Piece) → AllByRecursion (λ p. MatchOption p.payload (Unit {0}) (λ payload. P (record { id = p.id; payload = payload }))) plan → AllByRecursion P (present plan)
each_present P [] h = tt
each_present P (p ∷ more) h = one p.id p.payload (present more) h.0 (each_present P more h.1)
  where
    one : (id : ℕ) (payload : Option (List ℕ)) (parts : List Part) → MatchOption payload (Unit {0}) (λ q. P (record { id = id; payload = q })) → AllByRecursion P parts → AllByRecursion P (shown id payload parts)
    one id None parts a b = b
    one id (Some q) parts a b = (a, b)
