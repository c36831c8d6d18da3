-- What a map of slices holds, as pairs of lists.
use Rattle.std.proofs.Common.{◌≡◌, ℕ, Bool, true, false, cond, ◌⊎◌, inl, inr, List, [], ◌∷◌, map, refl, sym, ap, ◌∙◌, Some, None, Bor}
use Rattle.std.specs.Ordering.{nat_cmp, is_eq, match_ordering}
use Rattle.std.specs.declared.cmp.Ordering.{Ordering}
use Rattle.std.specs.declared.cmp.Ordering.TheVariants.{Less, Equal, Greater}
use Rattle.std.specs.Cmp.Lexicographic.{slice_cmp}
use Rattle.std.specs.Map.{lookup}
use Rattle.std.specs.BTreeMap.{is_at, insert_entry}
use Rattle.std.proofs.lemmas.Map.Text.{is_eq-slice_cmp}
use Rattle.std.proofs.lemmas.Slice.Eq.{bytes_eq-Decides}
use Rattle.wasm_ast.proofs.Pairs.{In, Pair}

abbrev pub Slice : Type 0
Slice = Bor (List ℕ)

-- the entries as pairs of lists
abbrev pub lists : List (Slice × Slice) → List Pair
lists es = map (λ e. (e.0.now, e.1.now)) es

-- the test of the keys that are equal to k
abbrev pub at_key : List ℕ → Slice → Bool
at_key k = is_at (λ y. slice_cmp nat_cmp k y.now)

same_key : (k l : List ℕ) → is_eq (slice_cmp nat_cmp k l) ≡ true → k ≡ l
same_key k l e = (bytes_eq-Decides k l).0 (sym (is_eq-slice_cmp k l) ∙ e)

key_same : (k l : List ℕ) → k ≡ l → is_eq (slice_cmp nat_cmp k l) ≡ true
key_same k l e = is_eq-slice_cmp k l ∙ (bytes_eq-Decides k l).1 e

found_at : (k : List ℕ) (x : Slice × Slice) (es : List (Slice × Slice)) (v : Slice) → (Some v ≡ lookup (at_key k) es → In (k, v.now) (lists es)) → (b : Bool) → is_eq (slice_cmp nat_cmp k x.0.now) ≡ b → Some v ≡ cond b (Some x.1) (lookup (at_key k) es) → In (k, v.now) (lists (x ∷ es))
found_at k x es v more true t e =
    let same : x.1 ≡ v = cc in
    inl (ap (λ l. (l, x.1.now)) (sym (same_key k x.0.now t)) ∙ ap (λ w. (k, w.now)) same)
found_at k x es v more false t e = inr (more e)

-- what a look-up finds is held
pub found : (k : List ℕ) (es : List (Slice × Slice)) (v : Slice) → Some v ≡ lookup (at_key k) es → In (k, v.now) (lists es)
found k [] v e = cc
found k (x ∷ es) v e = found_at k x es v (found k es v) (is_eq (slice_cmp nat_cmp k x.0.now)) refl e

absent_at : (k : List ℕ) (x : Slice × Slice) (es : List (Slice × Slice)) → (None ≡ lookup (at_key k) es → (b : Pair) → In b (lists es) → k ≡ b.0 → ⊥) → (t : Bool) → is_eq (slice_cmp nat_cmp k x.0.now) ≡ t → None ≡ cond t (Some x.1) (lookup (at_key k) es) → (b : Pair) → In b (lists (x ∷ es)) → k ≡ b.0 → ⊥
absent_at k x es more true t e b i same = cc
absent_at k x es more false t e b (inl p) same =
    let here : is_eq (slice_cmp nat_cmp k x.0.now) ≡ true = key_same k x.0.now (same ∙ ap (λ z. z.0) (sym p)) in
    cc
absent_at k x es more false t e b (inr j) same = more e b j same

-- what a look-up does not find is no first
pub absent : (k : List ℕ) (es : List (Slice × Slice)) → None ≡ lookup (at_key k) es → (b : Pair) → In b (lists es) → k ≡ b.0 → ⊥
absent k [] e b i same = i
absent k (x ∷ es) e b i same = absent_at k x es (absent k es) (is_eq (slice_cmp nat_cmp k x.0.now)) refl e b i same

-- the order of the map's keys
abbrev pub order : Slice → Slice → Ordering
order x y = slice_cmp nat_cmp x.now y.now

-- an entry with a new key: what was held, and the new pair
module _ (k v : Slice) where
  abbrev after : List (Slice × Slice) → List Pair
  after es = lists (insert_entry order es k v)

  abbrev after_at : (Slice × Slice) → List (Slice × Slice) → Ordering → List Pair
  after_at x es o = lists (match_ordering o ((k, v) ∷ (x ∷ es)) ((x.0, v) ∷ es) (x ∷ insert_entry order es k v))

  abbrev Absent : List (Slice × Slice) → Type 0
  Absent es = None ≡ lookup (at_key k.now) es

  abbrev AbsentAt : (Slice × Slice) → List (Slice × Slice) → Ordering → Type 0
  AbsentAt x es o = None ≡ cond (is_eq o) (Some x.1) (lookup (at_key k.now) es)

  inserted_at : (x : Slice × Slice) (es : List (Slice × Slice)) → (Absent es → (a : Pair) → In a (after es) → ((k.now, v.now) ≡ a) ⊎ In a (lists es)) → (o : Ordering) → AbsentAt x es o → (a : Pair) → In a (after_at x es o) → ((k.now, v.now) ≡ a) ⊎ In a (lists (x ∷ es))
  inserted_at x es more Less e a i = i
  inserted_at x es more Equal e a i = cc
  inserted_at x es more Greater e a (inl p) = inr (inl p)
  inserted_at x es more Greater e a (inr j) = elim (more e a j) [ inl p ↦ inl p | inr l ↦ inr (inr l) ]

  pub inserted : (es : List (Slice × Slice)) → Absent es → (a : Pair) → In a (after es) → ((k.now, v.now) ≡ a) ⊎ In a (lists es)
  inserted [] e a i = i
  inserted (x ∷ es) e a i = inserted_at x es (inserted es) (order k x.0) e a i

  here_at : (x : Slice × Slice) (es : List (Slice × Slice)) → (Absent es → In (k.now, v.now) (after es)) → (o : Ordering) → AbsentAt x es o → In (k.now, v.now) (after_at x es o)
  here_at x es more Less e = inl refl
  here_at x es more Equal e = cc
  here_at x es more Greater e = inr (more e)

  pub here : (es : List (Slice × Slice)) → Absent es → In (k.now, v.now) (after es)
  here [] e = inl refl
  here (x ∷ es) e = here_at x es (here es) (order k x.0) e

  stays_at : (x : Slice × Slice) (es : List (Slice × Slice)) → (Absent es → (a : Pair) → In a (lists es) → In a (after es)) → (o : Ordering) → AbsentAt x es o → (a : Pair) → In a (lists (x ∷ es)) → In a (after_at x es o)
  stays_at x es more Less e a i = inr i
  stays_at x es more Equal e a i = cc
  stays_at x es more Greater e a (inl p) = inl p
  stays_at x es more Greater e a (inr j) = inr (more e a j)

  pub stays : (es : List (Slice × Slice)) → Absent es → (a : Pair) → In a (lists es) → In a (after es)
  stays [] e a i = absurd i
  stays (x ∷ es) e a i = stays_at x es (stays es) (order k x.0) e a i
