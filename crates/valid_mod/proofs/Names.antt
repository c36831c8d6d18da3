-- The names of exports that were seen, as a set of texts.
use Rattle.std.proofs.Common.{◌≡◌, ℕ, ◌+◌, ◌≤◌, ◌<◌, Bool, true, false, cond, not, List, [], Some, slice_get, IfSome, refl, ap, sym, subst, ◌∙◌, arith}
use Rattle.std.specs.declared.cmp.Ordering.{Ordering}
use Rattle.std.specs.Ordering.{is_eq, nat_cmp}
use Rattle.std.specs.Cmp.Lexicographic.{slice_cmp}
use Rattle.std.proofs.lemmas.Map.Text.{is_eq-slice_cmp}
use Rattle.std.proofs.lemmas.Slice.Eq.{bytes_eq-Decides}
use Rattle.std.specs.Borrow.{Bor}
use Rattle.std.specs.List.{list_any}
use Rattle.std.specs.BTreeMap.{is_at}
use Rattle.std.specs.BTreeSet.{BTreeSet, contains, Updates}
use native.Mathlib.Decide.{dec_le}
use Rattle.wasm_ast.specs.declared.module.parts.Export.{Export}
use Rattle.wasm_ast.specs.declared.module.parts.Module.{Module}
use Rattle.typed_trees.specs.Modules.{TypedDesc}
use Rattle.valid_mod.specs.Parts.{IsNew, PartTyped, Exports}
use Rattle.valid_new.specs.Judged.{Decided}

-- one of the first so many exports has the name
pub record Named (xs : List Export) (n : ℕ) (name : List ℕ) : Type 0 where
  pub place : ℕ
  pub export : Export
  pub within : place < n
  pub is : slice_get xs place ≡ Some export
  pub named : export.name ≡ name

-- the order of texts, which is that of their bytes
abbrev pub name_cmp : Bor (List ℕ) → Bor (List ℕ) → Ordering
name_cmp x y = slice_cmp nat_cmp x.now y.now

-- the set has the names of the first so many exports
abbrev pub HasNames : BTreeSet (Bor (List ℕ)) → List Export → ℕ → Type 0
HasNames s xs n = (q : Bor (List ℕ)) → Decided (contains name_cmp s q) (Named xs n q.now)

decided_by_false : (r : Bool) (P : Type 0) → r ≡ false → (P → ⊥) → Decided r P
decided_by_false true P e h = let no : ⊥ = cc in absurd no
decided_by_false false P e h = h

decided_by_true : (r : Bool) (P : Type 0) → r ≡ true → P → Decided r P
decided_by_true true P e h = h
decided_by_true false P e h = let no : ⊥ = cc in absurd no

pub no_names : (s : BTreeSet (Bor (List ℕ))) (xs : List Export) → s.keys ≡ [] → HasNames s xs 0
no_names s xs e q = decided_by_false _ _ (ap (list_any (is_at (name_cmp q))) e) (λ n. (let h = n.within in absurd (omega arith)))

same_name : (a b : List ℕ) → is_eq (slice_cmp nat_cmp a b) ≡ true → a ≡ b
same_name a b e = (bytes_eq-Decides a b).0 (sym (is_eq-slice_cmp a b) ∙ e)

name_same : (a b : List ℕ) → a ≡ b → is_eq (slice_cmp nat_cmp a b) ≡ true
name_same a b e = is_eq-slice_cmp a b ∙ (bytes_eq-Decides a b).1 e

-- one export more, by whether it has the name
named_more : (xs : List Export) (n : ℕ) (e : Export) (q : List ℕ) → slice_get xs n ≡ Some e → (old new same : Bool) → same ≡ is_eq (slice_cmp nat_cmp e.name q) → new ≡ cond same true old → Decided old (Named xs n q) → Decided new (Named xs (n + 1) q)
named_more xs n e q is old new true es en d =
    decided_by_true new _ en (record { place = n; export = e; within = omega arith; is = is; named = same_name e.name q (sym es) })
named_more xs n e q is true new false es en d =
    decided_by_true new _ en (record { place = d.place; export = d.export; within = (let h = d.within in omega arith); is = d.is; named = d.named })
named_more xs n e q is false new false es en d = decided_by_false new _ en (λ m. at_place m (dec_le n m.place))
  where
    at_place : (m : Named xs (n + 1) q) → Dec (n ≤ m.place) → ⊥
    at_place m (yes h) =
        let w = m.within in
        let k : m.place ≡ n = omega arith in
        let both : Some m.export ≡ Some e = sym m.is ∙ ap (slice_get xs) k ∙ is in
        let named : e.name ≡ q = ap (λ x. x.name) (let same : e ≡ m.export = cc in same) ∙ m.named in
        let no : true ≡ false = sym (name_same e.name q named) ∙ sym es in cc
    at_place m (no h) = d (record { place = m.place; export = m.export; within = omega arith; is = m.is; named = m.named })

pub more_names : (s t : BTreeSet (Bor (List ℕ))) (xs : List Export) (n : ℕ) (e : Export) (key : Bor (List ℕ)) → slice_get xs n ≡ Some e → key.now ≡ e.name → HasNames s xs n → Updates name_cmp s t key true → HasNames t xs (n + 1)
more_names s t xs n e key is named old u q =
    named_more xs n e q.now is (contains name_cmp s q) (contains name_cmp t q) (is_eq (slice_cmp nat_cmp key.now q.now)) (ap (λ l. is_eq (slice_cmp nat_cmp l q.now)) named) (u.0 q) (old q)

-- what the set says of a name
pub name_is_new : (s : BTreeSet (Bor (List ℕ))) (xs : List Export) (n : ℕ) (e : Export) (key : Bor (List ℕ)) (added : Bool) → key.now ≡ e.name → HasNames s xs n → added ≡ not (contains name_cmp s key) → added ≡ true → IsNew xs n e
name_is_new s xs n e key added named old a t j other within is same =
    at (contains name_cmp s key) refl (old key)
  where
    at : (b : Bool) → contains name_cmp s key ≡ b → Decided b (Named xs n key.now) → ⊥
    at true f d = (let no : true ≡ false = sym t ∙ a ∙ ap not f in cc)
    at false f d = d (record { place = j; export = other; within = within; is = is; named = same ∙ sym named })

pub name_is_old : (s : BTreeSet (Bor (List ℕ))) (xs : List Export) (n : ℕ) (e : Export) (key : Bor (List ℕ)) (added : Bool) → key.now ≡ e.name → HasNames s xs n → added ≡ not (contains name_cmp s key) → added ≡ false → IsNew xs n e → ⊥
name_is_old s xs n e key added named old a t new =
    at (contains name_cmp s key) refl (old key)
  where
    at : (b : Bool) → contains name_cmp s key ≡ b → Decided b (Named xs n key.now) → ⊥
    at true f d = new d.place d.export d.within d.is (d.named ∙ named)
    at false f d = (let no : true ≡ false = sym (a ∙ ap not f) ∙ t in cc)

-- an export at its place
pub export_typed : (m : Module) (k : ℕ) (e : Export) → slice_get m.exports k ≡ Some e → TypedDesc m e.desc → IsNew m.exports k e → PartTyped m Exports k
export_typed m k e is d n = subst (λ o. IfSome o (λ x. TypedDesc m x.desc × IsNew m.exports k x)) (sym is) (d, n)

pub export_untyped : (m : Module) (k : ℕ) (e : Export) → slice_get m.exports k ≡ Some e → (TypedDesc m e.desc → IsNew m.exports k e → ⊥) → PartTyped m Exports k → ⊥
export_untyped m k e is never h = let p : TypedDesc m e.desc × IsNew m.exports k e = subst (λ o. IfSome o (λ x. TypedDesc m x.desc × IsNew m.exports k x)) is h in never p.0 p.1
