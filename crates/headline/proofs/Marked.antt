-- A lowered module without exceptions and with one result at most for each function has no marks.
use Rattle.std.proofs.Common.{◌≡◌, ℕ, zero, suc, ◌+◌, ◌-◌, max, Bool, true, false, if◌then◌else◌, nat_lt, List, [], ◌∷◌, ◌++◌, map, length, take, drop, replicate, Option, Some, None, refl, ap, ◌∙◌, arith}
use Rattle.std.specs.List.{AllByRecursion}
use Rattle.std.proofs.lemmas.Bool.{ltb-true}
use Rattle.std.proofs.lemmas.List.{length-map}
use Rattle.wasm_ast.specs.declared.module.ty.FuncType.{FuncType}
use Rattle.core1_ast.specs.declared.module.ty.Ty1.{Ty1}
use Rattle.core1_ast.specs.declared.module.ty.Ty1.TheVariants as types1
use Rattle.meaning_new.specs.Interface.{ExternType, Interface, func, table, memory, global, tag}
use Rattle.crossing.specs.Code.{cross_type}
use Rattle.headline.specs.Flattening.{word}
use Rattle.headline.specs.MappedEvents.{mark_types}
use Rattle.headline.specs.MappedInterface.{marks, numbered_marks}
use Rattle.headline.specs.Marks.{Marks, exception_count, first_word, further_results, greatest, mark_count, other_marks, payload_count, read_marks, result_count, result_mark}
use Rattle.headline.proofs.Links.{PlainType, IsLinked}
use Rattle.headline.proofs.Values.{flat-integers}

-- what is read where there are no marks
abbrev pub no_marks : Marks
no_marks = record { full = 0; exception = 0; payload = []; further = [] }

read_none : (exceptions payloads : ℕ) → ◌≡◌ {A = Marks} (record { full = 0; exception = first_word (take exceptions []); payload = take payloads (drop exceptions (map word [])); further = drop payloads (drop exceptions (map word [])) }) no_marks
read_none zero zero = refl
read_none zero (suc p) = refl
read_none (suc x) zero = refl
read_none (suc x) (suc p) = refl

not_below : (n : ℕ) (b : Bool) → nat_lt n 0 ≡ b → (some none : Marks) → (if b then some else none) ≡ none
not_below n true e some none = let lt = ltb-true n 0 e in let wrong : ⊥ = omega (arith, lt) in absurd wrong
not_below n false e some none = refl

pub nothing_read : (i : Interface) → i.tags ≡ [] → read_marks i [] ≡ no_marks
nothing_read i e = not_below (mark_count i) (nat_lt (mark_count i) 0) refl (other_marks i (first_word []) []) (other_marks i 0 []) ∙ read_none (exception_count i.tags) (payload_count i)

-- functions with one result have none beyond the first
further-none : (t : FuncType) → PlainType t → further_results (Some (func t)) ≡ 0
further-none t h =
    let one : length (map cross_type t.results) ≡ length t.results = length-map t.results cross_type in
    let le = h.one in
    ap (λ (l : List Ty1). length l - 1) (flat-integers t.results h.integers.results) ∙ (let none : length (map cross_type t.results) - 1 ≡ 0 = omega arith in none)

pub linked_further : (o : Option ExternType) → IsLinked o → further_results o ≡ 0
linked_further (Some (func t)) h = further-none t h
linked_further (Some (table t l)) h = absurd h
linked_further (Some (memory l)) h = refl
linked_further (Some (global t b)) h = refl
linked_further (Some (tag t)) h = absurd h
linked_further None h = absurd h

-- the greatest of zeros
max_zero : (n k : ℕ) → n ≡ 0 → k ≡ 0 → max n k ≡ 0
max_zero n k e f = ap (λ x. max x k) e ∙ ap (max 0) f

pub greatest_zero : {X : Type 0} (f : X → ℕ) (xs : List X) → AllByRecursion (λ x. f x ≡ 0) xs → greatest (map f xs) ≡ 0
greatest_zero f [] h = refl
greatest_zero f (x ∷ xs) h = max_zero (f x) (greatest (map f xs)) h.0 (greatest_zero f xs h.1)

sum_zero : (n k : ℕ) → n ≡ 0 → k ≡ 0 → n + k ≡ 0
sum_zero n k e f = omega (arith, e, f)

module _ (i : Interface) (tags : i.tags ≡ []) (imports : AllByRecursion (λ x. further_results x.type ≡ 0) i.imports) (exports : AllByRecursion (λ x. further_results x.type ≡ 0) i.exports) where
  no_results : result_count i ≡ 0
  no_results = max_zero (greatest (map (λ x. further_results x.type) i.imports)) (greatest (map (λ x. further_results x.type) i.exports)) (greatest_zero (λ x. further_results x.type) i.imports imports) (greatest_zero (λ x. further_results x.type) i.exports exports)

  abbrev untagged : Interface
  untagged = record { imports = i.imports; exports = i.exports; tags = [] }

  is_untagged : i ≡ untagged
  is_untagged = ap (λ l. record i { tags = l }) tags

  pub no_mark_types : mark_types i ≡ []
  no_mark_types =
      ap mark_types is_untagged
      ∙ ap (λ n. replicate 0 types1.I32 ++ replicate n types1.I64) (sum_zero (payload_count untagged) (result_count untagged) refl no_results)

  pub no_marks_named : marks i ≡ []
  no_marks_named = ap marks is_untagged ∙ ap (numbered_marks result_mark types1.I64 1) no_results
