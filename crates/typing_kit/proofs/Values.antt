-- In a version without the type bot both sets of rules type the same code. From the rules with bot to those without it,
-- types for the operands of type bot are chosen from the end of the code on.
use Rattle.std.proofs.Common.{◌≡◌, ◌↔◌, true, List, [], ◌∷◌, ◌++◌, refl, ap, sym, subst, ◌∙◌}
use Rattle.std.proofs.lemmas.List.{map-append}
use Rattle.typing_kit.specs.declared.kind.Kind.{Kind}
use Rattle.typing_kit.specs.declared.operand.Operand.{Operand}
use Rattle.typing_kit.specs.declared.operand.Operand.TheVariants.{Known, Bottom}
use Rattle.typing_kit.specs.Matching.{known, IsOf, Matches, AllMatch}
use Rattle.typing_kit.specs.Form.{Language, Select}
use Rattle.typing_kit.specs.Typing.{Typed, TypedCode}
use Rattle.typing_kit.specs.Typing as rules
use Rattle.typing_kit.specs.Bottomless.{IsBottomless, ValuesTyped, ValuesCode, flat, any, select, leaves, block, choice, none, more}
use Rattle.typing_kit.proofs.Laws.{Lawful, lawful_of_equality, all_refl, all_trans, all_append}

module _ {T I : Type 0} (L : Language T I) (bottomless : IsBottomless L) where
  pub laws : Lawful L
  laws = lawful_of_equality L bottomless.same bottomless.equal

  known-append : (a b : List T) → known (a ++ b) ≡ known a ++ known b
  known-append a b = map-append Known a b

  mutual
    up : {ls : List (List T)} {i : I} {takes gives : List T} → ValuesTyped L ls i takes gives → Typed L ls i (known takes) (known gives)
    up (flat ls i takes gives f) = rules.flat ls i takes gives f
    up (any ls i kind gives t f k) = rules.any ls i kind gives (Known t) f k
    up (select ls i t f k) = rules.select ls i (Known t) f k
    up (leaves ls i takes below after f) = subst (λ l. Typed L ls i l (known after)) (sym (known-append below takes)) (rules.leaves ls i takes (known below) (known after) f)
    up (block ls i label takes gives code f c) = rules.block ls i label takes gives code f (up_code c)
    up (choice ls i label takes gives first second f c d) = subst (λ l. Typed L ls i l (known gives)) (sym (known-append takes (L.condition ∷ []))) (rules.choice ls i label takes gives first second f (up_code c) (up_code d))

    up_code : {ls : List (List T)} {code : List I} {stack after : List T} → ValuesCode L ls code stack after → TypedCode L ls code (known stack) (known after)
    up_code (none ls stack) = rules.none ls (known stack) (known stack) (all_refl L laws (known stack))
    up_code (more ls i code below takes gives after t r) =
        subst (λ l. TypedCode L ls (i ∷ code) l (known after)) (sym (known-append below takes))
        (rules.more ls i code (known below) (known takes) (known takes) (known gives) (known after) (up t) (all_refl L laws (known takes))
        (subst (λ l. TypedCode L ls code l (known after)) (known-append below gives) (up_code r)))

  -- values match values where the types are equal
  same_values : (a b : List T) → AllMatch L.sub (known a) (known b) → a ≡ b
  same_values [] [] m = refl
  same_values [] (y ∷ b) m = absurd m
  same_values (x ∷ a) [] m = absurd m
  same_values (x ∷ a) (y ∷ b) m = ap (λ l. x ∷ l) (same_values a b m.1) ∙ ap (λ z. z ∷ b) (bottomless.equal x y m.0)

  -- types for operands
  record Filled (s : List (Operand T)) : Type 0 where
    values : List T
    matches : AllMatch L.sub s (known values)

  filled : (s : List (Operand T)) → Filled s
  filled [] = record { values = []; matches = tt }
  filled (Known t ∷ s) = let r = filled s in record { values = t ∷ r.values; matches = (bottomless.same t, r.matches) }
  filled (Bottom ∷ s) = let r = filled s in record { values = L.condition ∷ r.values; matches = (tt, r.matches) }

  record ValueParts (a b : List (Operand T)) (v : List T) : Type 0 where
    front : List T
    back : List T
    is : v ≡ front ++ back
    front_matches : AllMatch L.sub a (known front)
    back_matches : AllMatch L.sub b (known back)

  value_parts : (a b : List (Operand T)) (v : List T) → AllMatch L.sub (a ++ b) (known v) → ValueParts a b v
  value_parts [] b v m = record { front = []; back = v; is = refl; front_matches = tt; back_matches = m }
  value_parts (x ∷ a) b [] m = absurd m
  value_parts (x ∷ a) b (y ∷ v) m =
      let r = value_parts a b v m.1 in
      record { front = y ∷ r.front; back = r.back; is = ap (λ l. y ∷ l) r.is; front_matches = (m.0, r.front_matches); back_matches = r.back_matches }

  record Down (ls : List (List T)) (i : I) (takes : List (Operand T)) (given : List T) : Type 0 where
    values : List T
    matches : AllMatch L.sub takes (known values)
    typed : ValuesTyped L ls i values given

  record DownCode (ls : List (List T)) (code : List I) (stack : List (Operand T)) (after : List T) : Type 0 where
    values : List T
    matches : AllMatch L.sub stack (known values)
    typed : ValuesCode L ls code values after

  -- the types of a choice for an operand of a kind
  one_of_kind : (kind : Kind) (t : Operand T) → IsOf (L.of_kind kind) t → ((u : T) × (L.of_kind kind u ≡ true)) → (u : T) × (L.of_kind kind u ≡ true) × Matches L.sub t (Known u)
  one_of_kind kind (Known t) k other = (t, k, bottomless.same t)
  one_of_kind kind Bottom k other = (other.0, other.1, tt)

  down_select : (ls : List (List T)) (i : I) (t : Operand T) → L.form ls i ≡ Select → (given : List T) → AllMatch L.sub (t ∷ []) (known given) → Down ls i (t ∷ (t ∷ (Known L.condition ∷ []))) given
  down_select ls i t f [] m = absurd m
  down_select ls i t f (x ∷ []) m = record { values = x ∷ (x ∷ (L.condition ∷ [])); matches = (m.0, (m.0, (bottomless.same L.condition, tt))); typed = select ls i x f (bottomless.plain x) }
  down_select ls i t f (x ∷ (y ∷ given)) m = absurd m.1

  at_given : (ls : List (List T)) (i : I) (takes gives given : List T) → AllMatch L.sub (known gives) (known given) → ValuesTyped L ls i takes gives → ValuesTyped L ls i takes given
  at_given ls i takes gives given m t = subst (λ l. ValuesTyped L ls i takes l) (same_values gives given m) t

  inside : (ls : List (List T)) (code : List I) (takes gives : List T) → DownCode ls code (known takes) gives → ValuesCode L ls code takes gives
  inside ls code takes gives d = subst (λ l. ValuesCode L ls code l gives) (sym (same_values takes d.values d.matches)) d.typed

  mutual
    down : {ls : List (List T)} {i : I} {takes gives : List (Operand T)} → Typed L ls i takes gives → (given : List T) → AllMatch L.sub gives (known given) → Down ls i takes given
    down (rules.flat ls i takes gives f) given m =
        record { values = takes; matches = all_refl L laws (known takes); typed = at_given ls i takes gives given m (flat ls i takes gives f) }
    down (rules.any ls i kind gives t f k) given m =
        let u = one_of_kind kind t k (bottomless.inhabited ls i kind gives f) in
        record { values = u.0 ∷ []; matches = (u.2, tt); typed = at_given ls i (u.0 ∷ []) gives given m (any ls i kind gives u.0 f u.1) }
    down (rules.select ls i t f k) given m = down_select ls i t f given m
    down (rules.leaves ls i takes below after f) given m =
        let r = filled below in
        record {
          values = r.values ++ takes;
          matches = subst (λ l. AllMatch L.sub (below ++ known takes) l) (sym (known-append r.values takes)) (all_append L.sub below (known r.values) (known takes) (known takes) r.matches (all_refl L laws (known takes)));
          typed = leaves ls i takes r.values given f;
        }
    down (rules.table ls i last others takes below after f a b) given m = absurd (bottomless.no_table ls i last others f)
    down (rules.block ls i label takes gives code f c) given m =
        record {
          values = takes;
          matches = all_refl L laws (known takes);
          typed = at_given ls i takes gives given m (block ls i label takes gives code f (inside (label ∷ ls) code takes gives (down_code c gives (all_refl L laws (known gives)))));
        }
    down (rules.choice ls i label takes gives first second f c d) given m =
        record {
          values = takes ++ L.condition ∷ [];
          matches = subst (λ l. AllMatch L.sub (known takes ++ Known L.condition ∷ []) l) (sym (known-append takes (L.condition ∷ []))) (all_refl L laws (known takes ++ Known L.condition ∷ []));
          typed = at_given ls i (takes ++ L.condition ∷ []) gives given m
              (choice ls i label takes gives first second f
              (inside (label ∷ ls) first takes gives (down_code c gives (all_refl L laws (known gives))))
              (inside (label ∷ ls) second takes gives (down_code d gives (all_refl L laws (known gives)))));
        }

    down_code : {ls : List (List T)} {code : List I} {stack after : List (Operand T)} → TypedCode L ls code stack after → (wanted : List T) → AllMatch L.sub after (known wanted) → DownCode ls code stack wanted
    down_code (rules.none ls stack after n) wanted m = record { values = wanted; matches = all_trans L laws stack after (known wanted) n m; typed = none ls wanted }
    down_code (rules.more ls i code below operands takes gives after t n r) wanted m =
        let rest = down_code r wanted m in
        let p = value_parts below gives rest.values rest.matches in
        let d = down t p.back p.back_matches in
        record {
          values = p.front ++ d.values;
          matches = subst (λ l. AllMatch L.sub (below ++ operands) l) (sym (known-append p.front d.values)) (all_append L.sub below (known p.front) operands (known d.values) p.front_matches (all_trans L laws operands takes (known d.values) n d.matches));
          typed = more ls i code p.front d.values p.back wanted d.typed (subst (λ l. ValuesCode L ls code l wanted) p.is rest.typed);
        }

  -- both type the same code over values
  pub same_code : (ls : List (List T)) (code : List I) (stack after : List T) → TypedCode L ls code (known stack) (known after) ↔ ValuesCode L ls code stack after
  same_code ls code stack after = (
    λ c. inside ls code stack after (down_code c after (all_refl L laws (known after))),
    λ c. up_code c,
  )
