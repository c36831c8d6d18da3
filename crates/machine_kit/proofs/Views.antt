-- The stacks that a list and its bases stand for, and how they change with them.
use Rattle.std.proofs.Common.{◌≡◌, ℕ, ◌+◌, ◌-◌, ◌≤◌, ◌<◌, min, List, [], ◌∷◌, ◌++◌, length, take, drop, reverse, set, refl, ap, sym, ◌∙◌, arith}
use Rattle.std.proofs.lemmas.List.{reverse-append, reverse-reverse, length-reverse, take-append-drop, drop_at, take_at, drop_all, take_all, length-append, length-drop, length-take-le, drop-drop, drop-take, take-take, drop-append-le, take-append-le, drop-set-add, take-set-le, take_more_set, take_rest}
use Rattle.machine_kit.specs.Stacks.{Stack}
use native.Mathlib.Decide.{dec_le}

module _ {X : Type 0} where
  -- the list from its end on is as long
  reversed_within : (n : ℕ) (xs : List X) → n ≤ length xs → (drop n (reverse xs) ≡ reverse (take (length xs - n) xs)) × (take n (reverse xs) ≡ reverse (drop (length xs - n) xs))
  reversed_within n xs h =
      let m = length xs - n in
      let parts : reverse xs ≡ reverse (drop m xs) ++ reverse (take m xs) = ap reverse (sym (take-append-drop m xs)) ∙ reverse-append (take m xs) (drop m xs) in
      let len : length (reverse (drop m xs)) ≡ n = omega (arith, length-reverse (drop m xs), length-drop m xs) in
      (ap (drop n) parts ∙ drop_at (reverse (drop m xs)) (reverse (take m xs)) n len, ap (take n) parts ∙ take_at (reverse (drop m xs)) (reverse (take m xs)) n len)

  -- without its last ones, from the end
  pub reversed_rest : (n : ℕ) (xs : List X) → drop n (reverse xs) ≡ reverse (take (length xs - n) xs)
  reversed_rest n xs = elim (dec_le n (length xs)) [
    | yes h ↦ (reversed_within n xs h).0
    | no h ↦
        let none : length xs - n ≡ 0 = omega arith in
        drop_all n (reverse xs) (omega (arith, length-reverse xs)) ∙ ap (λ k. reverse (take k xs)) (sym none)
  ]

  -- its last ones, from the end
  pub reversed_front : (n : ℕ) (xs : List X) → take n (reverse xs) ≡ reverse (drop (length xs - n) xs)
  reversed_front n xs = elim (dec_le n (length xs)) [
    | yes h ↦ (reversed_within n xs h).1
    | no h ↦
        let none : length xs - n ≡ 0 = omega arith in
        take_all n (reverse xs) (omega (arith, length-reverse xs)) ∙ ap (λ k. reverse (drop k xs)) (sym none)
  ]

module _ {V : Type 0} where
  abbrev pub operands_of : List V → ℕ → ℕ → Stack V
  operands_of xs base start = record { used = reverse (drop start xs); aside = reverse (take base xs) }

  abbrev pub locals_of : List V → ℕ → Stack V
  locals_of xs base = record { used = drop base xs; aside = reverse (take base xs) }

  same_stack : (u v a b : List V) → u ≡ v → a ≡ b → ◌≡◌ {A = Stack V} (record { used = u; aside = a }) (record { used = v; aside = b })
  same_stack u v a b e f = ap (λ l. let r : Stack V = record { used = l; aside = a } in r) e ∙ ap (λ l. let r : Stack V = record { used = v; aside = l } in r) f

  lowered : (xs : List V) (base less count : ℕ) → base ≤ length xs → less ≡ min base count → reverse (take (base - less) xs) ≡ drop count (reverse (take base xs))
  lowered xs base less count h e =
      ap reverse (sym (take-take (base - less) base xs (omega arith)) ∙ ap (λ n. take n (take base xs)) (omega (arith, length-take-le base xs h)))
      ∙ sym (reversed_rest count (take base xs))

  pub operands-forget : (xs : List V) (base start less count : ℕ) → base ≤ start → start ≤ length xs → less ≡ min base count → operands_of xs (base - less) start ≡ record (operands_of xs base start) { aside = drop count (reverse (take base xs)) }
  operands-forget xs base start less count l h e = same_stack _ _ _ _ refl (lowered xs base less count (omega arith) e)

  pub operands-keep : (xs ys : List V) (base start kept count : ℕ) → base ≤ start → start ≤ length xs → kept ≡ min (length xs - start) count → ys ≡ take base xs ++ drop (length xs - kept) xs → operands_of ys base base ≡ record (operands_of xs base start) { used = take count (reverse (drop start xs)) }
  operands-keep xs ys base start kept count l h e f =
      let len : length (take base xs) ≡ base = length-take-le base xs (omega arith) in
      ap (λ ys. operands_of ys base base) f
      ∙ same_stack _ _ _ _
      (ap reverse (drop_at (take base xs) (drop (length xs - kept) xs) base len ∙ ap (λ n. drop n xs) (omega (arith, length-drop start xs)) ∙ sym (drop-drop (length (drop start xs) - count) start xs))
      ∙ sym (reversed_front count (drop start xs)))
      (ap reverse (take_at (take base xs) (drop (length xs - kept) xs) base len))

  pub operands-drop_top : (xs ys : List V) (base start left count : ℕ) → base ≤ start → start ≤ length xs → left ≡ length xs - min (length xs - start) count → ys ≡ take left xs → operands_of ys base start ≡ record (operands_of xs base start) { used = drop count (reverse (drop start xs)) }
  operands-drop_top xs ys base start left count l h e f =
      let m : left ≡ start + (length (drop start xs) - count) = omega (arith, length-drop start xs) in
      ap (λ ys. operands_of ys base start) f
      ∙ same_stack _ _ _ _
      (ap (λ k. reverse (drop start (take k xs))) m ∙ ap reverse (drop-take start (length (drop start xs) - count) xs) ∙ sym (reversed_rest count (drop start xs)))
      (ap reverse (take-take base left xs (omega arith)))

  -- a value in the place of so many at the end
  put_over : (z : List V) (count : ℕ) (value : V) → 0 < count → count ≤ length z → reverse (take (length z - count + 1) (set z (length z - count) value)) ≡ value ∷ drop count (reverse z)
  put_over z count value some within =
      ap reverse (take_more_set z (length z - count) value (omega arith))
      ∙ reverse-append (take (length z - count) z) (value ∷ [])
      ∙ ap (λ l. value ∷ l) (sym (reversed_rest count z))

  pub operands-put : (xs ys : List V) (base start at count : ℕ) (value : V) → base ≤ start → start ≤ length xs → 0 < count → count ≤ length xs - start → at ≡ length xs - count → ys ≡ take (at + 1) (set xs at value) → operands_of ys base start ≡ record (operands_of xs base start) { used = value ∷ drop count (reverse (drop start xs)) }
  operands-put xs ys base start at count value l h some within e f =
      let z = drop start xs in
      let m : at ≡ start + (length z - count) = omega (arith, length-drop start xs) in
      let k : at + 1 ≡ start + (length z - count + 1) = omega (arith, length-drop start xs) in
      ap (λ ys. operands_of ys base start) f
      ∙ same_stack _ _ _ _
      (ap (λ n. reverse (drop start (take n (set xs at value)))) k
      ∙ ap reverse (drop-take start (length z - count + 1) (set xs at value))
      ∙ ap (λ n. reverse (take (length z - count + 1) (drop start (set xs n value)))) m
      ∙ ap (λ w. reverse (take (length z - count + 1) w)) (drop-set-add start xs (length z - count) value)
      ∙ put_over z count value some (omega (arith, length-drop start xs)))
      (ap reverse (take-take base (at + 1) (set xs at value) (omega arith) ∙ take-set-le base xs at value (omega arith)))

  pub operands-top : (xs ys : List V) (start from count : ℕ) → start ≤ length xs → from ≡ length xs - min (length xs - start) count → ys ≡ xs → take (length ys - from) (drop from ys) ≡ reverse (take count (reverse (drop start xs)))
  operands-top xs ys start from count h e f =
      let z = drop start xs in
      let n : from ≡ start + (length z - count) = omega (arith, length-drop start xs) in
      take_rest ys from ∙ ap (drop from) f ∙ ap (λ k. drop k xs) n ∙ sym (drop-drop (length z - count) start xs)
      ∙ sym (reverse-reverse (drop (length z - count) z)) ∙ ap reverse (sym (reversed_front count z))

  -- what is in use lies right above what is set aside
  module _ (a z : List V) (base : ℕ) (len : length a ≡ base) where
    set_aside_at : (count aside : ℕ) → aside ≡ length z - min (length z) count → operands_of (a ++ z) (base + aside) (base + aside) ≡ record { used = take count (reverse z); aside = drop count (reverse z) ++ reverse a }
    set_aside_at count aside e =
        let n : aside ≡ length z - count = omega arith in
        let up : drop (base + aside) (a ++ z) ≡ drop aside z = sym (drop-drop aside base (a ++ z)) ∙ ap (drop aside) (drop_at a z base len) in
        let low : take (base + aside) (a ++ z) ≡ a ++ take aside z = take-both aside in
        same_stack _ _ _ _
        (ap reverse up ∙ ap (λ k. reverse (drop k z)) n ∙ sym (reversed_front count z))
        (ap reverse low ∙ reverse-append a (take aside z) ∙ ap (λ l. l ++ reverse a) (ap (λ k. reverse (take k z)) n ∙ sym (reversed_rest count z)))
      where
        take-both : (k : ℕ) → take (base + k) (a ++ z) ≡ a ++ take k z
        take-both k =
            sym (take-append-drop base (take (base + k) (a ++ z)))
            ∙ ap (λ l. l ++ drop base (take (base + k) (a ++ z))) (take-take base (base + k) (a ++ z) (omega arith) ∙ take_at a z base len)
            ∙ ap (λ l. a ++ l) (drop-take base k (a ++ z) ∙ ap (take k) (drop_at a z base len))

    restore_at : (count less : ℕ) → less ≡ min base count → operands_of (a ++ z) (base - less) (base - less) ≡ record { used = reverse z ++ take count (reverse a); aside = drop count (reverse a) }
    restore_at count less e =
        let le : base - less ≤ length a = omega arith in
        let n : base - less ≡ length a - count = omega arith in
        same_stack _ _ _ _
        (ap reverse (drop-append-le (base - less) a z le) ∙ reverse-append (drop (base - less) a) z ∙ ap (λ l. reverse z ++ l) (ap (λ k. reverse (drop k a)) n ∙ sym (reversed_front count a)))
        (ap reverse (take-append-le (base - less) a z le) ∙ ap (λ k. reverse (take k a)) n ∙ sym (reversed_rest count a))

  pub operands-aside_count : (xs ys : List V) (base start aside count : ℕ) → base ≤ start → start ≤ length xs → aside ≡ length ys - base - min (length ys - base) count → ys ≡ take base xs ++ drop start xs → aside ≡ length (drop count (reverse (drop start xs)))
  operands-aside_count xs ys base start aside count l h e f =
      omega (arith, ap length f, length-append (take base xs) (drop start xs), length-take-le base xs (omega arith), length-drop count (reverse (drop start xs)), length-reverse (drop start xs))

  pub operands-set_aside : (xs ys : List V) (base start aside count : ℕ) → base ≤ start → start ≤ length xs → aside ≡ length ys - base - min (length ys - base) count → ys ≡ take base xs ++ drop start xs → operands_of ys (base + aside) (base + aside) ≡ record { used = take count (reverse (drop start xs)); aside = drop count (reverse (drop start xs)) ++ reverse (take base xs) }
  operands-set_aside xs ys base start aside count l h e f =
      let len : length (take base xs) ≡ base = length-take-le base xs (omega arith) in
      let above : aside ≡ length (drop start xs) - min (length (drop start xs)) count = omega (arith, operands-aside_count xs ys base start aside count l h e f, length-drop count (reverse (drop start xs)), length-reverse (drop start xs)) in
      ap (λ ys. operands_of ys (base + aside) (base + aside)) f
      ∙ set_aside_at (take base xs) (drop start xs) base len count aside above

  pub operands-restore : (xs ys : List V) (base start less count : ℕ) → base ≤ start → start ≤ length xs → less ≡ min base count → ys ≡ take base xs ++ drop start xs → operands_of ys (base - less) (base - less) ≡ record { used = reverse (drop start xs) ++ take count (reverse (take base xs)); aside = drop count (reverse (take base xs)) }
  operands-restore xs ys base start less count l h e f =
      ap (λ ys. operands_of ys (base - less) (base - less)) f
      ∙ restore_at (take base xs) (drop start xs) base (length-take-le base xs (omega arith)) count less e

  pub locals-set : (xs : List V) (base index : ℕ) (value : V) → locals_of (set xs (base + index) value) base ≡ record (locals_of xs base) { used = set (drop base xs) index value }
  locals-set xs base index value = same_stack _ _ _ _ (drop-set-add base xs index value) (ap reverse (take-set-le base xs (base + index) value (omega arith)))

  pub locals-set_aside : (xs : List V) (base len : ℕ) → len ≡ length xs → locals_of xs len ≡ record { used = []; aside = reverse (drop base xs) ++ reverse (take base xs) }
  locals-set_aside xs base len e = same_stack _ _ _ _
      (drop_all len xs (omega arith))
      (ap reverse (take_all len xs (omega arith) ∙ sym (take-append-drop base xs)) ∙ reverse-append (take base xs) (drop base xs))

  pub locals-restore : (xs ys : List V) (base less count : ℕ) → base ≤ length xs → less ≡ min base count → ys ≡ take base xs → locals_of ys (base - less) ≡ record { used = reverse (take count (reverse (take base xs))); aside = drop count (reverse (take base xs)) }
  locals-restore xs ys base less count h e f =
      let n : base - less ≡ length (take base xs) - count = omega (arith, length-take-le base xs h) in
      ap (λ ys. locals_of ys (base - less)) f
      ∙ same_stack _ _ _ _
      (ap (λ k. drop k (take base xs)) n ∙ sym (reverse-reverse (drop (length (take base xs) - count) (take base xs))) ∙ ap reverse (sym (reversed_front count (take base xs))))
      (ap (λ k. reverse (take k (take base xs))) n ∙ sym (reversed_rest count (take base xs)))
