-- The stack that a list of operands, a base and a mark stand for, and how it changes with them.
use Rattle.std.proofs.Common.{◌≡◌, ℕ, ◌-◌, ◌≤◌, ◌<◌, min, Bool, List, [], ◌++◌, length, get_or, take, drop, reverse, ap, sym, ◌∙◌, arith, Some}
use Rattle.std.proofs.lemmas.List.{take-append-le, drop_all, drop_more, length-drop, length-reverse, get_or-drop}
use Rattle.typing_kit.specs.declared.operand.Operand.{Operand}
use Rattle.typing_kit.specs.Stack.{Stack}
use Rattle.typing_kit.specs.Steps.{topmost}
use Rattle.typing_kit.proofs.Lists.{above_taken, below_taken, above_appended, at_from_end}

module _ {T : Type 0} where
  abbrev pub stack_of : List (Operand T) → ℕ → Bool → Stack T
  stack_of xs base dead = record { outer = take base xs; top = reverse (drop base xs); dead = dead }

  same_parts : (dead : Bool) (a b s t : List (Operand T)) → a ≡ b → s ≡ t → ◌≡◌ {A = Stack T} (record { outer = a; top = s; dead = dead }) (record { outer = b; top = t; dead = dead })
  same_parts dead a b s t e f = ap (λ l. let r : Stack T = record { outer = l; top = s; dead = dead } in r) e ∙ ap (λ l. let r : Stack T = record { outer = b; top = l; dead = dead } in r) f

  pub stack-take : (xs xs' : List (Operand T)) (base count kept : ℕ) (dead : Bool) → base ≤ length xs → kept ≡ length xs - min (length xs - base) count → xs' ≡ take kept xs → stack_of xs' base dead ≡ record (stack_of xs base dead) { top = drop count (reverse (drop base xs)) }
  stack-take xs xs' base count kept dead h e f = ap (λ l. stack_of l base dead) f ∙ same_parts dead _ _ _ _ (below_taken xs base count kept h e) (above_taken xs base count kept h e)

  pub stack-append : (xs ys xs' : List (Operand T)) (base : ℕ) (dead : Bool) → base ≤ length xs → xs' ≡ xs ++ ys → stack_of xs' base dead ≡ record (stack_of xs base dead) { top = reverse ys ++ reverse (drop base xs) }
  stack-append xs ys xs' base dead h f = ap (λ l. stack_of l base dead) f ∙ same_parts dead _ _ _ _ (take-append-le base xs ys h) (above_appended xs ys base h)

  topmost-cons : (dead : Bool) (s : List (Operand T)) (k : ℕ) (d : Operand T) → k < length s → topmost dead (drop k s) ≡ Some (get_or s k d)
  topmost-cons dead s k d h = ap (topmost dead) (drop_more s k d h)

  -- the operand under so many others, read from the end
  pub topmost-within : (xs : List (Operand T)) (base k : ℕ) (dead : Bool) (a : Operand T) → base ≤ length xs → k < length xs - base → a ≡ get_or xs (length xs - 1 - k) a → topmost dead (drop k (reverse (drop base xs))) ≡ Some a
  topmost-within xs base k dead a h l e =
      let s = drop base xs in
      let len : length s ≡ length xs - base = length-drop base xs in
      topmost-cons dead (reverse s) k a (omega (arith, length-reverse s))
      ∙ ap Some (at_from_end s k a (omega arith) ∙ get_or-drop base xs (length s - 1 - k) a ∙ ap (λ i. get_or xs i a) (omega arith) ∙ sym e)

  pub topmost-past : (xs : List (Operand T)) (base k : ℕ) (dead : Bool) → length xs - base ≤ k → topmost dead (drop k (reverse (drop base xs))) ≡ topmost dead []
  topmost-past xs base k dead l = ap (topmost dead) (drop_all k (reverse (drop base xs)) (omega (arith, length-reverse (drop base xs), length-drop base xs)))
