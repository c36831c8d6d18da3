-- Whether a mark was seen keeps step with reading.
use Rattle.std.proofs.Common.{◌≡◌, List, [], ◌∷◌, ◌++◌, Bool, true, false, ◌||◌, Option, Some, None, refl, sym, ap, ◌∙◌}
use Rattle.std.proofs.Math.Bool.{or-false}
use Rattle.std.proofs.lemmas.List.Folds.{list_any-append}
use Rattle.std.specs.List.{list_any}
use Rattle.grammar_kit.specs.Form.{Form}
use Rattle.nested_code.specs.declared.token.Token.{Token}
use Rattle.nested_code.specs.declared.open_block.OpenBlock.{OpenBlock}
use Rattle.nested_code.specs.Nesting.{closed}
use Rattle.nested_code.specs.Sizes.{IsOccurrence}
use Rattle.nested_code.proofs.Blocks.{IsFair}

-- one of them seen later
or_later : (a b c later : Bool) → (a || ((b || later) || c)) ≡ ((a || (b || c)) || later)
or_later true b c later = refl
or_later false true c later = refl
or_later false false true true = refl
or_later false false true false = refl
or_later false false false true = refl
or_later false false false false = refl

or_comm : (a b : Bool) → (a || b) ≡ (b || a)
or_comm true true = refl
or_comm true false = refl
or_comm false true = refl
or_comm false false = refl

module _ {I : Type 0} (occurs : I → Bool) where
  abbrev pub in_first : Option (List I) → Bool
  in_first None = false
  in_first (Some first) = list_any occurs first

  -- whether the mark occurs in code in which `here` says it of what was read in the innermost block
  abbrev pub found : {H : Type 0} → Bool → List (OpenBlock I H) → Bool
  found here [] = here
  found here (o ∷ below) = found (list_any occurs o.before || (here || in_first o.first)) below

  found_later : {H : Type 0} (here later : Bool) (blocks : List (OpenBlock I H)) → found (here || later) blocks ≡ (found here blocks || later)
  found_later here later [] = refl
  found_later here later (o ∷ below) =
      ap (λ b. found b below) (or_later (list_any occurs o.before) here (in_first o.first) later)
      ∙ found_later (list_any occurs o.before || (here || in_first o.first)) later below

  one_more : (code : List I) (i : I) → list_any occurs (code ++ i ∷ []) ≡ (list_any occurs code || occurs i)
  one_more code i = list_any-append occurs code (i ∷ []) ∙ ap (λ b. list_any occurs code || b) (or-false (occurs i))

module _ {I H : Type 0} (token : Form (Token I H)) (has_arms : H → Bool) (build : H → List I → List I → I) (marks : I → Bool) where
  abbrev pub IsFound : Bool → List I → List (OpenBlock I H) → Type 0
  IsFound seen code blocks = (occurs : I → Bool) → IsOccurrence token has_arms build marks occurs → seen ≡ found occurs (list_any occurs code) blocks

  pub found_plain : (seen : Bool) (code : List I) (blocks : List (OpenBlock I H)) (i : I) → ((occurs : I → Bool) → IsOccurrence token has_arms build marks occurs → occurs i ≡ marks i) → IsFound seen code blocks → IsFound (seen || marks i) (code ++ i ∷ []) blocks
  found_plain seen code blocks i leaf so_far occurs d =
      ap (λ b. b || marks i) (so_far occurs d)
      ∙ sym (ap (λ b. found occurs b blocks) (one_more occurs code i ∙ ap (λ b. list_any occurs code || b) (leaf occurs d)) ∙ found_later occurs (list_any occurs code) (marks i) blocks)

  pub found_open : (seen : Bool) (code : List I) (blocks : List (OpenBlock I H)) (h : H) → IsFound seen code blocks → IsFound seen [] ((record { head = h; before = code; first = None }) ∷ blocks)
  found_open seen code blocks h so_far occurs d =
      so_far occurs d ∙ ap (λ b. found occurs b blocks) (sym (or-false (list_any occurs code)))

  pub found_else : (seen : Bool) (code : List I) (o : OpenBlock I H) (below : List (OpenBlock I H)) → o.first ≡ None → IsFound seen code (o ∷ below) → IsFound seen [] ((record { head = o.head; before = o.before; first = Some code }) ∷ below)
  found_else seen code o below first so_far occurs d =
      so_far occurs d ∙ rw first (ap (λ b. found occurs (list_any occurs o.before || b) below) (or-false (list_any occurs code)))

  closed_found : (occurs : I → Bool) → IsOccurrence token has_arms build marks occurs → (first : Option (List I)) (code : List I) (h : H) → IsFair has_arms first h → occurs (closed has_arms build first code h) ≡ (list_any occurs code || in_first occurs first)
  closed_found occurs d None code h fair = d.one h code ∙ sym (or-false (list_any occurs code))
  closed_found occurs d (Some first) code h fair = d.two h first code fair ∙ or_comm (list_any occurs first) (list_any occurs code)

  pub found_end : (seen : Bool) (code : List I) (o : OpenBlock I H) (below : List (OpenBlock I H)) → IsFair has_arms o.first o.head → IsFound seen code (o ∷ below) → IsFound seen (o.before ++ closed has_arms build o.first code o.head ∷ []) below
  found_end seen code o below fair so_far occurs d =
      let whole = closed_found occurs d o.first code o.head fair in
      so_far occurs d ∙ sym (ap (λ b. found occurs b below) (one_more occurs o.before (closed has_arms build o.first code o.head) ∙ ap (λ b. list_any occurs o.before || b) whole))
