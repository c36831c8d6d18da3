-- The greatest number of blocks that were open at once keeps step with reading.
use Rattle.std.proofs.Common.{◌≡◌, ℕ, suc, ◌+◌, max, List, [], ◌∷◌, ◌++◌, length, Bool, Option, Some, None, ◌∙◌, arith}
use Rattle.grammar_kit.specs.Form.{Form}
use Rattle.grammar_kit.specs.Measures.{greatest}
use Rattle.nested_code.specs.declared.token.Token.{Token}
use Rattle.nested_code.specs.declared.open_block.OpenBlock.{OpenBlock}
use Rattle.nested_code.specs.Nesting.{closed}
use Rattle.nested_code.specs.Sizes.{IsDepth}
use Rattle.nested_code.proofs.Blocks.{IsFair}

module _ {I : Type 0} (depth : I → ℕ) where
  greatest_append : (code after : List I) → greatest depth (code ++ after) ≡ max (greatest depth code) (greatest depth after)
  greatest_append [] after = omega arith
  greatest_append (i ∷ code) after = omega (arith, greatest_append code after)

  abbrev pub first_depth : Option (List I) → ℕ
  first_depth None = 0
  first_depth (Some first) = greatest depth first

  -- how deep the code is in which d is the depth of what was read in the innermost block
  abbrev pub reach : {H : Type 0} → ℕ → List (OpenBlock I H) → ℕ
  reach d [] = d
  reach d (o ∷ below) = max (suc (length below) + max d (first_depth o.first)) (reach (greatest depth o.before) below)

  reach_max : {H : Type 0} (d e : ℕ) (blocks : List (OpenBlock I H)) → reach (max d e) blocks ≡ max (length blocks + e) (reach d blocks)
  reach_max d e [] = omega arith
  reach_max d e (o ∷ below) = omega arith

module _ {I H : Type 0} (token : Form (Token I H)) (has_arms : H → Bool) (build : H → List I → List I → I) where
  abbrev pub IsReach : ℕ → List I → List (OpenBlock I H) → Type 0
  IsReach n code blocks = (depth : I → ℕ) → IsDepth token has_arms build depth → n ≡ reach depth (greatest depth code) blocks

  pub reach_plain : (n : ℕ) (code : List I) (blocks : List (OpenBlock I H)) (i : I) → ((depth : I → ℕ) → IsDepth token has_arms build depth → depth i ≡ 0) → IsReach n code blocks → IsReach n (code ++ i ∷ []) blocks
  reach_plain n code blocks i leaf reached depth d =
      let flat : greatest depth (code ++ i ∷ []) ≡ greatest depth code = omega (arith, greatest_append depth code (i ∷ []), leaf depth d) in
      rw flat (reached depth d)

  pub reach_open : (n : ℕ) (code : List I) (blocks : List (OpenBlock I H)) (h : H) → IsReach n code blocks → IsReach (max n (suc (length blocks))) [] ((record { head = h; before = code; first = None }) ∷ blocks)
  reach_open n code blocks h reached depth d = rw (reached depth d) (omega arith)

  pub reach_else : (n : ℕ) (code : List I) (o : OpenBlock I H) (below : List (OpenBlock I H)) → o.first ≡ None → IsReach n code (o ∷ below) → IsReach n [] ((record { head = o.head; before = o.before; first = Some code }) ∷ below)
  reach_else n code o below first reached depth d = reached depth d ∙ rw first (omega arith)

  closed_depth : (depth : I → ℕ) → IsDepth token has_arms build depth → (first : Option (List I)) (code : List I) (h : H) → IsFair has_arms first h → depth (closed has_arms build first code h) ≡ suc (max (greatest depth code) (first_depth depth first))
  closed_depth depth d None code h fair = d.one h code ∙ omega arith
  closed_depth depth d (Some first) code h fair = d.two h first code fair ∙ omega arith

  pub reach_end : (n : ℕ) (code : List I) (o : OpenBlock I H) (below : List (OpenBlock I H)) → IsFair has_arms o.first o.head → IsReach n code (o ∷ below) → IsReach n (o.before ++ closed has_arms build o.first code o.head ∷ []) below
  reach_end n code o below fair reached depth d =
      let inner : ℕ = max (greatest depth code) (first_depth depth o.first) in
      let whole = closed_depth depth d o.first code o.head fair in
      let sum : greatest depth (o.before ++ closed has_arms build o.first code o.head ∷ []) ≡ max (greatest depth o.before) (suc inner) =
      omega (arith, greatest_append depth o.before (closed has_arms build o.first code o.head ∷ []), whole) in
      reached depth d ∙ rw (sum, reach_max depth (greatest depth o.before) (suc inner) below) (omega arith)
