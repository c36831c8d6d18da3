-- What is measured of code without building it: how deeply instructions nest, by any function that counts it, and whether
-- an instruction in it is marked, by any function that asks it of what stands in an instruction too.
use Rattle.std.specs.Prelude.{◌≡◌, ℕ, suc, max, List, [], ◌∷◌, length, Bool, true, false, ◌||◌, Some, Result, Ok, Err}
use Rattle.std.specs.List.{list_any}
use Rattle.grammar_kit.specs.Form.{Form}
use Rattle.grammar_kit.specs.Measures.{greatest}
use Rattle.grammar_kit.specs.declared.error.FormError.{FormError}
use Rattle.grammar_kit.specs.declared.error.FormError.TheVariants.{Malformed, Memory}
use Rattle.nested_code.specs.declared.token.Token.{Token}
use Rattle.nested_code.specs.declared.token.Token.TheVariants.{Plain, Open, Else, End}
use Rattle.nested_code.specs.declared.turns.Progress.{Progress}
use Rattle.nested_code.specs.declared.turns.Progress.TheVariants.{Inside, Closed}

-- an instruction that holds no code has depth 0, and one that holds code is one deeper than the deepest in it
pub record IsDepth {I H : Type 0} (token : Form (Token I H)) (has_arms : H → Bool) (build : H → List I → List I → I) (depth : I → ℕ) : Type 0 where
  pub leaf : (b : List ℕ) (i : I) (rest : List ℕ) → token.read b ≡ Some (Plain i, rest) → depth i ≡ 0
  pub one : (h : H) (code : List I) → depth (build h code []) ≡ suc (greatest depth code)
  pub two : (h : H) (first second : List I) → has_arms h ≡ true → depth (build h first second) ≡ suc (max (greatest depth first) (greatest depth second))

-- a mark occurs in an instruction that holds no code where it has the mark, and in one that holds code where it occurs in that
pub record IsOccurrence {I H : Type 0} (token : Form (Token I H)) (has_arms : H → Bool) (build : H → List I → List I → I) (marks occurs : I → Bool) : Type 0 where
  pub leaf : (b : List ℕ) (i : I) (rest : List ℕ) → token.read b ≡ Some (Plain i, rest) → occurs i ≡ marks i
  pub one : (h : H) (code : List I) → occurs (build h code []) ≡ list_any occurs code
  pub two : (h : H) (first second : List I) → has_arms h ≡ true → occurs (build h first second) ≡ (list_any occurs first || list_any occurs second)

-- the greatest depth in the code, and whether the mark occurs in it
abbrev pub sizes : {I : Type 0} → (I → ℕ) → (I → Bool) → List I → ℕ × Bool
sizes depth occurs code = (greatest depth code, list_any occurs code)

-- what a token does to the greatest number of blocks that were open at once, to whether a mark was seen, and to the open
-- blocks, innermost first: of each there is left whether an else may still stand in it
pub data Count : Type 0 where
  Over : ℕ → Bool → Count
  Further : ℕ → Bool → List Bool → Count
  Misplaced : Count

module _ {I H : Type 0} (has_arms : H → Bool) (marks : I → Bool) where
  abbrev pub count : Token I H → ℕ → Bool → List Bool → Count
  count (Plain i) n seen arms = Further n (seen || marks i) arms
  count (Open h) n seen arms = Further (max n (suc (length arms))) seen (has_arms h ∷ arms)
  count Else n seen [] = Misplaced
  count Else n seen (true ∷ below) = Further n seen (false ∷ below)
  count Else n seen (false ∷ below) = Misplaced
  count End n seen [] = Over n seen
  count End n seen (arms ∷ below) = Further n seen below

-- what the program's step over a token did is what the token does; nothing is said where memory was not found
abbrev pub Counted : Result Progress FormError → ℕ → Bool → List Bool → Count → Type 0
Counted (Ok Inside) n seen arms c = c ≡ Further n seen arms
Counted (Ok Closed) n seen arms c = c ≡ Over n seen
Counted (Err Malformed) n seen arms c = c ≡ Misplaced
Counted (Err (Memory e)) n seen arms c = Unit {0}
