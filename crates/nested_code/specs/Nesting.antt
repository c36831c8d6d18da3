-- How instructions nest in the binary format, whatever the single instructions are: chapter 5 of the standard,
-- "Control Instructions" and "Expressions". I are the instructions, with the code that they hold, and H the opcodes
-- and immediates of those that hold code. `token` says which bytes spell a token by itself, `has_arms` in which
-- instructions an else may stand, and `build h first second` is the instruction of a head and the code that it holds.
use Rattle.std.specs.Prelude.{◌≡◌, ℕ, zero, suc, List, [], ◌∷◌, ◌++◌, length, Bool, true, false, Option, Some, None, option_and_then}
use Rattle.grammar_kit.specs.Form.{Form}
use Rattle.nested_code.specs.declared.token.Token.{Token}
use Rattle.nested_code.specs.declared.token.Token.TheVariants.{Plain, Open, Else, End}
use Rattle.nested_code.specs.declared.open_block.OpenBlock.{OpenBlock}

-- the tokens in order, each spelled by its part of the bytes
abbrev pub Tokens : {I H : Type 0} → Form (Token I H) → List ℕ → List (Token I H) → Type 0
Tokens token b [] = b ≡ []
Tokens token b (k ∷ ks) = (t : List ℕ) × (u : List ℕ) × (b ≡ t ++ u) × token.text t k × Tokens token u ks

module _ {I H : Type 0} (has_arms : H → Bool) (build : H → List I → List I → I) where
  mutual
    -- an instruction as its tokens
    pub data Flat : I → List (Token I H) → Type 0 where
      -- one that holds no code
      plain : (i : I) → Flat i (Plain i ∷ [])
      -- one that holds code: its head, the code, and an end
      one : {i : I} {ks inner : List (Token I H)} (h : H) (code : List I)
          → i ≡ build h code [] → ks ≡ Open h ∷ (inner ++ End ∷ []) → Flats code inner → Flat i ks
      -- one that holds two arms: its head, the first arm, an else, the second arm, and an end
      two : {i : I} {ks inner later : List (Token I H)} (h : H) (first second : List I)
          → i ≡ build h first second → ks ≡ Open h ∷ (inner ++ Else ∷ (later ++ End ∷ [])) → has_arms h ≡ true
          → Flats first inner → Flats second later → Flat i ks

    -- code as the tokens of its instructions, in order
    pub data Flats : List I → List (Token I H) → Type 0 where
      none : Flats [] []
      more : {i : I} {code : List I} {ks ls all : List (Token I H)} → all ≡ ks ++ ls → Flat i ks → Flats code ls → Flats (i ∷ code) all

-- what a token does to code that is being read: it was the last one, or reading goes on, or it may not stand here
pub data Turn (I H : Type 0) : Type 0 where
  Whole : List I → Turn I H
  Goes : List I → List (OpenBlock I H) → Turn I H
  Wrong : Turn I H

-- the code behind an opening token, or behind an else, begins empty; an end puts the instruction behind the code before it
module _ {I H : Type 0} (has_arms : H → Bool) (build : H → List I → List I → I) where
  -- an else in the innermost block
  abbrev pub to_second : Bool → List I → OpenBlock I H → List (OpenBlock I H) → Turn I H
  to_second true code o below = Goes [] ((record { head = o.head; before = o.before; first = Some code }) ∷ below)
  to_second false code o below = Wrong

  abbrev pub on_else : Option (List I) → List I → OpenBlock I H → List (OpenBlock I H) → Turn I H
  on_else None code o below = to_second (has_arms o.head) code o below
  on_else (Some first) code o below = Wrong

  -- the innermost block as an instruction, when it is closed
  abbrev pub closed : Option (List I) → List I → H → I
  closed None code h = build h code []
  closed (Some first) code h = build h first code

  -- the code read in the innermost block so far, and the open blocks, innermost first
  abbrev pub turn : Token I H → List I → List (OpenBlock I H) → Turn I H
  turn (Plain i) code blocks = Goes (code ++ i ∷ []) blocks
  turn (Open h) code blocks = Goes [] ((record { head = h; before = code; first = None }) ∷ blocks)
  turn Else code [] = Wrong
  turn Else code (o ∷ below) = on_else o.first code o below
  turn End code [] = Whole code
  turn End code (o ∷ below) = Goes (o.before ++ closed o.first code o.head ∷ []) below

  -- reading after a turn, where `read` is what it is when it goes on
  abbrev pub go_on : Turn I H → List ℕ → (List I → List (OpenBlock I H) → List ℕ → Option (List I × List ℕ)) → Option (List I × List ℕ)
  go_on (Whole code) rest read = Some (code, rest)
  go_on (Goes code blocks) rest read = read code blocks rest
  go_on Wrong rest read = None

  module _ (token : Form (Token I H)) where
    -- the code at the front of the bytes, which has no more tokens than the given number, and the bytes after it
    unfoldable pub read_code : ℕ → List I → List (OpenBlock I H) → List ℕ → Option (List I × List ℕ)
    read_code zero code blocks b = None
    read_code (suc n) code blocks b = option_and_then (λ p. go_on (turn p.0 code blocks) p.1 (read_code n)) (token.read b)

-- "Expressions": code, and the end that closes it
unfoldable pub expr : {I H : Type 0} → Form (Token I H) → (H → Bool) → (H → List I → List I → I) → Form (List I)
expr token has_arms build = record {
  text = λ b code. (ks : List (Token _ _)) × Flats has_arms build code ks × Tokens token b (ks ++ End ∷ []);
  read = λ b. read_code has_arms build token (length b) [] [] b;
}
