-- One turn of the reader's loop, where so many tokens of those that there may be were read.
use Rattle.std.proofs.Common.{◌≡◌, ℕ, suc, ◌+◌, ◌-◌, ◌<◌, ◌≤◌, List, Bool, Option, Some, None, Err, option_and_then, refl, sym, ◌∙◌, arith}
use Rattle.grammar_kit.specs.Form.{Form}
use Rattle.grammar_kit.specs.Gives.{Misses}
use Rattle.grammar_kit.specs.declared.error.FormError.{FormError}
use Rattle.grammar_kit.specs.declared.error.FormError.TheVariants.{Malformed, Memory}
use Rattle.nested_code.specs.declared.token.Token.{Token}
use Rattle.nested_code.specs.declared.open_block.OpenBlock.{OpenBlock}
use Rattle.nested_code.specs.Nesting.{Turn, Whole, Goes, Wrong, turn, go_on, read_code}
use Rattle.nested_code.specs.Turned.{Turned}

module _ {I H : Type 0} (token : Form (Token I H)) (has_arms : H → Bool) (build : H → List I → List I → I) (n i : ℕ) (code : List I) (blocks : List (OpenBlock I H)) (b : List ℕ) (total : Option (List I × List ℕ)) where
  pub out_of_bytes : n ≤ i → read_code has_arms build token (n - i) code blocks b ≡ total → total ≡ None
  unfolding read_code
  out_of_bytes over so_far =
      let none : n - i ≡ 0 = omega arith in
      sym so_far ∙ rw none refl

  one_step : i < n → read_code has_arms build token (n - i) code blocks b ≡ option_and_then (λ p. go_on has_arms build (turn has_arms build p.0 code blocks) p.1 (read_code has_arms build token (n - (i + 1)))) (token.read b)
  unfolding read_code
  one_step below =
      let k : n - i ≡ suc (n - (i + 1)) = omega arith in
      rw k refl

  module _ (below : i < n) (so_far : read_code has_arms build token (n - i) code blocks b ≡ total) where
    pub no_token : (e : FormError) → Misses e (token.read b) → Misses e total
    no_token Malformed h = sym so_far ∙ one_step below ∙ rw h refl
    no_token (Memory e) h = tt

    module _ (k : Token I H) (after : List ℕ) (h : token.read b ≡ Some (k, after)) where
      by_turn : (t : Turn I H) → turn has_arms build k code blocks ≡ t → go_on has_arms build t after (read_code has_arms build token (n - (i + 1))) ≡ total
      by_turn t e = sym (sym so_far ∙ one_step below ∙ rw (h, e) refl)

      pub no_turn : (e : FormError) (c : List I) (opened : List (OpenBlock I H)) → Turned (Err e) c opened (turn has_arms build k code blocks) → Misses e total
      no_turn Malformed c opened e = sym (by_turn Wrong e)
      no_turn (Memory error) c opened e = tt

      pub last_turn : (c : List I) → turn has_arms build k code blocks ≡ Whole c → total ≡ Some (c, after)
      last_turn c e = sym (by_turn (Whole c) e)

      pub next_turn : (c : List I) (opened : List (OpenBlock I H)) → turn has_arms build k code blocks ≡ Goes c opened → read_code has_arms build token (n - (i + 1)) c opened after ≡ total
      next_turn c opened e = by_turn (Goes c opened) e
