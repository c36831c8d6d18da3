-- Tokens and code one behind the other: what a writer cites.
use Rattle.std.proofs.Common.{◌≡◌, ℕ, List, [], ◌∷◌, ◌++◌, Bool, refl, sym, ap, ◌∙◌, append_assoc}
use Rattle.std.proofs.lemmas.List.{append-nil}
use Rattle.grammar_kit.specs.Form.{Form}
use Rattle.nested_code.specs.declared.token.Token.{Token}
use Rattle.nested_code.specs.Nesting.{Tokens, Flat, none, more, Flats}

module _ {I H : Type 0} (token : Form (Token I H)) where
  -- tokens behind tokens
  pub tokens_append : (b c : List ℕ) (ks ls : List (Token I H)) → Tokens token b ks → Tokens token c ls → Tokens token (b ++ c) (ks ++ ls)
  tokens_append b c [] ls h g = rw h g
  tokens_append b c (k ∷ ks) ls h g = (h.0, h.1 ++ c, rw h.2 (append_assoc h.0 h.1 c), h.3, tokens_append h.1 c ks ls h.4 g)

  -- one token more
  pub tokens_one : (b : List ℕ) (k : Token I H) → token.text b k → Tokens token b (k ∷ [])
  tokens_one b k h = (b, [], sym (append-nil b), h, refl)

  -- a front of the tokens has a front of the bytes
  pub tokens_split : (b : List ℕ) (ks ls : List (Token I H)) → Tokens token b (ks ++ ls) → (t : List ℕ) × (u : List ℕ) × (b ≡ t ++ u) × Tokens token t ks × Tokens token u ls
  tokens_split b [] ls h = ([], b, refl, refl, h)
  tokens_split b (k ∷ ks) ls h =
      let s = tokens_split h.1 ks ls h.4 in
      (h.0 ++ s.0, s.1, h.2 ∙ ap (λ (u : List ℕ). h.0 ++ u) s.2 ∙ sym (append_assoc h.0 s.0 s.1), (h.0, s.0, refl, h.3, s.3), s.4)

module _ {I H : Type 0} (has_arms : H → Bool) (build : H → List I → List I → I) where
  -- code behind code
  pub flats_append : (code after : List I) (ks ls : List (Token I H)) → Flats has_arms build code ks → Flats has_arms build after ls → Flats has_arms build (code ++ after) (ks ++ ls)
  flats_append code after ks ls none g = g
  flats_append code after all ls (more e f fs) g =
      more (rw e (append_assoc _ _ ls)) f (flats_append _ after _ ls fs g)

  -- one instruction as code
  pub flats_one : (i : I) (ks : List (Token I H)) → Flat has_arms build i ks → Flats has_arms build (i ∷ []) ks
  flats_one i ks f = more (sym (append-nil ks)) f none
