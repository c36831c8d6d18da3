-- Expressions are exact where their tokens are, and a token takes a byte at least.
use Rattle.std.proofs.Common.{◌≡◌, ℕ, zero, suc, ◌+◌, ◌-◌, ◌≤◌, List, [], ◌∷◌, ◌++◌, length, Bool, Some, None, refl, sym, ap, ◌∙◌, append_assoc, arith, length-append, zero-add, subst}
use Rattle.std.proofs.lemmas.List.{append-nil}
use Rattle.std.proofs.lemmas.Option.{option_and_then_some, some_pair_parts, none-some}
use Rattle.grammar_kit.specs.Form.{Form}
use Rattle.grammar_kit.specs.Exact.{Exact}
use Rattle.nested_code.specs.declared.token.Token.{Token}
use Rattle.nested_code.specs.declared.token.Token.TheVariants.{End}
use Rattle.nested_code.specs.declared.open_block.OpenBlock.{OpenBlock}
use Rattle.nested_code.specs.Nesting.{Tokens, Flats, none, Turn, Whole, Goes, Wrong, turn, go_on, read_code, expr}
use Rattle.nested_code.proofs.Appending.{tokens_split}
use Rattle.nested_code.proofs.Walks.{then, walk, flats_walk, Stands, Ended, After, turn_after}

module _ {I H : Type 0} (token : Form (Token I H)) (has_arms : H → Bool) (build : H → List I → List I → I) (exact : Exact token) where
  -- what is read is spelled
  next_sound : (n : ℕ) → ((ks : List (Token I H)) (code : List I) (blocks : List (OpenBlock I H)) (b : List ℕ) (c : List I) (rest : List ℕ) → Stands has_arms build ks code blocks → read_code has_arms build token n code blocks b ≡ Some (c, rest)
      → (t : List ℕ) × (ls : List (Token I H)) × (b ≡ t ++ rest) × Tokens token t ls × Ended has_arms build (ks ++ ls) c)
      → (ks : List (Token I H)) (t : Turn I H) (b : List ℕ) (c : List I) (rest : List ℕ) → After has_arms build ks t → go_on has_arms build t b (read_code has_arms build token n) ≡ Some (c, rest)
      → (u : List ℕ) × (ls : List (Token I H)) × (b ≡ u ++ rest) × Tokens token u ls × Ended has_arms build (ks ++ ls) c
  next_sound n ih ks (Whole code) b c rest st e =
      let p = some_pair_parts code c b rest e in
      ([], [], p.1, refl, (st.0, rw append-nil st.1, rw (← p.0) st.2))
  next_sound n ih ks (Goes code blocks) b c rest st e = ih ks code blocks b c rest st e
  next_sound n ih ks Wrong b c rest st e = absurd cc

  code_sound : (n : ℕ) (ks : List (Token I H)) (code : List I) (blocks : List (OpenBlock I H)) (b : List ℕ) (c : List I) (rest : List ℕ) → Stands has_arms build ks code blocks → read_code has_arms build token n code blocks b ≡ Some (c, rest)
      → (t : List ℕ) × (ls : List (Token I H)) × (b ≡ t ++ rest) × Tokens token t ls × Ended has_arms build (ks ++ ls) c
  unfolding read_code
  code_sound zero ks code blocks b c rest st e = absurd cc
  code_sound (suc n) ks code blocks b c rest st e = option_and_then_some _ (token.read b) (c, rest) e (λ p h k.
      let s = exact.sound b p.0 p.1 h in
      let r = next_sound n (code_sound n) (ks ++ p.0 ∷ []) (turn has_arms build p.0 code blocks) p.1 c rest (turn_after has_arms build p.0 ks code blocks st) k in
      (s.0 ++ r.0, p.0 ∷ r.1, s.1 ∙ ap (λ (u : List ℕ). s.0 ++ u) r.2 ∙ sym (append_assoc s.0 r.0 rest), (s.0, r.0, refl, s.2, r.3), rw append_assoc at r.4))

  -- tokens that let reading go on are read
  turn_read : (ks : List (Token I H)) (u rest : List ℕ) (n : ℕ) (after : List I) (opened : List (OpenBlock I H))
      → ((code : List I) (blocks : List (OpenBlock I H)) → walk has_arms build ks code blocks ≡ Goes after opened → read_code has_arms build token (length ks + n) code blocks (u ++ rest) ≡ read_code has_arms build token n after opened rest)
      → (t : Turn I H) → then t (walk has_arms build ks) ≡ Goes after opened → go_on has_arms build t (u ++ rest) (read_code has_arms build token (length ks + n)) ≡ read_code has_arms build token n after opened rest
  turn_read ks u rest n after opened ih (Goes code blocks) e = ih code blocks e
  turn_read ks u rest n after opened ih (Whole code) e = absurd cc
  turn_read ks u rest n after opened ih Wrong e = absurd cc

  walk_read : (ks : List (Token I H)) (t rest : List ℕ) (n : ℕ) (after : List I) (opened : List (OpenBlock I H)) → Tokens token t ks → (code : List I) (blocks : List (OpenBlock I H)) → walk has_arms build ks code blocks ≡ Goes after opened
      → read_code has_arms build token (length ks + n) code blocks (t ++ rest) ≡ read_code has_arms build token n after opened rest
  unfolding read_code
  walk_read [] t rest n after opened h code blocks e =
      let same : code ≡ after = cc in
      let stack : blocks ≡ opened = cc in
      rw (h, zero-add, same, stack) refl
  walk_read (k ∷ ks) t rest n after opened h code blocks e =
      let fuel : suc (length ks) + n ≡ suc (length ks + n) = omega arith in
      let front : token.read (h.0 ++ (h.1 ++ rest)) ≡ Some (k, h.1 ++ rest) = exact.complete h.0 k (h.1 ++ rest) h.3 in
      rw (fuel, h.2, append_assoc, front) (turn_read ks h.1 rest n after opened (walk_read ks h.1 rest n after opened h.4) (turn has_arms build k code blocks) e)

  module _ (takes : token.read [] ≡ None) where
    pub no_empty_token : (k : Token I H) → token.text [] k → ⊥
    no_empty_token k h = none-some (k, []) (sym takes ∙ exact.complete [] k [] h)

    one_byte : (t u : List ℕ) (k : Token I H) → token.text t k → suc (length u) ≤ length (t ++ u)
    one_byte [] u k h = absurd (no_empty_token k h)
    one_byte (a ∷ t) u k h = omega (arith, length-append t u)

    -- each token takes a byte at least
    pub tokens_long : (ks : List (Token I H)) (t : List ℕ) → Tokens token t ks → length ks ≤ length t
    tokens_long [] t h = omega arith
    tokens_long (k ∷ ks) t h = rw h.2 (omega (arith, tokens_long ks h.1 h.4, one_byte h.0 h.1 k h.3))

    closed_within : (ks : List (Token I H)) (code : List I) (t u rest : List ℕ) (n m : ℕ) → n ≡ length ks + suc m → Flats has_arms build code ks → Tokens token t ks → token.text u End
        → read_code has_arms build token n [] [] ((t ++ u) ++ rest) ≡ Some (code, rest)
    unfolding read_code
    closed_within ks code t u rest n m fuel f h last =
        let front : token.read (u ++ rest) ≡ Some (End, rest) = exact.complete u End rest last in
        rw (fuel, append_assoc, walk_read ks t (u ++ rest) (suc m) code [] h [] [] (flats_walk has_arms build code ks f [] []), front) refl

    closed_read : (ks : List (Token I H)) (code : List I) (t u rest : List ℕ) → Flats has_arms build code ks → Tokens token t ks → token.text u End
        → read_code has_arms build token (length ((t ++ u) ++ rest)) [] [] ((t ++ u) ++ rest) ≡ Some (code, rest)
    closed_read ks code t u rest f h last =
        let long : length ks ≤ length t = tokens_long ks t h in
        let byte : suc (length rest) ≤ length (u ++ rest) = one_byte u rest End last in
        closed_within ks code t u rest (length ((t ++ u) ++ rest)) ((length ((t ++ u) ++ rest) - length ks) - 1)
        (omega (arith, length-append (t ++ u) rest, length-append t u, length-append u rest)) f h last

    code_complete : (t rest : List ℕ) (code : List I) → (expr token has_arms build).text t code → (expr token has_arms build).read (t ++ rest) ≡ Some (code, rest)
    unfolding expr
    code_complete t rest code h =
        let s = tokens_split token t h.0 (End ∷ []) h.2 in
        let whole : s.1 ≡ s.4.0 = s.4.2 ∙ ap (λ (v : List ℕ). s.4.0 ++ v) s.4.4 ∙ append-nil s.4.0 in
        let cut : t ≡ s.0 ++ s.1 = s.2 in
        subst (λ (v : List ℕ). read_code has_arms build token (length (v ++ rest)) [] [] (v ++ rest) ≡ Some (code, rest)) (sym cut)
        (closed_read h.0 code s.0 s.1 rest h.1 s.3 (subst (λ (v : List ℕ). token.text v End) (sym whole) s.4.3))

    pub exact_expr : Exact (expr token has_arms build)
    unfolding expr
    exact_expr = record {
      sound = λ b code rest e.
          let r = code_sound (length b) [] [] [] b code rest none e in
          (r.0, r.2, (r.4.0, r.4.2, subst (Tokens token r.0) r.4.1 r.3));
      complete = λ t code rest h. code_complete t rest code h;
    }

    -- an expression takes a byte at least
    pub expr_takes : (expr token has_arms build).read [] ≡ None
    unfolding expr read_code
    expr_takes = refl
