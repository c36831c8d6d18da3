-- Reading tokens one after the other, apart from their bytes.
use Rattle.std.proofs.Common.{◌≡◌, List, [], ◌∷◌, ◌++◌, Bool, true, false, Option, Some, None, refl, sym, ap, append_assoc, subst}
use Rattle.std.proofs.lemmas.List.{append-nil}
use Rattle.nested_code.specs.declared.token.Token.{Token}
use Rattle.nested_code.specs.declared.token.Token.TheVariants.{Plain, Open, Else, End}
use Rattle.nested_code.specs.declared.open_block.OpenBlock.{OpenBlock}
use Rattle.nested_code.specs.Nesting.{Flat, plain, one, two, Flats, none, more, Turn, Whole, Goes, Wrong, turn, closed, to_second, on_else}
use Rattle.nested_code.proofs.Appending.{flats_append, flats_one}

module _ {I H : Type 0} where
  -- what follows a turn, if reading goes on
  abbrev pub then : Turn I H → (List I → List (OpenBlock I H) → Turn I H) → Turn I H
  then (Goes code blocks) f = f code blocks
  then (Whole code) f = Wrong
  then Wrong f = Wrong

module _ {I H : Type 0} (has_arms : H → Bool) (build : H → List I → List I → I) where
  -- the turns of tokens that each let reading go on
  abbrev pub walk : List (Token I H) → List I → List (OpenBlock I H) → Turn I H
  walk [] code blocks = Goes code blocks
  walk (k ∷ ks) code blocks = then (turn has_arms build k code blocks) (walk ks)

  walk_on : (ks ls : List (Token I H)) → ((code : List I) (blocks : List (OpenBlock I H)) → walk (ks ++ ls) code blocks ≡ then (walk ks code blocks) (walk ls))
      → (t : Turn I H) → then t (walk (ks ++ ls)) ≡ then (then t (walk ks)) (walk ls)
  walk_on ks ls ih (Goes code blocks) = ih code blocks
  walk_on ks ls ih (Whole code) = refl
  walk_on ks ls ih Wrong = refl

  pub walk_append : (ks ls : List (Token I H)) (code : List I) (blocks : List (OpenBlock I H)) → walk (ks ++ ls) code blocks ≡ then (walk ks code blocks) (walk ls)
  walk_append [] ls code blocks = refl
  walk_append (k ∷ ks) ls code blocks = walk_on ks ls (walk_append ks ls) (turn has_arms build k code blocks)

  mutual
    -- the tokens of an instruction put it behind the code before it
    pub flat_walk : (i : I) (ks : List (Token I H)) → Flat has_arms build i ks → (code : List I) (blocks : List (OpenBlock I H)) → walk ks code blocks ≡ Goes (code ++ i ∷ []) blocks
    flat_walk i ks (plain _) code blocks = refl
    flat_walk i ks (one {inner = inner} h body e cut f) code blocks =
        let o : OpenBlock I H = record { head = h; before = code; first = None } in
        rw (cut, e, walk_append inner (End ∷ []) [] (o ∷ blocks), flats_walk body inner f [] (o ∷ blocks)) refl
    flat_walk i ks (two {inner = inner} {later = later} h first second e cut arms f g) code blocks =
        let o : OpenBlock I H = record { head = h; before = code; first = None } in
        let p : OpenBlock I H = record { head = h; before = code; first = Some first } in
        rw (cut, e, walk_append inner (Else ∷ (later ++ End ∷ [])) [] (o ∷ blocks), flats_walk first inner f [] (o ∷ blocks), arms, walk_append later (End ∷ []) [] (p ∷ blocks), flats_walk second later g [] (p ∷ blocks)) refl

    -- the tokens of code put it behind the code before it
    pub flats_walk : (after : List I) (ks : List (Token I H)) → Flats has_arms build after ks → (code : List I) (blocks : List (OpenBlock I H)) → walk ks code blocks ≡ Goes (code ++ after) blocks
    flats_walk after ks none code blocks = ap (λ c. Goes c blocks) (sym (append-nil code))
    flats_walk after all (more {i = i} {code = tail} {ks = ks} {ls = ls} e f fs) code blocks =
        rw (e, walk_append ks ls code blocks, flat_walk i ks f code blocks, flats_walk tail ls fs (code ++ i ∷ []) blocks) (ap (λ c. Goes c blocks) (append_assoc code (i ∷ []) tail))

  -- what the innermost block has of its tokens
  abbrev pub Within : Option (List I) → H → List I → List (Token I H) → Type 0
  Within None h code ks = Flats has_arms build code ks
  Within (Some first) h code ks = (front back : List (Token I H)) × (ks ≡ front ++ Else ∷ back) × (has_arms h ≡ true) × Flats has_arms build first front × Flats has_arms build code back

  -- the tokens that lead to open blocks and the code in the innermost one
  abbrev pub Stands : List (Token I H) → List I → List (OpenBlock I H) → Type 0
  Stands ks code [] = Flats has_arms build code ks
  Stands ks code (o ∷ below) = (js inner : List (Token I H)) × (ks ≡ js ++ Open o.head ∷ inner) × Stands js o.before below × Within o.first o.head code inner

  -- the tokens of whole code, and its end
  abbrev pub Ended : List (Token I H) → List I → Type 0
  Ended all code = (ks : List (Token I H)) × (all ≡ ks ++ End ∷ []) × Flats has_arms build code ks

  abbrev pub After : List (Token I H) → Turn I H → Type 0
  After ks (Whole code) = Ended ks code
  After ks (Goes code blocks) = Stands ks code blocks
  After ks Wrong = Unit {0}

  within_more : (first : Option (List I)) (h : H) (code : List I) (ks : List (Token I H)) (i : I) (ls : List (Token I H)) → Within first h code ks → Flat has_arms build i ls → Within first h (code ++ i ∷ []) (ks ++ ls)
  within_more None h code ks i ls w f = flats_append has_arms build code (i ∷ []) ks ls w (flats_one has_arms build i ls f)
  within_more (Some first) h code ks i ls w f =
      (w.0, w.1 ++ ls, rw w.2 (append_assoc w.0 (Else ∷ w.1) ls), w.3, w.4, flats_append has_arms build code (i ∷ []) w.1 ls w.5 (flats_one has_arms build i ls f))

  -- one instruction more
  stands_more : (ks : List (Token I H)) (code : List I) (blocks : List (OpenBlock I H)) (i : I) (ls : List (Token I H)) → Stands ks code blocks → Flat has_arms build i ls → Stands (ks ++ ls) (code ++ i ∷ []) blocks
  stands_more ks code [] i ls st f = flats_append has_arms build code (i ∷ []) ks ls st (flats_one has_arms build i ls f)
  stands_more ks code (o ∷ below) i ls st f =
      (st.0, st.1 ++ ls, rw st.2 (append_assoc st.0 (Open o.head ∷ st.1) ls), st.3, within_more o.first o.head code st.1 i ls st.4 f)

  on_end : (first : Option (List I)) (h : H) (code : List I) (inner : List (Token I H)) → Within first h code inner → Flat has_arms build (closed has_arms build first code h) (Open h ∷ (inner ++ End ∷ []))
  on_end None h code inner w = one h code refl refl w
  on_end (Some first) h code inner w = two h first code refl (rw (w.2, append_assoc) refl) w.3 w.4 w.5

  to_second_after : (arms : Bool) (ks : List (Token I H)) (code : List I) (o : OpenBlock I H) (below : List (OpenBlock I H)) (js inner : List (Token I H))
      → has_arms o.head ≡ arms → ks ≡ js ++ Open o.head ∷ inner → Stands js o.before below → Flats has_arms build code inner → After (ks ++ Else ∷ []) (to_second has_arms build arms code o below)
  to_second_after true ks code o below js inner arms cut st w =
      (js, inner ++ Else ∷ [], rw cut (append_assoc js (Open o.head ∷ inner) (Else ∷ [])), st, (inner, [], refl, arms, w, none))
  to_second_after false ks code o below js inner arms cut st w = tt

  else_after : (first : Option (List I)) (ks : List (Token I H)) (code : List I) (o : OpenBlock I H) (below : List (OpenBlock I H)) (js inner : List (Token I H))
      → ks ≡ js ++ Open o.head ∷ inner → Stands js o.before below → Within first o.head code inner → After (ks ++ Else ∷ []) (on_else has_arms build first code o below)
  else_after None ks code o below js inner cut st w = to_second_after (has_arms o.head) ks code o below js inner refl cut st w
  else_after (Some first) ks code o below js inner cut st w = tt

  -- each turn keeps what the tokens are
  pub turn_after : (k : Token I H) (ks : List (Token I H)) (code : List I) (blocks : List (OpenBlock I H)) → Stands ks code blocks → After (ks ++ k ∷ []) (turn has_arms build k code blocks)
  turn_after (Plain i) ks code blocks st = stands_more ks code blocks i (Plain i ∷ []) st (plain i)
  turn_after (Open h) ks code blocks st = (ks, [], refl, st, none)
  turn_after Else ks code [] st = tt
  turn_after Else ks code (o ∷ below) st = else_after o.first ks code o below st.0 st.1 st.2 st.3 st.4
  turn_after End ks code [] st = (ks, refl, st)
  turn_after End ks code (o ∷ below) st =
      let f = on_end o.first o.head code st.1 st.4 in
      let e : st.0 ++ (Open o.head ∷ (st.1 ++ End ∷ [])) ≡ ks ++ End ∷ [] = rw (st.2, append_assoc) refl in
      subst (λ all. Stands all (o.before ++ closed has_arms build o.first code o.head ∷ []) below) e (stands_more st.0 o.before below _ _ st.3 f)
