-- What each form leads to, and where an instruction of the form is stuck.
use Rattle.std.proofs.Common.{◌≡◌, Bool, true, false, List, [], ◌∷◌, ◌++◌, length, drop, reverse, ap, sym, subst, ◌∙◌}
use Rattle.std.proofs.lemmas.List.{map-append}
use Rattle.typing_kit.specs.declared.operand.Operand.{Operand}
use Rattle.typing_kit.specs.declared.operand.Operand.TheVariants.{Known}
use Rattle.typing_kit.specs.Matching.{known, AllMatch}
use Rattle.typing_kit.specs.Form.{Language, Untyped, Flat, Block, Choice}
use Rattle.typing_kit.specs.Typing.{Typed, TypedCode, flat, any, select, leaves, table, block, choice}
use Rattle.typing_kit.specs.Stack.{fit}
use Rattle.typing_kit.specs.Progress.{Covers, Leads, Stuck}
use Rattle.typing_kit.proofs.Laws.{Lawful, all_refl}
use Rattle.typing_kit.proofs.Covering.{covers_append, fitted, covered}
use Rattle.typing_kit.proofs.Leading.{Best, best_leads, stuck_by}

module _ {T I : Type 0} (L : Language T I) where
  -- it takes these types and leaves those, and no others
  pub record Exactly (ls : List (List T)) (i : I) (takes gives : List T) : Type 0 where
    pub typed : Typed L ls i (known takes) (known gives)
    pub only : (t g : List (Operand T)) → Typed L ls i t g → (t ≡ known takes) × (g ≡ known gives)

  pub untyped_never : {ls : List (List T)} {i : I} {t g : List (Operand T)} → Typed L ls i t g → L.form ls i ≡ Untyped → ⊥
  untyped_never (flat ls i a b f) e = cc
  untyped_never (any ls i kind b t f k) e = cc
  untyped_never (select ls i t f k) e = cc
  untyped_never (leaves ls i a below after f) e = cc
  untyped_never (table ls i last others a below after f m n) e = cc
  untyped_never (block ls i label a b code f c) e = cc
  untyped_never (choice ls i label a b first second f c d) e = cc

  flat_only : {ls : List (List T)} {i : I} {t g : List (Operand T)} (takes gives : List T) → Typed L ls i t g → L.form ls i ≡ Flat takes gives → (t ≡ known takes) × (g ≡ known gives)
  flat_only takes gives (flat ls i a b f) e = (let same : a ≡ takes = cc in ap known same, let same : b ≡ gives = cc in ap known same)
  flat_only takes gives (any ls i kind b t f k) e = let no : ⊥ = cc in absurd no
  flat_only takes gives (select ls i t f k) e = let no : ⊥ = cc in absurd no
  flat_only takes gives (leaves ls i a below after f) e = let no : ⊥ = cc in absurd no
  flat_only takes gives (table ls i last others a below after f m n) e = let no : ⊥ = cc in absurd no
  flat_only takes gives (block ls i label a b code f c) e = let no : ⊥ = cc in absurd no
  flat_only takes gives (choice ls i label a b first second f c d) e = let no : ⊥ = cc in absurd no

  pub flat_exactly : (ls : List (List T)) (i : I) (takes gives : List T) → L.form ls i ≡ Flat takes gives → Exactly ls i takes gives
  flat_exactly ls i takes gives e = record { typed = flat ls i takes gives e; only = λ t g d. flat_only takes gives d e }

  -- the code that it holds, where it is typed
  pub record BlockParts (ls : List (List T)) (label takes gives : List T) (code : List I) (t g : List (Operand T)) : Type 0 where
    pub takes_is : t ≡ known takes
    pub gives_is : g ≡ known gives
    pub inside : TypedCode L (label ∷ ls) code (known takes) (known gives)

  block_parts : {ls : List (List T)} {i : I} {t g : List (Operand T)} (label takes gives : List T) (code : List I) → Typed L ls i t g → L.form ls i ≡ Block label takes gives code → BlockParts ls label takes gives code t g
  block_parts label takes gives code (block ls i label' a b code' f c) e =
      let la : label' ≡ label = cc in
      let ta : a ≡ takes = cc in
      let ga : b ≡ gives = cc in
      let ca : code' ≡ code = cc in
      record {
        takes_is = ap known ta;
        gives_is = ap known ga;
        inside = subst (λ l. TypedCode L (l ∷ ls) code (known takes) (known gives)) la
            (subst (λ l. TypedCode L (label' ∷ ls) l (known takes) (known gives)) ca
            (subst (λ l. TypedCode L (label' ∷ ls) code' (known l) (known gives)) ta
            (subst (λ l. TypedCode L (label' ∷ ls) code' (known a) (known l)) ga c)));
      }
  block_parts label takes gives code (flat ls i a b f) e = let no : ⊥ = cc in absurd no
  block_parts label takes gives code (any ls i kind b t f k) e = let no : ⊥ = cc in absurd no
  block_parts label takes gives code (select ls i t f k) e = let no : ⊥ = cc in absurd no
  block_parts label takes gives code (leaves ls i a below after f) e = let no : ⊥ = cc in absurd no
  block_parts label takes gives code (table ls i last others a below after f m n) e = let no : ⊥ = cc in absurd no
  block_parts label takes gives code (choice ls i label' a b first second f c d) e = let no : ⊥ = cc in absurd no

  pub block_exactly : (ls : List (List T)) (i : I) (label takes gives : List T) (code : List I) → L.form ls i ≡ Block label takes gives code → TypedCode L (label ∷ ls) code (known takes) (known gives) → Exactly ls i takes gives
  block_exactly ls i label takes gives code e inside = record {
    typed = block ls i label takes gives code e inside;
    only = λ t g d. (let p = block_parts label takes gives code d e in (p.takes_is, p.gives_is));
  }

  pub block_stuck : (ls : List (List T)) (i : I) (dead : Bool) (s : List (Operand T)) (label takes gives : List T) (code : List I) → Lawful L → L.form ls i ≡ Block label takes gives code → (TypedCode L (label ∷ ls) code (known takes) (known gives) → ⊥) → Stuck L ls i dead s
  block_stuck ls i dead s label takes gives code laws e never = stuck_by L laws ls i dead s (λ t g o v d m c. never (block_parts label takes gives code d e).inside)

  -- the arms that it holds, where they are typed
  pub record ChoiceParts (ls : List (List T)) (label takes gives : List T) (first second : List I) (t g : List (Operand T)) : Type 0 where
    pub takes_is : t ≡ known takes ++ Known L.condition ∷ []
    pub gives_is : g ≡ known gives
    pub first_inside : TypedCode L (label ∷ ls) first (known takes) (known gives)
    pub second_inside : TypedCode L (label ∷ ls) second (known takes) (known gives)

  moved : (ls : List (List T)) (l l' a a' b b' : List T) (c c' : List I) → l ≡ l' → a ≡ a' → b ≡ b' → c ≡ c' → TypedCode L (l ∷ ls) c (known a) (known b) → TypedCode L (l' ∷ ls) c' (known a') (known b')
  moved ls l l' a a' b b' c c' el ea eb ec d =
      subst (λ x. TypedCode L (x ∷ ls) c' (known a') (known b')) el
      (subst (λ x. TypedCode L (l ∷ ls) x (known a') (known b')) ec
      (subst (λ x. TypedCode L (l ∷ ls) c (known x) (known b')) ea
      (subst (λ x. TypedCode L (l ∷ ls) c (known a) (known x)) eb d)))

  choice_parts : {ls : List (List T)} {i : I} {t g : List (Operand T)} (label takes gives : List T) (first second : List I) → Typed L ls i t g → L.form ls i ≡ Choice label takes gives first second → ChoiceParts ls label takes gives first second t g
  choice_parts label takes gives first second (choice ls i label' a b first' second' f c d) e =
      let la : label' ≡ label = cc in
      let ta : a ≡ takes = cc in
      let ga : b ≡ gives = cc in
      let fa : first' ≡ first = cc in
      let sa : second' ≡ second = cc in
      record {
        takes_is = ap (λ x. known x ++ Known L.condition ∷ []) ta;
        gives_is = ap known ga;
        first_inside = moved ls label' label a takes b gives first' first la ta ga fa c;
        second_inside = moved ls label' label a takes b gives second' second la ta ga sa d;
      }
  choice_parts label takes gives first second (flat ls i a b f) e = let no : ⊥ = cc in absurd no
  choice_parts label takes gives first second (any ls i kind b t f k) e = let no : ⊥ = cc in absurd no
  choice_parts label takes gives first second (select ls i t f k) e = let no : ⊥ = cc in absurd no
  choice_parts label takes gives first second (leaves ls i a below after f) e = let no : ⊥ = cc in absurd no
  choice_parts label takes gives first second (table ls i last others a below after f m n) e = let no : ⊥ = cc in absurd no
  choice_parts label takes gives first second (block ls i label' a b code f c) e = let no : ⊥ = cc in absurd no

  known_top : (takes : List T) → known takes ++ Known L.condition ∷ [] ≡ known (takes ++ L.condition ∷ [])
  known_top takes = sym (map-append Known takes (L.condition ∷ []))

  pub choice_exactly : (ls : List (List T)) (i : I) (label takes gives : List T) (first second : List I) → L.form ls i ≡ Choice label takes gives first second → TypedCode L (label ∷ ls) first (known takes) (known gives) → TypedCode L (label ∷ ls) second (known takes) (known gives) → Exactly ls i (takes ++ L.condition ∷ []) gives
  choice_exactly ls i label takes gives first second e c d = record {
    typed = subst (λ l. Typed L ls i l (known gives)) (known_top takes) (choice ls i label takes gives first second e c d);
    only = λ t g x. (let p = choice_parts label takes gives first second x e in (p.takes_is ∙ known_top takes, p.gives_is));
  }

  pub choice_stuck : (ls : List (List T)) (i : I) (dead : Bool) (s : List (Operand T)) (label takes gives : List T) (first second : List I) → Lawful L → L.form ls i ≡ Choice label takes gives first second → (TypedCode L (label ∷ ls) first (known takes) (known gives) → TypedCode L (label ∷ ls) second (known takes) (known gives) → ⊥) → Stuck L ls i dead s
  choice_stuck ls i dead s label takes gives first second laws e never = stuck_by L laws ls i dead s (λ t g o v d m c. (let p = choice_parts label takes gives first second d e in never p.first_inside p.second_inside))

  -- the operands that it takes are not there, whether its code is typed or not
  pub block_lacks : (ls : List (List T)) (i : I) (dead : Bool) (s : List (Operand T)) (label takes gives : List T) (code : List I) → Lawful L → L.form ls i ≡ Block label takes gives code → fit L.sub dead s (reverse takes) ≡ false → Stuck L ls i dead s
  block_lacks ls i dead s label takes gives code laws e f = stuck_by L laws ls i dead s (λ t g o v d m c.
      (let p = block_parts label takes gives code d e in
      let no : true ≡ false = sym (fitted L laws dead s takes o v (subst (λ l. AllMatch L.sub o l) p.takes_is m) c).0 ∙ f in cc))

  pub choice_lacks : (ls : List (List T)) (i : I) (dead : Bool) (s : List (Operand T)) (label takes gives : List T) (first second : List I) → Lawful L → L.form ls i ≡ Choice label takes gives first second → fit L.sub dead s (reverse (takes ++ L.condition ∷ [])) ≡ false → Stuck L ls i dead s
  choice_lacks ls i dead s label takes gives first second laws e f = stuck_by L laws ls i dead s (λ t g o v d m c.
      (let p = choice_parts label takes gives first second d e in
      let no : true ≡ false = sym (fitted L laws dead s (takes ++ L.condition ∷ []) o v (subst (λ l. AllMatch L.sub o l) (p.takes_is ∙ known_top takes) m) c).0 ∙ f in cc))

  module _ (laws : Lawful L) (ls : List (List T)) (i : I) (dead : Bool) (s : List (Operand T)) where
    pub untyped_stuck : L.form ls i ≡ Untyped → Stuck L ls i dead s
    untyped_stuck e = stuck_by L laws ls i dead s (λ t g o v d m c. untyped_never d e)

    exactly_best : (takes gives : List T) → Exactly ls i takes gives → fit L.sub dead s (reverse takes) ≡ true → Best L laws ls i dead s (drop (length takes) s) (known takes) (known gives)
    exactly_best takes gives x f = record {
      typed = x.typed;
      taken = λ v c. covered L laws dead s takes v f c;
      best = λ t g o v d m c.
          (let p = x.only t g d in
          subst (λ l. Covers L.sub dead (reverse (known gives) ++ drop (length takes) s) (reverse l ++ v)) (sym p.1)
          (covers_append L.sub dead (reverse (known gives)) (reverse (known gives)) (drop (length takes) s) v (all_refl L laws (reverse (known gives)))
          (fitted L laws dead s takes o v (subst (λ l. AllMatch L.sub o l) p.0 m) c).1));
    }

    pub exactly_leads : (takes gives : List T) → Exactly ls i takes gives → fit L.sub dead s (reverse takes) ≡ true → Leads L ls i dead s dead (reverse (known gives) ++ drop (length takes) s)
    exactly_leads takes gives x f = best_leads L laws ls i dead s (drop (length takes) s) (known takes) (known gives) (exactly_best takes gives x f)

    pub exactly_stuck : (takes gives : List T) → Exactly ls i takes gives → fit L.sub dead s (reverse takes) ≡ false → Stuck L ls i dead s
    exactly_stuck takes gives x f = stuck_by L laws ls i dead s (λ t g o v d m c.
        (let fits = (fitted L laws dead s takes o v (subst (λ l. AllMatch L.sub o l) (x.only t g d).0 m) c).0 in
        let no : true ≡ false = sym fits ∙ f in cc))
