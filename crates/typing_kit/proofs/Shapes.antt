-- The rules of sequences and the standard's shape of them type the same code.
use Rattle.std.proofs.Common.{◌↔◌, List, [], ◌∷◌, ◌++◌, sym, subst}
use Rattle.std.proofs.lemmas.List.{append-nil, append_assoc}
use Rattle.typing_kit.specs.declared.operand.Operand.{Operand}
use Rattle.typing_kit.specs.Matching.{AllMatch}
use Rattle.typing_kit.specs.Form.{Language}
use Rattle.typing_kit.specs.Typing.{Typed, TypedCode, none, more}
use Rattle.typing_kit.specs.Typing as rules
use Rattle.typing_kit.specs.Standard.{StandardTyped, StandardCode, empty, one, sequence, frame, subsumption}
use Rattle.typing_kit.specs.Standard as standard
use Rattle.typing_kit.proofs.Laws.{Lawful, all_refl, all_trans, all_append}
use Rattle.typing_kit.proofs.Leading.{weaken}

module _ {T I : Type 0} (L : Language T I) (laws : Lawful L) where
  mutual
    to_standard : {ls : List (List T)} {i : I} {takes gives : List (Operand T)} → Typed L ls i takes gives → StandardTyped L ls i takes gives
    to_standard (rules.flat ls i takes gives f) = standard.flat ls i takes gives f
    to_standard (rules.any ls i kind gives t f k) = standard.any ls i kind gives t f k
    to_standard (rules.select ls i t f k) = standard.select ls i t f k
    to_standard (rules.leaves ls i takes below after f) = standard.leaves ls i takes below after f
    to_standard (rules.table ls i last others takes below after f a b) = standard.table ls i last others takes below after f a b
    to_standard (rules.block ls i label takes gives code f c) = standard.block ls i label takes gives code f (code_to_standard c)
    to_standard (rules.choice ls i label takes gives first second f c d) = standard.choice ls i label takes gives first second f (code_to_standard c) (code_to_standard d)

    code_to_standard : {ls : List (List T)} {code : List I} {stack after : List (Operand T)} → TypedCode L ls code stack after → StandardCode L ls code stack after
    code_to_standard (none ls stack after m) =
        subsumption ls [] stack stack stack after (all_refl L laws stack)
        (subst (λ l. StandardCode L ls [] l l) (append-nil stack) (frame ls [] stack [] [] (empty ls))) m
    code_to_standard (more ls i code below operands takes gives after t m r) =
        sequence ls (i ∷ []) code (below ++ operands) (below ++ gives) after
        (frame ls (i ∷ []) below operands gives (subsumption ls (i ∷ []) operands takes gives gives m (one ls i takes gives (to_standard t)) (all_refl L laws gives)))
        (code_to_standard r)

  -- the rules of the standard's shape hold
  strengthen : {ls : List (List T)} {code : List I} {stack gives : List (Operand T)} (after : List (Operand T)) → AllMatch L.sub gives after → TypedCode L ls code stack gives → TypedCode L ls code stack after
  strengthen after m (none ls stack gives n) = none ls stack after (all_trans L laws stack gives after n m)
  strengthen after m (more ls i code below operands takes gives end t n r) = more ls i code below operands takes gives after t n (strengthen after m r)

  in_sequence : {ls : List (List T)} {first : List I} {before between : List (Operand T)} (second : List I) (after : List (Operand T)) → TypedCode L ls first before between → TypedCode L ls second between after → TypedCode L ls (first ++ second) before after
  in_sequence second after (none ls stack between m) d = weaken L laws stack m d
  in_sequence second after (more ls i code below operands takes gives between t m r) d = more ls i (code ++ second) below operands takes gives after t m (in_sequence second after r d)

  over_frame : {ls : List (List T)} {code : List I} {takes gives : List (Operand T)} (below : List (Operand T)) → TypedCode L ls code takes gives → TypedCode L ls code (below ++ takes) (below ++ gives)
  over_frame below (none ls stack after m) = none ls (below ++ stack) (below ++ after) (all_append L.sub below below stack after (all_refl L laws below) m)
  over_frame below (more ls i code under operands takes gives after t m r) =
      subst (λ l. TypedCode L ls (i ∷ code) l (below ++ after)) (append_assoc below under operands)
      (more ls i code (below ++ under) operands takes gives (below ++ after) t m
      (subst (λ l. TypedCode L ls code l (below ++ after)) (sym (append_assoc below under gives)) (over_frame below r)))

  alone : (ls : List (List T)) (i : I) (takes gives : List (Operand T)) → Typed L ls i takes gives → TypedCode L ls (i ∷ []) takes gives
  alone ls i takes gives t = more ls i [] [] takes takes gives gives t (all_refl L laws takes) (none ls gives gives (all_refl L laws gives))

  mutual
    from_standard : {ls : List (List T)} {i : I} {takes gives : List (Operand T)} → StandardTyped L ls i takes gives → Typed L ls i takes gives
    from_standard (standard.flat ls i takes gives f) = rules.flat ls i takes gives f
    from_standard (standard.any ls i kind gives t f k) = rules.any ls i kind gives t f k
    from_standard (standard.select ls i t f k) = rules.select ls i t f k
    from_standard (standard.leaves ls i takes below after f) = rules.leaves ls i takes below after f
    from_standard (standard.table ls i last others takes below after f a b) = rules.table ls i last others takes below after f a b
    from_standard (standard.block ls i label takes gives code f c) = rules.block ls i label takes gives code f (code_from_standard c)
    from_standard (standard.choice ls i label takes gives first second f c d) = rules.choice ls i label takes gives first second f (code_from_standard c) (code_from_standard d)

    code_from_standard : {ls : List (List T)} {code : List I} {stack after : List (Operand T)} → StandardCode L ls code stack after → TypedCode L ls code stack after
    code_from_standard (empty ls) = none ls [] [] tt
    code_from_standard (one ls i takes gives t) = alone ls i takes gives (from_standard t)
    code_from_standard (sequence ls first second before between after c d) = in_sequence second after (code_from_standard c) (code_from_standard d)
    code_from_standard (frame ls code below takes gives c) = over_frame below (code_from_standard c)
    code_from_standard (subsumption ls code before takes gives after m c n) = strengthen after n (weaken L laws before m (code_from_standard c))

  pub same_shape : (ls : List (List T)) (code : List I) (stack after : List (Operand T)) → TypedCode L ls code stack after ↔ StandardCode L ls code stack after
  same_shape ls code stack after = (λ c. code_to_standard c, λ c. code_from_standard c)
