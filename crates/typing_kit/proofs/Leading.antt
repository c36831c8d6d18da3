-- A step of the algorithm against the rules: which stacks type the code from here on, before it and after it.
use Rattle.std.proofs.Common.{◌≡◌, ◌↔◌, Bool, true, false, List, [], ◌∷◌, ◌++◌, reverse, refl, ap, sym, subst, ◌∙◌}
use Rattle.std.proofs.lemmas.List.{reverse-append, reverse-reverse}
use Rattle.typing_kit.specs.declared.operand.Operand.{Operand}
use Rattle.typing_kit.specs.Matching.{known, AllMatch}
use Rattle.typing_kit.specs.Form.{Language}
use Rattle.typing_kit.specs.Typing.{Typed, TypedCode, none, more}
use Rattle.typing_kit.specs.Stack.{fit_whole}
use Rattle.typing_kit.specs.Progress.{Covers, From, Leads, Stuck}
use Rattle.typing_kit.proofs.Laws.{Lawful, all_refl, all_trans, all_append, all_reverse, all_split}
use Rattle.typing_kit.proofs.Covering.{covers_front, covers_dead, covers_alive, covers_refl, whole_covers, covers_whole}

module _ {T I : Type 0} (L : Language T I) where
  -- the parts of a derivation for code that begins with an instruction
  pub record Turn (ls : List (List T)) (i : I) (code : List I) (stack after : List (Operand T)) : Type 0 where
    pub below : List (Operand T)
    pub operands : List (Operand T)
    pub takes : List (Operand T)
    pub gives : List (Operand T)
    pub is : stack ≡ below ++ operands
    pub typed : Typed L ls i takes gives
    pub matches : AllMatch L.sub operands takes
    pub rest : TypedCode L ls code (below ++ gives) after

  pub turn_of : {ls : List (List T)} {i : I} {code : List I} {stack after : List (Operand T)} → TypedCode L ls (i ∷ code) stack after → Turn ls i code stack after
  turn_of (more ls i code below operands takes gives after t m r) = record { below = below; operands = operands; takes = takes; gives = gives; is = refl; typed = t; matches = m; rest = r }

  pub nothing_of : {ls : List (List T)} {stack after : List (Operand T)} → TypedCode L ls [] stack after → AllMatch L.sub stack after
  nothing_of (none ls stack after m) = m

  reversed_parts : (stack below operands : List (Operand T)) → stack ≡ below ++ operands → reverse stack ≡ reverse operands ++ reverse below
  reversed_parts stack below operands e = ap reverse e ∙ reverse-append below operands

  parts_reversed : (stack front back : List (Operand T)) → reverse stack ≡ front ++ back → stack ≡ reverse back ++ reverse front
  parts_reversed stack front back e = sym (reverse-reverse stack) ∙ ap reverse e ∙ reverse-append front back

  module _ (laws : Lawful L) where
    -- code that is typed over operands is typed over operands that match them
    pub weaken : {ls : List (List T)} {code : List I} {stack after : List (Operand T)} (s : List (Operand T)) → AllMatch L.sub s stack → TypedCode L ls code stack after → TypedCode L ls code s after
    weaken s m (none ls stack after n) = none ls s after (all_trans L laws s stack after m n)
    weaken s m (more ls i code below operands takes gives after t n r) =
        let p = all_split L.sub s below operands m in
        subst (λ l. TypedCode L ls (i ∷ code) l after) (sym p.is)
        (more ls i code p.front p.back takes gives after t (all_trans L laws p.back operands takes p.back_matches n)
        (weaken (p.front ++ gives) (all_append L.sub p.front below gives gives p.front_matches (all_refl L laws gives)) r))

    -- An instruction behind which the code goes on: over the best operands that it can take here it gives the best.
    pub record Best (ls : List (List T)) (i : I) (dead : Bool) (s rest takes gives : List (Operand T)) : Type 0 where
      pub typed : Typed L ls i takes gives
      pub taken : (v : List (Operand T)) → Covers L.sub dead rest v → Covers L.sub dead s (reverse takes ++ v)
      pub best : (t g o v : List (Operand T)) → Typed L ls i t g → AllMatch L.sub o t → Covers L.sub dead s (reverse o ++ v) → Covers L.sub dead (reverse gives ++ rest) (reverse g ++ v)

    module _ (ls : List (List T)) (i : I) (dead : Bool) (s : List (Operand T)) where
      best_onwards : (rest takes gives : List (Operand T)) → Best ls i dead s rest takes gives → (code : List I) (after : List (Operand T)) → From L ls dead s (i ∷ code) after → From L ls dead (reverse gives ++ rest) code after
      best_onwards rest takes gives b code after f =
          let t = turn_of f.typed in
          record {
            stack = t.below ++ t.gives;
            covers = subst (λ l. Covers L.sub dead (reverse gives ++ rest) l) (sym (reverse-append t.below t.gives))
                (b.best t.takes t.gives t.operands (reverse t.below) t.typed t.matches
                (subst (λ l. Covers L.sub dead s l) (reversed_parts f.stack t.below t.operands t.is) f.covers));
            typed = t.rest;
          }

      best_back : (rest takes gives : List (Operand T)) → Best ls i dead s rest takes gives → (code : List I) (after : List (Operand T)) → From L ls dead (reverse gives ++ rest) code after → From L ls dead s (i ∷ code) after
      best_back rest takes gives b code after f =
          let p = covers_front L.sub dead (reverse gives) rest (reverse f.stack) f.covers in
          let below = reverse p.back in
          let gives_match : AllMatch L.sub gives (reverse p.front) = subst (λ l. AllMatch L.sub l (reverse p.front)) (reverse-reverse gives) (all_reverse L.sub (reverse gives) p.front p.front_matches) in
          let after_it : TypedCode L ls code (below ++ gives) after =
          weaken (below ++ gives) (all_append L.sub below below gives (reverse p.front) (all_refl L laws below) gives_match)
          (subst (λ l. TypedCode L ls code l after) (parts_reversed f.stack p.front p.back p.is) f.typed) in
          record {
            stack = below ++ takes;
            covers = subst (λ l. Covers L.sub dead s l) (sym (reverse-append below takes ∙ ap (λ l. reverse takes ++ l) (reverse-reverse p.back)))
                (b.taken p.back p.back_covered);
            typed = more ls i code below takes takes gives after b.typed (all_refl L laws takes) after_it;
          }

      pub best_leads : (rest takes gives : List (Operand T)) → Best ls i dead s rest takes gives → Leads L ls i dead s dead (reverse gives ++ rest)
      best_leads rest takes gives b code after = (best_onwards rest takes gives b code after, best_back rest takes gives b code after)

      -- an instruction that nothing follows
      pub leaving_leads : (takes : List (Operand T)) → ((g : List (Operand T)) → Typed L ls i takes g) → Covers L.sub dead s (reverse takes) → Leads L ls i dead s true []
      leaving_leads takes typed covers code after = (
        λ f. (let t = turn_of f.typed in record { stack = t.below ++ t.gives; covers = covers_dead L.sub (reverse (t.below ++ t.gives)); typed = t.rest }),
        λ f. record { stack = takes; covers = covers; typed = more ls i code [] takes takes f.stack after (typed f.stack) (all_refl L laws takes) f.typed },
      )

      pub stuck_by : ((t g o v : List (Operand T)) → Typed L ls i t g → AllMatch L.sub o t → Covers L.sub dead s (reverse o ++ v) → ⊥) → Stuck L ls i dead s
      stuck_by never code after f =
          let t = turn_of f.typed in
          never t.takes t.gives t.operands (reverse t.below) t.typed t.matches
          (subst (λ l. Covers L.sub dead s l) (reversed_parts f.stack t.below t.operands t.is) f.covers)

    -- code is typed where it begins with these operands
    pub begun : (ls : List (List T)) (code : List I) (takes after : List (Operand T)) → TypedCode L ls code takes after ↔ From L ls false (reverse takes) code after
    begun ls code takes after = (
      λ t. record { stack = takes; covers = covers_refl L laws false (reverse takes); typed = t },
      λ f. weaken takes
          (subst (λ l. AllMatch L.sub l f.stack) (reverse-reverse takes)
          (subst (λ l. AllMatch L.sub (reverse (reverse takes)) l) (reverse-reverse f.stack)
          (all_reverse L.sub (reverse takes) (reverse f.stack) (covers_alive L.sub (reverse takes) (reverse f.stack) f.covers)))) f.typed,
    )

    -- code that ends here is typed exactly where the operands are these values
    pub ended : (ls : List (List T)) (dead : Bool) (s : List (Operand T)) (ts : List T) → fit_whole L.sub dead s (reverse ts) ≡ true ↔ From L ls dead s [] (known ts)
    ended ls dead s ts = (
      λ f. record { stack = known ts; covers = whole_covers L laws dead s ts f; typed = none ls (known ts) (known ts) (all_refl L laws (known ts)) },
      λ f. covers_whole L laws dead s ts f.stack (nothing_of f.typed) f.covers,
    )
