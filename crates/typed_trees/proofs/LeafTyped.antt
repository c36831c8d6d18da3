-- A node without bodies is typed by the rules over operands.
use Rattle.std.proofs.Common.{◌≡◌, Bool, true, false, List, [], ◌∷◌, ◌++◌, map, refl, ap, sym, ◌∙◌, subst}
use Rattle.std.specs.List.{AllByRecursion}
use Rattle.typing_kit.specs.declared.kind.Kind.{Kind}
use Rattle.typing_kit.specs.declared.operand.Operand.{Operand}
use Rattle.typing_kit.specs.declared.operand.Operand.TheVariants.{Known}
use Rattle.typing_kit.specs.Form.{Form, Language, Untyped, Flat, Any, Select, Leaves, Table, Block, Choice}
use Rattle.typing_kit.specs.Leaf.{AllSub, FitsLeaf}
use Rattle.typing_kit.specs.Matching.{known, AllMatch}
use Rattle.typing_kit.specs.Typing.{Typed, flat, any, select, leaves, table}

pub known_append : {T : Type 0} (a b : List T) → known (a ++ b) ≡ known a ++ known b
known_append [] b = refl
known_append (t ∷ a) b = ap (λ l. Known t ∷ l) (known_append a b)

module _ {T I : Type 0} (L : Language T I) where
  match_known : (a b : List T) → AllSub L.sub a b → AllMatch L.sub (known a) (known b)
  match_known [] [] h = tt
  match_known [] (t ∷ b) h = absurd h
  match_known (s ∷ a) [] h = absurd h
  match_known (s ∷ a) (t ∷ b) h = (h.0, match_known a b h.1)

  match_labels : (a : List T) (ls : List (List T)) → AllByRecursion (λ l. AllSub L.sub a l) ls → AllByRecursion (λ l. AllMatch L.sub (known a) (known l)) ls
  match_labels a [] h = tt
  match_labels a (l ∷ ls) h = (match_known a l h.0, match_labels a ls h.1)

  typed_at : (ls : List (List T)) (i : I) (f : Form T I) (takes gives : List T) → L.form ls i ≡ f → FitsLeaf L f takes gives → Typed L ls i (known takes) (known gives)
  typed_at ls i Untyped takes gives e h = absurd h
  typed_at ls i (Flat a b) takes gives e h = rw (h.0, h.1) (flat ls i a b e)
  typed_at ls i (Any kind b) takes gives e h = rw (h.0.1, h.1) (any ls i kind b (Known h.0.0) e h.0.2)
  typed_at ls i Select takes gives e h = rw (h.1, h.2) (select ls i (Known h.0) e h.3)
  typed_at ls i (Leaves a) takes gives e h = rw h.0 (leaves ls i a [] (known gives) e)
  typed_at ls i (Table last others) takes gives e h =
      rw (h.1, known_append h.0 (L.condition ∷ [])) (table ls i last others (known h.0) [] (known gives) e (match_known h.0 last h.3) (match_labels h.0 others h.4))
  typed_at ls i (Block label a b code) takes gives e h = absurd h
  typed_at ls i (Choice label a b first second) takes gives e h = absurd h

  -- over its own operands
  pub typed_leaf : (ls : List (List T)) (i : I) (takes gives : List T) → FitsLeaf L (L.form ls i) takes gives → Typed L ls i (known takes) (known gives)
  typed_leaf ls i takes gives h = typed_at ls i (L.form ls i) takes gives refl h

  -- a form behind which nothing is reached
  abbrev pub IsLeaving : Form T I → Type 0
  IsLeaving Untyped = Unit {0}
  IsLeaving (Leaves a) = Unit {0}
  IsLeaving (Table last others) = Unit {0}
  IsLeaving _ = ⊥

  leaving_at : (ls : List (List T)) (i : I) (f : Form T I) (takes gives : List T) (below after : List (Operand T)) → L.form ls i ≡ f → IsLeaving f → FitsLeaf L f takes gives → Typed L ls i (below ++ known takes) after
  leaving_at ls i (Leaves a) takes gives below after e k h = rw h.0 (leaves ls i a below after e)
  leaving_at ls i (Table last others) takes gives below after e k h =
      rw (h.1, known_append h.0 (L.condition ∷ [])) (table ls i last others (known h.0) below after e (match_known h.0 last h.3) (match_labels h.0 others h.4))
  leaving_at ls i Untyped takes gives below after e k h = absurd h
  leaving_at ls i (Flat a b) takes gives below after e k h = absurd k
  leaving_at ls i (Any kind b) takes gives below after e k h = absurd k
  leaving_at ls i Select takes gives below after e k h = absurd k
  leaving_at ls i (Block label a b code) takes gives below after e k h = absurd k
  leaving_at ls i (Choice label a b first second) takes gives below after e k h = absurd k

  -- over any operands below its own, with any stack behind it
  pub typed_leaving : (ls : List (List T)) (i : I) (takes gives : List T) (below after : List (Operand T)) → IsLeaving (L.form ls i) → FitsLeaf L (L.form ls i) takes gives → Typed L ls i (below ++ known takes) after
  typed_leaving ls i takes gives below after k h = leaving_at ls i (L.form ls i) takes gives below after refl k h
