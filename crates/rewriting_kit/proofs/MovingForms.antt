-- Forms whose types are mapped: what fits one before its types move fits it after.
use Rattle.std.proofs.Common.{◌≡◌, Bool, true, false, ◌&&◌, List, [], ◌∷◌, ◌++◌, map, Option, Some, None, refl, sym, ap, ◌∙◌, subst}
use Rattle.std.specs.List.{AllByRecursion}
use Rattle.wasm_ast.specs.declared.module.ty.Ty.{Ty}
use Rattle.wasm_ast.specs.declared.module.ty.Ty.TheVariants.{I32}
use Rattle.wasm_ast.specs.declared.module.code.Instr.{Instr}
use Rattle.typing_kit.specs.declared.kind.Kind.{Kind}
use Rattle.typing_kit.specs.Form.{Flat, Any, Select, Leaves, Table, Block, Choice}
use Rattle.typing_kit.specs.Leaf.{AllSub}
use Rattle.typed_trees.specs.declared.node.Node.{Node}
use Rattle.typed_trees.specs.Contexts.{Context}
use Rattle.typed_trees.specs.Forms.{InstrForm, where_some, where_true}
use Rattle.typed_trees.specs.Matching.{matches, all_match}
use Rattle.typed_trees.proofs.Lawfulness.{matches_self, matches_equal}
use Rattle.rewriting_kit.specs.Fitting.{OfBody, Here, Fits}
use Rattle.rewriting_kit.specs.Moving.{TypeMap, Alone}

-- types that match are the same, and the same types match
pub match_same : (a b : List Ty) → all_match a b ≡ true → a ≡ b
match_same [] [] h = refl
match_same [] (t ∷ b) h = absurd cc
match_same (s ∷ a) [] h = absurd cc
match_same (s ∷ a) (t ∷ b) h = both (matches s t) refl h (match_same a b)
  where
    both : (x : Bool) → matches s t ≡ x → (x && all_match a b) ≡ true → (all_match a b ≡ true → a ≡ b) → (s ∷ a) ≡ (t ∷ b)
    both true e h more = ap (λ u. u ∷ a) (matches_equal s t e) ∙ ap (λ l. t ∷ l) (more h)
    both false e h more = absurd cc

pub match_self : (a : List Ty) → all_match a a ≡ true
match_self [] = refl
match_self (t ∷ a) = ap (λ b. b && all_match a a) (matches_self t) ∙ match_self a

sub_same : (a b : List Ty) → AllSub matches a b → a ≡ b
sub_same [] [] h = refl
sub_same [] (t ∷ b) h = absurd h
sub_same (s ∷ a) [] h = absurd h
sub_same (s ∷ a) (t ∷ b) h = ap (λ u. u ∷ a) (matches_equal s t h.0) ∙ ap (λ l. t ∷ l) (sub_same a b h.1)

sub_self : (a : List Ty) → AllSub matches a a
sub_self [] = tt
sub_self (t ∷ a) = (matches_self t, sub_self a)

module _ (T : TypeMap) where
  pub match_mapped : (a b : List Ty) → all_match a b ≡ true → all_match (T.over a) (T.over b) ≡ true
  match_mapped a b h = subst (λ l. all_match (T.over a) (T.over l) ≡ true) (match_same a b h) (match_self (T.over a))

  sub_mapped : (a b : List Ty) → AllSub matches a b → AllSub matches (T.over a) (T.over b)
  sub_mapped a b h = subst (λ l. AllSub matches (T.over a) (T.over l)) (sub_same a b h) (sub_self (T.over a))

  all_sub_mapped : (a : List Ty) (ls : List (List Ty)) → AllByRecursion (λ l. AllSub matches a l) ls → AllByRecursion (λ l. AllSub matches (T.over a) l) (map T.over ls)
  all_sub_mapped a [] h = tt
  all_sub_mapped a (l ∷ ls) h = (sub_mapped a l h.0, all_sub_mapped a ls h.1)

  -- below a condition
  pub over_above : (ts : List Ty) → T.over (ts ++ I32 ∷ []) ≡ T.over ts ++ I32 ∷ []
  over_above ts = T.over_append ts (I32 ∷ []) ∙ ap (λ l. T.over ts ++ l) T.over_condition

  -- types that all stay
  pub all_alone : (ts : List Ty) → AllByRecursion (Alone T) ts → T.over ts ≡ ts
  all_alone [] h = T.over_none
  all_alone (t ∷ ts) h = T.over_append (t ∷ []) ts ∙ ap (λ l. l ++ T.over ts) h.0 ∙ ap (λ l. t ∷ l) (all_alone ts h.1)

-- One node: what is known of its bodies in the input and in the output.
module _ (T : TypeMap) (from into : Context) (ls' : List (List Ty)) (B : OfBody) (takes gives : List Ty) (first second : List Node) where
  abbrev pub FitsFrom : InstrForm → Type 0
  FitsFrom f = Fits from B f takes gives first second

  abbrev pub FitsInto : InstrForm → Type 0
  FitsInto f = Fits into (Here into ls') f (T.over takes) (T.over gives) first second

  -- a form that asks for what is there
  pub found : {X Y : Type 0} (o : Option X) (o' : Option Y) (g : X → InstrForm) (g' : Y → InstrForm) → FitsFrom (where_some o g) → ((x : X) → o ≡ Some x → FitsFrom (g x) → (y : Y) × (o' ≡ Some y) × FitsInto (g' y)) → FitsInto (where_some o' g')
  found None o' g g' h k = absurd h.0
  found (Some x) o' g g' h k = let r = k x refl h in subst (λ p. FitsInto (where_some p g')) (sym r.1) r.2

  pub holds : (b b' : Bool) (f f' : InstrForm) → FitsFrom (where_true b f) → (b ≡ true → b' ≡ true) → (FitsFrom f → FitsInto f') → FitsInto (where_true b' f')
  holds false b' f f' h k g = absurd h.0
  holds true b' f f' h k g = subst (λ x. FitsInto (where_true x f')) (sym (k refl)) (g h)

  -- types that are carried
  pub flat_moved : (a b : List Ty) → FitsFrom (Flat a b) → FitsInto (Flat (T.over a) (T.over b))
  flat_moved a b h = ((ap T.over h.0.0, ap T.over h.0.1), h.1, h.2)

  pub leaves_moved : (a : List Ty) → FitsFrom (Leaves a) → FitsInto (Leaves (T.over a))
  leaves_moved a h = ((ap T.over h.0.0, ap T.over h.0.1 ∙ T.over_none), h.1, h.2)

  -- with a condition or an index above them
  pub flat_above : (a b : List Ty) → FitsFrom (Flat (a ++ I32 ∷ []) b) → FitsInto (Flat (T.over a ++ I32 ∷ []) (T.over b))
  flat_above a b h = ((ap T.over h.0.0 ∙ over_above T a, ap T.over h.0.1), h.1, h.2)

  pub leaves_above : (a : List Ty) → FitsFrom (Leaves (a ++ I32 ∷ [])) → FitsInto (Leaves (T.over a ++ I32 ∷ []))
  leaves_above a h = ((ap T.over h.0.0 ∙ over_above T a, ap T.over h.0.1 ∙ T.over_none), h.1, h.2)

  pub table_moved : (last : List Ty) (others : List (List Ty)) → FitsFrom (Table last others) → FitsInto (Table (T.over last) (map T.over others))
  table_moved last others h =
      let t = h.0 in
      ((T.over t.0, ap T.over t.1 ∙ over_above T t.0, ap T.over t.2 ∙ T.over_none, sub_mapped T t.0 last t.3, all_sub_mapped T t.0 others t.4), h.1, h.2)

  module _ (bodies : (label : List Ty) (nodes : List Node) (a b : List Ty) → B label nodes a b → Here into ls' (T.over label) nodes (T.over a) (T.over b)) where
    pub block_moved : (label a b : List Ty) (code : List Instr) → FitsFrom (Block label a b code) → FitsInto (Block (T.over label) (T.over a) (T.over b) code)
    block_moved label a b code (t, g, empty, body, none) = (ap T.over t, ap T.over g, empty, bodies label first a b body, none)

    pub choice_moved : (label a b : List Ty) (code other : List Instr) → FitsFrom (Choice label a b code other) → FitsInto (Choice (T.over label) (T.over a) (T.over b) code other)
    choice_moved label a b code other (t, g, empty, empty', body, body') =
        (ap T.over t ∙ over_above T a, ap T.over g, empty, empty', bodies label first a b body, bodies label second a b body')

  -- types that stay
  module _ (stay : AllByRecursion (Alone T) takes × AllByRecursion (Alone T) gives) where
    pub flat_stays : (a b : List Ty) → FitsFrom (Flat a b) → FitsInto (Flat a b)
    flat_stays a b h = ((all_alone T takes stay.0 ∙ h.0.0, all_alone T gives stay.1 ∙ h.0.1), h.1, h.2)

    pub any_stays : (kind : Kind) (b : List Ty) → FitsFrom (Any kind b) → FitsInto (Any kind b)
    any_stays kind b h = (((h.0.0.0, all_alone T takes stay.0 ∙ h.0.0.1, h.0.0.2), all_alone T gives stay.1 ∙ h.0.1), h.1, h.2)

    pub select_stays : FitsFrom Select → FitsInto Select
    select_stays h = ((h.0.0, all_alone T takes stay.0 ∙ h.0.1, all_alone T gives stay.1 ∙ h.0.2, h.0.3), h.1, h.2)

    pub leaves_stays : (a : List Ty) → FitsFrom (Leaves a) → FitsInto (Leaves a)
    leaves_stays a h = ((all_alone T takes stay.0 ∙ h.0.0, all_alone T gives stay.1 ∙ h.0.1), h.1, h.2)
