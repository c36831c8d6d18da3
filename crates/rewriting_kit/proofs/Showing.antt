-- What rewritten code shows, the code shows, where each layer does: so a stage says for one node which instructions it may
-- write. A test p of the code is beside a test q of the rewritten code.
use Rattle.std.proofs.Common.{◌≡◌, Bool, true, false, ◌||◌, List, [], ◌∷◌, ◌++◌, map, refl, sym, ap, ◌∙◌, subst}
use Rattle.std.specs.List.{list_any}
use Rattle.std.proofs.lemmas.List.{map-append}
use Rattle.std.proofs.lemmas.List.Folds.{list_any-append}
use Rattle.wasm_ast.specs.declared.module.ty.Ty.{Ty}
use Rattle.wasm_ast.specs.declared.module.ty.BlockType.{BlockType}
use Rattle.wasm_ast.specs.declared.module.immediates.Catch.{Catch}
use Rattle.wasm_ast.specs.declared.module.code.Instr.{Instr, out-Instr, roll-Instr}
use Rattle.wasm_ast.specs.declared.module.code.Instr.TheOpen.{Instr-F}
use Rattle.wasm_ast.specs.declared.module.code.Instr.TheFolds.{map-Instr, fold-roll-Instr, ind-Instr}
use Rattle.wasm_ast.specs.Occurrence.{Head, head, some, some_in, some_step}
use Rattle.typed_trees.specs.declared.node.Node.{Node, roll-Node}
use Rattle.typed_trees.specs.declared.node.Node.TheFolds.{map-Node}
use Rattle.typed_trees.specs.Trees.{with_bodies, first_held, second_held, erase, erased, head_of, takes_of, gives_of, first_of, second_of}
use Rattle.typed_trees.proofs.Erasing.{erase_out}
use Rattle.rewriting_kit.specs.Rewrites.{Layer, rewrite, rewritten, node_of}
use Rattle.rewriting_kit.proofs.Typing.{rewrite_out}
use Rattle.rewriting_kit.proofs.Trees.{induct_node, first_rolled, second_rolled, erase_made}

-- A test that does not see the bodies of an instruction.
pub record Blind (p : Head → Bool) : Type 0 where
  pub block : (t : BlockType) (c c' : List (Unit {0})) → p (Instr-F.Block t c) ≡ p (Instr-F.Block t c')
  pub loop : (t : BlockType) (c c' : List (Unit {0})) → p (Instr-F.Loop t c) ≡ p (Instr-F.Loop t c')
  pub choice : (t : BlockType) (c d c' d' : List (Unit {0})) → p (Instr-F.If t c d) ≡ p (Instr-F.If t c' d')
  pub guarded : (t : BlockType) (clauses : List Catch) (c c' : List (Unit {0})) → p (Instr-F.TryTable t clauses c) ≡ p (Instr-F.TryTable t clauses c')

-- one or the other
pub or_none : (b : Bool) → (b || false) ≡ b
or_none true = refl
or_none false = refl

pub or_left : (a b : Bool) → a ≡ true → (a || b) ≡ true
or_left true b h = refl
or_left false b h = absurd cc

pub or_right : (a b : Bool) → b ≡ true → (a || b) ≡ true
or_right true b h = refl
or_right false b h = h

pub or_both : (a b x y : Bool) → (a ≡ true → x ≡ true) → (b ≡ true → y ≡ true) → (a || b) ≡ true → (x || y) ≡ true
or_both true b x y f g h = or_left x y (f refl)
or_both false b x y f g h = or_right x y (g h)

pub unless_true : (a b : Bool) → (a ≡ true → b ≡ true) → b ≡ false → a ≡ false
unless_true true b f e = sym (f refl) ∙ e
unless_true false b f e = refl

-- what stands in a body
pub any_of : (p : Head → Bool) (code : List Instr) → list_any (λ b. b) (map (some p) code) ≡ some_in p code
any_of p [] = refl
any_of p (i ∷ code) = ap (λ b. some p i || b) (any_of p code)

-- a test that nothing passes
abbrev pub never : Head → Bool
never h = false

pub blind_never : Blind never
blind_never = record { block = λ t c c'. refl; loop = λ t c c'. refl; choice = λ t c d c' d'. refl; guarded = λ t clauses c c'. refl }

abbrev Without : Type 0
Without = (i : Instr) × (some never i ≡ false)

none_inside : (ks : List Without) → list_any (λ b. b) (map (some never) (map (λ k. k.0) ks)) ≡ false
none_inside [] = refl
none_inside (k ∷ ks) = ap (λ b. b || list_any (λ x. x) (map (some never) (map (λ j. j.0) ks))) k.1 ∙ none_inside ks

none_layer : (l : Instr-F Without) → some_step never (map-Instr Instr Bool (some never) (map-Instr Without Instr (λ k. k.0) l)) ≡ false
none_layer (Instr-F.Block t code) = none_inside code
none_layer (Instr-F.Loop t code) = none_inside code
none_layer (Instr-F.If t code code') =
    list_any-append (λ x. x) (map (some never) (map (λ k. k.0) code)) (map (some never) (map (λ k. k.0) code'))
    ∙ ap (λ b. b || list_any (λ x. x) (map (some never) (map (λ k. k.0) code'))) (none_inside code) ∙ none_inside code'
none_layer (Instr-F.TryTable t clauses code) = none_inside code
none_layer l = refl

passes_never : (i : Instr) → some never i ≡ false
passes_never = ind-Instr (λ i. some never i ≡ false) (λ x known is. subst (λ l. some never (roll-Instr l) ≡ false) is (fold-roll-Instr Bool (some_step never) (map-Instr Without Instr (λ k. k.0) known) ∙ none_layer known))

pub never_in : (code : List Instr) → some_in never code ≡ false
never_in [] = refl
never_in (i ∷ code) = ap (λ b. b || some_in never code) (passes_never i) ∙ never_in code

module _ (p q : Head → Bool) where
  -- the code passes p where the rewritten code passes q
  abbrev pub ShowsLess : List Instr → List Instr → Type 0
  ShowsLess code new = some_in q new ≡ true → some_in p code ≡ true

  module _ {E : Type 0} (entry : Instr → E) (layer : Layer E) where
    -- what a layer owes: where it is so of the bodies of a node, it is so of the node
    pub record OwesShowsLess : Type 0 where
      pub shows_less : (x : List E) (head : Instr) (takes gives : List Ty) (code code' : List Instr) (first second : List Node) → ShowsLess code (erased first) → ShowsLess code' (erased second)
          → ShowsLess (roll-Instr (with_bodies (out-Instr head) code code') ∷ []) (erased (layer x head takes gives first second))

  module _ {E : Type 0} (entry : Instr → E) (layer : Layer E) (owes : OwesShowsLess entry layer) where
    abbrev CodeLess : List Node → List E → Type 0
    CodeLess nodes x = ShowsLess (erased nodes) (erased (rewritten entry layer nodes x))

    abbrev NodeLess : Node → Type 0
    NodeLess n = (x : List E) → ShowsLess (erase n ∷ []) (erased (rewrite entry layer n x))

    one_more : (n : Node) (nodes : List Node) (x : List E) → NodeLess n → CodeLess nodes x → CodeLess (n ∷ nodes) x
    one_more n nodes x f g h =
        or_both (some_in q (erased (rewrite entry layer n x))) (some_in q (erased (rewritten entry layer nodes x))) (some p (erase n)) (some_in p (erased nodes)) (λ e. sym (or_none (some p (erase n))) ∙ f x e) g
        (sym (list_any-append (some q) (erased (rewrite entry layer n x)) (erased (rewritten entry layer nodes x)))
        ∙ ap (some_in q) (sym (map-append erase (rewrite entry layer n x) (rewritten entry layer nodes x))) ∙ h)

    known : (ks : List ((n : Node) × NodeLess n)) (x : List E) → CodeLess (map (λ k. k.0) ks) x
    known [] x h = h
    known (k ∷ ks) x h = one_more k.0 (map (λ j. j.0) ks) x k.1 (known ks x) h

    by_bodies : (n : Node) → ((x : List E) → CodeLess (first_of n) x) → ((x : List E) → CodeLess (second_of n) x) → NodeLess n
    by_bodies n f s x h =
        let inner : List E = x ++ entry (head_of n) ∷ [] in
        ap (λ i. some_in p (i ∷ [])) (erase_out n)
        ∙ owes.shows_less x (head_of n) (takes_of n) (gives_of n) (erased (first_of n)) (erased (second_of n)) (rewritten entry layer (first_of n) inner) (rewritten entry layer (second_of n) inner) (f inner) (s inner)
        (ap (λ l. some_in q (erased l)) (sym (rewrite_out entry layer n x)) ∙ h)

    node_shows : (n : Node) → NodeLess n
    node_shows = induct_node NodeLess (λ l.
        let rolled : Node = roll-Node (map-Node ((n : Node) × NodeLess n) Node (λ k. k.0) l) in
        by_bodies rolled
        (λ x. subst (λ nodes. CodeLess nodes x) (sym (first_rolled (λ (k : (n : Node) × NodeLess n). k.0) l)) (known (first_held l.bodies) x))
        (λ x. subst (λ nodes. CodeLess nodes x) (sym (second_rolled (λ (k : (n : Node) × NodeLess n). k.0) l)) (known (second_held l.bodies) x)))

    -- The lemma: where rewritten code passes q, the code passes p.
    pub code_shows : (nodes : List Node) (x : List E) → ShowsLess (erased nodes) (erased (rewritten entry layer nodes x))
    code_shows [] x h = h
    code_shows (n ∷ nodes) x h = one_more n nodes x (node_shows n) (code_shows nodes x) h

  -- a node that stays, where neither test sees bodies
  module _ (blind : Blind p) (blind' : Blind q) where
    abbrev inside : (Head → Bool) → List Instr → Bool
    inside r code = list_any (λ b. b) (map (some r) code)

    abbrev lengths : (Head → Bool) → List Instr → List (Unit {0})
    lengths r code = map (λ x. tt) (map (some r) code)

    abbrev units : List Instr → List (Unit {0})
    units code = map (λ x. tt) code

    in_body : (a a' : List Instr) → ShowsLess a a' → inside q a' ≡ true → inside p a ≡ true
    in_body a a' f e = any_of p a ∙ f (sym (any_of q a') ∙ e)

    in_bodies : (a b a' b' : List Instr) → ShowsLess a a' → ShowsLess b b' → list_any (λ x. x) (map (some q) a' ++ map (some q) b') ≡ true → list_any (λ x. x) (map (some p) a ++ map (some p) b) ≡ true
    in_bodies a b a' b' f g e =
        list_any-append (λ x. x) (map (some p) a) (map (some p) b)
        ∙ or_both (inside q a') (inside q b') (inside p a) (inside p b) (in_body a a' f) (in_body b b' g) (sym (list_any-append (λ x. x) (map (some q) a') (map (some q) b')) ∙ e)

    layer_shows : (l : Instr-F Instr) (a b a' b' : List Instr) → (q (head l) ≡ true → p (head l) ≡ true) → ShowsLess a a' → ShowsLess b b'
        → some_step q (map-Instr Instr Bool (some q) (with_bodies l a' b')) ≡ true → some_step p (map-Instr Instr Bool (some p) (with_bodies l a b)) ≡ true
    layer_shows (Instr-F.Block t code) a b a' b' u f g =
        or_both (q (Instr-F.Block t (lengths q a'))) (inside q a') (p (Instr-F.Block t (lengths p a))) (inside p a)
        (λ e. blind.block t (lengths p a) (units code) ∙ u (blind'.block t (units code) (lengths q a') ∙ e)) (in_body a a' f)
    layer_shows (Instr-F.Loop t code) a b a' b' u f g =
        or_both (q (Instr-F.Loop t (lengths q a'))) (inside q a') (p (Instr-F.Loop t (lengths p a))) (inside p a)
        (λ e. blind.loop t (lengths p a) (units code) ∙ u (blind'.loop t (units code) (lengths q a') ∙ e)) (in_body a a' f)
    layer_shows (Instr-F.If t code code') a b a' b' u f g =
        or_both (q (Instr-F.If t (lengths q a') (lengths q b'))) (list_any (λ x. x) (map (some q) a' ++ map (some q) b')) (p (Instr-F.If t (lengths p a) (lengths p b))) (list_any (λ x. x) (map (some p) a ++ map (some p) b))
        (λ e. blind.choice t (lengths p a) (lengths p b) (units code) (units code') ∙ u (blind'.choice t (units code) (units code') (lengths q a') (lengths q b') ∙ e)) (in_bodies a b a' b' f g)
    layer_shows (Instr-F.TryTable t clauses code) a b a' b' u f g =
        or_both (q (Instr-F.TryTable t clauses (lengths q a'))) (inside q a') (p (Instr-F.TryTable t clauses (lengths p a))) (inside p a)
        (λ e. blind.guarded t clauses (lengths p a) (units code) ∙ u (blind'.guarded t clauses (units code) (lengths q a') ∙ e)) (in_body a a' f)
    layer_shows l a b a' b' u f g = or_both (q (head l)) false (p (head l)) false u (λ e. e)

    pub kept_shows : (i : Instr) (takes gives : List Ty) (code code' : List Instr) (first second : List Node) → (q (head (out-Instr i)) ≡ true → p (head (out-Instr i)) ≡ true) → ShowsLess code (erased first) → ShowsLess code' (erased second)
        → ShowsLess (roll-Instr (with_bodies (out-Instr i) code code') ∷ []) (erased (node_of i takes gives first second ∷ []))
    kept_shows i takes gives code code' first second u f g h =
        or_none (some p (roll-Instr (with_bodies (out-Instr i) code code')))
        ∙ fold-roll-Instr Bool (some_step p) (with_bodies (out-Instr i) code code')
        ∙ layer_shows (out-Instr i) code code' (erased first) (erased second) u f g
        (sym (fold-roll-Instr Bool (some_step q) (with_bodies (out-Instr i) (erased first) (erased second)))
        ∙ ap (some q) (sym (erase_made i takes gives first second)) ∙ sym (or_none (some q (erase (node_of i takes gives first second)))) ∙ h)
