-- Typing code, one instruction after another.
use Rattle.std.proofs.Common.{◌≡◌, ℕ, ◌+◌, ◌<◌, ◌≤◌, Bool, true, false, nat_le, List, [], ◌∷◌, ◌++◌, reverse, drop, length, get_or, Option, Some, None, refl, ap, sym, subst, ◌∙◌, append_assoc, append-nil, arith}
use Rattle.std.proofs.lemmas.List.{map-append, length-reverse, length-map, length-append, drop_all}
use Rattle.wasm_ast.specs.declared.module.ty.Ty.{Ty}
use Rattle.wasm_ast.specs.declared.module.code.Instr.{Instr, out-Instr, out-roll-Instr}
use Rattle.typing_kit.specs.declared.operand.Operand.TheVariants.{Known}
use Rattle.typing_kit.specs.Matching.{known}
use Rattle.typing_kit.specs.Progress.{Stuck}
use Rattle.typing_kit.specs.Stack.{Stack, fit, fit_whole}
use Rattle.typing_kit.specs.Typing.{TypedCode}
use Rattle.typed_trees.specs.declared.node.Node.{Node}
use Rattle.typed_trees.specs.Contexts.{Context}
use Rattle.typed_trees.specs.Forms.{language}
use Rattle.typed_trees.specs.Matching.{matches}
use Rattle.typed_trees.specs.Trees.{with_bodies, leaves, leaves_layer, unless_left, reachable, reachable_code, erase, erased, TypedNodes, none, more, last, head_of, gives_of, first_of, second_of}
use Rattle.typed_trees.proofs.Erasing.{erase_out}
use Rattle.valid_new.specs.Bodies.{After, Body, Reached, Went, WentOr}
use Rattle.valid_new.proofs.Holding.{leaves_refilled}
use Rattle.valid_new.proofs.Remaining.{Remains, at_place, remains_start, remains_more, remains_stuck, remains_fit, remains_unfit}
use Rattle.valid_new.proofs.Tops.{fitted_values, both_true}

leaves_erase : (n : Node) → leaves (erase n) ≡ leaves (head_of n)
leaves_erase n =
    ap leaves (erase_out n)
    ∙ ap leaves_layer (out-roll-Instr (with_bodies (out-Instr (head_of n)) (erased (first_of n)) (erased (second_of n))))
    ∙ leaves_refilled (out-Instr (head_of n)) (erased (first_of n)) (erased (second_of n))

-- the nodes so far: over values of the first types they go on over those on the stack, or end nowhere
pub record Alive (c : Context) (ls : List (List Ty)) (takes : List Ty) (stack : Stack Ty) (nodes : List Node) : Type 0 where
  pub values : List Ty
  pub top : stack.top ≡ reverse (known values)
  pub onwards : (next : List Node) (end : Option (List Ty)) → TypedNodes c ls next values end → TypedNodes c ls (nodes ++ next) takes end

-- after the front of the code only `rest` is left
pub record Through (c : Context) (ls : List (List Ty)) (takes : List Ty) (code rest : List Instr) (stack : Stack Ty) (nodes : List Node) : Type 0 where
  pub leads : Remains c ls takes code rest stack
  pub alive : stack.dead ≡ false → Alive c ls takes stack nodes
  pub dead : stack.dead ≡ true → TypedNodes c ls nodes takes None
  pub tree : erased nodes ++ unless_left stack.dead (reachable_code rest) ≡ reachable_code code

module _ (c : Context) (ls : List (List Ty)) (takes : List Ty) where
  -- at the start
  pub through_start : (code : List Instr) (stack : Stack Ty) → stack.dead ≡ false → stack.top ≡ reverse (known takes) → Through c ls takes code code stack []
  through_start code stack d v = record {
    leads = remains_start c ls takes code stack d v;
    alive = λ e. record { values = takes; top = v; onwards = λ next end t. t };
    dead = λ e. (let no : ⊥ = cc in absurd no);
    tree = ap (λ b. unless_left b (reachable_code code)) d;
  }

  module _ (code rest : List Instr) (i : Instr) (old new : Stack Ty) (nodes put : List Node) (so_far : Through c ls takes code (i ∷ rest) old nodes) where
    -- no more of the code is typed
    pub through_stuck : (gives : List Ty) → Stuck (language c) ls i old.dead old.top → TypedCode (language c) ls code (known takes) (known gives) → ⊥
    through_stuck gives stuck typed = remains_stuck c ls takes code rest i old so_far.leads gives stuck typed

    module _ (went : Went c ls i old new nodes put) where
      leads : Remains c ls takes code rest new
      leads = remains_more c ls takes code rest i old so_far.leads new went.leads

      unreached : old.dead ≡ true → Through c ls takes code rest new put
      unreached d =
          let w = went.unreached d in
          record {
            leads = leads;
            alive = λ e. (let no : ⊥ = cc in absurd no);
            dead = λ e. subst (λ l. TypedNodes c ls l takes None) (sym w.1) (so_far.dead d);
            tree = ap (λ l. erased l ++ unless_left new.dead (reachable_code rest)) w.1
                ∙ ap (λ b. erased nodes ++ unless_left b (reachable_code rest)) w.0
                ∙ sym (ap (λ b. erased nodes ++ unless_left b (reachable_code (i ∷ rest))) d)
                ∙ so_far.tree;
          }

      -- one node more
      tree_more : (n : Node) (b : Bool) → old.dead ≡ false → put ≡ nodes ++ n ∷ [] → erase n ≡ reachable i → leaves (head_of n) ≡ b → new.dead ≡ b → erased put ++ unless_left new.dead (reachable_code rest) ≡ reachable_code code
      tree_more n b d e t l nd =
          ap (λ x. erased x ++ unless_left new.dead (reachable_code rest)) e
          ∙ ap (λ x. x ++ unless_left new.dead (reachable_code rest)) (map-append erase nodes (n ∷ []))
          ∙ append_assoc (erased nodes) (erase n ∷ []) (unless_left new.dead (reachable_code rest))
          ∙ ap (λ x. erased nodes ++ (erase n ∷ unless_left x (reachable_code rest))) (nd ∙ sym l ∙ sym (leaves_erase n))
          ∙ ap (λ x. erased nodes ++ (x ∷ unless_left (leaves x) (reachable_code rest))) t
          ∙ sym (ap (λ x. erased nodes ++ unless_left x (reachable_code (i ∷ rest))) d)
          ∙ so_far.tree

      reached : old.dead ≡ false → Through c ls takes code rest new put
      reached d =
          let a = so_far.alive d in
          let w = went.reached a.values d a.top in
          go w.0 w.1 w.2 (leaves (head_of w.0)) refl
        where
          go : (n : Node) → put ≡ nodes ++ n ∷ [] → Reached c ls i (so_far.alive d).values new n → (b : Bool) → leaves (head_of n) ≡ b → Through c ls takes code rest new put
          go n e r true l =
              let gone : new.dead ≡ true = subst (λ x. After x (r.below ++ gives_of n) new) l r.after in
              record {
                leads = leads;
                alive = λ k. (let no : ⊥ = cc in absurd no);
                dead = λ k. subst (λ x. TypedNodes c ls x takes None) (sym e)
                    ((so_far.alive d).onwards (n ∷ []) None (subst (λ x. TypedNodes c ls (n ∷ []) x None) (sym r.is) (last c ls n r.below r.typed l)));
                tree = tree_more n true d e r.tree l gone;
              }
          go n e r false l =
              let on = subst (λ x. After x (r.below ++ gives_of n) new) l r.after in
              record {
                leads = leads;
                alive = λ k. record {
                  values = r.below ++ gives_of n;
                  top = on.1;
                  onwards = λ next end t. subst (λ x. TypedNodes c ls x takes end) (sym (ap (λ x. x ++ next) e ∙ append_assoc nodes (n ∷ []) next))
                      ((so_far.alive d).onwards (n ∷ next) end (subst (λ x. TypedNodes c ls (n ∷ next) x end) (sym r.is) (more c ls n next r.below end r.typed l t)));
                };
                dead = λ k. (let no : ⊥ = cc in absurd no);
                tree = tree_more n false d e r.tree l on.0;
              }

      pub through_more : Through c ls takes code rest new put
      through_more = go old.dead refl
        where
          go : (b : Bool) → old.dead ≡ b → Through c ls takes code rest new put
          go true d = unreached d
          go false d = reached d

  module _ (code : List Instr) (stack : Stack Ty) (nodes : List Node) (gives : List Ty) (whole : Through c ls takes code [] stack nodes) where
    no_rest : (b : Bool) → unless_left b (reachable_code []) ≡ []
    no_rest true = refl
    no_rest false = refl

    tree_whole : erased nodes ≡ reachable_code code
    tree_whole = sym (append-nil (erased nodes)) ∙ ap (λ l. erased nodes ++ l) (sym (no_rest stack.dead)) ∙ whole.tree

    typed_whole : fit_whole matches stack.dead stack.top (reverse gives) ≡ true → TypedCode (language c) ls code (known takes) (known gives)
    typed_whole f = remains_fit c ls takes code stack gives whole.leads f

    pub through_unfit : fit_whole matches stack.dead stack.top (reverse gives) ≡ false → TypedCode (language c) ls code (known takes) (known gives) → ⊥
    through_unfit f typed = remains_unfit c ls takes code stack gives whole.leads f typed

    -- the values at the end are the results
    all_values : (values : List Ty) → stack.dead ≡ false → stack.top ≡ reverse (known values) → fit_whole matches stack.dead stack.top (reverse gives) ≡ true → values ≡ gives
    all_values values d v f =
        let both = both_true (nat_le (length stack.top) (length (reverse gives))) (fit matches stack.dead stack.top (reverse gives)) f in
        let fits = fitted_values values gives (ap (λ b. fit matches b (reverse (known values)) (reverse gives)) (sym d) ∙ ap (λ l. fit matches stack.dead l (reverse gives)) (sym v) ∙ both.1) in
        let short : length values ≤ length gives = grind (arith, both.0, ap length v, length-reverse (known values), length-map values Known, length-reverse gives) in
        fits.is ∙ ap (λ l. l ++ gives) (empty fits.below (omega (arith, short, ap length fits.is, length-append fits.below gives)))
      where
        empty : (l : List Ty) → length l ≤ 0 → l ≡ []
        empty [] h = refl
        empty (t ∷ l) h = let no : ⊥ = omega (arith, h) in absurd no

    pub through_whole : fit_whole matches stack.dead stack.top (reverse gives) ≡ true → Body c ls code takes gives nodes
    through_whole f = go stack.dead refl
      where
        go : (b : Bool) → stack.dead ≡ b → Body c ls code takes gives nodes
        go true d = record {
          typed = typed_whole f;
          tree = tree_whole;
          end = None;
          nodes_typed = whole.dead d;
          ends = tt;
        }
        go false d =
            let a = whole.alive d in
            record {
              typed = typed_whole f;
              tree = tree_whole;
              end = Some a.values;
              nodes_typed = subst (λ l. TypedNodes c ls l takes (Some a.values)) (append-nil nodes) (a.onwards [] (Some a.values) (none c ls a.values));
              ends = all_values a.values d a.top f;
            }

module _ (c : Context) (ls : List (List Ty)) (takes : List Ty) (code : List Instr) (k : ℕ) (i : Instr) (h : k < length code) (e : i ≡ get_or code k i) (old new : Stack Ty) (nodes put : List Node) (so_far : Through c ls takes code (drop k code) old nodes) where
  here : Through c ls takes code (i ∷ drop (k + 1) code) old nodes
  here = subst (λ l. Through c ls takes code l old nodes) (at_place code k i h e) so_far

  pub stuck_here : (gives : List Ty) (b : Bool) → b ≡ false → WentOr c ls i old new nodes put b → TypedCode (language c) ls code (known takes) (known gives) → ⊥
  stuck_here gives b n w = through_stuck c ls takes code (drop (k + 1) code) i old new nodes put here gives (subst (WentOr c ls i old new nodes put) n w)

  pub went_here : (b : Bool) → b ≡ true → WentOr c ls i old new nodes put b → Through c ls takes code (drop (k + 1) code) new put
  went_here b y w = through_more c ls takes code (drop (k + 1) code) i old new nodes put here (subst (WentOr c ls i old new nodes put) y w)

  pub outer_here : (b : Bool) → b ≡ true → WentOr c ls i old new nodes put b → new.outer ≡ old.outer
  outer_here b y w = (subst (WentOr c ls i old new nodes put) y w).outer

-- at the end of the code
pub ended_here : (c : Context) (ls : List (List Ty)) (takes : List Ty) (code : List Instr) (k : ℕ) (stack : Stack Ty) (nodes : List Node) → length code ≤ k → Through c ls takes code (drop k code) stack nodes → Through c ls takes code [] stack nodes
ended_here c ls takes code k stack nodes h t = subst (λ l. Through c ls takes code l stack nodes) (drop_all k code h) t
