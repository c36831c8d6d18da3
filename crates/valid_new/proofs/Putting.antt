-- What typing an instruction that holds typed code answers.
use Rattle.std.proofs.Common.{◌≡◌, Bool, true, false, List, [], ◌∷◌, ◌++◌, Option, Some, None, ap, sym, subst, ◌∙◌}
use Rattle.std.specs.Borrow.{Bor}
use Rattle.wasm_ast.specs.declared.module.ty.Ty.{Ty}
use Rattle.wasm_ast.specs.declared.module.ty.Ty.TheVariants.{I32}
use Rattle.wasm_ast.specs.declared.module.code.Instr.{Instr, out-Instr}
use Rattle.typing_kit.specs.declared.operand.Operand.{Operand}
use Rattle.typing_kit.specs.declared.plan.Met.{Met}
use Rattle.typing_kit.specs.declared.plan.Met.TheVariants.{Untyped}
use Rattle.typing_kit.specs.Form as forms
use Rattle.typing_kit.specs.Progress.{Leads, Stuck}
use Rattle.typing_kit.specs.Stack.{Stack}
use Rattle.typing_kit.specs.Steps.{flat_step, with_top}
use Rattle.typing_kit.proofs.Forms.{Exactly, block_exactly, choice_exactly, choice_stuck}
use Rattle.typed_trees.specs.declared.node.Node.{Node}
use Rattle.typed_trees.specs.Contexts.{Context}
use Rattle.typed_trees.specs.Forms.{form, language, is_of_kind}
use Rattle.typed_trees.specs.Matching.{matches}
use Rattle.typed_trees.specs.Trees.{with_bodies, erase, erased, leaves, reachable, reachable_code, EndsAs, TypedNode, TypedNodes, block, choice, head_of, gives_of, first_of}
use Rattle.typed_trees.proofs.LeafTyped.{IsLeaving}
use Rattle.typed_trees.proofs.Refilled.{refill}
use Rattle.valid_new.specs.declared.nested.Nested.{Nested}
use Rattle.valid_new.specs.Bodies.{After, AreArms, Body, BodyOr, IsMet, Went}
use Rattle.valid_new.specs.Nested.{nested_form}
use Rattle.valid_new.specs.Nodes.{NodeIs}
use Rattle.valid_new.proofs.Holding.{tree_is, head_form, head_leaves, first_held, both_held}
use Rattle.valid_new.proofs.Judging.{flat_leads, flat_stuck}
use Rattle.valid_new.proofs.Moving.{flat_moves, Moves}
use Rattle.typed_trees.proofs.Lawfulness.{lawful}

-- typed as one that takes these types and gives those, and a node of it is typed
pub record Exact (c : Context) (ls : List (List Ty)) (i : Instr) (takes gives : List Ty) (a b : List Node) : Type 0 where
  pub exactly : Exactly (language c) ls i takes gives
  pub tree : (n : Node) (h : Instr) → out-Instr h ≡ with_bodies (out-Instr i) [] [] → NodeIs h takes gives a b n → erase n ≡ reachable i
  pub typed : (n : Node) (h : Instr) → out-Instr h ≡ with_bodies (out-Instr i) [] [] → NodeIs h takes gives a b n → TypedNode c ls n
  pub stays : (n : Node) (h : Instr) → out-Instr h ≡ with_bodies (out-Instr i) [] [] → NodeIs h takes gives a b n → leaves (head_of n) ≡ false

module _ (c : Context) (ls : List (List Ty)) (i : Instr) (takes gives : List Ty) (a b : List Node) (x : Exact c ls i takes gives a b) (s t : Stack Ty) (met : Met Ty) (e : ◌≡◌ {A = Met Ty × Stack Ty} (met, t) (flat_step matches is_of_kind I32 takes gives s)) where
  pub exact_stuck : met ≡ Untyped → Stuck (language c) ls i s.dead s.top
  exact_stuck u = flat_stuck c ls i takes gives x.exactly s t met e u

  module _ (m : IsMet met) where
    exact_leads : Leads (language c) ls i s.dead s.top t.dead t.top
    exact_leads = flat_leads c ls i takes gives x.exactly s t met e m

    moves : Moves c (forms.Flat takes gives) takes gives false s t
    moves = flat_moves c s t met takes gives e m

    pub exact_reached : (nodes put : List Node) (n : Node) (h : Instr) → out-Instr h ≡ with_bodies (out-Instr i) [] [] → NodeIs h takes gives a b n → put ≡ nodes ++ n ∷ [] → s.dead ≡ false → Went c ls i s t nodes put
    exact_reached nodes put n h o is e2 alive = record {
      leads = exact_leads;
      outer = moves.outer;
      unreached = λ d. (let no : ⊥ = cc in absurd no);
      reached = λ ts d v.
          (let kept = moves.reached ts d v in (
            n,
            e2,
            record {
              tree = x.tree n h o is;
              typed = x.typed n h o is;
              below = kept.below;
              is = kept.is ∙ ap (λ l. kept.below ++ l) (sym is.takes);
              after = subst (λ y. After y (kept.below ++ gives_of n) t) (sym (x.stays n h o is)) (subst (λ l. After false (kept.below ++ l) t) (sym is.gives) kept.after);
            },
          ));
    }

    pub exact_unreached : (nodes put : List Node) → put ≡ nodes → s.dead ≡ true → Went c ls i s t nodes put
    exact_unreached nodes put e2 dead = record {
      leads = exact_leads;
      outer = moves.outer;
      unreached = λ d. (moves.unreached d, e2);
      reached = λ ts d v. (let no : ⊥ = cc in absurd no);
    }

module _ (c : Context) (ls : List (List Ty)) (i : Instr) where
  head_is : (n : Node) (h : Instr) → out-Instr h ≡ with_bodies (out-Instr i) [] [] → head_of n ≡ h → out-Instr (head_of n) ≡ with_bodies (out-Instr i) [] []
  head_is n h o e = ap out-Instr e ∙ o

  one_arm : (label takes gives : List Ty) (code : List Instr) (a : List Node) → form c ls i ≡ forms.Block label takes gives code → Body c (label ∷ ls) code takes gives a → Exact c ls i takes gives a []
  one_arm label takes gives code a e body = record {
    exactly = block_exactly (language c) ls i label takes gives code e body.typed;
    tree = λ n h o is.
        (let head = head_is n h o is.head in
        let held = first_held i n head c ls label takes gives code e in
        tree_is i n head (ap erased is.first ∙ body.tree ∙ ap reachable_code held.0) (ap erased is.second ∙ sym (ap reachable_code held.1)));
    typed = λ n h o is.
        (let head = head_is n h o is.head in
        block c ls n label body.end
        (subst (λ l. form c ls (head_of n) ≡ forms.Block label l (gives_of n) []) (sym is.takes)
        (subst (λ l. form c ls (head_of n) ≡ forms.Block label takes l []) (sym is.gives) (head_form i n head c ls ∙ ap (λ f. refill f [] []) e)))
        (subst (λ l. TypedNodes c (label ∷ ls) (first_of n) l body.end) (sym is.takes)
        (subst (λ l. TypedNodes c (label ∷ ls) l takes body.end) (sym is.first) body.nodes_typed))
        (subst (EndsAs body.end) (sym is.gives) body.ends) is.second);
    stays = λ n h o is. head_leaves i n (head_is n h o is.head) c ls (λ k. subst (IsLeaving (language c)) e k);
  }

  two_arms : (label takes gives : List Ty) (code other : List Instr) (a b : List Node) → form c ls i ≡ forms.Choice label takes gives code other → Body c (label ∷ ls) code takes gives a → Body c (label ∷ ls) other takes gives b → Exact c ls i (takes ++ I32 ∷ []) gives a b
  two_arms label takes gives code other a b e first second = record {
    exactly = choice_exactly (language c) ls i label takes gives code other e first.typed second.typed;
    tree = λ n h o is.
        (let head = head_is n h o is.head in
        let held = both_held i n head c ls label takes gives code other e in
        tree_is i n head (ap erased is.first ∙ first.tree ∙ ap reachable_code held.0) (ap erased is.second ∙ second.tree ∙ ap reachable_code held.1));
    typed = λ n h o is.
        (let head = head_is n h o is.head in
        choice c ls n label takes first.end second.end
        (subst (λ l. form c ls (head_of n) ≡ forms.Choice label takes l [] []) (sym is.gives) (head_form i n head c ls ∙ ap (λ f. refill f [] []) e))
        is.takes
        (subst (λ l. TypedNodes c (label ∷ ls) l takes first.end) (sym is.first) first.nodes_typed)
        (subst (EndsAs first.end) (sym is.gives) first.ends)
        (subst (λ l. TypedNodes c (label ∷ ls) l takes second.end) (sym is.second) second.nodes_typed)
        (subst (EndsAs second.end) (sym is.gives) second.ends));
    stays = λ n h o is. head_leaves i n (head_is n h o is.head) c ls (λ k. subst (IsLeaving (language c)) e k);
  }

  pub exact_of : (n : Nested) (top : Option Ty) (a b : List Node) → form c ls i ≡ nested_form n n.second → AreArms c ls n n.second top a b → Exact c ls i (with_top n.takes.now top) n.gives.now a b
  exact_of n top a b e arms = go n.second e arms
    where
      go : (second : Option (Bor (List Instr))) → form c ls i ≡ nested_form n second → AreArms c ls n second top a b → Exact c ls i (with_top n.takes.now top) n.gives.now a b
      go None e arms =
          subst (λ l. Exact c ls i (with_top n.takes.now top) n.gives.now a l) (sym arms.second)
          (subst (λ o. Exact c ls i (with_top n.takes.now o) n.gives.now a []) (sym arms.condition) (one_arm n.label.now n.takes.now n.gives.now n.first.now a e arms.body))
      go (Some code) e arms =
          subst (λ o. Exact c ls i (with_top n.takes.now o) n.gives.now a b) (sym arms.condition)
          (two_arms n.label.now n.takes.now n.gives.now n.first.now code.now a b e arms.first_body arms.second_body)

-- where the second arm is not typed no code that begins with the instruction is
pub second_stuck : (c : Context) (ls ls' : List (List Ty)) (i : Instr) (n : Nested) (code : Bor (List Instr)) (found : Option (List Node)) (dead : Bool) (s : List (Operand Ty)) → form c ls i ≡ nested_form n n.second → n.second ≡ Some code → found ≡ None → ls' ≡ ls → BodyOr c (n.label.now ∷ ls') code.now n.takes.now n.gives.now found → Stuck (language c) ls i dead s
second_stuck c ls ls' i n code found dead s e is untyped same body =
    choice_stuck (language c) ls i dead s n.label.now n.takes.now n.gives.now n.first.now code.now (lawful c) (e ∙ ap (nested_form n) is)
    (λ first second. subst (λ l. BodyOr c (n.label.now ∷ l) code.now n.takes.now n.gives.now None) same (subst (BodyOr c (n.label.now ∷ ls') code.now n.takes.now n.gives.now) untyped body) second)
