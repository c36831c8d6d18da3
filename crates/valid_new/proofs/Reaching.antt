-- The node of an instruction without code, where it is reached.
use Rattle.std.proofs.Common.{◌≡◌, Bool, true, false, List, [], ◌++◌, map, reverse, Option, Some, None, refl, ap, sym, subst, ◌∙◌}
use Rattle.std.specs.List.{list_all}
use Rattle.wasm_ast.specs.declared.module.ty.Ty.{Ty}
use Rattle.wasm_ast.specs.declared.module.ty.Ty.TheVariants.{I32}
use Rattle.wasm_ast.specs.declared.module.ty.FuncType.{FuncType}
use Rattle.wasm_ast.specs.declared.module.code.Instr.{Instr, out-Instr, roll-Instr, roll-out-Instr}
use Rattle.wasm_ast.specs.declared.module.code.Instr.TheOpen.{Instr-F}
use Rattle.wasm_ast.specs.declared.module.code.Instr.TheFolds.{map-Instr, fold_out-Instr}
use Rattle.typing_kit.specs.declared.plan.Plan.{Plan}
use Rattle.typing_kit.specs.declared.plan.Plan.TheVariants as plans
use Rattle.typing_kit.specs.declared.plan.Met.{Met}
use Rattle.typing_kit.specs.Form as forms
use Rattle.typing_kit.specs.Leaf.{FitsLeaf}
use Rattle.typing_kit.specs.Matching.{known}
use Rattle.typing_kit.specs.Stack.{Stack}
use Rattle.typing_kit.specs.Steps.{with_top, stepped, IsLeaf, IsPlanOf}
use Rattle.typed_trees.specs.declared.node.Node.{Node}
use Rattle.typed_trees.specs.Contexts.{Context, block_type}
use Rattle.typed_trees.specs.Forms.{InstrForm, where_some, where_true, form, layer_form, language, is_of_kind, block_form, loop_form, if_form, try_form, clause_fits}
use Rattle.typed_trees.specs.Matching.{matches}
use Rattle.typed_trees.specs.Trees.{with_bodies, cut_bodies, cut, first_body, second_body, leaves, leaves_layer, reachable, erase, erased, plain, head_of, takes_of, gives_of, first_of, second_of}
use Rattle.typed_trees.proofs.Erasing.{erase_out}
use Rattle.typed_trees.proofs.LeafTyped.{IsLeaving}
use Rattle.typed_trees.proofs.Leaving.{leaving_layer, IsStaying, staying_layer}
use Rattle.valid_new.specs.Bodies.{After, IsMet, Reached, type_met, leaf_types}
use Rattle.valid_new.specs.Nodes.{NodeIs}
use Rattle.valid_new.proofs.Moving.{Moves, flat_moves, any_moves, select_moves, leave_moves, table_moves}

-- the form that a plan is of
abbrev pub form_by : Plan Ty → InstrForm
form_by plans.Untyped = forms.Untyped
form_by (plans.Flat takes top gives) = forms.Flat (with_top takes.now top) gives.now
form_by (plans.Any kind gives) = forms.Any kind gives.now
form_by plans.Select = forms.Select
form_by (plans.Leaves takes top) = forms.Leaves (with_top takes.now top)
form_by (plans.Table last others) = forms.Table last.now (map (λ label. label.now) others.now)
form_by plans.Nested = forms.Untyped

-- whether nothing is reached behind an instruction of the plan
abbrev pub leaves_by : Plan Ty → Bool
leaves_by (plans.Leaves takes top) = true
leaves_by (plans.Table last others) = true
leaves_by _ = false

form_is : (plan : Plan Ty) (f : InstrForm) → IsPlanOf plan f → IsLeaf plan → f ≡ form_by plan
form_is plans.Untyped f p l = p
form_is (plans.Flat takes top gives) f p l = p
form_is (plans.Any kind gives) f p l = p
form_is plans.Select f p l = p
form_is (plans.Leaves takes top) f p l = p
form_is (plans.Table last others) f p l = p
form_is plans.Nested f p l = absurd l

module _ (c : Context) where
  pub planned_moves : (plan : Plan Ty) (s t : Stack Ty) (met : Met Ty) → IsLeaf plan → ◌≡◌ {A = Met Ty × Stack Ty} (met, t) (stepped matches is_of_kind I32 plan s) → IsMet met → Moves c (form_by plan) (leaf_types plan (type_met met)).0 (leaf_types plan (type_met met)).1 (leaves_by plan) s t
  planned_moves plans.Untyped s t met l e m = absurd (subst IsMet (ap (λ p. p.0) e) m)
  planned_moves (plans.Flat takes top gives) s t met l e m = flat_moves c s t met (with_top takes.now top) gives.now e m
  planned_moves (plans.Any kind gives) s t met l e m = any_moves c s t met kind gives.now e m
  planned_moves plans.Select s t met l e m = select_moves c s t met e m
  planned_moves (plans.Leaves takes top) s t met l e m = leave_moves c s t met (with_top takes.now top) e m
  planned_moves (plans.Table last others) s t met l e m = table_moves c s t met last.now (map (λ label. label.now) others.now) e m
  planned_moves plans.Nested s t met l e m = absurd l

  module _ (ls : List (List Ty)) where
    -- an instruction that holds code fits no leaf
    no_leaf : (o : Option FuncType) (f : FuncType → InstrForm) (takes gives : List Ty) → ((t : FuncType) → FitsLeaf (language c) (f t) takes gives → ⊥) → FitsLeaf (language c) (where_some o f) takes gives → ⊥
    no_leaf None f takes gives h k = k
    no_leaf (Some t) f takes gives h k = h t k

    no_leaf_true : (b : Bool) (f : InstrForm) (takes gives : List Ty) → (FitsLeaf (language c) f takes gives → ⊥) → FitsLeaf (language c) (where_true b f) takes gives → ⊥
    no_leaf_true true f takes gives h k = h k
    no_leaf_true false f takes gives h k = k

    flat_layer : (l : Instr-F Instr) (takes gives : List Ty) → FitsLeaf (language c) (layer_form c ls l) takes gives → (first second : List Instr) → with_bodies l first second ≡ l
    flat_layer (Instr-F.Block type code) takes gives h first second = absurd (no_leaf (block_type c type) (λ t. block_form t code) takes gives (λ t k. k) h)
    flat_layer (Instr-F.Loop type code) takes gives h first second = absurd (no_leaf (block_type c type) (λ t. loop_form t code) takes gives (λ t k. k) h)
    flat_layer (Instr-F.If type code other) takes gives h first second = absurd (no_leaf (block_type c type) (λ t. if_form t code other) takes gives (λ t k. k) h)
    flat_layer (Instr-F.TryTable type clauses code) takes gives h first second =
        absurd (no_leaf (block_type c type) (λ t. try_form c ls clauses t code) takes gives (λ t. no_leaf_true (list_all (clause_fits c ls) clauses) (block_form t code) takes gives (λ k. k)) h)
    flat_layer l takes gives h first second = refl

    flat_mapped : (l : Instr-F Instr) (takes gives : List Ty) → FitsLeaf (language c) (layer_form c ls l) takes gives → (f : Instr → Instr) → map-Instr Instr Instr f l ≡ l
    flat_mapped (Instr-F.Block type code) takes gives h f = absurd (no_leaf (block_type c type) (λ t. block_form t code) takes gives (λ t k. k) h)
    flat_mapped (Instr-F.Loop type code) takes gives h f = absurd (no_leaf (block_type c type) (λ t. loop_form t code) takes gives (λ t k. k) h)
    flat_mapped (Instr-F.If type code other) takes gives h f = absurd (no_leaf (block_type c type) (λ t. if_form t code other) takes gives (λ t k. k) h)
    flat_mapped (Instr-F.TryTable type clauses code) takes gives h f =
        absurd (no_leaf (block_type c type) (λ t. try_form c ls clauses t code) takes gives (λ t. no_leaf_true (list_all (clause_fits c ls) clauses) (block_form t code) takes gives (λ k. k)) h)
    flat_mapped l takes gives h f = refl

    module _ (i : Instr) (takes gives : List Ty) (fits : FitsLeaf (language c) (form c ls i) takes gives) where
      leaf_reachable : reachable i ≡ i
      leaf_reachable =
          fold_out-Instr Instr cut_bodies i
          ∙ ap cut_bodies (flat_mapped (out-Instr i) takes gives fits reachable)
          ∙ ap roll-Instr (flat_layer (out-Instr i) takes gives fits (cut (first_body (out-Instr i))) (cut (second_body (out-Instr i))))
          ∙ roll-out-Instr i

      leaf_erased : (n : Node) → head_of n ≡ i → erase n ≡ i
      leaf_erased n h =
          erase_out n
          ∙ ap (λ x. roll-Instr (with_bodies (out-Instr x) (erased (first_of n)) (erased (second_of n)))) h
          ∙ ap roll-Instr (flat_layer (out-Instr i) takes gives fits (erased (first_of n)) (erased (second_of n)))
          ∙ roll-out-Instr i

    leaves_is : (i : Instr) (plan : Plan Ty) → form c ls i ≡ form_by plan → IsLeaf plan → (form_by plan ≡ forms.Untyped → ⊥) → leaves i ≡ leaves_by plan
    leaves_is i plan e l typed = go plan (leaves_layer (out-Instr i)) refl (λ k. subst (IsLeaving (language c)) e (leaving_layer c ls (out-Instr i) k)) (λ k. subst IsStaying e (staying_layer c ls (out-Instr i) k)) typed
      where
        go : (plan : Plan Ty) (b : Bool) → leaves_layer (out-Instr i) ≡ b → (leaves_layer (out-Instr i) ≡ true → IsLeaving (language c) (form_by plan)) → (leaves_layer (out-Instr i) ≡ false → IsStaying (form_by plan)) → (form_by plan ≡ forms.Untyped → ⊥) → leaves_layer (out-Instr i) ≡ leaves_by plan
        go plans.Untyped b e f g typed = absurd (typed refl)
        go plans.Nested b e f g typed = absurd (typed refl)
        go (plans.Leaves takes top) true e f g typed = e
        go (plans.Leaves takes top) false e f g typed = absurd (g e)
        go (plans.Table last others) true e f g typed = e
        go (plans.Table last others) false e f g typed = absurd (g e)
        go (plans.Flat takes top gives) false e f g typed = e
        go (plans.Flat takes top gives) true e f g typed = absurd (f e)
        go (plans.Any kind gives) false e f g typed = e
        go (plans.Any kind gives) true e f g typed = absurd (f e)
        go plans.Select false e f g typed = e
        go plans.Select true e f g typed = absurd (f e)

    untyped_never : (f : InstrForm) (takes gives : List Ty) → FitsLeaf (language c) f takes gives → f ≡ forms.Untyped → ⊥
    untyped_never f takes gives h e = subst (λ g. FitsLeaf (language c) g takes gives) e h

    -- over values of these types the node of the instruction is typed
    pub leaf_reached : (i : Instr) (plan : Plan Ty) (s t : Stack Ty) (met : Met Ty) (n : Node) → IsPlanOf plan (form c ls i) → IsLeaf plan → ◌≡◌ {A = Met Ty × Stack Ty} (met, t) (stepped matches is_of_kind I32 plan s) → IsMet met → NodeIs i (leaf_types plan (type_met met)).0 (leaf_types plan (type_met met)).1 [] [] n → (ts : List Ty) → s.dead ≡ false → s.top ≡ reverse (known ts) → Reached c ls i ts t n
    leaf_reached i plan s t met n p l e m is ts d v =
        let takes = (leaf_types plan (type_met met)).0 in
        let gives = (leaf_types plan (type_met met)).1 in
        let by_plan = form_is plan (form c ls i) p l in
        let kept = (planned_moves plan s t met l e m).reached ts d v in
        let fits : FitsLeaf (language c) (form c ls i) takes gives = subst (λ f. FitsLeaf (language c) f takes gives) (sym by_plan) kept.fits in
        record {
          tree = leaf_erased i takes gives fits n is.head ∙ sym (leaf_reachable i takes gives fits);
          typed = plain c ls n
              (subst (λ x. FitsLeaf (language c) (form c ls x) (takes_of n) (gives_of n)) (sym is.head)
              (subst (λ x. FitsLeaf (language c) (form c ls i) x (gives_of n)) (sym is.takes)
              (subst (λ x. FitsLeaf (language c) (form c ls i) takes x) (sym is.gives) fits))) is.first is.second;
          below = kept.below;
          is = kept.is ∙ ap (λ x. kept.below ++ x) (sym is.takes);
          after = subst (λ b. After b (kept.below ++ gives_of n) t) (sym (ap leaves is.head ∙ leaves_is i plan by_plan l (untyped_never (form_by plan) takes gives kept.fits)))
              (subst (λ x. After (leaves_by plan) (kept.below ++ x) t) (sym is.gives) kept.after);
        }
