-- Code whose vectors become two integers is typed by the types that they become.
use Rattle.std.proofs.Common.{◌≡◌, ℕ, Bool, true, false, not, ◌&&◌, if◌then◌else◌, List, [], ◌∷◌, map, option_map, Option, Some, refl, sym, ap, ◌∙◌, subst}
use Rattle.std.specs.List.{list_all, AllByRecursion}
use Rattle.wasm_ast.specs.declared.module.ty.Ty.{Ty}
use Rattle.wasm_ast.specs.declared.module.ty.Ty.TheVariants.{I64, V128}
use Rattle.wasm_ast.specs.declared.module.immediates.Catch.{Catch}
use Rattle.wasm_ast.specs.declared.module.immediates.Catch.TheVariants as catches
use Rattle.wasm_ast.specs.declared.module.op.Op.TheVariants as ops
use Rattle.wasm_ast.specs.declared.module.code.Instr.{Instr, out-Instr, roll-Instr, out-roll-Instr}
use Rattle.wasm_ast.specs.declared.module.code.Instr.TheOpen.{Instr-F}
use Rattle.typing_kit.specs.Form.{Flat}
use Rattle.typing_kit.specs.Leaf.{FitsLeaf}
use Rattle.typed_trees.specs.declared.node.Node.{Node}
use Rattle.typed_trees.specs.Contexts.{Context, func_type}
use Rattle.typed_trees.specs.Forms.{form, layer_form, where_some, language}
use Rattle.typed_trees.specs.Trees.{leaves_layer, TypedNodes}
use Rattle.rewriting_kit.specs.Rewrites.{Layer, node_of, rewritten}
use Rattle.rewriting_kit.specs.Fitting.{OfBody, Here, Fits, after}
use Rattle.rewriting_kit.specs.Moving.{TypeMap, Indices, Alone, ClauseStays, Stays, MovedContext, moved_node}
use Rattle.rewriting_kit.specs.Mappedly.{MappedBody, OwesMappedly}
use Rattle.rewriting_kit.proofs.Images.{by_image}
use Rattle.rewriting_kit.proofs.Lines.{line_typed, operators_typed}
use Rattle.rewriting_kit.proofs.Mapped.{mappedly_typed}
use Rattle.rewriting_kit.proofs.Staying.{put_together}
use Rattle.rewriting_kit_tests.specs.Vectors.{image, is_single, halves, drop_one, dropped, is_called, split}

abbrev pub in_two : TypeMap
in_two = by_image image refl

abbrev AllAlone : List Ty → Type 0
AllAlone ts = AllByRecursion (Alone in_two) ts

one_alone : (t : Ty) → is_single t ≡ true → Alone in_two t
one_alone V128 h = absurd cc
one_alone t h = refl

all_alone : (ts : List Ty) → list_all is_single ts ≡ true → AllAlone ts
all_alone [] h = tt
all_alone (t ∷ ts) h = both (is_single t) (one_alone t) h (all_alone ts)
  where
    both : (b : Bool) → (b ≡ true → Alone in_two t) → (b && list_all is_single ts) ≡ true → (list_all is_single ts ≡ true → AllAlone ts) → AllAlone (t ∷ ts)
    both true one h more = (one refl, more h)
    both false one h more = absurd cc

clauses_stay : (clauses : List Catch) → AllByRecursion (ClauseStays in_two) clauses
clauses_stay [] = tt
clauses_stay (catches.Tag x l ∷ clauses) = (tt, clauses_stay clauses)
clauses_stay (catches.TagRef x l ∷ clauses) = (refl, clauses_stay clauses)
clauses_stay (catches.All l ∷ clauses) = (tt, clauses_stay clauses)
clauses_stay (catches.AllRef l ∷ clauses) = (refl, clauses_stay clauses)

module _ (from into : Context) (ls ls' : List (List Ty)) (B : OfBody) (first second : List Node) where
  -- two drops
  drop_fits : FitsLeaf (language into) (form into ls' (roll-Instr Instr-F.Drop)) (I64 ∷ []) []
  drop_fits = subst (λ l. FitsLeaf (language into) (layer_form into ls' l) (I64 ∷ []) []) (sym (out-roll-Instr Instr-F.Drop)) ((I64, refl, refl), refl)

  drop_goes_on : leaves_layer (out-Instr (roll-Instr Instr-F.Drop)) ≡ false
  drop_goes_on = ap leaves_layer (out-roll-Instr Instr-F.Drop)

  drop_typed : (t : Ty) (kept : List Node) → (AllAlone (t ∷ []) → TypedNodes into ls' kept (in_two.over (t ∷ [])) (Some [])) → TypedNodes into ls' (dropped (t ∷ []) kept) (in_two.over (t ∷ [])) (Some [])
  drop_typed V128 kept stay = line_typed into ls' (drop_one ∷ (drop_one ∷ [])) (I64 ∷ (I64 ∷ [])) [] (I64 ∷ [], refl, drop_fits, drop_goes_on, ([], refl, drop_fits, drop_goes_on, refl))
  drop_typed t kept stay = stay (refl, tt)

  -- what becomes of a node
  node_typed : (l : Instr-F Instr) (takes gives : List Ty) (kept call : List Node) → Fits from B (layer_form from ls l) takes gives first second
      → (Stays in_two l takes gives → TypedNodes into ls' kept (in_two.over takes) (after (leaves_layer l) (in_two.over gives)))
      → (is_called l takes gives ≡ true → TypedNodes into ls' call (in_two.over takes) (Some (in_two.over gives))) → TypedNodes into ls' (split l takes gives kept call) (in_two.over takes) (after (leaves_layer l) (in_two.over gives))
  node_typed (Instr-F.Block t code) takes gives kept call h stay called = stay tt
  node_typed (Instr-F.Loop t code) takes gives kept call h stay called = stay tt
  node_typed (Instr-F.If t code other) takes gives kept call h stay called = stay tt
  node_typed (Instr-F.TryTable t clauses code) takes gives kept call h stay called = stay (clauses_stay clauses)
  node_typed (Instr-F.Br l) takes gives kept call h stay called = stay tt
  node_typed (Instr-F.BrIf l) takes gives kept call h stay called = stay tt
  node_typed (Instr-F.BrTable xs last) takes gives kept call h stay called = stay tt
  node_typed (Instr-F.Call x) takes gives kept call h stay called = stay tt
  node_typed (Instr-F.CallIndirect x table) takes gives kept call h stay called = stay tt
  node_typed Instr-F.Return takes gives kept call h stay called = stay tt
  node_typed (Instr-F.ReturnCall x) takes gives kept call h stay called = stay tt
  node_typed (Instr-F.ReturnCallIndirect x table) takes gives kept call h stay called = stay tt
  node_typed (Instr-F.Throw x) takes gives kept call h stay called = stay tt
  node_typed Instr-F.ThrowRef takes gives kept call h stay called = stay (subst AllAlone (sym h.0.0) (refl, tt), subst AllAlone (sym h.0.1) tt)
  node_typed Instr-F.Unreachable takes gives kept call h stay called = stay (subst AllAlone (sym h.0.0) tt, subst AllAlone (sym h.0.1) tt)
  node_typed (Instr-F.Pure (ops.V128Const v)) takes gives kept call h stay called =
      rw (h.0.0, h.0.1) (operators_typed into ls' (halves v.0) [] (I64 ∷ (I64 ∷ [])) ([], refl, refl, (I64 ∷ [], refl, refl, refl)))
  node_typed Instr-F.Drop takes gives kept call h stay called =
      rw (h.0.0.1, h.0.1) (drop_typed h.0.0.0 kept (λ alone. subst (λ l. TypedNodes into ls' kept (in_two.over l) (Some [])) h.0.0.1 (subst (λ l. TypedNodes into ls' kept (in_two.over takes) (Some (in_two.over l))) h.0.1 (stay (subst AllAlone (sym h.0.0.1) alone, subst AllAlone (sym h.0.1) tt)))))
  node_typed l takes gives kept call h stay called = choose (list_all is_single takes) (list_all is_single gives) (all_alone takes) (all_alone gives) (λ a b. stay (a, b)) called
    where
      choose : (b b' : Bool) → (b ≡ true → AllAlone takes) → (b' ≡ true → AllAlone gives) → (AllAlone takes → AllAlone gives → TypedNodes into ls' kept (in_two.over takes) (Some (in_two.over gives)))
          → (not (b && b') ≡ true → TypedNodes into ls' call (in_two.over takes) (Some (in_two.over gives))) → TypedNodes into ls' (if not (b && b') then call else kept) (in_two.over takes) (Some (in_two.over gives))
      choose true true a a' s k = s (a refl) (a' refl)
      choose true false a a' s k = k refl
      choose false b' a a' s k = k refl

  -- a call of a function that does the same
  call_typed : (f : ℕ) (takes gives : List Ty) → func_type into f ≡ Some (record { params = takes; results = gives }) → TypedNodes into ls' (node_of (roll-Instr (Instr-F.Call f)) takes gives [] [] ∷ []) takes (Some gives)
  call_typed f takes gives e =
      let head : Instr = roll-Instr (Instr-F.Call f) in
      let is : out-Instr head ≡ Instr-F.Call f = out-roll-Instr (Instr-F.Call f) in
      subst (λ b. TypedNodes into ls' (node_of head takes gives [] [] ∷ []) takes (after b gives)) (ap leaves_layer is)
      (put_together into ls' head takes gives [] [] (subst (λ g. Fits into (Here into ls') g takes gives [] []) (sym (ap (layer_form into ls') is ∙ ap (λ o. where_some o (λ t. Flat t.params t.results)) e)) ((refl, refl), refl, refl)))

-- The output has the context moved, and a function for each node that is called: those have few types in one context.
module _ (n : Indices) (from into : Context) (moved : MovedContext in_two n from into) (helper : Instr → List Ty → List Ty → ℕ)
    (helps : (ls : List (List Ty)) (B : OfBody) (head : Instr) (takes gives : List Ty) (first second : List Node) → Fits from B (form from ls head) takes gives first second → is_called (out-Instr head) takes gives ≡ true → func_type into (helper head takes gives) ≡ Some (record { params = in_two.over takes; results = in_two.over gives })) where
  abbrev pub no_entry : Instr → Unit {0}
  no_entry head = tt

  abbrev pub in_halves : Layer (Unit {0})
  in_halves x head takes gives first second =
      split (out-Instr head) takes gives (moved_node in_two n (λ l. l) head takes gives first second ∷ []) (node_of (roll-Instr (Instr-F.Call (helper head takes gives))) (in_two.over takes) (in_two.over gives) [] [] ∷ [])

  owes : OwesMappedly in_two no_entry in_halves from into n
  owes = record {
    context = moved;
    made = λ x ls head takes gives first second fits stay.
        node_typed from into ls (map in_two.over ls) (MappedBody in_two no_entry in_halves from into ls) first second (out-Instr head) takes gives _ _ fits stay
        (λ c. call_typed from into ls (map in_two.over ls) (MappedBody in_two no_entry in_halves from into ls) first second (helper head takes gives) (in_two.over takes) (in_two.over gives) (helps ls _ head takes gives first second fits c));
  }

  pub vectors_typed : (ls : List (List Ty)) (nodes : List Node) (start : List Ty) (end : Option (List Ty)) → TypedNodes from ls nodes start end → TypedNodes into (map in_two.over ls) (rewritten no_entry in_halves nodes []) (in_two.over start) (option_map in_two.over end)
  vectors_typed ls nodes start end typed = mappedly_typed in_two no_entry in_halves from into n owes [] ls nodes start end typed
