-- What a typed tree stands for is typed code.
use Rattle.std.proofs.Common.{◌≡◌, true, List, [], ◌∷◌, ◌++◌, Option, Some, None, refl, ap, sym, ◌∙◌, subst}
use Rattle.wasm_ast.specs.declared.module.ty.Ty.{Ty}
use Rattle.wasm_ast.specs.declared.module.ty.Ty.TheVariants as types
use Rattle.wasm_ast.specs.declared.module.code.Instr.{Instr, out-Instr, roll-Instr, out-roll-Instr}
use Rattle.typed_trees.specs.declared.node.Bodies.{Bodies}
use Rattle.typed_trees.specs.declared.node.Node.{Node, out-Node}
use Rattle.typed_trees.specs.declared.node.Node.TheFolds.{fold_out-Node, map-Node}
use Rattle.typing_kit.specs.Form.{Block, Choice}
use Rattle.typing_kit.specs.Leaf.{FitsLeaf}
use Rattle.typing_kit.specs.Matching.{known, AllMatch}
use Rattle.typing_kit.specs.declared.operand.Operand.{Operand}
use Rattle.typing_kit.specs.Typing as typing
use Rattle.typing_kit.specs.Typing.{Typed, TypedCode}
use Rattle.typed_trees.specs.Contexts.{Context}
use Rattle.typed_trees.specs.Forms.{InstrForm, form, layer_form, language}
use Rattle.typed_trees.specs.Matching.{matches}
use Rattle.typed_trees.specs.Trees.{with_bodies, first_held, second_held, erase, erase_layer, erased, leaves, EndsAs, TypedNode, TypedNodes, plain, block, choice, none, more, last, head_of, takes_of, gives_of, first_of, second_of}
use Rattle.typed_trees.proofs.LeafTyped.{known_append, typed_leaf, typed_leaving, IsLeaving}
use Rattle.typed_trees.proofs.Lawfulness.{matches_self}
use Rattle.typed_trees.proofs.Leaving.{leaving_layer}
use Rattle.typed_trees.proofs.Refilled.{refill, refilled}

-- the code that a node holds, each node by itself
first_mapped : (head : Instr) (types : List Ty × List Ty) (bodies : Option (Bodies Node)) → first_held (map-Node Node Instr erase (record { head = head; types = types; bodies = bodies })).bodies ≡ erased (first_held bodies)
first_mapped head types None = refl
first_mapped head types (Some bodies) = refl

second_mapped : (head : Instr) (types : List Ty × List Ty) (bodies : Option (Bodies Node)) → second_held (map-Node Node Instr erase (record { head = head; types = types; bodies = bodies })).bodies ≡ erased (second_held bodies)
second_mapped head types None = refl
second_mapped head types (Some bodies) = refl

-- one layer of what a node stands for
pub erase_out : (n : Node) → erase n ≡ roll-Instr (with_bodies (out-Instr (head_of n)) (erased (first_of n)) (erased (second_of n)))
erase_out n =
    fold_out-Node Instr erase_layer n
    ∙ ap (λ l. roll-Instr (with_bodies (out-Instr (head_of n)) l (second_held (map-Node Node Instr erase (out-Node n)).bodies))) (first_mapped (out-Node n).head (out-Node n).types (out-Node n).bodies)
    ∙ ap (λ l. roll-Instr (with_bodies (out-Instr (head_of n)) (erased (first_of n)) l)) (second_mapped (out-Node n).head (out-Node n).types (out-Node n).bodies)

pub form_erased : (c : Context) (ls : List (List Ty)) (n : Node) → form c ls (erase n) ≡ refill (form c ls (head_of n)) (erased (first_of n)) (erased (second_of n))
form_erased c ls n =
    ap (form c ls) (erase_out n)
    ∙ ap (layer_form c ls) (out-roll-Instr (with_bodies (out-Instr (head_of n)) (erased (first_of n)) (erased (second_of n))))
    ∙ refilled c ls (out-Instr (head_of n)) (erased (first_of n)) (erased (second_of n))

-- a form that fits a leaf has no bodies to fill
refill_leaf : (c : Context) (f : InstrForm) (takes gives : List Ty) (first second : List Instr) → FitsLeaf (language c) f takes gives → refill f first second ≡ f
refill_leaf c (Block label a b code) takes gives first second h = absurd h
refill_leaf c (Choice label a b code other) takes gives first second h = absurd h
refill_leaf c _ takes gives first second h = refl

pub form_leaf : (c : Context) (ls : List (List Ty)) (n : Node) → FitsLeaf (language c) (form c ls (head_of n)) (takes_of n) (gives_of n) → form c ls (erase n) ≡ form c ls (head_of n)
form_leaf c ls n h = form_erased c ls n ∙ refill_leaf c (form c ls (head_of n)) (takes_of n) (gives_of n) (erased (first_of n)) (erased (second_of n)) h

fits_erased : (c : Context) (ls : List (List Ty)) (n : Node) → FitsLeaf (language c) (form c ls (head_of n)) (takes_of n) (gives_of n) → FitsLeaf (language c) (form c ls (erase n)) (takes_of n) (gives_of n)
fits_erased c ls n h = subst (λ f. FitsLeaf (language c) f (takes_of n) (gives_of n)) (sym (form_leaf c ls n h)) h

form_block : (c : Context) (ls : List (List Ty)) (n : Node) (label takes gives : List Ty) → form c ls (head_of n) ≡ Block label takes gives [] → form c ls (erase n) ≡ Block label takes gives (erased (first_of n))
form_block c ls n label takes gives e =
    form_erased c ls n ∙ ap (λ f. refill f (erased (first_of n)) (erased (second_of n))) e

form_choice : (c : Context) (ls : List (List Ty)) (n : Node) (label takes gives : List Ty) → form c ls (head_of n) ≡ Choice label takes gives [] [] → form c ls (erase n) ≡ Choice label takes gives (erased (first_of n)) (erased (second_of n))
form_choice c ls n label takes gives e =
    form_erased c ls n ∙ ap (λ f. refill f (erased (first_of n)) (erased (second_of n))) e

pub known_match : (ts : List Ty) → AllMatch matches (known ts) (known ts)
known_match [] = tt
known_match (t ∷ ts) = (matches_self t, known_match ts)

-- the erased instruction leaves where the head does
leaving_erased : (c : Context) (ls : List (List Ty)) (n : Node) → leaves (head_of n) ≡ true → FitsLeaf (language c) (form c ls (head_of n)) (takes_of n) (gives_of n) → IsLeaving (language c) (form c ls (erase n))
leaving_erased c ls n l h = subst (IsLeaving (language c)) (sym (form_leaf c ls n h)) (leaving_layer c ls (out-Instr (head_of n)) l)

-- a node that leaves is one without bodies
last_typed : (c : Context) (ls : List (List Ty)) (n : Node) (below after : List (Operand Ty)) → TypedNode c ls n → leaves (head_of n) ≡ true → Typed (language c) ls (erase n) (below ++ known (takes_of n)) after
last_typed c ls n below after (plain _ _ _ fits first second) l =
    typed_leaving (language c) ls (erase n) (takes_of n) (gives_of n) below after (leaving_erased c ls n l fits) (fits_erased c ls n fits)
last_typed c ls n below after (block _ _ _ label end e inside ends second) l =
    absurd (subst (IsLeaving (language c)) e (leaving_layer c ls (out-Instr (head_of n)) l))
last_typed c ls n below after (choice _ _ _ label takes first_end second_end e is first first_ends second second_ends) l =
    absurd (subst (IsLeaving (language c)) e (leaving_layer c ls (out-Instr (head_of n)) l))

mutual
  node_erased : (c : Context) (ls : List (List Ty)) (n : Node) → TypedNode c ls n → Typed (language c) ls (erase n) (known (takes_of n)) (known (gives_of n))
  node_erased c ls n (plain _ _ _ fits first second) =
      typed_leaf (language c) ls (erase n) (takes_of n) (gives_of n) (fits_erased c ls n fits)
  node_erased c ls n (block _ _ _ label end e inside ends second) =
      typing.block ls (erase n) label (takes_of n) (gives_of n) (erased (first_of n)) (form_block c ls n label (takes_of n) (gives_of n) e) (nodes_erased c (label ∷ ls) (first_of n) (takes_of n) end inside (gives_of n) ends)
  node_erased c ls n (choice _ _ _ label takes first_end second_end e is first first_ends second second_ends) =
      rw (is, known_append takes (types.I32 ∷ [])) (typing.choice ls (erase n) label takes (gives_of n) (erased (first_of n)) (erased (second_of n)) (form_choice c ls n label takes (gives_of n) e) (nodes_erased c (label ∷ ls) (first_of n) takes first_end first (gives_of n) first_ends) (nodes_erased c (label ∷ ls) (second_of n) takes second_end second (gives_of n) second_ends))

  pub nodes_erased : (c : Context) (ls : List (List Ty)) (ns : List Node) (s : List Ty) (end : Option (List Ty)) → TypedNodes c ls ns s end → (t : List Ty) → EndsAs end t → TypedCode (language c) ls (erased ns) (known s) (known t)
  nodes_erased c ls _ _ _ (none _ _ stack) t ends = rw (sym ends) (typing.none ls (known stack) (known stack) (known_match stack))
  nodes_erased c ls _ _ _ (more _ _ n nodes below end typed stays rest) t ends =
      rw (known_append below (takes_of n)) (typing.more ls (erase n) (erased nodes) (known below) (known (takes_of n)) (known (takes_of n)) (known (gives_of n)) (known t) (node_erased c ls n typed) (known_match (takes_of n)) (subst (λ l. TypedCode (language c) ls (erased nodes) l (known t)) (known_append below (gives_of n)) (nodes_erased c ls nodes (below ++ gives_of n) end rest t ends)))
  nodes_erased c ls _ _ _ (last _ _ n below typed leaves_it) t ends =
      rw (known_append below (takes_of n)) (typing.more ls (erase n) [] [] (known below ++ known (takes_of n)) (known below ++ known (takes_of n)) (known t) (known t) (last_typed c ls n (known below) (known t) typed leaves_it) (subst (λ l. AllMatch matches l l) (known_append below (takes_of n)) (known_match (below ++ takes_of n))) (typing.none ls (known t) (known t) (known_match t)))
