-- Rewritten code is typed because each layer is.
use Rattle.std.proofs.Common.{◌≡◌, Bool, true, false, List, [], ◌∷◌, ◌++◌, map, option_map, Option, Some, None, refl, sym, ap, ◌∙◌, subst, append-nil}
use Rattle.wasm_ast.specs.declared.module.ty.Ty.{Ty}
use Rattle.wasm_ast.specs.declared.module.code.Instr.{Instr}
use Rattle.typing_kit.specs.Form.{Block, Choice}
use Rattle.typing_kit.specs.Leaf.{FitsLeaf}
use Rattle.typed_trees.specs.declared.node.Bodies.{Bodies}
use Rattle.typed_trees.specs.declared.node.Node.{Node, out-Node}
use Rattle.typed_trees.specs.declared.node.Node.TheFolds.{fold_out-Node, map-Node}
use Rattle.typed_trees.specs.Forms.{InstrForm, form, language}
use Rattle.typed_trees.specs.Trees.{first_held, second_held, leaves, EndsAs, TypedNode, TypedNodes, plain, block, choice, none, more, last, head_of, takes_of, gives_of, first_of, second_of}
use Rattle.rewriting_kit.specs.Rewrites.{Layer, all_at, rewrite, rewritten, rewrite_layer}
use Rattle.rewriting_kit.specs.Fitting.{World, Fits, NewBody, Enters, Owes, after}
use Rattle.rewriting_kit.proofs.Joining.{over, join}

module _ {E : Type 0} (entry : Instr → E) (layer : Layer E) where
  -- all bodies of a layer
  pub all_mapped : (x : List E) (nodes : List Node) → all_at x (map (rewrite entry layer) nodes) ≡ rewritten entry layer nodes x
  all_mapped x [] = refl
  all_mapped x (n ∷ nodes) = ap (λ l. rewrite entry layer n x ++ l) (all_mapped x nodes)

  first_mapped : (head : Instr) (types : List Ty × List Ty) (bodies : Option (Bodies Node)) → first_held (map-Node Node (List E → List Node) (rewrite entry layer) (record { head = head; types = types; bodies = bodies })).bodies ≡ map (rewrite entry layer) (first_held bodies)
  first_mapped head types None = refl
  first_mapped head types (Some bodies) = refl

  second_mapped : (head : Instr) (types : List Ty × List Ty) (bodies : Option (Bodies Node)) → second_held (map-Node Node (List E → List Node) (rewrite entry layer) (record { head = head; types = types; bodies = bodies })).bodies ≡ map (rewrite entry layer) (second_held bodies)
  second_mapped head types None = refl
  second_mapped head types (Some bodies) = refl

  -- one layer of a rewritten node
  pub rewrite_out : (n : Node) (x : List E) → rewrite entry layer n x ≡ layer x (head_of n) (takes_of n) (gives_of n) (rewritten entry layer (first_of n) (x ++ entry (head_of n) ∷ [])) (rewritten entry layer (second_of n) (x ++ entry (head_of n) ∷ []))
  rewrite_out n x =
      let o = out-Node n in
      let inner : List E = x ++ entry o.head ∷ [] in
      let mapped = map-Node Node (List E → List Node) (rewrite entry layer) o in
      ap (λ (f : List E → List Node). f x) (fold_out-Node (List E → List Node) (rewrite_layer entry layer) n)
      ∙ ap (λ l. layer x o.head o.types.0 o.types.1 (all_at inner l) (all_at inner (second_held mapped.bodies))) (first_mapped o.head o.types o.bodies)
      ∙ ap (λ l. layer x o.head o.types.0 o.types.1 (all_at inner (map (rewrite entry layer) (first_held o.bodies))) (all_at inner l)) (second_mapped o.head o.types o.bodies)
      ∙ ap (λ l. layer x o.head o.types.0 o.types.1 l (all_at inner (map (rewrite entry layer) (second_held o.bodies)))) (all_mapped inner (first_held o.bodies))
      ∙ ap (λ l. layer x o.head o.types.0 o.types.1 (rewritten entry layer (first_held o.bodies) inner) l) (all_mapped inner (second_held o.bodies))

module _ {E : Type 0} (W : World E) (enter : Enters W) (owes : Owes W) where
  -- the rewritten nodes
  abbrev new : List Node → List E → List Node
  new nodes x = rewritten W.entry W.layer nodes x

  -- where rewritten code ends
  abbrev ending : Option (List Ty) → Option (List Ty)
  ending end = option_map W.types end

  ends_as : (end : Option (List Ty)) (gives : List Ty) → EndsAs end gives → EndsAs (ending end) (W.types gives)
  ends_as None gives h = tt
  ends_as (Some s) gives h = ap W.types h

  some_after : (b : Bool) (gives : List Ty) → b ≡ false → after b gives ≡ Some gives
  some_after b gives e = ap (λ b'. after b' gives) e

  none_after : (b : Bool) (gives : List Ty) → b ≡ true → after b gives ≡ None
  none_after b gives e = ap (λ b'. after b' gives) e

  -- what a layer makes of a node that fits
  made : (x : List E) (ls ls' : List (List Ty)) (n : Node) → W.At x ls ls'
      → Fits W.from (NewBody W x ls' (head_of n)) (form W.from ls (head_of n)) (takes_of n) (gives_of n) (new (first_of n) (x ++ W.entry (head_of n) ∷ [])) (new (second_of n) (x ++ W.entry (head_of n) ∷ []))
      → TypedNodes W.into ls' (rewrite W.entry W.layer n x) (W.types (takes_of n)) (after (leaves (head_of n)) (W.types (gives_of n)))
  made x ls ls' n at fits =
      subst (λ l. TypedNodes W.into ls' l (W.types (takes_of n)) (after (leaves (head_of n)) (W.types (gives_of n)))) (sym (rewrite_out W.entry W.layer n x))
      (owes.owes x ls ls' (head_of n) (takes_of n) (gives_of n) (new (first_of n) (x ++ W.entry (head_of n) ∷ [])) (new (second_of n) (x ++ W.entry (head_of n) ∷ [])) at fits)

  -- a form without bodies
  leaf_fits : (x : List E) (ls' : List (List Ty)) (head : Instr) (f : InstrForm) (takes gives : List Ty) (first second : List Node) → FitsLeaf (language W.from) f takes gives → first ≡ [] → second ≡ [] → Fits W.from (NewBody W x ls' head) f takes gives first second
  leaf_fits x ls' head (Block label a b code) takes gives first second h e e' = absurd h
  leaf_fits x ls' head (Choice label a b code other) takes gives first second h e e' = absurd h
  leaf_fits x ls' head f takes gives first second h e e' = (h, e, e')

  mutual
    node_typed : (x : List E) (ls ls' : List (List Ty)) (n : Node) → W.At x ls ls' → TypedNode W.from ls n → TypedNodes W.into ls' (rewrite W.entry W.layer n x) (W.types (takes_of n)) (after (leaves (head_of n)) (W.types (gives_of n)))
    node_typed x ls ls' n at (plain _ _ _ h e e') =
        let inner = x ++ W.entry (head_of n) ∷ [] in
        made x ls ls' n at (leaf_fits x ls' (head_of n) (form W.from ls (head_of n)) (takes_of n) (gives_of n) (new (first_of n) inner) (new (second_of n) inner) h (ap (λ l. new l inner) e) (ap (λ l. new l inner) e'))
    node_typed x ls ls' n at (block _ _ _ label end f inside ends e') =
        let inner = x ++ W.entry (head_of n) ∷ [] in
        let body : NewBody W x ls' (head_of n) label (new (first_of n) inner) (takes_of n) (gives_of n) = record {
          end = ending end;
          typed = code_typed inner (label ∷ ls) (W.inside x (head_of n) label ls') (first_of n) (takes_of n) end (enter.enters x ls ls' (head_of n) label at) inside;
          ends = ends_as end (gives_of n) ends;
        } in
        made x ls ls' n at (subst (λ g. Fits W.from (NewBody W x ls' (head_of n)) g (takes_of n) (gives_of n) (new (first_of n) inner) (new (second_of n) inner)) (sym f) (refl, refl, refl, body, ap (λ l. new l inner) e'))
    node_typed x ls ls' n at (choice _ _ _ label takes end end' f t inside ends inside' ends') =
        let inner = x ++ W.entry (head_of n) ∷ [] in
        let at' = enter.enters x ls ls' (head_of n) label at in
        let body : NewBody W x ls' (head_of n) label (new (first_of n) inner) takes (gives_of n) = record {
          end = ending end;
          typed = code_typed inner (label ∷ ls) (W.inside x (head_of n) label ls') (first_of n) takes end at' inside;
          ends = ends_as end (gives_of n) ends;
        } in
        let body' : NewBody W x ls' (head_of n) label (new (second_of n) inner) takes (gives_of n) = record {
          end = ending end';
          typed = code_typed inner (label ∷ ls) (W.inside x (head_of n) label ls') (second_of n) takes end' at' inside';
          ends = ends_as end' (gives_of n) ends';
        } in
        made x ls ls' n at (subst (λ g. Fits W.from (NewBody W x ls' (head_of n)) g (takes_of n) (gives_of n) (new (first_of n) inner) (new (second_of n) inner)) (sym f) (t, refl, refl, refl, body, body'))

    -- rewritten code is typed
    pub code_typed : (x : List E) (ls ls' : List (List Ty)) (nodes : List Node) (start : List Ty) (end : Option (List Ty)) → W.At x ls ls' → TypedNodes W.from ls nodes start end → TypedNodes W.into ls' (new nodes x) (W.types start) (ending end)
    code_typed x ls ls' _ _ _ at (none _ _ stack) = none W.into ls' (W.types stack)
    code_typed x ls ls' _ _ _ at (more _ _ n rest below end' typed stays code) =
        let first = node_typed x ls ls' n at typed in
        let under = over W.into ls' (W.types below) (rewrite W.entry W.layer n x) (W.types (takes_of n)) (after (leaves (head_of n)) (W.types (gives_of n))) first in
        let stands : option_map (λ s. W.types below ++ s) (after (leaves (head_of n)) (W.types (gives_of n))) ≡ Some (W.types below ++ W.types (gives_of n)) = ap (option_map (λ s. W.types below ++ s)) (some_after (leaves (head_of n)) (W.types (gives_of n)) stays) in
        let behind : TypedNodes W.into ls' (new rest x) (W.types below ++ W.types (gives_of n)) (ending end') = subst (λ s. TypedNodes W.into ls' (new rest x) s (ending end')) (W.types_append below (gives_of n)) (code_typed x ls ls' rest (below ++ gives_of n) end' at code) in
        subst (λ s. TypedNodes W.into ls' (rewrite W.entry W.layer n x ++ new rest x) s (ending end')) (sym (W.types_append below (takes_of n)))
        (join W.into ls' (rewrite W.entry W.layer n x) (new rest x) (W.types below ++ W.types (takes_of n)) (W.types below ++ W.types (gives_of n)) (ending end') (option_map (λ s. W.types below ++ s) (after (leaves (head_of n)) (W.types (gives_of n)))) under stands behind)
    code_typed x ls ls' _ _ _ at (last _ _ n below typed left) =
        let first = node_typed x ls ls' n at typed in
        let under = over W.into ls' (W.types below) (rewrite W.entry W.layer n x) (W.types (takes_of n)) (after (leaves (head_of n)) (W.types (gives_of n))) first in
        let nowhere : option_map (λ s. W.types below ++ s) (after (leaves (head_of n)) (W.types (gives_of n))) ≡ None = ap (option_map (λ s. W.types below ++ s)) (none_after (leaves (head_of n)) (W.types (gives_of n)) left) in
        subst (λ l. TypedNodes W.into ls' l (W.types (below ++ takes_of n)) None) (sym (append-nil (rewrite W.entry W.layer n x)))
        (subst (λ s. TypedNodes W.into ls' (rewrite W.entry W.layer n x) s None) (sym (W.types_append below (takes_of n)))
        (subst (λ e. TypedNodes W.into ls' (rewrite W.entry W.layer n x) (W.types below ++ W.types (takes_of n)) e) nowhere under))
