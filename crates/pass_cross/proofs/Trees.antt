-- Typed trees that show no feature but typed selects, by induction: what they stand for crosses, and is typed in 1.0.
use Rattle.std.proofs.Common.{◌≡◌, ◌^◌, Bool, true, false, ◌&&◌, ◌||◌, nat_lt, List, [], ◌∷◌, ◌++◌, map, length, Option, Some, None, refl, sym, ap, ◌∙◌, subst, append_assoc}
use Rattle.std.specs.List.{list_any, list_all}
use Rattle.std.proofs.lemmas.List.{map-append, length-map}
use Rattle.std.proofs.lemmas.Bool.{ltb-true}
use Rattle.wasm_ast.specs.declared.features.kind.Feature.{Feature}
use Rattle.wasm_ast.specs.declared.features.kind.Feature.TheVariants as features
use Rattle.wasm_ast.specs.declared.module.ty.Ty.{Ty}
use Rattle.wasm_ast.specs.declared.module.ty.Ty.TheVariants as types
use Rattle.wasm_ast.specs.declared.module.ty.BlockType.{BlockType}
use Rattle.wasm_ast.specs.declared.module.ty.BlockType.TheVariants as blocks
use Rattle.wasm_ast.specs.declared.module.ty.FuncType.{FuncType}
use Rattle.wasm_ast.specs.declared.module.code.Instr.{Instr, out-Instr, roll-Instr}
use Rattle.wasm_ast.specs.declared.module.code.Instr.TheOpen.{Instr-F}
use Rattle.wasm_ast.specs.declared.module.parts.Module.{Module}
use Rattle.wasm_ast.specs.Features.{type_shows, block_types, is_index, shows_itself, shows}
use Rattle.wasm_ast.specs.Occurrence.{head, inside, some, some_in}
use Rattle.core1_ast.specs.declared.module.ty.Ty1.{Ty1}
use Rattle.core1_ast.specs.declared.module.ty.Ty1.TheVariants as types1
use Rattle.core1_ast.specs.declared.module.ty.BlockType1.TheVariants as blocks1
use Rattle.core1_ast.specs.declared.module.ty.Limits1.{Limits1}
use Rattle.core1_ast.specs.declared.module.code.Instr1.{Instr1, roll-Instr1}
use Rattle.core1_ast.specs.declared.module.code.Instr1.TheOpen.{Instr1-F}
use Rattle.core1_ast.specs.declared.module.code.Instr1.TheFolds.{fold-roll-Instr1}
use Rattle.core1_ast.specs.Code as old
use Rattle.core1_ast.specs.Lengths.{IsShort}
use Rattle.typing_kit.specs.Form.{Untyped, Flat, Any, Select, Leaves, Table, Block, Choice}
use Rattle.typing_kit.specs.Leaf.{FitsLeaf}
use Rattle.typed_trees.specs.declared.node.Node.{Node}
use Rattle.typed_trees.specs.Contexts.{Context, block_type, one_result, is_value_type}
use Rattle.typed_trees.specs.Forms.{InstrForm, layer_form, where_some, block_form, loop_form, if_form, language}
use Rattle.typed_trees.specs.Trees.{first_body, second_body, with_bodies, leaves_layer, leaves, erase, erased, EndsAs, head_of, takes_of, gives_of, first_of, second_of, TypedNode, TypedNodes, plain, block, choice, none, more, last}
use Rattle.typed_trees.proofs.Erasing.{erase_out}
use Rattle.typed_trees.proofs.LeafTyped.{IsLeaving}
use Rattle.typed_trees.proofs.Leaving.{leaving_layer, IsStaying, staying_layer}
use Rattle.typed_trees.proofs.Refilled.{refill, refilled}
use Rattle.simulation_kit.specs.Fitting.{fits}
use Rattle.crossing.specs.Code.{is_integer, cross_type, cross_block, is_block, cross_instr, cross_code, bodies}
use Rattle.crossing.specs.Crossing.{AreIntegers, InstrCrosses}
use Rattle.crossing.proofs.Keeping.{all_append}
use Rattle.pass_cross.specs.Short.{is_short, is_short_body, short_step, is_short_inside, are_short_inside}
use Rattle.pass_cross.specs.Contexts.{cross_types, crossed_context}
use Rattle.pass_cross.proofs.Heads.{is_shown, Lacks, IsPlain, integer_of, leaf_crosses}
use Rattle.pass_cross.proofs.Gives.{leaf_gives}
use Rattle.pass_cross.proofs.Nodes.{or_left, or_right, and_left, and_right, LacksIn, lacks_here, lacks_inside, lacks_behind, lacks_first, lacks_second, CodeCrosses, layer_fits, bodies_code, instr_out}
use Rattle.pass_cross.proofs.Instructions.{TypedAs, crossed, layer_typed}

pub integer_typed : (t : Ty) → is_integer t ≡ true → old.TypedTy (cross_type t)
integer_typed types.I32 h = tt
integer_typed types.I64 h = tt
integer_typed t h = let no : ⊥ = cc in absurd no

pub all_mapped : (code : List Instr1) → list_all (λ b. b) (map is_short_inside code) ≡ are_short_inside code
all_mapped [] = refl
all_mapped (i ∷ code) = ap (λ b. is_short_inside i && b) (all_mapped code)

-- a body that is short, at every depth
record ShortBody (code : List Instr1) : Type 0 where
  short : IsShort code
  inside : are_short_inside code ≡ true

short_body : (code : List Instr1) → is_short_body (map is_short_inside code) ≡ true → ShortBody code
short_body code h = record {
  short = ltb-true (length code) (2 ^ 32) (ap (λ n. nat_lt n (2 ^ 32)) (sym (length-map code is_short_inside)) ∙ and_left (is_short (map is_short_inside code)) (list_all (λ b. b) (map is_short_inside code)) h);
  inside = sym (all_mapped code) ∙ and_right (is_short (map is_short_inside code)) (list_all (λ b. b) (map is_short_inside code)) h;
}

-- a form of a layer without bodies has none to fill
no_block : (f : InstrForm) (i : Instr) (label takes gives : List Ty) → f ≡ Block label takes gives [] → f ≡ refill f (i ∷ []) [] → ⊥
no_block f i label takes gives e q =
    let p : Block label takes gives [] ≡ Block label takes gives (i ∷ []) = sym e ∙ q ∙ ap (λ g. refill g (i ∷ []) []) e in cc

no_choice : (f : InstrForm) (i : Instr) (label takes gives : List Ty) → f ≡ Choice label takes gives [] [] → f ≡ refill f (i ∷ []) [] → ⊥
no_choice f i label takes gives e q =
    let p : Choice label takes gives [] [] ≡ Choice label takes gives (i ∷ []) [] = sym e ∙ q ∙ ap (λ g. refill g (i ∷ []) []) e in cc

abbrev nop : Instr
nop = roll-Instr Instr-F.Nop

if_no_block : (o : Option FuncType) (a b : List Instr) (label takes gives : List Ty) → where_some o (λ t. if_form t a b) ≡ Block label takes gives [] → ⊥
if_no_block None a b label takes gives e = cc
if_no_block (Some t) a b label takes gives e = cc

block_no_choice : (o : Option FuncType) (f : FuncType → InstrForm) (label takes gives : List Ty) → ((t : FuncType) → f t ≡ Choice label takes gives [] [] → ⊥) → where_some o f ≡ Choice label takes gives [] [] → ⊥
block_no_choice None f label takes gives h e = cc
block_no_choice (Some t) f label takes gives h e = h t e

module _ (m : Module) (c : Context) (simple : IsPlain c) (tables memories : List Limits1) (same_tables : length tables ≡ length c.tables) (same_memories : length memories ≡ length c.memories) where
  abbrev within : List (List Ty) → old.Context
  within ls = crossed_context c ls tables memories

  -- an instruction of 1.0 with such types; one that leaves is typed over any operands, with any behind it
  abbrev TypedOut : List (List Ty) → Instr1 → List Ty → List Ty → Bool → Type 0
  TypedOut ls i takes gives false = old.Typed (within ls) i (cross_types takes) (cross_types gives)
  TypedOut ls i takes gives true = (below after : List Ty1) → old.Typed (within ls) i (below ++ cross_types takes) after

  record Out (ls : List (List Ty)) (l : Instr-F Instr) (takes gives : List Ty) (leaving : Bool) : Type 0 where
    fits : InstrCrosses m (roll-Instr l)
    integers : AreIntegers gives
    typed : is_short_inside (crossed l) ≡ true → TypedOut ls (crossed l) takes gives leaving

  abbrev pub CodeTyped : List (List Ty) → List Instr → List Ty → List Ty → Type 0
  CodeTyped ls code s t = old.TypedCode (within ls) (cross_code code) (cross_types s) (cross_types t)

  pub record CodeOut (ls : List (List Ty)) (code : List Instr) (s : List Ty) (end : Option (List Ty)) : Type 0 where
    pub fits : CodeCrosses m code
    pub typed : are_short_inside (cross_code code) ≡ true → (t : List Ty) → EndsAs end t → CodeTyped ls code s t

  -- instructions without bodies
  abbrev As : List (List Ty) → Instr1 → InstrForm → Type 0
  As ls i f = TypedAs c simple tables memories same_tables same_memories ls i f

  stays_out : (ls : List (List Ty)) (i : Instr1) (f : InstrForm) (takes gives : List Ty) → IsStaying f → As ls i f → FitsLeaf (language c) f takes gives → old.Typed (within ls) i (cross_types takes) (cross_types gives)
  stays_out ls i Untyped takes gives q k h = absurd h
  stays_out ls i (Flat a b) takes gives q k h =
      subst (λ s. old.Typed (within ls) i (cross_types s) (cross_types gives)) (sym h.0) (subst (λ t. old.Typed (within ls) i (cross_types a) (cross_types t)) (sym h.1) k)
  stays_out ls i (Any kind b) takes gives q k h =
      subst (λ s. old.Typed (within ls) i (cross_types s) (cross_types gives)) (sym h.0.1) (subst (λ t. old.Typed (within ls) i (cross_type h.0.0 ∷ []) (cross_types t)) (sym h.1) (k h.0.0))
  stays_out ls i Select takes gives q k h =
      subst (λ s. old.Typed (within ls) i (cross_types s) (cross_types gives)) (sym h.1) (subst (λ t. old.Typed (within ls) i (cross_type h.0 ∷ (cross_type h.0 ∷ (types1.I32 ∷ []))) (cross_types t)) (sym h.2) (k h.0))
  stays_out ls i (Leaves a) takes gives q k h = absurd q
  stays_out ls i (Table l others) takes gives q k h = absurd q
  stays_out ls i (Block label a b code) takes gives q k h = absurd h
  stays_out ls i (Choice label a b first second) takes gives q k h = absurd h

  leaves_out : (ls : List (List Ty)) (i : Instr1) (f : InstrForm) (takes gives : List Ty) → IsLeaving (language c) f → As ls i f → FitsLeaf (language c) f takes gives → (below after : List Ty1) → old.Typed (within ls) i (below ++ cross_types takes) after
  leaves_out ls i (Leaves a) takes gives q k h below after = subst (λ s. old.Typed (within ls) i (below ++ cross_types s) after) (sym h.0) (k below after)
  leaves_out ls i (Table l others) takes gives q k h below after =
      subst (λ s. old.Typed (within ls) i (below ++ cross_types s) after) (sym h.1)
      (subst (λ s. old.Typed (within ls) i (below ++ s) after) (sym (map-append cross_type h.0 (types.I32 ∷ []))) (subst (λ s. old.Typed (within ls) i s after) (append_assoc below (cross_types h.0) (types1.I32 ∷ [])) (k h.0 h.3 h.4 below after)))
  leaves_out ls i Untyped takes gives q k h below after = absurd h
  leaves_out ls i (Flat a b) takes gives q k h below after = absurd q
  leaves_out ls i (Any kind b) takes gives q k h below after = absurd q
  leaves_out ls i Select takes gives q k h below after = absurd q
  leaves_out ls i (Block label a b code) takes gives q k h below after = absurd q
  leaves_out ls i (Choice label a b first second) takes gives q k h below after = absurd q

  some_no : (o : Option FuncType) (f : FuncType → InstrForm) (takes gives : List Ty) → ((t : FuncType) → FitsLeaf (language c) (f t) takes gives → ⊥) → FitsLeaf (language c) (where_some o f) takes gives → ⊥
  some_no None f takes gives h k = k
  some_no (Some t) f takes gives h k = h t k

  -- a layer that is a leaf has no bodies
  record IsLeaf (l : Instr-F Instr) : Type 0 where
    same : with_bodies l [] [] ≡ l
    first : CodeCrosses m (first_body l)
    second : CodeCrosses m (second_body l)

  is_leaf : (ls : List (List Ty)) (l : Instr-F Instr) (takes gives : List Ty) → FitsLeaf (language c) (layer_form c ls l) takes gives → Lacks (head (with_bodies l [] [])) → IsLeaf l
  unfolding type_shows
  is_leaf ls (Instr-F.Block t code) takes gives k h = absurd (some_no (block_type c t) (λ t. block_form t code) takes gives (λ t x. x) k)
  is_leaf ls (Instr-F.Loop t code) takes gives k h = absurd (some_no (block_type c t) (λ t. loop_form t code) takes gives (λ t x. x) k)
  is_leaf ls (Instr-F.If t first second) takes gives k h = absurd (some_no (block_type c t) (λ t. if_form t first second) takes gives (λ t x. x) k)
  is_leaf ls (Instr-F.TryTable t clauses code) takes gives k h = let no = h features.Exceptions refl in absurd cc
  is_leaf ls l takes gives k h = record { same = refl; first = tt; second = tt }

  leaf_whole : (ls : List (List Ty)) (l : Instr-F Instr) (takes gives : List Ty) → FitsLeaf (language c) (layer_form c ls l) takes gives → IsLeaf l → Lacks (head l) → AreIntegers takes → Out ls l takes gives (leaves_layer l)
  leaf_whole ls l takes gives k leaf h s =
      let own = leaf_crosses c simple ls l takes gives h k s in
      record {
        fits = layer_fits m l own leaf.first leaf.second;
        integers = leaf_gives c simple ls l takes gives own k s;
        typed = λ short. by_leaving (leaves_layer l) refl (layer_typed c simple tables memories same_tables same_memories ls l own short);
      }
    where
      by_leaving : (b : Bool) → leaves_layer l ≡ b → As ls (crossed l) (layer_form c ls l) → TypedOut ls (crossed l) takes gives b
      by_leaving false e q = stays_out ls (crossed l) (layer_form c ls l) takes gives (staying_layer c ls l e) q k
      by_leaving true e q = leaves_out ls (crossed l) (layer_form c ls l) takes gives (leaving_layer c ls l e) q k

  leaf_out : (ls : List (List Ty)) (l : Instr-F Instr) (takes gives : List Ty) → FitsLeaf (language c) (layer_form c ls l) takes gives → Lacks (head (with_bodies l [] [])) → AreIntegers takes → Out ls (with_bodies l [] []) takes gives (leaves_layer l)
  leaf_out ls l takes gives k h s =
      let leaf = is_leaf ls l takes gives k h in
      subst (λ x. Out ls x takes gives (leaves_layer l)) (sym leaf.same) (leaf_whole ls l takes gives k leaf (subst (λ x. Lacks (head x)) leaf.same h) s)

  -- blocks: what a form says of new bodies, and what follows
  abbrev BodyTyped : List (List Ty) → List Instr → List Instr → InstrForm → Type 0
  BodyTyped ls first second (Block label a b code) = CodeTyped (label ∷ ls) first a b
  BodyTyped ls first second (Choice label a b code other) = CodeTyped (label ∷ ls) first a b × CodeTyped (label ∷ ls) second a b
  BodyTyped ls first second _ = Unit {0}

  abbrev BlockGoal : List (List Ty) → Instr1 → InstrForm → Type 0
  BlockGoal ls i (Block label a b code) = old.Typed (within ls) i (cross_types a) (cross_types b)
  BlockGoal ls i (Choice label a b code other) = old.Typed (within ls) i (cross_types a ++ types1.I32 ∷ []) (cross_types b)
  BlockGoal ls i _ = Unit {0}

  abbrev BlockGives : InstrForm → Type 0
  BlockGives (Block label a b code) = AreIntegers b
  BlockGives (Choice label a b code other) = AreIntegers b
  BlockGives _ = Unit {0}

  -- the type of a block shows nothing
  abbrev Shown : BlockType → Type 0
  Shown t = (f : Feature) → is_shown f ≡ true → list_any (type_shows f) (block_types t) ≡ false

  shown_one : (u : Ty) → Shown (blocks.One u) → is_value_type u ≡ true → is_integer u ≡ true
  shown_one u h v = integer_of u v (λ f k. or_left (type_shows f u) false (h f k))

  one_gives : (u : Ty) (b : Bool) (f : FuncType → InstrForm) → ((v : is_value_type u ≡ true) → BlockGives (f (record { params = []; results = u ∷ [] }))) → is_value_type u ≡ b → BlockGives (where_some (one_result b u) f)
  one_gives u true f h e = h e
  one_gives u false f h e = tt

  block_gives : (t : BlockType) (f : FuncType → InstrForm) → ((t : FuncType) → AreIntegers t.results → BlockGives (f t)) → is_block t ≡ true → Shown t → BlockGives (where_some (block_type c t) f)
  block_gives blocks.Empty f k h s = k _ tt
  block_gives (blocks.One u) f k h s = one_gives u (is_value_type u) f (λ v. k (record { params = []; results = u ∷ [] }) (shown_one u s v, tt)) refl
  block_gives (blocks.Index x) f k h s = absurd cc

  -- a block, a loop and an if, by the type
  abbrev new_block : BlockType → List Instr → Instr1
  new_block t first = roll-Instr1 (Instr1-F.Block (cross_block t) (cross_code first))

  abbrev new_loop : BlockType → List Instr → Instr1
  new_loop t first = roll-Instr1 (Instr1-F.Loop (cross_block t) (cross_code first))

  abbrev new_if : BlockType → List Instr → List Instr → Instr1
  new_if t first second = roll-Instr1 (Instr1-F.If (cross_block t) (cross_code first) (cross_code second))

  block_typed : (ls : List (List Ty)) (t : BlockType) (code first second : List Instr) → is_block t ≡ true → Shown t → IsShort (cross_code first) → BodyTyped ls first second (where_some (block_type c t) (λ t. block_form t code)) → BlockGoal ls (new_block t first) (where_some (block_type c t) (λ t. block_form t code))
  unfolding roll-Instr1 denote.Hole.Carrier.roll
  block_typed ls blocks.Empty code first second h s short body = old.block (within ls) (new_block blocks.Empty first) blocks1.Empty (cross_code first) refl short tt body
  block_typed ls (blocks.One u) code first second h s short body = at (is_value_type u) refl body
    where
      at : (b : Bool) → is_value_type u ≡ b → BodyTyped ls first second (where_some (one_result b u) (λ t. block_form t code)) → BlockGoal ls (new_block (blocks.One u) first) (where_some (one_result b u) (λ t. block_form t code))
      at true e body = old.block (within ls) (new_block (blocks.One u) first) (blocks1.One (cross_type u)) (cross_code first) refl short (integer_typed u (shown_one u s e), tt) body
      at false e body = tt
  block_typed ls (blocks.Index x) code first second h s short body = absurd cc

  loop_typed : (ls : List (List Ty)) (t : BlockType) (code first second : List Instr) → is_block t ≡ true → Shown t → IsShort (cross_code first) → BodyTyped ls first second (where_some (block_type c t) (λ t. loop_form t code)) → BlockGoal ls (new_loop t first) (where_some (block_type c t) (λ t. loop_form t code))
  unfolding roll-Instr1 denote.Hole.Carrier.roll
  loop_typed ls blocks.Empty code first second h s short body = old.loop (within ls) (new_loop blocks.Empty first) blocks1.Empty (cross_code first) refl short tt body
  loop_typed ls (blocks.One u) code first second h s short body = at (is_value_type u) refl body
    where
      at : (b : Bool) → is_value_type u ≡ b → BodyTyped ls first second (where_some (one_result b u) (λ t. loop_form t code)) → BlockGoal ls (new_loop (blocks.One u) first) (where_some (one_result b u) (λ t. loop_form t code))
      at true e body = old.loop (within ls) (new_loop (blocks.One u) first) (blocks1.One (cross_type u)) (cross_code first) refl short (integer_typed u (shown_one u s e), tt) body
      at false e body = tt
  loop_typed ls (blocks.Index x) code first second h s short body = absurd cc

  if_typed : (ls : List (List Ty)) (t : BlockType) (code other first second : List Instr) → is_block t ≡ true → Shown t → IsShort (cross_code first) → IsShort (cross_code second) → BodyTyped ls first second (where_some (block_type c t) (λ t. if_form t code other)) → BlockGoal ls (new_if t first second) (where_some (block_type c t) (λ t. if_form t code other))
  unfolding roll-Instr1 denote.Hole.Carrier.roll
  if_typed ls blocks.Empty code other first second h s short short' body = old.choice (within ls) (new_if blocks.Empty first second) blocks1.Empty (cross_code first) (cross_code second) refl short short' tt body.0 body.1
  if_typed ls (blocks.One u) code other first second h s short short' body = at (is_value_type u) refl body
    where
      at : (b : Bool) → is_value_type u ≡ b → BodyTyped ls first second (where_some (one_result b u) (λ t. if_form t code other)) → BlockGoal ls (new_if (blocks.One u) first second) (where_some (one_result b u) (λ t. if_form t code other))
      at true e body = old.choice (within ls) (new_if (blocks.One u) first second) (blocks1.One (cross_type u)) (cross_code first) (cross_code second) refl short short' (integer_typed u (shown_one u s e), tt) body.0 body.1
      at false e body = tt
  if_typed ls (blocks.Index x) code other first second h s short short' body = absurd cc

  -- what a block shows beside its bodies
  shown_block : (t : BlockType) → ((f : Feature) → is_shown f ≡ true → (b : Bool) × ((b || list_any (type_shows f) (block_types t)) ≡ false)) → Shown t
  shown_block t h f k = let q = h f k in or_right q.0 (list_any (type_shows f) (block_types t)) q.1

  plain_block : (t : BlockType) (b : Bool) → (is_index t || b) ≡ false → is_block t ≡ true
  plain_block blocks.Empty b h = refl
  plain_block (blocks.One u) b h = refl
  plain_block (blocks.Index x) b h = absurd cc

  new_body : (code : List Instr) → ShortBody (bodies (map cross_instr code)) → ShortBody (cross_code code)
  new_body code h = subst ShortBody (bodies_code code) h

  -- a new body that is typed where it is short
  abbrev Inside : List (List Ty) → List Instr → List Ty → List Ty → Type 0
  Inside ls code s t = are_short_inside (cross_code code) ≡ true → CodeTyped ls code s t

  module _ (ls : List (List Ty)) (label takes gives : List Ty) (first : List Instr) (fits : CodeCrosses m first) (typed : Inside (label ∷ ls) first takes gives) where
    out_of_block : (l l' : Instr-F Instr) (i : Instr1) (f : InstrForm) → f ≡ Block label takes gives [] → InstrCrosses m (roll-Instr l') → BlockGives f → leaves_layer l ≡ false → crossed l' ≡ i
        → (is_short_inside (crossed l') ≡ true → ShortBody (cross_code first)) → (IsShort (cross_code first) → BodyTyped ls first [] f → BlockGoal ls i f) → Out ls l' takes gives (leaves_layer l)
    out_of_block l l' i f e whole integers stays same short goal = record {
      fits = whole;
      integers = subst BlockGives e integers;
      typed = λ s. let b = short s in
          subst (λ x. TypedOut ls (crossed l') takes gives x) (sym stays)
          (subst (λ x. old.Typed (within ls) x (cross_types takes) (cross_types gives)) (sym same) (subst (BlockGoal ls i) e (goal b.short (subst (BodyTyped ls first []) (sym e) (typed b.inside)))));
    }

    block_out : (l : Instr-F Instr) → layer_form c ls l ≡ Block label takes gives [] → Lacks (head (with_bodies l first [])) → Out ls (with_bodies l first []) takes gives (leaves_layer l)
    unfolding type_shows
    block_out (Instr-F.Block t code) e h =
        let own = plain_block t _ (h features.Multi refl) in
        let shown = shown_block t (λ f k. (shows_itself f (head (Instr-F.Block t first)), h f k)) in
        out_of_block (Instr-F.Block t code) (Instr-F.Block t first) (new_block t first) (where_some (block_type c t) (λ t. block_form t code)) e (layer_fits m (Instr-F.Block t first) own fits tt)
        (block_gives t (λ t. block_form t code) (λ t k. k) own shown) refl (ap (λ x. roll-Instr1 (Instr1-F.Block (cross_block t) x)) (bodies_code first))
        (λ s. new_body first (short_body (bodies (map cross_instr first)) (sym (fold-roll-Instr1 Bool short_step (Instr1-F.Block (cross_block t) (bodies (map cross_instr first)))) ∙ s)))
        (λ short body. block_typed ls t code first [] own shown short body)
    block_out (Instr-F.Loop t code) e h =
        let own = plain_block t _ (h features.Multi refl) in
        let shown = shown_block t (λ f k. (shows_itself f (head (Instr-F.Loop t first)), h f k)) in
        out_of_block (Instr-F.Loop t code) (Instr-F.Loop t first) (new_loop t first) (where_some (block_type c t) (λ t. loop_form t code)) e (layer_fits m (Instr-F.Loop t first) own fits tt)
        (block_gives t (λ t. loop_form t code) (λ t k. k) own shown) refl (ap (λ x. roll-Instr1 (Instr1-F.Loop (cross_block t) x)) (bodies_code first))
        (λ s. new_body first (short_body (bodies (map cross_instr first)) (sym (fold-roll-Instr1 Bool short_step (Instr1-F.Loop (cross_block t) (bodies (map cross_instr first)))) ∙ s)))
        (λ short body. loop_typed ls t code first [] own shown short body)
    block_out (Instr-F.If t code other) e h = absurd (if_no_block (block_type c t) code other label takes gives e)
    block_out (Instr-F.TryTable t clauses code) e h = let no = h features.Exceptions refl in absurd cc
    block_out l e h = absurd (no_block (layer_form c ls l) nop label takes gives e (refilled c ls l (nop ∷ []) []))

  module _ (ls : List (List Ty)) (label takes whole gives : List Ty) (over : whole ≡ takes ++ types.I32 ∷ []) (first second : List Instr) (fits : CodeCrosses m first) (fits' : CodeCrosses m second) (typed : Inside (label ∷ ls) first takes gives) (typed' : Inside (label ∷ ls) second takes gives) where
    both_short : (a b : List Instr) → (is_short_body (map is_short_inside (bodies (map cross_instr a))) && is_short_body (map is_short_inside (bodies (map cross_instr b)))) ≡ true → ShortBody (cross_code a) × ShortBody (cross_code b)
    both_short a b h =
        let x = is_short_body (map is_short_inside (bodies (map cross_instr a))) in
        let y = is_short_body (map is_short_inside (bodies (map cross_instr b))) in
        (new_body a (short_body (bodies (map cross_instr a)) (and_left x y h)), new_body b (short_body (bodies (map cross_instr b)) (and_right x y h)))

    choice_out : (l : Instr-F Instr) → layer_form c ls l ≡ Choice label takes gives [] [] → Lacks (head (with_bodies l first second)) → Out ls (with_bodies l first second) whole gives (leaves_layer l)
    unfolding type_shows
    choice_out (Instr-F.If t code other) e h =
        let own = plain_block t _ (h features.Multi refl) in
        let shown = shown_block t (λ f k. (shows_itself f (head (Instr-F.If t first second)), h f k)) in
        let form = where_some (block_type c t) (λ t. if_form t code other) in
        let same : crossed (Instr-F.If t first second) ≡ new_if t first second = ap (λ x. roll-Instr1 (Instr1-F.If (cross_block t) x (bodies (map cross_instr second)))) (bodies_code first) ∙ ap (λ x. roll-Instr1 (Instr1-F.If (cross_block t) (cross_code first) x)) (bodies_code second) in
        record {
          fits = layer_fits m (Instr-F.If t first second) own fits fits';
          integers = subst BlockGives e (block_gives t (λ t. if_form t code other) (λ t k. k) own shown);
          typed = λ s.
              let b = both_short first second (sym (fold-roll-Instr1 Bool short_step (Instr1-F.If (cross_block t) (bodies (map cross_instr first)) (bodies (map cross_instr second)))) ∙ s) in
              subst (λ x. old.Typed (within ls) x (cross_types whole) (cross_types gives)) (sym same)
              (subst (λ x. old.Typed (within ls) (new_if t first second) x (cross_types gives)) (sym (ap cross_types over ∙ map-append cross_type takes (types.I32 ∷ [])))
              (subst (BlockGoal ls (new_if t first second)) e (if_typed ls t code other first second own shown b.0.short b.1.short (subst (BodyTyped ls first second) (sym e) (typed b.0.inside, typed' b.1.inside)))));
        }
    choice_out (Instr-F.Block t code) e h = absurd (block_no_choice (block_type c t) (λ t. block_form t code) label takes gives (λ t q. cc) e)
    choice_out (Instr-F.Loop t code) e h = absurd (block_no_choice (block_type c t) (λ t. loop_form t code) label takes gives (λ t q. cc) e)
    choice_out (Instr-F.TryTable t clauses code) e h = let no = h features.Exceptions refl in absurd cc
    choice_out l e h = absurd (no_choice (layer_form c ls l) nop label takes gives e (refilled c ls l (nop ∷ []) []))

  -- a node, its bodies in it
  abbrev node_layer : Node → Instr-F Instr
  node_layer n = with_bodies (out-Instr (head_of n)) (erased (first_of n)) (erased (second_of n))

  abbrev NodeOut : List (List Ty) → Node → Type 0
  NodeOut ls n = Out ls (node_layer n) (takes_of n) (gives_of n) (leaves (head_of n))

  lacks_block : (ls : List (List Ty)) (label takes gives : List Ty) (l : Instr-F Instr) (a : List Instr) → layer_form c ls l ≡ Block label takes gives [] → LacksIn (inside (with_bodies l a [])) → LacksIn a
  lacks_block ls label takes gives (Instr-F.Block t code) a e h = h
  lacks_block ls label takes gives (Instr-F.Loop t code) a e h = h
  lacks_block ls label takes gives (Instr-F.If t code other) a e h = lacks_first a [] h
  lacks_block ls label takes gives (Instr-F.TryTable t clauses code) a e h = h
  lacks_block ls label takes gives l a e h = absurd (no_block (layer_form c ls l) nop label takes gives e (refilled c ls l (nop ∷ []) []))

  lacks_choice : (ls : List (List Ty)) (label takes gives : List Ty) (l : Instr-F Instr) (a b : List Instr) → layer_form c ls l ≡ Choice label takes gives [] [] → Lacks (head (with_bodies l a b)) → LacksIn (inside (with_bodies l a b)) → LacksIn a × LacksIn b
  unfolding type_shows
  lacks_choice ls label takes gives (Instr-F.If t code other) a b e k h = (lacks_first a b h, lacks_second a b h)
  lacks_choice ls label takes gives (Instr-F.Block t code) a b e k h = absurd (block_no_choice (block_type c t) (λ t. block_form t code) label takes gives (λ t q. cc) e)
  lacks_choice ls label takes gives (Instr-F.Loop t code) a b e k h = absurd (block_no_choice (block_type c t) (λ t. loop_form t code) label takes gives (λ t q. cc) e)
  lacks_choice ls label takes gives (Instr-F.TryTable t clauses code) a b e k h = let no = k features.Exceptions refl in absurd cc
  lacks_choice ls label takes gives l a b e k h = absurd (no_choice (layer_form c ls l) nop label takes gives e (refilled c ls l (nop ∷ []) []))

  -- types below others, and what they are
  below_integers : (a b : List Ty) → AreIntegers (a ++ b) → AreIntegers a × AreIntegers b
  below_integers [] b h = (tt, h)
  below_integers (t ∷ a) b h = let q = below_integers a b h.1 in ((h.0, q.0), q.1)

  lacks_node : (n : Node) → LacksIn (erase n ∷ []) → LacksIn (roll-Instr (node_layer n) ∷ [])
  lacks_node n h = subst (λ i. LacksIn (i ∷ [])) (erase_out n) h

  lacks_one : (i : Instr) (code : List Instr) → LacksIn (i ∷ code) → LacksIn (i ∷ [])
  lacks_one i code h f k = let q = or_left (some (shows f) i) (some_in (shows f) code) (h f k) in ap (λ b. b || false) q

  -- the code of a node, and its typing
  node_code : (n : Node) (nodes : List Node) → cross_code (erased (n ∷ nodes)) ≡ crossed (node_layer n) ∷ cross_code (erased nodes)
  node_code n nodes = ap (λ i. cross_instr i tt ++ cross_code (erased nodes)) (erase_out n) ∙ ap (λ l. l ++ cross_code (erased nodes)) (instr_out (node_layer n))

  short_here : (n : Node) (nodes : List Node) → are_short_inside (cross_code (erased (n ∷ nodes))) ≡ true → (is_short_inside (crossed (node_layer n)) ≡ true) × (are_short_inside (cross_code (erased nodes)) ≡ true)
  short_here n nodes h =
      let q = sym (ap are_short_inside (node_code n nodes)) ∙ h in
      (and_left (is_short_inside (crossed (node_layer n))) (are_short_inside (cross_code (erased nodes))) q, and_right (is_short_inside (crossed (node_layer n))) (are_short_inside (cross_code (erased nodes))) q)

  crosses_node : (ls : List (List Ty)) (n : Node) → NodeOut ls n → InstrCrosses m (erase n)
  crosses_node ls n o = subst (InstrCrosses m) (sym (erase_out n)) o.fits

  more_typed : (ls : List (List Ty)) (n : Node) (nodes : List Node) (below t : List Ty) → old.Typed (within ls) (crossed (node_layer n)) (cross_types (takes_of n)) (cross_types (gives_of n)) → CodeTyped ls (erased nodes) (below ++ gives_of n) t → CodeTyped ls (erased (n ∷ nodes)) (below ++ takes_of n) t
  more_typed ls n nodes below t one rest =
      subst (λ code. old.TypedCode (within ls) code (cross_types (below ++ takes_of n)) (cross_types t)) (sym (node_code n nodes))
      (subst (λ s. old.TypedCode (within ls) (crossed (node_layer n) ∷ cross_code (erased nodes)) s (cross_types t)) (sym (map-append cross_type below (takes_of n)))
      (old.more (within ls) (crossed (node_layer n)) (cross_code (erased nodes)) (cross_types below) (cross_types (takes_of n)) (cross_types (gives_of n)) (cross_types t) one
      (subst (λ s. old.TypedCode (within ls) (cross_code (erased nodes)) s (cross_types t)) (map-append cross_type below (gives_of n)) rest)))

  last_typed : (ls : List (List Ty)) (n : Node) (below t : List Ty) → ((under after : List Ty1) → old.Typed (within ls) (crossed (node_layer n)) (under ++ cross_types (takes_of n)) after) → CodeTyped ls (erased (n ∷ [])) (below ++ takes_of n) t
  last_typed ls n below t one =
      subst (λ code. old.TypedCode (within ls) code (cross_types (below ++ takes_of n)) (cross_types t)) (sym (node_code n []))
      (subst (λ s. old.TypedCode (within ls) (crossed (node_layer n) ∷ []) s (cross_types t)) (sym (map-append cross_type below (takes_of n)))
      (old.more (within ls) (crossed (node_layer n)) [] [] (cross_types below ++ cross_types (takes_of n)) (cross_types t) (cross_types t) (one (cross_types below) (cross_types t)) (old.none (within ls) (cross_types t))))

  mutual
    node_out : (ls : List (List Ty)) (n : Node) → TypedNode c ls n → LacksIn (erase n ∷ []) → AreIntegers (takes_of n) → NodeOut ls n
    node_out ls n (plain _ _ _ fits first second) h s =
        subst (λ a. Out ls (with_bodies (out-Instr (head_of n)) a (erased (second_of n))) (takes_of n) (gives_of n) (leaves (head_of n))) (sym (ap erased first))
        (subst (λ b. Out ls (with_bodies (out-Instr (head_of n)) [] b) (takes_of n) (gives_of n) (leaves (head_of n))) (sym (ap erased second))
        (leaf_out ls (out-Instr (head_of n)) (takes_of n) (gives_of n) fits
        (subst (λ b. Lacks (head (with_bodies (out-Instr (head_of n)) [] b))) (ap erased second) (subst (λ a. Lacks (head (with_bodies (out-Instr (head_of n)) a (erased (second_of n))))) (ap erased first) (lacks_here (node_layer n) [] (lacks_node n h)))) s))
    node_out ls n (block _ _ _ label end e inner ends second) h s =
        let none_second : erased (second_of n) ≡ [] = ap erased second in
        let lack = subst (λ b. LacksIn (roll-Instr (with_bodies (out-Instr (head_of n)) (erased (first_of n)) b) ∷ [])) none_second (lacks_node n h) in
        let l = with_bodies (out-Instr (head_of n)) (erased (first_of n)) [] in
        let body = nodes_out (label ∷ ls) (first_of n) (takes_of n) end inner (lacks_block ls label (takes_of n) (gives_of n) (out-Instr (head_of n)) (erased (first_of n)) e (lacks_inside l [] lack)) s in
        subst (λ b. Out ls (with_bodies (out-Instr (head_of n)) (erased (first_of n)) b) (takes_of n) (gives_of n) (leaves (head_of n))) (sym none_second)
        (block_out ls label (takes_of n) (gives_of n) (erased (first_of n)) body.fits (λ q. body.typed q (gives_of n) ends) (out-Instr (head_of n)) e (lacks_here l [] lack))
    node_out ls n (choice _ _ _ label takes first_end second_end e is first first_ends second second_ends) h s =
        let lack = lacks_node n h in
        let l = node_layer n in
        let here = lacks_here l [] lack in
        let lacks = lacks_choice ls label takes (gives_of n) (out-Instr (head_of n)) (erased (first_of n)) (erased (second_of n)) e here (lacks_inside l [] lack) in
        let ints = (below_integers takes (types.I32 ∷ []) (subst AreIntegers is s)).0 in
        let a = nodes_out (label ∷ ls) (first_of n) takes first_end first lacks.0 ints in
        let b = nodes_out (label ∷ ls) (second_of n) takes second_end second lacks.1 ints in
        choice_out ls label takes (takes_of n) (gives_of n) is (erased (first_of n)) (erased (second_of n)) a.fits b.fits (λ q. a.typed q (gives_of n) first_ends) (λ q. b.typed q (gives_of n) second_ends) (out-Instr (head_of n)) e here

    pub nodes_out : (ls : List (List Ty)) (ns : List Node) (s : List Ty) (end : Option (List Ty)) → TypedNodes c ls ns s end → LacksIn (erased ns) → AreIntegers s → CodeOut ls (erased ns) s end
    nodes_out ls _ _ _ (none _ _ stack) h s = record {
      fits = tt;
      typed = λ q t ends. subst (λ t. CodeTyped ls [] stack t) ends (old.none (within ls) (cross_types stack));
    }
    nodes_out ls _ _ _ (more _ _ n nodes below end typed stays rest) h s =
        let ints = below_integers below (takes_of n) s in
        let one = node_out ls n typed (lacks_one (erase n) (erased nodes) h) ints.1 in
        let others = nodes_out ls nodes (below ++ gives_of n) end rest (lacks_behind (erase n) (erased nodes) h) (all_append (λ t. is_integer t ≡ true) below (gives_of n) ints.0 one.integers) in
        record {
          fits = (crosses_node ls n one, others.fits);
          typed = λ q t ends.
              let short = short_here n nodes q in
              more_typed ls n nodes below t (subst (λ x. TypedOut ls (crossed (node_layer n)) (takes_of n) (gives_of n) x) stays (one.typed short.0)) (others.typed short.1 t ends);
        }
    nodes_out ls _ _ _ (last _ _ n below typed leaves_it) h s =
        let ints = below_integers below (takes_of n) s in
        let one = node_out ls n typed h ints.1 in
        record {
          fits = (crosses_node ls n one, tt);
          typed = λ q t ends.
              let short = short_here n [] q in
              last_typed ls n below t (subst (λ x. TypedOut ls (crossed (node_layer n)) (takes_of n) (gives_of n) x) leaves_it (one.typed short.0));
        }
