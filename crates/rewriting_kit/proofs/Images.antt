-- Each type becomes the list of types that it is mapped to. The context of the output lists those in place of it, and what
-- had an index in the input has another one.
use Rattle.std.proofs.Common.{◌≡◌, true, ℕ, zero, suc, ◌+◌, List, [], ◌∷◌, ◌++◌, map, take, length, Some, option_map, slice_get, refl, sym, ap, ◌∙◌, append-nil, arith}
use Rattle.std.specs.List.{flat_map}
use Rattle.std.proofs.lemmas.List.{length-append}
use Rattle.std.proofs.lemmas.List.Concat.{flat_map-append}
use Rattle.std.proofs.lemmas.Option.{slice_get-map}
use Rattle.wasm_ast.specs.declared.module.ty.Ty.{Ty}
use Rattle.wasm_ast.specs.declared.module.ty.Ty.TheVariants.{I32}
use Rattle.wasm_ast.specs.declared.module.ty.BlockType.{BlockType}
use Rattle.typed_trees.specs.declared.global_type.GlobalType.{GlobalType}
use Rattle.typed_trees.specs.Contexts.{Context, block_type, is_value_type}
use Rattle.rewriting_kit.specs.Moving.{TypeMap, Indices, mapped_type, Alone, MovedContext}
use Rattle.rewriting_kit.proofs.Joining.{some_same}

-- what stands behind other items
pub get_behind : {X : Type 0} (a b : List X) (k : ℕ) → slice_get (a ++ b) (length a + k) ≡ slice_get b k
get_behind [] b k =
    let e : 0 + k ≡ k = omega arith in
    ap (slice_get b) e
get_behind (x ∷ a) b k =
    let e : suc (length a) + k ≡ suc (length a + k) = omega arith in
    ap (slice_get (x ∷ (a ++ b))) e ∙ get_behind a b k

-- an item that becomes one item
pub placed_item : {X Y : Type 0} (g : X → List Y) (l : List X) (x : ℕ) (a : X) (b : Y) → slice_get l x ≡ Some a → g a ≡ b ∷ [] → slice_get (flat_map g l) (length (flat_map g (take x l))) ≡ Some b
placed_item g [] x a b e alone = absurd cc
placed_item g (s ∷ l) zero a b e alone = ap (λ r. slice_get (r ++ flat_map g l) 0) (ap g (some_same s a e) ∙ alone)
placed_item g (s ∷ l) (suc x) a b e alone =
    ap (λ k. slice_get (g s ++ flat_map g l) k) (length-append (g s) (flat_map g (take x l)))
    ∙ get_behind (g s) (flat_map g l) (length (flat_map g (take x l))) ∙ placed_item g l x a b e alone

pub map_there : {X Y : Type 0} (f : X → Y) (l : List X) (x : ℕ) (a : X) → slice_get l x ≡ Some a → slice_get (map f l) x ≡ Some (f a)
map_there f l x a e = slice_get-map f l x ∙ ap (option_map f) e

module _ (image : Ty → List Ty) (condition : image I32 ≡ I32 ∷ []) where
  abbrev pub by_image : TypeMap
  by_image = record {
    over = λ ts. flat_map image ts;
    over_none = refl;
    over_append = λ a b. flat_map-append image a b;
    over_condition = append-nil (image I32) ∙ condition;
  }

  -- a type that is mapped to itself
  pub alone : (t : Ty) → image t ≡ t ∷ [] → Alone by_image t
  alone t e = append-nil (image t) ∙ e

  abbrev pub image_globals : GlobalType → List GlobalType
  image_globals g = map (λ t. record { ty = t; mutable = g.mutable }) (image g.ty)

  abbrev pub image_context : Context → Context
  image_context c = record c {
    types = map (mapped_type by_image) c.types;
    globals = flat_map image_globals c.globals;
    locals = flat_map image c.locals;
    returns = option_map (λ ts. flat_map image ts) c.returns;
  }

  -- by the types of blocks that had one result
  abbrev pub image_indices : (Ty → BlockType) → Context → Indices
  image_indices block c = record {
    block = block;
    type = λ x. x;
    func = λ x. x;
    tag = λ x. x;
    table = λ x. x;
    elem = λ x. x;
    memory = λ x. x;
    segment = λ x. x;
    global = λ x. length (flat_map image_globals (take x c.globals));
    local = λ x. length (flat_map image (take x c.locals));
  }

  -- the image of a context is one that the front door asks for
  pub image_moved : (block : Ty → BlockType) (c : Context) → ((t : Ty) → is_value_type t ≡ true → block_type (image_context c) (block t) ≡ Some (record { params = []; results = image t }))
      → MovedContext by_image (image_indices block c) c (image_context c)
  image_moved block c blocks = record {
    blocks = λ t v. blocks t v ∙ ap (λ l. Some (record { params = []; results = l })) (sym (append-nil (image t)));
    types = λ x t e. map_there (mapped_type by_image) c.types x t e;
    funcs = λ x t e. e;
    tags = λ x t e. e;
    tables = λ x t e. e;
    elems = λ x t e. e;
    memories = λ x l e. e;
    datas = λ x e. e;
    globals = λ x g e one. placed_item image_globals c.globals x g g e (ap (map (λ t. record { ty = t; mutable = g.mutable })) (sym (append-nil (image g.ty)) ∙ one));
    refs = λ x e. e;
    locals = λ x t e one. placed_item image c.locals x t t e (sym (append-nil (image t)) ∙ one);
    returns = λ ts e. ap (option_map (λ l. flat_map image l)) e;
  }
