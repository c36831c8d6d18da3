-- A module with more behind adds to what is there, and leaves it alone.
use Rattle.std.proofs.Common.{◌≡◌, ℕ, zero, suc, ◌<◌, ◌≤◌, Bool, true, List, [], ◌∷◌, ◌++◌, length, Option, Some, None, refl, sym, ap, ◌∙◌, subst, arith, le_refl}
use Rattle.std.specs.Prelude.{nat_lt, set, slice_get, slice_index_or, option_and_then, if◌then◌else◌}
use Rattle.std.proofs.lemmas.Bool.{ltb-true}
use Rattle.host_kit.specs.Offered.{func_type}
use Rattle.wasm_ast.specs.Spaces.{func_indices}
use Rattle.wasm_ast.specs.declared.module.parts.Module.{Module}
use Rattle.wasm_ast.specs.declared.module.ty.BlockType.{BlockType}
use Rattle.wasm_ast.specs.declared.module.ty.BlockType.TheVariants as blocks
use Rattle.wasm_ast.specs.declared.module.ty.FuncType.{FuncType}
use Rattle.evaluation_kit.specs.Configurations.{Plain}
use Rattle.simulation_kit.specs.Keeping.{Holds}
use Rattle.meaning_new.specs.declared.val.Val.{Val}
use Rattle.meaning_new.specs.Store.{State, missing}
use Rattle.meaning_new.specs.Interface.{tag_indices}
use Rattle.meaning_new.specs.Numeric.{first}
use Rattle.meaning_new.specs.Forms.{type_of_block, type_of_tag, function_of, same_type, of_type, pick}
use Rattle.stage_kit.specs.Adding.{Names, block_named, moved, Adding}
use Rattle.stage_kit.specs.Appended.{Appended, names_of}
use Rattle.stage_kit.proofs.Lists.{IfAny, all_get}
use Rattle.stage_kit.proofs.Naming.{naming}
use Rattle.stage_kit.proofs.NamingForms.{form_keeps, entry_named}

-- what lies before the end of the first list is the same with more behind
module _ {A : Type 0} where
  pub get_append : (l more : List A) (x : ℕ) → x < length l → slice_get (l ++ more) x ≡ slice_get l x
  get_append [] more x lt = let no : ⊥ = omega arith in absurd no
  get_append (a ∷ l) more zero lt = refl
  get_append (a ∷ l) more (suc x) lt = let less : x < length l = omega arith in get_append l more x less

  pub index_append : (missing : A) (l more : List A) (x : ℕ) → x < length l → slice_index_or (l ++ more) x missing ≡ slice_index_or l x missing
  index_append missing [] more x lt = let no : ⊥ = omega arith in absurd no
  index_append missing (a ∷ l) more zero lt = refl
  index_append missing (a ∷ l) more (suc x) lt = let less : x < length l = omega arith in index_append missing l more x less

  pub set_append : (l more : List A) (x : ℕ) (v : A) → x < length l → set (l ++ more) x v ≡ set l x v ++ more
  set_append [] more x v lt = let no : ⊥ = omega arith in absurd no
  set_append (a ∷ l) more zero v lt = refl
  set_append (a ∷ l) more (suc x) v lt = let less : x < length l = omega arith in ap (λ r. a ∷ r) (set_append l more x v less)

  -- items that an index names, if it names one
  then_append : (l more : List A) (i : Option ℕ) → IfAny (λ t. t < length l) i → option_and_then (slice_get (l ++ more)) i ≡ option_and_then (slice_get l) i
  then_append l more None h = refl
  then_append l more (Some x) h = get_append l more x h

pub named_below : (x n k : ℕ) → k ≡ n → nat_lt x n ≡ true → x < k
named_below x n k e h = let lt : x < n = ltb-true x n h in subst (λ i. x < i) (sym e) lt

module _ {m o : Module} (h : Appended m o) (globals : ℕ) where
  abbrev pub names : Names
  names = names_of m globals

  pub types_same : (x : ℕ) → names.type x ≡ true → slice_get o.types x ≡ slice_get m.types x
  types_same x named = ap (λ (l : List FuncType). slice_get l x) h.types ∙ get_append m.types h.more_types x (ltb-true x (length m.types) named)

  pub block_types : (t : BlockType) → block_named names t ≡ true → type_of_block o t ≡ type_of_block m t
  block_types blocks.Empty named = refl
  block_types (blocks.One t) named = refl
  block_types (blocks.Index x) named = types_same x named

  pub func_types : (x : ℕ) → names.func x ≡ true → func_type o x ≡ func_type m x
  func_types x named =
      ap (λ (l : List FuncType). option_and_then (slice_get l) (slice_get (func_indices o) x)) h.types
      ∙ ap (λ (l : List ℕ). option_and_then (slice_get (m.types ++ h.more_types)) (slice_get l x)) h.funcs
      ∙ ap (option_and_then (slice_get (m.types ++ h.more_types))) (get_append (func_indices m) h.more_funcs x (ltb-true x (length (func_indices m)) named))
      ∙ then_append m.types h.more_types (slice_get (func_indices m) x) (all_get (λ t. t < length m.types) (func_indices m) x h.funcs_typed)

  pub tag_types : (x : ℕ) → type_of_tag o x ≡ type_of_tag m x
  tag_types x =
      ap (λ (l : List FuncType). option_and_then (slice_get l) (slice_get (tag_indices o) x)) h.types
      ∙ ap (λ (l : List ℕ). option_and_then (slice_get (m.types ++ h.more_types)) (slice_get l x)) h.tags
      ∙ then_append m.types h.more_types (slice_get (tag_indices m) x) (all_get (λ t. t < length m.types) (tag_indices m) x h.tags_typed)

  -- the entry of a table refers to a function that both have
  pub picks : (t table : ℕ) (extra : List Val) (q : Plain Val State) → names.type t ≡ true → Holds (naming names globals) q → pick o t table (moved extra q) ≡ pick m t table q
  picks t table extra q named holds = typed (option_and_then function_of (option_and_then (λ i. slice_get i.entries (first q.operands)) (slice_get q.state.store.tables table))) (entry_named names globals m table q holds)
    where
      typed : (i : Option ℕ) → IfAny (λ f. names.func f ≡ true) i → option_and_then (of_type o t) i ≡ option_and_then (of_type m t) i
      typed None k = refl
      typed (Some f) k =
          ap (λ u. if same_type u (slice_get o.types t) then Some f else None) (func_types f k)
          ∙ ap (λ u. if same_type (func_type m f) u then Some f else None) (types_same t named)

  -- What such a module adds: the globals behind are like Extra, and at most so many calls more are open, of which some are
  -- left wherever code runs.
  abbrev pub appending_within : Bool → (spare more_frames : ℕ) → spare ≤ more_frames → (Place : Type 0) → (Place → Place → Type 0) → (List Val → Type 0) → Adding m o
  appending_within exact spare more_frames within Place Around Extra = record {
    exact = exact;
    frames = 1;
    more_frames = more_frames;
    spare = spare;
    frames_some = le_refl 1;
    spare_within = within;
    Place = Place;
    Around = Around;
    names = names;
    Count = λ n. n ≡ globals;
    Extra = Extra;
    reads = λ l extra x count is named. index_append missing l extra x (named_below x globals (length l) count named);
    writes = λ l extra x v count is named. set_append l extra x v (named_below x globals (length l) count named);
    block_types = block_types;
    func_types = func_types;
    tag_types = tag_types;
    keeps = naming names globals;
    counted = λ s safe. safe.store.count;
    name = λ f named. named;
    keeps_forms = form_keeps names globals m;
    picks = picks;
  }

  -- all of them are left
  abbrev pub appending : Bool → ℕ → (Place : Type 0) → (Place → Place → Type 0) → (List Val → Type 0) → Adding m o
  appending exact spare Place Around Extra = appending_within exact spare spare (le_refl spare) Place Around Extra
