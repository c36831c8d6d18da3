-- What a stage from 3.0 to 3.0 adds to a module, behind what is there, and what it leaves alone. Operands and locals stay,
-- and so does the state but for the globals that are added.
use Rattle.std.specs.Prelude.{◌≡◌, ℕ, ◌≤◌, Bool, true, false, List, ◌++◌, length, set, slice_index_or, refl}
use Rattle.wasm_ast.specs.declared.module.code.Instr.{Instr}
use Rattle.wasm_ast.specs.declared.module.code.Instr.TheOpen.{Instr-F}
use Rattle.wasm_ast.specs.declared.module.code.Instr.TheFolds.{map-Instr}
use Rattle.wasm_ast.specs.declared.module.op.Op.{Op}
use Rattle.wasm_ast.specs.declared.module.op.Op.TheVariants.{RefFunc}
use Rattle.wasm_ast.specs.declared.module.parts.Module.{Module}
use Rattle.wasm_ast.specs.declared.module.ty.BlockType.{BlockType}
use Rattle.wasm_ast.specs.declared.module.ty.BlockType.TheVariants.{Index}
use Rattle.outcome_kit.specs.Code.{Go, Leave}
use Rattle.evaluation_kit.specs.Configurations.{Plain, PlainRes}
use Rattle.simulation_kit.specs.Keeping.{Keeping, Holds, FormKeeps}
use Rattle.simulation_kit.specs.Likenesses.{Likeness}
use Rattle.simulation_kit.specs.Fitting.{Test, Fits}
use Rattle.meaning_new.specs.declared.val.Val.{Val}
use Rattle.meaning_new.specs.Store.{Store, State, missing}
use Rattle.meaning_new.specs.Forms.{type_of_block, type_of_tag, layer, pick}
use Rattle.meaning_new.specs.Language.{language}
use Rattle.host_kit.specs.Offered.{func_type}

-- Which functions, globals and types the code of the input may name.
pub record Names : Type 0 where
  pub func : ℕ → Bool
  pub global : ℕ → Bool
  pub type : ℕ → Bool

-- a block type, and an operator, whose indices are named
abbrev pub block_named : Names → BlockType → Bool
block_named names (Index x) = names.type x
block_named names _ = true

abbrev pub op_named : Names → Op → Bool
op_named names (RefFunc x) = names.func x
op_named names _ = true

-- what an instruction names beside the function that it calls
abbrev pub own_named : Names → (X : Type 0) → Instr-F X → Bool
own_named names X (Instr-F.Block t code) = block_named names t
own_named names X (Instr-F.Loop t code) = block_named names t
own_named names X (Instr-F.If t first second) = block_named names t
own_named names X (Instr-F.TryTable t clauses code) = block_named names t
own_named names X (Instr-F.CallIndirect t table) = names.type t
own_named names X (Instr-F.ReturnCall f) = names.func f
own_named names X (Instr-F.ReturnCallIndirect t table) = names.type t
own_named names X (Instr-F.GlobalGet x) = names.global x
own_named names X (Instr-F.GlobalSet x) = names.global x
own_named names X (Instr-F.Pure op) = op_named names op
own_named names X _ = true

pub own_named_over : (names : Names) (X Y : Type 0) (f : X → Y) (l : Instr-F X) → own_named names Y (map-Instr X Y f l) ≡ own_named names X l
own_named_over names X Y f Instr-F.Nop = refl
own_named_over names X Y f l = refl

-- what code names: what each instruction does, and the functions that are called
abbrev pub test_of : Names → Test Instr-F map-Instr
test_of names = record { own = own_named names; own_over = own_named_over names }

abbrev pub CodeNamed : Module → Names → Instr → Type 0
CodeNamed m names = Fits (language m) names.func (test_of names)

-- the store, and the state, with more globals behind its own
abbrev pub more_store : List Val → Store → Store
more_store extra s = record s { globals = s.globals ++ extra }

abbrev pub more : List Val → State → State
more extra s = record s { store = more_store extra s.store }

-- what the output runs on, and what it comes to
abbrev pub moved : List Val → Plain Val State → Plain Val State
moved extra p = record p { state = more extra p.state }

abbrev pub moved_result : List Val → PlainRes Val State → PlainRes Val State
moved_result extra (Go p) = Go (moved extra p)
moved_result extra (Leave jump p) = Leave jump (moved extra p)

-- What is added to m in o; frames and places are those of a matching.
pub record Adding (m o : Module) : Type 1 where
  pub exact : Bool
  pub frames : ℕ
  pub more_frames : ℕ
  pub spare : ℕ
  pub frames_some : 1 ≤ frames
  pub spare_within : spare ≤ more_frames
  pub Place : Type 0
  pub Around : Place → Place → Type 0
  pub names : Names
  -- how many globals the input has, and what the added globals hold
  pub Count : ℕ → Type 0
  pub Extra : List Val → Type 0
  -- globals that are named lie before those that are added
  pub reads : (globals extra : List Val) (x : ℕ) → Count (length globals) → Extra extra → names.global x ≡ true → slice_index_or (globals ++ extra) x missing ≡ slice_index_or globals x missing
  pub writes : (globals extra : List Val) (x : ℕ) (v : Val) → Count (length globals) → Extra extra → names.global x ≡ true → set (globals ++ extra) x v ≡ set globals x v ++ extra
  -- types that are named, of blocks or by their index, of functions that are named, and of tags are the same
  pub block_types : (t : BlockType) → block_named names t ≡ true → type_of_block o t ≡ type_of_block m t
  pub func_types : (x : ℕ) → names.func x ≡ true → func_type o x ≡ func_type m x
  pub tag_types : (x : ℕ) → type_of_tag o x ≡ type_of_tag m x
  -- what runs of the input keep by themselves
  pub keeps : Keeping Val State
  pub counted : (s : State) → keeps.Safe s → Count (length s.store.globals)
  pub name : (f : ℕ) → names.func f ≡ true → keeps.Named f
  pub keeps_forms : (X : Type 0) (l : Instr-F X) → own_named names X l ≡ true → FormKeeps keeps (layer m X l)
  -- an entry of a table picks the same function
  pub picks : (t table : ℕ) (extra : List Val) (q : Plain Val State) → names.type t ≡ true → Holds keeps q → pick o t table (moved extra q) ≡ pick m t table q

module _ {m o : Module} (A : Adding m o) where
  -- the state of the output has more globals
  pub record Behind (s s' : State) : Type 0 where
    pub extra : List Val
    pub is_extra : A.Extra extra
    pub is_more : s' ≡ more extra s

  -- what is alike stays but for these
  abbrev pub added : Likeness Val State Val State
  added = record {
    exact = A.exact;
    strict = false;
    frames = A.frames;
    more_frames = A.more_frames;
    spare = A.spare;
    frames_some = A.frames_some;
    spare_within = A.spare_within;
    Place = A.Place;
    Around = A.Around;
    values = λ l. l;
    take_values = λ n l. refl;
    drop_values = λ n l. refl;
    append_values = λ a b. refl;
    reverse_values = λ l. refl;
    keeps = A.keeps;
    index = λ f. f;
    States = Behind;
    Ends = Behind;
    states_end = λ s s' h. h;
  }

  -- a plain instruction that does the same with more globals behind
  pub record Moves (act act' : Plain Val State → PlainRes Val State) : Type 0 where
    pub moves : (extra : List Val) (q : Plain Val State) → Holds A.keeps q → A.Extra extra → act' (moved extra q) ≡ moved_result extra (act q)
