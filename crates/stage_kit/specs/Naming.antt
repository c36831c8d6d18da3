-- What runs keep by themselves, where code names functions that are there: no value refers to another function, wherever it
-- lies, and globals are neither added nor removed.
use Rattle.std.specs.Prelude.{◌≡◌, ℕ, ◌+◌, ◌<◌, true, List, map, filter_map, length, Option, Some, None}
use Rattle.std.specs.List.{AllByRecursion}
use Rattle.host_kit.specs.declared.script.Act.{Act}
use Rattle.host_kit.specs.declared.script.Act.TheVariants.{Set}
use Rattle.host_kit.specs.declared.script.Reply.{Reply}
use Rattle.wasm_ast.specs.Spaces.{func_indices, global_import}
use Rattle.wasm_ast.specs.declared.module.code.Instr.{Instr, out-Instr}
use Rattle.wasm_ast.specs.declared.module.parts.Mode.{Mode}
use Rattle.wasm_ast.specs.declared.module.parts.Mode.TheVariants.{Active}
use Rattle.wasm_ast.specs.declared.module.parts.Module.{Module}
use Rattle.meaning_new.specs.declared.val.Val.{Val}
use Rattle.meaning_new.specs.declared.val.Val.TheVariants.{Func}
use Rattle.meaning_new.specs.Store.{Store, State, from_host}
use Rattle.stage_kit.specs.Adding.{Names, own_named}

module _ (names : Names) (globals : ℕ) where
  -- a value that refers to no function, or to one that is named
  abbrev pub ValNamed : Val → Type 0
  ValNamed (Func x) = names.func x ≡ true
  ValNamed _ = Unit {0}

  abbrev pub AllNamed : List Val → Type 0
  AllNamed l = AllByRecursion ValNamed l

  -- what a host sets and replies
  abbrev pub ActNamed : Act → Type 0
  ActNamed (Set name v) = ValNamed (from_host v)
  ActNamed _ = Unit {0}

  abbrev pub ReplyNamed : Reply → Type 0
  ReplyNamed reply = AllNamed (map from_host reply.values) × AllByRecursion ActNamed reply.acts

  -- a store, and a state
  pub record StoreNamed (s : Store) : Type 0 where
    pub count : length s.globals ≡ globals
    pub globals_named : AllNamed s.globals
    pub tables : AllByRecursion (λ t. AllNamed t.entries) s.tables
    pub elems : AllByRecursion AllNamed s.elems
    pub exceptions : AllByRecursion (λ x. AllNamed x.payload) s.exceptions

  pub record StateNamed (s : State) : Type 0 where
    pub store : StoreNamed s.store
    pub replies : AllByRecursion (λ l. AllByRecursion ReplyNamed l) s.replies

-- a constant expression, and one that there may be or not
abbrev pub ConstantNamed : Names → List Instr → Type 0
ConstantNamed names code = AllByRecursion (λ i. own_named names Instr (out-Instr i) ≡ true) code

abbrev pub InitNamed : Names → Option (List Instr) → Type 0
InitNamed names None = Unit {0}
InitNamed names (Some code) = ConstantNamed names code

abbrev pub ModeNamed : Names → Mode → Type 0
ModeNamed names (Active x offset) = ConstantNamed names offset
ModeNamed names _ = Unit {0}

abbrev pub StartNamed : Names → Option ℕ → Type 0
StartNamed names None = Unit {0}
StartNamed names (Some x) = names.func x ≡ true

-- A module whose functions are all named, with so many globals.
pub record ModuleNamed (m : Module) (names : Names) (globals : ℕ) : Type 0 where
  pub count : length (filter_map (λ i. global_import i.desc) m.imports) + length m.globals ≡ globals
  pub funcs : (x : ℕ) → x < length (func_indices m) → names.func x ≡ true
  pub start : StartNamed names m.start
  pub inits : AllByRecursion (λ g. ConstantNamed names g.init) m.globals
  pub entries : AllByRecursion (λ t. InitNamed names t.init) m.tables
  pub items : AllByRecursion (λ e. AllByRecursion (ConstantNamed names) e.items) m.elems
  pub elem_modes : AllByRecursion (λ e. ModeNamed names e.mode) m.elems
  pub data_modes : AllByRecursion (λ d. ModeNamed names d.mode) m.datas
