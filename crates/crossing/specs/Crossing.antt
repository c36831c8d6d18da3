-- Of which modules of 3.0 the crossing speaks: those that need nothing of 3.0 but typed selects.
use Rattle.std.specs.Prelude.{◌≡◌, ℕ, Bool, true, false, nat_lt, List, [], ◌∷◌, ◌++◌, length, map, filter_map, Option, Some, None, refl}
use Rattle.host_kit.specs.Fits.{ScriptFits}
use Rattle.host_kit.specs.Offered.{all_globals}
use Rattle.host_kit.specs.declared.script.Script.{Script}
use Rattle.std.specs.List.{AllByRecursion}
use Rattle.wasm_ast.specs.declared.module.ty.Ty.{Ty}
use Rattle.wasm_ast.specs.declared.module.ty.FuncType.{FuncType}
use Rattle.wasm_ast.specs.Spaces.{global_import}
use Rattle.wasm_ast.specs.declared.module.ty.Limits.{Limits}
use Rattle.wasm_ast.specs.declared.module.parts.Global.{Global}
use Rattle.wasm_ast.specs.declared.module.op.Op.TheVariants as ops
use Rattle.wasm_ast.specs.declared.module.parts.Mode.{Mode}
use Rattle.wasm_ast.specs.declared.module.parts.Mode.TheVariants.{Active}
use Rattle.wasm_ast.specs.declared.module.parts.Element.{Element}
use Rattle.wasm_ast.specs.declared.module.parts.Segment.{Segment}
use Rattle.wasm_ast.specs.declared.module.parts.Table.{Table}
use Rattle.wasm_ast.specs.declared.module.code.Instr.{Instr, out-Instr}
use Rattle.wasm_ast.specs.declared.module.code.Instr.TheOpen.{Instr-F}
use Rattle.wasm_ast.specs.declared.module.code.Instr.TheFolds.{map-Instr}
use Rattle.wasm_ast.specs.declared.module.code.Body.{Body}
use Rattle.wasm_ast.specs.declared.module.parts.Module.{Module}
use Rattle.meaning_new.specs.Store.{Store, State}
use Rattle.meaning_new.specs.Instances.{new_state, place_segments, memory_import}
use Rattle.meaning_new.specs.Language.{language}
use Rattle.meaning_new.specs.Runs.{trace, depth}
use Rattle.meaning_core1.specs.Store.{Store1}
use Rattle.meaning_core1.specs.Instances.{new_state1, with_segments}
use Rattle.meaning_core1.specs.Runs.{trace1, depth1}
use Rattle.simulation_kit.specs.Fitting.{Test, Fits}
use Rattle.crossing.specs.Code.{is_integer, is_op, crosses}
use Rattle.crossing.specs.Modules.{cross}
use Rattle.crossing.specs.States.{cross_store, cross_state, StoreIsPlain}

pub crosses_over : (X Y : Type 0) (f : X → Y) (l : Instr-F X) → crosses Y (map-Instr X Y f l) ≡ crosses X l
crosses_over X Y f Instr-F.Nop = refl
crosses_over X Y f l = refl

-- code of which each instruction, however deep, is one that 1.0 has or a typed select
abbrev pub crossing_test : Test Instr-F map-Instr
crossing_test = record { own = crosses; own_over = crosses_over }

abbrev pub InstrCrosses : Module → Instr → Type 0
InstrCrosses m = Fits (language m) (λ x. true) crossing_test

-- types that name integers alone
abbrev pub AreIntegers : List Ty → Type 0
AreIntegers ts = AllByRecursion (λ t. is_integer t ≡ true) ts

pub record TypeCrosses (t : FuncType) : Type 0 where
  pub params : AreIntegers t.params
  pub results : AreIntegers t.results

pub record BodyCrosses (m : Module) (b : Body) : Type 0 where
  pub locals : AreIntegers b.locals
  pub code : AllByRecursion (InstrCrosses m) b.code

-- what the functions of a module rest on
pub record FunctionsCross (m : Module) : Type 0 where
  pub types : AllByRecursion TypeCrosses m.types
  pub codes : AllByRecursion (BodyCrosses m) m.codes

-- what becomes of both stores when segments are written: both fail, or the one is the image of the other
abbrev pub StoresAgree : Option Store → Option Store1 → Type 0
StoresAgree None None = Unit {0}
StoresAgree (Some s) (Some s') = (s' ≡ cross_store s) × StoreIsPlain s
StoresAgree _ _ = ⊥

-- the state in which a run without bounds begins
abbrev pub first_state : Module → Script → State
first_state m script = new_state (λ sizes. true) (λ k. true) false m script

-- what instantiation rests on
pub record InstantiationCrosses (m : Module) (script : Script) : Type 0 where
  pub begins : new_state1 (cross m) script ≡ cross_state (first_state m script)
  pub segments : StoresAgree (place_segments m (first_state m script).store) (with_segments (cross m) (new_state1 (cross m) script).store)

-- The law of the crossing: the run of the module of 1.0 shows what that of the module of 3.0 shows within as many turns,
-- and has as many calls open at once, at most.
pub record CrossedRuns (m : Module) (script : Script) (n : ℕ) : Type 0 where
  pub trace : trace1 (cross m) script n ≡ trace m script n
  pub depth : depth1 (cross m) script n ≡ depth m script n

-- Constant expressions that 1.0 has: constants, and globals below a number.
abbrev pub is_constant : ℕ → Instr-F Instr → Bool
is_constant k (Instr-F.GlobalGet x) = nat_lt x k
is_constant k (Instr-F.Pure op) = is_op op
is_constant k _ = false

abbrev pub ConstantCrosses : ℕ → List Instr → Type 0
ConstantCrosses k code = AllByRecursion (λ i. is_constant k (out-Instr i) ≡ true) code

-- how many globals are imported
abbrev pub imported_globals : Module → ℕ
imported_globals m = length (filter_map (λ i. global_import i.desc) m.imports)

-- what the globals, memories and tables of a module rest on: constants read imported globals alone, addresses have 32
-- bits, and no table has an initialiser
pub record PartsCross (m : Module) : Type 0 where
  pub globals : AllByRecursion (λ (g : Global). ConstantCrosses (imported_globals m) g.init) m.globals
  pub memories : AllByRecursion (λ (l : Limits). l.wide ≡ false) (filter_map (λ i. memory_import i.desc) m.imports ++ m.memories)
  pub tables : AllByRecursion (λ (t : Table). t.init ≡ None) m.tables

-- an item of an element segment that refers to a function
abbrev pub is_reference : Instr-F Instr → Bool
is_reference (Instr-F.Pure (ops.RefFunc f)) = true
is_reference _ = false

abbrev pub is_item : List Instr → Bool
is_item (i ∷ []) = is_reference (out-Instr i)
is_item _ = false

-- an active segment
abbrev pub ModeCrosses : ℕ → Mode → Type 0
ModeCrosses k (Active x offset) = ConstantCrosses k offset
ModeCrosses k _ = ⊥

-- an element segment that is not active asks for nothing
abbrev pub ItemsCross : ℕ → List (List Instr) → Mode → Type 0
ItemsCross k codes (Active x offset) = ConstantCrosses k offset × AllByRecursion (λ code. is_item code ≡ true) codes
ItemsCross k codes _ = Unit {0}

abbrev pub ElementCrosses : ℕ → Element → Type 0
ElementCrosses k e = ItemsCross k e.items e.mode

-- items of active element segments refer to functions, and data segments are active
pub record SegmentsCross (m : Module) : Type 0 where
  pub elems : AllByRecursion (ElementCrosses (imported_globals m)) m.elems
  pub datas : AllByRecursion (λ (d : Segment). ModeCrosses (imported_globals m) d.mode) m.datas

-- the types of all globals
pub record GlobalsCross (m : Module) : Type 0 where
  pub imported : AreIntegers (filter_map (λ i. global_import i.desc) m.imports)
  pub all : AreIntegers (map (λ g. g.ty) (all_globals m))

-- A module that needs nothing of 3.0 but typed selects, part by part.
pub record Crosses (m : Module) : Type 0 where
  pub functions : FunctionsCross m
  pub globals : GlobalsCross m
  pub parts : PartsCross m
  pub segments : SegmentsCross m

-- Every script that fits such a module: the crossed module does the same.
abbrev pub CrossesRuns : Type 0
CrossesRuns = (m : Module) (script : Script) (n : ℕ) → Crosses m → ScriptFits m script → CrossedRuns m script n
