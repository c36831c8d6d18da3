-- Numbers in the ranges of their types. In definitions a number is any whole number, so that what a run of 1.0 shows has to
-- be said to be below 2 ^ 32 or 2 ^ 64.
use Rattle.std.specs.Prelude.{◌≡◌, ℕ, ◌<◌, ◌≤◌, ◌^◌, Bool, true, ◌&&◌, nat_lt, List}
use Rattle.std.specs.List.{AllByRecursion, list_all}
use Rattle.host_kit.specs.Fits1.{ScriptFits1}
use Rattle.host_kit.specs.Trace.{events}
use Rattle.host_kit.specs.declared.event.Event.{Event}
use Rattle.host_kit.specs.declared.event.Event.TheVariants as told
use Rattle.host_kit.specs.declared.script.Script.{Script}
use Rattle.host_kit.specs.declared.value.Value.{Value}
use Rattle.host_kit.specs.declared.value.Value.TheVariants as values
use Rattle.core1_ast.specs.Spaces.{all_memories}
use Rattle.core1_ast.specs.declared.module.op.Op1.{Op1}
use Rattle.core1_ast.specs.declared.module.op.Op1.TheVariants as ops
use Rattle.core1_ast.specs.declared.module.code.Instr1.{Instr1}
use Rattle.core1_ast.specs.declared.module.code.Instr1.TheOpen.{Instr1-F}
use Rattle.core1_ast.specs.declared.module.code.Instr1.TheFolds.{fold-Instr1}
use Rattle.core1_ast.specs.declared.module.parts.Segment1.{Segment1}
use Rattle.core1_ast.specs.declared.module.parts.Module1.{Module1}
use Rattle.meaning_core1.specs.Runs.{trace1}

-- an integer that a host and a module of 1.0 hand to each other; there are no other values
abbrev pub IsInRange : Value → Type 0
IsInRange (values.I32 i) = i < 2 ^ 32
IsInRange (values.I64 i) = i < 2 ^ 64
IsInRange _ = ⊥

abbrev pub AreInRange : List Value → Type 0
AreInRange vs = AllByRecursion IsInRange vs

-- the values of an event
abbrev pub EventInRange : Event → Type 0
EventInRange (told.HostCall x arguments globals) = AreInRange arguments × AreInRange globals
EventInRange (told.Returned i results globals) = AreInRange results × AreInRange globals
EventInRange (told.Trapped i globals) = AreInRange globals
EventInRange (told.Uncaught i tag payload globals) = AreInRange payload × AreInRange globals
EventInRange _ = Unit {0}

-- a constant in the range of its type, as a test
abbrev pub op_in_range : Op1 → Bool
op_in_range (ops.I32Const i) = nat_lt i (2 ^ 32)
op_in_range (ops.I64Const i) = nat_lt i (2 ^ 64)
op_in_range _ = true

-- the constants of an instruction, those in its bodies too
abbrev pub all_true : List Bool → Bool
all_true tests = list_all (λ b. b) tests

abbrev pub range_step : Instr1-F Bool → Bool
range_step (Instr1-F.Pure op) = op_in_range op
range_step (Instr1-F.Block t code) = all_true code
range_step (Instr1-F.Loop t code) = all_true code
range_step (Instr1-F.If t first second) = all_true first && all_true second
range_step _ = true

abbrev pub is_in_range : Instr1 → Bool
is_in_range = fold-Instr1 Bool range_step

-- the constants of code, at every depth
abbrev pub are_in_range : List Instr1 → Bool
are_in_range code = list_all is_in_range code

abbrev pub CodeInRange : List Instr1 → Type 0
CodeInRange code = are_in_range code ≡ true

-- bytes
abbrev pub AreBytes : List ℕ → Type 0
AreBytes bytes = AllByRecursion (λ b. b < 2 ^ 8) bytes

pub record SegmentInRange (d : Segment1) : Type 0 where
  pub offset : CodeInRange d.offset
  pub bytes : AreBytes d.bytes

-- the numbers of a module: its constants, its bytes and the least sizes of its memories in pages
pub record NumbersInRange (m : Module1) : Type 0 where
  pub codes : AllByRecursion (λ b. CodeInRange b.code) m.codes
  pub globals : AllByRecursion (λ g. CodeInRange g.init) m.globals
  pub elems : AllByRecursion (λ e. CodeInRange e.offset) m.elems
  pub datas : AllByRecursion SegmentInRange m.datas
  pub memories : AllByRecursion (λ l. l.min ≤ 2 ^ 16) (all_memories m)

-- under a script that fits, what a run shows lies in the ranges of its types
abbrev pub RunsShowNumbersInRange : Type 0
RunsShowNumbersInRange = (m : Module1) (s : Script) → NumbersInRange m → ScriptFits1 m s → (n : ℕ) → AllByRecursion EventInRange (events (trace1 m s n))
