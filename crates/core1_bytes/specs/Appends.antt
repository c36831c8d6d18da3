-- What a writer does: it appends bytes that spell a value.
use Rattle.std.specs.Prelude.{◌≡◌, ℕ, ◌<◌, ◌^◌, replicate, List, [], ◌∷◌, ◌++◌, length, Option, MatchOption}
use Rattle.core1_ast.specs.declared.module.ty.Ty1.{Ty1}
use Rattle.core1_ast.specs.declared.module.op.Op1.{Op1}
use Rattle.core1_ast.specs.declared.module.op.Op1.TheVariants.{I32Const, I64Const}
use Rattle.core1_ast.specs.declared.module.code.Instr1.{Instr1}
use Rattle.core1_ast.specs.declared.module.code.Instr1.TheVariants as instrs
use Rattle.core1_ast.specs.declared.module.code.Body1.{Body1}
use Rattle.core1_ast.specs.declared.module.ty.BlockType1.{BlockType1}
use Rattle.core1_ast.specs.declared.module.parts.ExportDesc1.{ExportDesc1}
use Rattle.core1_ast.specs.declared.module.parts.ExportDesc1.TheVariants as exports
use Rattle.nested_code.specs.declared.token.Token.TheVariants.{Plain, Open}
use Rattle.core1_ast.specs.Typing.{Context, Typed, TypedCode}
use Rattle.grammar_kit.specs.Form.{Form, vector}
use Rattle.nested_code.specs.Nesting.{Tokens, Flat, Flats}
use Rattle.wasm_frame.specs.Frame.{section}
use Rattle.wasm_frame.specs.Leb128.{u32, s32, s64}
use Rattle.core1_bytes.specs.declared.body.LocalGroup1.{LocalGroup1}
use Rattle.core1_bytes.specs.declared.head.Head1.{Head1}
use Rattle.core1_bytes.specs.declared.head.Head1.TheVariants as heads
use Rattle.core1_bytes.specs.Types.{block_type}
use Rattle.core1_bytes.specs.Instructions.{mem_arg}
use Rattle.core1_bytes.specs.Tokens.{Token1, token, has_arms, build}
use Rattle.core1_bytes.specs.Bodies.{locals_of}
use Rattle.core1_bytes.specs.Parts.{export_desc}

-- new is old with bytes behind it of which P holds
pub record AppendsBy (P : List ℕ → Type 0) (old new : List ℕ) : Type 0 where
  pub bytes : List ℕ
  pub appended : new ≡ old ++ bytes
  pub spells : P bytes

-- the bytes spell a value by a form
abbrev pub Appends : {X : Type 0} → Form X → List ℕ → List ℕ → X → Type 0
Appends f old new x = AppendsBy (λ b. f.text b x) old new

-- bytes of which one fact holds, and then bytes of which another does
abbrev pub Both : (List ℕ → Type 0) → (List ℕ → Type 0) → List ℕ → Type 0
Both P Q b = (t : List ℕ) × (u : List ℕ) × (b ≡ t ++ u) × P t × Q u

-- an instruction that holds no code and is none on floats
abbrev pub IsPlain : Instr1 → Type 0
IsPlain instrs.Unreachable = Unit {0}
IsPlain instrs.Nop = Unit {0}
IsPlain (instrs.Br l) = Unit {0}
IsPlain (instrs.BrIf l) = Unit {0}
IsPlain (instrs.BrTable ls last) = Unit {0}
IsPlain instrs.Return = Unit {0}
IsPlain (instrs.Call x) = Unit {0}
IsPlain (instrs.CallIndirect t) = Unit {0}
IsPlain instrs.Drop = Unit {0}
IsPlain instrs.Select = Unit {0}
IsPlain (instrs.LocalGet x) = Unit {0}
IsPlain (instrs.LocalSet x) = Unit {0}
IsPlain (instrs.LocalTee x) = Unit {0}
IsPlain (instrs.GlobalGet x) = Unit {0}
IsPlain (instrs.GlobalSet x) = Unit {0}
IsPlain (instrs.Load op at) = Unit {0}
IsPlain (instrs.Store op at) = Unit {0}
IsPlain instrs.MemorySize = Unit {0}
IsPlain instrs.MemoryGrow = Unit {0}
IsPlain (instrs.Pure op) = Unit {0}
IsPlain _ = ⊥

-- the constant behind the opcode of an instruction that touches no state; others have none
abbrev pub Constant : Op1 → List ℕ → Type 0
Constant (I32Const n) b = s32.text b n
Constant (I64Const n) b = s64.text b n
Constant _ b = b ≡ []

-- the immediates behind the opcode of an instruction that holds no code and is none on floats
abbrev pub Immediates : Instr1 → List ℕ → Type 0
Immediates (instrs.Br l) b = u32.text b l
Immediates (instrs.BrIf l) b = u32.text b l
Immediates (instrs.BrTable ls last) b = Both (λ t. (vector u32 u32).text t ls) (λ u. u32.text u last) b
Immediates (instrs.Call x) b = u32.text b x
Immediates (instrs.CallIndirect t) b = Both (λ c. u32.text c t) (λ z. z ≡ 0x00 ∷ []) b
Immediates (instrs.LocalGet x) b = u32.text b x
Immediates (instrs.LocalSet x) b = u32.text b x
Immediates (instrs.LocalTee x) b = u32.text b x
Immediates (instrs.GlobalGet x) b = u32.text b x
Immediates (instrs.GlobalSet x) b = u32.text b x
Immediates (instrs.Load op at) b = mem_arg.text b at
Immediates (instrs.Store op at) b = mem_arg.text b at
Immediates instrs.MemorySize b = b ≡ 0x00 ∷ []
Immediates instrs.MemoryGrow b = b ≡ 0x00 ∷ []
Immediates (instrs.Pure op) b = Constant op b
Immediates _ b = b ≡ []

-- behind this byte the immediates spell the instruction
pub record Begins (i : Instr1) (k : ℕ) : Type 0 where
  pub spells : (b : List ℕ) → Immediates i b → token.text (k ∷ b) (Plain i)

-- the type of what holds code
abbrev pub block_type_of : Head1 → BlockType1
block_type_of (heads.Block t) = t
block_type_of (heads.Loop t) = t
block_type_of (heads.If t) = t

-- behind this byte the type spells what holds code
pub record Opens (h : Head1) (k : ℕ) : Type 0 where
  pub spells : (b : List ℕ) → block_type.text b (block_type_of h) → token.text (k ∷ b) (Open h)

-- the index of what is exported, among its kind
abbrev pub export_index : ExportDesc1 → ℕ
export_index (exports.Func x) = x
export_index (exports.Table x) = x
export_index (exports.Memory x) = x
export_index (exports.Global x) = x

-- behind this byte the index spells what is exported
pub record Exports (d : ExportDesc1) (k : ℕ) : Type 0 where
  pub spells : (b : List ℕ) → u32.text b (export_index d) → export_desc.text (k ∷ b) d

-- tokens that are an instruction, or code
pub record Spelling (Flattens : List Token1 → Type 0) (b : List ℕ) : Type 0 where
  pub tokens : List Token1
  pub flat : Flattens tokens
  pub spelled : Tokens token b tokens

abbrev pub AppendsInstr : List ℕ → List ℕ → Instr1 → Type 0
AppendsInstr old new i = AppendsBy (Spelling (Flat has_arms build i)) old new

abbrev pub AppendsCode : List ℕ → List ℕ → List Instr1 → Type 0
AppendsCode old new code = AppendsBy (Spelling (Flats has_arms build code)) old new

-- an instruction, and code, that some context types
pub record IsTypedInstr (i : Instr1) : Type 0 where
  pub context : Context
  pub takes : List Ty1
  pub gives : List Ty1
  pub typed : Typed context i takes gives

pub record IsTypedCode (code : List Instr1) : Type 0 where
  pub context : Context
  pub before : List Ty1
  pub after : List Ty1
  pub typed : TypedCode context code before after

-- the locals of groups, and those of a last group behind them
abbrev pub declared : List LocalGroup1 → LocalGroup1 → List Ty1
declared groups last = locals_of groups ++ replicate last.count last.ty

-- a body whose code some context types, and that declares fewer than 2 ^ 32 locals
pub record IsWrittenBody (b : Body1) : Type 0 where
  pub code : IsTypedCode b.code
  pub locals : length b.locals < 2 ^ 32

-- the section of an id was appended, with a payload of which Q holds; or it was left out, where P holds
pub record AppendsSection (id : ℕ) (P : Type 0) (Q : List ℕ → Type 0) (old new : List ℕ) : Type 0 where
  pub payload : Option (List ℕ)
  pub whole : AppendsBy (λ b. MatchOption payload (b ≡ []) (λ p. section.text b (record { id = id; payload = p }))) old new
  pub content : MatchOption payload P Q
