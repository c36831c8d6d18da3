-- Instructions behind the prefix FD, by a number: chapter 5 of the standard, "Vector Instructions".
use Rattle.std.specs.Prelude.{ℕ, ◌==◌, ◌||◌, Bool, List, Option, Some, None}
use Rattle.std.specs.Int.{from_le_bytes, w128}
use Rattle.lane_core.specs.declared.vector.V.{V}
use Rattle.lane_core.specs.declared.operators.named.LaneOp.{LaneOp}
use Rattle.lane_core.specs.declared.operators.named.LaneOp.TheVariants.{Load, Store, LoadLane, StoreLane, Const, Shuffle, Splat, Extract, Replace, Bitselect, One, Two, Shift, Test}
use Rattle.wasm_ast.specs.declared.module.immediates.FloatCode.TheVariants.{Vector}
use Rattle.wasm_ast.specs.declared.module.immediates.FloatImmediates.TheVariants as with
use Rattle.wasm_ast.specs.declared.module.op.Op.TheVariants as ops
use Rattle.wasm_ast.specs.declared.module.code.Instr.{Instr}
use Rattle.wasm_ast.specs.declared.module.code.Instr.TheVariants.{Float, Pure, LoadVector, StoreVector, LoadLane as LaneLoaded, StoreLane as LaneStored}
use Rattle.grammar_kit.specs.Form.{Form, never, always, byte, raw, when, ◌>>=◌}
use Rattle.wasm_frame.specs.Leb128.{u32}
use Rattle.simd_table.specs.Codes.{name_of}
use Rattle.code_new.specs.Immediates.{mem_arg}
use Rattle.opcode_table.specs.Floats.{between}

-- 16 bytes as a vector, the lowest first
abbrev pub vector_from : List ℕ → V
vector_from bytes = record { 0 = from_le_bytes w128 bytes }

-- a vector instruction with its immediates
unfoldable pub lane_instr : LaneOp → Form Instr
lane_instr (Load op) = mem_arg >>= λ at. always (LoadVector op at)
lane_instr Store = mem_arg >>= λ at. always (StoreVector at)
lane_instr (LoadLane shape) = mem_arg >>= λ at. byte >>= λ lane. always (LaneLoaded shape at lane)
lane_instr (StoreLane shape) = mem_arg >>= λ at. byte >>= λ lane. always (LaneStored shape at lane)
lane_instr Const = raw 16 >>= λ bytes. always (Pure (ops.V128Const (vector_from bytes)))
lane_instr Shuffle = raw 16 >>= λ places. always (Pure (ops.Shuffle places))
lane_instr (Splat shape) = always (Pure (ops.Splat shape))
lane_instr (Extract op) = byte >>= λ lane. always (Pure (ops.Extract op lane))
lane_instr (Replace shape) = byte >>= λ lane. always (Pure (ops.Replace shape lane))
lane_instr Bitselect = always (Pure ops.Bitselect)
lane_instr (One op) = always (Pure (ops.Lanes1 op))
lane_instr (Two op) = always (Pure (ops.Lanes2 op))
lane_instr (Shift op) = always (Pure (ops.ShiftLanes op))
lane_instr (Test op) = always (Pure (ops.TestLanes op))

-- instructions on lanes of floats: those that name a lane, and those without immediates
unfoldable pub names_float_lane : ℕ → Bool
names_float_lane n = between 31 34 n

unfoldable pub is_float_lanes : ℕ → Bool
is_float_lanes n =
    between 19 20 n || between 65 76 n || between 94 95 n || between 103 106 n || between 116 117 n || n == 122 || n == 148
    || between 224 225 n || between 227 237 n || between 239 255 n

unfoldable pub float_lanes : ℕ → Form Instr
float_lanes n =
    when (names_float_lane n) (byte >>= λ lane. always (Float (Vector n) (with.Lane lane)))
    (when (is_float_lanes n) (always (Float (Vector n) with.None)) never)

abbrev pub named_or_float : Option LaneOp → ℕ → Form Instr
named_or_float (Some op) n = lane_instr op
named_or_float None n = float_lanes n

unfoldable pub behind_fd : Form Instr
behind_fd = u32 >>= λ n. named_or_float (name_of n) n
