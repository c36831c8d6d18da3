-- Loads and stores of integers by their opcodes: chapter 5 of the standard, "Memory Instructions". Those of floats have
-- no row.
use Rattle.std.specs.Prelude.{ℕ, ◌==◌, List, [], ◌∷◌, Option}
use Rattle.std.specs.Map.{lookup}
use Rattle.num_core.specs.declared.operators.Load.{Load}
use Rattle.num_core.specs.declared.operators.Load.TheVariants as loads
use Rattle.num_core.specs.declared.operators.Store.{Store}
use Rattle.num_core.specs.declared.operators.Store.TheVariants as stores

-- loads of integers
unfoldable pub load_rows : List (ℕ × Load)
load_rows =
    (0x28, loads.I32) ∷
    (0x29, loads.I64) ∷
    (0x2C, loads.I32From8S) ∷
    (0x2D, loads.I32From8U) ∷
    (0x2E, loads.I32From16S) ∷
    (0x2F, loads.I32From16U) ∷
    (0x30, loads.I64From8S) ∷
    (0x31, loads.I64From8U) ∷
    (0x32, loads.I64From16S) ∷
    (0x33, loads.I64From16U) ∷
    (0x34, loads.I64From32S) ∷
    (0x35, loads.I64From32U) ∷
    []

-- the load in the row of an opcode
unfoldable pub load_of : ℕ → Option Load
load_of opcode = lookup (λ k. k == opcode) load_rows

-- stores of integers
unfoldable pub store_rows : List (ℕ × Store)
store_rows =
    (0x36, stores.I32) ∷
    (0x37, stores.I64) ∷
    (0x3A, stores.I32To8) ∷
    (0x3B, stores.I32To16) ∷
    (0x3C, stores.I64To8) ∷
    (0x3D, stores.I64To16) ∷
    (0x3E, stores.I64To32) ∷
    []

-- the store in the row of an opcode
unfoldable pub store_of : ℕ → Option Store
store_of opcode = lookup (λ k. k == opcode) store_rows
