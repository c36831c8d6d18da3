-- Numbers as bytes, the lowest first, and what the loads and stores of integers make of the bytes of a memory: chapter 4
-- of the standard, "Numerics", "Storage", and "Memory Instructions".
use Rattle.std.specs.Prelude.{ℕ, zero, suc, ◌+◌, ◌*◌, ◌/◌, ◌%◌, List, [], ◌∷◌}
use Rattle.num_core.specs.declared.operators.Load.{Load}
use Rattle.num_core.specs.declared.operators.Load.TheVariants as loads
use Rattle.num_core.specs.declared.operators.Store.{Store}
use Rattle.num_core.specs.Accesses.{store_bytes}
use Rattle.num_core.specs.Integers.{extend_signed}

-- the number that bytes make, and so many bytes of a number
abbrev pub from_bytes : List ℕ → ℕ
from_bytes [] = 0
from_bytes (b ∷ more) = b + 256 * from_bytes more

abbrev pub to_bytes : ℕ → ℕ → List ℕ
to_bytes zero i = []
to_bytes (suc k) i = i % 256 ∷ to_bytes k (i / 256)

-- the integer that a load makes of the bytes that it reads
abbrev pub loaded : Load → List ℕ → ℕ
loaded loads.I32 bytes = from_bytes bytes
loaded loads.I64 bytes = from_bytes bytes
loaded loads.I32From8S bytes = extend_signed 8 32 (from_bytes bytes)
loaded loads.I32From8U bytes = from_bytes bytes
loaded loads.I32From16S bytes = extend_signed 16 32 (from_bytes bytes)
loaded loads.I32From16U bytes = from_bytes bytes
loaded loads.I64From8S bytes = extend_signed 8 64 (from_bytes bytes)
loaded loads.I64From8U bytes = from_bytes bytes
loaded loads.I64From16S bytes = extend_signed 16 64 (from_bytes bytes)
loaded loads.I64From16U bytes = from_bytes bytes
loaded loads.I64From32S bytes = extend_signed 32 64 (from_bytes bytes)
loaded loads.I64From32U bytes = from_bytes bytes

-- the bytes that a store writes of an integer: its lowest
abbrev pub stored : Store → ℕ → List ℕ
stored op i = to_bytes (store_bytes op) i
