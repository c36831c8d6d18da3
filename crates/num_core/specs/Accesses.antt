-- What the loads and stores of integers move: chapter 3 of the standard, "Memory Instructions".
use Rattle.std.specs.Prelude.{ℕ}
use Rattle.num_core.specs.declared.operators.Width.{Width}
use Rattle.num_core.specs.declared.operators.Width.TheVariants.{W32, W64}
use Rattle.num_core.specs.declared.operators.Load.{Load}
use Rattle.num_core.specs.declared.operators.Load.TheVariants as loads
use Rattle.num_core.specs.declared.operators.Store.{Store}
use Rattle.num_core.specs.declared.operators.Store.TheVariants as stores

-- the width of the value of a load, and how many bytes it reads
abbrev pub load_width : Load → Width
load_width loads.I32 = W32
load_width loads.I64 = W64
load_width loads.I32From8S = W32
load_width loads.I32From8U = W32
load_width loads.I32From16S = W32
load_width loads.I32From16U = W32
load_width loads.I64From8S = W64
load_width loads.I64From8U = W64
load_width loads.I64From16S = W64
load_width loads.I64From16U = W64
load_width loads.I64From32S = W64
load_width loads.I64From32U = W64

abbrev pub load_bytes : Load → ℕ
load_bytes loads.I32 = 4
load_bytes loads.I64 = 8
load_bytes loads.I32From8S = 1
load_bytes loads.I32From8U = 1
load_bytes loads.I32From16S = 2
load_bytes loads.I32From16U = 2
load_bytes loads.I64From8S = 1
load_bytes loads.I64From8U = 1
load_bytes loads.I64From16S = 2
load_bytes loads.I64From16U = 2
load_bytes loads.I64From32S = 4
load_bytes loads.I64From32U = 4

-- the width of the value of a store, and how many bytes it writes
abbrev pub store_width : Store → Width
store_width stores.I32 = W32
store_width stores.I64 = W64
store_width stores.I32To8 = W32
store_width stores.I32To16 = W32
store_width stores.I64To8 = W64
store_width stores.I64To16 = W64
store_width stores.I64To32 = W64

abbrev pub store_bytes : Store → ℕ
store_bytes stores.I32 = 4
store_bytes stores.I64 = 8
store_bytes stores.I32To8 = 1
store_bytes stores.I32To16 = 2
store_bytes stores.I64To8 = 1
store_bytes stores.I64To16 = 2
store_bytes stores.I64To32 = 4
