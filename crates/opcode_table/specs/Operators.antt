-- Operators on integers by their opcodes: chapter 5 of the standard, "Numeric Instructions". A row is an opcode and its
-- operator. Constants have no row, nor have instructions on floats.
use Rattle.std.specs.Prelude.{ℕ, ◌==◌, List, [], ◌∷◌, ◌++◌, Option}
use Rattle.std.specs.Map.{lookup}
use Rattle.num_core.specs.declared.operators.Width.TheVariants.{W32, W64}
use Rattle.num_core.specs.declared.operators.Cmp.TheVariants as cmps
use Rattle.num_core.specs.declared.operators.Un.TheVariants as uns
use Rattle.num_core.specs.declared.operators.Bin.TheVariants as bins
use Rattle.num_core.specs.declared.operators.Conv.TheVariants as convs
use Rattle.opcode_table.specs.declared.int_op.IntOp.{IntOp}
use Rattle.opcode_table.specs.declared.int_op.IntOp.TheVariants.{Eqz, Compare, Unary, Binary, Convert}

-- tests, comparisons and operators on i32
unfoldable pub operators_32 : List (ℕ × IntOp)
operators_32 =
    (0x45, Eqz W32) ∷
    (0x46, Compare W32 cmps.Eq) ∷
    (0x47, Compare W32 cmps.Ne) ∷
    (0x48, Compare W32 cmps.LtS) ∷
    (0x49, Compare W32 cmps.LtU) ∷
    (0x4A, Compare W32 cmps.GtS) ∷
    (0x4B, Compare W32 cmps.GtU) ∷
    (0x4C, Compare W32 cmps.LeS) ∷
    (0x4D, Compare W32 cmps.LeU) ∷
    (0x4E, Compare W32 cmps.GeS) ∷
    (0x4F, Compare W32 cmps.GeU) ∷
    (0x67, Unary W32 uns.Clz) ∷
    (0x68, Unary W32 uns.Ctz) ∷
    (0x69, Unary W32 uns.Popcnt) ∷
    (0x6A, Binary W32 bins.Add) ∷
    (0x6B, Binary W32 bins.Sub) ∷
    (0x6C, Binary W32 bins.Mul) ∷
    (0x6D, Binary W32 bins.DivS) ∷
    (0x6E, Binary W32 bins.DivU) ∷
    (0x6F, Binary W32 bins.RemS) ∷
    (0x70, Binary W32 bins.RemU) ∷
    (0x71, Binary W32 bins.And) ∷
    (0x72, Binary W32 bins.Or) ∷
    (0x73, Binary W32 bins.Xor) ∷
    (0x74, Binary W32 bins.Shl) ∷
    (0x75, Binary W32 bins.ShrS) ∷
    (0x76, Binary W32 bins.ShrU) ∷
    (0x77, Binary W32 bins.Rotl) ∷
    (0x78, Binary W32 bins.Rotr) ∷
    []

-- tests, comparisons and operators on i64
unfoldable pub operators_64 : List (ℕ × IntOp)
operators_64 =
    (0x50, Eqz W64) ∷
    (0x51, Compare W64 cmps.Eq) ∷
    (0x52, Compare W64 cmps.Ne) ∷
    (0x53, Compare W64 cmps.LtS) ∷
    (0x54, Compare W64 cmps.LtU) ∷
    (0x55, Compare W64 cmps.GtS) ∷
    (0x56, Compare W64 cmps.GtU) ∷
    (0x57, Compare W64 cmps.LeS) ∷
    (0x58, Compare W64 cmps.LeU) ∷
    (0x59, Compare W64 cmps.GeS) ∷
    (0x5A, Compare W64 cmps.GeU) ∷
    (0x79, Unary W64 uns.Clz) ∷
    (0x7A, Unary W64 uns.Ctz) ∷
    (0x7B, Unary W64 uns.Popcnt) ∷
    (0x7C, Binary W64 bins.Add) ∷
    (0x7D, Binary W64 bins.Sub) ∷
    (0x7E, Binary W64 bins.Mul) ∷
    (0x7F, Binary W64 bins.DivS) ∷
    (0x80, Binary W64 bins.DivU) ∷
    (0x81, Binary W64 bins.RemS) ∷
    (0x82, Binary W64 bins.RemU) ∷
    (0x83, Binary W64 bins.And) ∷
    (0x84, Binary W64 bins.Or) ∷
    (0x85, Binary W64 bins.Xor) ∷
    (0x86, Binary W64 bins.Shl) ∷
    (0x87, Binary W64 bins.ShrS) ∷
    (0x88, Binary W64 bins.ShrU) ∷
    (0x89, Binary W64 bins.Rotl) ∷
    (0x8A, Binary W64 bins.Rotr) ∷
    []

-- conversions between both, and extensions of a sign
unfoldable pub conversions : List (ℕ × IntOp)
conversions =
    (0xA7, Convert convs.Wrap) ∷
    (0xAC, Convert convs.Ext32S) ∷
    (0xAD, Convert convs.Ext32U) ∷
    (0xC0, Convert convs.S8of32) ∷
    (0xC1, Convert convs.S16of32) ∷
    (0xC2, Convert convs.S8of64) ∷
    (0xC3, Convert convs.S16of64) ∷
    (0xC4, Convert convs.S32of64) ∷
    []

-- the whole table
unfoldable pub rows : List (ℕ × IntOp)
rows = operators_32 ++ operators_64 ++ conversions

-- the operator in the row of an opcode
unfoldable pub operator_of : ℕ → Option IntOp
operator_of opcode = lookup (λ k. k == opcode) rows
