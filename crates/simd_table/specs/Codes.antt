-- The codes of the vector instructions: chapter 5 of the standard, "Vector Instructions". A row is the number that
-- follows the byte FD, and the instruction that it stands for. Instructions on floats have no row.
use Rattle.std.specs.Prelude.{ℕ, ◌==◌, List, [], ◌∷◌, ◌++◌, Option}
use Rattle.std.specs.Map.{lookup}
use Rattle.lane_core.specs.declared.operators.named.LaneOp.{LaneOp}
use Rattle.lane_core.specs.declared.operators.named.LaneOp.TheVariants.{Load, Store, LoadLane, StoreLane, Const, Shuffle, Splat, Extract, Replace, Bitselect, One, Two, Shift, Test}
use Rattle.lane_core.specs.declared.operators.memory.LaneLoad.TheVariants as loads
use Rattle.lane_core.specs.declared.operators.memory.LaneExtract.TheVariants as extracts
use Rattle.lane_core.specs.declared.operators.lanes.Lane1.TheVariants as ones
use Rattle.lane_core.specs.declared.operators.lanes.LaneShift.TheVariants as shifts
use Rattle.lane_core.specs.declared.operators.lanes.LaneTest.TheVariants as tests
use Rattle.lane_core.specs.declared.operators.pairs.Lane2.TheVariants as twos
use Rattle.lane_core.specs.declared.vector.Shape.TheVariants as shapes

-- loads and stores, constants and shuffles, and single lanes
unfoldable pub loads_and_constants : List (ℕ × LaneOp)
loads_and_constants =
    (0, Load loads.Whole) ∷
    (1, Load loads.Load8x8S) ∷
    (2, Load loads.Load8x8U) ∷
    (3, Load loads.Load16x4S) ∷
    (4, Load loads.Load16x4U) ∷
    (5, Load loads.Load32x2S) ∷
    (6, Load loads.Load32x2U) ∷
    (7, Load loads.Load8Splat) ∷
    (8, Load loads.Load16Splat) ∷
    (9, Load loads.Load32Splat) ∷
    (10, Load loads.Load64Splat) ∷
    (11, Store) ∷
    (12, Const) ∷
    (13, Shuffle) ∷
    (14, Two twos.I8x16Swizzle) ∷
    (15, Splat shapes.I8x16) ∷
    (16, Splat shapes.I16x8) ∷
    (17, Splat shapes.I32x4) ∷
    (18, Splat shapes.I64x2) ∷
    (21, Extract extracts.I8x16S) ∷
    (22, Extract extracts.I8x16U) ∷
    (23, Replace shapes.I8x16) ∷
    (24, Extract extracts.I16x8S) ∷
    (25, Extract extracts.I16x8U) ∷
    (26, Replace shapes.I16x8) ∷
    (27, Extract extracts.I32x4) ∷
    (28, Replace shapes.I32x4) ∷
    (29, Extract extracts.I64x2) ∷
    (30, Replace shapes.I64x2) ∷
    []

-- comparisons
unfoldable pub comparisons : List (ℕ × LaneOp)
comparisons =
    (35, Two twos.I8x16Eq) ∷
    (36, Two twos.I8x16Ne) ∷
    (37, Two twos.I8x16LtS) ∷
    (38, Two twos.I8x16LtU) ∷
    (39, Two twos.I8x16GtS) ∷
    (40, Two twos.I8x16GtU) ∷
    (41, Two twos.I8x16LeS) ∷
    (42, Two twos.I8x16LeU) ∷
    (43, Two twos.I8x16GeS) ∷
    (44, Two twos.I8x16GeU) ∷
    (45, Two twos.I16x8Eq) ∷
    (46, Two twos.I16x8Ne) ∷
    (47, Two twos.I16x8LtS) ∷
    (48, Two twos.I16x8LtU) ∷
    (49, Two twos.I16x8GtS) ∷
    (50, Two twos.I16x8GtU) ∷
    (51, Two twos.I16x8LeS) ∷
    (52, Two twos.I16x8LeU) ∷
    (53, Two twos.I16x8GeS) ∷
    (54, Two twos.I16x8GeU) ∷
    (55, Two twos.I32x4Eq) ∷
    (56, Two twos.I32x4Ne) ∷
    (57, Two twos.I32x4LtS) ∷
    (58, Two twos.I32x4LtU) ∷
    (59, Two twos.I32x4GtS) ∷
    (60, Two twos.I32x4GtU) ∷
    (61, Two twos.I32x4LeS) ∷
    (62, Two twos.I32x4LeU) ∷
    (63, Two twos.I32x4GeS) ∷
    (64, Two twos.I32x4GeU) ∷
    (214, Two twos.I64x2Eq) ∷
    (215, Two twos.I64x2Ne) ∷
    (216, Two twos.I64x2LtS) ∷
    (217, Two twos.I64x2GtS) ∷
    (218, Two twos.I64x2LeS) ∷
    (219, Two twos.I64x2GeS) ∷
    []

-- operators on all 128 bits
unfoldable pub bits : List (ℕ × LaneOp)
bits =
    (77, One ones.V128Not) ∷
    (78, Two twos.V128And) ∷
    (79, Two twos.V128Andnot) ∷
    (80, Two twos.V128Or) ∷
    (81, Two twos.V128Xor) ∷
    (82, Bitselect) ∷
    (83, Test tests.V128AnyTrue) ∷
    []

-- loads and stores of one lane, and loads over zeros
unfoldable pub single_lanes : List (ℕ × LaneOp)
single_lanes =
    (84, LoadLane shapes.I8x16) ∷
    (85, LoadLane shapes.I16x8) ∷
    (86, LoadLane shapes.I32x4) ∷
    (87, LoadLane shapes.I64x2) ∷
    (88, StoreLane shapes.I8x16) ∷
    (89, StoreLane shapes.I16x8) ∷
    (90, StoreLane shapes.I32x4) ∷
    (91, StoreLane shapes.I64x2) ∷
    (92, Load loads.Load32Zero) ∷
    (93, Load loads.Load64Zero) ∷
    []

-- 16 lanes of 8 bits
unfoldable pub bytes : List (ℕ × LaneOp)
bytes =
    (96, One ones.I8x16Abs) ∷
    (97, One ones.I8x16Neg) ∷
    (98, One ones.I8x16Popcnt) ∷
    (99, Test tests.I8x16AllTrue) ∷
    (100, Test tests.I8x16Bitmask) ∷
    (101, Two twos.I8x16NarrowI16x8S) ∷
    (102, Two twos.I8x16NarrowI16x8U) ∷
    (107, Shift shifts.I8x16Shl) ∷
    (108, Shift shifts.I8x16ShrS) ∷
    (109, Shift shifts.I8x16ShrU) ∷
    (110, Two twos.I8x16Add) ∷
    (111, Two twos.I8x16AddSatS) ∷
    (112, Two twos.I8x16AddSatU) ∷
    (113, Two twos.I8x16Sub) ∷
    (114, Two twos.I8x16SubSatS) ∷
    (115, Two twos.I8x16SubSatU) ∷
    (118, Two twos.I8x16MinS) ∷
    (119, Two twos.I8x16MinU) ∷
    (120, Two twos.I8x16MaxS) ∷
    (121, Two twos.I8x16MaxU) ∷
    (123, Two twos.I8x16AvgrU) ∷
    []

-- 8 lanes of 16 bits
unfoldable pub halves : List (ℕ × LaneOp)
halves =
    (124, One ones.I16x8ExtaddPairwiseI8x16S) ∷
    (125, One ones.I16x8ExtaddPairwiseI8x16U) ∷
    (128, One ones.I16x8Abs) ∷
    (129, One ones.I16x8Neg) ∷
    (130, Two twos.I16x8Q15mulrSatS) ∷
    (131, Test tests.I16x8AllTrue) ∷
    (132, Test tests.I16x8Bitmask) ∷
    (133, Two twos.I16x8NarrowI32x4S) ∷
    (134, Two twos.I16x8NarrowI32x4U) ∷
    (135, One ones.I16x8ExtendLowI8x16S) ∷
    (136, One ones.I16x8ExtendHighI8x16S) ∷
    (137, One ones.I16x8ExtendLowI8x16U) ∷
    (138, One ones.I16x8ExtendHighI8x16U) ∷
    (139, Shift shifts.I16x8Shl) ∷
    (140, Shift shifts.I16x8ShrS) ∷
    (141, Shift shifts.I16x8ShrU) ∷
    (142, Two twos.I16x8Add) ∷
    (143, Two twos.I16x8AddSatS) ∷
    (144, Two twos.I16x8AddSatU) ∷
    (145, Two twos.I16x8Sub) ∷
    (146, Two twos.I16x8SubSatS) ∷
    (147, Two twos.I16x8SubSatU) ∷
    (149, Two twos.I16x8Mul) ∷
    (150, Two twos.I16x8MinS) ∷
    (151, Two twos.I16x8MinU) ∷
    (152, Two twos.I16x8MaxS) ∷
    (153, Two twos.I16x8MaxU) ∷
    (155, Two twos.I16x8AvgrU) ∷
    (156, Two twos.I16x8ExtmulLowI8x16S) ∷
    (157, Two twos.I16x8ExtmulHighI8x16S) ∷
    (158, Two twos.I16x8ExtmulLowI8x16U) ∷
    (159, Two twos.I16x8ExtmulHighI8x16U) ∷
    []

-- 4 lanes of 32 bits
unfoldable pub words : List (ℕ × LaneOp)
words =
    (126, One ones.I32x4ExtaddPairwiseI16x8S) ∷
    (127, One ones.I32x4ExtaddPairwiseI16x8U) ∷
    (160, One ones.I32x4Abs) ∷
    (161, One ones.I32x4Neg) ∷
    (163, Test tests.I32x4AllTrue) ∷
    (164, Test tests.I32x4Bitmask) ∷
    (167, One ones.I32x4ExtendLowI16x8S) ∷
    (168, One ones.I32x4ExtendHighI16x8S) ∷
    (169, One ones.I32x4ExtendLowI16x8U) ∷
    (170, One ones.I32x4ExtendHighI16x8U) ∷
    (171, Shift shifts.I32x4Shl) ∷
    (172, Shift shifts.I32x4ShrS) ∷
    (173, Shift shifts.I32x4ShrU) ∷
    (174, Two twos.I32x4Add) ∷
    (177, Two twos.I32x4Sub) ∷
    (181, Two twos.I32x4Mul) ∷
    (182, Two twos.I32x4MinS) ∷
    (183, Two twos.I32x4MinU) ∷
    (184, Two twos.I32x4MaxS) ∷
    (185, Two twos.I32x4MaxU) ∷
    (186, Two twos.I32x4DotI16x8S) ∷
    (188, Two twos.I32x4ExtmulLowI16x8S) ∷
    (189, Two twos.I32x4ExtmulHighI16x8S) ∷
    (190, Two twos.I32x4ExtmulLowI16x8U) ∷
    (191, Two twos.I32x4ExtmulHighI16x8U) ∷
    []

-- 2 lanes of 64 bits
unfoldable pub long_words : List (ℕ × LaneOp)
long_words =
    (192, One ones.I64x2Abs) ∷
    (193, One ones.I64x2Neg) ∷
    (195, Test tests.I64x2AllTrue) ∷
    (196, Test tests.I64x2Bitmask) ∷
    (199, One ones.I64x2ExtendLowI32x4S) ∷
    (200, One ones.I64x2ExtendHighI32x4S) ∷
    (201, One ones.I64x2ExtendLowI32x4U) ∷
    (202, One ones.I64x2ExtendHighI32x4U) ∷
    (203, Shift shifts.I64x2Shl) ∷
    (204, Shift shifts.I64x2ShrS) ∷
    (205, Shift shifts.I64x2ShrU) ∷
    (206, Two twos.I64x2Add) ∷
    (209, Two twos.I64x2Sub) ∷
    (213, Two twos.I64x2Mul) ∷
    (220, Two twos.I64x2ExtmulLowI32x4S) ∷
    (221, Two twos.I64x2ExtmulHighI32x4S) ∷
    (222, Two twos.I64x2ExtmulLowI32x4U) ∷
    (223, Two twos.I64x2ExtmulHighI32x4U) ∷
    []

-- the whole table
unfoldable pub rows : List (ℕ × LaneOp)
rows = loads_and_constants ++ comparisons ++ bits ++ single_lanes ++ bytes ++ halves ++ words ++ long_words

-- the instruction in the row of a code
unfoldable pub name_of : ℕ → Option LaneOp
name_of code = lookup (λ k. k == code) rows
