-- Instructions that hold code are one deeper than the deepest in it, and name a data segment where one in it does.
use Rattle.std.proofs.Common.{◌≡◌, ℕ, suc, max, List, [], ◌∷◌, map, Bool, true, ◌||◌, refl, sym, ap, ◌∙◌, arith}
use Rattle.std.proofs.Math.Bool.{or-false}
use Rattle.std.proofs.lemmas.List.Folds.{list_any-append}
use Rattle.std.specs.List.{list_any}
use Rattle.wasm_ast.specs.declared.module.code.Instr.{Instr}
use Rattle.wasm_ast.specs.declared.module.code.Instr.TheVariants as instrs
use Rattle.wasm_ast.specs.declared.module.code.Instr.TheVariants.{rolls-Block, rolls-Loop, rolls-If, rolls-TryTable}
use Rattle.wasm_ast.specs.declared.module.code.Instr.TheOpen.{Instr-F}
use Rattle.wasm_ast.specs.declared.module.code.Instr.TheFolds.{fold-roll-Instr}
use Rattle.wasm_ast.specs.declared.module.ty.BlockType.{BlockType}
use Rattle.wasm_ast.specs.Occurrence.{some, some_step}
use Rattle.nested_code.specs.Sizes.{IsDepth, IsOccurrence}
use Rattle.code_new.specs.declared.head.Head.{Head}
use Rattle.code_new.specs.declared.head.Head.TheVariants.{Block, Loop, If, TryTable}
use Rattle.code_new.specs.Tokens.{token, has_arms, build}
use Rattle.code_new.specs.Code.{depth, depth_step, depths, deepest, is_data_use, uses_data, names_data}
use Rattle.code_new.proofs.Leaves.{only_token}

deepest-map : (code : List Instr) → deepest (map depth code) ≡ depths code
deepest-map [] = refl
deepest-map (i ∷ code) = ap (max (depth i)) (deepest-map code)

depth_if : (t : BlockType) (first second : List Instr) → depth (instrs.If t first second) ≡ suc (max (depths first) (depths second))
unfolding depth
depth_if t first second = ap depth (sym (rolls-If t first second)) ∙ fold-roll-Instr ℕ depth_step (Instr-F.If t first second) ∙ rw (← deepest-map first, ← deepest-map second) refl

one_depth : (h : Head) (code : List Instr) → depth (build h code []) ≡ suc (depths code)
unfolding depth
one_depth (Block t) code = ap depth (sym (rolls-Block t code)) ∙ fold-roll-Instr ℕ depth_step (Instr-F.Block t code) ∙ ap suc (deepest-map code)
one_depth (Loop t) code = ap depth (sym (rolls-Loop t code)) ∙ fold-roll-Instr ℕ depth_step (Instr-F.Loop t code) ∙ ap suc (deepest-map code)
one_depth (If t) code = depth_if t code [] ∙ omega arith
one_depth (TryTable t cs) code = ap depth (sym (rolls-TryTable t cs code)) ∙ fold-roll-Instr ℕ depth_step (Instr-F.TryTable t cs code) ∙ ap suc (deepest-map code)

two_depths : (h : Head) (first second : List Instr) → has_arms h ≡ true → depth (build h first second) ≡ suc (max (depths first) (depths second))
two_depths (Block t) first second e = absurd cc
two_depths (Loop t) first second e = absurd cc
two_depths (If t) first second e = depth_if t first second
two_depths (TryTable t cs) first second e = absurd cc

-- what the measure of the nesting asks
pub is_depth : IsDepth token has_arms build depth
is_depth = record {
  leaf = λ b i rest e. (only_token.holds b _ rest e).depth;
  one = one_depth;
  two = two_depths;
}

any-map : (code : List Instr) → list_any (λ b. b) (map (some is_data_use) code) ≡ names_data code
any-map [] = refl
any-map (i ∷ code) = ap (λ b. some is_data_use i || b) (any-map code)

use_if : (t : BlockType) (first second : List Instr) → some is_data_use (instrs.If t first second) ≡ (names_data first || names_data second)
use_if t first second =
    ap (some is_data_use) (sym (rolls-If t first second)) ∙ fold-roll-Instr Bool (some_step is_data_use) (Instr-F.If t first second)
    ∙ list_any-append (λ b. b) (map (some is_data_use) first) (map (some is_data_use) second) ∙ rw (any-map first, any-map second) refl

one_use : (h : Head) (code : List Instr) → some is_data_use (build h code []) ≡ names_data code
one_use (Block t) code = ap (some is_data_use) (sym (rolls-Block t code)) ∙ fold-roll-Instr Bool (some_step is_data_use) (Instr-F.Block t code) ∙ any-map code
one_use (Loop t) code = ap (some is_data_use) (sym (rolls-Loop t code)) ∙ fold-roll-Instr Bool (some_step is_data_use) (Instr-F.Loop t code) ∙ any-map code
one_use (If t) code = use_if t code [] ∙ or-false (names_data code)
one_use (TryTable t cs) code = ap (some is_data_use) (sym (rolls-TryTable t cs code)) ∙ fold-roll-Instr Bool (some_step is_data_use) (Instr-F.TryTable t cs code) ∙ any-map code

two_uses : (h : Head) (first second : List Instr) → has_arms h ≡ true → some is_data_use (build h first second) ≡ (names_data first || names_data second)
two_uses (Block t) first second e = absurd cc
two_uses (Loop t) first second e = absurd cc
two_uses (If t) first second e = use_if t first second
two_uses (TryTable t cs) first second e = absurd cc

-- what the search for uses asks
pub is_occurrence : IsOccurrence token has_arms build uses_data (some is_data_use)
is_occurrence = record {
  leaf = λ b i rest e. (only_token.holds b _ rest e).uses;
  one = one_use;
  two = two_uses;
}
