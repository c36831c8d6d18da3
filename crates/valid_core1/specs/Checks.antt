-- What the checks of instructions and of code say.
use Rattle.std.specs.Prelude.{◌≡◌, Bool, true, false, ◌&&◌, List, [], ◌∷◌, drop}
use Rattle.core1_ast.specs.declared.module.ty.Ty1.{Ty1}
use Rattle.core1_ast.specs.declared.module.ty.Ty1.TheVariants.{I32}
use Rattle.core1_ast.specs.declared.module.ty.BlockType1.{BlockType1}
use Rattle.core1_ast.specs.declared.module.code.Instr1.{Instr1}
use Rattle.core1_ast.specs.declared.module.code.Instr1.TheOpen.{Instr1-F}
use Rattle.core1_ast.specs.Operands.{block_results}
use Rattle.typing_kit.specs.Stack.{Stack, fit}
use Rattle.typing_kit.specs.Matching.{known}
use Rattle.typing_kit.specs.Typing.{TypedCode}
use Rattle.typing_kit.specs.Form.{Block, Choice}
use Rattle.typing_kit.specs.Progress.{Leads, Stuck}
use Rattle.valid_core1.specs.declared.scope.Scope.{Scope}
use Rattle.valid_core1.specs.Forms.{same_type, language, where_true, is_block, is_short}
use Rattle.valid_core1.specs.Scopes.{context_of, label_types}

-- the instruction holds no code
abbrev pub HoldsNone : Instr1-F Instr1 → Type 0
HoldsNone (Instr1-F.Block type code) = ⊥
HoldsNone (Instr1-F.Loop type code) = ⊥
HoldsNone (Instr1-F.If type first second) = ⊥
HoldsNone _ = Unit {0}

-- The check of an instruction over operands, which it changes: the same code is typed before and after it, or none is
-- that begins with it.
unfoldable pub Judged : Scope → List BlockType1 → Instr1 → Stack Ty1 → Stack Ty1 → Bool → Type 0
Judged s labels i before after true =
    Leads (language (context_of s)) (label_types labels) i before.dead before.top after.dead after.top × (after.outer ≡ before.outer)
Judged s labels i before after false = Stuck (language (context_of s)) (label_types labels) i before.dead before.top

-- the code under a label of its own takes nothing and leaves the results of the block
unfoldable pub IsInside : Scope → List BlockType1 → BlockType1 → BlockType1 → List Instr1 → Type 0
IsInside s labels label type code = TypedCode (language (context_of s)) (block_results label ∷ label_types labels) code [] (known (block_results type))

-- the instruction is a block with such a label, or an if
unfoldable pub IsBlock : Scope → List BlockType1 → BlockType1 → BlockType1 → List Instr1 → Instr1 → Type 0
IsBlock s labels label type code i =
    (language (context_of s)).form (label_types labels) i ≡ where_true (is_block type code) (Block (block_results label) [] (block_results type) code)

unfoldable pub IsChoice : Scope → List BlockType1 → BlockType1 → List Instr1 → List Instr1 → Instr1 → Type 0
IsChoice s labels type first second i =
    (language (context_of s)).form (label_types labels) i ≡ where_true (is_block type first && is_short second) (Choice (block_results type) [] (block_results type) first second)

-- the arms of an if may stand here over a condition, which is taken
pub record Opens (type : BlockType1) (first second : List Instr1) (before after : Stack Ty1) : Type 0 where
  pub arms : (is_block type first && is_short second) ≡ true
  pub condition : fit same_type before.dead before.top (I32 ∷ []) ≡ true
  pub taken : after ≡ record before { top = drop 1 before.top }

-- the answer says whether the fact holds
abbrev pub Decided : Bool → Type 0 → Type 0
Decided true P = P
Decided false P = P → ⊥
