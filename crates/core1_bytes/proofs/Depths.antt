-- The depth of an instruction, by what it holds.
use Rattle.std.proofs.Common.{◌≡◌, Bool, true, false, ◌||◌, Option, Some, None, ℕ, zero, suc, max, ◌≤◌, ◌<◌, List, [], ◌∷◌, map, length, get_or, refl, ap, sym, ◌∙◌, arith}
use Rattle.core1_ast.specs.declared.module.ty.BlockType1.{BlockType1}
use Rattle.std.specs.List.{list_any}
use Rattle.core1_ast.specs.declared.module.immediates.MemArg1.{MemArg1}
use Rattle.core1_ast.specs.declared.module.code.Instr1.{Instr1, out-Instr1}
use Rattle.std.specs.Prelude.{IfSome, option_map}
use Rattle.std.proofs.lemmas.Option.{some_pair_parts}
use Rattle.grammar_kit.specs.declared.error.FormError.{FormError}
use Rattle.grammar_kit.specs.declared.error.FormError.TheVariants.{Malformed, Memory}
use Rattle.grammar_kit.specs.Gives.{Misses}
use Rattle.nested_code.specs.Sizes.{IsDepth, IsOccurrence, sizes}
use Rattle.nested_code.specs.declared.token.Token.TheVariants.{Open}
use Rattle.nested_code.proofs.Leaves.{Only, only_always, only_when, only_rules, if_mapped, if_rules, IsLeaf, only_plain}
use Rattle.core1_bytes.specs.declared.head.Head1.{Head1}
use Rattle.core1_bytes.specs.declared.head.Head1.TheVariants as heads
use Rattle.core1_bytes.specs.Instructions.{plain_of, numeric_of, jump_of, variable_of, br_table, indirect, size_of, size, access_of, access, constant, control, instr_at}
use Rattle.core1_bytes.specs.Tokens.{Token1, head_of, opened, control_at, token, has_arms, build}
use Rattle.core1_ast.specs.declared.module.code.Instr1.TheOpen.{Instr1-F}
use Rattle.core1_ast.specs.declared.module.code.Instr1.TheFolds.{map-Instr1, fold-roll-Instr1, fold_out-Instr1}
use Rattle.core1_ast.specs.declared.module.code.Instr1.TheVariants.{Block, Loop, If, rolls-Block, rolls-Loop, rolls-If}
use Rattle.grammar_kit.specs.Measures.{through, greatest as greatest_of}
use Rattle.core1_bytes.specs.Nesting.{greatest, deepen, depth}

greatest_map : (code : List Instr1) → greatest (map depth code) ≡ greatest_of depth code
greatest_map [] = refl
greatest_map (i ∷ code) = ap (max (depth i)) (greatest_map code)

pub depth_block : (t : BlockType1) (code : List Instr1) → depth (Block t code) ≡ suc (greatest_of depth code)
depth_block t code = ap depth (sym (rolls-Block t code)) ∙ fold-roll-Instr1 ℕ deepen (Instr1-F.Block t code) ∙ ap suc (greatest_map code)

pub depth_loop : (t : BlockType1) (code : List Instr1) → depth (Loop t code) ≡ suc (greatest_of depth code)
depth_loop t code = ap depth (sym (rolls-Loop t code)) ∙ fold-roll-Instr1 ℕ deepen (Instr1-F.Loop t code) ∙ ap suc (greatest_map code)

pub depth_if : (t : BlockType1) (first second : List Instr1) → depth (If t first second) ≡ suc (max (greatest_of depth first) (greatest_of depth second))
depth_if t first second = ap depth (sym (rolls-If t first second)) ∙ fold-roll-Instr1 ℕ deepen (Instr1-F.If t first second) ∙ rw (← greatest_map first, ← greatest_map second) refl

-- what stands in code is no deeper than the code
pub depth_at : (code : List Instr1) (k : ℕ) (i : Instr1) → k < length code → i ≡ get_or code k i → depth i ≤ greatest_of depth code
depth_at [] k i within is = absurd (omega arith)
depth_at (j ∷ code) zero i within is = omega (arith, ap depth is)
depth_at (j ∷ code) (suc k) i within is = omega (arith, depth_at code k i (omega arith) is)

one_depth : (h : Head1) (code : List Instr1) → depth (build h code []) ≡ suc (greatest_of depth code)
one_depth (heads.Block t) code = depth_block t code
one_depth (heads.Loop t) code = depth_loop t code
one_depth (heads.If t) code = depth_if t code [] ∙ omega arith

two_depths : (h : Head1) (first second : List Instr1) → has_arms h ≡ true → depth (build h first second) ≡ suc (max (greatest_of depth first) (greatest_of depth second))
two_depths (heads.Block t) first second e = absurd cc
two_depths (heads.Loop t) first second e = absurd cc
two_depths (heads.If t) first second e = depth_if t first second

abbrev IsFlat : Instr1 → Type 0
IsFlat i = depth i ≡ 0

-- an instruction whose layer holds no code has depth 0
leaf : (i : Instr1) → deepen (map-Instr1 Instr1 ℕ depth (out-Instr1 i)) ≡ 0 → IsFlat i
leaf i e = fold_out-Instr1 ℕ deepen i ∙ e

plain_leaf : (k : ℕ) → IfSome (plain_of k) IsFlat
unfolding plain_of out-Instr1 denote.Hole.Carrier.out
plain_leaf k = search (if_rules, leaf) depth 24

numeric_leaf : (k : ℕ) → IfSome (numeric_of k) IsFlat
unfolding numeric_of out-Instr1 denote.Hole.Carrier.out
numeric_leaf k = search (if_rules, leaf) depth 24

jump_leaf : (k x : ℕ) → IfSome (jump_of k x) IsFlat
unfolding jump_of out-Instr1 denote.Hole.Carrier.out
jump_leaf k x = search (if_rules, leaf) depth 24

variable_leaf : (k x : ℕ) → IfSome (variable_of k x) IsFlat
unfolding variable_of out-Instr1 denote.Hole.Carrier.out
variable_leaf k x = search (if_rules, leaf) depth 24

access_leaf : (k : ℕ) (at : MemArg1) → IfSome (access_of k at) IsFlat
unfolding access_of out-Instr1 denote.Hole.Carrier.out
access_leaf k at = search (if_rules, leaf) depth 24

size_leaf : (k : ℕ) → IfSome (size_of k) IsFlat
unfolding size_of out-Instr1 denote.Hole.Carrier.out
size_leaf k = search (if_rules, leaf) depth 24

only_br_table : Only br_table IsFlat
unfolding br_table out-Instr1 denote.Hole.Carrier.out
only_br_table = search (only_rules, leaf) depth 12

only_indirect : Only indirect IsFlat
unfolding indirect out-Instr1 denote.Hole.Carrier.out
only_indirect = search (only_rules, leaf) depth 12

only_size : (k : ℕ) → Only (size k) IsFlat
unfolding size
only_size k = search (only_rules, size_leaf) depth 12

only_access : (k : ℕ) → Only (access k) IsFlat
unfolding access
only_access k = search (only_rules, access_leaf) depth 12

only_constant : (k : ℕ) → Only (constant k) IsFlat
unfolding constant out-Instr1 denote.Hole.Carrier.out
only_constant k = search (only_rules, leaf) depth 16

only_control : (k : ℕ) → Only (control k) IsFlat
unfolding control
only_control k = search (only_rules, plain_leaf, jump_leaf, only_br_table, only_indirect) depth 16

only_instr_at : (k : ℕ) → Only (instr_at k) IsFlat
unfolding instr_at
only_instr_at k = search (only_rules, variable_leaf, only_access, only_size, only_constant, numeric_leaf) depth 16

-- what opens code is no instruction by itself
abbrev as_open : Head1 → Token1
as_open h = Open h

opened_leaf : (k : ℕ) (t : BlockType1) → IfSome (option_map as_open (head_of k t)) (IsLeaf IsFlat)
opened_leaf k t = if_mapped as_open (head_of k t) (IsLeaf IsFlat) (λ h. tt)

only_opened : (k : ℕ) → Only (opened k) (IsLeaf IsFlat)
unfolding opened
only_opened k = search (only_rules, opened_leaf) depth 12

only_control_at : (k : ℕ) → Only (control_at k) (IsLeaf IsFlat)
unfolding control_at
only_control_at k = search (only_plain, only_control, only_opened, only_when, only_always) depth 16

only_token : Only token (IsLeaf IsFlat)
unfolding token
only_token = search (only_plain, only_instr_at, only_rules, only_control_at) depth 12

-- what the measure of the nesting asks
pub is_depth : IsDepth token has_arms build depth
is_depth = record {
  leaf = λ b i rest e. only_token.holds b _ rest e;
  one = one_depth;
  two = two_depths;
}

-- nothing is marked
nothing : (code : List Instr1) → list_any (λ (i : Instr1). false) code ≡ false
nothing [] = refl
nothing (i ∷ code) = nothing code

pub no_marks : IsOccurrence token has_arms build (λ i. false) (λ i. false)
no_marks = record {
  leaf = λ b i rest e. refl;
  one = λ h code. sym (nothing code);
  two = λ h first second e. sym (ap (λ a. a || list_any (λ (i : Instr1). false) second) (nothing first) ∙ nothing second);
}

abbrev no_mark : Instr1 → Bool
no_mark i = false

pub depth_measured : (read : Option (List Instr1 × List ℕ)) (n : ℕ) (seen : Bool) (rest : List ℕ) → through (sizes depth (λ i. false)) read ≡ Some ((n, seen), rest) → through (greatest_of depth) read ≡ Some (n, rest)
depth_measured None n seen rest e = absurd cc
depth_measured (Some (code, after)) n seen rest e =
    let p = some_pair_parts (sizes depth no_mark code) (n, seen) after rest e in
    let q = ap (λ (s : ℕ × Bool). s.0) p.0 in
    rw (q, p.1) refl

pub depth_missed : (e : FormError) (read : Option (List Instr1 × List ℕ)) → Misses e (through (sizes depth (λ i. false)) read) → Misses e (through (greatest_of depth) read)
depth_missed Malformed None h = refl
depth_missed Malformed (Some p) h = absurd cc
depth_missed (Memory e) read h = tt
