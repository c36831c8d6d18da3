-- The law of sign extension by shifts. The relation: two shifts do to any operands what the extension does, so each body of
-- the output is equal to the body at its place as a function.
use mathlib.Core.Path.{fun_ext}
use Rattle.std.proofs.Common.{◌≡◌, ℕ, ◌+◌, ◌*◌, ◌%◌, ◌^◌, ◌<◌, true, false, not, ◌&&◌, List, [], ◌∷◌, refl, sym, ap, ◌∙◌, mod-eq_of_lt, lit<}
use Rattle.std.proofs.Math.Nat.{mod-mod}
use Rattle.num_core.specs.declared.operators.Width.{Width}
use Rattle.num_core.specs.declared.operators.Width.TheVariants.{W32, W64}
use Rattle.num_core.specs.declared.operators.Bin.TheVariants.{Shl, ShrS}
use Rattle.num_core.specs.declared.operators.Conv.{Conv}
use Rattle.num_core.specs.declared.operators.Conv.TheVariants.{S8of32, S16of32, S8of64, S16of64, S32of64}
use Rattle.num_core.specs.Integers.{bits, wrap, extend_signed, shift_left, shift_right_signed, convert}
use Rattle.num_core.proofs.Shifts.{shifts_extend}
use Rattle.wasm_ast.specs.declared.features.kind.Feature.{Feature}
use Rattle.wasm_ast.specs.declared.features.kind.Feature.TheVariants as features
use Rattle.wasm_ast.specs.declared.module.ty.Ty.{Ty}
use Rattle.wasm_ast.specs.declared.module.op.Op.{Op}
use Rattle.wasm_ast.specs.declared.module.op.Op.TheVariants as ops
use Rattle.wasm_ast.specs.declared.module.code.Instr.{Instr}
use Rattle.wasm_ast.specs.declared.module.code.Instr.TheOpen.{Instr-F}
use Rattle.wasm_ast.specs.declared.module.parts.Module.{Module}
use Rattle.wasm_ast.specs.Features as table
use Rattle.wasm_ast.specs.Features.{type_shows, shows}
use Rattle.wasm_ast.specs.Has.{has_of}
use Rattle.wasm_ast.specs.Places.{anywhere}
use Rattle.typing_kit.specs.Form.{Flat}
use Rattle.typed_trees.specs.declared.module.TypedFn.{TypedFn}
use Rattle.typed_trees.specs.declared.node.Node.{Node}
use Rattle.typed_trees.specs.Constants.{is_constant_op}
use Rattle.typed_trees.specs.Contexts.{Context}
use Rattle.typed_trees.specs.Forms.{op_form}
use Rattle.typed_trees.specs.Operands.{int_type}
use Rattle.typed_trees.specs.Typed.{module_of, IsTypedTree}
use Rattle.outcome_kit.specs.Outcome.{Done}
use Rattle.outcome_kit.specs.Code.{Go}
use Rattle.evaluation_kit.specs.Configurations.{Sem, plain_of, with_plain}
use Rattle.evaluation_kit.specs.Leaves.{below, with_operands}
use Rattle.meaning_new.specs.declared.val.Val.{Val}
use Rattle.meaning_new.specs.Store.{State, int}
use Rattle.meaning_new.specs.Numeric.{first}
use Rattle.rewriting_kit.specs.Lines.{written, Operator, operators, OperatorLine}
use Rattle.pass_law.specs.Law.{Law}
use Rattle.pass_law.specs.Stages.{Stage}
use Rattle.pass_law.specs.ThenLawful.{both}
use Rattle.pass_plain.specs.Bodies.{no_entry, rewritten_functions}
use Rattle.pass_plain.specs.Plans.{is_sign, without_sign, sign_plan}
use Rattle.pass_plain.specs.Shifts.{constant, shifted, by_shifts}
use Rattle.pass_plain.proofs.Operators.{does, line_does, is_arithmetic, Becomes, stays, replaced}
use Rattle.pass_plain.proofs.Replaced.{replaced_typed, replaced_kept, replaced_nowhere, replaced_law}
use Rattle.pass_plain.proofs.Stages.{Kept}

-- a number of N bits that is shifted to the left and back
abbrev moved : ℕ → ℕ → ℕ → ℕ
moved N k i = shift_right_signed N (wrap N (shift_left N (wrap N i) (wrap N k))) (wrap N k)

moved_extends : (m k i : ℕ) → 0 < m → k < 2 ^ (m + k) → moved (m + k) k i ≡ extend_signed m (m + k) (wrap m (wrap (m + k) i))
moved_extends m k i pos fits =
    ap (λ n. shift_right_signed (m + k) (wrap (m + k) (shift_left (m + k) (wrap (m + k) i) n)) n) (mod-eq_of_lt {n = k} {m = 2 ^ (m + k)} fits)
    ∙ ap (λ x. shift_right_signed (m + k) x k) (mod-mod (wrap (m + k) i * 2 ^ (k % (m + k))) (2 ^ (m + k)))
    ∙ shifts_extend m k (wrap (m + k) i) pos

-- the shifts by so many bits
abbrev shifts : Width → ℕ → List Operator
shifts w n =
    let one : List Ty = int_type w ∷ [] in
    let put : Operator = record { op = constant w n; takes = []; gives = one } in
    put ∷ (record { op = ops.Binary w Shl; takes = int_type w ∷ one; gives = one } ∷ (put ∷ (record { op = ops.Binary w ShrS; takes = int_type w ∷ one; gives = one } ∷ [])))

-- the top becomes another number
abbrev topped : Width → (ℕ → ℕ) → Sem Val State
topped w f d k c = Done 0 (Go (with_plain c.world (with_operands (int w (f (wrap (bits w) (first c.operands))) ∷ below c.operands) (plain_of c))))

shifts_do : (w : Width) (n : ℕ) (f : ℕ → ℕ) → ((i : ℕ) → moved (bits w) n i ≡ f (wrap (bits w) i)) → topped w f ≡ line_does (shifts w n)
shifts_do W32 n f e = fun_ext (λ d. fun_ext (λ k. fun_ext (λ c. ap (λ i. topped W32 (λ x. i) d k c) (sym (e (first c.operands))))))
shifts_do W64 n f e = fun_ext (λ d. fun_ext (λ k. fun_ext (λ c. ap (λ i. topped W64 (λ x. i) d k c) (sym (e (first c.operands))))))

-- of a constant, by its width
by_width : (P : Width → Op → Type 0) → ((i : ℕ) → P W32 (ops.I32Const i)) → ((i : ℕ) → P W64 (ops.I64Const i)) → (w : Width) (n : ℕ) → P w (constant w n)
by_width P a b W32 n = a n
by_width P a b W64 n = b n

-- the shifts take the place of an operator on one integer that does the same
in_place : (op : Conv) (w : Width) (n : ℕ) (kept : List Node) → ((c : Context) → op_form c (ops.Convert op) ≡ Flat (int_type w ∷ []) (int_type w ∷ [])) → does (ops.Convert op) ≡ line_does (shifts w n) → Becomes table.is_sign (Instr-F.Pure (ops.Convert op)) kept (written (operators (shifts w n)))
in_place op w n kept form runs =
    let one : List Ty = int_type w ∷ [] in
    let plain : is_arithmetic (constant w n) ≡ true = by_width (λ v o. is_arithmetic o ≡ true) (λ i. refl) (λ i. refl) w n in
    let unsigned : table.is_sign (Instr-F.Pure (constant w n)) ≡ false = by_width (λ v o. table.is_sign (Instr-F.Pure o) ≡ false) (λ i. refl) (λ i. refl) w n in
    let put : (c : Context) → op_form c (constant w n) ≡ Flat [] one = λ c. by_width (λ v o. op_form c o ≡ Flat [] (int_type v ∷ [])) (λ i. refl) (λ i. refl) w n in
    let typed : (c : Context) → OperatorLine c (shifts w n) one one = λ c. (one, refl, put c, ([], refl, refl, (one, refl, put c, ([], refl, refl, refl)))) in
    replaced (ops.Convert op) (shifts w n) kept (record { runs = runs; plain = refl; plain_line = (plain, (refl, (plain, (refl, tt)))); takes = one; gives = one; form = form; typed = typed }) (unsigned, (refl, (unsigned, (refl, tt))))

becomes : (l : Instr-F Instr) (kept : List Node) → Becomes table.is_sign l kept (shifted l kept)
becomes (Instr-F.Pure (ops.Convert S8of32)) kept = in_place S8of32 W32 24 kept (λ c. refl) (shifts_do W32 24 (convert S8of32) (λ i. moved_extends 8 24 i (lit< tt) (lit< tt)))
becomes (Instr-F.Pure (ops.Convert S16of32)) kept = in_place S16of32 W32 16 kept (λ c. refl) (shifts_do W32 16 (convert S16of32) (λ i. moved_extends 16 16 i (lit< tt) (lit< tt)))
becomes (Instr-F.Pure (ops.Convert S8of64)) kept = in_place S8of64 W64 56 kept (λ c. refl) (shifts_do W64 56 (convert S8of64) (λ i. moved_extends 8 56 i (lit< tt) (lit< tt)))
becomes (Instr-F.Pure (ops.Convert S16of64)) kept = in_place S16of64 W64 48 kept (λ c. refl) (shifts_do W64 48 (convert S16of64) (λ i. moved_extends 16 48 i (lit< tt) (lit< tt)))
becomes (Instr-F.Pure (ops.Convert S32of64)) kept = in_place S32of64 W64 32 kept (λ c. refl) (shifts_do W64 32 (convert S32of64) (λ i. moved_extends 32 32 i (lit< tt) (lit< tt)))
becomes l kept = stays l kept refl

-- no constant expression extends a sign
op_unsigned : (op : Op) → is_constant_op op ≡ true → table.is_sign (Instr-F.Pure op) ≡ false
op_unsigned (ops.Convert op) h = absurd cc
op_unsigned op h = refl

module _ (t : Module × List TypedFn) (typed : IsTypedTree t) where
  abbrev m : Module
  m = module_of t

  abbrev o : Module
  o = module_of (t.0, rewritten_functions no_entry by_shifts t.1)

  unsigned : anywhere (shows features.Sign) o ≡ false
  unfolding type_shows
  unsigned = replaced_nowhere table.is_sign shifted becomes t typed features.Sign refl (λ t. refl) (record { block = λ t c c'. refl; loop = λ t c c'. refl; choice = λ t c d c' d'. refl; guarded = λ t clauses c c'. refl }) op_unsigned (λ x. refl)

  kept : Kept m o
  kept = replaced_kept table.is_sign shifted becomes t typed

  left_of : (f : Feature) → has_of o f ≡ true → (has_of m f && not (is_sign f)) ≡ true
  left_of features.Sign h = let no : false ≡ true = sym unsigned ∙ h in absurd cc
  left_of f h = both (has_of m f) (not (is_sign f)) (sym (kept.has f refl) ∙ h) refl

  -- the output is typed, and has the law
  pub shifts_tree : IsTypedTree (t.0, rewritten_functions no_entry by_shifts t.1)
  shifts_tree = replaced_typed table.is_sign shifted becomes t typed

  pub sign_law : (captures : ℕ) → Stage m → Law sign_plan m o captures
  sign_law = replaced_law table.is_sign shifted becomes t typed without_sign (record { has = left_of; region = λ h. sym kept.region ∙ h; computed_exports = λ h. sym kept.computed_exports ∙ h })
