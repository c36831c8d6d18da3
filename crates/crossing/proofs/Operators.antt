-- Operators: what 1.0 makes of the images of operands is the image of what 3.0 makes of them.
use Rattle.std.proofs.Common.{◌≡◌, ℕ, Bool, true, false, List, ◌∷◌, Option, Some, None, option_map, refl, ap, ◌∙◌, if◌then◌else◌}
use Rattle.std.specs.Prelude.{not, nat_eq}
use Rattle.num_core.specs.declared.operators.Conv.{Conv}
use Rattle.num_core.specs.declared.operators.Conv.TheVariants as conversions
use Rattle.num_core.specs.declared.operators.Width.{Width}
use Rattle.num_core.specs.declared.operators.Width.TheVariants.{W32, W64}
use Rattle.num_core.specs.Integers.{bits, wrap, binary, unary, is_zero, compares, convert}
use Rattle.evaluation_kit.specs.Leaves.{top, below}
use Rattle.wasm_ast.specs.declared.module.op.Op.{Op}
use Rattle.wasm_ast.specs.declared.module.op.Op.TheVariants as ops
use Rattle.meaning_new.specs.declared.val.Val.{Val}
use Rattle.meaning_new.specs.Store.{missing, int, truth}
use Rattle.meaning_new.specs.Numeric.{first, second, pure}
use Rattle.meaning_new.specs.Forms.{holds, drop_operand, select}
use Rattle.meaning_core1.specs.declared.val1.Val1.{Val1}
use Rattle.meaning_core1.specs.Store.{absent, value_of, bool_value}
use Rattle.meaning_core1.specs.Operators.{top1, next1, pure_op, is_true, dropped, selected}
use Rattle.crossing.specs.Code.{cross_op, is_op, is_conversion}
use Rattle.crossing.specs.States.{cross_value, IsInteger}
use Rattle.crossing.proofs.Keeping.{Integers, IfThere, all_below, all_top, int_is}
use Rattle.crossing.proofs.Images.{crossed, int-cross, below-map, top-cross, first-cross, second-cross, twice-below}

-- a value from one number, and one from two
one : (g : ℕ → Val) (g' : ℕ → Val1) → ((i : ℕ) → g' i ≡ cross_value (g i)) → (o : List Val) → Some (g' (top1 (crossed o)) ∷ below (crossed o)) ≡ option_map crossed (Some (g (first o) ∷ below o))
one g g' h o =
    ap (λ (i : ℕ). Some (g' i ∷ below (crossed o))) (first-cross o)
    ∙ ap (λ (v : Val1). Some (v ∷ below (crossed o))) (h (first o))
    ∙ ap (λ (l : List Val1). Some (cross_value (g (first o)) ∷ l)) (below-map cross_value o)

two : (g : ℕ → ℕ → Val) (g' : ℕ → ℕ → Val1) → ((i j : ℕ) → g' i j ≡ cross_value (g i j)) → (o : List Val) → Some (g' (next1 (crossed o)) (top1 (crossed o)) ∷ below (below (crossed o))) ≡ option_map crossed (Some (g (second o) (first o) ∷ below (below o)))
two g g' h o =
    ap (λ (i : ℕ). Some (g' i (top1 (crossed o)) ∷ below (below (crossed o)))) (second-cross o)
    ∙ ap (λ (i : ℕ). Some (g' (second o) i ∷ below (below (crossed o)))) (first-cross o)
    ∙ ap (λ (v : Val1). Some (v ∷ below (below (crossed o)))) (h (second o) (first o))
    ∙ ap (λ (l : List Val1). Some (cross_value (g (second o) (first o)) ∷ l)) (twice-below o)

perhaps : (w : Width) (r : Option ℕ) (l : List Val) → option_map (λ i. value_of w i ∷ crossed l) r ≡ option_map crossed (option_map (λ v. v ∷ l) (option_map (int w) r))
perhaps w None l = refl
perhaps w (Some i) l = ap (λ (v : Val1). Some (v ∷ crossed l)) (int-cross w i)

two_or_trap : (w : Width) (g : ℕ → ℕ → Option ℕ) (o : List Val) → option_map (λ i. value_of w i ∷ below (below (crossed o))) (g (next1 (crossed o)) (top1 (crossed o))) ≡ option_map crossed (option_map (λ v. v ∷ below (below o)) (option_map (int w) (g (second o) (first o))))
two_or_trap w g o =
    ap (λ (i : ℕ). option_map (λ v. value_of w v ∷ below (below (crossed o))) (g i (top1 (crossed o)))) (second-cross o)
    ∙ ap (λ (i : ℕ). option_map (λ v. value_of w v ∷ below (below (crossed o))) (g (second o) i)) (first-cross o)
    ∙ ap (λ (l : List Val1). option_map (λ v. value_of w v ∷ l) (g (second o) (first o))) (twice-below o)
    ∙ perhaps w (g (second o) (first o)) (below (below o))

converts : (op : Conv) → is_conversion op ≡ true → (o : List Val) → pure_op (cross_op (ops.Convert op)) (crossed o) ≡ option_map crossed (pure (ops.Convert op) o)
converts conversions.Wrap h o = one (λ i. int W32 (convert conversions.Wrap (wrap (bits W64) i))) (λ i. value_of W32 (convert conversions.Wrap (wrap (bits W64) i))) (λ i. refl) o
converts conversions.Ext32S h o = one (λ i. int W64 (convert conversions.Ext32S (wrap (bits W32) i))) (λ i. value_of W64 (convert conversions.Ext32S (wrap (bits W32) i))) (λ i. refl) o
converts conversions.Ext32U h o = one (λ i. int W64 (convert conversions.Ext32U (wrap (bits W32) i))) (λ i. value_of W64 (convert conversions.Ext32U (wrap (bits W32) i))) (λ i. refl) o
converts op h o = absurd cc

-- each operator that both have
pub pure-cross : (op : Op) → is_op op ≡ true → (o : List Val) → pure_op (cross_op op) (crossed o) ≡ option_map crossed (pure op o)
pure-cross (ops.I32Const i) h o = refl
pure-cross (ops.I64Const i) h o = refl
pure-cross (ops.Eqz w) h o = one (λ i. truth (is_zero (wrap (bits w) i))) (λ i. bool_value (is_zero (wrap (bits w) i))) (λ i. refl) o
pure-cross (ops.Compare w op) h o = two (λ i j. truth (compares w op (wrap (bits w) i) (wrap (bits w) j))) (λ i j. bool_value (compares w op (wrap (bits w) i) (wrap (bits w) j))) (λ i j. refl) o
pure-cross (ops.Unary w op) h o = one (λ i. int w (unary w op (wrap (bits w) i))) (λ i. value_of w (unary w op (wrap (bits w) i))) (λ i. int-cross w (unary w op (wrap (bits w) i))) o
pure-cross (ops.Binary w op) h o = two_or_trap w (λ i j. binary w op (wrap (bits w) i) (wrap (bits w) j)) o
pure-cross (ops.Convert op) h o = converts op h o
pure-cross op h o = absurd cc

-- the condition, drop and select
pub holds-cross : (o : List Val) → is_true (crossed o) ≡ holds o
holds-cross o = ap (λ (i : ℕ). not (nat_eq i 0)) (first-cross o)

pub drop-cross : (o : List Val) → dropped (crossed o) ≡ option_map crossed (drop_operand o)
drop-cross o = ap (λ (l : List Val1). Some l) (below-map cross_value o)

chosen : (b : Bool) (v w : Val) → (if b then cross_value v else cross_value w) ≡ cross_value (if b then v else w)
chosen true v w = refl
chosen false v w = refl

pub select-cross : (o : List Val) → selected (crossed o) ≡ option_map crossed (select o)
select-cross o =
    let two_below = below (below o) in
    ap (λ b. Some ((if b then top absent (below (below (crossed o))) else top absent (below (crossed o))) ∷ below (below (below (crossed o))))) (holds-cross o)
    ∙ ap (λ (l : List Val1). Some ((if holds o then top absent l else top absent (below (crossed o))) ∷ below l)) (twice-below o)
    ∙ ap (λ (l : List Val1). Some ((if holds o then top absent (crossed two_below) else top absent l) ∷ below (crossed two_below))) (below-map cross_value o)
    ∙ ap (λ (v : Val1). Some ((if holds o then v else top absent (crossed (below o))) ∷ below (crossed two_below))) (top-cross two_below)
    ∙ ap (λ (v : Val1). Some ((if holds o then cross_value (top missing two_below) else v) ∷ below (crossed two_below))) (top-cross (below o))
    ∙ ap (λ (v : Val1). Some (v ∷ below (crossed two_below))) (chosen (holds o) (top missing two_below) (top missing (below o)))
    ∙ ap (λ (l : List Val1). Some (cross_value (if holds o then top missing two_below else top missing (below o)) ∷ l)) (below-map cross_value two_below)

-- operands stay integers
abbrev Kept : Option (List Val) → Type 0
Kept o = IfThere Integers o

kept_perhaps : (w : Width) (r : Option ℕ) (l : List Val) → Integers l → Kept (option_map (λ v. v ∷ l) (option_map (int w) r))
kept_perhaps w None l h = tt
kept_perhaps w (Some i) l h = (int_is w i, h)

below_two : (o : List Val) → Integers o → Integers (below (below o))
below_two o h = all_below IsInteger (below o) (all_below IsInteger o h)

converts_kept : (op : Conv) → is_conversion op ≡ true → (o : List Val) → Integers o → Kept (pure (ops.Convert op) o)
converts_kept conversions.Wrap h o g = (tt, all_below IsInteger o g)
converts_kept conversions.Ext32S h o g = (tt, all_below IsInteger o g)
converts_kept conversions.Ext32U h o g = (tt, all_below IsInteger o g)
converts_kept op h o g = absurd cc

pub pure_kept : (op : Op) → is_op op ≡ true → (o : List Val) → Integers o → Kept (pure op o)
pure_kept (ops.I32Const i) h o g = (tt, g)
pure_kept (ops.I64Const i) h o g = (tt, g)
pure_kept (ops.Eqz w) h o g = (tt, all_below IsInteger o g)
pure_kept (ops.Compare w op) h o g = (tt, below_two o g)
pure_kept (ops.Unary w op) h o g = (int_is w (unary w op (wrap (bits w) (first o))), all_below IsInteger o g)
pure_kept (ops.Binary w op) h o g = kept_perhaps w (binary w op (wrap (bits w) (second o)) (wrap (bits w) (first o))) (below (below o)) (below_two o g)
pure_kept (ops.Convert op) h o g = converts_kept op h o g
pure_kept op h o g = absurd cc

pub drop_kept : (o : List Val) → Integers o → Kept (drop_operand o)
drop_kept o g = all_below IsInteger o g

kept_choice : (b : Bool) (v w : Val) → IsInteger v → IsInteger w → IsInteger (if b then v else w)
kept_choice true v w h g = h
kept_choice false v w h g = g

pub select_kept : (o : List Val) → Integers o → Kept (select o)
select_kept o g =
    let at_two = below_two o g in
    let at_one = all_below IsInteger o g in
    (kept_choice (holds o) (top missing (below (below o))) (top missing (below o)) (all_top IsInteger (below (below o)) missing at_two tt) (all_top IsInteger (below o) missing at_one tt), all_below IsInteger (below (below o)) at_two)
