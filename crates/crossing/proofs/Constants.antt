-- Constant expressions, and the states in which both runs begin.
use Rattle.std.proofs.Math.ListN.{get_or-map}
use Rattle.std.proofs.Common.{◌≡◌, ℕ, true, List, [], ◌∷◌, ◌++◌, length, Option, Some, None, option_map, refl, sym, ap, ◌∙◌}
use Rattle.std.proofs.lemmas.Bool.{ltb-true}
use Rattle.std.proofs.lemmas.List.{get_or_append_left}
use Rattle.evaluation_kit.specs.Leaves.{top}
use Rattle.wasm_ast.specs.declared.module.code.Instr.{Instr, out-Instr, roll-out-Instr}
use Rattle.wasm_ast.specs.declared.module.code.Instr.TheOpen.{Instr-F}
use Rattle.wasm_ast.specs.declared.module.code.Instr.TheFolds.{map-Instr, fold-roll-Instr}
use Rattle.core1_ast.specs.declared.module.code.Instr1.{Instr1, roll-Instr1, out-roll-Instr1}
use Rattle.core1_ast.specs.declared.module.code.Instr1.TheOpen.{Instr1-F}
use Rattle.meaning_new.specs.declared.val.Val.{Val}
use Rattle.meaning_new.specs.Store.{missing}
use Rattle.meaning_new.specs.Numeric.{pure}
use Rattle.meaning_new.specs.Instances.{or_same, constant_step, constant_steps, constant}
use Rattle.meaning_core1.specs.declared.val1.Val1.{Val1}
use Rattle.meaning_core1.specs.Store.{absent}
use Rattle.meaning_core1.specs.Instances.{kept_or, const_step, const_steps, const_value}
use Rattle.crossing.specs.Code.{cross_layer, cross_step, cross_instr, cross_code}
use Rattle.crossing.specs.States.{cross_value, IsInteger}
use Rattle.crossing.specs.Crossing.{is_constant, ConstantCrosses}
use Rattle.crossing.proofs.Keeping.{Integers, IfThere, all_at, all_top}
use Rattle.crossing.proofs.Images.{crossed, top-cross}
use Rattle.crossing.proofs.Operators.{pure-cross, pure_kept}

-- an instruction of a constant expression is written as one
abbrev written : Instr-F Instr → Instr1-F Instr1
written l = cross_layer (map-Instr Instr (Unit {0} → List Instr1) cross_instr l)

instr-written : (i : Instr) → cross_instr i tt ≡ roll-Instr1 (written (out-Instr i)) ∷ []
instr-written i =
    ap (λ j. cross_instr j tt) (sym (roll-out-Instr i))
    ∙ ap (λ f. f tt) (fold-roll-Instr (Unit {0} → List Instr1) cross_step (out-Instr i))

kept-cross : (o : List Val) (r : Option (List Val)) → kept_or (crossed o) (option_map crossed r) ≡ crossed (or_same o r)
kept-cross o None = refl
kept-cross o (Some a) = refl

step-cross : (k : ℕ) (l : Instr-F Instr) → is_constant k l ≡ true → (globals o : List Val) → const_step (crossed globals) (written l) (crossed o) ≡ crossed (constant_step globals l o)
step-cross k (Instr-F.GlobalGet x) h globals o = ap (λ (v : Val1). v ∷ crossed o) (get_or-map cross_value globals x missing)
step-cross k (Instr-F.Pure op) h globals o = ap (kept_or (crossed o)) (pure-cross op h o) ∙ kept-cross o (pure op o)
step-cross k l h globals o = absurd cc

pub steps-cross : (k : ℕ) (code : List Instr) → ConstantCrosses k code → (globals o : List Val) → const_steps (crossed globals) (cross_code code) (crossed o) ≡ crossed (constant_steps globals code o)
steps-cross k [] h globals o = refl
steps-cross k (i ∷ code) h globals o =
    ap (λ (c : List Instr1). const_steps (crossed globals) (c ++ cross_code code) (crossed o)) (instr-written i)
    ∙ ap (λ l. const_steps (crossed globals) (cross_code code) (const_step (crossed globals) l (crossed o))) (out-roll-Instr1 (written (out-Instr i)))
    ∙ ap (const_steps (crossed globals) (cross_code code)) (step-cross k (out-Instr i) h.0 globals o)
    ∙ steps-cross k code h.1 globals (constant_step globals (out-Instr i) o)

pub constant-cross : (k : ℕ) (code : List Instr) → ConstantCrosses k code → (globals : List Val) → const_value (crossed globals) (cross_code code) ≡ cross_value (constant globals code)
constant-cross k code h globals = ap (top absent) (steps-cross k code h globals []) ∙ top-cross (constant_steps globals code [])

-- its value is an integer
or_same_kept : (o : List Val) (r : Option (List Val)) → Integers o → IfThere Integers r → Integers (or_same o r)
or_same_kept o None h g = h
or_same_kept o (Some a) h g = g

step_kept : (k : ℕ) (l : Instr-F Instr) → is_constant k l ≡ true → (globals o : List Val) → Integers globals → Integers o → Integers (constant_step globals l o)
step_kept k (Instr-F.GlobalGet x) h globals o g e = (all_at IsInteger globals x missing g tt, e)
step_kept k (Instr-F.Pure op) h globals o g e = or_same_kept o (pure op o) e (pure_kept op h o e)
step_kept k l h globals o g e = absurd cc

steps_kept : (k : ℕ) (code : List Instr) → ConstantCrosses k code → (globals o : List Val) → Integers globals → Integers o → Integers (constant_steps globals code o)
steps_kept k [] h globals o g e = e
steps_kept k (i ∷ code) h globals o g e = steps_kept k code h.1 globals (constant_step globals (out-Instr i) o) g (step_kept k (out-Instr i) h.0 globals o g e)

pub constant_kept : (k : ℕ) (code : List Instr) → ConstantCrosses k code → (globals : List Val) → Integers globals → IsInteger (constant globals code)
constant_kept k code h globals g = all_top IsInteger (constant_steps globals code []) missing (steps_kept k code h globals [] g tt) tt

-- more globals change nothing
step_more : (l : Instr-F Instr) (globals more o : List Val) → is_constant (length globals) l ≡ true → constant_step (globals ++ more) l o ≡ constant_step globals l o
step_more (Instr-F.GlobalGet x) globals more o h = ap (λ (v : Val). v ∷ o) (get_or_append_left globals more missing x (ltb-true x (length globals) h))
step_more (Instr-F.Pure op) globals more o h = refl
step_more l globals more o h = absurd cc

steps_more : (code : List Instr) (globals more o : List Val) → ConstantCrosses (length globals) code → constant_steps (globals ++ more) code o ≡ constant_steps globals code o
steps_more [] globals more o h = refl
steps_more (i ∷ code) globals more o h =
    ap (constant_steps (globals ++ more) code) (step_more (out-Instr i) globals more o h.0)
    ∙ steps_more code globals more (constant_step globals (out-Instr i) o) h.1

pub constant_more : (code : List Instr) (globals more : List Val) → ConstantCrosses (length globals) code → constant (globals ++ more) code ≡ constant globals code
constant_more code globals more h = ap (top missing) (steps_more code globals more [] h)
