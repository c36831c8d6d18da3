-- The constant expressions of a typed module are constants and globals.
use Rattle.std.proofs.Common.{List, [], ◌∷◌, sym, subst}
use Rattle.std.specs.List.{AllByRecursion}
use Rattle.std.proofs.lemmas.List.Elements.{All-from_recursion}
use Rattle.core1_ast.specs.Typing.{Context, IsConstant, i32_const, i64_const, fixed_global, Typed1}
use Rattle.core1_ast.specs.declared.module.code.Instr1.{Instr1, out-Instr1}
use Rattle.core1_ast.specs.declared.module.parts.Module1.{Module1}
use Rattle.run_core1.specs.Constants.{IsConstantInstr, IsConstantCode, HasConstants}

each : (c : Context) (i : Instr1) → IsConstant c i → IsConstantInstr (out-Instr1 i)
unfolding out-Instr1 denote.Hole.Carrier.out
each c i (i32_const _ _ n e) = subst (λ j. IsConstantInstr (out-Instr1 j)) (sym e) tt
each c i (i64_const _ _ n e) = subst (λ j. IsConstantInstr (out-Instr1 j)) (sym e) tt
each c i (fixed_global _ _ x g e there fixed) = subst (λ j. IsConstantInstr (out-Instr1 j)) (sym e) tt

along : {X : Type 0} (P Q : X → Type 0) → ((x : X) → P x → Q x) → (xs : List X) → AllByRecursion P xs → AllByRecursion Q xs
along P Q f [] h = tt
along P Q f (x ∷ xs) h = (f x h.0, along P Q f xs h.1)

code : (c : Context) (instrs : List Instr1) → AllByRecursion (IsConstant c) instrs → IsConstantCode instrs
code c instrs h = along (IsConstant c) (λ i. IsConstantInstr (out-Instr1 i)) (each c) instrs h

pub typed_constants : (m : Module1) → Typed1 m → HasConstants m
typed_constants m typed = record {
  globals = All-from_recursion _ _ (along _ (λ g. IsConstantCode g.init) (λ g h. code _ g.init h.init.constant) m.globals typed.globals);
  elems = All-from_recursion _ _ (along _ (λ e. IsConstantCode e.offset) (λ e h. code _ e.offset h.offset.constant) m.elems typed.elems);
  datas = All-from_recursion _ _ (along _ (λ d. IsConstantCode d.offset) (λ d h. code _ d.offset h.offset.constant) m.datas typed.datas);
}
