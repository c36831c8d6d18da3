-- What a step over an instruction says of the code from there on.
use Rattle.std.proofs.Common.{◌≡◌, Bool, true, false, not, cond, List, reverse, length, Option, Some, None, refl, ap, sym, subst, ◌∙◌}
use Rattle.std.specs.Borrow.{Bor}
use Rattle.wasm_ast.specs.declared.module.ty.Ty.{Ty}
use Rattle.wasm_ast.specs.declared.module.ty.Ty.TheVariants.{I32}
use Rattle.wasm_ast.specs.declared.module.code.Instr.{Instr}
use Rattle.typing_kit.specs.declared.operand.Operand.{Operand}
use Rattle.typing_kit.specs.declared.plan.Plan.{Plan}
use Rattle.typing_kit.specs.declared.plan.Met.{Met}
use Rattle.typing_kit.specs.declared.plan.Met.TheVariants.{Untyped, Planned, One}
use Rattle.typing_kit.specs.Progress.{Leads, Stuck}
use Rattle.typing_kit.specs.Stack.{Stack, fit}
use Rattle.typing_kit.specs.Steps.{took, flat_step, stepped, with_top, IsLeaf, IsPlanOf}
use Rattle.typing_kit.proofs.Forms.{Exactly, block_exactly, choice_exactly, block_stuck, choice_stuck, exactly_leads, exactly_stuck}
use Rattle.typing_kit.proofs.Stepping as stepping
use Rattle.typed_trees.specs.Contexts.{Context}
use Rattle.typed_trees.specs.Forms.{form, language, is_of_kind}
use Rattle.typed_trees.specs.Matching.{matches}
use Rattle.typed_trees.proofs.Lawfulness.{lawful}
use Rattle.valid_new.specs.declared.nested.Nested.{Nested}
use Rattle.valid_new.specs.Bodies.{IsMet}
use Rattle.valid_new.specs.Judged.{ArmTyped, ArmsTyped, Decided, Judged}
use Rattle.valid_new.specs.Nested.{nested_form}
use Rattle.valid_new.proofs.Moving.{by_test}

-- an instruction that holds no code, by its plan
module _ (c : Context) (ls : List (List Ty)) (i : Instr) (plan : Plan Ty) (s t : Stack Ty) (met : Met Ty) (p : IsPlanOf plan (form c ls i)) (l : IsLeaf plan) (e : ◌≡◌ {A = Met Ty × Stack Ty} (met, t) (stepped matches is_of_kind I32 plan s)) where
  leads_by : (m : Met Ty) → IsMet m → stepping.Went (language c) (lawful c) ls i m s t → Leads (language c) ls i s.dead s.top t.dead t.top
  leads_by Untyped m w = absurd m
  leads_by Planned m w = w
  leads_by (One o) m w = w

  pub planned_stuck : met ≡ Untyped → Stuck (language c) ls i s.dead s.top
  planned_stuck u = subst (λ m. stepping.Went (language c) (lawful c) ls i m s t) u (stepping.step_went (language c) (lawful c) ls i plan s t met p l e)

  pub planned_leads : IsMet met → Leads (language c) ls i s.dead s.top t.dead t.top
  planned_leads m = leads_by met m (stepping.step_went (language c) (lawful c) ls i plan s t met p l e)

  pub planned_judged : (untyped : Bool) → (untyped ≡ true → met ≡ Untyped) → (untyped ≡ false → IsMet met) → Judged c ls i s t (not untyped)
  planned_judged true u m = planned_stuck (u refl)
  planned_judged false u m = (planned_leads (m refl), stepping.step_keeps matches is_of_kind I32 plan s t met e)

-- one that takes these types and gives those, and no others
module _ (c : Context) (ls : List (List Ty)) (i : Instr) (takes gives : List Ty) (x : Exactly (language c) ls i takes gives) (s t : Stack Ty) (met : Met Ty) (e : ◌≡◌ {A = Met Ty × Stack Ty} (met, t) (flat_step matches is_of_kind I32 takes gives s)) where
  pub flat_stuck : met ≡ Untyped → Stuck (language c) ls i s.dead s.top
  flat_stuck u = go (fit matches s.dead s.top (reverse takes)) refl e
    where
      go : (y : Bool) → fit matches s.dead s.top (reverse takes) ≡ y → ◌≡◌ {A = Met Ty × Stack Ty} (met, t) (cond y (Planned, took (length takes) gives s) (Untyped, s)) → Stuck (language c) ls i s.dead s.top
      go true f k = let planned : met ≡ Planned = ap (λ p. p.0) k in let no : ⊥ = cc in absurd no
      go false f k = exactly_stuck (language c) (lawful c) ls i s.dead s.top takes gives x f

  pub flat_leads : IsMet met → Leads (language c) ls i s.dead s.top t.dead t.top
  flat_leads m =
      let p = by_test t s (took (length takes) gives s) met Planned (fit matches s.dead s.top (reverse takes)) e m in
      subst (λ u. Leads (language c) ls i s.dead s.top u.dead u.top) (sym p.1) (exactly_leads (language c) (lawful c) ls i s.dead s.top takes gives x p.0)

  flat_outer : IsMet met → t.outer ≡ s.outer
  flat_outer m =
      let p = by_test t s (took (length takes) gives s) met Planned (fit matches s.dead s.top (reverse takes)) e m in
      ap (λ u. u.outer) p.1

  pub flat_judged : (untyped : Bool) → (untyped ≡ true → met ≡ Untyped) → (untyped ≡ false → IsMet met) → Judged c ls i s t (not untyped)
  flat_judged true u m = flat_stuck (u refl)
  flat_judged false u m = (flat_leads (m refl), flat_outer (m refl))

-- one that holds code
module _ (c : Context) (ls : List (List Ty)) (i : Instr) (n : Nested) (is : form c ls i ≡ nested_form n n.second) where
  pub arms_exactly : (top : Option Ty) → ArmsTyped c ls n n.second top → Exactly (language c) ls i (with_top n.takes.now top) n.gives.now
  arms_exactly top arms = go n.second is arms
    where
      go : (second : Option (Bor (List Instr))) → form c ls i ≡ nested_form n second → ArmsTyped c ls n second top → Exactly (language c) ls i (with_top n.takes.now top) n.gives.now
      go None e arms =
          subst (λ o. Exactly (language c) ls i (with_top n.takes.now o) n.gives.now) (sym arms.1)
          (block_exactly (language c) ls i n.label.now n.takes.now n.gives.now n.first.now e arms.0)
      go (Some code) e arms =
          subst (λ o. Exactly (language c) ls i (with_top n.takes.now o) n.gives.now) (sym arms.2)
          (choice_exactly (language c) ls i n.label.now n.takes.now n.gives.now n.first.now code.now e arms.0 arms.1)

  -- where an arm is not typed no code that begins with the instruction is
  pub first_untyped : (dead : Bool) (s : List (Operand Ty)) → (ArmTyped c ls n n.first.now → ⊥) → Stuck (language c) ls i dead s
  first_untyped dead s never = go n.second is
    where
      go : (second : Option (Bor (List Instr))) → form c ls i ≡ nested_form n second → Stuck (language c) ls i dead s
      go None e = block_stuck (language c) ls i dead s n.label.now n.takes.now n.gives.now n.first.now (lawful c) e never
      go (Some code) e = choice_stuck (language c) ls i dead s n.label.now n.takes.now n.gives.now n.first.now code.now (lawful c) e (λ first second. never first)

  pub second_untyped : (code : Bor (List Instr)) (dead : Bool) (s : List (Operand Ty)) → n.second ≡ Some code → (ArmTyped c ls n code.now → ⊥) → Stuck (language c) ls i dead s
  second_untyped code dead s here never =
      choice_stuck (language c) ls i dead s n.label.now n.takes.now n.gives.now n.first.now code.now (lawful c) (is ∙ ap (nested_form n) here) (λ first second. never second)

-- what a decided fact is at an answer
pub decided_yes : (r : Bool) (P : Type 0) → r ≡ true → Decided r P → P
decided_yes true P e d = d
decided_yes false P e d = let no : ⊥ = cc in absurd no

pub decided_no : (r : Bool) (P : Type 0) → r ≡ false → Decided r P → P → ⊥
decided_no true P e d = let no : ⊥ = cc in absurd no
decided_no false P e d = d
