-- The first clause that takes an exception.
use Rattle.std.proofs.Common.{◌≡◌, ℕ, List, slice_get, find, Option, Some, option_map, ap, sym, ◌∙◌}
use Rattle.wasm_ast.specs.declared.module.immediates.Catch.{Catch}
use Rattle.evaluation_kit.specs.declared.jump.Jump.{Jump}
use Rattle.machine_kit.specs.Stacks.{Stack}
use Rattle.machine_kit.specs.Heads.{Handled}
use Rattle.run_kit.specs.Narrowing.{part_caught, part_handler}
use Rattle.meaning_new.specs.declared.val.Val.{Val}
use Rattle.meaning_new.specs.Store.{Exception}
use Rattle.meaning_new.specs.Exceptions.{takes, caught, caught_by, handler}
use Rattle.run_new.specs.States.{Kept, whole, unbounded}

-- a clause takes the exception of a number, and leaves these operands and this state
pub taken : (v s : Kept) → v ≡ s → (clauses : List Catch) (n : ℕ) (x : Exception) (tag : ℕ) (o : Option Catch) (f k : Catch) → slice_get v.store.exceptions n ≡ Some x → o ≡ find (takes tag) clauses → tag ≡ x.tag → o ≡ Some f → f ≡ k
    → (j : Jump) (operands : List Val) (t u : Kept) (old new : Stack Val) → option_map (part_caught unbounded) (caught_by (Some k) n x (whole s)) ≡ Some (record { jump = j; operands = operands; state = t })
    → new ≡ record { used = operands; aside = old.aside } → u ≡ t
    → Handled (part_handler unbounded (handler clauses)) n old s new u (Some j)
taken v s e clauses n x tag o f k there found same is clause j operands t u old new gives left told =
    let at : slice_get s.store.exceptions n ≡ Some x = ap (λ (w : Kept). slice_get w.store.exceptions n) (sym e) ∙ there in
    let by : Some k ≡ find (takes x.tag) clauses = ap (λ c. Some c) (sym clause) ∙ (sym is ∙ (found ∙ ap (λ i. find (takes i) clauses) same)) in (
      ap (λ y. option_map (part_caught unbounded) (caught y clauses n (whole s))) at
          ∙ (ap (λ c. option_map (part_caught unbounded) (caught_by c n x (whole s))) (sym by)
          ∙ (gives
          ∙ (ap (λ (w : Stack Val). Some (record { jump = j; operands = w.used; state = t })) (sym left)
          ∙ ap (λ (w : Kept). Some (record { jump = j; operands = new.used; state = w })) (sym told)))),
      ap (λ (w : Stack Val). w.aside) left,
    )
