-- Typing code, one instruction after another: what is left to be typed.
use Rattle.std.proofs.Common.{◌≡◌, ◌↔◌, ℕ, ◌+◌, ◌<◌, Bool, true, false, List, [], ◌∷◌, drop, reverse, length, get_or, ap, sym, subst, ◌∙◌}
use Rattle.wasm_ast.specs.declared.module.ty.Ty.{Ty}
use Rattle.wasm_ast.specs.declared.module.code.Instr.{Instr}
use Rattle.typing_kit.specs.declared.operand.Operand.{Operand}
use Rattle.typing_kit.specs.Matching.{known}
use Rattle.typing_kit.specs.Progress.{From, Leads, Stuck}
use Rattle.typing_kit.specs.Stack.{Stack, fit_whole}
use Rattle.typing_kit.proofs.Leading.{begun, ended}
use Rattle.typed_trees.specs.Contexts.{Context}
use Rattle.typed_trees.specs.Forms.{language}
use Rattle.typed_trees.specs.Matching.{matches}
use Rattle.typed_trees.proofs.Lawfulness.{lawful}
use Rattle.valid_new.specs.Judged.{CodeTyped, Decided, Judged}
use Rattle.valid_new.proofs.Matching.{drop_at}

-- after the front of the code only `rest` is left, over this stack
abbrev pub Remains : Context → List (List Ty) → List Ty → List Instr → List Instr → Stack Ty → Type 0
Remains c ls takes code rest stack =
    (after : List (Operand Ty)) → From (language c) ls false (reverse (known takes)) code after ↔ From (language c) ls stack.dead stack.top rest after

-- the instruction at a place of the code
pub at_place : (code : List Instr) (k : ℕ) (i : Instr) → k < length code → i ≡ get_or code k i → drop k code ≡ i ∷ drop (k + 1) code
at_place code k i h e = drop_at code k i h ∙ ap (λ x. x ∷ drop (k + 1) code) (sym e)

module _ (c : Context) (ls : List (List Ty)) (takes : List Ty) (code : List Instr) where
  pub remains_start : (stack : Stack Ty) → stack.dead ≡ false → stack.top ≡ reverse (known takes) → Remains c ls takes code code stack
  remains_start stack d v after = (
    λ f. subst (λ b. From (language c) ls b stack.top code after) (sym d) (subst (λ l. From (language c) ls false l code after) (sym v) f),
    λ f. subst (λ l. From (language c) ls false l code after) v (subst (λ b. From (language c) ls b stack.top code after) d f),
  )

  module _ (rest : List Instr) (i : Instr) (old : Stack Ty) (so_far : Remains c ls takes code (i ∷ rest) old) where
    pub remains_more : (new : Stack Ty) → Leads (language c) ls i old.dead old.top new.dead new.top → Remains c ls takes code rest new
    remains_more new leads after = (
      λ f. (leads rest after).0 ((so_far after).0 f),
      λ f. (so_far after).1 ((leads rest after).1 f),
    )

    -- no more of the code is typed
    pub remains_stuck : (gives : List Ty) → Stuck (language c) ls i old.dead old.top → CodeTyped c ls code takes gives → ⊥
    remains_stuck gives stuck typed =
        stuck rest (known gives) ((so_far (known gives)).0 ((begun (language c) (lawful c) ls code (known takes) (known gives)).0 typed))

  module _ (stack : Stack Ty) (gives : List Ty) (whole : Remains c ls takes code [] stack) where
    pub remains_fit : fit_whole matches stack.dead stack.top (reverse gives) ≡ true → CodeTyped c ls code takes gives
    remains_fit f =
        (begun (language c) (lawful c) ls code (known takes) (known gives)).1
        ((whole (known gives)).1 ((ended (language c) (lawful c) ls stack.dead stack.top gives).0 f))

    pub remains_unfit : fit_whole matches stack.dead stack.top (reverse gives) ≡ false → CodeTyped c ls code takes gives → ⊥
    remains_unfit f typed =
        let yes = (ended (language c) (lawful c) ls stack.dead stack.top gives).1 ((whole (known gives)).0 ((begun (language c) (lawful c) ls code (known takes) (known gives)).0 typed)) in
        let no : ⊥ = cc in absurd no

    pub remains_decided : (fits : Bool) → fits ≡ fit_whole matches stack.dead stack.top (reverse gives) → Decided fits (CodeTyped c ls code takes gives)
    remains_decided true e = remains_fit (sym e)
    remains_decided false e = remains_unfit (sym e)

  -- the instruction at a place
  module _ (k : ℕ) (i : Instr) (h : k < length code) (e : i ≡ get_or code k i) (old new : Stack Ty) (so_far : Remains c ls takes code (drop k code) old) where
    here : Remains c ls takes code (i ∷ drop (k + 1) code) old
    here = subst (λ l. Remains c ls takes code l old) (at_place code k i h e) so_far

    pub judged_more : (b : Bool) → b ≡ true → Judged c ls i old new b → Remains c ls takes code (drop (k + 1) code) new
    judged_more b y j = remains_more (drop (k + 1) code) i old here new (subst (Judged c ls i old new) y j).0

    pub judged_outer : (b : Bool) → b ≡ true → Judged c ls i old new b → new.outer ≡ old.outer
    judged_outer b y j = (subst (Judged c ls i old new) y j).1

    pub judged_stuck : (gives : List Ty) (b : Bool) → b ≡ false → Judged c ls i old new b → CodeTyped c ls code takes gives → ⊥
    judged_stuck gives b n j = remains_stuck (drop (k + 1) code) i old here gives (subst (Judged c ls i old new) n j)
