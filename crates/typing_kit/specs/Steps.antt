-- What typing of an instruction does to the stack of operands, by its plan.
use Rattle.std.specs.Prelude.{◌≡◌, ℕ, Bool, true, false, cond, ◌&&◌, ◌==◌, List, [], ◌∷◌, ◌++◌, length, drop, reverse, map, Option, Some, None}
use Rattle.std.specs.List.{list_all}
use Rattle.typing_kit.specs.declared.kind.Kind.{Kind}
use Rattle.typing_kit.specs.declared.kind.Kind.TheVariants.{Plain}
use Rattle.typing_kit.specs.declared.operand.Operand.{Operand}
use Rattle.typing_kit.specs.declared.operand.Operand.TheVariants.{Known, Bottom}
use Rattle.typing_kit.specs.declared.plan.Plan.{Plan}
use Rattle.typing_kit.specs.declared.plan.Plan.TheVariants as plans
use Rattle.typing_kit.specs.declared.plan.Met.{Met}
use Rattle.typing_kit.specs.declared.plan.Met.TheVariants.{Untyped, Planned, One}
use Rattle.typing_kit.specs.Matching.{known}
use Rattle.typing_kit.specs.Stack.{Stack, fit}
use Rattle.typing_kit.specs.Form.{Form}
use Rattle.typing_kit.specs.Form as forms

-- types with one more on top
abbrev pub with_top : {T : Type 0} → List T → Option T → List T
with_top ts None = ts
with_top ts (Some t) = ts ++ t ∷ []

-- the form holds code
abbrev pub HoldsCode : {T I : Type 0} → Form T I → Type 0
HoldsCode (forms.Block label takes gives code) = Unit {0}
HoldsCode (forms.Choice label takes gives first second) = Unit {0}
HoldsCode _ = ⊥

-- the plan is that of an instruction of the form
abbrev pub IsPlanOf : {T I : Type 0} → Plan T → Form T I → Type 0
IsPlanOf plans.Untyped form = form ≡ forms.Untyped
IsPlanOf (plans.Flat takes top gives) form = form ≡ forms.Flat (with_top takes.now top) gives.now
IsPlanOf (plans.Any kind gives) form = form ≡ forms.Any kind gives.now
IsPlanOf plans.Select form = form ≡ forms.Select
IsPlanOf (plans.Leaves takes top) form = form ≡ forms.Leaves (with_top takes.now top)
IsPlanOf (plans.Table last others) form = form ≡ forms.Table last.now (map (λ label. label.now) others.now)
IsPlanOf plans.Nested form = HoldsCode form

-- the plan is that of an instruction that holds no code
abbrev pub IsLeaf : {T : Type 0} → Plan T → Type 0
IsLeaf plans.Nested = ⊥
IsLeaf _ = Unit {0}

-- the topmost operand; where nothing reaches a place there is one below all others
abbrev pub topmost : {T : Type 0} → Bool → List (Operand T) → Option (Operand T)
topmost dead (a ∷ s) = Some a
topmost true [] = Some Bottom
topmost false [] = None

-- the operand in the place of two: the one whose type is known
abbrev pub joined : {T : Type 0} → Operand T → Operand T → Operand T
joined (Known s) b = Known s
joined Bottom b = b

-- the stack without so many operands, and then with values of the types
abbrev pub took : {T : Type 0} → ℕ → List T → Stack T → Stack T
took n gives s = record s { top = reverse (known gives) ++ drop n s.top }

-- the stack from where on nothing is reached
abbrev pub left : {T : Type 0} → Stack T → Stack T
left s = record s { top = []; dead = true }

module _ {T : Type 0} (sub : T → T → Bool) (of_kind : Kind → T → Bool) (condition : T) where
  -- an operand is of a kind; bot is of each
  abbrev pub is_of : Kind → Operand T → Bool
  is_of kind (Known t) = of_kind kind t
  is_of kind Bottom = true

  -- both operands may have one type, if they are plain
  abbrev pub agree : Operand T → Operand T → Bool
  agree (Known s) (Known t) = sub s t
  agree (Known s) Bottom = true
  agree Bottom b = true

  -- the topmost operands may stand where the types of the label are asked for, which are so many
  abbrev pub fit_label : Bool → List (Operand T) → ℕ → List T → Bool
  fit_label dead s n label = (length label == n) && fit sub dead s (reverse label)

  abbrev pub flat_step : List T → List T → Stack T → Met T × Stack T
  flat_step takes gives s = cond (fit sub s.dead s.top (reverse takes)) (Planned, took (length takes) gives s) (Untyped, s)

  abbrev pub any_step : Kind → List T → Stack T → Option (Operand T) → Met T × Stack T
  any_step kind gives s None = (Untyped, s)
  any_step kind gives s (Some a) = cond (is_of kind a) (One a, took 1 gives s) (Untyped, s)

  abbrev pub select_step : Stack T → Option (Operand T) → Option (Operand T) → Met T × Stack T
  select_step s None b = (Untyped, s)
  select_step s (Some a) None = (Untyped, s)
  select_step s (Some a) (Some b) = cond (fit sub s.dead s.top (condition ∷ []) && is_of Plain a && is_of Plain b && agree a b)
      (One (joined a b), record s { top = joined a b ∷ drop 3 s.top }) (Untyped, s)

  abbrev pub leave_step : List T → Stack T → Met T × Stack T
  leave_step takes s = cond (fit sub s.dead s.top (reverse takes)) (Planned, left s) (Untyped, s)

  abbrev pub table_step : List T → List (List T) → Stack T → Met T × Stack T
  table_step last others s = cond (fit sub s.dead s.top (condition ∷ []) && fit sub s.dead (drop 1 s.top) (reverse last) && list_all (fit_label s.dead (drop 1 s.top) (length last)) others)
      (Planned, left s) (Untyped, s)

  -- what was met, and the stack after it
  abbrev pub stepped : Plan T → Stack T → Met T × Stack T
  stepped plans.Untyped s = (Untyped, s)
  stepped (plans.Flat takes top gives) s = flat_step (with_top takes.now top) gives.now s
  stepped (plans.Any kind gives) s = any_step kind gives.now s (topmost s.dead s.top)
  stepped plans.Select s = select_step s (topmost s.dead (drop 2 s.top)) (topmost s.dead (drop 1 s.top))
  stepped (plans.Leaves takes top) s = leave_step (with_top takes.now top) s
  stepped (plans.Table last others) s = table_step last.now (map (λ label. label.now) others.now) s
  stepped plans.Nested s = (Untyped, s)
