-- Plain instructions by what they do to operands, locals and the state, for any values and any state. The top of the
-- operands comes first. Where an operand or a local is missing, a value that is given stands for it, which code that is
-- typed never meets.
use Rattle.std.specs.Prelude.{ℕ, ◌+◌, List, [], ◌∷◌, ◌++◌, length, take, drop, set, slice_index_or, Bool, if◌then◌else◌, nat_le, Option, Some, None}
use Rattle.evaluation_kit.specs.declared.jump.Jump.{Jump}
use Rattle.evaluation_kit.specs.declared.jump.Jump.TheVariants.{Branch, Trap}
use Rattle.outcome_kit.specs.Code.{Go, Leave}
use Rattle.evaluation_kit.specs.Configurations.{Plain, PlainRes}

-- the top, and what lies below it
abbrev pub top : {A : Type 0} → A → List A → A
top missing [] = missing
top missing (a ∷ more) = a

abbrev pub below : {A : Type 0} → List A → List A
below [] = []
below (a ∷ more) = more

-- as many items from a place on, and the list with these items there; none where they are not all inside
abbrev pub read_range : {A : Type 0} → ℕ → ℕ → List A → Option (List A)
read_range at count items = if nat_le (at + count) (length items) then Some (take count (drop at items)) else None

abbrev pub write_range : {A : Type 0} → ℕ → List A → List A → Option (List A)
write_range at new items =
    if nat_le (at + length new) (length items) then Some (take at items ++ (new ++ drop (at + length new) items)) else None

module _ {V S : Type 0} where
  abbrev pub with_operands : List V → Plain V S → Plain V S
  with_operands operands p = record p { operands = operands }

  -- an instruction on operands alone, which may trap
  abbrev pub operands_or_trap : Plain V S → Option (List V) → PlainRes V S
  operands_or_trap p None = Leave Trap p
  operands_or_trap p (Some operands) = Go (with_operands operands p)

  abbrev pub on_operands : (List V → Option (List V)) → Plain V S → PlainRes V S
  on_operands f p = operands_or_trap p (f p.operands)

  -- nop
  abbrev pub nothing : Plain V S → PlainRes V S
  nothing p = Go p

  -- "Variable Instructions": local.get, local.set, local.tee
  abbrev pub get_local : V → ℕ → Plain V S → PlainRes V S
  get_local missing x p = Go (with_operands (slice_index_or p.locals x missing ∷ p.operands) p)

  abbrev pub set_local : V → ℕ → Plain V S → PlainRes V S
  set_local missing x p = Go (record p { operands = below p.operands; locals = set p.locals x (top missing p.operands) })

  abbrev pub tee_local : V → ℕ → Plain V S → PlainRes V S
  tee_local missing x p = Go (record p { locals = set p.locals x (top missing p.operands) })

  -- a jump; one where a test of the operands holds, whose operand is dropped; one to the label that the top numbers
  abbrev pub jump : Jump → Plain V S → PlainRes V S
  jump j p = Leave j p

  abbrev pub jump_where : Bool → Jump → Plain V S → PlainRes V S
  jump_where holds j p = if holds then Leave j p else Go p

  abbrev pub branch_if : (List V → Bool) → ℕ → Plain V S → PlainRes V S
  branch_if test k p = jump_where (test p.operands) (Branch k) (with_operands (below p.operands) p)

  abbrev pub branch_table : (List V → ℕ) → List ℕ → ℕ → Plain V S → PlainRes V S
  branch_table number labels last p =
      Leave (Branch (slice_index_or labels (number p.operands) last)) (with_operands (below p.operands) p)
