-- A small language.
use Rattle.std.specs.Prelude.{◌≡◌, ℕ, ◌-◌, ◌^◌, List, [], ◌∷◌, map, length, replicate, slice_get, Bool, true, if◌then◌else◌, nat_lt, nat_eq, Option, Some, None, refl}
use Rattle.std.proofs.Common.{ap, ◌∙◌, subst}
use Rattle.machine_tests.specs.declared.op.Op.{Op, roll-Op}
use Rattle.machine_tests.specs.declared.op.Op.TheOpen.{Op-F}
use Rattle.machine_tests.specs.declared.op.Op.TheFolds.{map-Op, fold-Op, fold-roll-Op, ind-Op}
use Rattle.machine_tests.specs.declared.op.Func.{Func}
use Rattle.machine_tests.specs.declared.op.Program.{Program}
use Rattle.evaluation_kit.specs.declared.jump.Jump.TheVariants as jumps
use Rattle.outcome_kit.specs.Code.{Go}
use Rattle.evaluation_kit.specs.Configurations.{Plain, PlainRes}
use Rattle.evaluation_kit.specs.Control.{Handler, Function, Callee, Own, Host}
use Rattle.evaluation_kit.specs.Forms.{Form, Flat, Enclose, Repeat, Choose, Guard, Invoke, InvokeBy, map_form}
use Rattle.evaluation_kit.specs.Languages.{Tree, Language}
use Rattle.evaluation_kit.specs.Leaves as leaves

abbrev pub down : List ℕ → Option (List ℕ)
down operands = if nat_lt 0 (leaves.top 0 operands) then Some ((leaves.top 0 operands - 1) ∷ leaves.below operands) else None

abbrev pub is_true : List ℕ → Bool
is_true operands = nat_lt 0 (leaves.top 0 operands)

abbrev pub catches : ℕ → Handler ℕ ℕ
catches e x s = if nat_eq x e then Some (record { jump = jumps.Branch 0; operands = x ∷ []; state = s }) else None

abbrev pub picks : Plain ℕ ℕ → Option ℕ
picks p = if nat_lt (leaves.top 0 p.operands) (2 ^ 32) then Some (leaves.top 0 p.operands) else None

abbrev pub layer : (X : Type 0) → Op-F X → Form ℕ ℕ X
layer X (Op-F.Const n) = Flat (λ p. Go (leaves.with_operands (n ∷ p.operands) p))
layer X (Op-F.Get x) = Flat (leaves.get_local 0 x)
layer X (Op-F.Set x) = Flat (leaves.set_local 0 x)
layer X Op-F.Down = Flat (leaves.on_operands down)
layer X Op-F.Trap = Flat (leaves.jump jumps.Trap)
layer X (Op-F.Br l) = Flat (leaves.jump (jumps.Branch l))
layer X (Op-F.BrIf l) = Flat (leaves.branch_if is_true l)
layer X Op-F.Return = Flat (leaves.jump jumps.Return)
layer X (Op-F.Throw e) = Flat (leaves.jump (jumps.Throw e))
layer X (Op-F.Tail x) = Flat (leaves.jump (jumps.TailCall x))
layer X (Op-F.Block p r code) = Enclose p r code
layer X (Op-F.Loop p r code) = Repeat p r code
layer X (Op-F.If p r first second) = Choose is_true p r first second
layer X (Op-F.Try p r e code) = Guard p r (catches e) code
layer X (Op-F.Call p x) = Invoke p x
layer X (Op-F.CallBy p) = InvokeBy p picks

-- the state takes the operand, and the state that was there is the result
abbrev pub host : Plain ℕ ℕ → PlainRes ℕ ℕ
host p = Go (record { operands = p.state ∷ []; locals = []; state = leaves.top 0 p.operands })

abbrev pub function : Func → Function Op ℕ
function f = record { params = f.params; results = f.results; zeros = replicate f.zeros 0; body = f.code }

abbrev pub callee_at : Option Func → Bool → Option (Callee Op ℕ ℕ)
callee_at (Some f) last = Some (Own (function f))
callee_at None last = if last then Some (Host 1 host) else None

abbrev pub callee : Program → ℕ → Option (Callee Op ℕ ℕ)
callee p x = callee_at (slice_get p.funcs x) (nat_eq x (length p.funcs))

pub map_twice : {X Y Z : Type 0} (f : X → Y) (g : Y → Z) (xs : List X) → map g (map f xs) ≡ map (λ x. g (f x)) xs
map_twice f g [] = refl
map_twice f g (x ∷ xs) = ap (λ ys. g (f x) ∷ ys) (map_twice f g xs)

pub over_twice : (X Y Z : Type 0) (f : X → Y) (g : Y → Z) (l : Op-F X) → map-Op Y Z g (map-Op X Y f l) ≡ map-Op X Z (λ x. g (f x)) l
over_twice X Y Z f g (Op-F.Block p r code) = ap (λ c. Op-F.Block p r c) (map_twice f g code)
over_twice X Y Z f g (Op-F.Loop p r code) = ap (λ c. Op-F.Loop p r c) (map_twice f g code)
over_twice X Y Z f g (Op-F.If p r first second) =
    ap (λ c. Op-F.If p r c (map g (map f second))) (map_twice f g first) ∙ ap (λ c. Op-F.If p r (map (λ x. g (f x)) first) c) (map_twice f g second)
over_twice X Y Z f g (Op-F.Try p r e code) = ap (λ c. Op-F.Try p r e c) (map_twice f g code)
over_twice X Y Z f g l = refl

pub induct : (P : Op → Type 0) → ((l : Op-F ((i : Op) × P i)) → P (roll-Op (map-Op ((i : Op) × P i) Op (λ x. x.0) l))) → (i : Op) → P i
induct P step =
    ind-Op P (λ l inner e. subst (λ x. P (roll-Op x)) e (subst (λ x. P (roll-Op x)) (over_twice _ _ _ (λ x. (x.0, x.1)) (λ x. x.0) inner) (step (map-Op _ ((i : Op) × P i) (λ x. (x.0, x.1)) inner))))

pub layer_over : (X Y : Type 0) (f : X → Y) (l : Op-F X) → layer Y (map-Op X Y f l) ≡ map_form f (layer X l)
layer_over X Y f Op-F.Down = refl
layer_over X Y f l = refl

abbrev pub tree : Tree Op Op-F
tree = record {
  roll = roll-Op;
  over = map-Op;
  fold = fold-Op;
  fold_roll = fold-roll-Op;
  over_twice = over_twice;
  induct = induct;
}

abbrev pub small : Program → Language Op Op-F ℕ ℕ
small p = record {
  tree = tree;
  layer = layer;
  ready = λ X l p. true;
  layer_over = layer_over;
  ready_over = λ X Y f l. refl;
  callee = callee p;
}
