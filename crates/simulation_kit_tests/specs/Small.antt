-- A small language, as an input and as an output.
use Rattle.std.specs.Prelude.{◌≡◌, ℕ, ◌-◌, List, [], ◌∷◌, ◌++◌, map, slice_get, true, nat_lt, Some, option_map, refl}
use Rattle.std.proofs.Common.{ap, subst}
use Rattle.simulation_kit_tests.specs.declared.op.Op.{Op, roll-Op}
use Rattle.simulation_kit_tests.specs.declared.op.Op.TheOpen.{Op-F}
use Rattle.simulation_kit_tests.specs.declared.op.Op.TheFolds.{map-Op, fold-Op, fold-roll-Op, ind-Op}
use Rattle.evaluation_kit.specs.declared.jump.Jump.TheVariants.{Trap}
use Rattle.outcome_kit.specs.Code.{Go}
use Rattle.evaluation_kit.specs.Configurations.{Plain, PlainRes}
use Rattle.evaluation_kit.specs.Control.{Function, Own}
use Rattle.evaluation_kit.specs.Forms.{Form, Flat, Enclose, Repeat, Invoke, map_form}
use Rattle.evaluation_kit.specs.Languages.{Tree, Language}
use Rattle.evaluation_kit.specs.Leaves as leaves

-- The state of the output: what was told, and the global.
pub record Low : Type 0 where
  pub told : List ℕ
  pub global : ℕ

-- what the instructions are on which input and output differ
pub record Dialect (S : Type 0) : Type 0 where
  pub zero_top : Plain ℕ S → PlainRes ℕ S
  pub tell : ℕ → S → S
  pub keep : ℕ → S → S

abbrev pub high : Dialect (List ℕ)
high = record { zero_top = leaves.on_operands (λ o. Some (0 ∷ leaves.below o)); tell = λ n s. s ++ n ∷ []; keep = λ n s. s }

abbrev pub low : Dialect Low
low = record { zero_top = leaves.jump Trap; tell = λ n s. record s { told = s.told ++ n ∷ [] }; keep = λ n s. record s { global = n } }

module _ {S : Type 0} (D : Dialect S) where
  abbrev pub take_top : (ℕ → S → S) → Plain ℕ S → PlainRes ℕ S
  take_top f p = Go (record p { operands = leaves.below p.operands; state = f (leaves.top 0 p.operands) p.state })

  abbrev pub layer : (X : Type 0) → Op-F X → Form ℕ S X
  layer X (Op-F.Const n) = Flat (λ p. Go (leaves.with_operands (n ∷ p.operands) p))
  layer X (Op-F.Get x) = Flat (leaves.get_local 0 x)
  layer X (Op-F.Set x) = Flat (leaves.set_local 0 x)
  layer X Op-F.Down = Flat (leaves.on_operands (λ o. Some ((leaves.top 0 o - 1) ∷ leaves.below o)))
  layer X Op-F.Zero = Flat D.zero_top
  layer X Op-F.Tell = Flat (take_top D.tell)
  layer X Op-F.Keep = Flat (take_top D.keep)
  layer X (Op-F.BrIf l) = Flat (leaves.branch_if (λ o. nat_lt 0 (leaves.top 0 o)) l)
  layer X (Op-F.Block code) = Enclose 0 0 code
  layer X (Op-F.Loop code) = Repeat 0 0 code
  layer X (Op-F.Call x) = Invoke 1 x

  pub layer_over : (X Y : Type 0) (f : X → Y) (l : Op-F X) → layer Y (map-Op X Y f l) ≡ map_form f (layer X l)
  layer_over X Y f Op-F.Down = refl
  layer_over X Y f l = refl

map_twice : {X Y Z : Type 0} (f : X → Y) (g : Y → Z) (xs : List X) → map g (map f xs) ≡ map (λ x. g (f x)) xs
map_twice f g [] = refl
map_twice f g (x ∷ xs) = ap (λ ys. g (f x) ∷ ys) (map_twice f g xs)

pub over_twice : (X Y Z : Type 0) (f : X → Y) (g : Y → Z) (l : Op-F X) → map-Op Y Z g (map-Op X Y f l) ≡ map-Op X Z (λ x. g (f x)) l
over_twice X Y Z f g (Op-F.Block code) = ap (λ c. Op-F.Block c) (map_twice f g code)
over_twice X Y Z f g (Op-F.Loop code) = ap (λ c. Op-F.Loop c) (map_twice f g code)
over_twice X Y Z f g l = refl

pub induct : (P : Op → Type 0) → ((l : Op-F ((i : Op) × P i)) → P (roll-Op (map-Op ((i : Op) × P i) Op (λ x. x.0) l))) → (i : Op) → P i
induct P step =
    ind-Op P (λ l inner e. subst (λ x. P (roll-Op x)) e (subst (λ x. P (roll-Op x)) (over_twice _ _ _ (λ x. (x.0, x.1)) (λ x. x.0) inner) (step (map-Op _ ((i : Op) × P i) (λ x. (x.0, x.1)) inner))))

abbrev pub tree : Tree Op Op-F
tree = record {
  roll = roll-Op;
  over = map-Op;
  fold = fold-Op;
  fold_roll = fold-roll-Op;
  over_twice = over_twice;
  induct = induct;
}

-- the language with these functions
abbrev pub language : {S : Type 0} → Dialect S → List (Function Op ℕ) → Language Op Op-F ℕ S
language D funcs = record {
  tree = tree;
  layer = layer D;
  ready = λ X l p. true;
  layer_over = layer_over D;
  ready_over = λ X Y f l. refl;
  callee = λ x. option_map Own (slice_get funcs x);
}
