-- The language of a module: its instructions as a tree, their forms, and its functions.
use Rattle.std.specs.Prelude.{◌≡◌, true, List, [], ◌∷◌, map, refl}
use Rattle.std.proofs.Common.{ap, ◌∙◌, subst}
use Rattle.wasm_ast.specs.declared.module.code.Instr.{Instr, roll-Instr}
use Rattle.wasm_ast.specs.declared.module.code.Instr.TheOpen.{Instr-F}
use Rattle.wasm_ast.specs.declared.module.code.Instr.TheFolds.{map-Instr, fold-Instr, fold-roll-Instr, ind-Instr}
use Rattle.wasm_ast.specs.declared.module.parts.Module.{Module}
use Rattle.evaluation_kit.specs.Forms.{map_form}
use Rattle.evaluation_kit.specs.Languages.{Tree, Language}
use Rattle.meaning_new.specs.declared.val.Val.{Val}
use Rattle.meaning_new.specs.Store.{State}
use Rattle.meaning_new.specs.Forms.{layer, callee}

pub map_twice : {X Y Z : Type 0} (f : X → Y) (g : Y → Z) (xs : List X) → map g (map f xs) ≡ map (λ x. g (f x)) xs
map_twice f g [] = refl
map_twice f g (x ∷ xs) = ap (λ ys. g (f x) ∷ ys) (map_twice f g xs)

pub over_twice : (X Y Z : Type 0) (f : X → Y) (g : Y → Z) (l : Instr-F X) → map-Instr Y Z g (map-Instr X Y f l) ≡ map-Instr X Z (λ x. g (f x)) l
over_twice X Y Z f g (Instr-F.Block t code) = ap (λ c. Instr-F.Block t c) (map_twice f g code)
over_twice X Y Z f g (Instr-F.Loop t code) = ap (λ c. Instr-F.Loop t c) (map_twice f g code)
over_twice X Y Z f g (Instr-F.If t first second) =
    ap (λ c. Instr-F.If t c (map g (map f second))) (map_twice f g first) ∙ ap (λ c. Instr-F.If t (map (λ x. g (f x)) first) c) (map_twice f g second)
over_twice X Y Z f g (Instr-F.TryTable t clauses code) = ap (λ c. Instr-F.TryTable t clauses c) (map_twice f g code)
over_twice X Y Z f g l = refl

pub induct : (P : Instr → Type 0) → ((l : Instr-F ((i : Instr) × P i)) → P (roll-Instr (map-Instr ((i : Instr) × P i) Instr (λ x. x.0) l))) → (i : Instr) → P i
induct P step =
    ind-Instr P (λ l inner e. subst (λ x. P (roll-Instr x)) e (subst (λ x. P (roll-Instr x)) (over_twice _ _ _ (λ x. (x.0, x.1)) (λ x. x.0) inner) (step (map-Instr _ ((i : Instr) × P i) (λ x. (x.0, x.1)) inner))))

-- instructions as a tree
abbrev pub tree : Tree Instr Instr-F
tree = record {
  roll = roll-Instr;
  over = map-Instr;
  fold = fold-Instr;
  fold_roll = fold-roll-Instr;
  over_twice = over_twice;
  induct = induct;
}

-- the form of an instruction does not ask what its bodies hold
pub layer_over : (m : Module) (X Y : Type 0) (f : X → Y) (l : Instr-F X) → layer m Y (map-Instr X Y f l) ≡ map_form f (layer m X l)
layer_over m X Y f Instr-F.Nop = refl
layer_over m X Y f l = refl

-- the language in which a module is written
abbrev pub language : Module → Language Instr Instr-F Val State
language m = record {
  tree = tree;
  layer = layer m;
  ready = λ X l p. true;
  layer_over = layer_over m;
  ready_over = λ X Y f l. refl;
  callee = callee m;
}
