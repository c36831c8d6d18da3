-- Numbers that are set one after another.
use Rattle.std.proofs.Common.{◌≡◌, ℕ, Bool, List, [], ◌∷◌, ◌++◌, map, refl, ap, ◌∙◌}
use Rattle.std.specs.List.{flat_map}
use Rattle.std.proofs.lemmas.List.Concat.{flat_map-append}
use Rattle.wasm_ast.specs.declared.module.code.Instr.{Instr, out-Instr}
use Rattle.wasm_ast.specs.declared.module.code.Instr.TheFolds.{map-Instr, fold_out-Instr}
use Rattle.wasm_ast.specs.Occurrence.{head_of, inside}
use Rattle.wasm_ast.specs.Kept.{type_called, called, called_in, called_step}
use Rattle.wasm_ast.specs.Marking.{marked}
use Rattle.wasm_ast.proofs.Bodies.{head-map, inside-map}

pub marked-append : (xs ys : List ℕ) (flags : List Bool) → marked (xs ++ ys) flags ≡ marked ys (marked xs flags)
marked-append [] ys flags = refl
marked-append (x ∷ xs) ys flags = marked-append xs ys _

joined-map : {A : Type 0} (f : A → List ℕ) (xs : List A) → flat_map (λ ts. ts) (map f xs) ≡ flat_map f xs
joined-map f [] = refl
joined-map f (x ∷ xs) = ap (λ l. f x ++ l) (joined-map f xs)

-- what an instruction calls by, by itself and in its bodies
pub called-out : (i : Instr) → called i ≡ type_called (head_of i) ++ called_in (inside (out-Instr i))
called-out i =
    fold_out-Instr (List ℕ) called_step i
    ∙ ap (λ h. type_called h ++ flat_map (λ ts. ts) (inside (map-Instr Instr (List ℕ) called (out-Instr i)))) (head-map called (out-Instr i))
    ∙ ap (λ l. type_called (head_of i) ++ flat_map (λ ts. ts) l) (inside-map called (out-Instr i))
    ∙ ap (λ l. type_called (head_of i) ++ l) (joined-map called (inside (out-Instr i)))

pub called_in-append : (xs ys : List Instr) → called_in (xs ++ ys) ≡ called_in xs ++ called_in ys
called_in-append xs ys = flat_map-append called xs ys

pub ruleset marking = (marked-append, called-out, called_in-append)
