-- Code without what cannot be reached names no data segment that the code does not name.
use Rattle.std.proofs.Common.{◌≡◌, Bool, true, false, ◌||◌, List, [], ◌∷◌, ◌++◌, map, refl, ap, sym, subst, ◌∙◌}
use Rattle.wasm_ast.specs.declared.module.code.Instr.{Instr, out-Instr, roll-Instr, out-roll-Instr}
use Rattle.wasm_ast.specs.declared.module.code.Instr.TheOpen.{Instr-F}
use Rattle.wasm_ast.specs.declared.module.code.Instr.TheFolds.{map-Instr, ind-Instr}
use Rattle.wasm_ast.specs.Counts.{is_data_use, names_data}
use Rattle.wasm_ast.specs.Occurrence.{head, inside, some}
use Rattle.wasm_ast.proofs.Bodies.{some-out, some_in-append}
use Rattle.typed_trees.specs.Trees.{first_body, leaves, second_body, reachable, reachable_code, unless_left, with_bodies}
use Rattle.valid_new.proofs.Holding.{reachable_out}

-- the first is true only where the second is
abbrev Implies : Bool → Bool → Type 0
Implies a b = a ≡ true → b ≡ true

or_implies : (a b c d : Bool) → Implies a c → Implies b d → Implies (a || b) (c || d)
or_implies true b c d f g e = ap (λ x. x || d) (f refl)
or_implies false b true d f g e = refl
or_implies false b false d f g e = g e

-- whether the instruction names a data segment, at any depth
abbrev names : Instr → Bool
names = some is_data_use

abbrev names_layer : Instr-F Instr → Bool
names_layer l = is_data_use (head l) || names_data (inside l)

names_out : (i : Instr) → names i ≡ names_layer (out-Instr i)
names_out i = some-out is_data_use i

names_roll : (l : Instr-F Instr) → names (roll-Instr l) ≡ names_layer l
names_roll l = names_out (roll-Instr l) ∙ ap names_layer (out-roll-Instr l)

-- the same of an instruction and of what can be reached in it
abbrev IsLess : Instr → Type 0
IsLess i = Implies (names (reachable i)) (names i)

-- instructions of which it holds
abbrev Proved : Type 0
Proved = (i : Instr) × IsLess i

abbrev code_of : List Proved → List Instr
code_of es = map (λ e. e.0) es

rest_less : (b : Bool) (code other : List Instr) → Implies (names_data code) (names_data other) → Implies (names_data (unless_left b code)) (names_data other)
rest_less true code other f e = let no : ⊥ = cc in absurd no
rest_less false code other f e = f e

code_less : (es : List Proved) → Implies (names_data (reachable_code (code_of es))) (names_data (code_of es))
code_less [] e = e
code_less (x ∷ es) e =
    or_implies (names (reachable x.0)) (names_data (unless_left (leaves (reachable x.0)) (reachable_code (code_of es)))) (names x.0) (names_data (code_of es))
    x.1 (rest_less (leaves (reachable x.0)) (reachable_code (code_of es)) (code_of es) (code_less es)) e

-- an instruction laid open, and what can be reached in it
abbrev cut_layer : Instr-F Instr → Instr-F Instr
cut_layer l = with_bodies l (reachable_code (first_body l)) (reachable_code (second_body l))

abbrev layer_of : Instr-F Proved → Instr-F Instr
layer_of = map-Instr Proved Instr (λ e. e.0)

two_less : (es fs : List Proved) → Implies (names_data (reachable_code (code_of es) ++ reachable_code (code_of fs))) (names_data (code_of es ++ code_of fs))
two_less es fs e =
    some_in-append is_data_use (code_of es) (code_of fs)
    ∙ or_implies (names_data (reachable_code (code_of es))) (names_data (reachable_code (code_of fs))) (names_data (code_of es)) (names_data (code_of fs)) (code_less es) (code_less fs)
    (sym (some_in-append is_data_use (reachable_code (code_of es)) (reachable_code (code_of fs))) ∙ e)

layer_less : (l : Instr-F Proved) → Implies (names_layer (cut_layer (layer_of l))) (names_layer (layer_of l))
layer_less (Instr-F.Block type code) e = code_less code e
layer_less (Instr-F.Loop type code) e = code_less code e
layer_less (Instr-F.If type first second) e = two_less first second e
layer_less (Instr-F.TryTable type clauses code) e = code_less code e
layer_less _ e = e

reachable_roll : (l : Instr-F Instr) → reachable (roll-Instr l) ≡ roll-Instr (cut_layer l)
reachable_roll l = reachable_out (roll-Instr l) ∙ ap (λ x. roll-Instr (cut_layer x)) (out-roll-Instr l)

rolled_less : (x : Instr-F Instr) (y : Instr-F Proved) → layer_of y ≡ x → IsLess (roll-Instr x)
rolled_less x y is e =
    names_roll x
    ∙ subst (λ l. Implies (names_layer (cut_layer l)) (names_layer l)) is (layer_less y)
    (sym (names_roll (cut_layer x)) ∙ sym (ap names (reachable_roll x)) ∙ e)

instr_less : (i : Instr) → IsLess i
instr_less = ind-Instr IsLess rolled_less

proved : List Instr → List Proved
proved = map (λ i. let e : Proved = (i, instr_less i) in e)

code_of-proved : (code : List Instr) → code_of (proved code) ≡ code
unfolding proved
code_of-proved [] = refl
code_of-proved (i ∷ code) = ap (λ l. i ∷ l) (code_of-proved code)

pub reachable_names : (code : List Instr) → names_data (reachable_code code) ≡ true → names_data code ≡ true
reachable_names code = subst (λ l. Implies (names_data (reachable_code l)) (names_data l)) (code_of-proved code) (code_less (proved code))
