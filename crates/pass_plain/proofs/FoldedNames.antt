-- Folded expressions name no function, and what a module names outside its functions stays.
use Rattle.std.proofs.Common.{◌≡◌, ℕ, zero, suc, ◌+◌, ◌≤◌, Bool, true, false, not, ◌||◌, List, [], ◌∷◌, ◌++◌, map, length, replicate, Option, Some, None, refl, sym, ap, ◌∙◌, subst, arith}
use Rattle.std.specs.Prelude.{slice_get, slice_set, option_and_then, unwrap_or}
use Rattle.std.specs.List.{AllByRecursion, list_any, flat_map}
use Rattle.wasm_ast.specs.Fold.{known_at, after_instr, after_code, only, fold_of, known_globals}
use Rattle.wasm_ast.specs.Marking.{marked, is_marked}
use Rattle.wasm_ast.specs.Occurrence.{head, head_of}
use Rattle.wasm_ast.specs.Spaces.{is_global, imported, func_indices}
use Rattle.wasm_ast.specs.declared.folding.folded.Folded.{Folded}
use Rattle.wasm_ast.specs.declared.folding.folded.Folded.TheVariants.{I32, I64, Imported}
use Rattle.wasm_ast.specs.declared.module.ty.Ty.{Ty}
use Rattle.wasm_ast.specs.declared.module.ty.Ty.TheVariants as types
use Rattle.wasm_ast.specs.declared.module.op.Op.TheVariants as ops
use Rattle.wasm_ast.specs.declared.module.code.Instr.{Instr, out-Instr}
use Rattle.wasm_ast.specs.declared.module.code.Instr.TheOpen.{Instr-F}
use Rattle.wasm_ast.specs.declared.module.parts.Element.{Element}
use Rattle.wasm_ast.specs.declared.module.parts.Global.{Global}
use Rattle.wasm_ast.specs.declared.module.parts.Mode.{Mode}
use Rattle.wasm_ast.specs.declared.module.parts.Mode.TheVariants.{Active, Passive, Declarative}
use Rattle.wasm_ast.specs.declared.module.parts.Segment.{Segment}
use Rattle.wasm_ast.specs.declared.module.parts.Module.{Module}
use Rattle.typed_trees.specs.Modules.{func_named, func_exported, named_in, named_in_offset, named_in_element, named_outside}
use Rattle.pass_plain.specs.Folding.{folded_instr, folded_code, folded_mode, folded_elem, folded_data, zero_of, folded_global, folded_globals, folded_part}
use Rattle.pass_plain.proofs.FoldedGlobals.{out_pure, out_get}

-- code that folds
instr_named : (known : List (Option Folded)) (l : Instr-F Instr) (stack after : List Folded) → after_instr known (head l) stack ≡ Some after → func_named (head l) ≡ []
instr_named known (Instr-F.Pure (ops.RefFunc x)) stack after e = let no : ⊥ = cc in absurd no
instr_named known l stack after e = refl

code_named : (known : List (Option Folded)) (code : List Instr) (stack after : List Folded) → after_code known code stack ≡ Some after → named_in code ≡ []
code_named known [] stack after e = refl
code_named known (i ∷ code) stack after e = next (after_instr known (head_of i) stack) refl e (λ between. code_named known code between after)
  where
    next : (o : Option (List Folded)) → after_instr known (head_of i) stack ≡ o → option_and_then (after_code known code) o ≡ Some after → ((between : List Folded) → after_code known code between ≡ Some after → named_in code ≡ []) → named_in (i ∷ code) ≡ []
    next None f g rest = let no : ⊥ = cc in absurd no
    next (Some between) f g rest = ap (λ l. l ++ named_in code) (instr_named known (out-Instr i) stack between f) ∙ rest between g

fold_named : (known : List (Option Folded)) (code : List Instr) (v : Folded) → fold_of known code ≡ Some v → named_in code ≡ []
fold_named known code v e = by (after_code known code []) refl e
  where
    by : (o : Option (List Folded)) → after_code known code [] ≡ o → option_and_then only o ≡ Some v → named_in code ≡ []
    by None f g = let no : ⊥ = cc in absurd no
    by (Some after) f g = code_named known code [] after f

-- what it folds to, and a zero
folded_named : (v : Folded) → named_in (folded_instr v ∷ []) ≡ []
folded_named (I32 n) = ap (λ l. func_named (head l) ++ []) (out_pure (ops.I32Const n))
folded_named (I64 n) = ap (λ l. func_named (head l) ++ []) (out_pure (ops.I64Const n))
folded_named (Imported j t) = ap (λ l. func_named (head l) ++ []) (out_get j)

zero_named : (t : Ty) → named_in (zero_of t ∷ []) ≡ []
zero_named types.I64 = ap (λ l. func_named (head l) ++ []) (out_pure (ops.I64Const 0))
zero_named t = ap (λ l. func_named (head l) ++ []) (out_pure (ops.I32Const 0))

offset_named : (known : List (Option Folded)) (mode : Mode) → named_in_offset (folded_mode known mode) ≡ named_in_offset mode
offset_named known Passive = refl
offset_named known Declarative = refl
offset_named known (Active x offset) = by (fold_of known offset) refl
  where
    by : (o : Option Folded) → fold_of known offset ≡ o → named_in (folded_code offset o) ≡ named_in offset
    by None e = refl
    by (Some v) e = folded_named v ∙ sym (fold_named known offset v e)

elems_named : (known : List (Option Folded)) (es : List Element) → flat_map named_in_element (map (folded_elem known) es) ≡ flat_map named_in_element es
elems_named known [] = refl
elems_named known (e ∷ es) =
    ap (λ l. (l ++ flat_map named_in e.items) ++ flat_map named_in_element (map (folded_elem known) es)) (offset_named known e.mode)
    ∙ ap (λ l. named_in_element e ++ l) (elems_named known es)

datas_named : (known : List (Option Folded)) (ds : List Segment) → flat_map (λ s. named_in_offset s.mode) (map (folded_data known) ds) ≡ flat_map (λ s. named_in_offset s.mode) ds
datas_named known [] = refl
datas_named known (d ∷ ds) =
    ap (λ l. l ++ flat_map (λ s. named_in_offset s.mode) (map (folded_data known) ds)) (offset_named known d.mode)
    ∙ ap (λ l. named_in_offset d.mode ++ l) (datas_named known ds)

global_named : (g : Global) (k : Option Folded) → named_in (folded_global g k).init ≡ []
global_named g (Some v) = folded_named v
global_named g None = zero_named g.ty

globals_named : (known : List (Option Folded)) (x : ℕ) (gs : List Global) → AllByRecursion (λ g. named_in g.init ≡ []) gs → flat_map (λ g. named_in g.init) (folded_globals known x gs) ≡ flat_map (λ g. named_in g.init) gs
globals_named known x [] h = refl
globals_named known x (g ∷ gs) h =
    ap (λ l. l ++ flat_map (λ i. named_in i.init) (folded_globals known (x + 1) gs)) (global_named g (known_at known x) ∙ sym h.0)
    ∙ ap (λ l. named_in g.init ++ l) (globals_named known (x + 1) gs h.1)

-- The lemma.
pub outside_stays : (m : Module) → AllByRecursion (λ g. named_in g.init ≡ []) m.globals → named_outside (folded_part m) ≡ named_outside m
outside_stays m h =
    let known = known_globals m in
    let tables = flat_map (λ t. named_in (unwrap_or t.init [])) m.tables in
    let named : List ℕ → List ℕ → List ℕ → List ℕ = λ gs es ds. tables ++ gs ++ flat_map (λ e. func_exported e.desc) m.exports ++ es ++ ds in
    ap (λ l. named l (flat_map named_in_element (map (folded_elem known) m.elems)) (flat_map (λ s. named_in_offset s.mode) (map (folded_data known) m.datas))) (globals_named known (imported is_global m) m.globals h)
    ∙ ap (λ l. named (flat_map (λ g. named_in g.init) m.globals) l (flat_map (λ s. named_in_offset s.mode) (map (folded_data known) m.datas))) (elems_named known m.elems)
    ∙ ap (named (flat_map (λ g. named_in g.init) m.globals) (flat_map named_in_element m.elems)) (datas_named known m.datas)

-- flags of which each is set where it is set in the first list
abbrev Under : List Bool → List Bool → Type 0
Under [] gs = Unit {0}
Under (f ∷ fs) [] = ⊥
Under (f ∷ fs) (g ∷ gs) = (f ≡ true → g ≡ true) × Under fs gs

set_under : (fs gs : List Bool) (x : ℕ) → Under fs gs → Under (slice_set fs x true) (slice_set gs x true)
set_under [] gs x h = tt
set_under (f ∷ fs) [] x h = absurd h
set_under (f ∷ fs) (g ∷ gs) zero h = ((λ e. refl), h.1)
set_under (f ∷ fs) (g ∷ gs) (suc x) h = (h.0, set_under fs gs x h.1)

marked_under : (l : List ℕ) (fs gs : List Bool) → Under fs gs → Under (marked l fs) (marked l gs)
marked_under [] fs gs h = h
marked_under (x ∷ l) fs gs h = marked_under l (slice_set fs x true) (slice_set gs x true) (set_under fs gs x h)

begin_under : (a b : ℕ) → a ≤ b → Under (replicate a false) (replicate b false)
begin_under zero b h = tt
begin_under (suc a) zero h = let no : ⊥ = omega (arith, h) in absurd no
begin_under (suc a) (suc b) h = ((λ e. e), begin_under a b (omega (arith, h)))

under_at : (fs gs : List Bool) → Under fs gs → (x : ℕ) → is_marked fs x ≡ true → is_marked gs x ≡ true
under_at [] gs h x e = let no : ⊥ = cc in absurd no
under_at (f ∷ fs) [] h x e = absurd h
under_at (f ∷ fs) (g ∷ gs) h zero e = h.0 e
under_at (f ∷ fs) (g ∷ gs) h (suc x) e = under_at fs gs h.1 x e

-- what is marked among fewer functions is marked among more
pub marked_more : (l : List ℕ) (a b : ℕ) → a ≤ b → (x : ℕ) → is_marked (marked l (replicate a false)) x ≡ true → is_marked (marked l (replicate b false)) x ≡ true
marked_more l a b h = under_at (marked l (replicate a false)) (marked l (replicate b false)) (marked_under l (replicate a false) (replicate b false) (begin_under a b h))
