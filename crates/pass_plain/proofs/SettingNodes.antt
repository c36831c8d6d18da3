-- The typed tree without constant expressions that compute stands for the module without them.
use Rattle.std.proofs.Common.{◌≡◌, ℕ, ◌+◌, List, [], ◌∷◌, ◌++◌, map, Option, Some, None, refl, sym, ap, ◌∙◌}
use Rattle.std.specs.List.{AllByRecursion}
use Rattle.std.proofs.lemmas.List.{map-append}
use Rattle.wasm_ast.specs.Fold.{known_at, known_globals}
use Rattle.wasm_ast.specs.Spaces.{is_global, imported, global_types}
use Rattle.wasm_ast.specs.declared.folding.folded.Folded.{Folded}
use Rattle.wasm_ast.specs.declared.module.code.Body.{Body}
use Rattle.wasm_ast.specs.declared.module.code.Instr.{Instr, out-Instr, roll-Instr, roll-out-Instr, out-roll-Instr}
use Rattle.wasm_ast.specs.declared.module.code.Instr.TheOpen.{Instr-F}
use Rattle.wasm_ast.specs.declared.module.code.Instr.TheVariants.{GlobalSet, Call}
use Rattle.wasm_ast.specs.declared.module.parts.Global.{Global}
use Rattle.wasm_ast.specs.declared.module.parts.Module.{Module}
use Rattle.wasm_ast.specs.declared.module.ty.Ty.{Ty}
use Rattle.typed_trees.specs.declared.module.TypedFn.{TypedFn}
use Rattle.typed_trees.specs.Trees.{with_bodies, erase, erased}
use Rattle.typed_trees.specs.Typed.{body_of, module_of}
use Rattle.stage_kit.specs.Prepared.{call_start}
use Rattle.stage_kit.proofs.Erased.{erase_made}
use Rattle.stage_kit.proofs.Lists.{all_append}
use Rattle.stage_kit.proofs.Unchanged.{call_rolled}
use Rattle.pass_plain.specs.Constants.{Reads, IsSettable, AreSettable}
use Rattle.pass_plain.specs.Folding.{folded_part, set_global, set_globals, setting_code, start_body, start_fns, started_part, started, setting_types, setting_node, without_constants, tree_without_constants}
use Rattle.pass_plain.proofs.FoldedGlobals.{out_set}

-- an instruction without bodies
abbrev IsLeaf : Instr → Type 0
IsLeaf i = with_bodies (out-Instr i) [] [] ≡ out-Instr i

reads_leaf : (x : ℕ) (l : Instr-F Instr) → Reads x l → with_bodies l [] [] ≡ l
reads_leaf x (Instr-F.Pure op) h = refl
reads_leaf x (Instr-F.GlobalGet y) h = refl
reads_leaf x l h = absurd h

set_leaf : (x : ℕ) → IsLeaf (GlobalSet x)
set_leaf x = ap (λ l. with_bodies l [] []) (out_set x) ∙ sym (out_set x)

call_leaf : (f : ℕ) → IsLeaf (Call f)
call_leaf f =
    let e : out-Instr (Call f) ≡ Instr-F.Call f = ap out-Instr (sym (call_rolled f)) ∙ out-roll-Instr (Instr-F.Call f) in
    ap (λ l. with_bodies l [] []) e ∙ sym e

code_leaves : (x : ℕ) (code : List Instr) → IsSettable x code → AllByRecursion IsLeaf code
code_leaves x [] h = tt
code_leaves x (i ∷ code) h = (reads_leaf x (out-Instr i) h.0, code_leaves x code h.1)

one_leaves : (x : ℕ) (code : List Instr) (k : Option Folded) → IsSettable x code → AllByRecursion IsLeaf (set_global x code k)
one_leaves x code (Some v) h = tt
one_leaves x code None h = all_append IsLeaf code (GlobalSet x ∷ []) (code_leaves x code h) (set_leaf x, tt)

all_leaves : (all : List (Option Folded)) (x : ℕ) (gs : List Global) → AreSettable x gs → AllByRecursion IsLeaf (set_globals all x gs)
all_leaves all x [] h = tt
all_leaves all x (g ∷ gs) h = all_append IsLeaf (set_global x g.init (known_at all x)) (set_globals all (x + 1) gs) (one_leaves x g.init (known_at all x) h.0) (all_leaves all (x + 1) gs h.2)

start_leaves : (start : Option ℕ) → AllByRecursion IsLeaf (call_start start)
start_leaves None = tt
start_leaves (Some f) = (call_leaf f, tt)

-- their nodes stand for them
module _ (globals : List Ty) where
  node_erased : (i : Instr) → IsLeaf i → erase (setting_node globals i) ≡ i
  node_erased i h = erase_made i (setting_types globals (out-Instr i)).0 (setting_types globals (out-Instr i)).1 [] [] ∙ ap roll-Instr h ∙ roll-out-Instr i

  nodes_erased : (code : List Instr) → AllByRecursion IsLeaf code → erased (map (setting_node globals) code) ≡ code
  nodes_erased [] h = refl
  nodes_erased (i ∷ code) h = ap (λ j. j ∷ erased (map (setting_node globals) code)) (node_erased i h.0) ∙ ap (λ l. i ∷ l) (nodes_erased code h.1)

module _ (t : Module × List TypedFn) (h : AreSettable (imported is_global t.0) t.0.globals) where
  by_code : (code : List Instr) → AllByRecursion IsLeaf code → module_of (started_part code (folded_part t.0), t.1 ++ start_fns t.0 code) ≡ started (module_of t) code
  by_code [] c = ap (λ (l : List Body). record (folded_part t.0) { codes = l }) (map-append body_of t.1 [])
  by_code (i ∷ code) c =
      let new = start_body t.0.start (i ∷ code) in
      ap (λ (l : List Body). record (started_part (i ∷ code) (folded_part t.0)) { codes = l }) (map-append body_of t.1 (start_fns t.0 (i ∷ code)))
      ∙ ap (λ l. record (started_part (i ∷ code) (folded_part t.0)) { codes = map body_of t.1 ++ record { locals = []; code = l } ∷ [] }) (nodes_erased (global_types t.0) new (all_append IsLeaf (i ∷ code) (call_start t.0.start) c (start_leaves t.0.start)))

  -- The lemma.
  pub tree_stands : module_of (tree_without_constants t) ≡ without_constants (module_of t)
  tree_stands = by_code (setting_code t.0) (all_leaves (known_globals t.0) (imported is_global t.0) t.0.globals h)
