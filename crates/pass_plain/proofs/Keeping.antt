-- What a rewriting owes that keeps each body as a function, and what then holds of the bodies of a module.
use Rattle.std.proofs.Common.{◌≡◌, ℕ, suc, Bool, true, false, IsTrue, ◌||◌, List, [], ◌∷◌, ◌++◌, length, map, Option, refl, sym, ap, ◌∙◌, subst}
use Rattle.std.specs.List.{list_any, flat_map, AllByRecursion}
use Rattle.host_kit.specs.Pairwise.{Pairwise}
use Rattle.wasm_ast.specs.declared.features.kind.Feature.{Feature}
use Rattle.wasm_ast.specs.declared.module.ty.Ty.{Ty}
use Rattle.wasm_ast.specs.declared.module.code.Instr.{Instr}
use Rattle.wasm_ast.specs.declared.module.code.Body.{Body}
use Rattle.wasm_ast.specs.declared.module.parts.Export.{Export}
use Rattle.wasm_ast.specs.declared.module.parts.Module.{Module}
use Rattle.wasm_ast.specs.Counts.{is_data_use, names_data}
use Rattle.wasm_ast.specs.Features.{type_shows}
use Rattle.wasm_ast.specs.Kept.{called, called_in}
use Rattle.wasm_ast.specs.Occurrence.{Head, some, some_in}
use Rattle.typed_trees.specs.declared.module.TypedFn.{TypedFn}
use Rattle.typed_trees.specs.declared.node.Node.{Node}
use Rattle.typed_trees.specs.Contexts.{Context}
use Rattle.typed_trees.specs.Trees.{erased, TypedNodes}
use Rattle.typed_trees.specs.Typed.{body_of}
use Rattle.evaluation_kit.specs.Configurations.{Sem}
use Rattle.meaning_new.specs.declared.val.Val.{Val}
use Rattle.meaning_new.specs.Store.{State}
use Rattle.rewriting_kit.specs.Rewrites.{Layer, rewritten}
use Rattle.pass_plain.specs.Bodies.{rewritten_functions}
use Rattle.pass_plain.proofs.Evaluations.{functions, old, new, runs_alike}
use Rattle.pass_plain.proofs.Occurrences.{Overlooks, overlooks_data, tests, names, read_any, read_called}
use Rattle.pass_plain.proofs.Readings.{OwesAlike, code_alike}
use Rattle.pass_plain.proofs.Runs.{SameBody}

module _ {E : Type 0} (entry : Instr → E) (layer : Layer E) where
  -- What becomes of a node does what the node does, in any module with other bodies, exports and count of data segments;
  -- tests that see neither nops nor arithmetic see as much in it, it names as many types of indirect calls, and code that
  -- is typed stays so.
  pub record Keeps : Type 0 where
    pub runs : (m : Module) (codes : List Body) (exports : List Export) (count : Option ℕ) (funcs : ℕ → Sem Val State) → OwesAlike functions (old m codes exports count funcs) (new m codes exports count funcs) entry layer
    pub seen : (p : Head → Bool) → Overlooks p → OwesAlike tests (some p) (some p) entry layer
    pub named : OwesAlike names called called entry layer
    pub typed : (c : Context) (ls : List (List Ty)) (nodes : List Node) (start : List Ty) (end : Option (List Ty)) → TypedNodes c ls nodes start end → TypedNodes c ls (rewritten entry layer nodes []) start end

module _ {E : Type 0} (entry : Instr → E) (layer : Layer E) where
  abbrev pub new_bodies : List TypedFn → List Body
  new_bodies fns = map body_of (rewritten_functions entry layer fns)

  -- a test that sees as much in rewritten code
  pub some_alike : (p q : Head → Bool) → OwesAlike tests (some p) (some q) entry layer → (nodes : List Node) → some_in q (erased (rewritten entry layer nodes [])) ≡ some_in p (erased nodes)
  some_alike p q h nodes =
      sym (read_any (some q) (erased (rewritten entry layer nodes [])))
      ∙ sym (code_alike tests (some p) (some q) entry layer h nodes [])
      ∙ read_any (some p) (erased nodes)

  pub bodies_seen : (p : Head → Bool) → OwesAlike tests (some p) (some p) entry layer → (fns : List TypedFn) → list_any (λ b. some_in p b.code) (new_bodies fns) ≡ list_any (λ b. some_in p b.code) (map body_of fns)
  bodies_seen p h [] = refl
  bodies_seen p h (f ∷ fns) =
      ap (λ b. b || list_any (λ b'. some_in p b'.code) (new_bodies fns)) (some_alike p p h f.body)
      ∙ ap (λ b. some_in p (erased f.body) || b) (bodies_seen p h fns)

  called_same : OwesAlike names called called entry layer → (nodes : List Node) → called_in (erased (rewritten entry layer nodes [])) ≡ called_in (erased nodes)
  called_same h nodes =
      sym (read_called (erased (rewritten entry layer nodes [])))
      ∙ sym (code_alike names called called entry layer h nodes [])
      ∙ read_called (erased nodes)

  pub bodies_called : OwesAlike names called called entry layer → (fns : List TypedFn) → flat_map (λ b. called_in b.code) (new_bodies fns) ≡ flat_map (λ b. called_in b.code) (map body_of fns)
  bodies_called h [] = refl
  bodies_called h (f ∷ fns) =
      ap (λ l. l ++ flat_map (λ b. called_in b.code) (new_bodies fns)) (called_same h f.body)
      ∙ ap (λ l. called_in (erased f.body) ++ l) (bodies_called h fns)

  pub locals_same : (f : Feature) (fns : List TypedFn) → list_any (λ b. list_any (type_shows f) b.locals) (new_bodies fns) ≡ list_any (λ b. list_any (type_shows f) b.locals) (map body_of fns)
  locals_same f [] = refl
  locals_same f (g ∷ fns) = ap (λ b. list_any (type_shows f) g.locals || b) (locals_same f fns)

  -- each body does what the body at its place does
  pub bodies_alike : (m : Module) (codes : List Body) (exports : List Export) (count : Option ℕ)
      → ((funcs : ℕ → Sem Val State) → OwesAlike functions (old m codes exports count funcs) (new m codes exports count funcs) entry layer)
      → (fns : List TypedFn) → Pairwise (SameBody m codes exports count) (map body_of fns) (new_bodies fns)
  bodies_alike m codes exports count h [] = tt
  bodies_alike m codes exports count h (f ∷ fns) = (
    record {
      locals = refl;
      code = λ funcs. runs_alike m codes exports count funcs (erased f.body) (erased (rewritten entry layer f.body [])) (code_alike functions (old m codes exports count funcs) (new m codes exports count funcs) entry layer (h funcs) f.body []);
    },
    bodies_alike m codes exports count h fns,
  )

  pub as_many : (fns : List TypedFn) → length (new_bodies fns) ≡ length (map body_of fns)
  as_many [] = refl
  as_many (f ∷ fns) = ap suc (as_many fns)

  -- where no body names a data segment, none does
  pub names_none : Keeps entry layer → (fns : List TypedFn) → AllByRecursion (λ body. ¬ (IsTrue (names_data body.code))) (map body_of fns) → AllByRecursion (λ body. ¬ (IsTrue (names_data body.code))) (new_bodies fns)
  names_none keeps [] h = tt
  names_none keeps (f ∷ fns) h = (λ n. h.0 (subst IsTrue (some_alike is_data_use is_data_use (keeps.seen is_data_use overlooks_data) f.body) n), names_none keeps fns h.1)

pub unnamed : (b : Bool) → b ≡ false → ¬ (IsTrue b)
unnamed b e h = let no : false ≡ true = sym e ∙ h in absurd cc

-- parts and bodies that are these
abbrev tree_of : Module → List TypedFn → Module × List TypedFn
tree_of part fns = (part, fns)

pub same_tree : (part part' : Module) (fns fns' : List TypedFn) → part ≡ part' → fns ≡ fns' → tree_of part fns ≡ tree_of part' fns'
same_tree part part' fns fns' e e' = ap (λ p. tree_of p fns) e ∙ ap (tree_of part') e'

-- what holds of a tree holds of parts and functions that are its own
pub at_tree : (P : Module × List TypedFn → Type 0) (t : Module × List TypedFn) (part : Module) (fns : List TypedFn) → part ≡ t.0 → fns ≡ t.1 → P t → P (tree_of part fns)
at_tree P t part fns e e' h = subst P (sym (same_tree part t.0 fns t.1 e e')) h
