-- The typed bodies of a typed module make, with its parts, a typed module that stands for it.
use Rattle.std.proofs.Common.{◌≡◌, ℕ, suc, List, [], ◌∷◌, length, map, Option, Some, None, IfSome, slice_get, IsTrue, MatchOption, refl, ap, sym, subst, ◌∙◌, arith}
use Rattle.std.specs.List.{AllByRecursion}
use Rattle.std.proofs.lemmas.List.{length-map}
use Rattle.wasm_ast.specs.declared.module.code.Body.{Body}
use Rattle.wasm_ast.specs.declared.module.parts.Module.{Module}
use Rattle.wasm_ast.specs.Counts.{Agrees, names_data}
use Rattle.typed_trees.specs.declared.module.TypedFn.{TypedFn}
use Rattle.typed_trees.specs.Typed.{body_of, TypedFuncTree, TypedTrees, IsTypedTree}
use Rattle.valid_new.specs.Annotated.{Found}
use Rattle.valid_mod.specs.Bodies.{filled, BodiesTyped}
use Rattle.valid_mod.specs.Standing.{reachable_body, StandsFor}
use Rattle.valid_mod.proofs.Cutting.{reachable_names}
use Rattle.valid_mod.proofs.Filling.{parts_filled}

-- a typed body among the parts, whatever stands beside them
tree_filled : (m : Module) (bodies : List Body) (place : ℕ) (f : TypedFn) (found : Found m place f) → TypedFuncTree (filled m bodies) found.index f
tree_filled m bodies place f found = record {
  type = found.type;
  declared = found.declared;
  typed = (let t = found.annotated.tree in record { locals = t.locals; end = t.end; nodes = t.nodes; ends = t.ends });
}

-- each function with the tree at its place
trees_from : (m : Module) (indices : List ℕ) (fns : List TypedFn) → length indices ≡ length fns → ((k : ℕ) (f : TypedFn) → slice_get fns k ≡ Some f → (t : ℕ) × (slice_get indices k ≡ Some t) × TypedFuncTree m t f) → TypedTrees m indices fns
trees_from m [] [] e h = tt
trees_from m [] (f ∷ fns) e h = absurd (omega arith)
trees_from m (t ∷ indices) [] e h = absurd (omega arith)
trees_from m (t ∷ indices) (f ∷ fns) e h = (
  (let here = h 0 f refl in let same : here.0 ≡ t = (let both : Some t ≡ Some here.0 = here.1 in cc) in subst (λ x. TypedFuncTree m x f) same here.2),
  trees_from m indices fns (omega arith) (λ k g is. h (suc k) g is),
)

-- each body is the one at its place, without what cannot be reached
bodies_from : (codes : List Body) (fns : List TypedFn) → length codes ≡ length fns → ((k : ℕ) (f : TypedFn) → slice_get fns k ≡ Some f → (b : Body) × (slice_get codes k ≡ Some b) × (body_of f ≡ reachable_body b)) → map body_of fns ≡ map reachable_body codes
bodies_from [] [] e h = refl
bodies_from [] (f ∷ fns) e h = absurd (omega arith)
bodies_from (b ∷ codes) [] e h = absurd (omega arith)
bodies_from (b ∷ codes) (f ∷ fns) e h =
    let here = h 0 f refl in
    let same : here.0 ≡ b = (let both : Some b ≡ Some here.0 = here.1 in cc) in
    ap (λ l. l ∷ map body_of fns) (here.2 ∙ ap reachable_body same)
    ∙ ap (λ l. reachable_body b ∷ l) (bodies_from codes fns (omega arith) (λ k g is. h (suc k) g is))

found_at : (m : Module) (fns : List TypedFn) (k : ℕ) (f : TypedFn) → slice_get fns k ≡ Some f → IfSome (slice_get fns k) (Found m k) → Found m k f
found_at m fns k f e h = subst (λ o. IfSome o (Found m k)) e h

body_found : (m : Module) (k : ℕ) (f : TypedFn) (found : Found m k f) → body_of f ≡ reachable_body found.body
body_found m k f found =
    ap (λ l. let r : Body = record { locals = l; code = (body_of f).code } in r) found.annotated.locals
    ∙ ap (λ l. let r : Body = record { locals = found.body.locals; code = l } in r) found.annotated.code

-- the counts agree without what cannot be reached
names_none : (bodies : List Body) → AllByRecursion (λ body. ¬ (IsTrue (names_data body.code))) bodies → AllByRecursion (λ body. ¬ (IsTrue (names_data body.code))) (map reachable_body bodies)
names_none [] h = tt
names_none (b ∷ bodies) h = (λ n. h.0 (reachable_names b.code n), names_none bodies h.1)

segments_agree : (o : Option ℕ) (n : ℕ) (bodies : List Body) → MatchOption o (AllByRecursion (λ body. ¬ (IsTrue (names_data body.code))) bodies) (λ k. k ≡ n) → MatchOption o (AllByRecursion (λ body. ¬ (IsTrue (names_data body.code))) (map reachable_body bodies)) (λ k. k ≡ n)
segments_agree None n bodies h = names_none bodies h
segments_agree (Some k) n bodies h = h

counts_reachable : (m : Module) → Agrees m → Agrees (filled m (map reachable_body m.codes))
counts_reachable m h = record { bodies = h.bodies ∙ sym (length-map m.codes reachable_body); segments = segments_agree m.data_count (length m.datas) m.codes h.segments }

module _ (m : Module) (fns : List TypedFn) (h : BodiesTyped m fns) where
  same_bodies : map body_of fns ≡ map reachable_body m.codes
  same_bodies = bodies_from m.codes fns (sym h.kept.count) (λ k f is. (let found = found_at m fns k f is (h.kept.found k) in (found.body, found.code, body_found m k f found)))

  pub whole_tree : (parts : Module) → parts ≡ filled m [] → IsTypedTree (parts, fns)
  whole_tree parts e = subst (λ p. IsTypedTree (p, fns)) (sym e) (record {
    no_bodies = refl;
    counts = subst (λ l. Agrees (filled m l)) (sym same_bodies) (counts_reachable m h.typed.counts);
    parts = parts_filled m (map body_of fns) h.typed.parts;
    trees = trees_from (filled m (map body_of fns)) m.funcs fns (h.typed.counts.bodies ∙ sym h.kept.count) (λ k f is. (let found = found_at m fns k f is (h.kept.found k) in (found.index, found.func, tree_filled m (map body_of fns) k f found)));
  })

  pub stands : (parts : Module) → parts ≡ filled m [] → StandsFor m (parts, fns)
  stands parts e = record { part = e; bodies = same_bodies }
