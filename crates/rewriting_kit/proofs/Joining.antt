-- Typed code over more operands, and one after another.
use Rattle.std.proofs.Common.{◌≡◌, List, [], ◌∷◌, ◌++◌, option_map, Option, Some, None, sym, ap, subst, append_assoc}
use Rattle.wasm_ast.specs.declared.module.ty.Ty.{Ty}
use Rattle.typed_trees.specs.declared.node.Node.{Node}
use Rattle.typed_trees.specs.Contexts.{Context}
use Rattle.typed_trees.specs.Trees.{leaves, takes_of, gives_of, TypedNodes, none, more, last}

value_or : {A : Type 0} → A → Option A → A
value_or a None = a
value_or a (Some x) = x

pub some_same : {A : Type 0} (x y : A) → Some x ≡ Some y → x ≡ y
unfolding value_or
some_same x y e = ap (value_or x) e

module _ (c : Context) (ls : List (List Ty)) where
  pub over : (b : List Ty) (nodes : List Node) (start : List Ty) (end : Option (List Ty)) → TypedNodes c ls nodes start end → TypedNodes c ls nodes (b ++ start) (option_map (λ s. b ++ s) end)
  over b nodes start end (none c ls stack) = none c ls (b ++ stack)
  over b nodes start end (more c ls n rest below end' typed stays code) =
      subst (λ s. TypedNodes c ls (n ∷ rest) s (option_map (λ t. b ++ t) end')) (append_assoc b below (takes_of n))
      (more c ls n rest (b ++ below) (option_map (λ t. b ++ t) end') typed stays
      (subst (λ s. TypedNodes c ls rest s (option_map (λ t. b ++ t) end')) (sym (append_assoc b below (gives_of n))) (over b rest (below ++ gives_of n) end' code)))
  over b nodes start end (last c ls n below typed leaves) =
      subst (λ s. TypedNodes c ls (n ∷ []) s None) (append_assoc b below (takes_of n)) (last c ls n (b ++ below) typed leaves)

  -- code behind code that comes to its end
  pub join : (xs ys : List Node) (start middle : List Ty) (end : Option (List Ty)) (e : Option (List Ty)) → TypedNodes c ls xs start e → e ≡ Some middle → TypedNodes c ls ys middle end → TypedNodes c ls (xs ++ ys) start end
  join xs ys start middle end e (none c ls stack) same code = subst (λ s. TypedNodes c ls ys s end) (sym (some_same stack middle same)) code
  join xs ys start middle end e (more c ls n rest below end' typed stays inner) same code =
      more c ls n (rest ++ ys) below end typed stays (join rest ys (below ++ gives_of n) middle end end' inner same code)
  join xs ys start middle end e (last c ls n below typed leaves) same code = absurd cc
