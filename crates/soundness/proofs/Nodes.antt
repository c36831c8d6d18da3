-- Typed nodes: the run that asks for the types of operands is the run that does not, and what it leaves is typed.
use Rattle.std.proofs.Common.{Bool, false, ◌&&◌, ◌≡◌, ℕ, true, List, [], ◌∷◌, ◌++◌, map, reverse, Option, Some, None, refl, sym, ◌∙◌, subst}
use Rattle.std.proofs.lemmas.List.{reverse-append}
use Rattle.wasm_ast.specs.declared.module.ty.Ty.{Ty}
use Rattle.wasm_ast.specs.declared.module.code.Instr.{Instr, out-Instr}
use Rattle.wasm_ast.specs.declared.module.parts.Module.{Module}
use Rattle.typed_trees.specs.declared.node.Bodies as bodies
use Rattle.typed_trees.specs.declared.node.Node.{Node, out-Node}
use Rattle.typed_trees.specs.declared.node.Node.TheFolds.{fold_out-Node, map-Node}
use Rattle.typed_trees.specs.declared.module.TypedFn.{TypedFn}
use Rattle.typed_trees.specs.Contexts.{Context}
use Rattle.typed_trees.specs.Forms.{form, language}
use Rattle.typed_trees.specs.Trees.{leaves, EndsAs, TypedNode, TypedNodes, plain, block, choice, none, more, last, head_of, takes_of, gives_of, first_of, second_of, first_held, second_held}
use Rattle.typed_trees.proofs.LeafTyped.{IsLeaving}
use Rattle.typed_trees.proofs.Leaving.{leaving_layer}
use Rattle.outcome_kit.specs.Code.{run}
use Rattle.evaluation_kit.specs.Configurations.{Sem, plain_of}
use Rattle.evaluation_kit.specs.Control.{when_ready}
use Rattle.evaluation_kit.specs.Forms.{eval}
use Rattle.evaluation_kit.specs.Languages.{exec_layer, exec_with}
use Rattle.meaning_new.specs.declared.val.Val.{Val}
use Rattle.meaning_new.specs.Store.{State}
use Rattle.meaning_new.specs.Forms.{layer}
use Rattle.node_meaning.specs.Nodes.{node_language, with_code}
use Rattle.soundness.specs.Strict.{top_typed, gives_typed, node_typed, strict_language}
use Rattle.soundness.proofs.Judging.{CodeSafe, FuncsSafe, code_never_ends, nothing_safe, then_safe, last_safe}
use Rattle.soundness.proofs.Calling.{top_decided, gives_decided, ready_safe}
use Rattle.soundness.proofs.Forms.{Bodies, Safely, fits_safe, leaving_safe}
use Rattle.soundness.specs.Laws.{inside, ended}
use Rattle.soundness.proofs.Table.{layer_safe}

module _ (m : Module) (fns : List TypedFn) (funcs others : ℕ → Sem Val State) where
  abbrev pub strict : Node → Sem Val State
  strict n = exec_with (strict_language m fns) funcs n

  abbrev pub free : Node → Sem Val State
  free n = exec_with (node_language m fns) others n

  -- a node by its head, its types and its bodies
  abbrev strict_head : Node → Sem Val State
  strict_head n = eval funcs (with_code (layer m Instr (out-Instr (head_of n))) (map strict (first_of n)) (map strict (second_of n)))

  abbrev free_head : Node → Sem Val State
  free_head n = eval others (with_code (layer m Instr (out-Instr (head_of n))) (map free (first_of n)) (map free (second_of n)))

  strict_held : (h : Instr) (t : List Ty × List Ty) (b : Option (bodies.Bodies Node)) → exec_layer (strict_language m fns) funcs (map-Node Node (Sem Val State) strict (record { head = h; types = t; bodies = b })) ≡ when_ready (node_typed m h t) (eval funcs (with_code (layer m Instr (out-Instr h)) (map strict (first_held b)) (map strict (second_held b))))
  strict_held h t None = refl
  strict_held h t (Some b) = refl

  pub strict_out : (n : Node) → strict n ≡ when_ready (node_typed m (head_of n) (out-Node n).types) (strict_head n)
  strict_out n = fold_out-Node (Sem Val State) (exec_layer (strict_language m fns) funcs) n ∙ strict_held (out-Node n).head (out-Node n).types (out-Node n).bodies

  free_held : (h : Instr) (t : List Ty × List Ty) (b : Option (bodies.Bodies Node)) → exec_layer (node_language m fns) others (map-Node Node (Sem Val State) free (record { head = h; types = t; bodies = b })) ≡ eval others (with_code (layer m Instr (out-Instr h)) (map free (first_held b)) (map free (second_held b)))
  free_held h t None = refl
  free_held h t (Some b) = refl

  free_out : (n : Node) → free n ≡ free_head n
  free_out n = fold_out-Node (Sem Val State) (exec_layer (node_language m fns) others) n ∙ free_held (out-Node n).head (out-Node n).types (out-Node n).bodies

  module _ (locals : List Ty) (returns : Option (List Ty)) (N : ℕ) (safe : FuncsSafe m N funcs others) where
    abbrev c : Context
    c = inside m locals returns

    abbrev inner : (ls : List (List Ty)) → Node → Bodies m N c ls
    inner ls n = record { first = map strict (first_of n); second = map strict (second_of n); other_first = map free (first_of n); other_second = map free (second_of n) }

    both_true : (a b : Bool) → a ≡ true → b ≡ true → (a && b) ≡ true
    both_true true b h g = g
    both_true false b h g = h

    -- a node that asks for types, from what its head does
    asks : (ls : List (List Ty)) (n : Node) (rest : List Ty) (end : Option (List Ty)) → CodeSafe m N c ls (reverse (takes_of n) ++ rest) (Some (reverse (gives_of n) ++ rest)) (strict_head n) (free_head n) → CodeSafe m N c ls (reverse (takes_of n) ++ rest) end (strict_head n) (free_head n) → CodeSafe m N c ls (reverse (takes_of n) ++ rest) end (strict n) (free n)
    asks ls n rest end gives h =
        subst (λ a. CodeSafe m N c ls (reverse (takes_of n) ++ rest) end a (free n)) (sym (strict_out n))
        (subst (λ b. CodeSafe m N c ls (reverse (takes_of n) ++ rest) end (when_ready (node_typed m (head_of n) (out-Node n).types) (strict_head n)) b) (sym (free_out n))
        (ready_safe m c ls N (reverse (takes_of n) ++ rest) end (node_typed m (head_of n) (out-Node n).types) (strict_head n) (free_head n)
        (λ x t. both_true (top_typed m (takes_of n) (plain_of x)) (gives_typed m (gives_of n) (layer m Instr (out-Instr (head_of n))) (plain_of x)) (top_decided m c ls (takes_of n) rest (plain_of x) t)
        (gives_decided m c ls N (gives_of n) rest (reverse (takes_of n) ++ rest) (layer m Instr (out-Instr (head_of n))) funcs others (map strict (first_of n)) (map strict (second_of n)) (map free (first_of n)) (map free (second_of n)) gives x t))
        h))

    head_safe : (ls : List (List Ty)) (n : Node) → Safely m N c ls (inner ls n) (form c ls (head_of n)) (strict_head n) (free_head n)
    head_safe ls n = (layer_safe m locals returns N ls funcs others safe (inner ls n) (out-Instr (head_of n))).safe

    pub ends_safe : (ls : List (List Ty)) (stack gives : List Ty) (end : Option (List Ty)) (a b : Sem Val State) → EndsAs end gives → CodeSafe m N c ls stack (ended end) a b → CodeSafe m N c ls stack (Some (reverse gives)) a b
    ends_safe ls stack gives None a b e h = code_never_ends m N c ls stack (Some (reverse gives)) a b h
    ends_safe ls stack gives (Some s) a b e h = subst (λ l. CodeSafe m N c ls stack (Some (reverse l)) a b) e h

    -- a node behind which nothing is reached
    leaving_node : (ls : List (List Ty)) (n : Node) → TypedNode c ls n → leaves (head_of n) ≡ true → (rest : List Ty) → CodeSafe m N c ls (reverse (takes_of n) ++ rest) None (strict_head n) (free_head n)
    leaving_node ls n (plain _ _ _ fits first second) h = leaving_safe m N c ls (inner ls n) (strict_head n) (free_head n) (form c ls (head_of n)) (takes_of n) (gives_of n) (leaving_layer c ls (out-Instr (head_of n)) h) (head_safe ls n) fits
    leaving_node ls n (block _ _ _ label end e body ends second) h = absurd (subst (IsLeaving (language c)) e (leaving_layer c ls (out-Instr (head_of n)) h))
    leaving_node ls n (choice _ _ _ label takes first_end second_end e is first first_ends second second_ends) h = absurd (subst (IsLeaving (language c)) e (leaving_layer c ls (out-Instr (head_of n)) h))

    mutual
      node_safe : (ls : List (List Ty)) (n : Node) → TypedNode c ls n → (rest : List Ty) → CodeSafe m N c ls (reverse (takes_of n) ++ rest) (Some (reverse (gives_of n) ++ rest)) (strict_head n) (free_head n)
      node_safe ls n (plain _ _ _ fits first second) = fits_safe m N c ls (inner ls n) (strict_head n) (free_head n) (form c ls (head_of n)) (takes_of n) (gives_of n) (head_safe ls n) fits
      node_safe ls n (block _ _ _ label end e body ends second) =
          subst (λ f. Safely m N c ls (inner ls n) f (strict_head n) (free_head n)) e (head_safe ls n)
          (ends_safe (label ∷ ls) (reverse (takes_of n)) (gives_of n) end (run (map strict (first_of n))) (run (map free (first_of n))) ends (nodes_safe (label ∷ ls) (first_of n) (takes_of n) end body))
      node_safe ls n (choice _ _ _ label takes first_end second_end e is first first_ends second second_ends) =
          rw is (subst (λ f. Safely m N c ls (inner ls n) f (strict_head n) (free_head n)) e (head_safe ls n)
          (ends_safe (label ∷ ls) (reverse takes) (gives_of n) first_end (run (map strict (first_of n))) (run (map free (first_of n))) first_ends (nodes_safe (label ∷ ls) (first_of n) takes first_end first))
          (ends_safe (label ∷ ls) (reverse takes) (gives_of n) second_end (run (map strict (second_of n))) (run (map free (second_of n))) second_ends (nodes_safe (label ∷ ls) (second_of n) takes second_end second)))

      pub nodes_safe : (ls : List (List Ty)) (ns : List Node) (s : List Ty) (end : Option (List Ty)) → TypedNodes c ls ns s end → CodeSafe m N c ls (reverse s) (ended end) (run (map strict ns)) (run (map free ns))
      nodes_safe ls _ _ _ (none _ _ stack) = nothing_safe m N c ls (reverse stack)
      nodes_safe ls _ _ _ (more _ _ n nodes below end typed stays rest) =
          subst (λ l. CodeSafe m N c ls l (ended end) (run (map strict (n ∷ nodes))) (run (map free (n ∷ nodes)))) (sym (reverse-append below (takes_of n)))
          (then_safe m N c ls (reverse (takes_of n) ++ reverse below) (reverse (gives_of n) ++ reverse below) (ended end) (strict n) (free n) (map strict nodes) (map free nodes)
          (asks ls n (reverse below) (Some (reverse (gives_of n) ++ reverse below)) (node_safe ls n typed (reverse below)) (node_safe ls n typed (reverse below)))
          (subst (λ l. CodeSafe m N c ls l (ended end) (run (map strict nodes)) (run (map free nodes))) (reverse-append below (gives_of n)) (nodes_safe ls nodes (below ++ gives_of n) end rest)))
      nodes_safe ls _ _ _ (last _ _ n below typed leaves_it) =
          subst (λ l. CodeSafe m N c ls l None (run (strict n ∷ [])) (run (free n ∷ []))) (sym (reverse-append below (takes_of n)))
          (last_safe m N c ls (reverse (takes_of n) ++ reverse below) None (strict n) (free n) [] [] (asks ls n (reverse below) None (node_safe ls n typed (reverse below)) (leaving_node ls n typed leaves_it (reverse below))))
