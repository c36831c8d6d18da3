-- Functions of a typed module: the call that asks for the types of operands is the call that does not, and what it gives is
-- typed.
use Rattle.std.proofs.Common.{◌≡◌, ℕ, zero, suc, ◌+◌, ◌-◌, ◌<◌, ◌≤◌, Bool, true, false, if◌then◌else◌, nat_lt, List, [], ◌∷◌, ◌++◌, map, take, length, reverse, Some, None, option_map, refl, sym, ap, ◌∙◌, subst, arith, le_refl, le_trans}
use Rattle.std.specs.Prelude.{slice_get, filter_map, option_and_then}
use Rattle.std.proofs.lemmas.Bool.{ltb-true, ltb-false}
use Rattle.std.proofs.lemmas.List.{length-reverse, reverse-reverse}
use Rattle.host_kit.specs.Fits.{results_of}
use Rattle.wasm_ast.specs.Spaces.{func_indices, func_import}
use Rattle.wasm_ast.specs.declared.module.ty.Ty.{Ty}
use Rattle.wasm_ast.specs.declared.module.ty.FuncType.{FuncType}
use Rattle.wasm_ast.specs.declared.module.parts.Module.{Module}
use Rattle.typed_trees.specs.declared.node.Node.{Node}
use Rattle.typed_trees.specs.declared.module.TypedFn.{TypedFn}
use Rattle.typed_trees.specs.Contexts.{Context, func_type}
use Rattle.typed_trees.specs.Modules.{context}
use Rattle.typed_trees.specs.Typed.{module_of, TypedTree, TypedFuncTree, TypedTrees, IsTypedTree}
use Rattle.outcome_kit.specs.Outcome.{turn}
use Rattle.outcome_kit.specs.Code.{Go, Leave, run}
use Rattle.evaluation_kit.specs.declared.jump.Jump.TheVariants.{Branch, Return, Throw, TailCall, Trap, NoReply, Full, Stuck}
use Rattle.evaluation_kit.specs.Configurations.{Conf, Plain, PlainRes, Res, Sem, plain_of, settled}
use Rattle.evaluation_kit.specs.Control.{Function, Own, Host, opened, ended, leave_body, enter, arrive, hosted}
use Rattle.evaluation_kit.specs.Languages.{func, code_with, enter_with}
use Rattle.evaluation_kit.specs.Tasks.{plain_result}
use Rattle.evaluation_kit.proofs.Functions.{func-entered}
use Rattle.meaning_new.specs.declared.val.Val.{Val}
use Rattle.meaning_new.specs.Store.{State, default}
use Rattle.meaning_new.specs.Host.{host_call}
use Rattle.meaning_new.specs.Forms.{imported_funcs}
use Rattle.node_meaning.specs.Nodes.{node_language, node_function, node_callee}
use Rattle.soundness.specs.States.{made, Has, HaveTypes, OnTop, StateTyped, PlainTyped, CallResultTyped}
use Rattle.soundness.specs.Strict.{strict_language}
use Rattle.soundness.proofs.Lists.{some_same, pair_append, pair_whole, pair_reverse}
use Rattle.soundness.proofs.Values.{defaults_typed}
use Rattle.soundness.specs.Laws.{Safe}
use Rattle.soundness.proofs.Judging.{safe_done, safe_bind, safe_turn, safe_weaker, plain_settled, Ended, FuncsSafe}
use Rattle.soundness.proofs.Spaces.{get_before, get_behind, by_way, imported_count}
use Rattle.soundness.proofs.Hosts.{host_call_typed}
use Rattle.soundness.specs.Laws.{inside}
use Rattle.soundness.proofs.Nodes.{strict, free, ends_safe, nodes_safe}

-- the tree of the function with an index
tree_at : (m : Module) (types : List ℕ) (fns : List TypedFn) (i t : ℕ) → TypedTrees m types fns → slice_get types i ≡ Some t → (f : TypedFn) × (slice_get fns i ≡ Some f) × TypedFuncTree m t f
tree_at m [] [] i t h e = let no : ⊥ = cc in absurd no
tree_at m [] (f ∷ fns) i t h e = absurd h
tree_at m (u ∷ types) [] i t h e = absurd h
tree_at m (u ∷ types) (f ∷ fns) zero t h e = (f, refl, subst (λ x. TypedFuncTree m x f) (some_same u t e) h.0)
tree_at m (u ∷ types) (f ∷ fns) (suc i) t h e = tree_at m types fns i t h.1 e

module _ (m : Module) where
  -- a call after later exceptions
  call_later : (results : List Ty) (k j : ℕ) (r : PlainRes Val State) → k ≤ j → CallResultTyped m results j r → CallResultTyped m results k r
  call_later results k j (Go p) le h = (h.0, record { state = h.1.state; extends = le_trans le h.1.extends })
  call_later results k j (Leave i p) le h = (h.0, record { state = h.1.state; extends = le_trans le h.1.extends })

  module _ (t : FuncType) (locals : List Ty) (k : ℕ) where
    abbrev c : Context
    c = inside m locals (Some t.results)

    abbrev Q : Res Val State → Type 0
    Q r = CallResultTyped m t.results k (plain_result r)

    -- the results lie on the top
    gives : (x : Conf Val State) → OnTop m (made x.world.state) x.operands (reverse t.results) → StateTyped m x.world.state → k ≤ made x.world.state → Q (ended (length t.results) x)
    gives x h s le =
        (subst (λ n. HaveTypes m (made x.world.state) (take n x.operands) (reverse t.results)) (length-reverse t.results) h, record { state = s; extends = le })

    body_left : (N d : ℕ) (funcs others : ℕ → Sem Val State) → FuncsSafe m N funcs others → (r : Res Val State) (j : ℕ) → j ≤ N → Ended m c (t.results ∷ []) (Some (reverse t.results)) k r → Safe m Q (leave_body (λ g. funcs g d) (length t.results) r j) (leave_body (λ g. others g d) (length t.results) r j)
    body_left N d funcs others safe (Go x) j le h = safe_done m Q _ (gives x (pair_whole (Has m (made x.world.state)) x.operands (reverse t.results) h.0.operands_typed) h.0.state h.1)
    body_left N d funcs others safe (Leave (Branch zero) x) j le h =
        safe_done m Q _ (gives x (subst (λ l. OnTop m (made x.world.state) x.operands (reverse l)) (sym (some_same t.results h.jump.0 h.jump.1)) h.jump.2) h.state h.extends)
    body_left N d funcs others safe (Leave (Branch (suc i)) x) j le h = let wrong : None ≡ Some h.jump.0 = h.jump.1 in let no : ⊥ = cc in absurd no
    body_left N d funcs others safe (Leave Return x) j le h =
        safe_done m Q _ (gives x (subst (λ l. OnTop m (made x.world.state) x.operands (reverse l)) (sym (some_same t.results h.jump.0 h.jump.1)) h.jump.2) h.state h.extends)
    body_left N d funcs others safe (Leave (TailCall g) x) j le h =
        let callee = h.jump.0 in
        let same = some_same t.results callee.results h.jump.3 in
        safe_weaker m (λ r. CallResultTyped m callee.results (made x.world.state) (plain_result r)) Q (funcs g d j x) (others g d j x)
        (λ r q. call_later t.results k (made x.world.state) (plain_result r) h.extends (subst (λ l. CallResultTyped m l (made x.world.state) (plain_result r)) (sym same) q))
        (safe.by g callee h.jump.1 d j x le h.jump.2 h.state)
    body_left N d funcs others safe (Leave (Throw e) x) j le h = safe_done m Q _ (h.jump, record { state = h.state; extends = h.extends })
    body_left N d funcs others safe (Leave Trap x) j le h = safe_done m Q _ (tt, record { state = h.state; extends = h.extends })
    body_left N d funcs others safe (Leave (NoReply i) x) j le h = safe_done m Q _ (tt, record { state = h.state; extends = h.extends })
    body_left N d funcs others safe (Leave Full x) j le h = safe_done m Q _ (tt, record { state = h.state; extends = h.extends })
    body_left N d funcs others safe (Leave Stuck x) j le h = absurd h.jump

module _ (p : Module × List TypedFn) (typed : IsTypedTree p) where
  abbrev m : Module
  m = module_of p

  abbrev asks : ℕ → Sem Val State
  asks = func (strict_language m p.1)

  abbrev plain : ℕ → Sem Val State
  plain = func (node_language m p.1)

  -- the locals with which a function begins
  begins : (t : FuncType) (f : TypedFn) → TypedTree m t f → (d : ℕ) (x : Conf Val State) → OnTop m (made x.world.state) x.operands (reverse t.params) → StateTyped m x.world.state → PlainTyped m (inside m (t.params ++ f.locals) (Some t.results)) [] (plain_of (opened d (node_function t f) x))
  begins t f tree d x top s =
      let k = made x.world.state in
      let front = subst (λ n. HaveTypes m k (take n x.operands) (reverse t.params)) (length-reverse t.params) top in
      let first = subst (HaveTypes m k (reverse (take (length t.params) x.operands))) (reverse-reverse t.params) (pair_reverse (Has m k) (take (length t.params) x.operands) (reverse t.params) front) in
      record {
        operands_typed = tt;
        locals = pair_append (Has m k) (reverse (take (length t.params) x.operands)) t.params (map default f.locals) f.locals first (defaults_typed m k f.locals tree.locals);
        state = s;
      }

  -- the body of a function of the module
  entry_safe : (N : ℕ) → FuncsSafe m N asks plain → (t : FuncType) (f : TypedFn) → TypedTree m t f → (d j : ℕ) (x : Conf Val State) → j ≤ N → OnTop m (made x.world.state) x.operands (reverse t.params) → StateTyped m x.world.state → Safe m (λ r. CallResultTyped m t.results (made x.world.state) (plain_result r)) (enter (code_with (strict_language m p.1) asks f.body) asks (node_function t f) d j x) (enter (code_with (node_language m p.1) plain f.body) plain (node_function t f) d j x)
  entry_safe N safe t f tree d j x le top s =
      let k = made x.world.state in
      let locals = t.params ++ f.locals in
      let c = inside m locals (Some t.results) in
      let code = ends_safe m p.1 asks plain locals (Some t.results) N safe (t.results ∷ []) [] t.results tree.end (run (map (strict m p.1 asks plain) f.body)) (run (map (free m p.1 asks plain) f.body)) tree.ends (nodes_safe m p.1 asks plain locals (Some t.results) N safe (t.results ∷ []) f.body [] tree.end tree.nodes) in
      safe_bind m (Ended m c (t.results ∷ []) (Some (reverse t.results)) k) (λ r. CallResultTyped m t.results k (plain_result r)) j
      (code_with (strict_language m p.1) asks f.body (d + 1) j (opened d (node_function t f) x)) (code_with (node_language m p.1) plain f.body (d + 1) j (opened d (node_function t f) x))
      (leave_body (λ g. asks g d) (length t.results)) (leave_body (λ g. plain g d) (length t.results))
      (code.by (d + 1) j (opened d (node_function t f) x) le (begins t f tree d x top s))
      (λ r i less q. body_left m t locals k N d asks plain safe r i (le_trans less le) q)

  -- what an index names
  module _ (x : ℕ) (t : FuncType) (d n : ℕ) (c : Conf Val State) (top : OnTop m (made c.world.state) c.operands (reverse t.params)) (s : StateTyped m c.world.state) (before : (j : ℕ) → n ≡ suc j → FuncsSafe m j asks plain) where
    abbrev R : Res Val State → Type 0
    R r = CallResultTyped m t.results (made c.world.state) (plain_result r)

    abbrev own_asks : Function Node Val → Sem Val State
    own_asks f d n c = turn n c.world (λ k. enter (code_with (strict_language m p.1) asks f.body) asks f d k c)

    abbrev own_plain : Function Node Val → Sem Val State
    own_plain f d n c = turn n c.world (λ k. enter (code_with (node_language m p.1) plain f.body) plain f d k c)

    own_safe : (f : TypedFn) → TypedTree m t f → Safe m R (own_asks (node_function t f) d n c) (own_plain (node_function t f) d n c)
    own_safe f tree =
        safe_turn m R n c.world (λ k. enter (code_with (strict_language m p.1) asks f.body) asks (node_function t f) d k c) (λ k. enter (code_with (node_language m p.1) plain f.body) plain (node_function t f) d k c) s
        (λ j e. entry_safe j (before j e) t f tree d j c (le_refl j) top s)

    -- the type of what is there is the type that is asked for
    of_type : (f : TypedFn) (u : ℕ) → slice_get m.types u ≡ Some t → TypedFuncTree m u f → TypedTree m t f
    of_type f u e tree = subst (λ z. TypedTree m z f) (some_same tree.type t (sym tree.declared ∙ e)) tree.typed

    -- the function of the module at a place
    own_at : (u : ℕ) → slice_get m.types u ≡ Some t → slice_get p.0.funcs (x - imported_funcs m) ≡ Some u → Safe m R (arrive (option_map (λ f. Own (node_function t f)) (slice_get p.1 (x - imported_funcs m))) own_asks d n c) (arrive (option_map (λ f. Own (node_function t f)) (slice_get p.1 (x - imported_funcs m))) own_plain d n c)
    own_at u e there =
        let tree = tree_at m p.0.funcs p.1 (x - imported_funcs m) u typed.trees there in
        subst (λ o. Safe m R (arrive (option_map (λ f. Own (node_function t f)) o) own_asks d n c) (arrive (option_map (λ f. Own (node_function t f)) o) own_plain d n c)) (sym tree.1)
        (own_safe tree.0 (of_type tree.0 u e tree.2))

    host_at : (u : ℕ) → slice_get m.types u ≡ Some t → slice_get (filter_map (λ i. func_import i.desc) m.imports) x ≡ Some u → Safe m R (hosted (length t.params) (host_call m x) d n c) (hosted (length t.params) (host_call m x) d n c)
    host_at u e there =
        let seen : Plain Val State = record { operands = take (length t.params) c.operands; locals = []; state = c.world.state } in
        let front = subst (λ k. HaveTypes m (made c.world.state) (take k c.operands) (reverse t.params)) (length-reverse t.params) top in
        let result = host_call_typed m x u there typed.parts t e seen front s in
        let same : results_of (slice_get m.types u) ≡ t.results = ap results_of e in
        safe_done m R (settled c.world (host_call m x seen))
        (subst (CallResultTyped m t.results (made c.world.state)) (sym (plain_settled m c.world (host_call m x seen))) (subst (λ l. CallResultTyped m l (made c.world.state) (host_call m x seen)) same result))

    -- imported, or the module's own
    by_place : (u : ℕ) → slice_get m.types u ≡ Some t → slice_get (func_indices m) x ≡ Some u → (b : Bool) → nat_lt x (imported_funcs m) ≡ b →
        Safe m R (arrive (if b then Some (Host (length t.params) (host_call m x)) else option_map (λ f. Own (node_function t f)) (slice_get p.1 (x - imported_funcs m))) own_asks d n c)
        (arrive (if b then Some (Host (length t.params) (host_call m x)) else option_map (λ f. Own (node_function t f)) (slice_get p.1 (x - imported_funcs m))) own_plain d n c)
    by_place u e there true h =
        let few = ltb-true x (imported_funcs m) h in
        let count = imported_count m in
        let less : x < length (filter_map (λ i. func_import i.desc) m.imports) = omega arith in
        host_at u e (sym (get_before (filter_map (λ i. func_import i.desc) m.imports) m.funcs x less) ∙ there)
    by_place u e there false h =
        let many = ltb-false x (imported_funcs m) h in
        let count = imported_count m in
        let less : length (filter_map (λ i. func_import i.desc) m.imports) ≤ x = omega arith in
        own_at u e (ap (λ k. slice_get p.0.funcs (x - k)) (sym count) ∙ sym (get_behind (filter_map (λ i. func_import i.desc) m.imports) m.funcs x less) ∙ there)

    named_safe : func_type (context m) x ≡ Some t → Safe m R (enter_with (strict_language m p.1) asks x d n c) (enter_with (node_language m p.1) plain x d n c)
    named_safe is =
        let way = by_way (slice_get m.types) (slice_get (func_indices m) x) t is in
        subst (λ o. Safe m R (arrive (option_and_then (node_callee m p.1 x) o) own_asks d n c) (arrive (option_and_then (node_callee m p.1 x) o) own_plain d n c)) (sym is)
        (by_place way.0 way.2 way.1 (nat_lt x (imported_funcs m)) refl)

    call_safe : func_type (context m) x ≡ Some t → Safe m R (asks x d n c) (plain x d n c)
    call_safe is =
        subst (λ o. Safe m R o (plain x d n c)) (sym (func-entered (strict_language m p.1) x d n c))
        (subst (λ o. Safe m R (enter_with (strict_language m p.1) asks x d n c) o) (sym (func-entered (node_language m p.1) x d n c)) (named_safe is))

  fewer : (N j : ℕ) → j ≤ N → FuncsSafe m N asks plain → FuncsSafe m j asks plain
  fewer N j le h = record { by = λ x t is d n c less top s. h.by x t is d n c (le_trans less le) top s }

  -- All functions, within any number of turns.
  pub functions_safe : (N : ℕ) → FuncsSafe m N asks plain
  functions_safe zero = record { by = λ x t is d n c le top s. call_safe x t d n c top s (λ j e. let no : ⊥ = omega arith in absurd no) is }
  functions_safe (suc N) = record {
    by = λ x t is d n c le top s. call_safe x t d n c top s (λ j e. let less : j ≤ N = omega arith in fewer N j less (functions_safe N)) is;
  }
