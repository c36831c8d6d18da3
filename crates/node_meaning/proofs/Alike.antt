-- Nodes do what the instructions do for which they stand, and functions of nodes what the functions do.
use mathlib.Core.Path.{fun_ext}
use Rattle.std.proofs.Common.{◌≡◌, ℕ, zero, suc, ◌+◌, ◌-◌, true, false, Bool, if◌then◌else◌, nat_lt, List, [], ◌∷◌, map, length, slice_get, Option, Some, None, option_map, option_and_then, refl, sym, ap, ◌∙◌}
use Rattle.std.proofs.lemmas.Option.{slice_get-map}
use Rattle.host_kit.specs.Offered.{func_type}
use Rattle.wasm_ast.specs.declared.module.ty.FuncType.{FuncType}
use Rattle.wasm_ast.specs.declared.module.code.Instr.{Instr, out-Instr, roll-Instr}
use Rattle.wasm_ast.specs.declared.module.code.Instr.TheOpen.{Instr-F}
use Rattle.wasm_ast.specs.declared.module.code.Instr.TheFolds.{fold-roll-Instr}
use Rattle.wasm_ast.specs.declared.module.parts.Module.{Module}
use Rattle.typed_trees.specs.declared.node.Bodies.{Bodies}
use Rattle.typed_trees.specs.declared.node.Node.{Node}
use Rattle.typed_trees.specs.declared.node.Node.TheOpen.{Node-F}
use Rattle.typed_trees.specs.declared.node.Node.TheFolds.{map-Node, fold-roll-Node}
use Rattle.typed_trees.specs.declared.module.TypedFn.{TypedFn}
use Rattle.typed_trees.specs.Trees.{first_held, second_held, with_bodies, erase, erase_layer, erased}
use Rattle.typed_trees.specs.Typed.{body_of, module_of}
use Rattle.outcome_kit.specs.Outcome.{turn, Halt, bind}
use Rattle.outcome_kit.specs.Code.{run}
use Rattle.evaluation_kit.specs.Configurations.{Sem}
use Rattle.evaluation_kit.specs.Control as control
use Rattle.evaluation_kit.specs.Control.{Function, opened, leave_body, enter, arrive, when_ready}
use Rattle.evaluation_kit.specs.Forms.{Form, Flat, Enclose, Repeat, Choose, Guard, Invoke, InvokeBy, map_form, eval}
use Rattle.evaluation_kit.specs.Languages.{Language, exec_layer, exec_with, code_with, enter_with, func_within, func}
use Rattle.meaning_new.specs.declared.val.Val.{Val}
use Rattle.meaning_new.specs.Store.{State}
use Rattle.meaning_new.specs.Host.{host_call}
use Rattle.meaning_new.specs.Forms.{layer, function, imported_funcs, callee_of_type}
use Rattle.meaning_new.specs.Language.{language, layer_over}
use Rattle.node_meaning.specs.Nodes.{node_language, node_function, node_callee, with_code, over_twice, induct}

-- an instruction with these bodies has the form with these bodies
bodies_form : (m : Module) (l : Instr-F Instr) (a b : List Instr) → layer m Instr (with_bodies l a b) ≡ with_code (layer m Instr l) a b
bodies_form m Instr-F.Nop a b = refl
bodies_form m l a b = refl

map_code : {V S X Y Z : Type 0} (f : Y → Z) (form : Form V S X) (a b : List Y) → map_form f (with_code form a b) ≡ with_code form (map f a) (map f b)
map_code f (Flat act) a b = refl
map_code f (Enclose p r code) a b = refl
map_code f (Repeat p r code) a b = refl
map_code f (Choose test p r x y) a b = refl
map_code f (Guard p r t code) a b = refl
map_code f (Invoke p x) a b = refl
map_code f (InvokeBy p pick) a b = refl

module _ (p : Module × List TypedFn) (funcs : ℕ → Sem Val State) where
  abbrev m : Module
  m = module_of p

  abbrev nodes : Language Node Node-F Val State
  nodes = node_language m p.1

  abbrev old : Node → Sem Val State
  old n = exec_with nodes funcs n

  abbrev new : Instr → Sem Val State
  new i = exec_with (language m) funcs i

  abbrev Alike : Node → Type 0
  Alike n = old n ≡ new (erase n)

  codes_alike : (xs : List ((n : Node) × Alike n)) → map (λ y. old y.0) xs ≡ map new (map (λ y. erase y.0) xs)
  codes_alike [] = refl
  codes_alike (x ∷ xs) = ap (λ a. a ∷ map (λ y. old y.0) xs) x.1 ∙ ap (λ l. new (erase x.0) ∷ l) (codes_alike xs)

  held_alike : (h : Instr) (t : _) (b : Option (Bodies ((n : Node) × Alike n))) → exec_layer nodes funcs (map-Node ((n : Node) × Alike n) (Sem Val State) (λ y. old y.0) (record { head = h; types = t; bodies = b })) ≡ eval funcs (with_code (layer m Instr (out-Instr h)) (map new (map (λ y. erase y.0) (first_held b))) (map new (map (λ y. erase y.0) (second_held b))))
  held_alike h t None = refl
  held_alike h t (Some b) =
      ap (λ (l : List (Sem Val State)). eval funcs (with_code (layer m Instr (out-Instr h)) l (map (λ y. old y.0) b.second))) (codes_alike b.first)
      ∙ ap (λ (l : List (Sem Val State)). eval funcs (with_code (layer m Instr (out-Instr h)) (map new (map (λ y. erase y.0) b.first)) l)) (codes_alike b.second)

  by_layer : (l : Instr-F Instr) → new (roll-Instr l) ≡ eval funcs (map_form new (layer m Instr l))
  by_layer l = fold-roll-Instr (Sem Val State) (exec_layer (language m) funcs) l ∙ ap (eval funcs) (layer_over m Instr (Sem Val State) new l)

  erased_node : (h : Instr) (t : _) (b : Option (Bodies ((n : Node) × Alike n))) → erase_layer (map-Node ((n : Node) × Alike n) Instr (λ y. erase y.0) (record { head = h; types = t; bodies = b })) ≡ roll-Instr (with_bodies (out-Instr h) (map (λ y. erase y.0) (first_held b)) (map (λ y. erase y.0) (second_held b)))
  erased_node h t None = refl
  erased_node h t (Some b) = refl

  -- a node
  pub node_alike : (n : Node) → Alike n
  node_alike = induct Alike (λ l.
      let Z = (n : Node) × Alike n in
      let a = map (λ y. erase y.0) (first_held l.bodies) in
      let b = map (λ y. erase y.0) (second_held l.bodies) in
      fold-roll-Node (Sem Val State) (exec_layer nodes funcs) (map-Node Z Node (λ y. y.0) l)
      ∙ ap (exec_layer nodes funcs) (over_twice Z Node (Sem Val State) (λ y. y.0) old l)
      ∙ held_alike l.head l.types l.bodies
      ∙ ap (eval funcs) (sym (map_code new (layer m Instr (out-Instr l.head)) a b))
      ∙ ap (λ form. eval funcs (map_form new form)) (sym (bodies_form m (out-Instr l.head) a b))
      ∙ sym (by_layer (with_bodies (out-Instr l.head) a b))
      ∙ ap new (sym (erased_node l.head l.types l.bodies))
      ∙ ap (λ x. new (erase_layer x)) (sym (over_twice Z Node Instr (λ y. y.0) erase l))
      ∙ ap new (sym (fold-roll-Node Instr erase_layer (map-Node Z Node (λ y. y.0) l))))

  pub code_alike : (code : List Node) → code_with nodes funcs code ≡ code_with (language m) funcs (erased code)
  code_alike code = ap run (go code)
    where
      go : (xs : List Node) → map old xs ≡ map new (map erase xs)
      go [] = refl
      go (x ∷ xs) = ap (λ a. a ∷ map old xs) (node_alike x) ∙ ap (λ l. new (erase x) ∷ l) (go xs)

module _ (p : Module × List TypedFn) where
  -- the entry of a function of nodes, and of the function for which it stands
  own_alike : (funcs : ℕ → Sem Val State) (t : FuncType) (f : TypedFn) →
      ◌≡◌ {A = Sem Val State} (λ d n c. turn n c.world (λ k. enter (code_with (node_language (module_of p) p.1) funcs f.body) funcs (node_function t f) d k c))
      (λ d n c. turn n c.world (λ k. enter (code_with (language (module_of p)) funcs (erased f.body)) funcs (function t (body_of f)) d k c))
  own_alike funcs t f =
      ap {B = Sem Val State} (λ (a : Sem Val State) d n c. turn n c.world (λ k. bind k (a (d + 1) k (opened d (node_function t f) c)) (leave_body (λ g. funcs g d) (length t.results)))) (code_alike p funcs f.body)

  -- what an index names in both
  arrives : (own : Function Node Val → Sem Val State) (new : Function Instr Val → Sem Val State) → ((t : FuncType) (f : TypedFn) → own (node_function t f) ≡ new (function t (body_of f))) → (t : FuncType) (o : Option TypedFn) → arrive (option_map (λ f. control.Own (node_function t f)) o) own ≡ arrive (option_map (λ body. control.Own (function t body)) (option_map body_of o)) new
  arrives own new h t None = refl
  arrives own new h t (Some f) = h t f

  arrives_of : (own : Function Node Val → Sem Val State) (new : Function Instr Val → Sem Val State) → ((t : FuncType) (f : TypedFn) → own (node_function t f) ≡ new (function t (body_of f))) → (x : ℕ) (t : FuncType) (b : Bool) →
      arrive (if b then Some (control.Host (length t.params) (host_call (module_of p) x)) else option_map (λ f. control.Own (node_function t f)) (slice_get p.1 (x - imported_funcs (module_of p)))) own
      ≡ arrive (if b then Some (control.Host (length t.params) (host_call (module_of p) x)) else option_map (λ body. control.Own (function t body)) (slice_get (map body_of p.1) (x - imported_funcs (module_of p)))) new
  arrives_of own new h x t true = refl
  arrives_of own new h x t false =
      arrives own new h t (slice_get p.1 (x - imported_funcs (module_of p)))
      ∙ ap (λ o. arrive (option_map (λ body. control.Own (function t body)) o) new) (sym (slice_get-map body_of p.1 (x - imported_funcs (module_of p))))

  arrives_at : (own : Function Node Val → Sem Val State) (new : Function Instr Val → Sem Val State) → ((t : FuncType) (f : TypedFn) → own (node_function t f) ≡ new (function t (body_of f))) → (x : ℕ) (o : Option FuncType) → arrive (option_and_then (node_callee (module_of p) p.1 x) o) own ≡ arrive (option_and_then (callee_of_type (module_of p) x) o) new
  arrives_at own new h x None = refl
  arrives_at own new h x (Some t) = arrives_of own new h x t (nat_lt x (imported_funcs (module_of p)))

  within_alike : (k : ℕ) → func_within (node_language (module_of p) p.1) k ≡ func_within (language (module_of p)) k
  within_alike zero = fun_ext (λ x. arrives_at (λ f d n c. Halt c.world) (λ f d n c. Halt c.world) (λ t f. refl) x (func_type (module_of p) x))
  within_alike (suc k) =
      ap (enter_with (node_language (module_of p) p.1)) (within_alike k)
      ∙ fun_ext (λ x. arrives_at _ _ (own_alike (func_within (language (module_of p)) k)) x (func_type (module_of p) x))

  -- functions of nodes do what the functions of the module do for which they stand
  pub func_alike : func (node_language (module_of p) p.1) ≡ func (language (module_of p))
  unfolding func
  func_alike = fun_ext (λ x. fun_ext (λ d. fun_ext (λ n. ap (λ (f : ℕ → Sem Val State). f x d n) (within_alike n))))
