-- Code of nodes is a language as a machine takes it to be.
use Rattle.std.specs.Prelude.{ℕ, ◌+◌, ◌-◌, ◌≤◌, Bool, true, false, nat_lt, if◌then◌else◌, List, [], ◌∷◌, map, slice_get, Option, Some, None, option_map, option_and_then}
use Rattle.std.proofs.Common.{◌≡◌, refl, ap, ◌∙◌, subst}
use Rattle.host_kit.specs.Offered.{func_type}
use Rattle.outcome_kit.specs.Outcome.{turn}
use Rattle.outcome_kit.specs.Code.{run}
use Rattle.wasm_ast.specs.declared.module.ty.FuncType.{FuncType}
use Rattle.wasm_ast.specs.declared.module.code.Instr.{Instr, out-Instr, out-roll-Instr, roll-out-Instr}
use Rattle.wasm_ast.specs.declared.module.code.Instr.TheOpen.{Instr-F}
use Rattle.wasm_ast.specs.declared.module.parts.Module.{Module}
use Rattle.typed_trees.specs.declared.node.Node.{Node}
use Rattle.typed_trees.specs.declared.module.TypedFn.{TypedFn}
use Rattle.typed_trees.specs.Trees.{with_bodies, head_of, first_of, second_of, erase, erased}
use Rattle.typed_trees.specs.Typed.{body_of, module_of}
use Rattle.typed_trees.proofs.Erasing.{erase_out}
use Rattle.evaluation_kit.specs.Configurations.{Conf, Sem}
use Rattle.evaluation_kit.specs.Control.{Function, Callee, Own, Host, enter, arrive}
use Rattle.evaluation_kit.specs.Forms.{Form, Flat, Enclose, Repeat, Choose, Guard, Invoke, InvokeBy, map_form, eval}
use Rattle.evaluation_kit.specs.Languages.{func, exec}
use Rattle.machine_kit.specs.Acts.{Laws, total, inner_size, code_in}
use Rattle.machine_kit.specs.Whole.{instr_size, acts_of}
use Rattle.machine_kit.proofs.Laws.{laws_of}
use Rattle.meaning_new.specs.declared.val.Val.{Val}
use Rattle.meaning_new.specs.Store.{State}
use Rattle.meaning_new.specs.Forms.{layer, callee, callee_of_type, function, imported_funcs}
use Rattle.meaning_new.specs.Language.{map_twice}
use Rattle.run_kit.specs.Narrowing.{part_form, part_callee}
use Rattle.run_new.specs.States.{Kept, unbounded}
use Rattle.run_new.specs.Nodes.{unbounded_language, with_code, node_form, node_function, node_callee_of_type, node_callee, node_acts}

-- an instruction with other bodies has the same form with those bodies
with_bodies_form : (m : Module) (l : Instr-F Instr) (first second : List Node) → part_form unbounded (layer m Instr (with_bodies l (erased first) (erased second))) ≡ map_form erase (with_code (part_form unbounded (layer m Instr l)) first second)
with_bodies_form m Instr-F.Nop first second = refl
with_bodies_form m l first second = refl

erased_form : (m : Module) (n : Node) → part_form unbounded (layer m Instr (out-Instr (erase n))) ≡ map_form erase (node_form m n)
erased_form m n =
    ap (λ i. part_form unbounded (layer m Instr (out-Instr i))) (erase_out n)
    ∙ ap (λ l. part_form unbounded (layer m Instr l)) (out-roll-Instr (with_bodies (out-Instr (head_of n)) (erased (first_of n)) (erased (second_of n))))
    ∙ with_bodies_form m (out-Instr (head_of n)) (first_of n) (second_of n)

module _ {A B C : Type 0} where
  map_form_twice : {V S : Type 0} (f : A → B) (g : B → C) (form : Form V S A) → map_form g (map_form f form) ≡ map_form (λ a. g (f a)) form
  map_form_twice f g (Flat act) = refl
  map_form_twice f g (Enclose p r body) = ap (λ b. Enclose p r b) (map_twice f g body)
  map_form_twice f g (Repeat p r body) = ap (λ b. Repeat p r b) (map_twice f g body)
  map_form_twice f g (Choose test p r first second) =
      ap (λ b. Choose test p r b (map g (map f second))) (map_twice f g first) ∙ ap (λ b. Choose test p r (map (λ a. g (f a)) first) b) (map_twice f g second)
  map_form_twice f g (Guard p r h body) = ap (λ b. Guard p r h b) (map_twice f g body)
  map_form_twice f g (Invoke p x) = refl
  map_form_twice f g (InvokeBy p pick) = refl

module _ {A B : Type 0} where
  total_over : (f : A → B) (size : B → ℕ) (code : List A) → total size (map f code) ≡ total (λ a. size (f a)) code
  total_over f size [] = refl
  total_over f size (a ∷ code) = ap (λ n. size (f a) + n) (total_over f size code)

  inner_over : {V S : Type 0} (f : A → B) (size : B → ℕ) (form : Form V S A) → inner_size size (map_form f form) ≡ inner_size (λ a. size (f a)) form
  inner_over f size (Flat act) = refl
  inner_over f size (Enclose p r body) = total_over f size body
  inner_over f size (Repeat p r body) = total_over f size body
  inner_over f size (Choose test p r first second) =
      ap (λ n. n + total size (map f second)) (total_over f size first) ∙ ap (λ n. total (λ a. size (f a)) first + n) (total_over f size second)
  inner_over f size (Guard p r h body) = total_over f size body
  inner_over f size (Invoke p x) = refl
  inner_over f size (InvokeBy p pick) = refl

-- what an index names: the same, with the code for which the nodes stand
abbrev erased_callee : Callee Node Val Kept → Callee Instr Val Kept
erased_callee (Own f) = Own (record { params = f.params; results = f.results; zeros = f.zeros; body = erased f.body })
erased_callee (Host p act) = Host p act

slice_get_map : {A B : Type 0} (f : A → B) (xs : List A) (i : ℕ) → slice_get (map f xs) i ≡ option_map f (slice_get xs i)
slice_get_map f [] ℕ.zero = refl
slice_get_map f [] (ℕ.suc i) = refl
slice_get_map f (x ∷ xs) ℕ.zero = refl
slice_get_map f (x ∷ xs) (ℕ.suc i) = slice_get_map f xs i

own_callee : (t : FuncType) (o : Option TypedFn) → option_map (part_callee unbounded) (option_map (λ body. Own (function t body)) (option_map body_of o)) ≡ option_map erased_callee (option_map (λ f. Own (node_function t f)) o)
own_callee t None = refl
own_callee t (Some f) = refl

choose_callee : (b : Bool) (h : Callee Node Val Kept) (o : Option (Callee Node Val Kept)) (h' : Callee Instr Val State) (o' : Option (Callee Instr Val State)) → part_callee unbounded h' ≡ erased_callee h → option_map (part_callee unbounded) o' ≡ option_map erased_callee o
    → option_map (part_callee unbounded) (if b then Some h' else o') ≡ option_map erased_callee (if b then Some h else o)
choose_callee true h o h' o' e f = ap (λ x. Some x) e
choose_callee false h o h' o' e f = f

module _ (p : Module × List TypedFn) where
  abbrev m : Module
  m = module_of p

  callee_is_of_type : (x : ℕ) (t : FuncType) → option_map (part_callee unbounded) (callee_of_type m x t) ≡ option_map erased_callee (node_callee_of_type p x t)
  callee_is_of_type x t =
      choose_callee (nat_lt x (imported_funcs p.0)) _ _ _ _ refl
      (ap (λ o. option_map (part_callee unbounded) (option_map (λ body. Own (function t body)) o)) (slice_get_map body_of p.1 (x - imported_funcs p.0)) ∙ own_callee t (slice_get p.1 (x - imported_funcs p.0)))

  callee_by : (x : ℕ) (o : Option FuncType) → option_map (part_callee unbounded) (option_and_then (callee_of_type m x) o) ≡ option_map erased_callee (option_and_then (node_callee_of_type p x) o)
  callee_by x None = refl
  callee_by x (Some t) = callee_is_of_type x t

  callee_is : (x : ℕ) → option_map (part_callee unbounded) (callee m x) ≡ option_map erased_callee (node_callee p x)
  callee_is x = callee_by x (func_type m x)

  executes : (n : Node) (d k : ℕ) (c : Conf Val Kept) → exec (unbounded_language m) (erase n) d k c ≡ eval (func (unbounded_language m)) (map_form (λ i. exec (unbounded_language m) (erase i)) (node_form m n)) d k c
  executes n d k c =
      (laws_of (unbounded_language m) out-Instr roll-out-Instr (λ X l q. refl)).execs (erase n) d k c
      ∙ ap (λ form. eval (func (unbounded_language m)) form d k c)
      (ap (map_form (exec (unbounded_language m))) (erased_form m n) ∙ map_form_twice erase (exec (unbounded_language m)) (node_form m n))

  shrinks : (n : Node) → inner_size (λ i. instr_size (unbounded_language m) (erase i)) (node_form m n) + 3 ≤ instr_size (unbounded_language m) (erase n)
  shrinks n =
      subst (λ k. k + 3 ≤ instr_size (unbounded_language m) (erase n))
      (ap (inner_size (instr_size (unbounded_language m))) (erased_form m n) ∙ inner_over erase (instr_size (unbounded_language m)) (node_form m n))
      ((laws_of (unbounded_language m) out-Instr roll-out-Instr (λ X l q. refl)).shrinks (erase n))

  abbrev entered : List (Sem Val Kept) → Function Node Val → Sem Val Kept
  entered code f d k c = turn k c.world (λ j. enter (run code) (func (unbounded_language m)) (record { params = f.params; results = f.results; zeros = f.zeros; body = erased f.body }) d j c)

  arrives : (o : Option (Callee Node Val Kept)) (d n : ℕ) (c : Conf Val Kept)
      → arrive (option_map erased_callee o) (λ f d k c. turn k c.world (λ j. enter (code_in (acts_of (unbounded_language m) out-Instr) f.body) (func (unbounded_language m)) f d j c)) d n c
      ≡ arrive o (λ f d k c. turn k c.world (λ j. enter (code_in (node_acts p) f.body) (func (unbounded_language m)) f d j c)) d n c
  arrives None d n c = refl
  arrives (Some (Own f)) d n c = ap (λ code. entered code f d n c) (map_twice erase (exec (unbounded_language m)) f.body)
  arrives (Some (Host k act)) d n c = refl

  enters : (x d n : ℕ) (c : Conf Val Kept) → func (unbounded_language m) x d n c ≡ arrive (node_callee p x) (λ f d k a. turn k a.world (λ j. enter (code_in (node_acts p) f.body) (func (unbounded_language m)) f d j a)) d n c
  enters x d n c =
      (laws_of (unbounded_language m) out-Instr roll-out-Instr (λ X l q. refl)).enters x d n c
      ∙ ap (λ o. arrive o (λ f d k a. turn k a.world (λ j. enter (code_in (acts_of (unbounded_language m) out-Instr) f.body) (func (unbounded_language m)) f d j a)) d n c) (callee_is x)
      ∙ arrives (node_callee p x) d n c

  pub node_laws : Laws (node_acts p)
  node_laws = record { execs = executes; enters = enters; shrinks = shrinks }
