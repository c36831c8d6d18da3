-- When states are typed: the standard's appendix "Soundness" ("Store Validity", "Frame Validity"), over the states of the
-- meaning. A store belongs to one module, so its type is read off the module.
use Rattle.std.specs.Prelude.{◌≡◌, ℕ, ◌≤◌, Bool, true, false, ◌&&◌, nat_lt, List, [], ◌∷◌, map, filter_map, length, reverse, take, slice_get, Option, Some, None}
use Rattle.std.specs.List.{AllByRecursion}
use Rattle.host_kit.specs.Fits.{RepliesFit}
use Rattle.host_kit.specs.Pairwise.{Pairwise}
use Rattle.host_kit.specs.Trace.{Mark, Shows}
use Rattle.host_kit.specs.declared.event.Event.TheVariants.{HostCall}
use Rattle.wasm_ast.specs.Spaces.{func_indices, func_import}
use Rattle.wasm_ast.specs.declared.module.ty.Ty.{Ty}
use Rattle.wasm_ast.specs.declared.module.ty.Ty.TheVariants as types
use Rattle.wasm_ast.specs.declared.module.ty.FuncType.{FuncType}
use Rattle.wasm_ast.specs.declared.module.parts.Module.{Module}
use Rattle.typed_trees.specs.Contexts.{Context, func_type, tag_type}
use Rattle.typed_trees.specs.Modules.{context, all_globals, all_tables, all_memories}
use Rattle.evaluation_kit.specs.declared.jump.Jump.{Jump}
use Rattle.evaluation_kit.specs.declared.jump.Jump.TheVariants.{Branch, Return, Throw, TailCall, Stuck}
use Rattle.outcome_kit.specs.Code.{Go, Leave}
use Rattle.evaluation_kit.specs.Configurations.{Plain, PlainRes}
use Rattle.meaning_new.specs.declared.val.Val.{Val}
use Rattle.meaning_new.specs.declared.val.Val.TheVariants.{I32, I64, V128, Func, Extern, Exn, Null}
use Rattle.meaning_new.specs.Store.{Store, State, Exception}
use Rattle.soundness.specs.Events.{AreShownAs, imported_type, ShownCall}

-- "Values": a value has a type, where there are so many functions and so many exceptions. Numbers and vectors have the
-- type of their constructor; a reference refers to what is there, or is the null of its type.
abbrev pub has_type : ℕ → ℕ → Val → Ty → Bool
has_type funcs exceptions (I32 i) types.I32 = true
has_type funcs exceptions (I64 i) types.I64 = true
has_type funcs exceptions (V128 v) types.V128 = true
has_type funcs exceptions (Func x) types.Func = nat_lt x funcs
has_type funcs exceptions (Extern a) types.Extern = true
has_type funcs exceptions (Exn e) types.Exn = nat_lt e exceptions
has_type funcs exceptions (Null types.Func) types.Func = true
has_type funcs exceptions (Null types.Extern) types.Extern = true
has_type funcs exceptions (Null types.Exn) types.Exn = true
has_type funcs exceptions v t = false

-- as many values as types, each of its type
abbrev pub have_types : ℕ → ℕ → List Val → List Ty → Bool
have_types funcs exceptions [] [] = true
have_types funcs exceptions (v ∷ vs) (t ∷ ts) = has_type funcs exceptions v t && have_types funcs exceptions vs ts
have_types funcs exceptions vs ts = false

-- how many exceptions a state has made: a store is extended by them alone ("Store Extension")
abbrev pub made : State → ℕ
made s = length s.store.exceptions

module _ (m : Module) where
  abbrev pub func_count : ℕ
  func_count = length (func_indices m)

  -- a value of a type, where there are k exceptions, and values of types
  abbrev pub Has : ℕ → Val → Ty → Type 0
  Has k v t = has_type func_count k v t ≡ true

  abbrev pub HaveTypes : ℕ → List Val → List Ty → Type 0
  HaveTypes k vs ts = Pairwise (Has k) vs ts

  -- "Exception Instances": the payload has the types of the tag, with the last value first
  pub record ExceptionTyped (k : ℕ) (x : Exception) : Type 0 where
    pub type : FuncType
    pub declared : tag_type (context m) x.tag ≡ Some type
    pub payload : HaveTypes k x.payload (reverse type.params)

  -- "Store Validity": as many instances of each kind as the module has, each of its type
  pub record StoreTyped (s : Store) : Type 0 where
    pub globals : Pairwise (λ v g. Has (length s.exceptions) v g.ty) s.globals (all_globals m)
    pub memories : Pairwise (λ mem l. mem.wide ≡ l.wide) s.memories (all_memories m)
    pub tables : Pairwise (λ t ty. AllByRecursion (λ v. Has (length s.exceptions) v ty) t.entries) s.tables (all_tables m)
    pub elems : Pairwise (λ vs ty. AllByRecursion (λ v. Has (length s.exceptions) v ty) vs) s.elems (map (λ e. e.ty) m.elems)
    pub datas : length s.datas ≡ length m.datas
    pub exceptions : AllByRecursion (ExceptionTyped (length s.exceptions)) s.exceptions

  -- a call of an imported function is shown with arguments of its type
  abbrev pub MarkTyped : Mark → Type 0
  MarkTyped (Shows (HostCall j arguments globals)) = ShownCall m (imported_type m j) globals (λ t. AreShownAs arguments t.params)
  MarkTyped mark = Unit {0}

  -- a typed store, a host whose replies have the results of the functions that are called, and typed calls of them so far
  pub record StateTyped (s : State) : Type 0 where
    pub store : StoreTyped s.store
    pub replies : RepliesFit m s.replies (filter_map (λ i. func_import i.desc) m.imports)
    pub trace : AllByRecursion MarkTyped s.trace

  -- "Frame Validity": operands of these types, the top first, and locals of the types of the context
  pub record PlainTyped (c : Context) (operands : List Ty) (p : Plain Val State) : Type 0 where
    pub operands_typed : HaveTypes (made p.state) p.operands operands
    pub locals : HaveTypes (made p.state) p.locals c.locals
    pub state : StateTyped p.state

  -- operands of these types lie on the top
  abbrev pub OnTop : ℕ → List Val → List Ty → Type 0
  OnTop k vs ts = HaveTypes k (take (length ts) vs) ts

  -- what a jump carries: a branch to a label that is there what the label takes, a return the results, a tail call the
  -- parameters of a function with these results; an exception has been made, and nothing is stuck
  abbrev pub JumpTyped : Context → List (List Ty) → Jump → ℕ → List Val → Type 0
  JumpTyped c ls (Branch i) k vs = (label : List Ty) × (slice_get ls i ≡ Some label) × OnTop k vs (reverse label)
  JumpTyped c ls Return k vs = (results : List Ty) × (c.returns ≡ Some results) × OnTop k vs (reverse results)
  JumpTyped c ls (TailCall f) k vs =
      (t : FuncType) × (func_type (context m) f ≡ Some t) × OnTop k vs (reverse t.params) × (c.returns ≡ Some t.results)
  JumpTyped c ls (Throw e) k vs = nat_lt e k ≡ true
  JumpTyped c ls Stuck k vs = ⊥
  JumpTyped c ls _ k vs = Unit {0}

  -- code that leaves these operands at its end, or has no end, where k exceptions had been made before
  abbrev pub EndTyped : Context → Option (List Ty) → Plain Val State → Type 0
  EndTyped c None p = ⊥
  EndTyped c (Some ts) p = PlainTyped c ts p

  pub record LeftTyped (c : Context) (ls : List (List Ty)) (k : ℕ) (j : Jump) (p : Plain Val State) : Type 0 where
    pub jump : JumpTyped c ls j (made p.state) p.operands
    pub locals : HaveTypes (made p.state) p.locals c.locals
    pub state : StateTyped p.state
    pub extends : k ≤ made p.state

  abbrev pub ResultTyped : Context → List (List Ty) → Option (List Ty) → ℕ → PlainRes Val State → Type 0
  ResultTyped c ls end k (Go p) = EndTyped c end p × (k ≤ made p.state)
  ResultTyped c ls end k (Leave j p) = LeftTyped c ls k j p

  -- "Escapes": what leaves a call other than at its end is no jump of its caller
  abbrev pub EscapeTyped : Jump → ℕ → Type 0
  EscapeTyped (Branch i) k = ⊥
  EscapeTyped Return k = ⊥
  EscapeTyped (TailCall f) k = ⊥
  EscapeTyped Stuck k = ⊥
  EscapeTyped (Throw e) k = nat_lt e k ≡ true
  EscapeTyped _ k = Unit {0}

  -- the end of a call that gives these results
  pub record CallTyped (k : ℕ) (s : State) : Type 0 where
    pub state : StateTyped s
    pub extends : k ≤ made s

  abbrev pub CallResultTyped : List Ty → ℕ → PlainRes Val State → Type 0
  CallResultTyped results k (Go p) = HaveTypes (made p.state) p.operands (reverse results) × CallTyped k p.state
  CallResultTyped results k (Leave j p) = EscapeTyped j (made p.state) × CallTyped k p.state
