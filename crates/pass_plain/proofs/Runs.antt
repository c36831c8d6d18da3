-- Runs of a module whose bodies do what the bodies of another do, and which offers the same to its host, tags aside.
use mathlib.Core.Path.{fun_ext}
use Rattle.std.proofs.Common.{◌≡◌, ℕ, zero, suc, ◌+◌, ◌-◌, ◌⊎◌, inl, inr, Bool, true, false, if◌then◌else◌, nat_lt, reverse, List, [], ◌∷◌, ◌++◌, map, filter_map, length, Option, Some, None, option_map, option_and_then, refl, sym, ap, ◌∙◌}
use Rattle.std.specs.Prelude.{slice_get, set}
use Rattle.host_kit.specs.Offered.{exported, func_type}
use Rattle.host_kit.specs.Pairwise.{Pairwise}
use Rattle.host_kit.specs.declared.script.Act.{Act}
use Rattle.host_kit.specs.declared.script.Act.TheVariants.{Set, Peek, Poke}
use Rattle.host_kit.specs.declared.script.Reply.{Reply}
use Rattle.host_kit.specs.declared.script.Item.{Item}
use Rattle.host_kit.specs.declared.script.Item.TheVariants.{Call, Host}
use Rattle.host_kit.specs.declared.script.Script.{Script}
use Rattle.host_kit.specs.declared.value.Value.{Value}
use Rattle.host_kit.specs.declared.event.Event.TheVariants as events
use Rattle.wasm_ast.specs.declared.module.ty.Ty.{Ty}
use Rattle.wasm_ast.specs.declared.module.ty.FuncType.{FuncType}
use Rattle.wasm_ast.specs.declared.module.code.Body.{Body}
use Rattle.wasm_ast.specs.declared.module.code.Instr.{Instr}
use Rattle.wasm_ast.specs.declared.module.parts.Export.{Export}
use Rattle.wasm_ast.specs.declared.module.parts.ExportDesc.{ExportDesc}
use Rattle.wasm_ast.specs.declared.module.parts.ExportDesc.TheVariants.{Func, Tag}
use Rattle.wasm_ast.specs.declared.module.parts.Module.{Module}
use Rattle.evaluation_kit.specs.declared.jump.Jump.TheVariants.{Throw, NoReply, Full, Stuck}
use Rattle.outcome_kit.specs.Outcome.{turn, Halt, bind}
use Rattle.outcome_kit.specs.Code.{Go, Leave}
use Rattle.evaluation_kit.specs.Configurations.{PlainRes, Sem}
use Rattle.evaluation_kit.specs.Control as control
use Rattle.evaluation_kit.specs.Control.{Function, opened, leave_body, enter, arrive}
use Rattle.evaluation_kit.specs.Languages.{code_with, enter_with, func_within, func}
use Rattle.evaluation_kit.specs.Tasks.{Task, Change, Enter, world_after}
use Rattle.meaning_new.specs.declared.val.Val.{Val}
use Rattle.meaning_new.specs.Store.{Store, State, Exception, tell, to_host, from_host}
use Rattle.meaning_new.specs.Host.{global_value, global_values, set_export, exported_memory, peek, poke, act, acts, replied, host_call}
use Rattle.meaning_new.specs.Instances.{new_state, place_segments}
use Rattle.meaning_new.specs.Forms.{function, imported_funcs, callee_of_type}
use Rattle.meaning_new.specs.Language.{language}
use Rattle.meaning_new.specs.Runs.{instantiated, start_task, trapped, uncaught, answered, call_task, item_task, item_tasks, run_tasks, end_within, trace, depth}
use Rattle.pass_plain.proofs.Evaluations.{changed}

-- what two modules export under a name: the same, or a tag in the first alone
abbrev pub SameOffer : Option ExportDesc → Option ExportDesc → Type 0
SameOffer o o' = (o ≡ o') ⊎ ((x : ℕ) × (o ≡ Some (Tag x)) × (o' ≡ None))

-- what tells a tag and nothing not apart tells both not apart
pub same_offer : {B : Type 0} (g : Option ExportDesc → B) → ((x : ℕ) → g (Some (Tag x)) ≡ g None) → (o o' : Option ExportDesc) → SameOffer o o' → g o ≡ g o'
same_offer g h o o' (inl e) = ap g e
same_offer g h o o' (inr t) = ap g t.1 ∙ h t.0 ∙ ap g (sym t.2)

module _ (m : Module) (codes : List Body) (exports : List Export) (count : Option ℕ) where
  -- a body that does what another does, with as many locals of the same types
  pub record SameBody (b b' : Body) : Type 0 where
    pub locals : b.locals ≡ b'.locals
    pub code : (funcs : ℕ → Sem Val State) → code_with (language m) funcs b.code ≡ code_with (language (changed m codes exports count)) funcs b'.code

  -- what the runs of both modules rest on
  pub record SameParts : Type 0 where
    pub bodies : Pairwise SameBody m.codes codes
    pub offers : (name : List ℕ) → SameOffer (exported m name) (exported (changed m codes exports count) name)
    pub values : (s : Store) → filter_map (λ e. global_value s e.desc) m.exports ≡ filter_map (λ e. global_value s e.desc) exports

module _ (m : Module) (codes : List Body) (exports : List Export) (count : Option ℕ) (same : SameParts m codes exports count) where
  abbrev other : Module
  other = changed m codes exports count

  -- the host does the same with both
  act_alike : (a : Act) (s : State) → act m a s ≡ act other a s
  act_alike (Set name v) s = same_offer (λ o. set_export o v s) (λ x. refl) (exported m name) (exported other name) (same.offers name)
  act_alike (Peek name at count') s = same_offer (λ o. peek (exported_memory o s.store) at count' s) (λ x. refl) (exported m name) (exported other name) (same.offers name)
  act_alike (Poke name at bytes) s = same_offer (λ o. poke o (exported_memory o s.store) at bytes s) (λ x. refl) (exported m name) (exported other name) (same.offers name)

  acts_alike : (done : List Act) (s : State) → acts m done s ≡ acts other done s
  acts_alike [] s = refl
  acts_alike (a ∷ more) s = ap (acts m more) (act_alike a s) ∙ acts_alike more (act other a s)

  replied_alike : (x : ℕ) (o : Option (List Reply)) (s : State) → replied m x o s ≡ replied other x o s
  replied_alike x (Some (reply ∷ more)) s =
      ap {B = PlainRes Val State} (λ (t : State). Go (record { operands = reverse (map from_host reply.values); locals = []; state = t })) (acts_alike reply.acts (record s { replies = set s.replies x more }))
  replied_alike x (Some []) s = refl
  replied_alike x None s = refl

  host_alike : (x : ℕ) → host_call m x ≡ host_call other x
  host_alike x = fun_ext (λ p.
      ap (λ vs. replied m x (slice_get p.state.replies x) (tell (events.HostCall x (map to_host (reverse p.operands)) vs) p.state)) (same.values p.state.store)
      ∙ replied_alike x (slice_get p.state.replies x) (tell (events.HostCall x (map to_host (reverse p.operands)) (global_values other p.state)) p.state))

  -- the entry of a function of the module, with the body of each
  abbrev entry : Module → (ℕ → Sem Val State) → Function Instr Val → Sem Val State
  entry m' funcs f d n c = turn n c.world (λ k. enter (code_with (language m') funcs f.body) funcs f d k c)

  own_alike : (funcs : ℕ → Sem Val State) (t : FuncType) (b b' : Body) → SameBody m codes exports count b b' → entry m funcs (function t b) ≡ entry other funcs (function t b')
  own_alike funcs t b b' r =
      ap {B = Sem Val State} (λ (a : Sem Val State) d n c. turn n c.world (λ k. bind k (a (d + 1) k (opened d (function t b) c)) (leave_body (λ g. funcs g d) (length t.results)))) (r.code funcs)
      ∙ ap {B = Sem Val State} (λ (ls : List Ty) d n c. turn n c.world (λ k. bind k (code_with (language other) funcs b'.code (d + 1) k (opened d (function t (record { locals = ls; code = b'.code })) c)) (leave_body (λ g. funcs g d) (length t.results)))) r.locals

  -- what an index names in both
  abbrev SameAt : Option Body → Option Body → Type 0
  SameAt None None = Unit {0}
  SameAt None (Some b') = ⊥
  SameAt (Some b) None = ⊥
  SameAt (Some b) (Some b') = SameBody m codes exports count b b'

  bodies_at : (bs bs' : List Body) → Pairwise (SameBody m codes exports count) bs bs' → (k : ℕ) → SameAt (slice_get bs k) (slice_get bs' k)
  bodies_at [] [] h k = tt
  bodies_at [] (b' ∷ bs') h k = absurd h
  bodies_at (b ∷ bs) [] h k = absurd h
  bodies_at (b ∷ bs) (b' ∷ bs') h zero = h.0
  bodies_at (b ∷ bs) (b' ∷ bs') h (suc k) = bodies_at bs bs' h.1 k

  -- two entries that do the same with bodies that do the same
  abbrev AlikeOnBodies : (Function Instr Val → Sem Val State) → (Function Instr Val → Sem Val State) → Type 0
  AlikeOnBodies own new = (t : FuncType) (b b' : Body) → SameBody m codes exports count b b' → own (function t b) ≡ new (function t b')

  arrives : (own new : Function Instr Val → Sem Val State) → AlikeOnBodies own new → (t : FuncType) (o o' : Option Body) → SameAt o o' → arrive (option_map (λ body. control.Own (function t body)) o) own ≡ arrive (option_map (λ body. control.Own (function t body)) o') new
  arrives own new h t None None r = refl
  arrives own new h t None (Some b') r = absurd r
  arrives own new h t (Some b) None r = absurd r
  arrives own new h t (Some b) (Some b') r = h t b b' r

  arrives_of : (own new : Function Instr Val → Sem Val State) → AlikeOnBodies own new → (x : ℕ) (t : FuncType) (b : Bool) →
      arrive (if b then Some (control.Host (length t.params) (host_call m x)) else option_map (λ body. control.Own (function t body)) (slice_get m.codes (x - imported_funcs m))) own
      ≡ arrive (if b then Some (control.Host (length t.params) (host_call other x)) else option_map (λ body. control.Own (function t body)) (slice_get codes (x - imported_funcs m))) new
  arrives_of own new h x t true = ap (λ act. control.hosted (length t.params) act) (host_alike x)
  arrives_of own new h x t false =
      arrives own new h t (slice_get m.codes (x - imported_funcs m)) (slice_get codes (x - imported_funcs m)) (bodies_at m.codes codes same.bodies (x - imported_funcs m))

  arrives_at : (own new : Function Instr Val → Sem Val State) → AlikeOnBodies own new → (x : ℕ) (o : Option FuncType) → arrive (option_and_then (callee_of_type m x) o) own ≡ arrive (option_and_then (callee_of_type other x) o) new
  arrives_at own new h x None = refl
  arrives_at own new h x (Some t) = arrives_of own new h x t (nat_lt x (imported_funcs m))

  -- functions that enter at most so many others
  within_alike : (k : ℕ) → func_within (language m) k ≡ func_within (language other) k
  within_alike zero = fun_ext (λ x. arrives_at (λ f d n c. Halt c.world) (λ f d n c. Halt c.world) (λ t b b' r. refl) x (func_type m x))
  within_alike (suc k) =
      ap (enter_with (language m)) (within_alike k)
      ∙ fun_ext (λ x. arrives_at (entry m (func_within (language other) k)) (entry other (func_within (language other) k)) (own_alike (func_within (language other) k)) x (func_type m x))

  funcs_alike : func (language m) ≡ func (language other)
  unfolding func
  funcs_alike = fun_ext (λ x. fun_ext (λ d. fun_ext (λ n. fun_ext (λ c. ap (λ (f : ℕ → Sem Val State). f x d n c) (within_alike n)))))

  -- the tasks of the host
  trapped_alike : (i : ℕ) (s : State) → trapped m i s ≡ trapped other i s
  trapped_alike i s = ap (λ vs. tell (events.Trapped i vs) s) (same.values s.store)

  uncaught_alike : (i : ℕ) (o : Option Exception) (s : State) → uncaught m i o s ≡ uncaught other i o s
  uncaught_alike i None s = trapped_alike i s
  uncaught_alike i (Some x) s = ap (λ vs. tell (events.Uncaught i x.tag (map to_host (reverse x.payload)) vs) s) (same.values s.store)

  answered_alike : (i : ℕ) (r : PlainRes Val State) → answered m i r ≡ answered other i r
  answered_alike i (Go p) = ap (λ vs. Go (tell (events.Returned i (map to_host (reverse p.operands)) vs) p.state)) (same.values p.state.store)
  answered_alike i (Leave (Throw e) p) = ap Go (uncaught_alike i (slice_get p.state.store.exceptions e) p.state)
  answered_alike i (Leave (NoReply x) p) = refl
  answered_alike i (Leave Full p) = refl
  answered_alike i (Leave Stuck p) = refl
  answered_alike i (Leave jump p) = ap Go (trapped_alike i p.state)

  abbrev traps : Module → ℕ → Task Val State
  traps m' i = Change (λ s. Go (trapped m' i s))

  no_call : (i : ℕ) → traps m i ≡ traps other i
  no_call i = ap (λ (f : State → State). Change (λ s. Go (f s))) (fun_ext (trapped_alike i))

  call_by_alike : (i : ℕ) (o : Option ExportDesc) (arguments : List Value) → call_task m i o arguments ≡ call_task other i o arguments
  call_by_alike i (Some (Func x)) arguments = ap (Enter x (reverse (map from_host arguments))) (fun_ext (answered_alike i))
  call_by_alike i None arguments = no_call i
  call_by_alike i (Some desc) arguments = no_call i

  call_alike : (i : ℕ) (name : List ℕ) (arguments : List Value) → call_task m i (exported m name) arguments ≡ call_task other i (exported other name) arguments
  call_alike i name arguments =
      same_offer (λ o. call_task m i o arguments) (λ x. refl) (exported m name) (exported other name) (same.offers name)
      ∙ call_by_alike i (exported other name) arguments

  item_alike : (i : ℕ) (item : Item) → item_task m i item ≡ item_task other i item
  item_alike i (Call name arguments) = call_alike i name arguments
  item_alike i (Host a) = ap (λ (f : State → State). Change (λ s. Go (f s))) (fun_ext (act_alike a))

  items_alike : (i : ℕ) (items : List Item) → item_tasks m i items ≡ item_tasks other i items
  items_alike i [] = refl
  items_alike i (item ∷ more) = ap (λ t. t ∷ item_tasks m (i + 1) more) (item_alike i item) ∙ ap (λ ts. item_task other i item ∷ ts) (items_alike (i + 1) more)

  tasks_alike : (script : Script) → run_tasks m script ≡ run_tasks other script
  tasks_alike script = ap (λ ts. Change (λ s. instantiated s (place_segments m s.store)) ∷ (start_task m.start ++ (Change (λ s. Go (tell events.Started s)) ∷ ts))) (items_alike 0 script.items)

  end_alike : (permits : List ℕ → Bool) (room : ℕ → Bool) (script : Script) (n : ℕ) → end_within permits room other script n ≡ end_within permits room m script n
  end_alike permits room script n =
      sym (ap (λ fs. world_after fs (run_tasks m script) (new_state permits room false m script) n) funcs_alike
      ∙ ap (λ ts. world_after (func (language other)) ts (new_state permits room false m script) n) (tasks_alike script))

  pub traces_alike : (script : Script) (n : ℕ) → trace other script n ≡ trace m script n
  unfolding trace
  traces_alike script n = ap (λ w. w.state.trace) (end_alike (λ sizes. true) (λ k. true) script n)

  pub depths_alike : (script : Script) (n : ℕ) → depth other script n ≡ depth m script n
  unfolding depth
  depths_alike script n = ap (λ w. w.deepest) (end_alike (λ sizes. true) (λ k. true) script n)
