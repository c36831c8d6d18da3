-- An instruction that changes the store alone, in a state.
use Rattle.std.proofs.Common.{◌≡◌, ℕ, List, Option, sym, ap, ◌∙◌, subst}
use Rattle.wasm_ast.specs.declared.module.code.Instr.{Instr, out-Instr}
use Rattle.wasm_ast.specs.declared.module.code.Instr.TheOpen.{Instr-F}
use Rattle.wasm_ast.specs.declared.module.parts.Module.{Module}
use Rattle.machine_kit.specs.Acts.{act_of}
use Rattle.meaning_new.specs.Exceptions.{throw}
use Rattle.meaning_new.specs.Forms.{layer, param_count, type_of_tag}
use Rattle.run_new.specs.Leaves.{act, Ends}
use Rattle.evaluation_kit.specs.declared.jump.Jump.{Jump}
use Rattle.evaluation_kit.specs.Configurations.{Plain, PlainRes}
use Rattle.machine_kit.specs.Stacks.{Stack}
use Rattle.run_kit.specs.declared.change.Change.{Change}
use Rattle.run_kit.specs.Changes.{Changes}
use Rattle.meaning_new.specs.declared.val.Val.{Val}
use Rattle.meaning_new.specs.Store.{Store, State, with_store}
use Rattle.run_new.specs.States.{Kept, whole}

pub in_state : (v s : Kept) → v ≡ s → (act : Plain Val State → PlainRes Val State) (o : Stack Val) (l : List Val) (new : Store) (change : Change Val)
    → ((t : State) → Changes act o l (with_store v.store t) change l (with_store new t)) → Changes act o l (whole s) change l (whole (record v { store = new }))
in_state v s e act o l new change h = subst (λ (k : Kept). Changes act o l (whole k) change l (whole (record v { store = new }))) e (h (whole v))

pub ended_in_state : (v s : Kept) → v ≡ s → (act : Plain Val State → PlainRes Val State) (o o' : Stack Val) (l : List Val) (new : Store) (j : Option Jump)
    → ((t : State) → Ends act o l (with_store v.store t) o' l (with_store new t) j) → Ends act o l (whole s) o' l (whole (record v { store = new })) j
ended_in_state v s e act o o' l new j h = subst (λ (k : Kept). Ends act o l (whole k) o' l (whole (record v { store = new })) j) e (h (whole v))

-- the same of a throw, with as many operands as its tag takes
pub thrown_in_state : (v s : Kept) → v ≡ s → (m : Module) (i : Instr) (tag count : ℕ) (o : Stack Val) (l : List Val) (new : Store) (change : Change Val) → out-Instr i ≡ Instr-F.Throw tag → count ≡ param_count (type_of_tag m tag)
    → ((t : State) → Changes (throw tag count) o l (with_store v.store t) change l (with_store new t)) → Changes (act m i) o l (whole s) change l (whole (record v { store = new }))
thrown_in_state v s e m i tag count o l new change is counts h =
    in_state v s e (act m i) o l new change (λ t.
    let p : Plain Val State = record { operands = o.used; locals = l; state = with_store v.store t } in
    ap (λ x. act_of (layer m Instr x) p) is ∙ (ap (λ n. throw tag n p) (sym counts) ∙ h t))
