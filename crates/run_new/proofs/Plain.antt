-- Nodes that are plain, and the others.
use Rattle.std.proofs.Common.{◌≡◌, ◌⊎◌, inl, inr, ℕ, true, false, List, Option, Some, None, refl, sym, ap, ◌∙◌, subst}
use Rattle.wasm_ast.specs.declared.module.code.Instr.{Instr, out-Instr, roll-Instr, out-roll-Instr}
use Rattle.wasm_ast.specs.declared.module.code.Instr.TheVariants.{GlobalGet, GlobalSet, Load, Store, LoadVector, StoreVector, LoadLane, StoreLane, rolls-GlobalGet, rolls-GlobalSet, rolls-Load, rolls-Store, rolls-LoadVector, rolls-StoreVector, rolls-LoadLane, rolls-StoreLane}
use Rattle.wasm_ast.specs.declared.module.code.Instr.TheOpen.{Instr-F}
use Rattle.wasm_ast.specs.declared.module.immediates.MemArg.{MemArg}
use Rattle.wasm_ast.specs.declared.module.parts.Module.{Module}
use Rattle.num_core.specs.declared.operators.Load as loads
use Rattle.num_core.specs.declared.operators.Store as stores
use Rattle.lane_core.specs.declared.operators.LaneLoad.{LaneLoad}
use Rattle.lane_core.specs.declared.vector.Shape.{Shape}
use Rattle.typed_trees.specs.declared.node.Node.{Node}
use Rattle.typed_trees.specs.Trees.{head_of, first_of, second_of}
use Rattle.evaluation_kit.specs.declared.jump.Jump.{Jump}
use Rattle.evaluation_kit.specs.Forms.{Form, Flat}
use Rattle.machine_kit.specs.Acts.{act_of}
use Rattle.machine_kit.specs.declared.head.Step.{Step}
use Rattle.machine_kit.specs.declared.head.Step.TheVariants as steps
use Rattle.machine_kit.specs.Heads.{IsForm, StepIs, step_done}
use Rattle.machine_kit.specs.Stacks.{Stack}
use Rattle.meaning_new.specs.declared.val.Val.{Val}
use Rattle.meaning_new.specs.Forms.{layer}
use Rattle.run_kit.specs.Narrowing.{part_form, part_act, part_plain_res}
use Rattle.run_new.specs.States.{Kept, unbounded, whole}
use Rattle.run_new.specs.Leaves.{act, is_plain, Ends, Stepped}
use Rattle.run_new.specs.Nodes.{with_code, node_form}

-- the form of a plain instruction
flat_by : (m : Module) (l : Instr-F Instr) (first second : List Node) → is_plain l ≡ true → with_code (part_form unbounded (layer m Instr l)) first second ≡ Flat (part_act unbounded (act_of (layer m Instr l)))
flat_by m (Instr-F.Block t code) first second e = let no : ⊥ = cc in absurd no
flat_by m (Instr-F.Loop t code) first second e = let no : ⊥ = cc in absurd no
flat_by m (Instr-F.If t a b) first second e = let no : ⊥ = cc in absurd no
flat_by m (Instr-F.TryTable t clauses code) first second e = let no : ⊥ = cc in absurd no
flat_by m (Instr-F.Call x) first second e = let no : ⊥ = cc in absurd no
flat_by m (Instr-F.CallIndirect t x) first second e = let no : ⊥ = cc in absurd no
flat_by m l first second e = refl

form_by : (m : Module) (l : Instr-F Instr) (first second : List Node) → is_plain l ≡ false → IsForm (with_code (part_form unbounded (layer m Instr l)) first second)
form_by m (Instr-F.Block t code) first second e = tt
form_by m (Instr-F.Loop t code) first second e = tt
form_by m (Instr-F.If t a b) first second e = tt
form_by m (Instr-F.TryTable t clauses code) first second e = tt
form_by m (Instr-F.Call x) first second e = tt
form_by m (Instr-F.CallIndirect t x) first second e = tt
form_by m l first second e = let no : ⊥ = cc in absurd no

pub is_form : (m : Module) (n : Node) → is_plain (out-Instr (head_of n)) ≡ false → IsForm (node_form m n)
is_form m n e = form_by m (out-Instr (head_of n)) (first_of n) (second_of n) e

pub is_flat : (m : Module) (n : Node) → is_plain (out-Instr (head_of n)) ≡ true → node_form m n ≡ Flat (part_act unbounded (act m (head_of n)))
is_flat m n e = flat_by m (out-Instr (head_of n)) (first_of n) (second_of n) e

-- accesses are plain
is_plain_by : (i v : Instr) (l : Instr-F Instr) → i ≡ v → roll-Instr l ≡ v → is_plain l ≡ true → is_plain (out-Instr i) ≡ true
is_plain_by i v l is rolled plain = ap (λ x. is_plain (out-Instr x)) (is ∙ sym rolled) ∙ (ap is_plain (out-roll-Instr l) ∙ plain)

pub is_access_plain : (i : Instr) → ((x : ℕ) × (i ≡ GlobalGet x)) ⊎ (((x : ℕ) × (i ≡ GlobalSet x)) ⊎ (((op : loads.Load) × (at : MemArg) × (i ≡ Load op at)) ⊎ ((op : stores.Store) × (at : MemArg) × (i ≡ Store op at)))) → is_plain (out-Instr i) ≡ true
is_access_plain i (inl h) = is_plain_by i (GlobalGet h.0) (Instr-F.GlobalGet h.0) h.1 (rolls-GlobalGet h.0) refl
is_access_plain i (inr (inl h)) = is_plain_by i (GlobalSet h.0) (Instr-F.GlobalSet h.0) h.1 (rolls-GlobalSet h.0) refl
is_access_plain i (inr (inr (inl h))) = is_plain_by i (Load h.0 h.1) (Instr-F.Load h.0 h.1) h.2 (rolls-Load h.0 h.1) refl
is_access_plain i (inr (inr (inr h))) = is_plain_by i (Store h.0 h.1) (Instr-F.Store h.0 h.1) h.2 (rolls-Store h.0 h.1) refl

pub is_vector_access_plain : (i : Instr) → ((op : LaneLoad) × (at : MemArg) × (i ≡ LoadVector op at)) ⊎ (((at : MemArg) × (i ≡ StoreVector at)) ⊎ (((shape : Shape) × (at : MemArg) × (lane : ℕ) × (i ≡ LoadLane shape at lane)) ⊎ ((shape : Shape) × (at : MemArg) × (lane : ℕ) × (i ≡ StoreLane shape at lane)))) → is_plain (out-Instr i) ≡ true
is_vector_access_plain i (inl h) = is_plain_by i (LoadVector h.0 h.1) (Instr-F.LoadVector h.0 h.1) h.2 (rolls-LoadVector h.0 h.1) refl
is_vector_access_plain i (inr (inl h)) = is_plain_by i (StoreVector h.0) (Instr-F.StoreVector h.0) h.1 (rolls-StoreVector h.0) refl
is_vector_access_plain i (inr (inr (inl h))) = is_plain_by i (LoadLane h.0 h.1 h.2) (Instr-F.LoadLane h.0 h.1 h.2) h.3 (rolls-LoadLane h.0 h.1 h.2) refl
is_vector_access_plain i (inr (inr (inr h))) = is_plain_by i (StoreLane h.0 h.1 h.2) (Instr-F.StoreLane h.0 h.1 h.2) h.3 (rolls-StoreLane h.0 h.1 h.2) refl

-- an instruction that is plain, and did this
pub is_done_instr : (m : Module) (i : Instr) (o o' l l' : Stack Val) (s s' : Kept) (j : Option Jump) → is_plain (out-Instr i) ≡ true → Ends (act m i) o l.used (whole s) o' l'.used (whole s') j → l'.aside ≡ l.aside → Stepped m i (step_done j) o l s o' l' s'
is_done_instr m i o o' l l' s s' None plain h aside = (plain, (ap (part_plain_res unbounded) h.0, h.1, aside))
is_done_instr m i o o' l l' s s' (Some j) plain h aside = (plain, (ap (part_plain_res unbounded) h.0, h.1, aside))

-- a node does what its instruction does
pub is_node_step : (m : Module) (n : Node) (step : Step) (o o' l l' : Stack Val) (s s' : Kept) → Stepped m (head_of n) step o l s o' l' s' → StepIs (node_form m n) step o l s o' l' s'
is_node_step m n steps.Next o o' l l' s s' h =
    subst (λ (f : Form Val Kept Node). StepIs f steps.Next o l s o' l' s') (sym (is_flat m n h.0)) (refl, h.1)
is_node_step m n (steps.Jump j) o o' l l' s s' h =
    subst (λ (f : Form Val Kept Node). StepIs f (steps.Jump j) o l s o' l' s') (sym (is_flat m n h.0)) (refl, h.1)
is_node_step m n steps.Form o o' l l' s s' h = (is_form m n h.0, h.1, h.2, h.3)
