-- Each instruction that 1.0 has becomes one whose form is alike.
use Rattle.std.proofs.Common.{◌≡◌, ℕ, Bool, true, false, List, map, Option, Some, None, option_map, refl, sym, ap, ◌∙◌, subst, if◌then◌else◌}
use Rattle.std.specs.Prelude.{slice_get, option_and_then}
use Rattle.std.proofs.lemmas.Option.{slice_get-map}
use Rattle.std.proofs.lemmas.Bool.{eqb-true}
use Rattle.evaluation_kit.specs.declared.jump.Jump.{Jump}
use Rattle.evaluation_kit.specs.declared.jump.Jump.TheVariants as jumps
use Rattle.evaluation_kit.specs.Configurations.{Plain, PlainRes}
use Rattle.evaluation_kit.specs.Languages.{Language}
use Rattle.evaluation_kit.specs.Leaves as leaves
use Rattle.simulation_kit.specs.Fitting.{FormFits}
use Rattle.simulation_kit.specs.Keeping.{Holds, HoldsAfter, NamedJump, ActKeeps}
use Rattle.simulation_kit.specs.Likenesses.{LeafLike, PickedLike, PickLike, FormLike}
use Rattle.simulation_kit.specs.Mirrors.{mirrored, image, ActMirrors}
use Rattle.simulation_kit.specs.Rewriting.{rewrite}
use Rattle.simulation_kit.proofs.Fitting.{fits_inside}
use Rattle.simulation_kit.proofs.MappedLeaves.{get_local_mirrors, set_local_mirrors, tee_local_mirrors, on_operands_mirrors, branch_if_mirrors, branch_table_mirrors}
use Rattle.simulation_kit.proofs.Mirroring.{leaf_like}
use Rattle.wasm_ast.specs.declared.module.ty.BlockType.{BlockType}
use Rattle.wasm_ast.specs.declared.module.ty.BlockType.TheVariants as blocks
use Rattle.wasm_ast.specs.declared.module.code.Instr.{Instr}
use Rattle.wasm_ast.specs.declared.module.code.Instr.TheOpen.{Instr-F}
use Rattle.wasm_ast.specs.declared.module.parts.Module.{Module}
use Rattle.core1_ast.specs.declared.module.code.Instr1.{Instr1}
use Rattle.core1_ast.specs.declared.module.code.Instr1.TheOpen.{Instr1-F}
use Rattle.host_kit.specs.Offered.{func_type}
use Rattle.meaning_new.specs.declared.val.Val.{Val}
use Rattle.meaning_new.specs.Store.{Table, State, missing, on_store, on_growth}
use Rattle.meaning_new.specs.Memories.{memory_size, memory_grow}
use Rattle.meaning_new.specs.Numeric.{first, pure}
use Rattle.meaning_new.specs.Forms.{takes, gives, holds, drop_operand, select, function_of, of_type, pick}
use Rattle.meaning_new.specs.Language.{language}
use Rattle.meaning_core1.specs.declared.val1.Val1.{Val1}
use Rattle.meaning_core1.specs.Store.{State1, by_store, by_growth}
use Rattle.meaning_core1.specs.Accesses.{size1, grow1}
use Rattle.meaning_core1.specs.Operators.{top1, pure_op, is_true, dropped, selected}
use Rattle.meaning_core1.specs.Language.{language1, block_results, parameter_count, typed_as, pick1, equal_func_types}
use Rattle.crossing.specs.Code.{cross_block, is_block, cross_op, cross_layer, cross_step, crosses}
use Rattle.crossing.specs.Modules.{cross, cross_func_type}
use Rattle.crossing.specs.States.{cross_value, cross_state, cross_table, IsInteger}
use Rattle.crossing.specs.Crossing.{crossing_test, InstrCrosses, FunctionsCross}
use Rattle.crossing.proofs.Keeping.{Integers, IfThere, keeps, all_get, all_set, all_at, all_below, all_top}
use Rattle.crossing.proofs.Images.{M, crossed, first-cross}
use Rattle.crossing.proofs.Operators.{pure-cross, pure_kept, holds-cross, drop-cross, drop_kept, select-cross, select_kept}
use Rattle.crossing.proofs.Stores.{effect_like, get_global_crosses, set_global_crosses, load_crosses, store_crosses, size_crosses}
use Rattle.crossing.proofs.Growths.{grow_like}
use Rattle.crossing.proofs.Types.{func_type-cross, params-cross, same_type-cross, func_type_there}

-- what plain instructions keep
operands_kept : (f : List Val → Option (List Val)) → ((o : List Val) → Integers o → IfThere Integers (f o)) → ActKeeps keeps (leaves.on_operands f)
operands_kept f kept = record { keeps = λ q h. after q h (f q.operands) (kept q.operands h.operands) }
  where
    after : (q : Plain Val State) → Holds keeps q → (o : Option (List Val)) → IfThere Integers o → HoldsAfter keeps (leaves.operands_or_trap q o)
    after q h None k = (tt, h)
    after q h (Some o) k = record { operands = k; locals = h.locals; state = h.state }

jump_kept : (j : Jump) → NamedJump keeps j → ActKeeps keeps (leaves.jump j)
jump_kept j n = record { keeps = λ q h. (n, h) }

branch_kept : (b : Bool) (k : ℕ) (q : Plain Val State) → Holds keeps q → HoldsAfter keeps (leaves.jump_where b (jumps.Branch k) q)
branch_kept true k q h = (tt, h)
branch_kept false k q h = h

popped_kept : (q : Plain Val State) → Holds keeps q → Holds keeps (record q { operands = leaves.below q.operands })
popped_kept q h = record { operands = all_below IsInteger q.operands h.operands; locals = h.locals; state = h.state }

-- a plain instruction by the mirror
mirrors : (act : Plain Val State → PlainRes Val State) (act' : Plain Val1 State1 → PlainRes Val1 State1) → ActMirrors M act act' → ActKeeps keeps act → LeafLike (mirrored M) act act'
mirrors act act' e kept = leaf_like M act act' e kept

operands_like : (f : List Val → Option (List Val)) (f' : List Val1 → Option (List Val1)) → ((o : List Val) → f' (crossed o) ≡ option_map crossed (f o)) → ((o : List Val) → Integers o → IfThere Integers (f o)) → LeafLike (mirrored M) (leaves.on_operands f) (leaves.on_operands f')
operands_like f f' e kept =
    mirrors (leaves.on_operands f) (leaves.on_operands f')
    (on_operands_mirrors true false 0 (Unit {0}) (λ p o. Unit {0}) keeps cross_value (λ x. x) cross_state f f' e) (operands_kept f kept)

-- blocks take nothing and give at most one
block_takes : (m : Module) (t : BlockType) → is_block t ≡ true → 0 ≡ takes m t
block_takes m blocks.Empty h = refl
block_takes m (blocks.One t) h = refl
block_takes m (blocks.Index x) h = absurd cc

block_gives : (m : Module) (t : BlockType) → is_block t ≡ true → block_results (cross_block t) ≡ gives m t
block_gives m blocks.Empty h = refl
block_gives m (blocks.One t) h = refl
block_gives m (blocks.Index x) h = absurd cc

module _ (m : Module) (crossing : FunctionsCross m) where
  abbrev pub L : Language Instr Instr-F Val State
  L = language m

  abbrev pub L' : Language Instr1 Instr1-F Val1 State1
  L' = language1 (cross m)

  -- the function that call_indirect picks
  typed_alike : (t f : ℕ) → typed_as (cross m) t (Some f) ≡ of_type m t f
  typed_alike t f =
      ap (λ o. if equal_func_types o (slice_get (cross m).types t) then Some f else None) (func_type-cross m f)
      ∙ ap (λ o. if equal_func_types (option_map cross_func_type (func_type m f)) o then Some f else None) (slice_get-map cross_func_type m.types t)
      ∙ ap (λ b. if b then Some f else None) (same_type-cross (func_type m f) (slice_get m.types t) (func_type_there m crossing.types f) (all_get _ m.types t crossing.types))

  picked_value : (t : ℕ) (o : Option ℕ) → typed_as (cross m) t o ≡ option_and_then (of_type m t) o
  picked_value t None = refl
  picked_value t (Some f) = typed_alike t f

  picked_entry : (t : ℕ) (o : Option Val) → option_and_then (typed_as (cross m) t) (option_map function_of o) ≡ option_and_then (of_type m t) (option_and_then function_of o)
  picked_entry t None = refl
  picked_entry t (Some v) = picked_value t (function_of v)

  picked_table : (t at : ℕ) (o : Option Table) → option_and_then (typed_as (cross m) t) (option_and_then (λ entries. slice_get entries at) (option_map cross_table o)) ≡ option_and_then (of_type m t) (option_and_then function_of (option_and_then (λ (table : Table). slice_get table.entries at) o))
  picked_table t at None = refl
  picked_table t at (Some table) =
      ap (option_and_then (typed_as (cross m) t)) (slice_get-map function_of table.entries at)
      ∙ picked_entry t (slice_get table.entries at)

  pick-cross : (t : ℕ) (q : Plain Val State) → pick1 (cross m) t (image M q) ≡ pick m t 0 q
  pick-cross t q =
      ap (λ (at : ℕ). option_and_then (typed_as (cross m) t) (option_and_then (λ entries. slice_get entries at) (slice_get (map cross_table q.state.store.tables) 0))) (first-cross q.operands)
      ∙ ap (λ o. option_and_then (typed_as (cross m) t) (option_and_then (λ entries. slice_get entries (first q.operands)) o)) (slice_get-map cross_table q.state.store.tables 0)
      ∙ picked_table t (first q.operands) (slice_get q.state.store.tables 0)

  picked : (o : Option ℕ) (o' : Option ℕ) → o' ≡ o → PickedLike (mirrored M) o o'
  picked None o' e = e
  picked (Some f) o' e = (tt, e)

  pick_like : (t table : ℕ) → table ≡ 0 → PickLike (mirrored M) (pick m t table) (pick1 (cross m) t)
  pick_like t table e = record {
    picks = λ q q' h.
        picked (pick m t table q) (pick1 (cross m) t q')
        (ap (λ (o : List Val1). pick1 (cross m) t (record { operands = o; locals = q'.locals; state = q'.state })) h.operands
        ∙ ap (λ (s : State1). pick1 (cross m) t (record { operands = crossed q.operands; locals = q'.locals; state = s })) h.state
        ∙ pick-cross t q
        ∙ ap (λ (x : ℕ). pick m t x q) (sym e));
  }

  abbrev pub seen : Unit {0} → Unit {0}
  seen p = tt

  -- what one layer becomes, wherever it stands
  abbrev pub becomes : Instr-F (Unit {0} → List Instr1) → Unit {0} → Instr1-F Instr1
  becomes l x = cross_layer l

  module _ (P : Instr → Type 0) where
    -- an instruction whose bodies are given with anything beside
    abbrev Part : Type 0
    Part = (i : Instr) × P i

    -- its form is alike to that of what it becomes
    abbrev IsAlike : Instr-F Part → Type 0
    IsAlike l = FormLike (mirrored M) L cross_step seen (InstrCrosses m) P tt (L.layer Part l) (L'.layer Instr1 (cross_layer (L.tree.over Part (Unit {0} → List Instr1) (λ y. rewrite L cross_step y.0) l)))

    form_of : (l : Instr-F Part) → crosses Part l ≡ true → FormFits (λ f. true ≡ true) (InstrCrosses m) (L.layer Part l) → IsAlike l
    form_of Instr-F.Unreachable own fits = mirrors _ _ (λ q. refl) (jump_kept jumps.Trap tt)
    form_of Instr-F.Nop own fits = mirrors _ _ (λ q. refl) (record { keeps = λ q h. h })
    form_of (Instr-F.Block t code) own fits =
        (block_takes m t own, block_gives m t own, record { inner = tt; around = tt; fits = fits; rewritten = refl })
    form_of (Instr-F.Loop t code) own fits =
        (block_takes m t own, block_gives m t own, record { inner = tt; around = tt; fits = fits; rewritten = refl })
    form_of (Instr-F.If t first second) own fits =
        (block_takes m t own, block_gives m t own, holds-cross, record { inner = tt; around = tt; first_fits = fits.0; second_fits = fits.1; first_rewritten = refl; second_rewritten = refl })
    form_of (Instr-F.Br l) own fits = mirrors _ _ (λ q. refl) (jump_kept (jumps.Branch l) tt)
    form_of (Instr-F.BrIf l) own fits =
        mirrors _ _ (branch_if_mirrors true false 0 (Unit {0}) (λ p o. Unit {0}) keeps cross_value (λ f. f) cross_state holds is_true l holds-cross)
        (record { keeps = λ q h. branch_kept (holds q.operands) l (record q { operands = leaves.below q.operands }) (popped_kept q h) })
    form_of (Instr-F.BrTable labels last) own fits =
        mirrors _ _ (branch_table_mirrors true false 0 (Unit {0}) (λ p o. Unit {0}) keeps cross_value (λ f. f) cross_state first top1 labels last first-cross)
        (record { keeps = λ q h. (tt, popped_kept q h) })
    form_of Instr-F.Return own fits = mirrors _ _ (λ q. refl) (jump_kept jumps.Return tt)
    form_of (Instr-F.Call f) own fits = (ap parameter_count (func_type-cross m f) ∙ params-cross (func_type m f), tt, refl)
    form_of (Instr-F.CallIndirect t table) own fits =
        (ap parameter_count (slice_get-map cross_func_type m.types t) ∙ params-cross (slice_get m.types t), pick_like t table (eqb-true table 0 own))
    form_of Instr-F.Drop own fits = operands_like drop_operand dropped drop-cross drop_kept
    form_of Instr-F.Select own fits = operands_like select selected select-cross select_kept
    form_of (Instr-F.SelectTyped ts) own fits = operands_like select selected select-cross select_kept
    form_of (Instr-F.LocalGet i) own fits =
        mirrors _ _ (get_local_mirrors true false 0 (Unit {0}) (λ p o. Unit {0}) keeps cross_value (λ f. f) cross_state missing i)
        (record { keeps = λ q h. record { operands = (all_at IsInteger q.locals i missing h.locals tt, h.operands); locals = h.locals; state = h.state } })
    form_of (Instr-F.LocalSet i) own fits =
        mirrors _ _ (set_local_mirrors true false 0 (Unit {0}) (λ p o. Unit {0}) keeps cross_value (λ f. f) cross_state missing i)
        (record {
          keeps = λ q h. record {
            operands = all_below IsInteger q.operands h.operands;
            locals = all_set IsInteger q.locals i (leaves.top missing q.operands) h.locals (all_top IsInteger q.operands missing h.operands tt);
            state = h.state;
          };
        })
    form_of (Instr-F.LocalTee i) own fits =
        mirrors _ _ (tee_local_mirrors true false 0 (Unit {0}) (λ p o. Unit {0}) keeps cross_value (λ f. f) cross_state missing i)
        (record {
          keeps = λ q h. record {
            operands = h.operands;
            locals = all_set IsInteger q.locals i (leaves.top missing q.operands) h.locals (all_top IsInteger q.operands missing h.operands tt);
            state = h.state;
          };
        })
    form_of (Instr-F.GlobalGet i) own fits = effect_like _ _ (get_global_crosses i)
    form_of (Instr-F.GlobalSet i) own fits = effect_like _ _ (set_global_crosses i)
    form_of (Instr-F.Load op arg) own fits = effect_like _ _ (load_crosses op arg (eqb-true arg.memory 0 own))
    form_of (Instr-F.Store op arg) own fits = effect_like _ _ (store_crosses op arg (eqb-true arg.memory 0 own))
    form_of (Instr-F.MemorySize i) own fits =
        subst (λ (n : ℕ). LeafLike (mirrored M) (on_store (memory_size n)) (by_store size1)) (sym (eqb-true i 0 own)) (effect_like _ _ size_crosses)
    form_of (Instr-F.MemoryGrow i) own fits =
        subst (λ (n : ℕ). LeafLike (mirrored M) (on_growth (memory_grow n)) (by_growth grow1)) (sym (eqb-true i 0 own)) grow_like
    form_of (Instr-F.Pure op) own fits = operands_like (pure op) (pure_op (cross_op op)) (pure-cross op own) (pure_kept op own)
    form_of l own fits = absurd cc

    pub forms_like : (l : Instr-F Part) → InstrCrosses m (L.tree.roll (L.tree.over Part Instr (λ y. y.0) l)) → IsAlike l
    forms_like l h = let inside = fits_inside L (λ f. true) crossing_test P l h in form_of l inside.0 inside.1
