-- A store of a vector, by its bytes.
use Rattle.std.proofs.Common.{◌≡◌, ◌+◌, ℕ, Bool, true, false, if◌then◌else◌, List, slice_get, Option, Some, None, option_map, option_and_then, refl, sym, ap, ◌∙◌}
use Rattle.lane_core.specs.Memory.{vector_bytes}
use Rattle.wasm_ast.specs.declared.module.immediates.MemArg.{MemArg}
use Rattle.evaluation_kit.specs.Leaves.{below}
use Rattle.evaluation_kit.specs.Leaves as leaves
use Rattle.run_kit.specs.Changes.{Lie}
use Rattle.std.specs.Prelude.{[], ◌∷◌}
use Rattle.meaning_new.specs.declared.val.Val.{Val}
use Rattle.meaning_new.specs.Store.{Store, Memory, missing, number}
use Rattle.meaning_new.specs.Memories.{write_at, store, store_vector}

abbrev paired : List Val → Store → List Val × Store
paired k s = (k, s)

mapped : (k : List Val) (f : Memory → Option Store) (o : Option Memory) → option_and_then (λ m. option_map (paired k) (f m)) o ≡ option_map (paired k) (option_and_then f o)
mapped k f None = refl
mapped k f (Some m) = refl

chosen : (k : List Val) (new : Store) (r : Bool) → option_map (paired k) (if r then Some new else None) ≡ (if r then Some (paired k new) else None)
chosen k new true = refl
chosen k new false = refl

-- what is written, by any function of the number on the top
written : (bytes_of : ℕ → List ℕ) (at : MemArg) (old new : Store) (top next : Val) (bytes : List ℕ) (r : Bool) → bytes ≡ bytes_of (number top)
    → option_and_then (λ m. write_at at.memory m (number next + at.offset) bytes old) (slice_get old.memories at.memory) ≡ (if r then Some new else None)
    → (operands : List Val) → Lie missing (top ∷ (next ∷ [])) operands → store bytes_of at operands old ≡ (if r then Some (below (below operands), new) else None)
written bytes_of at old new top next bytes r same outcome operands lie =
    let k = below (below operands) in
    ap (λ v. option_and_then (λ m. option_map (paired k) (write_at at.memory m (number v + at.offset) (bytes_of (number (leaves.top missing operands))) old)) (slice_get old.memories at.memory)) lie.1.0
    ∙ (ap (λ v. option_and_then (λ m. option_map (paired k) (write_at at.memory m (number next + at.offset) (bytes_of (number v)) old)) (slice_get old.memories at.memory)) lie.0
    ∙ (ap (λ b. option_and_then (λ m. option_map (paired k) (write_at at.memory m (number next + at.offset) b old)) (slice_get old.memories at.memory)) (sym same)
    ∙ (mapped k (λ m. write_at at.memory m (number next + at.offset) bytes old) (slice_get old.memories at.memory)
    ∙ (ap (option_map (paired k)) outcome ∙ chosen k new r))))

pub vector_written : (at : MemArg) (old new : Store) (top next : Val) (bytes : List ℕ) (r : Bool) → bytes ≡ vector_bytes (number top)
    → option_and_then (λ m. write_at at.memory m (number next + at.offset) bytes old) (slice_get old.memories at.memory) ≡ (if r then Some new else None)
    → (operands : List Val) → Lie missing (top ∷ (next ∷ [])) operands → store_vector at operands old ≡ (if r then Some (below (below operands), new) else None)
vector_written = written vector_bytes
