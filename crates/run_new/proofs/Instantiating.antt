-- The state once the segments are written.
use Rattle.std.proofs.Common.{◌≡◌, Bool, true, false, if◌then◌else◌, Some, None, sym, ap, ◌∙◌}
use Rattle.host_kit.specs.declared.script.Script.{Script}
use Rattle.wasm_ast.specs.declared.module.parts.Module.{Module}
use Rattle.meaning_new.specs.Store.{Store, State, with_store}
use Rattle.meaning_new.specs.Instances.{place_segments}
use Rattle.run_new.specs.States.{Kept, whole}
use Rattle.run_new.specs.Instances.{first, IsInstance}

module _ (m : Module) (script : Script) (v k : Kept) (new : Store) (fit : Bool) (same : v ≡ k) (begins : whole k ≡ first m script) (placed : place_segments m v.store ≡ (if fit then Some new else None)) where
  outcome : place_segments m (first m script).store ≡ (if fit then Some new else None)
  outcome = ap (λ (s : State). place_segments m s.store) (sym begins) ∙ (ap (λ (w : Kept). place_segments m w.store) (sym same) ∙ placed)

  pub instance_is : fit ≡ true → IsInstance m script (Some (record v { store = new }))
  instance_is fits =
      (outcome ∙ ap (λ b. if b then Some new else None) fits, ap (λ (w : Kept). whole (record w { store = new })) same ∙ ap (with_store new) begins)

  pub no_instance : fit ≡ false → IsInstance m script None
  no_instance fails = outcome ∙ ap (λ b. if b then Some new else None) fails
