-- What a stage owes whose output does what its input does, with more globals and functions behind.
use Rattle.std.specs.Prelude.{◌≡◌, ℕ, ◌-◌, nat_lt, Bool, true, false, List, map, flat_map, slice_get, Option, Some, None}
use Rattle.std.specs.List.{AllByRecursion}
use Rattle.host_kit.specs.Fits.{ScriptFits}
use Rattle.host_kit.specs.declared.event.Event.{Event}
use Rattle.host_kit.specs.declared.script.Script.{Script}
use Rattle.wasm_ast.specs.declared.module.code.Body.{Body}
use Rattle.wasm_ast.specs.declared.module.code.Instr.{Instr}
use Rattle.wasm_ast.specs.declared.module.code.Instr.TheOpen.{Instr-F}
use Rattle.wasm_ast.specs.declared.module.parts.Module.{Module}
use Rattle.simulation_kit.specs.Rewriting.{Step, rewrite}
use Rattle.simulation_kit.proofs.LikeCode.{OwesLayers}
use Rattle.meaning_new.specs.Store.{State, default}
use Rattle.meaning_new.specs.Forms.{imported_funcs}
use Rattle.meaning_new.specs.Instances.{new_state}
use Rattle.meaning_new.specs.Language.{language}
use Rattle.meaning_new.specs.Runs.{trace, run_tasks}
use Rattle.pass_law.specs.Hosts.{HostTypes, host_types}
use Rattle.pass_law.specs.Needs.{Needs, NoMore, IsDirect, needs_of}
use Rattle.pass_law.specs.Stages.{Stage, has_load}
use Rattle.pass_law.specs.Views.{view, Passes}
use Rattle.stage_kit.specs.Adding.{Adding, Behind, added}
use Rattle.stage_kit.specs.Hosting.{TasksKeep, Offers}

-- the state in which a run begins that is not bounded
abbrev pub start_state : Module → Script → State
start_state m s = new_state (λ sizes. true) (λ k. true) false m s

-- Fits says of which code the stage speaks; X is what its step sees of a place.
module _ {m o : Module} (A : Adding m o) {X : Type 0} (step : Step X Instr-F Instr) (seen : A.Place → X) (Fits : Instr → Type 0) where
  -- a body that is rewritten, with the same locals
  pub record BodyStays (body body' : Body) : Type 0 where
    pub place : A.Place
    pub locals : body'.locals ≡ body.locals
    pub sound : A.keeps.Sound (map default body.locals)
    pub fits : AllByRecursion Fits body.code
    pub code : body'.code ≡ flat_map (λ i. rewrite (language m) step i (seen place)) body.code

  abbrev pub CodeStays : Option Body → Option Body → Type 0
  CodeStays None None = Unit {0}
  CodeStays (Some body) (Some body') = BodyStays body body'
  CodeStays _ _ = ⊥

  -- the code, the functions and the host
  pub record Staged : Type 1 where
    pub offers : Offers A
    pub layers : OwesLayers (added A) (language m) (language o) step seen Fits
    pub imported : imported_funcs o ≡ imported_funcs m
    -- functions that are not imported
    pub code : (x : ℕ) → A.keeps.Named x → nat_lt x (imported_funcs m) ≡ false → CodeStays (slice_get m.codes (x - imported_funcs m)) (slice_get o.codes (x - imported_funcs m))
    pub named : (x : ℕ) → A.keeps.Named x → A.names.func x ≡ true
    pub keeps_tasks : (s : Script) → ScriptFits m s → TasksKeep A.keeps (run_tasks m s)
    pub begins : (s : Script) → ScriptFits m s → Behind A (start_state m s) (start_state o s)
    pub safe : (s : Script) → ScriptFits m s → A.keeps.Safe (start_state m s)

-- What else the law asks: of features, of what the host sees, of growths, and of the turns of a module of 1.0 with sign
-- extension and typed selects at most.
pub record Lowered {m o : Module} (A : Adding m o) (leaves : Needs → Needs) (test : HostTypes → Script → Event → Bool) : Type 0 where
  pub left : NoMore (needs_of o) (leaves (needs_of m))
  pub host : host_types o ≡ host_types m
  pub stage : Stage o
  pub load : (sizes : List ℕ) → has_load m sizes ≡ true → has_load o sizes ≡ true
  pub fits : (s : Script) → ScriptFits m s → ScriptFits o s
  pub passes : (s : Script) → ScriptFits m s → (n : ℕ) → Passes (test (host_types m) s) (λ e. e) (view (trace o s n))
  pub direct : IsDirect (needs_of m) → IsDirect (needs_of o)
  pub turns : IsDirect (needs_of m) → A.exact ≡ true
