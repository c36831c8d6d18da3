-- What is asked of a module that was lowered in stages and then written as a module of 1.0, and what is then known of both.
-- No stage maps scripts or events, and the module needs no region of memory.
use Rattle.std.specs.Prelude.{◌≡◌, ℕ, false, List}
use Rattle.std.specs.List.{AllByRecursion}
use Rattle.host_kit.specs.Fits.{ScriptFits}
use Rattle.host_kit.specs.Fits1.{ScriptFits1}
use Rattle.host_kit.specs.Trace.{events}
use Rattle.host_kit.specs.declared.event.Event.{Event}
use Rattle.host_kit.specs.declared.script.Script.{Script}
use Rattle.wasm_ast.specs.declared.module.parts.Module.{Module}
use Rattle.core1_ast.specs.declared.module.parts.Module1.{Module1}
use Rattle.typed_trees.specs.declared.module.TypedFn.{TypedFn}
use Rattle.typed_trees.specs.Typed.{module_of, IsTypedTree}
use Rattle.meaning_new.specs.Runs.{trace}
use Rattle.meaning_core1.specs.Runs.{trace1}
use Rattle.crossing.specs.Modules.{cross}
use Rattle.pass_law.specs.Hosts.{HostTypes}
use Rattle.pass_law.specs.Law.{Law}
use Rattle.pass_law.specs.Plans.{Plan}
use Rattle.pass_law.specs.Stages.{needs_stage_region}
use Rattle.pass_cross.specs.Crossable.{Crossable}
use Rattle.pass_cross.specs.Crossed.{IsCrossed}
use Rattle.pass_plain.specs.Plans.{without_tags}
use Rattle.headline.specs.Headline.{Same}
use Rattle.headline.specs.MappedInterface.{SameInterface}
use Rattle.ranges_core1.specs.Ranges.{EventInRange}
use Rattle.soundness.specs.Events.{EventTyped}

-- a plan that maps neither scripts nor events, keeps captures, and hides no more than tags
pub record MapsTagsAlone (P : Plan) : Type 0 where
  pub types : (h : HostTypes) → P.types h ≡ without_tags h
  pub script : (h : HostTypes) (s : Script) → P.script h s ≡ s
  pub event : (h : HostTypes) (s : Script) (e : Event) → P.event h s e ≡ e
  pub captures : P.removes_captures ≡ false

-- Stages of this plan lower the module m to the module o of the typed tree, and m1 is o as 1.0 writes it. What o shows
-- has the types that it says, and what m1 shows has numbers of the types of 1.0.
pub record Lowered (P : Plan) (captures : ℕ) (m : Module) (tree : Module × List TypedFn) (m1 : Module1) : Type 0 where
  pub region : needs_stage_region m ≡ false
  pub plan : MapsTagsAlone P
  pub law : Law P m (module_of tree) captures
  pub typed : IsTypedTree tree
  pub crossable : Crossable (module_of tree)
  pub written : m1 ≡ cross (module_of tree)
  pub crossed : IsCrossed (module_of tree) m1
  pub types : (s : Script) → ScriptFits (module_of tree) s → (n : ℕ) → AllByRecursion (EventTyped (module_of tree) s) (events (trace (module_of tree) s n))
  pub numbers : (s : Script) → ScriptFits1 m1 s → (n : ℕ) → AllByRecursion EventInRange (events (trace1 m1 s n))

-- A host links m1 as it links m, and both show the same.
abbrev pub LoweredIsSame : Type 0
LoweredIsSame =
    (P : Plan) (captures : ℕ) (m : Module) (tree : Module × List TypedFn) (m1 : Module1) → Lowered P captures m tree m1 →
    SameInterface m m1 × Same P.frames P.more_frames m m1 captures
