use Rattle.typed_trees.specs.Typed.{module_of}
use Rattle.run_new.proofs.Instantiating.{instance_is, no_instance}
use Rattle.run_new.proofs.instances.instantiate.Goals as goal

pub returns-then-branch : goal.returns-then-branch
returns-then-branch c fns =
    instance_is (module_of (c.args.part.now, fns)) c.args.script.now _ c.in_ok-state.state c.place_segments.new.self c.in_ok-place_segments.field-0 c.state.view_is (c.in_ok-state.ensures fns) (c.in_ok-place_segments.ensures fns) c.if-branch.true

pub returns : goal.returns
returns c fns =
    no_instance (module_of (c.args.part.now, fns)) c.args.script.now _ c.in_ok-state.state c.place_segments.new.self c.in_ok-place_segments.field-0 c.state.view_is (c.in_ok-state.ensures fns) (c.in_ok-place_segments.ensures fns) c.if-branch.false
