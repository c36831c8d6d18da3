use Rattle.typed_trees.specs.Typed.{module_of}
use Rattle.run_new.proofs.Plain.{is_node_step}
use Rattle.run_new.proofs.version.ProgramVersionNodeSlotState.leaf.Goals as goal

pub returns : goal.returns
returns c = is_node_step (module_of c.args.self.now) c.args.instr.now c.in_ok-step.step c.args.operands.now c.plain.new.operands c.args.locals.now c.plain.new.locals c.args.state.now c.plain.new.state c.in_ok-step.ensures
