use Rattle.std.proofs.Common.{refl}
use Rattle.typed_trees.specs.Typed.{module_of}
use Rattle.run_new.specs.Leaves.{act}
use Rattle.run_new.proofs.Plain.{is_done_instr, is_access_plain, is_vector_access_plain}
use Rattle.run_new.proofs.Stored.{ended_in_state}
use Rattle.run_new.proofs.leaves.plain.Goals as goal

pub returns-in_ok-access_leaf-in-GlobalGet : goal.returns-in_ok-access_leaf-in-GlobalGet
returns-in_ok-access_leaf-in-GlobalGet c =
    rw c.done-in-GlobalGet.ensures (is_done_instr (module_of c.args.program.now) c.args.instr.now c.args.operands.now c.access_leaf.new.operands c.args.locals.now c.args.locals.now c.args.state.now _ c.in_ok-access_leaf-in-GlobalGet.field-0 (is_access_plain c.args.instr.now c.in-GlobalGet.is)
    (ended_in_state _ c.args.state.now c.state-in-GlobalGet.view_is (act (module_of c.args.program.now) c.args.instr.now) c.args.operands.now c.access_leaf.new.operands c.args.locals.now.used c.access_leaf.new.store c.in_ok-access_leaf-in-GlobalGet.field-0 (c.in_ok-access_leaf-in-GlobalGet.ensures (module_of c.args.program.now) c.args.locals.now.used))
    refl)

pub returns-in_ok-vector_leaf-in-LoadVector : goal.returns-in_ok-vector_leaf-in-LoadVector
returns-in_ok-vector_leaf-in-LoadVector c =
    rw c.done-in-LoadVector.ensures (is_done_instr (module_of c.args.program.now) c.args.instr.now c.args.operands.now c.vector_leaf.new.operands c.args.locals.now c.args.locals.now c.args.state.now _ c.in_ok-vector_leaf-in-LoadVector.field-0 (is_vector_access_plain c.args.instr.now c.in-LoadVector.is)
    (ended_in_state _ c.args.state.now c.state.view_is (act (module_of c.args.program.now) c.args.instr.now) c.args.operands.now c.vector_leaf.new.operands c.args.locals.now.used c.vector_leaf.new.store c.in_ok-vector_leaf-in-LoadVector.field-0 (c.in_ok-vector_leaf-in-LoadVector.ensures (module_of c.args.program.now) c.args.locals.now.used))
    refl)
