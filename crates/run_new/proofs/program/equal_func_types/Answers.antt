use Rattle.std.proofs.Common.{◌∙◌}
use Rattle.run_new.proofs.Keys.{both, neither}
use Rattle.run_new.proofs.program.equal_func_types.Goals as goal

pub returns-then-equal_types : goal.returns-then-equal_types
returns-then-equal_types c =
    both c.args.left.now.params c.args.right.now.params c.args.left.now.results c.args.right.now.results c.equal_types.result c.equal_types-then-equal_types.result
    (c.equal_types.ensures ∙ rw (c.as_slice.ensures, c.as_slice-2.ensures)) (c.equal_types-then-equal_types.ensures ∙ rw (c.as_slice-then-equal_types.ensures, c.as_slice-then-equal_types-2.ensures)) c.if-equal_types.true

pub returns-else-equal_types : goal.returns-else-equal_types
returns-else-equal_types c =
    c.if-equal_types.false
    ∙ neither c.args.left.now.params c.args.right.now.params c.args.left.now.results c.args.right.now.results c.equal_types.result (c.equal_types.ensures ∙ rw (c.as_slice.ensures, c.as_slice-2.ensures)) c.if-equal_types.false
