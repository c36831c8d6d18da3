use Rattle.run_new.proofs.state.State.new.Goals as goal

pub returns : goal.returns
returns c fns = rw (c.in_ok-new.ensures fns, c.in_ok-replies_left.ensures, c.as_slice.ensures, c.as_slice-2.ensures, c.new-2.ensures.items)
