use Rattle.run_new.proofs.store.Store.new.Goals as goal

pub returns : goal.returns
returns c fns = rw (c.in_ok-memories.ensures fns, c.in_ok-tables.ensures fns, c.in_ok-elems.ensures, c.in_ok-datas.ensures, c.new.ensures.items, c.as_slice-3.ensures.value, c.as_slice-4.ensures.value, c.in_ok-globals.ensures, c.in_ok-imported.ensures, c.as_slice.ensures, c.as_slice-2.ensures, c.as_slice-5.ensures, c.as_slice-6.ensures)
