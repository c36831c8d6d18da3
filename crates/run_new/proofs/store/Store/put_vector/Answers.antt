use Rattle.run_new.proofs.VectorStores.{vector_written}
use Rattle.run_new.proofs.store.Store.put_vector.Goals as goal

pub returns-clause-outcome : goal.returns-clause-outcome
returns-clause-outcome c operands lie =
    vector_written c.args.at c.args.self.now c.put_bytes.new.self c.args.top c.args.next c.bytes_of-bytes.result c.put_bytes.result c.bytes_of-bytes.ensures c.put_bytes.ensures.outcome operands lie
