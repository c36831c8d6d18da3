pub mod HeldLemmas
pub mod MemoryLemmas
pub mod PairLemmas
