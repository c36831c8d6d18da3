-- Trees of nodes: induction, and the code that a node stands for which is put together.
pub use Rattle.rewriting_kit.proofs.Trees.{induct_node, first_rolled, second_rolled, erase_made}
