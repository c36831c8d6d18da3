use Rattle.std.proofs.Common.{◌≡◌, true, false, rules, ◌∙◌}
use Rattle.std.specs.List.{list_any}
use Rattle.wasm_ast.specs.Counts.{is_data_use}
use Rattle.wasm_ast.specs.Occurrence as occurrence
use Rattle.typed_trees.specs.Trees.{head_of, first_of, second_of}
use Rattle.pass_plain.specs.Trimming.{asks}
use Rattle.pass_plain.proofs.Asking.{asks_here, asks_first, asks_second}
use Rattle.pass_plain.proofs.counts.+asking.Goals as goal

pub node_asks-returns-then-names_segment : goal.node_asks-returns-then-names_segment
node_asks-returns-then-names_segment t c =
    let n = c.args.node.now in
    let here : is_data_use (occurrence.head_of (head_of n)) ≡ true = search rules in
    asks_here n here

pub node_asks-returns-then-any_asks : goal.node_asks-returns-then-any_asks
node_asks-returns-then-any_asks t c =
    let n = c.args.node.now in
    let first : list_any asks (first_of n) ≡ true = search rules in
    asks_first n first

pub node_asks-returns : goal.node_asks-returns
node_asks-returns t c =
    let n = c.args.node.now in
    let here : is_data_use (occurrence.head_of (head_of n)) ≡ false = search rules in
    let first : list_any asks (first_of n) ≡ false = search rules in
    let second : c.any_asks-2.result ≡ list_any asks (second_of n) = search rules in
    second ∙ asks_second n here first
