-- Code that is crossed instruction by instruction is the crossed code.
use Rattle.std.proofs.Common.{◌≡◌, List, [], ◌∷◌, ◌++◌, map, refl, sym, ap, ◌∙◌}
use Rattle.wasm_ast.specs.declared.module.code.Instr.{Instr, out-Instr, roll-out-Instr}
use Rattle.wasm_ast.specs.declared.module.code.Instr.TheOpen.{Instr-F}
use Rattle.core1_ast.specs.declared.module.code.Instr1.{roll-Instr1}
use Rattle.core1_ast.specs.declared.module.code.Instr1.TheOpen.{Instr1-F}
use Rattle.typed_trees.specs.declared.node.Node.{Node}
use Rattle.typed_trees.specs.Trees.{with_bodies, first_body, second_body, head_of, first_of, second_of, erase, erased}
use Rattle.typed_trees.proofs.Erasing.{erase_out}
use Rattle.crossing.specs.Code.{cross_block, cross_code, cross_instr, bodies}
use Rattle.pass_cross.specs.Code.{cross_with, crossed_instr, crossed_node}
use Rattle.pass_cross.proofs.Instructions.{crossed}
use Rattle.pass_cross.proofs.Nodes.{bodies_code, instr_out}

-- a layer with other bodies
filled : (l : Instr-F Instr) (a b : List Instr) → crossed (with_bodies l a b) ≡ roll-Instr1 (cross_with l (cross_code a) (cross_code b))
filled (Instr-F.Block t code) a b = ap (λ x. roll-Instr1 (Instr1-F.Block (cross_block t) x)) (bodies_code a)
filled (Instr-F.Loop t code) a b = ap (λ x. roll-Instr1 (Instr1-F.Loop (cross_block t) x)) (bodies_code a)
filled (Instr-F.If t code other) a b =
    ap (λ x. roll-Instr1 (Instr1-F.If (cross_block t) x (bodies (map cross_instr b)))) (bodies_code a) ∙ ap (λ x. roll-Instr1 (Instr1-F.If (cross_block t) (cross_code a) x)) (bodies_code b)
filled Instr-F.Nop a b = refl
filled l a b = refl

own_bodies : (l : Instr-F Instr) → with_bodies l (first_body l) (second_body l) ≡ l
own_bodies (Instr-F.Block t code) = refl
own_bodies (Instr-F.Loop t code) = refl
own_bodies (Instr-F.If t code other) = refl
own_bodies (Instr-F.TryTable t clauses code) = refl
own_bodies l = refl

node_crossed : (n : Node) → cross_instr (erase n) tt ≡ crossed_node n ∷ []
node_crossed n =
    ap (λ i. cross_instr i tt) (erase_out n) ∙ instr_out (with_bodies (out-Instr (head_of n)) (erased (first_of n)) (erased (second_of n)))
    ∙ ap (λ i. i ∷ []) (filled (out-Instr (head_of n)) (erased (first_of n)) (erased (second_of n)))

instr_crossed : (i : Instr) → cross_instr i tt ≡ crossed_instr i ∷ []
instr_crossed i =
    let l = out-Instr i in
    ap (λ j. cross_instr j tt) (sym (roll-out-Instr i)) ∙ instr_out l
    ∙ ap (λ x. crossed x ∷ []) (sym (own_bodies l)) ∙ ap (λ x. x ∷ []) (filled l (first_body l) (second_body l))

pub nodes_crossed : (ns : List Node) → cross_code (erased ns) ≡ map crossed_node ns
nodes_crossed [] = refl
nodes_crossed (n ∷ ns) = ap (λ l. l ++ cross_code (erased ns)) (node_crossed n) ∙ ap (λ l. crossed_node n ∷ l) (nodes_crossed ns)

pub code_crossed : (code : List Instr) → cross_code code ≡ map crossed_instr code
code_crossed [] = refl
code_crossed (i ∷ code) = ap (λ l. l ++ cross_code code) (instr_crossed i) ∙ ap (λ l. crossed_instr i ∷ l) (code_crossed code)
