use Rattle.std.proofs.Common.{◌≡◌, map, take}
use Rattle.wasm_ast.specs.declared.module.parts.Element.{Element}
use Rattle.meaning_new.specs.Instances.{constant}
use Rattle.run_new.proofs.instances.new_elems.Given as goal

abbrev pub invariant-loop-elem : goal.invariant-loop-elem
invariant-loop-elem l = l.all.items ≡ map (λ (e : Element). map (constant l.globals) e.items) (take l.elem-index l.elems)
