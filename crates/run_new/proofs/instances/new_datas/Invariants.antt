use Rattle.std.proofs.Common.{◌≡◌, map, take}
use Rattle.wasm_ast.specs.declared.module.parts.Segment.{Segment}
use Rattle.run_new.proofs.instances.new_datas.Given as goal

abbrev pub invariant-loop-data : goal.invariant-loop-data
invariant-loop-data l = map (λ d. d.now) l.all.items ≡ map (λ (d : Segment). d.bytes) (take l.data-index l.datas)
