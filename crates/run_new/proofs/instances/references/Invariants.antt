use Rattle.std.proofs.Common.{◌≡◌, map, take}
use Rattle.meaning_new.specs.Instances.{constant}
use Rattle.run_new.proofs.instances.references.Given as goal

abbrev pub invariant-loop-code : goal.invariant-loop-code
invariant-loop-code l = l.references ≡ map (constant l.globals) (take l.code-index l.items)
