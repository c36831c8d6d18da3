use Rattle.std.proofs.Common.{◌≡◌, ◌++◌, map, take}
use Rattle.machine_kit.specs.Stacks.{Stack}
use Rattle.meaning_core1.specs.declared.val1.Val1.{Val1}
use Rattle.meaning_core1.specs.Store.{zero_of_type}
use Rattle.run_core1.proofs.version.push_zeros.Given as goal

abbrev pub invariant-loop-ty : goal.invariant-loop-ty
invariant-loop-ty l =
    let wanted : Stack Val1 = record { used = l.fn.locals.used ++ map zero_of_type (take l.ty-index l.types); aside = l.fn.locals.aside } in
    l.locals ≡ wanted
