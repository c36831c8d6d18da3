use Rattle.std.proofs.Common.{◌≡◌, ◌++◌, map, take}
use Rattle.machine_kit.specs.Stacks.{Stack}
use Rattle.meaning_new.specs.declared.val.Val.{Val}
use Rattle.meaning_new.specs.Store.{default}
use Rattle.run_new.proofs.version.push_zeros.Given as goal

abbrev pub invariant-loop-ty : goal.invariant-loop-ty
invariant-loop-ty l =
    let wanted : Stack Val = record { used = l.fn.locals.used ++ map default (take l.ty-index l.types); aside = l.fn.locals.aside } in
    l.locals ≡ wanted
