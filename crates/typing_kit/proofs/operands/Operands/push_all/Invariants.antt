use Rattle.std.proofs.Common.{◌≡◌, ◌++◌, take}
use Rattle.typing_kit.specs.Matching.{known}
use Rattle.typing_kit.proofs.operands.Operands.push_all.Given as goal

abbrev pub invariant-loop-t : goal.invariant-loop-t
invariant-loop-t g l =
    record {
      items : l.self-inside.items.items ≡ l.initial.self-inside.items.items ++ known (take l.t-index l.types);
      base : l.self-inside.base ≡ l.initial.self-inside.base;
      dead : l.self-inside.dead ≡ l.initial.self-inside.dead;
    }
