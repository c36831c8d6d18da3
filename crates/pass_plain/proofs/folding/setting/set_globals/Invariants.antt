use Rattle.std.proofs.Common.{◌≡◌, ◌+◌, ◌++◌, drop}
use Rattle.pass_plain.specs.Folding.{set_globals}
use Rattle.pass_plain.proofs.folding.setting.set_globals.Given as goal

-- the code so far, and that to come
abbrev pub invariant-loop-global : goal.invariant-loop-global
invariant-loop-global l =
    record {
      place : l.x ≡ l.first + l.global-index;
      all : l.code ++ set_globals l.known l.x (drop l.global-index l.globals) ≡ set_globals l.known l.first l.globals;
    }
