use Rattle.std.proofs.Common.{◌≡◌, ◌+◌, ◌++◌, drop}
use Rattle.pass_plain.specs.Folding.{folded_globals}
use Rattle.pass_plain.proofs.folding.parts.folded_globals.Given as goal

-- the globals so far, and those to come
abbrev pub invariant-loop-global : goal.invariant-loop-global
invariant-loop-global l =
    record {
      place : l.x ≡ l.first + l.global-index;
      all : l.new ++ folded_globals l.known l.x (drop l.global-index l.globals) ≡ folded_globals l.known l.first l.globals;
    }
