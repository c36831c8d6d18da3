use Rattle.std.proofs.Common.{◌≡◌, ◌-◌}
use Rattle.std.specs.Prelude.{reverse}
use Rattle.nested_code.specs.Nesting.{read_code, expr}
use Rattle.nested_code.proofs.reading.read_expr.Given as goal

-- what is still to be read gives what the whole expression does
abbrev pub invariant-loop : goal.invariant-loop
invariant-loop g l = let d = g.L.Language in
    read_code d.has_arms d.build d.token (l.end - l.counter) l.code (reverse l.opened) l.rest ≡ (expr d.token d.has_arms d.build).read l.bytes
