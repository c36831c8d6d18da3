use Rattle.std.proofs.Common.{◌≡◌, ◌++◌, map, length}
use Rattle.typed_trees.specs.Typed.{body_of}
use Rattle.crossing.specs.Modules.{cross_body}
use Rattle.pass_cross.proofs.parts.cross_owned_bodies.Given as goal

-- what is written so far, with what is still to come, is all
abbrev pub invariant-loop-f : goal.invariant-loop-f
invariant-loop-f l = l.out ++ map (λ f. cross_body (body_of f)) l.rest ≡ map (λ f. cross_body (body_of f)) l.initial.rest

abbrev pub decreases-loop-f : goal.decreases-loop-f
decreases-loop-f l = length l.rest
