use Rattle.valid_mod.specs.Bodies.{AreBodies}
use Rattle.valid_mod.proofs.bodies.type_bodies.Given as goal

abbrev pub invariant-loop-place : goal.invariant-loop-place
invariant-loop-place l = AreBodies l.m l.place l.fns
