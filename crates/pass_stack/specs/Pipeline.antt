-- The stages in a row: what the stack takes, leaves and maps.
use Rattle.pass_law.specs.Plans.{Plan, then}
use Rattle.pass_plain.specs.ConstantPlan.{constant_plan}
use Rattle.pass_plain.specs.Plans.{trim_plan, sign_plan}

-- nops and exported tags go, then sign extension, and then constant expressions that compute
abbrev pub pipeline : Plan
pipeline = then (then trim_plan sign_plan) constant_plan
