-- The plan of the stage that leaves no constant expression that computes, and what its output owes beside its runs.
use Rattle.std.specs.Prelude.{◌≡◌, ℕ, Bool, true, false, not, ◌&&◌, List, [], ◌∷◌, refl}
use Rattle.std.specs.List.{list_all}
use Rattle.host_kit.specs.Fits.{ScriptFits}
use Rattle.host_kit.specs.declared.script.Script.{Script}
use Rattle.wasm_ast.specs.declared.features.kind.Feature.{Feature}
use Rattle.wasm_ast.specs.declared.features.kind.Feature.TheVariants as features
use Rattle.wasm_ast.specs.declared.module.parts.Module.{Module}
use Rattle.pass_law.specs.Hosts.{host_types}
use Rattle.pass_law.specs.Needs.{Needs, NoMore, IsDirect, needs_of}
use Rattle.pass_law.specs.Plain.{plain, plain_lawful}
use Rattle.pass_law.specs.Plans.{Plan, Lawful}
use Rattle.pass_law.specs.Stages.{Stage, has_load}
use Rattle.pass_law.specs.ThenLawful.{and_left, and_right, both}
use Rattle.pass_plain.specs.Folding.{setting_code}
use Rattle.pass_plain.specs.Plans.{any_event}

-- It comes behind the stages that leave integers of two widths, one memory and a table for indirect calls alone.
abbrev pub gone_before : List Feature
gone_before =
    features.Sign ∷ features.Tail ∷ features.Refs ∷ features.Tables ∷ features.Simd ∷ features.LateLanes
    ∷ features.Exceptions ∷ features.Bulk ∷ features.WideMemory ∷ features.Memories ∷ features.Multi ∷ []

abbrev pub takes_constants : Needs → Bool
takes_constants n = list_all (λ f. not (n.has f)) gone_before && not n.region && not n.computed_exports

abbrev pub is_constants : Feature → Bool
is_constants features.Constants = true
is_constants _ = false

abbrev pub leaves_no_constants : Needs → Needs
leaves_no_constants n = record { has = λ f. n.has f && not (is_constants f); region = n.region; computed_exports = n.computed_exports }

-- one call more is open while globals are set
abbrev pub constant_plan : Plan
constant_plan = plain takes_constants leaves_no_constants any_event 1 1

less_true : (a b : Bool) → (a ≡ true → b ≡ true) → not b ≡ true → not a ≡ true
less_true true true f h = h
less_true true false f h = let no : false ≡ true = f refl in absurd cc
less_true false b f h = refl

pub less_taken : (fs : List Feature) (less more : Needs) → NoMore less more → list_all (λ f. not (more.has f)) fs ≡ true → list_all (λ f. not (less.has f)) fs ≡ true
less_taken [] less more h t = refl
less_taken (f ∷ fs) less more h t =
    both (not (less.has f)) (list_all (λ g. not (less.has g)) fs)
    (less_true (less.has f) (more.has f) (h.has f) (and_left (not (more.has f)) (list_all (λ g. not (more.has g)) fs) t)) (less_taken fs less more h (and_right (not (more.has f)) (list_all (λ g. not (more.has g)) fs) t))

pub constant_lawful : Lawful constant_plan
constant_lawful = plain_lawful takes_constants leaves_no_constants any_event 1 1 (record {
  takes_less = takes;
  leaves_less = λ less more h. record {
    has = λ f e. both (more.has f) (not (is_constants f)) (h.has f (and_left (less.has f) (not (is_constants f)) e)) (and_right (less.has f) (not (is_constants f)) e);
    region = h.region;
    computed_exports = h.computed_exports;
  };
  test_regrows = λ h s grows e. refl;
  full_passes = λ h s. refl;
  failed_passes = λ h s. refl;
})
  where
    takes : (less more : Needs) → NoMore less more → takes_constants more ≡ true → takes_constants less ≡ true
    takes less more h t =
        let all = list_all (λ f. not (more.has f)) gone_before in
        both (list_all (λ f. not (less.has f)) gone_before && not less.region) (not less.computed_exports)
        (both (list_all (λ f. not (less.has f)) gone_before) (not less.region)
        (less_taken gone_before less more h (and_left all (not more.region) (and_left (all && not more.region) (not more.computed_exports) t)))
        (less_true less.region more.region h.region (and_right all (not more.region) (and_left (all && not more.region) (not more.computed_exports) t))))
        (less_true less.computed_exports more.computed_exports h.computed_exports (and_right (all && not more.region) (not more.computed_exports) t))

-- What else the law asks of the output o.
pub record ConstantLowered (m o : Module) : Type 0 where
  pub left : NoMore (needs_of o) (leaves_no_constants (needs_of m))
  pub host : host_types o ≡ host_types m
  pub stage : Stage o
  pub load : (sizes : List ℕ) → has_load m sizes ≡ true → has_load o sizes ≡ true
  pub fits : (s : Script) → ScriptFits m s → ScriptFits o s
  pub direct : IsDirect (needs_of m) → IsDirect (needs_of o)
  -- a module of 1.0 with sign extension and typed selects at most has no global that code must set
  pub folds_directly : IsDirect (needs_of m) → setting_code m ≡ []
