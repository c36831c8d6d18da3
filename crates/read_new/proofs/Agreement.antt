-- When the counts of a module agree, as the code tests it.
use Rattle.std.proofs.Common.{◌≡◌, ℕ, List, [], ◌∷◌, length, Bool, true, false, ◌||◌, Option, Some, None, refl, sym, ◌∙◌}
use Rattle.std.specs.Prelude.{MatchOption, IsTrue}
use Rattle.std.specs.List.{AllByRecursion, list_any}
use Rattle.wasm_ast.specs.declared.module.code.Body.{Body}
use Rattle.wasm_ast.specs.declared.module.parts.Module.{Module}
use Rattle.code_new.specs.Code.{names_data}
use Rattle.module_reading.specs.declared.bodies.BodyExtent.{BodyExtent}
use Rattle.module_reading.specs.Bodies.{IsExtentOf}
use Rattle.read_new.specs.Sizes.{means}
use Rattle.read_new.specs.Spells.{three, Agrees}

abbrev pub NoneNames : List Body → Type 0
NoneNames codes = AllByRecursion (λ body. ¬ (IsTrue (names_data body.code))) codes

none_of : (codes : List Body) → list_any (λ body. names_data body.code) codes ≡ false → NoneNames codes
none_of [] e = tt
none_of (body ∷ codes) e = step (names_data body.code) refl (λ k. none_of codes k) e
  where
    step : (first : Bool) → names_data body.code ≡ first → (list_any (λ x. names_data x.code) codes ≡ false → NoneNames codes) → (first || list_any (λ x. names_data x.code) codes) ≡ false → NoneNames (body ∷ codes)
    step true same others h = absurd cc
    step false same others h = (λ t. absurd (cc (same, t)), others h)

of_none : (codes : List Body) → NoneNames codes → list_any (λ body. names_data body.code) codes ≡ false
of_none [] h = refl
of_none (body ∷ codes) h = step (names_data body.code) refl (of_none codes h.1)
  where
    step : (first : Bool) → names_data body.code ≡ first → list_any (λ x. names_data x.code) codes ≡ false → (first || list_any (λ x. names_data x.code) codes) ≡ false
    step true same others = absurd (h.0 same)
    step false same others = others

module _ (m : Module) (e : BodyExtent) (extent : IsExtentOf three means e m.codes) (funcs segments : ℕ) (data_count : Option ℕ)
    (funcs_are : funcs ≡ length m.funcs) (segments_are : segments ≡ length m.datas) (data_count_is : data_count ≡ m.data_count) where
  -- the test, in numbers
  abbrev pub Tested : Type 0
  Tested = (funcs ≡ e.count) × MatchOption data_count (e.names_data ≡ false) (λ n. n ≡ segments)

  pub agrees : Tested → Agrees m
  agrees h = record {
    bodies = sym funcs_are ∙ h.0 ∙ extent.count;
    segments = step m.data_count (rw data_count_is at h.1);
  }
    where
      step : (o : Option ℕ) → MatchOption o (e.names_data ≡ false) (λ n. n ≡ segments) → MatchOption o (NoneNames m.codes) (λ n. n ≡ length m.datas)
      step None k = none_of m.codes (sym extent.names_data ∙ k)
      step (Some n) k = k ∙ segments_are

  pub tested : Agrees m → Tested
  tested h = (funcs_are ∙ h.bodies ∙ sym extent.count, rw data_count_is (step m.data_count h.segments))
    where
      step : (o : Option ℕ) → MatchOption o (NoneNames m.codes) (λ n. n ≡ length m.datas) → MatchOption o (e.names_data ≡ false) (λ n. n ≡ segments)
      step None k = extent.names_data ∙ of_none m.codes k
      step (Some n) k = k ∙ sym segments_are
