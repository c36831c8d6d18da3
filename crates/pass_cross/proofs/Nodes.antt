-- Typed trees that show no feature but typed selects: what they stand for crosses, and the crossed code is typed in 1.0.
use Rattle.std.proofs.Common.{◌≡◌, Bool, true, false, ◌&&◌, ◌||◌, List, [], ◌∷◌, ◌++◌, map, refl, sym, ap, ◌∙◌}
use Rattle.std.specs.List.{AllByRecursion}
use Rattle.wasm_ast.specs.declared.features.kind.Feature.{Feature}
use Rattle.wasm_ast.specs.declared.module.code.Instr.{Instr, out-Instr, roll-Instr, out-roll-Instr}
use Rattle.wasm_ast.specs.declared.module.code.Instr.TheOpen.{Instr-F}
use Rattle.wasm_ast.specs.declared.module.code.Instr.TheFolds.{map-Instr, fold-roll-Instr}
use Rattle.wasm_ast.specs.declared.module.parts.Module.{Module}
use Rattle.wasm_ast.specs.Features.{shows}
use Rattle.wasm_ast.specs.Occurrence.{head, head_of as head_of_instr, inside, some, some_in}
use Rattle.wasm_ast.proofs.Bodies.{some-out, some_in-append}
use Rattle.core1_ast.specs.declared.module.code.Instr1.{Instr1}
use Rattle.typed_trees.specs.Trees.{first_body, second_body}
use Rattle.meaning_new.specs.Forms.{layer}
use Rattle.meaning_new.specs.Language as meaning
use Rattle.simulation_kit.specs.Fitting.{all_true, form_fits, fits_step, fits}
use Rattle.crossing.specs.Code.{cross_step, cross_instr, cross_code, bodies, crosses}
use Rattle.crossing.specs.Crossing.{crossing_test, crosses_over, InstrCrosses}
use Rattle.pass_cross.proofs.Heads.{is_shown, Lacks}
use Rattle.pass_cross.proofs.Instructions.{crossed}

-- tests
pub or_left : (a b : Bool) → (a || b) ≡ false → a ≡ false
or_left false b h = refl
or_left true b h = absurd cc

pub or_right : (a b : Bool) → (a || b) ≡ false → b ≡ false
or_right false b h = h
or_right true b h = absurd cc

pub and_both : (a b : Bool) → a ≡ true → b ≡ true → (a && b) ≡ true
and_both a b p q = ap (λ x. x && b) p ∙ q

pub and_left : (a b : Bool) → (a && b) ≡ true → a ≡ true
and_left true b h = refl
and_left false b h = absurd cc

pub and_right : (a b : Bool) → (a && b) ≡ true → b ≡ true
and_right true b h = h
and_right false b h = absurd cc

-- code in which no such feature shows
abbrev pub LacksIn : List Instr → Type 0
LacksIn code = (f : Feature) → is_shown f ≡ true → some_in (shows f) code ≡ false

pub lacks_here : (l : Instr-F Instr) (code : List Instr) → LacksIn (roll-Instr l ∷ code) → Lacks (head l)
lacks_here l code h f k =
    ap (λ x. shows f (head x)) (sym (out-roll-Instr l))
    ∙ or_left (shows f (head_of_instr (roll-Instr l))) (some_in (shows f) (inside (out-Instr (roll-Instr l)))) (sym (some-out (shows f) (roll-Instr l)) ∙ or_left (some (shows f) (roll-Instr l)) (some_in (shows f) code) (h f k))

pub lacks_inside : (l : Instr-F Instr) (code : List Instr) → LacksIn (roll-Instr l ∷ code) → LacksIn (inside l)
lacks_inside l code h f k =
    ap (λ x. some_in (shows f) (inside x)) (sym (out-roll-Instr l))
    ∙ or_right (shows f (head_of_instr (roll-Instr l))) (some_in (shows f) (inside (out-Instr (roll-Instr l)))) (sym (some-out (shows f) (roll-Instr l)) ∙ or_left (some (shows f) (roll-Instr l)) (some_in (shows f) code) (h f k))

pub lacks_behind : (i : Instr) (code : List Instr) → LacksIn (i ∷ code) → LacksIn code
lacks_behind i code h f k = or_right (some (shows f) i) (some_in (shows f) code) (h f k)

pub lacks_first : (a b : List Instr) → LacksIn (a ++ b) → LacksIn a
lacks_first a b h f k = or_left (some_in (shows f) a) (some_in (shows f) b) (sym (some_in-append (shows f) a b) ∙ h f k)

pub lacks_second : (a b : List Instr) → LacksIn (a ++ b) → LacksIn b
lacks_second a b h f k = or_right (some_in (shows f) a) (some_in (shows f) b) (sym (some_in-append (shows f) a b) ∙ h f k)

-- the bodies of a layer
abbrev pub LacksBodies : Instr-F Instr → Type 0
LacksBodies l = LacksIn (first_body l) × LacksIn (second_body l)

pub lacks_bodies : (l : Instr-F Instr) → LacksIn (inside l) → LacksBodies l
lacks_bodies (Instr-F.If t a b) h = (lacks_first a b h, lacks_second a b h)
lacks_bodies (Instr-F.Block t code) h = (h, λ f k. refl)
lacks_bodies (Instr-F.Loop t code) h = (h, λ f k. refl)
lacks_bodies (Instr-F.TryTable t clauses code) h = (h, λ f k. refl)
lacks_bodies l h = (λ f k. refl, λ f k. refl)

-- an instruction that crosses, whose bodies cross
module _ (m : Module) where
  abbrev step : Instr-F Bool → Bool
  step l = fits_step (meaning.language m) (λ x. true) crossing_test l

  abbrev whole : Instr → Bool
  whole i = fits (meaning.language m) (λ x. true) crossing_test i

  abbrev pub CodeCrosses : List Instr → Type 0
  CodeCrosses code = AllByRecursion (InstrCrosses m) code

  all_fit : (code : List Instr) → CodeCrosses code → all_true (map whole code) ≡ true
  all_fit [] h = refl
  all_fit (i ∷ code) h = and_both (whole i) (all_true (map whole code)) h.0 (all_fit code h.1)

  form_true : (l : Instr-F Instr) → crosses Instr l ≡ true → CodeCrosses (first_body l) → CodeCrosses (second_body l) → form_fits (λ x. true) (layer m Bool (map-Instr Instr Bool whole l)) ≡ true
  form_true (Instr-F.Block t code) h a b = all_fit code a
  form_true (Instr-F.Loop t code) h a b = all_fit code a
  form_true (Instr-F.If t first second) h a b = and_both (all_true (map whole first)) (all_true (map whole second)) (all_fit first a) (all_fit second b)
  form_true (Instr-F.TryTable t clauses code) h a b = let no : ⊥ = cc in absurd no
  form_true Instr-F.Nop h a b = refl
  form_true l h a b = refl

  pub layer_fits : (l : Instr-F Instr) → crosses Instr l ≡ true → CodeCrosses (first_body l) → CodeCrosses (second_body l) → InstrCrosses m (roll-Instr l)
  layer_fits l h a b =
      fold-roll-Instr Bool step l
      ∙ and_both (crosses Bool (map-Instr Instr Bool whole l)) (form_fits (λ x. true) (layer m Bool (map-Instr Instr Bool whole l))) (crosses_over Instr Bool whole l ∙ h) (form_true l h a b)

-- the code of a layer, in 1.0
pub bodies_code : (code : List Instr) → bodies (map cross_instr code) ≡ cross_code code
bodies_code [] = refl
bodies_code (i ∷ code) = ap (λ l. cross_instr i tt ++ l) (bodies_code code)

pub instr_out : (l : Instr-F Instr) → cross_instr (roll-Instr l) tt ≡ crossed l ∷ []
instr_out l = ap (λ f. f tt) (fold-roll-Instr (Unit {0} → List Instr1) cross_step l)
