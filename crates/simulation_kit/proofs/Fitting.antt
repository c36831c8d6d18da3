-- Code that fits, layer by layer.
use Rattle.std.proofs.Common.{◌≡◌, ℕ, Bool, true, false, ◌&&◌, List, [], ◌∷◌, map, refl, sym, ap, ◌∙◌}
use Rattle.std.specs.List.{AllByRecursion}
use Rattle.evaluation_kit.specs.Forms.{Form, Flat, Enclose, Repeat, Choose, Guard, Invoke, InvokeBy, map_form}
use Rattle.evaluation_kit.specs.Languages.{Language}
use Rattle.simulation_kit.specs.Fitting.{all_true, form_fits, Test, fits_step, fits, Fits, FormFits}

both : (a b : Bool) → (a && b) ≡ true → (a ≡ true) × (b ≡ true)
both true b h = (refl, h)
both false b h = let no : ⊥ = cc in absurd no

module _ {I : Type 0} {F : Type 0 → Type 0} {V S : Type 0} (L : Language I F V S) (named : ℕ → Bool) (test : Test F L.tree.over) where
  each_fits : (P : I → Type 0) (code : List ((i : I) × P i)) → all_true (map (λ y. fits L named test y.0) code) ≡ true → AllByRecursion (Fits L named test) (map (λ y. y.0) code)
  each_fits P [] h = tt
  each_fits P (y ∷ code) h =
      let halves = both (fits L named test y.0) (all_true (map (λ z. fits L named test z.0) code)) h in
      (halves.0, each_fits P code halves.1)

  form_fits_inside : (P : I → Type 0) (form : Form V S ((i : I) × P i)) → form_fits named (map_form (λ y. fits L named test y.0) form) ≡ true → FormFits (λ f. named f ≡ true) (Fits L named test) form
  form_fits_inside P (Flat act) h = tt
  form_fits_inside P (Enclose p r code) h = each_fits P code h
  form_fits_inside P (Repeat p r code) h = each_fits P code h
  form_fits_inside P (Choose t p r first second) h =
      let halves = both (all_true (map (λ z. fits L named test z.0) first)) (all_true (map (λ z. fits L named test z.0) second)) h in
      (each_fits P first halves.0, each_fits P second halves.1)
  form_fits_inside P (Guard p r t code) h = each_fits P code h
  form_fits_inside P (Invoke p f) h = h
  form_fits_inside P (InvokeBy p pick) h = tt

  fits-layer : (P : I → Type 0) (l : F ((i : I) × P i)) → fits L named test (L.tree.roll (L.tree.over ((i : I) × P i) I (λ y. y.0) l)) ≡ (test.own ((i : I) × P i) l && form_fits named (map_form (λ y. fits L named test y.0) (L.layer ((i : I) × P i) l)))
  fits-layer P l =
      let inner = (i : I) × P i in
      let f : inner → Bool = λ y. fits L named test y.0 in
      L.tree.fold_roll Bool (fits_step L named test) (L.tree.over inner I (λ y. y.0) l)
      ∙ ap (fits_step L named test) (L.tree.over_twice inner I Bool (λ y. y.0) (fits L named test) l)
      ∙ ap (λ b. b && form_fits named (L.layer Bool (L.tree.over inner Bool f l))) (test.own_over inner Bool f l)
      ∙ ap (λ form. test.own inner l && form_fits named form) (L.layer_over inner Bool f l)

  -- an instruction that fits: what it asks of itself, of its bodies and of the function that it calls
  pub fits_inside : (P : I → Type 0) (l : F ((i : I) × P i)) → Fits L named test (L.tree.roll (L.tree.over ((i : I) × P i) I (λ y. y.0) l)) → (test.own ((i : I) × P i) l ≡ true) × FormFits (λ f. named f ≡ true) (Fits L named test) (L.layer ((i : I) × P i) l)
  fits_inside P l h =
      let halves = both (test.own ((i : I) × P i) l) (form_fits named (map_form (λ y. fits L named test y.0) (L.layer ((i : I) × P i) l))) (sym (fits-layer P l) ∙ h) in
      (halves.0, form_fits_inside P (L.layer ((i : I) × P i) l) halves.1)
