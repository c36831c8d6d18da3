-- What stays in a pass from a language to itself is simulated.
use Rattle.std.proofs.Common.{◌≡◌, ℕ, Bool, true, false, List, [], ◌∷◌, map, Option, Some, None, option_map, refl, sym, ap, subst}
use Rattle.evaluation_kit.specs.declared.jump.Jump.{Jump}
use Rattle.evaluation_kit.specs.declared.jump.Jump.TheVariants.{TailCall}
use Rattle.outcome_kit.specs.Code.{Go, Leave}
use Rattle.evaluation_kit.specs.Configurations.{Plain, PlainRes}
use Rattle.evaluation_kit.specs.Control.{Caught}
use Rattle.evaluation_kit.specs.Forms.{Form, Flat, Enclose, Repeat, Choose, Guard, Invoke, InvokeBy}
use Rattle.evaluation_kit.specs.Languages.{Language, func, exec_code}
use Rattle.simulation_kit.specs.Labels.{IsShared}
use Rattle.simulation_kit.specs.Matches.{Match, Context, Sims}
use Rattle.simulation_kit.specs.Staying.{AllFuncsSim}
use Rattle.simulation_kit.specs.Rewriting.{Step, body_at, rewrite, layer_sem}
use Rattle.simulation_kit.specs.Keeping.{Keeping, FormKeeps}
use Rattle.simulation_kit.specs.Fitting.{FormFits}
use Rattle.simulation_kit.specs.Likenesses.{matching}
use Rattle.simulation_kit.specs.Mirrors.{Mirror, jump_image, result_image, caught_image, mirrored, FormMirrors}
use Rattle.simulation_kit.specs.Selves.{with_bodies, Bodies, keep, same}
use Rattle.simulation_kit.proofs.LikeCode.{sees_place, Alike, Body}
use Rattle.simulation_kit.proofs.Mirroring.{mirror_stays}

picked_same : (o : Option ℕ) → o ≡ option_map (λ f. f) o
picked_same None = refl
picked_same (Some f) = refl

module _ (V S : Type 0) (exact strict : Bool) (spare : ℕ) (Place : Type 0) (Around : Place → Place → Type 0) (keeps : Keeping V S) where
  abbrev M : Mirror V S V S
  M = same exact strict spare Place Around keeps

  jump_same : (j : Jump) → jump_image M j ≡ j
  jump_same (TailCall f) = refl
  jump_same j = refl

  -- a result is its own image
  pub result_same : (r : PlainRes V S) → r ≡ result_image M r
  result_same (Go q) = refl
  result_same (Leave j q) = ap (λ i. Leave i q) (sym (jump_same j))

  caught_same : (o : Option (Caught V S)) → o ≡ option_map (caught_image M) o
  caught_same None = refl
  caught_same (Some k) = ap (λ i. Some (record { jump = i; operands = k.operands; state = k.state })) (sym (jump_same k.jump))

  module _ {I X : Type 0} {F : Type 0 → Type 0} (L L' : Language I F V S) (bodies : Bodies L L') (step : Step X F I) (seen : Place → X) (Fits : I → Type 0) where
    form_same : (P : I → Type 0) (inner outer : Place) → Around inner outer → (form : Form V S ((i : I) × P i)) → FormFits keeps.Named Fits form → FormMirrors M L step seen Fits P outer form (with_bodies (λ code. body_at (seen inner) (map (λ y. rewrite L step y.0) code)) form)
    form_same P inner outer around (Flat act) f = λ q. result_same (act q)
    form_same P inner outer around (Enclose p r code) f = (refl, refl, record { inner = inner; around = around; fits = f; rewritten = refl })
    form_same P inner outer around (Repeat p r code) f = (refl, refl, record { inner = inner; around = around; fits = f; rewritten = refl })
    form_same P inner outer around (Choose test p r first second) f =
        (refl, refl, λ o. refl, record { inner = inner; around = around; first_fits = f.0; second_fits = f.1; first_rewritten = refl; second_rewritten = refl })
    form_same P inner outer around (Guard p r t code) f = (refl, refl, λ e s. caught_same (t e s), record { inner = inner; around = around; fits = f; rewritten = refl })
    form_same P inner outer around (Invoke p g) f = (refl, f, refl)
    form_same P inner outer around (InvokeBy p pick) f = (refl, λ q. picked_same (pick q))

    abbrev W : Match V S V S
    W = matching (mirrored M)

    abbrev B : ℕ → Type 0
    B N = Body (mirrored M) L L' step seen Fits N

    -- an instruction that stays owes what the input keeps by itself
    pub self_stays : (N : ℕ) → AllFuncsSim W N (func L) (func L') → (l : F (B N)) (x : Context W) (k m : Unit {0}) → IsShared x.labels → (inner : Place) → Around inner x.place → ((q : Plain V S) → L.ready (B N) l q ≡ false → strict ≡ true) → FormFits keeps.Named Fits (L.layer (B N) l) → FormKeeps keeps (L.layer (B N) l) →
        Sims W N x k m (layer_sem W L L' step (sees_place (mirrored M) L L' step seen Fits) (Alike (mirrored M) L L' step seen Fits) N l)
        (exec_code L' (keep L L' bodies (seen inner) (L.tree.over (B N) (X → List I) (λ y. rewrite L step y.0) l)))
    self_stays N fs l x k m shared inner around asks fits kept =
        let g : List (B N) → List I = λ code. body_at (seen inner) (map (λ y. rewrite L step y.0) code) in
        subst (λ i. Sims W N x k m (layer_sem W L L' step (sees_place (mirrored M) L L' step seen Fits) (Alike (mirrored M) L L' step seen Fits) N l) (exec_code L' (L'.tree.roll i ∷ [])))
        (sym (bodies.change_over (B N) (X → List I) (λ y. rewrite L step y.0) (body_at (seen inner)) l))
        (mirror_stays M L L' step seen Fits N fs l (bodies.change (B N) g l) x k m shared
        (λ q ready. bodies.ready_change (B N) g l q ready) asks
        (subst (λ form. FormMirrors M L step seen Fits _ x.place (L.layer (B N) l) form) (sym (bodies.layer_change (B N) g l)) (form_same _ inner x.place around (L.layer (B N) l) fits)) kept)
