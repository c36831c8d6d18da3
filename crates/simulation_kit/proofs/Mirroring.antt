-- What owes equations is alike.
use Rattle.std.proofs.Common.{◌≡◌, ℕ, true, false, List, [], ◌∷◌, Option, Some, None, option_map, ◌⊎◌, refl, sym, ap, ◌∙◌, subst}
use Rattle.evaluation_kit.specs.declared.jump.Jump.{Jump}
use Rattle.evaluation_kit.specs.declared.jump.Jump.TheVariants.{Branch, Return, Throw, TailCall, Trap, NoReply, Full, Stuck}
use Rattle.outcome_kit.specs.Code.{Go, Leave}
use Rattle.evaluation_kit.specs.Configurations.{Plain, PlainRes}
use Rattle.evaluation_kit.specs.Control.{Caught, Handler, Callee, Own, Host}
use Rattle.evaluation_kit.specs.Forms.{Form, Flat, Enclose, Repeat, Choose, Guard, Invoke, InvokeBy}
use Rattle.evaluation_kit.specs.Languages.{Language, func, exec_code}
use Rattle.evaluation_kit.specs.Tasks.{Status, Task, Change, Enter, tasks, world_after}
use Rattle.simulation_kit.specs.Labels.{IsShared}
use Rattle.simulation_kit.specs.Matches.{Context, Sims}
use Rattle.simulation_kit.specs.Staying.{AllFuncsSim}
use Rattle.simulation_kit.specs.Rewriting.{Step, layer_sem}
use Rattle.simulation_kit.specs.Hosting.{IsStuckRun, Final}
use Rattle.simulation_kit.specs.Keeping.{Holds, NamedJump, HoldsAfter, HoldsCaught, HoldsPicked, HoldsStatus, ActKeeps, HandlerKeeps, FormKeeps, SeeKeeps}
use Rattle.simulation_kit.specs.Likenesses.{JumpLike, Like, ResultLike, CaughtLike, StatusLike, matching, LeafLike, HandlerLike, PickedLike, FormLike, CalleeLike, SeeLike, TaskLike, TasksLike}
use Rattle.simulation_kit.specs.Mirrors.{Mirror, mirrored, image, jump_image, result_image, caught_image, status_image, ActMirrors, FormMirrors, CalleeMirrors, SeeMirrors, TaskMirrors, TasksMirror}
use Rattle.simulation_kit.proofs.LikeCode.{sees_place, Alike, Body, like_stays, OwesLayers, like_functions, like_final}

module _ {V S V' S' : Type 0} (M : Mirror V S V' S') where
  -- what is alike is the image
  is_image : (q : Plain V S) (q' : Plain V' S') → Like (mirrored M) q q' → q' ≡ image M q
  is_image q q' h =
      ap (λ (o : List V'). record { operands = o; locals = q'.locals; state = q'.state }) h.operands
      ∙ ap (λ (l : List V'). record { operands = M.values q.operands; locals = l; state = q'.state }) h.locals
      ∙ ap (λ (s : S'). record { operands = M.values q.operands; locals = M.values q.locals; state = s }) h.state

  image_like : (q : Plain V S) → Holds M.keeps q → Like (mirrored M) q (image M q)
  image_like q h = record { operands = refl; locals = refl; state = refl; sound_operands = h.operands; sound_locals = h.locals; safe = h.state }

  holds : (q : Plain V S) (q' : Plain V' S') → Like (mirrored M) q q' → Holds M.keeps q
  holds q q' h = record { operands = h.sound_operands; locals = h.sound_locals; state = h.safe }

  pub jump_like : (j : Jump) → NamedJump M.keeps j → JumpLike (mirrored M) j (jump_image M j)
  jump_like (TailCall f) n = (n, refl)
  jump_like (Branch k) n = refl
  jump_like Return n = refl
  jump_like (Throw e) n = refl
  jump_like Trap n = refl
  jump_like (NoReply x) n = refl
  jump_like Full n = refl
  jump_like Stuck n = refl

  jump_is : (j j' : Jump) → JumpLike (mirrored M) j j' → j' ≡ jump_image M j
  jump_is (TailCall f) j' e = e.1
  jump_is (Branch k) j' e = e
  jump_is Return j' e = e
  jump_is (Throw x) j' e = e
  jump_is Trap j' e = e
  jump_is (NoReply x) j' e = e
  jump_is Full j' e = e
  jump_is Stuck j' e = e

  result_like : (r : PlainRes V S) → HoldsAfter M.keeps r → ResultLike (mirrored M) r (result_image M r)
  result_like (Go q) h = image_like q h
  result_like (Leave j q) h = (jump_like j h.0, image_like q h.1)

  act_like : (act : Plain V S → PlainRes V S) (act' : Plain V' S' → PlainRes V' S') → ActMirrors M act act' → ActKeeps M.keeps act → (q : Plain V S) (q' : Plain V' S') → Like (mirrored M) q q' → ResultLike (mirrored M) (act q) (act' q')
  act_like act act' h keeps q q' e =
      subst (λ r. ResultLike (mirrored M) (act q) r) (sym (ap act' (is_image q q' e) ∙ h q)) (result_like (act q) (keeps.keeps q (holds q q' e)))

  -- a plain instruction
  pub leaf_like : (act : Plain V S → PlainRes V S) (act' : Plain V' S' → PlainRes V' S') → ActMirrors M act act' → ActKeeps M.keeps act → LeafLike (mirrored M) act act'
  leaf_like act act' h keeps = record { acts = act_like act act' h keeps }

  caught_like : (o : Option (Caught V S)) → HoldsCaught M.keeps o → CaughtLike (mirrored M) o (option_map (caught_image M) o)
  caught_like None h = tt
  caught_like (Some k) h = (jump_like k.jump h.0, record { operands = refl; state = refl; sound = h.1; safe = h.2 })

  handler_like : (t : Handler V S) (t' : Handler V' S') → ((e : ℕ) (s : S) → t' e (M.state s) ≡ option_map (caught_image M) (t e s)) → HandlerKeeps M.keeps t → HandlerLike (mirrored M) t t'
  handler_like t t' h keeps = record {
    catches = λ e s s' f safe. subst (λ o. CaughtLike (mirrored M) (t e s) o) (sym (ap (t' e) f ∙ h e s)) (caught_like (t e s) (keeps.keeps e s safe));
  }

  picked_like : (o : Option ℕ) → HoldsPicked M.keeps o → PickedLike (mirrored M) o (option_map M.index o)
  picked_like None h = refl
  picked_like (Some f) h = (h, refl)

  status_like : (r : Status S) → HoldsStatus M.keeps r → StatusLike (mirrored M) r (status_image M r)
  status_like (Go s) h = (refl, h)
  status_like (Leave j s) h = refl

  statuses : (r : Status S) (r' : Status S') → r' ≡ status_image M r → HoldsStatus M.keeps r → StatusLike (mirrored M) r r'
  statuses r r' e h = subst (λ i. StatusLike (mirrored M) r i) (sym e) (status_like r h)

  module _ {I I' X : Type 0} {F F' : Type 0 → Type 0} (L : Language I F V S) (L' : Language I' F' V' S') (step : Step X F I') (seen : M.Place → X) (Fits : I → Type 0) where
    form_like : (P : I → Type 0) (x : M.Place) (form : Form V S ((i : I) × P i)) (form' : Form V' S' I') → FormMirrors M L step seen Fits P x form form' → FormKeeps M.keeps form → FormLike (mirrored M) L step seen Fits P x form form'
    form_like P x (Flat act) (Flat act') h keeps = leaf_like act act' h keeps
    form_like P x (Enclose p r code) (Enclose p' r' code') h keeps = h
    form_like P x (Repeat p r code) (Repeat p' r' code') h keeps = h
    form_like P x (Choose test p r first second) (Choose test' p' r' first' second') h keeps = h
    form_like P x (Guard p r t code) (Guard p' r' t' code') h keeps = (h.0, h.1, handler_like t t' h.2 keeps, h.3)
    form_like P x (Invoke p f) (Invoke p' f') h keeps = h
    form_like P x (InvokeBy p pick) (InvokeBy p' pick') h keeps =
        (h.0, record { picks = λ q q' e. subst (λ o. PickedLike (mirrored M) (pick q) o) (sym (ap pick' (is_image q q' e) ∙ h.1 q)) (picked_like (pick q) (keeps.keeps q (holds q q' e))) })
    form_like P x _ _ h keeps = absurd h

    -- an instruction that becomes one whose form mirrors its own
    pub mirror_stays : (N : ℕ) → AllFuncsSim (matching (mirrored M)) N (func L) (func L') → (l : F (Body (mirrored M) L L' step seen Fits N)) (l' : F' I') (x : Context (matching (mirrored M))) (k m : Unit {0}) → IsShared x.labels → ((q : Plain V S) → L.ready (Body (mirrored M) L L' step seen Fits N) l q ≡ true → L'.ready I' l' (image M q) ≡ true) → ((q : Plain V S) → L.ready (Body (mirrored M) L L' step seen Fits N) l q ≡ false → M.strict ≡ true) → FormMirrors M L step seen Fits _ x.place (L.layer (Body (mirrored M) L L' step seen Fits N) l) (L'.layer I' l') → FormKeeps M.keeps (L.layer (Body (mirrored M) L L' step seen Fits N) l) → Sims (matching (mirrored M)) N x k m (layer_sem (matching (mirrored M)) L L' step (sees_place (mirrored M) L L' step seen Fits) (Alike (mirrored M) L L' step seen Fits) N l) (exec_code L' (L'.tree.roll l' ∷ []))
    mirror_stays N fs l l' x k m shared ready asks h keeps =
        like_stays (mirrored M) L L' step seen Fits N fs l l' x k m shared
        (record { readies = λ q q' e is. subst (λ i. L'.ready I' l' i ≡ true) (sym (is_image q q' e)) (ready q is); asks = asks })
        (form_like _ x.place (L.layer (Body (mirrored M) L L' step seen Fits N) l) (L'.layer I' l') h keeps)

    callee_like : (o : Option (Callee I V S)) (o' : Option (Callee I' V' S')) → CalleeMirrors M L step seen Fits o o' → CalleeLike (mirrored M) L step seen Fits o o'
    callee_like None None h = tt
    callee_like None (Some o') h = absurd h
    callee_like (Some (Own f)) None h = absurd h
    callee_like (Some (Host p act)) None h = absurd h
    callee_like (Some (Own f)) (Some (Own f')) h = h
    callee_like (Some (Own f)) (Some (Host p' act')) h = absurd h
    callee_like (Some (Host p act)) (Some (Own f')) h = absurd h
    callee_like (Some (Host p act)) (Some (Host p' act')) h = (h.0, record { acts = act_like act act' h.1 h.2; lasts = h.3 })

    -- all functions
    pub mirror_functions : OwesLayers (mirrored M) L L' step seen Fits → ((f : ℕ) → M.keeps.Named f → CalleeMirrors M L step seen Fits (L.callee f) (L'.callee (M.index f))) → (N : ℕ) → AllFuncsSim (matching (mirrored M)) N (func L) (func L')
    mirror_functions owes callees = like_functions (mirrored M) L L' step seen Fits owes (λ f named. callee_like (L.callee f) (L'.callee (M.index f)) (callees f named))

    see_like : (see : PlainRes V S → Status S) (see' : PlainRes V' S' → Status S') → SeeMirrors M see see' → SeeKeeps M.keeps see → SeeLike (mirrored M) see see'
    see_like see see' h keeps = record {
      goes = λ a l s l' s' e.
          statuses (see (Go (record { operands = a; locals = l; state = s }))) (see' (Go (record { operands = M.values a; locals = l'; state = s' })))
          (ap (λ (t : S'). see' (Go (record { operands = M.values a; locals = l'; state = t }))) e.state ∙ h.goes a l s l') (keeps.goes a l s e.sound e.safe);
      leaves = λ j j' a l s l' s' o i e.
          statuses (see (Leave j (record { operands = a; locals = l; state = s }))) (see' (Leave j' (record { operands = M.values a; locals = l'; state = s' })))
          (ap (λ (t : S'). see' (Leave j' (record { operands = M.values a; locals = l'; state = t }))) e.state
          ∙ ap (λ (n : Jump). see' (Leave n (record { operands = M.values a; locals = l'; state = M.state s }))) (jump_is j j' i)
          ∙ h.leaves j a l s l' o) (keeps.leaves j a l s e.sound e.safe);
      stuck = h.stuck;
    }

    task_like : (t : Task V S) (t' : Task V' S') → TaskMirrors M t t' → TaskLike (mirrored M) t t'
    task_like (Change f) (Change f') h = record { changes = λ s s' e safe. statuses (f s) (f' s') (ap f' e ∙ h.0 s) (h.1.keeps s safe) }
    task_like (Change f) (Enter x' operands' see') h = absurd h
    task_like (Enter x operands see) (Change f') h = absurd h
    task_like (Enter x operands see) (Enter x' operands' see') h = (h.0, h.1, h.2, h.3, see_like see see' h.4 h.5)

    tasks_like : (ts : List (Task V S)) (ts' : List (Task V' S')) → TasksMirror M ts ts' → TasksLike (mirrored M) ts ts'
    tasks_like [] [] h = tt
    tasks_like [] (t' ∷ ts') h = absurd h
    tasks_like (t ∷ ts) [] h = absurd h
    tasks_like (t ∷ ts) (t' ∷ ts') h = (task_like t t' h.0, tasks_like ts ts' h.1)

    -- the worlds after tasks: the state is the image of the state
    pub mirror_final : OwesLayers (mirrored M) L L' step seen Fits → ((f : ℕ) → M.keeps.Named f → CalleeMirrors M L step seen Fits (L.callee f) (L'.callee (M.index f))) → (ts : List (Task V S)) (ts' : List (Task V' S')) → TasksMirror M ts ts' → (s : S) → M.keeps.Safe s → (n : ℕ) → IsStuckRun (tasks (func L) ts n (record { state = s; deepest = 0 })) M.strict ⊎ Final (matching (mirrored M)) n (world_after (func L) ts s n) (world_after (func L') ts' (M.state s))
    mirror_final owes callees ts ts' h s safe n =
        like_final (mirrored M) L L' step seen Fits owes (λ f named. callee_like (L.callee f) (L'.callee (M.index f)) (callees f named)) ts ts' (tasks_like ts ts' h) s (M.state s) (refl, safe) n
