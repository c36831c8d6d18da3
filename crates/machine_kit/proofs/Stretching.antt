-- Stretches of plain instructions.
use Rattle.std.proofs.Common.{◌≡◌, ℕ, ◌≤◌, ◌<◌, List, [], ◌∷◌, length, Bool, true, false, Option, Some, None, refl, sym, subst, ◌∙◌, arith}
use Rattle.std.specs.Borrow.{Bor}
use Rattle.evaluation_kit.specs.declared.jump.Jump.{Jump}
use Rattle.evaluation_kit.specs.Forms.{Form, Flat}
use Rattle.machine_kit.specs.declared.frame.Frame.{Frame}
use Rattle.machine_kit.specs.declared.frame.Flow.{Flow}
use Rattle.machine_kit.specs.declared.frame.Flow.TheVariants as flows
use Rattle.machine_kit.specs.declared.head.Head.{Head}
use Rattle.machine_kit.specs.declared.head.Head.TheVariants as heads
use Rattle.machine_kit.specs.Acts.{Acts, Laws, act_of}
use Rattle.machine_kit.specs.Heads.{HeadIs, Acted, IsForm}
use Rattle.machine_kit.specs.Stacks.{Stack}
use Rattle.machine_kit.specs.Machines.{Place, Moves, flow_after}
use Rattle.machine_kit.specs.Stretches.{Stops, Slides, Stretch}
use Rattle.machine_kit.proofs.Moves.{plain_moves}

module _ {I V : Type 0} where
  -- where code stands with these stacks inside these frames
  abbrev pub standing : List I → Stack V → Stack V → List (Frame I) → Place I V
  standing code o l fs = record { code = code; operands = o; locals = l; frames = fs }

module _ {I V S : Type 0} (acts : Acts I V S) where
  pub nothing_flat : (i : I) (rest : List I) → Stops acts (i ∷ rest) → HeadIs (acts.form i) heads.Flat → ⊥
  nothing_flat i rest h e = subst IsForm e h

  pub slides_nowhere : (a : Place I V) (s : S) → Slides acts a s a s
  slides_nowhere a s = record { same = λ top n. refl; less = omega arith }

  slides_on : (a b c : Place I V) (s s' s'' : S) → Slides acts a s b s' → Moves acts flows.Run b s' flows.Run c s'' → Slides acts a s c s''
  slides_on a b c s s' s'' h m = record { same = λ top n. h.same top n ∙ m.same top n; less = let x = h.less in let y = m.less in omega arith }

  pub slides_into : (a b c : Place I V) (s s' s'' : S) (flow : Flow I) → Slides acts a s b s' → Moves acts flows.Run b s' flow c s'' → Moves acts flows.Run a s flow c s''
  slides_into a b c s s' s'' flow h m = record { same = λ top n. h.same top n ∙ m.same top n; less = let x = h.less in let y = m.less in omega arith }

  -- one more plain instruction
  pub one_more : (laws : Laws acts) (code code' : List I) (o o' o'' l l' l'' : Stack V) (fs : List (Frame I)) (s s' s'' : S) (i : I) (rest : Bor (List I)) → code' ≡ i ∷ rest.now → acts.form i ≡ Flat (act_of (acts.form i))
      → Slides acts (standing code o l fs) s (standing code' o' l' fs) s' → Acted (act_of (acts.form i)) o' l' s' o'' l'' s'' None → Slides acts (standing code o l fs) s (standing rest.now o'' l'' fs) s''
  one_more laws code code' o o' o'' l l' l'' fs s s' s'' i rest at flat h acted =
      slides_on _ (standing (i ∷ rest.now) o' l' fs) _ s s' s'' (subst (λ x. Slides acts (standing code o l fs) s (standing x o' l' fs) s') at h)
      (plain_moves acts laws (standing rest.now o' l' fs) i rest o'' l'' s' s'' None flat acted)

  pub last_jumps : (laws : Laws acts) (code code' : List I) (o o' o'' l l' l'' : Stack V) (fs : List (Frame I)) (s s' s'' : S) (i : I) (rest : Bor (List I)) (jump : Jump) → code' ≡ i ∷ rest.now → acts.form i ≡ Flat (act_of (acts.form i))
      → Slides acts (standing code o l fs) s (standing code' o' l' fs) s' → Acted (act_of (acts.form i)) o' l' s' o'' l'' s'' (Some jump) → Moves acts flows.Run (standing code o l fs) s (flows.Close (Some jump)) (standing rest.now o'' l'' fs) s''
  last_jumps laws code code' o o' o'' l l' l'' fs s s' s'' i rest jump at flat h acted =
      slides_into _ (standing (i ∷ rest.now) o' l' fs) _ s s' s'' (flows.Close (Some jump)) (subst (λ x. Slides acts (standing code o l fs) s (standing x o' l' fs) s') at h)
      (plain_moves acts laws (standing rest.now o' l' fs) i rest o'' l'' s' s'' (Some jump) flat acted)

  -- before an instruction that is not plain, with which nothing was done
  pub stops_before : (code code' : List I) (o o' o'' l l' l'' : Stack V) (fs : List (Frame I)) (s s' s'' : S) (i : I) (rest : List I) → code' ≡ i ∷ rest → IsForm (acts.form i) → o'' ≡ o' → l'' ≡ l' → s'' ≡ s'
      → Slides acts (standing code o l fs) s (standing code' o' l' fs) s' → Stretch acts (standing code o l fs) s None (standing code' o'' l'' fs) s''
  stops_before code code' o o' o'' l l' l'' fs s s' s'' i rest at form same-o same-l same-s h =
      (rw (same-o, same-l, same-s) h, subst (Stops acts) (sym at) form)

  pub stops_at_end : (code : List I) → length code ≡ 0 → Stops acts code
  stops_at_end [] none = tt
  stops_at_end (i ∷ code) none = absurd (omega (arith, none))

  -- the stretch before a form, a call or the end
  pub into_form : (a b c : Place I V) (s s' s'' : S) (j : Option Jump) (flow : Flow I) → j ≡ None → Stretch acts a s j b s' → Moves acts flows.Run b s' flow c s'' → Moves acts flows.Run a s flow c s''
  into_form a b c s s' s'' None flow e h m = slides_into a b c s s' s'' flow h.0 m
  into_form a b c s s' s'' (Some jump) flow e h m = let no : ⊥ = cc in absurd no

  pub stops_there : (a b : Place I V) (s s' : S) (j : Option Jump) → j ≡ None → Stretch acts a s j b s' → Stops acts b.code
  stops_there a b s s' None e h = h.1
  stops_there a b s s' (Some jump) e h = let no : ⊥ = cc in absurd no

  pub into_jump : (a b : Place I V) (s s' : S) (j : Option Jump) → ((j ≡ None) → ⊥) → Stretch acts a s j b s' → Moves acts flows.Run a s (flows.Close j) b s'
  into_jump a b s s' None some h = absurd (some refl)
  into_jump a b s s' (Some jump) some h = h

  -- a stretch of the place where it begins
  pub stretch_from : (code code' : List I) (o o' l l' : Stack V) (fs : List (Frame I)) (s s' : S) (jump : Option Jump) (b : Place I V) (s'' : S) → standing code' o' l' [] ≡ standing code o l [] → s' ≡ s → Stretch acts (standing code' o' l' fs) s' jump b s'' → Stretch acts (standing code o l fs) s jump b s''
  stretch_from code code' o o' l l' fs s s' jump b s'' at same h =
      subst (λ x. Stretch acts (standing code o l fs) x jump b s'') same
      (subst (λ p. Stretch acts (record p { frames = fs }) s' jump b s'') at h)
