-- A machine takes its turns one after another.
use Rattle.std.proofs.Common.{◌≡◌, ℕ, zero, suc, ◌+◌, ◌-◌, ◌<◌, ◌≤◌, max, false, List, [], ◌∷◌, take, drop, Option, Some, None, refl, sym, ap, subst, ◌∙◌, arith, add-zero}
use Rattle.std.proofs.Math.Nat.{sub-zero}
use Rattle.evaluation_kit.specs.declared.jump.Jump.{Jump}
use Rattle.evaluation_kit.specs.declared.jump.Jump.TheVariants.{Branch}
use Rattle.outcome_kit.specs.Outcome.{Done, Halt, after}
use Rattle.outcome_kit.proofs.Outcomes.{after-zero, after-add}
use Rattle.machine_kit.specs.declared.frame.Frame.{Frame}
use Rattle.machine_kit.specs.declared.frame.Frame.TheVariants as frames
use Rattle.machine_kit.specs.declared.frame.Flow.{Flow}
use Rattle.machine_kit.specs.declared.frame.Flow.TheVariants as flows
use Rattle.machine_kit.specs.declared.head.Body.{Body}
use Rattle.machine_kit.specs.declared.turns.Outcome.{Outcome}
use Rattle.machine_kit.specs.declared.turns.Outcome.TheVariants as outcomes
use Rattle.machine_kit.specs.Acts.{Acts, zeros_of, ended_by}
use Rattle.machine_kit.specs.Stacks.{Stack}
use Rattle.machine_kit.specs.Pending.{open_calls}
use Rattle.machine_kit.specs.Machines.{Place, opens, pending_at, conf_of, means, Reaches, moving, flow_after}
use Rattle.machine_kit.specs.Stretches.{Stretch}
use Rattle.machine_kit.specs.Closings.{shortened}
use Rattle.machine_kit.specs.Turning.{over, loop_code, passed_flow, passed_place, entered_place, IsPass, Turned, Spent, Came}
use Rattle.machine_kit.proofs.Closes.{loop_closes}
use Rattle.machine_kit.proofs.Passing.{opens_body, passes_loop}

module _ {I V S : Type 0} (acts : Acts I V S) where
  -- a pass through the loop that is innermost
  again_at : (fs : List (Frame I)) (code : List I) (o l : Stack V) (s : S) → Turned acts flows.Again (record { code = code; operands = o; locals = l; frames = fs }) s (passed_flow (loop_code fs)) (passed_place (loop_code fs) (record { code = code; operands = o; locals = l; frames = fs })) s
  again_at [] code o l s = record { goes = λ top n. (top, refl) }
  again_at (frames.Block r k rest ∷ fs) code o l s = record { goes = λ top n. (top, refl) }
  again_at (frames.Loop p r k body rest ∷ fs) code o l s = record { goes = λ top n. (top, passes_loop acts p r (take k o.aside) body.now rest.now code (opens acts fs (drop k o.aside) l.aside) (conf_of acts o l s top) n) }
  again_at (frames.Guard r k instr rest ∷ fs) code o l s = record { goes = λ top n. (top, refl) }
  again_at (frames.Body r ∷ fs) code o l s = record { goes = λ top n. (top, refl) }
  again_at (frames.Call own k rest ∷ fs) code o l s = record { goes = λ top n. (top, refl) }

  pub again_turned : (a : Place I V) (s : S) → Turned acts flows.Again a s (passed_flow (loop_code a.frames)) (passed_place (loop_code a.frames) a) s
  again_turned a s = again_at a.frames a.code a.operands a.locals s

  -- the entry of a function
  pub open_turned : (a : Place I V) (s : S) (x : ℕ) (body : Body I) → Turned acts (flows.Open x body) a s flows.Run (entered_place (zeros_of (acts.callee x)) body a) s
  open_turned a s x body = record { goes = λ top n. (max top (open_calls (pending_at acts a) + 1), opens_body acts x body (pending_at acts a) (conf_of acts a.operands a.locals s top) n a.code) }

  pub turned_at : (f flow flow' flow'' : Flow I) (a b b' : Place I V) (s s' : S) → f ≡ flow → flow'' ≡ flow' → b' ≡ b → Turned acts flow a s flow' b s' → Turned acts f a s flow'' b' s'
  turned_at f flow flow' flow'' a b b' s s' d e q t =
      subst (λ x. Turned acts x a s flow'' b' s') (sym d)
      (subst (λ x. Turned acts flow a s x b' s') (sym e)
      (subst (λ x. Turned acts flow a s flow' x s') (sym q) t))

  -- and then steps without a turn
  pub turned_on : (flow flow' flow'' : Flow I) (a b c : Place I V) (s s' s'' : S) → Turned acts flow a s flow' b s' → Reaches acts flow' b s' flow'' c s'' → Turned acts flow a s flow'' c s''
  turned_on flow flow' flow'' a b c s s' s'' t r = record {
    goes = λ top n. ((t.goes top n).0, (t.goes top n).1 ∙ ap (after 1) (r (t.goes top n).0 n));
  }

  -- where a turn is wanted, and there is none
  wants_at : (flow : Flow I) (fs : List (Frame I)) (code : List I) (o l : Stack V) (s : S) (top : ℕ) → moving flow fs ≡ false → over flow ≡ None → means acts flow (record { code = code; operands = o; locals = l; frames = fs }) s top 0 ≡ Halt (record { state = s; deepest = top })
  wants_at flows.Run fs code o l s top m e = let no : ⊥ = cc in absurd no
  wants_at (flows.Close j) fs code o l s top m e = let no : ⊥ = cc in absurd no
  wants_at (flows.Enter x) fs code o l s top m e = let no : ⊥ = cc in absurd no
  wants_at flows.Again [] code o l s top m e = refl
  wants_at flows.Again (frames.Block r k rest ∷ fs) code o l s top m e = refl
  wants_at flows.Again (frames.Loop p r k body rest ∷ fs) code o l s top m e = refl
  wants_at flows.Again (frames.Guard r k instr rest ∷ fs) code o l s top m e = refl
  wants_at flows.Again (frames.Body r ∷ fs) code o l s top m e = refl
  wants_at flows.Again (frames.Call own k rest ∷ fs) code o l s top m e = refl
  wants_at (flows.Open x body) fs code o l s top m e = refl

  -- a run that is over
  over_at : (flow : Flow I) (fs : List (Frame I)) (code : List I) (o l : Stack V) (s : S) (top n : ℕ) (j : Option Jump) → moving flow fs ≡ false → over flow ≡ Some j → means acts flow (record { code = code; operands = o; locals = l; frames = fs }) s top n ≡ Done 0 (ended_by j (conf_of acts o l s top))
  over_at flows.Run fs code o l s top n j m e = let no : ⊥ = cc in absurd no
  over_at (flows.Close i) [] code o l s top n j m e = let same : i ≡ j = cc in ap (λ x. Done 0 (ended_by x (conf_of acts o l s top))) same
  over_at (flows.Close i) (f ∷ fs) code o l s top n j m e = let no : ⊥ = cc in absurd no
  over_at (flows.Enter x) fs code o l s top n j m e = let no : ⊥ = cc in absurd no
  over_at flows.Again fs code o l s top n j m e = let no : ⊥ = cc in absurd no
  over_at (flows.Open x body) fs code o l s top n j m e = let no : ⊥ = cc in absurd no

  -- no turn is used yet
  pub spent_nothing : (flow : Flow I) (a : Place I V) (s : S) (n : ℕ) → Spent acts flow a s n 0 flow a s
  spent_nothing flow a s n = record { leaves = λ top. (top, sym (after-zero (means acts flow a s top (n - 0)) ∙ ap (means acts flow a s top) (sub-zero n))) }

  -- one more
  pub spent_more : (flow flow' flow'' : Flow I) (a b c : Place I V) (s s' s'' : S) (n used : ℕ) → used < n → Spent acts flow a s n used flow' b s' → Turned acts flow' b s' flow'' c s'' → Spent acts flow a s n (used + 1) flow'' c s''
  spent_more flow flow' flow'' a b c s s' s'' n used less h t = record { leaves = λ top. one_more top (h.leaves top) }
    where
      one_more : (top : ℕ) → (top' : ℕ) × (means acts flow a s top n ≡ after used (means acts flow' b s' top' (n - used))) → (top' : ℕ) × (means acts flow a s top n ≡ after (used + 1) (means acts flow'' c s'' top' (n - (used + 1))))
      one_more top p =
          let left : n - used ≡ suc (n - (used + 1)) = omega arith in
          let q = t.goes p.0 (n - (used + 1)) in
          (q.0, p.1 ∙ ap (λ m. after used (means acts flow' b s' p.0 m)) left ∙ ap (after used) q.1 ∙ sym (after-add used 1 (means acts flow'' c s'' q.0 (n - (used + 1)))))

  -- more of them
  pub spent_on : (flow flow' flow'' : Flow I) (a b c : Place I V) (s s' s'' : S) (n used more : ℕ) → Spent acts flow a s n used flow' b s' → Spent acts flow' b s' (n - used) more flow'' c s'' → Spent acts flow a s n (used + more) flow'' c s''
  spent_on flow flow' flow'' a b c s s' s'' n used more h t = record {
    leaves = λ top.
        let p = h.leaves top in
        let q = t.leaves p.0 in
        let left : n - used - more ≡ n - (used + more) = omega arith in
        (q.0, p.1 ∙ ap (after used) (q.1 ∙ ap (λ m. after more (means acts flow'' c s'' q.0 m)) left) ∙ sym (after-add used more (means acts flow'' c s'' q.0 (n - (used + more)))));
  }

  -- the first of them
  pub spent_first : (flow flow' flow'' : Flow I) (a b c : Place I V) (s s' s'' : S) (n more : ℕ) → 0 < n → Turned acts flow a s flow' b s' → Spent acts flow' b s' (n - 1) more flow'' c s'' → Spent acts flow a s n (more + 1) flow'' c s''
  spent_first flow flow' flow'' a b c s s' s'' n more some t h =
      let order : 1 + more ≡ more + 1 = omega arith in
      subst (λ u. Spent acts flow a s n u flow'' c s'') order
      (spent_on flow flow' flow'' a b c s s' s'' n 1 more (spent_more flow flow flow' a a b s s s' n 0 some (spent_nothing flow a s n) t) h)

  -- and steps without a turn
  pub spent_then : (flow flow' flow'' : Flow I) (a b c : Place I V) (s s' s'' : S) (n used : ℕ) → Spent acts flow a s n used flow' b s' → Reaches acts flow' b s' flow'' c s'' → Spent acts flow a s n used flow'' c s''
  spent_then flow flow' flow'' a b c s s' s'' n used h r = record {
    leaves = λ top. let p = h.leaves top in (p.0, p.1 ∙ ap (after used) (r p.0 (n - used)));
  }

  pub spent_none : (flow flow' : Flow I) (a b : Place I V) (s s' : S) (n : ℕ) → Reaches acts flow a s flow' b s' → Spent acts flow a s n 0 flow' b s'
  spent_none flow flow' a b s s' n r = spent_then flow flow flow' a a b s s s' n 0 (spent_nothing flow a s n) r

  -- a jump to the innermost loop, and its next pass
  pass_at : (fs : List (Frame I)) (code : List I) (o l : Stack V) (s : S) (takes : ℕ) (next : List I) → IsPass takes next fs → Turned acts (flows.Close (Some (Branch 0))) (record { code = code; operands = o; locals = l; frames = fs }) s flows.Run (record { code = next; operands = shortened takes o; locals = l; frames = fs }) s
  pass_at (frames.Loop p r k body rest ∷ fs) code o l s takes next h =
      subst (λ t. Turned acts (flows.Close (Some (Branch 0))) (record { code = code; operands = o; locals = l; frames = frames.Loop p r k body rest ∷ fs }) s flows.Run (record { code = next; operands = shortened t o; locals = l; frames = frames.Loop p r k body rest ∷ fs }) s) h.0
      (subst (λ x. Turned acts (flows.Close (Some (Branch 0))) (record { code = code; operands = o; locals = l; frames = frames.Loop p r k body rest ∷ fs }) s flows.Run (record { code = x; operands = shortened p o; locals = l; frames = frames.Loop p r k body rest ∷ fs }) s) h.1
      (record {
        goes = λ top n. (
          top,
          (loop_closes acts (record { code = code; operands = o; locals = l; frames = fs }) (Some (Branch 0)) p r k body rest s).same top (suc n)
              ∙ passes_loop acts p r (take k o.aside) body.now rest.now code (opens acts fs (drop k o.aside) l.aside) (conf_of acts (shortened p o) l s top) n,
        );
      }))
  pass_at _ code o l s takes next h = absurd h

  -- plain instructions, and a jump to the innermost loop
  pub passes : (a : Place I V) (b : Place I V) (s s' : S) (j : Option Jump) (o : Stack V) (takes : ℕ) (next : List I) → Stretch acts a s j b s' → j ≡ Some (Branch 0) → IsPass takes next b.frames → o ≡ shortened takes b.operands → Turned acts flows.Run a s flows.Run (record b { code = next; operands = o }) s'
  passes a b s s' (Some (Branch zero)) o takes next h e is q =
      subst (λ x. Turned acts flows.Run a s flows.Run (record b { code = next; operands = x }) s') (sym q)
      (let t = pass_at b.frames b.code b.operands b.locals s' takes next is in record { goes = λ top n. ((t.goes top n).0, h.same top (suc n) ∙ (t.goes top n).1) })
  passes a b s s' _ o takes next h e is q = let no : ⊥ = cc in absurd no

  -- plain instructions, and then something else
  pub ran_to : (a b : Place I V) (s s' : S) (j : Option Jump) → Stretch acts a s j b s' → Reaches acts flows.Run a s (flow_after j) b s'
  ran_to a b s s' None h = h.0.same
  ran_to a b s s' (Some jump) h = h.same

  -- what the run comes to
  pub came_over : (flow flow' : Flow I) (a b : Place I V) (s s' : S) (n used : ℕ) (j : Option Jump) → Spent acts flow a s n used flow' b s' → moving flow' b.frames ≡ false → over flow' ≡ Some j → used ≤ n → Came acts flow a s n (outcomes.Done used j) b s'
  came_over flow flow' a b s s' n used j h m e le = (
    le,
    λ top.
        let p = h.leaves top in
        (p.0, p.1 ∙ ap (after used) (over_at flow' b.frames b.code b.operands b.locals s' p.0 (n - used) j m e) ∙ ap (λ u. Done u (ended_by j (conf_of acts b.operands b.locals s' p.0))) (add-zero used)),
  )

  pub came_halted : (flow flow' : Flow I) (a b : Place I V) (s s' : S) (n : ℕ) → Spent acts flow a s n n flow' b s' → moving flow' b.frames ≡ false → over flow' ≡ None → Came acts flow a s n outcomes.Halted b s'
  came_halted flow flow' a b s s' n h m e = λ top.
      let p = h.leaves top in
      let none : n - n ≡ 0 = omega arith in
      (p.0, p.1 ∙ ap (λ i. after n (means acts flow' b s' p.0 i)) none ∙ ap (after n) (wants_at flow' b.frames b.code b.operands b.locals s' p.0 m e))

  pub came_later : (flow flow' : Flow I) (a b c : Place I V) (s s' s'' : S) (n : ℕ) (o : Outcome) → Reaches acts flow a s flow' b s' → Came acts flow' b s' n o c s'' → Came acts flow a s n o c s''
  came_later flow flow' a b c s s' s'' n (outcomes.Done used j) r h = (h.0, λ top. ((h.1 top).0, r top n ∙ (h.1 top).1))
  came_later flow flow' a b c s s' s'' n outcomes.Halted r h = λ top. ((h top).0, r top n ∙ (h top).1)
