-- A step of a machine at an instruction, by its form.
use Rattle.std.proofs.Common.{◌≡◌, ℕ, ◌+◌, ◌<◌, ◌≤◌, List, [], ◌∷◌, ◌++◌, length, take, drop, reverse, Bool, true, false, cond, Option, Some, None, refl, sym, ap, subst, ◌∙◌, arith}
use Rattle.std.proofs.lemmas.List.{take_at, drop_at, length-reverse, reverse-reverse}
use Rattle.std.specs.Borrow.{Bor}
use Rattle.evaluation_kit.specs.declared.jump.Jump.{Jump}
use Rattle.evaluation_kit.specs.declared.jump.Jump.TheVariants.{Trap}
use Rattle.evaluation_kit.specs.Control.{Own, Host}
use Rattle.evaluation_kit.specs.Forms.{Form, Flat, Enclose, Repeat, Choose, Guard, Invoke, InvokeBy}
use Rattle.machine_kit.specs.declared.frame.Frame.{Frame}
use Rattle.machine_kit.specs.declared.frame.Frame.TheVariants as frames
use Rattle.machine_kit.specs.declared.frame.Flow.{Flow}
use Rattle.machine_kit.specs.declared.frame.Flow.TheVariants as flows
use Rattle.machine_kit.specs.declared.head.Body.{Body}
use Rattle.machine_kit.specs.Acts.{Acts, Laws, total, inner_size, act_of, test_of, handler_of, pick_of, zeros_of, host_of}
use Rattle.machine_kit.specs.Stacks.{Stack}
use Rattle.machine_kit.specs.Heads.{Acted, Hosted, function_of}
use Rattle.machine_kit.specs.Pending.{Pending, InBlock, InLoop, InGuard, InCall}
use Rattle.machine_kit.specs.Machines.{Place, opens, left, left_size, conf_of, pending_at, Moves, flow_after}
use Rattle.machine_kit.proofs.Instructions.{code_ends, flat_goes, flat_jumps, enclosed, repeated, chosen, guarded, called, none_picked, picked}
use Rattle.machine_kit.proofs.Entering.{other_locals, missing, own, hosted}

-- the stack from which all but so many are set aside
abbrev pub put_aside : {V : Type 0} → ℕ → Stack V → Stack V
put_aside p o = record { used = take p o.used; aside = drop p o.used ++ o.aside }

abbrev pub dropped : {V : Type 0} → Stack V → Stack V
dropped o = record o { used = drop 1 o.used }

abbrev pub all_aside : {V : Type 0} → Stack V → Stack V
all_aside l = record { used = []; aside = reverse l.used ++ l.aside }

pub same_place : {I V : Type 0} (code code' : List I) (o o' l l' : Stack V) (fs fs' : List (Frame I)) → code ≡ code' → o ≡ o' → l ≡ l' → fs ≡ fs' → ◌≡◌ {A = Place I V} (record { code = code; operands = o; locals = l; frames = fs }) (record { code = code'; operands = o'; locals = l'; frames = fs' })
same_place {I = I} {V = V} code code' o o' l l' fs fs' a b c d =
    ap (λ x. let r : Place I V = record { code = x; operands = o; locals = l; frames = fs } in r) a
    ∙ ap (λ x. let r : Place I V = record { code = code'; operands = x; locals = l; frames = fs } in r) b
    ∙ ap (λ x. let r : Place I V = record { code = code'; operands = o'; locals = x; frames = fs } in r) c
    ∙ ap (λ x. let r : Place I V = record { code = code'; operands = o'; locals = l'; frames = x } in r) d

module _ {I V S : Type 0} (acts : Acts I V S) where
  pub moves_to : (flow flow' : Flow I) (a b b' : Place I V) (s s' : S) → b' ≡ b → Moves acts flow a s flow' b s' → Moves acts flow a s flow' b' s'
  moves_to flow flow' a b b' s s' e m = subst (λ x. Moves acts flow a s flow' x s') (sym e) m

  -- a step from what both places have open
  pub moves_by : (flow flow' : Flow I) (a b : Place I V) (s s' : S) (k : List (Pending I V S)) → pending_at acts b ≡ k → ((top n : ℕ) → left acts flow a.code (pending_at acts a) (conf_of acts a.operands a.locals s top) n ≡ left acts flow' b.code k (conf_of acts b.operands b.locals s' top) n) → left_size acts flow' b.code k < left_size acts flow a.code (pending_at acts a) → Moves acts flow a s flow' b s'
  moves_by flow flow' a b s s' k e same less = record {
    same = λ top n. same top n ∙ ap (λ x. left acts flow' b.code x (conf_of acts b.operands b.locals s' top) n) (sym e);
    less = subst (λ x. left_size acts flow' b.code x < left_size acts flow a.code (pending_at acts a)) (sym e) less;
  }

  -- what was set aside last lies on top
  on_top : (front back : List V) → take (length front) (front ++ back) ≡ front
  on_top front back = take_at front back (length front) refl

  below_it : (fs : List (Frame I)) (front back locals : List V) → opens acts fs (drop (length front) (front ++ back)) locals ≡ opens acts fs back locals
  below_it fs front back locals = ap (λ x. opens acts fs x locals) (drop_at front back (length front) refl)

  pub block_opens : (r : ℕ) (rest : Bor (List I)) (fs : List (Frame I)) (front back locals : List V) → opens acts (frames.Block r (length front) rest ∷ fs) (front ++ back) locals ≡ InBlock r front rest.now ∷ opens acts fs back locals
  block_opens r rest fs front back locals =
      ap (λ x. InBlock r x rest.now ∷ opens acts fs (drop (length front) (front ++ back)) locals) (on_top front back)
      ∙ ap (λ k. InBlock r front rest.now ∷ k) (below_it fs front back locals)

  pub loop_opens : (p r : ℕ) (body rest : Bor (List I)) (fs : List (Frame I)) (front back locals : List V) → opens acts (frames.Loop p r (length front) body rest ∷ fs) (front ++ back) locals ≡ InLoop p r front body.now rest.now ∷ opens acts fs back locals
  loop_opens p r body rest fs front back locals =
      ap (λ x. InLoop p r x body.now rest.now ∷ opens acts fs (drop (length front) (front ++ back)) locals) (on_top front back)
      ∙ ap (λ k. InLoop p r front body.now rest.now ∷ k) (below_it fs front back locals)

  pub guard_opens : (r : ℕ) (instr : Bor I) (rest : Bor (List I)) (fs : List (Frame I)) (front back locals : List V) → opens acts (frames.Guard r (length front) instr rest ∷ fs) (front ++ back) locals ≡ InGuard r (handler_of (acts.form instr.now)) front rest.now ∷ opens acts fs back locals
  guard_opens r instr rest fs front back locals =
      ap (λ x. InGuard r (handler_of (acts.form instr.now)) x rest.now ∷ opens acts fs (drop (length front) (front ++ back)) locals) (on_top front back)
      ∙ ap (λ k. InGuard r (handler_of (acts.form instr.now)) front rest.now ∷ k) (below_it fs front back locals)

  pub call_opens : (rest : Bor (List I)) (fs : List (Frame I)) (front back own locals : List V) → opens acts (frames.Call (length own) (length front) rest ∷ fs) (front ++ back) (reverse own ++ locals) ≡ InCall own front rest.now ∷ opens acts fs back locals
  call_opens rest fs front back own locals =
      let n : length (reverse own) ≡ length own = length-reverse own in
      let a : reverse (take (length own) (reverse own ++ locals)) ≡ own = ap reverse (take_at (reverse own) locals (length own) n) ∙ reverse-reverse own in
      let b : drop (length own) (reverse own ++ locals) ≡ locals = drop_at (reverse own) locals (length own) n in
      ap (λ x. InCall x (take (length front) (front ++ back)) rest.now ∷ opens acts fs (drop (length front) (front ++ back)) (drop (length own) (reverse own ++ locals))) a
      ∙ ap (λ x. InCall own (take (length front) (front ++ back)) rest.now ∷ opens acts fs (drop (length front) (front ++ back)) x) b
      ∙ ap (λ x. InCall own x rest.now ∷ opens acts fs (drop (length front) (front ++ back)) locals) (on_top front back)
      ∙ ap (λ k. InCall own front rest.now ∷ k) (below_it fs front back locals)

module _ {I V S : Type 0} (acts : Acts I V S) (laws : Laws acts) (a : Place I V) (i : I) (rest : Bor (List I)) where
  -- the machine at the instruction
  abbrev pub before : Place I V
  before = record a { code = i ∷ rest.now }

  small : (form : Form V S I) → acts.form i ≡ form → inner_size acts.size form + 3 ≤ acts.size i
  small form e = subst (λ f. inner_size acts.size f + 3 ≤ acts.size i) e (laws.shrinks i)

  pub plain_moves : (o' l' : Stack V) (s s' : S) (j : Option Jump) → acts.form i ≡ Flat (act_of (acts.form i)) → Acted (act_of (acts.form i)) a.operands a.locals s o' l' s' j → Moves acts flows.Run before s (flow_after j) (record a { code = rest.now; operands = o'; locals = l' }) s'
  plain_moves o' l' s s' None e h =
      moves_by acts flows.Run flows.Run before (record a { code = rest.now; operands = o'; locals = l' }) s s' (pending_at acts a)
      (ap (λ x. opens acts a.frames x l'.aside) h.1 ∙ ap (λ x. opens acts a.frames a.operands.aside x) h.2)
      (λ top n. flat_goes acts laws i rest.now (pending_at acts a) (conf_of acts a.operands a.locals s top) n (act_of (acts.form i)) _ e h.0)
      (let m = small (Flat (act_of (acts.form i))) e in omega arith)
  plain_moves o' l' s s' (Some j) e h =
      moves_by acts flows.Run (flows.Close (Some j)) before (record a { code = rest.now; operands = o'; locals = l' }) s s' (pending_at acts a)
      (ap (λ x. opens acts a.frames x l'.aside) h.1 ∙ ap (λ x. opens acts a.frames a.operands.aside x) h.2)
      (λ top n. flat_jumps acts laws i rest.now (pending_at acts a) (conf_of acts a.operands a.locals s top) n (act_of (acts.form i)) j _ e h.0)
      (let m = small (Flat (act_of (acts.form i))) e in omega arith)

  pub block_moves : (body : Bor (List I)) (p r : ℕ) (s : S) → acts.form i ≡ Enclose p r body.now → Moves acts flows.Run before s flows.Run (record a { code = body.now; operands = put_aside p a.operands; frames = frames.Block r (length (drop p a.operands.used)) rest ∷ a.frames }) s
  block_moves body p r s e =
      moves_by acts flows.Run flows.Run before (record a { code = body.now; operands = put_aside p a.operands; frames = frames.Block r (length (drop p a.operands.used)) rest ∷ a.frames }) s s (InBlock r (drop p a.operands.used) rest.now ∷ pending_at acts a)
      (block_opens acts r rest a.frames (drop p a.operands.used) a.operands.aside a.locals.aside)
      (λ top n. enclosed acts laws i rest.now (pending_at acts a) (conf_of acts a.operands a.locals s top) n p r body.now e)
      (let m = small (Enclose p r body.now) e in omega arith)

  pub loop_moves : (body : Bor (List I)) (p r : ℕ) (s : S) → acts.form i ≡ Repeat p r body.now → Moves acts flows.Run before s flows.Again (record a { code = rest.now; operands = put_aside p a.operands; frames = frames.Loop p r (length (drop p a.operands.used)) body rest ∷ a.frames }) s
  loop_moves body p r s e =
      moves_by acts flows.Run flows.Again before (record a { code = rest.now; operands = put_aside p a.operands; frames = frames.Loop p r (length (drop p a.operands.used)) body rest ∷ a.frames }) s s (InLoop p r (drop p a.operands.used) body.now rest.now ∷ pending_at acts a)
      (loop_opens acts p r body rest a.frames (drop p a.operands.used) a.operands.aside a.locals.aside)
      (λ top n. repeated acts laws i rest.now (pending_at acts a) (conf_of acts a.operands a.locals s top) n p r body.now e)
      (omega arith)

  chosen_size : (size : I → ℕ) (b : Bool) (first second : List I) → total size (cond b first second) ≤ total size first + total size second
  chosen_size size true first second = omega arith
  chosen_size size false first second = omega arith

  pub choice_moves : (first second code : List I) (b : Bool) (p r : ℕ) (s : S) → acts.form i ≡ Choose (test_of (acts.form i)) p r first second → b ≡ test_of (acts.form i) a.operands.used → code ≡ cond b first second → Moves acts flows.Run before s flows.Run (record a { code = code; operands = put_aside p (dropped a.operands); frames = frames.Block r (length (drop p (drop 1 a.operands.used))) rest ∷ a.frames }) s
  choice_moves first second code b p r s e f q =
      moves_to acts flows.Run flows.Run before (record a { code = cond b first second; operands = put_aside p (dropped a.operands); frames = frames.Block r (length (drop p (drop 1 a.operands.used))) rest ∷ a.frames }) _ s s (ap (λ x. let y : Place I V = record a { code = x; operands = put_aside p (dropped a.operands); frames = frames.Block r (length (drop p (drop 1 a.operands.used))) rest ∷ a.frames } in y) q)
      (moves_by acts flows.Run flows.Run before (record a { code = cond b first second; operands = put_aside p (dropped a.operands); frames = frames.Block r (length (drop p (drop 1 a.operands.used))) rest ∷ a.frames }) s s (InBlock r (drop p (drop 1 a.operands.used)) rest.now ∷ pending_at acts a)
      (block_opens acts r rest a.frames (drop p (drop 1 a.operands.used)) a.operands.aside a.locals.aside)
      (λ top n. chosen acts laws i rest.now (pending_at acts a) (conf_of acts a.operands a.locals s top) n p r (test_of (acts.form i)) first second b e (sym f))
      (let m = small (Choose (test_of (acts.form i)) p r first second) e in let t = chosen_size acts.size b first second in omega arith))

  pub guard_moves : (instr : Bor I) (body : Bor (List I)) (p r : ℕ) (s : S) → instr.now ≡ i → acts.form i ≡ Guard p r (handler_of (acts.form i)) body.now → Moves acts flows.Run before s flows.Run (record a { code = body.now; operands = put_aside p a.operands; frames = frames.Guard r (length (drop p a.operands.used)) instr rest ∷ a.frames }) s
  guard_moves instr body p r s q e =
      moves_by acts flows.Run flows.Run before (record a { code = body.now; operands = put_aside p a.operands; frames = frames.Guard r (length (drop p a.operands.used)) instr rest ∷ a.frames }) s s (InGuard r (handler_of (acts.form i)) (drop p a.operands.used) rest.now ∷ pending_at acts a)
      (guard_opens acts r instr rest a.frames (drop p a.operands.used) a.operands.aside a.locals.aside ∙ ap (λ x. InGuard r (handler_of (acts.form x)) (drop p a.operands.used) rest.now ∷ pending_at acts a) q)
      (λ top n. guarded acts laws i rest.now (pending_at acts a) (conf_of acts a.operands a.locals s top) n p r (handler_of (acts.form i)) body.now e)
      (let m = small (Guard p r (handler_of (acts.form i)) body.now) e in omega arith)

  pub call_moves : (p x : ℕ) (s : S) → acts.form i ≡ Invoke p x → Moves acts flows.Run before s (flows.Enter x) (record { code = rest.now; operands = put_aside p a.operands; locals = all_aside a.locals; frames = frames.Call (length a.locals.used) (length (drop p a.operands.used)) rest ∷ a.frames }) s
  call_moves p x s e =
      moves_by acts flows.Run (flows.Enter x) before (record { code = rest.now; operands = put_aside p a.operands; locals = all_aside a.locals; frames = frames.Call (length a.locals.used) (length (drop p a.operands.used)) rest ∷ a.frames }) s s (InCall a.locals.used (drop p a.operands.used) rest.now ∷ pending_at acts a)
      (call_opens acts rest a.frames (drop p a.operands.used) a.operands.aside a.locals.used a.locals.aside)
      (λ top n. called acts laws i rest.now (pending_at acts a) (conf_of acts a.operands a.locals s top) n p x e
      ∙ other_locals acts laws x (pending_at acts a) (conf_of acts (put_aside p a.operands) a.locals s top) n a.locals.used [] (drop p a.operands.used) rest.now rest.now)
      (let m = small (Invoke p x) e in omega arith)

  pub picked_moves : (p x : ℕ) (s : S) → acts.form i ≡ InvokeBy p (pick_of (acts.form i)) → Some x ≡ pick_of (acts.form i) (record { operands = a.operands.used; locals = a.locals.used; state = s }) → Moves acts flows.Run before s (flows.Enter x) (record { code = rest.now; operands = put_aside p (dropped a.operands); locals = all_aside a.locals; frames = frames.Call (length a.locals.used) (length (drop p (drop 1 a.operands.used))) rest ∷ a.frames }) s
  picked_moves p x s e f =
      moves_by acts flows.Run (flows.Enter x) before (record { code = rest.now; operands = put_aside p (dropped a.operands); locals = all_aside a.locals; frames = frames.Call (length a.locals.used) (length (drop p (drop 1 a.operands.used))) rest ∷ a.frames }) s s (InCall a.locals.used (drop p (drop 1 a.operands.used)) rest.now ∷ pending_at acts a)
      (call_opens acts rest a.frames (drop p (drop 1 a.operands.used)) a.operands.aside a.locals.used a.locals.aside)
      (λ top n. picked acts laws i rest.now (pending_at acts a) (conf_of acts a.operands a.locals s top) n p x (pick_of (acts.form i)) e (sym f)
      ∙ other_locals acts laws x (pending_at acts a) (conf_of acts (put_aside p (dropped a.operands)) a.locals s top) n a.locals.used [] (drop p (drop 1 a.operands.used)) rest.now rest.now)
      (let m = small (InvokeBy p (pick_of (acts.form i))) e in omega arith)

  pub unpicked_moves : (p : ℕ) (s : S) → acts.form i ≡ InvokeBy p (pick_of (acts.form i)) → None ≡ pick_of (acts.form i) (record { operands = a.operands.used; locals = a.locals.used; state = s }) → Moves acts flows.Run before s (flows.Close (Some Trap)) (record a { code = rest.now; operands = dropped a.operands }) s
  unpicked_moves p s e f =
      moves_by acts flows.Run (flows.Close (Some Trap)) before (record a { code = rest.now; operands = dropped a.operands }) s s (pending_at acts a) refl
      (λ top n. none_picked acts laws i rest.now (pending_at acts a) (conf_of acts a.operands a.locals s top) n p (pick_of (acts.form i)) e (sym f))
      (let m = small (InvokeBy p (pick_of (acts.form i))) e in omega arith)

module _ {I V S : Type 0} (acts : Acts I V S) (laws : Laws acts) where
  -- the end of code
  pub end_moves : (a : Place I V) (s : S) → [] ≡ a.code → Moves acts flows.Run a s (flows.Close None) a s
  end_moves a s e =
      let at : Place I V = record a { code = [] } in
      subst (λ x. let b : Place I V = record a { code = x } in Moves acts flows.Run b s (flows.Close None) b s) e
      (moves_by acts flows.Run (flows.Close None) at at s s (pending_at acts a) refl (λ top n. code_ends acts laws (pending_at acts a) (conf_of acts a.operands a.locals s top) n) (omega arith))

  -- a call by what the index names
  pub missing_moves : (a : Place I V) (s : S) (x : ℕ) → acts.callee x ≡ None → Moves acts (flows.Enter x) a s (flows.Close (Some Trap)) a s
  missing_moves a s x e =
      moves_by acts (flows.Enter x) (flows.Close (Some Trap)) a a s s (pending_at acts a) refl (λ top n. missing acts laws x (pending_at acts a) (conf_of acts a.operands a.locals s top) n a.code e) (omega arith)

  pub own_moves : (a : Place I V) (s : S) (x : ℕ) (body : Body I) → acts.callee x ≡ Some (Own (function_of (zeros_of (acts.callee x)) body)) → Moves acts (flows.Enter x) a s (flows.Open x body) a s
  own_moves a s x body e =
      moves_by acts (flows.Enter x) (flows.Open x body) a a s s (pending_at acts a) refl (λ top n. own acts laws x body (pending_at acts a) (conf_of acts a.operands a.locals s top) n a.code e) (omega arith)

  pub host_moves : (a : Place I V) (s s' : S) (x p : ℕ) (o' : Stack V) (j : Option Jump) → acts.callee x ≡ Some (Host p (host_of (acts.callee x))) → Hosted (host_of (acts.callee x)) (record a.operands { used = take p a.operands.used }) s o' s' j → Moves acts (flows.Enter x) a s (flows.Close j) (record a { operands = o'; locals = record a.locals { used = [] } }) s'
  host_moves a s s' x p o' j e h =
      moves_by acts (flows.Enter x) (flows.Close j) a (record a { operands = o'; locals = record a.locals { used = [] } }) s s' (pending_at acts a)
      (ap (λ y. opens acts a.frames y a.locals.aside) h.1)
      (λ top n. hosted acts laws x p (host_of (acts.callee x)) (pending_at acts a) (conf_of acts a.operands a.locals s top) n a.code j _ e h.0) (omega arith)
