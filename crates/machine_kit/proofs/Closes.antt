-- A step of a machine at the end of the code inside a form, or at a jump out of it.
use Rattle.std.proofs.Common.{◌≡◌, ℕ, zero, suc, List, ◌∷◌, take, drop, reverse, Option, Some, None, refl, sym, ap, ◌∙◌, arith}
use Rattle.std.specs.Borrow.{Bor}
use Rattle.evaluation_kit.specs.declared.jump.Jump.{Jump}
use Rattle.evaluation_kit.specs.declared.jump.Jump.TheVariants.{Branch, Return, Throw, TailCall}
use Rattle.evaluation_kit.specs.Configurations.{Conf}
use Rattle.evaluation_kit.specs.Control.{taken}
use Rattle.machine_kit.specs.declared.frame.Frame.{Frame}
use Rattle.machine_kit.specs.declared.frame.Frame.TheVariants as frames
use Rattle.machine_kit.specs.declared.frame.Flow.TheVariants as flows
use Rattle.machine_kit.specs.Acts.{Acts, handler_of}
use Rattle.machine_kit.specs.Stacks.{Stack}
use Rattle.machine_kit.specs.Heads.{Handled}
use Rattle.machine_kit.specs.Exits.{thrown}
use Rattle.machine_kit.specs.Closings.{forgotten, block_place, block_flow, loop_place, loop_flow, body_place, body_flow, call_place, call_flow, caught_flow}
use Rattle.machine_kit.specs.Pending.{Pending, InLoop}
use Rattle.machine_kit.specs.Machines.{Place, opens, left, conf_of, pending_at, Moves}
use Rattle.machine_kit.proofs.Closing.{block_done, block_left, loop_done, loop_again, loop_left, guard_done, guard_left, body_done, body_tail, body_left, call_done, call_left}
use Rattle.machine_kit.proofs.Moves.{moves_by}

module _ {I V S : Type 0} (acts : Acts I V S) (a : Place I V) where
  -- the machine inside a frame
  abbrev pub inside : Frame I → Place I V
  inside f = record a { frames = f ∷ a.frames }

  -- what is open around a form whose operands are set aside
  abbrev around : ℕ → List (Pending I V S)
  around n = opens acts a.frames (drop n a.operands.aside) a.locals.aside

  abbrev here : S → ℕ → Conf V S
  here s top = conf_of acts a.operands a.locals s top

  pub block_closes : (j : Option Jump) (r n : ℕ) (rest : Bor (List I)) (s : S) → Moves acts (flows.Close j) (inside (frames.Block r n rest)) s (block_flow j) (block_place r n rest.now j a) s
  block_closes None r n rest s =
      moves_by acts (flows.Close None) flows.Run (inside (frames.Block r n rest)) (block_place r n rest.now None a) s s (around n) refl
      (λ top m. block_done acts (around n) (here s top) m r (take n a.operands.aside) a.code rest.now None refl) (omega arith)
  block_closes (Some (Branch zero)) r n rest s =
      moves_by acts (flows.Close (Some (Branch zero))) flows.Run (inside (frames.Block r n rest)) (block_place r n rest.now (Some (Branch zero)) a) s s (around n) refl
      (λ top m. block_done acts (around n) (here s top) m r (take n a.operands.aside) a.code rest.now (Some (Branch zero)) refl) (omega arith)
  block_closes (Some (Branch (suc i))) r n rest s =
      moves_by acts (flows.Close (Some (Branch (suc i)))) (flows.Close (Some (Branch i))) (inside (frames.Block r n rest)) (block_place r n rest.now (Some (Branch (suc i))) a) s s (around n) refl
      (λ top m. block_left acts (around n) (here s top) m r (take n a.operands.aside) a.code rest.now (Branch (suc i)) (Branch i) refl) (omega arith)
  block_closes (Some j) r n rest s =
      moves_by acts (flows.Close (Some j)) (flows.Close (Some j)) (inside (frames.Block r n rest)) (block_place r n rest.now (Some j) a) s s (around n) refl
      (λ top m. block_left acts (around n) (here s top) m r (take n a.operands.aside) a.code rest.now j j refl) (omega arith)

  pub loop_closes : (j : Option Jump) (p r n : ℕ) (body rest : Bor (List I)) (s : S) → Moves acts (flows.Close j) (inside (frames.Loop p r n body rest)) s (loop_flow j) (loop_place p r n body rest j a) s
  loop_closes None p r n body rest s =
      moves_by acts (flows.Close None) flows.Run (inside (frames.Loop p r n body rest)) (loop_place p r n body rest None a) s s (around n) refl
      (λ top m. loop_done acts (around n) (here s top) m p r (take n a.operands.aside) a.code body.now rest.now) (omega arith)
  loop_closes (Some (Branch zero)) p r n body rest s =
      moves_by acts (flows.Close (Some (Branch zero))) flows.Again (inside (frames.Loop p r n body rest)) (loop_place p r n body rest (Some (Branch zero)) a) s s (InLoop p r (take n a.operands.aside) body.now rest.now ∷ around n) refl
      (λ top m. loop_again acts (around n) (here s top) m p r (take n a.operands.aside) a.code body.now rest.now) (omega arith)
  loop_closes (Some (Branch (suc i))) p r n body rest s =
      moves_by acts (flows.Close (Some (Branch (suc i)))) (flows.Close (Some (Branch i))) (inside (frames.Loop p r n body rest)) (loop_place p r n body rest (Some (Branch (suc i))) a) s s (around n) refl
      (λ top m. loop_left acts (around n) (here s top) m p r (take n a.operands.aside) a.code body.now rest.now (Branch (suc i)) (Branch i) refl) (omega arith)
  loop_closes (Some j) p r n body rest s =
      moves_by acts (flows.Close (Some j)) (flows.Close (Some j)) (inside (frames.Loop p r n body rest)) (loop_place p r n body rest (Some j) a) s s (around n) refl
      (λ top m. loop_left acts (around n) (here s top) m p r (take n a.operands.aside) a.code body.now rest.now j j refl) (omega arith)

  pub body_closes : (j : Option Jump) (r : ℕ) (s : S) → Moves acts (flows.Close j) (inside (frames.Body r)) s (body_flow j) (body_place r j a) s
  body_closes None r s =
      moves_by acts (flows.Close None) (flows.Close None) (inside (frames.Body r)) (body_place r None a) s s (pending_at acts a) refl
      (λ top m. body_done acts (pending_at acts a) (here s top) m r a.code None refl) (omega arith)
  body_closes (Some (Branch i)) r s =
      moves_by acts (flows.Close (Some (Branch i))) (flows.Close None) (inside (frames.Body r)) (body_place r (Some (Branch i)) a) s s (pending_at acts a) refl
      (λ top m. body_done acts (pending_at acts a) (here s top) m r a.code (Some (Branch i)) refl) (omega arith)
  body_closes (Some Return) r s =
      moves_by acts (flows.Close (Some Return)) (flows.Close None) (inside (frames.Body r)) (body_place r (Some Return) a) s s (pending_at acts a) refl
      (λ top m. body_done acts (pending_at acts a) (here s top) m r a.code (Some Return) refl) (omega arith)
  body_closes (Some (TailCall x)) r s =
      moves_by acts (flows.Close (Some (TailCall x))) (flows.Enter x) (inside (frames.Body r)) (body_place r (Some (TailCall x)) a) s s (pending_at acts a) refl
      (λ top m. body_tail acts (pending_at acts a) (here s top) m r x a.code) (omega arith)
  body_closes (Some j) r s =
      moves_by acts (flows.Close (Some j)) (flows.Close (Some j)) (inside (frames.Body r)) (body_place r (Some j) a) s s (pending_at acts a) refl
      (λ top m. body_left acts (pending_at acts a) (here s top) m r a.code j refl) (omega arith)

  -- what is open around a call
  abbrev around_call : ℕ → ℕ → List (Pending I V S)
  around_call own n = opens acts a.frames (drop n a.operands.aside) (drop own a.locals.aside)

  pub call_closes : (j : Option Jump) (own n : ℕ) (rest : Bor (List I)) (s : S) → Moves acts (flows.Close j) (inside (frames.Call own n rest)) s (call_flow j) (call_place own n rest.now j a) s
  call_closes None own n rest s =
      moves_by acts (flows.Close None) flows.Run (inside (frames.Call own n rest)) (call_place own n rest.now None a) s s (around_call own n) refl
      (λ top m. call_done acts (around_call own n) (here s top) m (reverse (take own a.locals.aside)) (take n a.operands.aside) a.code rest.now) (omega arith)
  call_closes (Some j) own n rest s =
      moves_by acts (flows.Close (Some j)) (flows.Close (Some j)) (inside (frames.Call own n rest)) (call_place own n rest.now (Some j) a) s s (around_call own n) refl
      (λ top m. call_left acts (around_call own n) (here s top) m (reverse (take own a.locals.aside)) (take n a.operands.aside) a.code rest.now j) (omega arith)

  -- code with a handler ends as a block does where no exception is thrown
  pub guard_ends : (r n : ℕ) (instr : Bor I) (rest : Bor (List I)) (s : S) → Moves acts (flows.Close None) (inside (frames.Guard r n instr rest)) s (block_flow None) (block_place r n rest.now None a) s
  guard_ends r n instr rest s =
      moves_by acts (flows.Close None) flows.Run (inside (frames.Guard r n instr rest)) (block_place r n rest.now None a) s s (around n) refl
      (λ top m. guard_done acts (around n) (here s top) m r (handler_of (acts.form instr.now)) (take n a.operands.aside) a.code rest.now None refl) (omega arith)

  pub guard_closes : (j : Jump) (r n : ℕ) (instr : Bor I) (rest : Bor (List I)) (s : S) → None ≡ thrown j → Moves acts (flows.Close (Some j)) (inside (frames.Guard r n instr rest)) s (block_flow (Some j)) (block_place r n rest.now (Some j) a) s
  guard_closes (Branch zero) r n instr rest s e =
      moves_by acts (flows.Close (Some (Branch zero))) flows.Run (inside (frames.Guard r n instr rest)) (block_place r n rest.now (Some (Branch zero)) a) s s (around n) refl
      (λ top m. guard_done acts (around n) (here s top) m r (handler_of (acts.form instr.now)) (take n a.operands.aside) a.code rest.now (Some (Branch zero)) refl) (omega arith)
  guard_closes (Branch (suc i)) r n instr rest s e =
      moves_by acts (flows.Close (Some (Branch (suc i)))) (flows.Close (Some (Branch i))) (inside (frames.Guard r n instr rest)) (block_place r n rest.now (Some (Branch (suc i))) a) s s (around n) refl
      (λ top m. guard_left acts (around n) (here s top) (here s top) m r (handler_of (acts.form instr.now)) (take n a.operands.aside) a.code rest.now (Branch (suc i)) (Branch i) refl) (omega arith)
  guard_closes (Throw x) r n instr rest s e = let no : ⊥ = cc in absurd no
  guard_closes j r n instr rest s e =
      moves_by acts (flows.Close (Some j)) (flows.Close (Some j)) (inside (frames.Guard r n instr rest)) (block_place r n rest.now (Some j) a) s s (around n) refl
      (λ top m. guard_left acts (around n) (here s top) (here s top) m r (handler_of (acts.form instr.now)) (take n a.operands.aside) a.code rest.now j j refl) (omega arith)

  -- a handler is asked about an exception
  pub guard_asks : (x r n : ℕ) (instr : Bor I) (rest : Bor (List I)) (o' : Stack V) (s s' : S) (caught : Option Jump) → Handled (handler_of (acts.form instr.now)) x (forgotten n a.operands) s o' s' caught → Moves acts (flows.Close (Some (Throw x))) (inside (frames.Guard r n instr rest)) s (caught_flow caught (Throw x)) (record a { operands = o' }) s'
  guard_asks x r n instr rest o' s s' None h =
      moves_by acts (flows.Close (Some (Throw x))) (flows.Close (Some (Throw x))) (inside (frames.Guard r n instr rest)) (record a { operands = o' }) s s' (around n)
      (ap (λ (o : Stack V). opens acts a.frames o.aside a.locals.aside) h.1)
      (λ top m. guard_left acts (around n) (here s top) (here s top) m r (handler_of (acts.form instr.now)) (take n a.operands.aside) a.code rest.now (Throw x) (Throw x) (ap (λ k. taken x k (here s top)) h.0)
      ∙ ap (λ (o : Stack V). left acts (flows.Close (Some (Throw x))) a.code (around n) (conf_of acts o a.locals s top) m) (sym h.1)
      ∙ ap (λ t. left acts (flows.Close (Some (Throw x))) a.code (around n) (conf_of acts o' a.locals t top) m) (sym h.2)) (omega arith)
  guard_asks x r n instr rest o' s s' (Some j) h =
      moves_by acts (flows.Close (Some (Throw x))) (flows.Close (Some j)) (inside (frames.Guard r n instr rest)) (record a { operands = o' }) s s' (around n)
      (ap (λ y. opens acts a.frames y a.locals.aside) h.1)
      (λ top m. guard_left acts (around n) (here s top) (conf_of acts o' a.locals s' top) m r (handler_of (acts.form instr.now)) (take n a.operands.aside) a.code rest.now (Throw x) j (ap (λ k. taken x k (here s top)) h.0)) (omega arith)
