-- Functions: if bodies are simulated by bodies, all functions are, by induction on turns.
use Rattle.std.proofs.Common.{ℕ, zero, suc, ◌+◌, ◌<◌, List, [], take, Option, Some, None, sym, arith}
use Rattle.evaluation_kit.specs.declared.jump.Jump.{Jump}
use Rattle.evaluation_kit.specs.declared.jump.Jump.TheVariants.{Branch, Return, TailCall, Trap, Stuck}
use Rattle.outcome_kit.specs.Outcome.{Done, turn}
use Rattle.outcome_kit.specs.Code.{Go, Leave}
use Rattle.evaluation_kit.specs.Configurations.{World, Conf, Plain, PlainRes, Res, Sem, plain_of, settled}
use Rattle.evaluation_kit.specs.Control.{Function, Callee, Own, Host, opened, ended, leave_body, hosted, enter, arrive}
use Rattle.evaluation_kit.specs.Languages.{Language, enter_with, func, exec_code}
use Rattle.evaluation_kit.proofs.Functions.{func-entered}
use Rattle.simulation_kit.specs.Runs.{Runs, IsFree}
use Rattle.simulation_kit.specs.Labels.{Outermost}
use Rattle.simulation_kit.specs.Matches.{Match, Context, Calls, Depths, Halts, Results, IsStuck, ends, PlainReturns, Returns, returns, FuncSims, Lawful, front}
use Rattle.simulation_kit.specs.Staying.{AllFuncsSim, TailBy, FunctionStays, HostStays, NothingStays, CalleeStays}
use Rattle.simulation_kit.proofs.Running.{runs_done, runs_alike, runs_bind, runs_turn}
use Rattle.simulation_kit.proofs.Depths.{calls_deeper, depths_deeper, depths_back}

module _ {V S V' S' : Type 0} (W : Match V S V' S') (laws : Lawful W) where
  stuck_body : (h : W.Kind) (d r i : ℕ) (tail : ℕ → ℕ → Conf V S → _) (y : Res V S) → IsStuck y W.strict → IsFree W.exact (Halts W) (returns W h d) (leave_body tail r y i)
  stuck_body h d r i tail (Leave Stuck c) f = f
  stuck_body h d r i tail (Leave j c) f = absurd f
  stuck_body h d r i tail (Go c) f = absurd f

  module _ {I I' : Type 0} (N : ℕ) (k h : W.Kind) (f : Function I V) (f' : Function I' V') (code : Sem V S) (code' : Sem V' S') (stays : FunctionStays W N k h f f' code code') (funcs : ℕ → Sem V S) (others : ℕ → Sem V' S') (fs : AllFuncsSim W N funcs others) where
    abbrev body : Context W
    body = record { place = stays.place; labels = Outermost h }

    gives : (d : ℕ) (c : Conf V S) (c' : Conf V' S') → Depths W (d + 1) c.world c'.world → W.Lands stays.place h (plain_of c) (plain_of c') → Returns W h d (ended f.results c) (ended f'.results c')
    gives d c c' depths lands = record {
      depths = depths_back W laws d c.world c'.world depths;
      plain = stays.gives (front f.results (plain_of c)) (front f'.results (plain_of c')) (laws.lands_at stays.place h f.results f'.results (plain_of c) (plain_of c') stays.width lands);
    }

    tail_runs : (d d' i g : ℕ) (j' : Jump) (c : Conf V S) (c' : Conf V' S') → i < N → Calls W d d' → Depths W (d + 1) c.world c'.world → TailBy W h g (plain_of c) j' (plain_of c') → Runs W.exact (Halts W) (returns W h d) i (funcs g d i c) (λ j. leave_body (λ g'. others g' d') f'.results (Leave j' c') j)
    tail_runs d d' i g (TailCall g') c c' lt calls depths t = (fs g g' t.0 h t.1).by d d' i c c' lt calls (depths_back W laws d c.world c'.world depths) t.2
    tail_runs d d' i g j' c c' lt calls depths t = absurd t

    body_left : (d d' : ℕ) → Calls W d d' → (y : Res V S) (y' : Res V' S') (i : ℕ) → i < N → Results W body h (d + 1) y y' → Runs W.exact (Halts W) (returns W h d) i (leave_body (λ g. funcs g d) f.results y i) (λ j. leave_body (λ g. others g d') f'.results y' j)
    body_left d d' calls (Go c) (Go c') i lt l =
        runs_done W.exact (Halts W) (returns W h d) i (ended f.results c) (ended f'.results c') (gives d c c' l.depths (laws.lands stays.place h (plain_of c) (plain_of c') l.plain))
    body_left d d' calls (Go c) (Leave j' c') i lt l = absurd l.plain
    body_left d d' calls (Leave j c) (Go c') i lt l = absurd l.plain
    body_left d d' calls (Leave (Branch q) c) (Leave (Branch q') c') i lt l = runs_done W.exact (Halts W) (returns W h d) i (ended f.results c) (ended f'.results c') (gives d c c' l.depths l.plain)
    body_left d d' calls (Leave (Branch q) c) (Leave j' c') i lt l = absurd l.plain
    body_left d d' calls (Leave Return c) (Leave Return c') i lt l = runs_done W.exact (Halts W) (returns W h d) i (ended f.results c) (ended f'.results c') (gives d c c' l.depths l.plain)
    body_left d d' calls (Leave Return c) (Leave j' c') i lt l = absurd l.plain
    body_left d d' calls (Leave (TailCall g) c) (Leave j' c') i lt l = tail_runs d d' i g j' c c' lt calls l.depths (stays.tails g j' (plain_of c) (plain_of c') l.plain)
    body_left d d' calls (Leave j c) (Leave (Branch q) c') i lt l =
        runs_done W.exact (Halts W) (returns W h d) i (Leave j c) (ended f'.results c')
        (record { depths = depths_back W laws d c.world c'.world l.depths; plain = (tt, stays.falls j (Branch q) (plain_of c) (plain_of c') tt l.plain) })
    body_left d d' calls (Leave j c) (Leave Return c') i lt l =
        runs_done W.exact (Halts W) (returns W h d) i (Leave j c) (ended f'.results c')
        (record { depths = depths_back W laws d c.world c'.world l.depths; plain = (tt, stays.falls j Return (plain_of c) (plain_of c') tt l.plain) })
    body_left d d' calls (Leave j c) (Leave (TailCall g) c') i lt l = absurd (stays.falls j (TailCall g) (plain_of c) (plain_of c') tt l.plain)
    body_left d d' calls (Leave j c) (Leave j' c') i lt l =
        runs_done W.exact (Halts W) (returns W h d) i (Leave j c) (Leave j' c')
        (record { depths = depths_back W laws d c.world c'.world l.depths; plain = (tt, stays.falls j j' (plain_of c) (plain_of c') tt l.plain) })

    -- a function that is entered
    enter_runs : (d d' i : ℕ) (c : Conf V S) (c' : Conf V' S') → i < N → Calls W d d' → Depths W d c.world c'.world → W.Takes k c.operands c.world.state c'.operands c'.world.state → Runs W.exact (Halts W) (returns W h d) i (enter code funcs f d i c) (λ j. enter code' others f' d' j c')
    enter_runs d d' i c c' lt calls depths takes =
        runs_bind W.exact (Halts W) (ends W body h (d + 1)) (returns W h d)
        (leave_body (λ g. funcs g d) f.results) (λ y j. leave_body (λ g. others g d') f'.results y j) i (code (d + 1) i (opened d f c)) (λ j. code' (d' + 1) j (opened d' f' c'))
        (stays.body.by (d + 1) (d' + 1) i (opened d f c) (opened d' f' c') lt (calls_deeper W laws d d' calls)
        (record { depths = depths_deeper W laws d d' c.world c'.world calls depths; plain = stays.opens c.operands c.world.state c'.operands c'.world.state takes }))
        (λ y q g. stuck_body h d f.results q (λ g'. funcs g' d) y g)
        (λ y y' q le l. let less : q < N = omega arith in body_left d d' calls y y' q less l)

    -- its entry takes a turn
    pub own_sims : FuncSims W (suc N) k h (λ d n c. turn n c.world (λ i. enter code funcs f d i c)) (λ d n c. turn n c.world (λ i. enter code' others f' d i c))
    own_sims = record {
      by = λ d d' n c c' lt calls depths takes.
          runs_turn W.exact (Halts W) (returns W h d) n c.world c'.world (λ i. enter code funcs f d i c) (λ j. enter code' others f' d' j c')
          (record { state = laws.takes_end k c.operands c.world.state c'.operands c'.world.state takes; bound = depths.bound })
          (λ i l. let less : i < N = omega arith in enter_runs d d' i c c' less calls depths takes);
    }

  returns_settled : (h : W.Kind) (d : ℕ) (w : World S) (w' : World S') (r : PlainRes V S) (r' : PlainRes V' S') → Depths W d w w' → PlainReturns W h r r' → Returns W h d (settled w r) (settled w' r')
  returns_settled h d w w' (Go p) (Go p') depths g = record { depths = record { reached = depths.reached; bound = depths.bound }; plain = g }
  returns_settled h d w w' (Go p) (Leave j' p') depths g = absurd g
  returns_settled h d w w' (Leave j p) (Go p') depths g = record { depths = record { reached = depths.reached; bound = depths.bound }; plain = g }
  returns_settled h d w w' (Leave j p) (Leave j' p') depths g = record { depths = record { reached = depths.reached; bound = depths.bound }; plain = g }

  -- a function of the host takes no turn
  pub host_sims : (N : ℕ) (k h : W.Kind) (p p' : ℕ) (act : Plain V S → PlainRes V S) (act' : Plain V' S' → PlainRes V' S') → HostStays W k h p p' act act' → FuncSims W N k h (hosted p act) (hosted p' act')
  host_sims N k h p p' act act' stays = record {
    by = λ d d' n c c' lt calls depths takes.
        let seen : Plain V S = record { operands = take p c.operands; locals = []; state = c.world.state } in
        let seen' : Plain V' S' = record { operands = take p' c'.operands; locals = []; state = c'.world.state } in
        runs_done W.exact (Halts W) (returns W h d) n (settled c.world (act seen)) (settled c'.world (act' seen'))
        (returns_settled h d c.world c'.world (act seen) (act' seen') depths (stays.acts c.operands c.world.state c'.operands c'.world.state takes));
  }

  nothing_sims : (N : ℕ) (k h : W.Kind) → NothingStays W k h → FuncSims W N k h (λ d n c. Done 0 (Leave Trap c)) (λ d n c. Done 0 (Leave Trap c))
  nothing_sims N k h stays = record {
    by = λ d d' n c c' lt calls depths takes.
        runs_done W.exact (Halts W) (returns W h d) n (Leave Trap c) (Leave Trap c') (record { depths = depths; plain = (tt, stays.traps (plain_of c) (plain_of c') takes) });
  }

  arrives : {I I' : Type 0} (N : ℕ) (k h : W.Kind) (o : Option (Callee I V S)) (o' : Option (Callee I' V' S')) (code : List I → Sem V S) (code' : List I' → Sem V' S') (funcs : ℕ → Sem V S) (others : ℕ → Sem V' S') → AllFuncsSim W N funcs others → CalleeStays W N k h code code' o o' → FuncSims W (suc N) k h (arrive o (λ f d n c. turn n c.world (λ i. enter (code f.body) funcs f d i c))) (arrive o' (λ f d n c. turn n c.world (λ i. enter (code' f.body) others f d i c)))
  arrives N k h None None code code' funcs others fs stays = nothing_sims (suc N) k h stays
  arrives N k h None (Some o') code code' funcs others fs stays = absurd stays
  arrives N k h (Some (Own f)) None code code' funcs others fs stays = absurd stays
  arrives N k h (Some (Host p act)) None code code' funcs others fs stays = absurd stays
  arrives N k h (Some (Own f)) (Some (Own f')) code code' funcs others fs stays = own_sims N k h f f' (code f.body) (code' f'.body) stays funcs others fs
  arrives N k h (Some (Own f)) (Some (Host p' act')) code code' funcs others fs stays = absurd stays
  arrives N k h (Some (Host p act)) (Some (Own f')) code code' funcs others fs stays = absurd stays
  arrives N k h (Some (Host p act)) (Some (Host p' act')) code code' funcs others fs stays = host_sims (suc N) k h p p' act act' stays

  module _ {I I' : Type 0} {F F' : Type 0 → Type 0} (L : Language I F V S) (L' : Language I' F' V' S') where
    -- a function, one turn further on
    pub entry_sims : (N : ℕ) (f f' : ℕ) (k h : W.Kind) → AllFuncsSim W N (func L) (func L') → CalleeStays W N k h (exec_code L) (exec_code L') (L.callee f) (L'.callee f') → FuncSims W (suc N) k h (func L f) (func L' f')
    entry_sims N f f' k h fs stays = record {
      by = λ d d' n c c' lt calls depths takes.
          runs_alike W.exact (Halts W) (returns W h d) n (enter_with L (func L) f d n c) (func L f d n c) (λ j. enter_with L' (func L') f' d' j c') (λ j. func L' f' d' j c')
          (sym (func-entered L f d n c)) (λ j. sym (func-entered L' f' d' j c'))
          ((arrives N k h (L.callee f) (L'.callee f') (exec_code L) (exec_code L') (func L) (func L') fs stays).by d d' n c c' lt calls depths takes);
    }

    none_sim : AllFuncsSim W 0 (func L) (func L')
    none_sim f f' k h names = record { by = λ d d' n c c' lt calls depths takes. let no : ⊥ = omega arith in absurd no }

    -- all functions, where each step of turns leads to the next
    pub all_sim : ((N : ℕ) → AllFuncsSim W N (func L) (func L') → (f f' : ℕ) (k h : W.Kind) → W.Names f f' k h → FuncSims W (suc N) k h (func L f) (func L' f')) → (N : ℕ) → AllFuncsSim W N (func L) (func L')
    all_sim step zero = none_sim
    all_sim step (suc N) = step N (all_sim step N)

    -- all functions, where bodies are simulated by bodies
    pub functions_sim : ((N : ℕ) → AllFuncsSim W N (func L) (func L') → (f f' : ℕ) (k h : W.Kind) → W.Names f f' k h → CalleeStays W N k h (exec_code L) (exec_code L') (L.callee f) (L'.callee f')) → (N : ℕ) → AllFuncsSim W N (func L) (func L')
    functions_sim stays = all_sim (λ N fs f f' k h names. entry_sims N f f' k h fs (stays N fs f f' k h names))
