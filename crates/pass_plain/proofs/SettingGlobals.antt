-- The code that gives globals their initial values.
use Rattle.std.proofs.Common.{◌≡◌, ℕ, ◌+◌, ◌<◌, true, List, [], ◌∷◌, ◌++◌, length, Option, Some, None, refl, sym, ap, ◌∙◌, subst, append-nil}
use Rattle.std.specs.Prelude.{set}
use Rattle.std.specs.List.{AllByRecursion}
use Rattle.std.proofs.lemmas.List.{append_assoc}
use Rattle.host_kit.specs.Pairwise.{Pairwise}
use Rattle.num_core.specs.declared.operators.Bin.TheVariants.{Add, Sub, Mul}
use Rattle.wasm_ast.specs.Fold.{known_at, fold_of, of_type, with_own}
use Rattle.wasm_ast.specs.declared.folding.folded.Folded.{Folded}
use Rattle.wasm_ast.specs.declared.module.code.Instr.{Instr, out-Instr, roll-Instr, roll-out-Instr}
use Rattle.wasm_ast.specs.declared.module.code.Instr.TheOpen.{Instr-F}
use Rattle.wasm_ast.specs.declared.module.code.Instr.TheVariants.{GlobalSet}
use Rattle.wasm_ast.specs.declared.module.op.Op.{Op}
use Rattle.wasm_ast.specs.declared.module.op.Op.TheVariants as ops
use Rattle.wasm_ast.specs.declared.module.parts.Global.{Global}
use Rattle.wasm_ast.specs.declared.module.parts.Module.{Module}
use Rattle.outcome_kit.specs.Outcome.{Done, bind}
use Rattle.outcome_kit.specs.Code.{Go, go_on}
use Rattle.outcome_kit.proofs.Outcomes.{bind-done}
use Rattle.evaluation_kit.specs.Configurations.{World, Conf, Sem}
use Rattle.evaluation_kit.specs.Languages.{Language, exec, exec_code}
use Rattle.evaluation_kit.specs.Leaves.{top, below}
use Rattle.simulation_kit.proofs.Rewriting.{exec-rolled}
use Rattle.meaning_new.specs.declared.val.Val.{Val}
use Rattle.meaning_new.specs.Store.{State, missing}
use Rattle.meaning_new.specs.Instances.{constant_step, constant_steps, constant, with_globals}
use Rattle.meaning_new.specs.Language.{language}
use Rattle.typed_trees.specs.Constants.{is_constant_op}
use Rattle.stage_kit.specs.Appended.{added_values}
use Rattle.stage_kit.specs.Prepared.{state_with}
use Rattle.stage_kit.proofs.Appending.{index_append}
use Rattle.pass_plain.specs.Constants.{Tells, CodeInRange, Reads, IsSettable, LeavesOne, AreSettable}
use Rattle.pass_plain.specs.Folding.{folded_global, folded_globals, set_global, set_globals}
use Rattle.pass_plain.proofs.FoldedGlobals.{rolled_set, pairs_append, pairs_count, set_middle, one_longer, known_here, own_tells, folded_constant}

-- a configuration with other operands, and with other globals
abbrev with_operands : List Val → Conf Val State → Conf Val State
with_operands operands c = record c { operands = operands }

abbrev globals_of : Conf Val State → List Val
globals_of c = c.world.state.store.globals

abbrev with_globals_of : List Val → Conf Val State → Conf Val State
with_globals_of globals c = record c { world = record c.world { state = state_with globals c.world.state } }

module _ (o : Module) where
  abbrev L : Language Instr Instr-F Val State
  L = language o

  -- one instruction of a constant expression
  op_runs : (op : Op) → is_constant_op op ≡ true → (d n : ℕ) (c : Conf Val State) → exec L (roll-Instr (Instr-F.Pure op)) d n c ≡ Done 0 (Go (with_operands (constant_step (globals_of c) (Instr-F.Pure op) c.operands) c))
  op_runs (ops.I32Const i) h d n c = ap (λ (a : Sem Val State). a d n c) (sym (exec-rolled L (Instr-F.Pure (ops.I32Const i))))
  op_runs (ops.I64Const i) h d n c = ap (λ (a : Sem Val State). a d n c) (sym (exec-rolled L (Instr-F.Pure (ops.I64Const i))))
  op_runs (ops.V128Const v) h d n c = ap (λ (a : Sem Val State). a d n c) (sym (exec-rolled L (Instr-F.Pure (ops.V128Const v))))
  op_runs (ops.RefNull t) h d n c = ap (λ (a : Sem Val State). a d n c) (sym (exec-rolled L (Instr-F.Pure (ops.RefNull t))))
  op_runs (ops.RefFunc x) h d n c = ap (λ (a : Sem Val State). a d n c) (sym (exec-rolled L (Instr-F.Pure (ops.RefFunc x))))
  op_runs (ops.Binary w Add) h d n c = ap (λ (a : Sem Val State). a d n c) (sym (exec-rolled L (Instr-F.Pure (ops.Binary w Add))))
  op_runs (ops.Binary w Sub) h d n c = ap (λ (a : Sem Val State). a d n c) (sym (exec-rolled L (Instr-F.Pure (ops.Binary w Sub))))
  op_runs (ops.Binary w Mul) h d n c = ap (λ (a : Sem Val State). a d n c) (sym (exec-rolled L (Instr-F.Pure (ops.Binary w Mul))))
  op_runs (ops.Binary w op) h d n c = let no : ⊥ = cc in absurd no
  op_runs op h d n c = let no : ⊥ = cc in absurd no

  layer_runs : (x : ℕ) (l : Instr-F Instr) → Reads x l → (d n : ℕ) (c : Conf Val State) → exec L (roll-Instr l) d n c ≡ Done 0 (Go (with_operands (constant_step (globals_of c) l c.operands) c))
  layer_runs x (Instr-F.Pure op) h d n c = op_runs op h d n c
  layer_runs x (Instr-F.GlobalGet y) h d n c = ap (λ (a : Sem Val State). a d n c) (sym (exec-rolled L (Instr-F.GlobalGet y)))
  layer_runs x l h d n c = absurd h

  instr_runs : (x : ℕ) (i : Instr) → Reads x (out-Instr i) → (d n : ℕ) (c : Conf Val State) → exec L i d n c ≡ Done 0 (Go (with_operands (constant_step (globals_of c) (out-Instr i) c.operands) c))
  instr_runs x i h d n c = ap (λ j. exec L j d n c) (sym (roll-out-Instr i)) ∙ layer_runs x (out-Instr i) h d n c

  -- a constant expression, before other code
  expression_runs : (x : ℕ) (code rest : List Instr) → IsSettable x code → (d n : ℕ) (c : Conf Val State) → exec_code L (code ++ rest) d n c ≡ exec_code L rest d n (with_operands (constant_steps (globals_of c) code c.operands) c)
  expression_runs x [] rest h d n c = refl
  expression_runs x (i ∷ code) rest h d n c =
      let next : Conf Val State = with_operands (constant_step (globals_of c) (out-Instr i) c.operands) c in
      ap (λ r. bind n r (go_on (exec_code L (code ++ rest) d))) (instr_runs x i h.0 d n c)
      ∙ bind-done n (Go next) (go_on (exec_code L (code ++ rest) d))
      ∙ expression_runs x code rest h.1 d n next

  -- and the global that it sets
  set_runs : (x : ℕ) (rest : List Instr) (d n : ℕ) (c : Conf Val State) → exec_code L (GlobalSet x ∷ rest) d n c ≡ exec_code L rest d n (with_globals_of (set (globals_of c) x (top missing c.operands)) (with_operands (below c.operands) c))
  set_runs x rest d n c =
      let next : Conf Val State = with_globals_of (set (globals_of c) x (top missing c.operands)) (with_operands (below c.operands) c) in
      ap (λ i. bind n (exec L i d n c) (go_on (exec_code L rest d))) (sym (rolled_set x))
      ∙ ap (λ (a : Sem Val State). bind n (a d n c) (go_on (exec_code L rest d))) (sym (exec-rolled L (Instr-F.GlobalSet x)))
      ∙ bind-done n (Go next) (go_on (exec_code L rest d))

-- a constant expression reads no globals behind
step_same : (x : ℕ) (before more : List Val) (l : Instr-F Instr) (operands : List Val) → x ≡ length before → Reads x l → constant_step (before ++ more) l operands ≡ constant_step before l operands
step_same x before more (Instr-F.Pure op) operands e h = refl
step_same x before more (Instr-F.GlobalGet y) operands e h = ap (λ v. v ∷ operands) (index_append missing before more y (subst (λ n. y < n) e h))
step_same x before more l operands e h = absurd h

steps_same : (x : ℕ) (before more : List Val) (code : List Instr) (operands : List Val) → x ≡ length before → IsSettable x code → constant_steps (before ++ more) code operands ≡ constant_steps before code operands
steps_same x before more [] operands e h = refl
steps_same x before more (i ∷ code) operands e h =
    ap (constant_steps (before ++ more) code) (step_same x before more (out-Instr i) operands e h.0) ∙ steps_same x before more code (constant_step before (out-Instr i) operands) e h.1

module _ (o : Module) (imports : List Val) (all : List (Option Folded)) where
  abbrev T : Option Folded → Val → Type 0
  T = Tells imports

  -- where nothing else lies on the operands, and there are no locals
  abbrev at_globals : List Val → World State → Conf Val State
  at_globals globals w = record { operands = []; locals = []; world = record w { state = state_with globals w.state } }

  -- one global
  module _ (before rest tail : List Val) (g : Global) (x : ℕ) (more code : List Instr) (d n : ℕ) (w : World State) where
    abbrev u : Val
    u = constant before g.init

    abbrev new : Option Folded → Val
    new k = constant (imports ++ rest) (folded_global g k).init

    one_set : (k : Option Folded) → x ≡ length before → IsSettable x g.init → LeavesOne g.init → T k u
        → exec_code (language o) ((set_global x g.init k ++ more) ++ code) d n (at_globals (before ++ new k ∷ tail) w) ≡ exec_code (language o) (more ++ code) d n (at_globals ((before ++ u ∷ []) ++ tail) w)
    one_set (Some v) e h leaves t =
        ap (λ l. exec_code (language o) (more ++ code) d n (at_globals l w))
        (ap (λ i. before ++ i ∷ tail) (folded_constant imports rest v t.0 ∙ sym t.1) ∙ sym (append_assoc before (u ∷ []) tail))
    one_set None e h leaves t =
        let globals = before ++ new None ∷ tail in
        ap (λ l. exec_code (language o) l d n (at_globals globals w))
        (append_assoc (g.init ++ GlobalSet x ∷ []) more code ∙ append_assoc g.init (GlobalSet x ∷ []) (more ++ code))
        ∙ expression_runs o x g.init (GlobalSet x ∷ (more ++ code)) h d n (at_globals globals w)
        ∙ set_runs o x (more ++ code) d n (with_operands (constant_steps globals g.init []) (at_globals globals w))
        ∙ ap (λ l. exec_code (language o) (more ++ code) d n (with_operands l (at_globals (set globals x (constant globals g.init)) w))) (leaves globals)
        ∙ ap (λ v. exec_code (language o) (more ++ code) d n (at_globals (set globals x v) w)) (ap (top missing) (steps_same x before (new None ∷ tail) g.init [] e h))
        ∙ ap (λ i. exec_code (language o) (more ++ code) d n (at_globals (set globals i u) w)) e
        ∙ ap (λ l. exec_code (language o) (more ++ code) d n (at_globals l w)) (set_middle before tail u (new None))

  -- All of them: from where the output begins to where the input does.
  pub sets_run : (known : List (Option Folded)) (before rest : List Val) (gs : List Global) (x : ℕ) → with_own known gs ≡ all → x ≡ length known → AllByRecursion (λ g. CodeInRange g.init) gs → AreSettable x gs → Pairwise T known before → (code : List Instr) (d n : ℕ) (w : World State)
      → exec_code (language o) (set_globals all x gs ++ code) d n (at_globals (before ++ added_values (folded_globals all x gs) (imports ++ rest)) w) ≡ exec_code (language o) code d n (at_globals (with_globals gs before) w)
  sets_run known before rest [] x e c r h t code d n w = ap (λ l. exec_code (language o) code d n (at_globals l w)) (append-nil before)
  sets_run known before rest (g ∷ gs) x e c r h t code d n w =
      let k = of_type g.ty (fold_of known g.init) in
      let u = constant before g.init in
      let v = constant (imports ++ rest) (folded_global g (known_at all x)).init in
      let own : T k u = own_tells imports known before g r.0 t in
      let here : known_at all x ≡ k = ap (known_at all) c ∙ known_here known all g gs e in
      one_set before rest (added_values (folded_globals all (x + 1) gs) ((imports ++ rest) ++ v ∷ [])) g x (set_globals all (x + 1) gs) code d n w (known_at all x) (c ∙ pairs_count T known before t) h.0 h.1 (subst (λ i. T i u) (sym here) own)
      ∙ ap (λ l. exec_code (language o) (set_globals all (x + 1) gs ++ code) d n (at_globals ((before ++ u ∷ []) ++ added_values (folded_globals all (x + 1) gs) l) w)) (append_assoc imports rest (v ∷ []))
      ∙ sets_run (known ++ k ∷ []) (before ++ u ∷ []) (rest ++ v ∷ []) gs (x + 1) e (ap (λ i. i + 1) c ∙ sym (one_longer known k)) r.1 h.2 (pairs_append T known before k u t own) code d n w

-- code that is there
no_code : (a b : List Instr) (i : Instr) → ((a ++ i ∷ []) ++ b) ≡ [] → ⊥
no_code [] b i e = cc
no_code (j ∷ a) b i e = cc

module _ (imports : List Val) (all : List (Option Folded)) where
  -- where there is no such code, the output begins as the input does
  one_kept : (before rest : List Val) (g : Global) (x : ℕ) (more : List Instr) (k : Option Folded) → Tells imports k (constant before g.init) → (set_global x g.init k ++ more) ≡ [] → (constant (imports ++ rest) (folded_global g k).init ≡ constant before g.init) × (more ≡ [])
  one_kept before rest g x more (Some v) t e = (folded_constant imports rest v t.0 ∙ sym t.1, e)
  one_kept before rest g x more None t e = absurd (no_code g.init more (GlobalSet x) e)

  pub none_set : (known : List (Option Folded)) (before rest : List Val) (gs : List Global) (x : ℕ) → with_own known gs ≡ all → x ≡ length known → AllByRecursion (λ g. CodeInRange g.init) gs → Pairwise (Tells imports) known before → set_globals all x gs ≡ [] → before ++ added_values (folded_globals all x gs) (imports ++ rest) ≡ with_globals gs before
  none_set known before rest [] x e c r t none = append-nil before
  none_set known before rest (g ∷ gs) x e c r t none =
      let k = of_type g.ty (fold_of known g.init) in
      let u = constant before g.init in
      let v = constant (imports ++ rest) (folded_global g (known_at all x)).init in
      let own : Tells imports k u = own_tells imports known before g r.0 t in
      let here : known_at all x ≡ k = ap (known_at all) c ∙ known_here known all g gs e in
      let kept = one_kept before rest g x (set_globals all (x + 1) gs) (known_at all x) (subst (λ i. Tells imports i u) (sym here) own) none in
      ap (λ i. before ++ i ∷ added_values (folded_globals all (x + 1) gs) ((imports ++ rest) ++ v ∷ [])) kept.0
      ∙ sym (append_assoc before (u ∷ []) (added_values (folded_globals all (x + 1) gs) ((imports ++ rest) ++ v ∷ [])))
      ∙ ap (λ l. (before ++ u ∷ []) ++ added_values (folded_globals all (x + 1) gs) l) (append_assoc imports rest (v ∷ []))
      ∙ none_set (known ++ k ∷ []) (before ++ u ∷ []) (rest ++ v ∷ []) gs (x + 1) e (ap (λ i. i + 1) c ∙ sym (one_longer known k)) r.1 (pairs_append (Tells imports) known before k u t own) kept.1
