-- The small stage keeps the law: what is shown is the same, and at most one call more is open.
use Rattle.std.proofs.Common.{◌≡◌, ℕ, ◌+◌, Bool, false, List, [], ◌∷◌, ◌++◌, take, drop, length, reverse, refl, sym, ap, ◌∙◌, subst, le_refl}
use Rattle.std.specs.Prelude.{set, slice_index_or}
use Rattle.host_kit.specs.Fits.{ScriptFits}
use Rattle.host_kit.specs.Offered.{func_type}
use Rattle.host_kit.specs.declared.event.Event.{Event}
use Rattle.host_kit.specs.declared.script.Script.{Script}
use Rattle.wasm_ast.specs.declared.module.code.Instr.{Instr, roll-Instr}
use Rattle.wasm_ast.specs.declared.module.code.Instr.TheOpen.{Instr-F}
use Rattle.wasm_ast.specs.declared.module.code.Instr.TheFolds.{map-Instr}
use Rattle.wasm_ast.specs.declared.module.op.Op.TheVariants as ops
use Rattle.wasm_ast.specs.declared.module.parts.Global.{Global}
use Rattle.wasm_ast.specs.declared.module.parts.Module.{Module}
use Rattle.outcome_kit.specs.Outcome.{Done}
use Rattle.outcome_kit.specs.Code.{Go}
use Rattle.evaluation_kit.specs.Configurations.{World, Conf, Plain, PlainRes, plain_of, settled, deeper}
use Rattle.evaluation_kit.specs.Control as control
use Rattle.evaluation_kit.specs.Control.{Function, entered, opened}
use Rattle.evaluation_kit.specs.Languages.{Language, func, exec_code}
use Rattle.evaluation_kit.specs.Leaves
use Rattle.evaluation_kit.specs.Leaves.{on_operands, top, below}
use Rattle.simulation_kit.specs.Doing.{ComesTo, AreLeaves}
use Rattle.simulation_kit.specs.Likenesses.{matching}
use Rattle.simulation_kit.specs.Matches.{Match, Context, Sims, Halts, ends}
use Rattle.simulation_kit.specs.Rewriting.{layer_sem, stepped}
use Rattle.simulation_kit.specs.Runs.{Runs}
use Rattle.simulation_kit.specs.Staying.{AllFuncsSim}
use Rattle.simulation_kit.proofs.Depths.{depths_spare}
use Rattle.simulation_kit.proofs.Doing.{comes_func, comes_call, leaves-run, runs_does}
use Rattle.simulation_kit.proofs.Leaves.{leaves-code}
use Rattle.simulation_kit.proofs.LikeCode.{sees_place, Alike, Body, OwesLayers}
use Rattle.simulation_kit.proofs.Liking.{lawful}
use Rattle.simulation_kit.proofs.Rewriting.{code_one}
use Rattle.meaning_new.specs.declared.val.Val.{Val}
use Rattle.meaning_new.specs.Store.{State, missing, truth, on_store}
use Rattle.meaning_new.specs.Numeric.{is_null, pure}
use Rattle.meaning_new.specs.Tables.{global_get, global_set}
use Rattle.meaning_new.specs.Forms.{param_count}
use Rattle.meaning_new.specs.Instances.{all_values, constant}
use Rattle.meaning_new.specs.Language.{language}
use Rattle.pass_law.specs.Hosts.{HostTypes}
use Rattle.pass_law.specs.Law.{Law}
use Rattle.pass_law.specs.Needs.{Needs}
use Rattle.pass_law.specs.Plain.{plain}
use Rattle.stage_kit.specs.Adding.{Adding, CodeNamed, more, Behind, added}
use Rattle.stage_kit.specs.Appended.{names_of, added_values}
use Rattle.stage_kit.specs.Naming.{ValNamed}
use Rattle.stage_kit.specs.Staged.{Staged, Lowered}
use Rattle.stage_kit.proofs.Lists.{all_below}
use Rattle.stage_kit.proofs.Staying.{stays_named}
use Rattle.stage_kit.proofs.Beginning.{staged}
use Rattle.stage_kit.proofs.Staged.{staged_law}
use Rattle.stage_kit_tests.specs.NullTests.{asking, helper_function, step, OneMore, more_calls, adds, Lowers}

-- the last of several globals
set_last : (l : List Val) (v t : Val) → set (l ++ v ∷ []) (length l) t ≡ l ++ t ∷ []
set_last [] v t = refl
set_last (a ∷ l) v t = ap (λ r. a ∷ r) (set_last l v t)

index_last : (l : List Val) (t : Val) → slice_index_or (l ++ t ∷ []) (length l) missing ≡ t
index_last [] t = refl
index_last (a ∷ l) t = index_last l t

-- the local of the new function, and the operands that are left
taken : (l : List Val) → slice_index_or (reverse (take 1 (take 1 l)) ++ []) 0 missing ≡ top missing l
taken [] = refl
taken (v ∷ l) = refl

drop-below : (l : List Val) → drop 1 l ≡ below l
drop-below [] = refl
drop-below (v ∷ l) = refl

-- the state with another value in a global
abbrev keeping : ℕ → Val → State → State
keeping x v s = record s { store = record s.store { globals = set s.store.globals x v } }

module _ {m o : Module} (globals helper : ℕ) (h : Lowers m o globals helper) where
  abbrev A : Adding m o
  A = adds h.appended globals

  abbrev L : Language Instr Instr-F Val State
  L = language m

  abbrev L' : Language Instr Instr-F Val State
  L' = language o

  abbrev W : Match Val State Val State
  W = matching (added A)

  abbrev acts : List (Plain Val State → PlainRes Val State)
  acts = Leaves.get_local missing 0 ∷ (on_operands (pure ops.RefIsNull) ∷ (on_store (global_set globals) ∷ (on_store (global_get globals) ∷ [])))

  are : AreLeaves L' (asking globals) acts
  are = (refl, λ q. refl, (refl, λ q. refl, (refl, λ q. refl, (refl, λ q. refl, tt))))

  -- what the new function answers, and the world that it leaves
  abbrev answer : List Val → Val
  answer operands = truth (is_null (slice_index_or (reverse (take 1 (take 1 operands)) ++ []) 0 missing))

  abbrev left : ℕ → List Val → World State → World State
  left d operands w = record (deeper d w) { state = keeping globals (answer operands) w.state }

  abbrev given : List Val → State → Val
  given operands s = slice_index_or (set s.store.globals globals (answer operands)) globals missing

  answers : (d : ℕ) (c : Conf Val State) → ComesTo (control.call 1 (func L' helper)) d c (Go (record { operands = given c.operands c.world.state ∷ drop 1 c.operands; locals = c.locals; world = left d c.operands c.world }))
  answers d c =
      let c0 = opened d (helper_function globals) (entered 1 c) in
      comes_call 1 (func L' helper) d c (Go (record { operands = given c.operands c.world.state ∷ []; locals = c0.locals; world = left d c.operands c.world }))
      (comes_func L' helper (helper_function globals) d (entered 1 c) (Go (record { operands = given c.operands c.world.state ∷ []; locals = c0.locals; world = left d c.operands c.world })) (Go (record { operands = given c.operands c.world.state ∷ []; locals = c0.locals; world = left d c.operands c.world })) h.helper_body
      (record { cost = 0; does = λ k. leaves-code L' (asking globals) acts are (d + 1) (0 + k) c0 ∙ leaves-run acts (d + 1) (0 + k) c0 })
      (λ j. refl))

  -- the global behind has the answer
  kept : (s s' : State) (t : Val) → length s.store.globals ≡ globals → Behind A s s' → keeping globals t s' ≡ more (t ∷ []) s
  kept s s' t count b =
      ap (keeping globals t) b.is_more
      ∙ ap (λ (l : List Val). keeping globals t (more l s)) b.is_extra.1
      ∙ ap (λ (x : ℕ). keeping x t (more (b.is_extra.0 ∷ []) s)) (sym count)
      ∙ ap (λ (l : List Val). record s { store = record s.store { globals = l } }) (set_last s.store.globals b.is_extra.0 t)

  read : (s s' : State) (t : Val) → length s.store.globals ≡ globals → Behind A s s' → slice_index_or (set s'.store.globals globals t) globals missing ≡ t
  read s s' t count b =
      ap (λ (u : State). slice_index_or u.store.globals globals missing) (kept s s' t count b)
      ∙ ap (λ (x : ℕ). slice_index_or (s.store.globals ++ t ∷ []) x missing) (sym count)
      ∙ index_last s.store.globals t

  asks : (N : ℕ) (x : Context W) (k j : Unit {0}) → Sims W N x k j (control.leaf (on_operands (pure ops.RefIsNull))) (control.call (param_count (func_type o helper)) (func L' helper))
  asks N x k j = record {
    by = λ d d' n c c' lt calls same.
        let count = same.plain.safe.store.count in
        let spare = depths_spare W (lawful (added A)) d d' c.world c'.world (le_refl 1) calls same.depths in
        let t = answer c'.operands in
        let is_answer : t ≡ truth (is_null (top missing c.operands)) = ap (λ v. truth (is_null v)) (taken c'.operands ∙ ap (top missing) same.plain.operands) in
        subst (λ p. Runs false (Halts W) (ends W x j d) n (Done 0 (settled c.world (on_operands (pure ops.RefIsNull) (plain_of c)))) (λ i. control.call p (func L' helper) d' i c')) (sym h.helper_params)
        (runs_does (Halts W) (ends W x j d) n (settled c.world (on_operands (pure ops.RefIsNull) (plain_of c))) (Go (record { operands = given c'.operands c'.world.state ∷ drop 1 c'.operands; locals = c'.locals; world = left d' c'.operands c'.world })) (λ i. control.call 1 (func L' helper) d' i c')
        (answers d' c')
        (record {
          depths = record { reached = spare.reached; bound = spare.bound };
          plain = record {
            operands =
                ap (λ v. v ∷ drop 1 c'.operands) (read c.world.state c'.world.state t count same.plain.state ∙ is_answer)
                ∙ ap (λ l. truth (is_null (top missing c.operands)) ∷ l) (drop-below c'.operands ∙ ap below same.plain.operands);
            locals = same.plain.locals;
            state = record { extra = t ∷ []; is_extra = (t, refl); is_more = kept c.world.state c'.world.state t count same.plain.state };
            sound_operands = (tt, all_below (ValNamed (names_of m globals) globals) c.operands same.plain.sound_operands);
            sound_locals = same.plain.sound_locals;
            safe = same.plain.safe;
          };
        }));
  }

  abbrev Known : Instr → Type 0
  Known = CodeNamed m (names_of m globals)

  abbrev seen : Unit {0} → Unit {0}
  seen p = tt

  -- the one layer
  layer_of : (N : ℕ) → AllFuncsSim W N (func L) (func L') → (l : Instr-F (Body (added A) L L' (step helper) seen Known N)) (x : Context W) (k j : Unit {0}) → Alike (added A) L L' (step helper) seen Known (roll-Instr (map-Instr _ Instr (λ y. y.0) l)) x k j →
      Sims W N x k j (layer_sem W L L' (step helper) (sees_place (added A) L L' (step helper) seen Known) (Alike (added A) L L' (step helper) seen Known) N l)
      (exec_code L' (stepped W L L' (step helper) (sees_place (added A) L L' (step helper) seen Known) (Alike (added A) L L' (step helper) seen Known) N l tt))
  layer_of N fs (Instr-F.Pure ops.RefIsNull) x k j claim = code_one W L L' N x k j _ (Instr-F.Call helper) (asks N x k j)
  layer_of N fs l x k j claim = stays_named A (step helper) seen N fs l x k j claim tt tt

  layers : OwesLayers (added A) L L' (step helper) seen Known
  layers N fs = record { layers = layer_of N fs }

  one_more : (s : Script) → ScriptFits m s → OneMore (added_values h.alike.more_globals (all_values m s))
  one_more s fit = subst (λ (l : List Global). OneMore (added_values l (all_values m s))) (sym h.one_global) (constant (all_values m s) h.global.init, refl)

  pub stage : Staged A (step helper) seen Known
  stage = staged h.appended h.alike globals h.named false more_calls (Unit {0}) (λ p q. Unit {0}) OneMore (step helper) seen h.exports one_more layers h.code

  -- The theorem: the lowered module keeps the law, with one call more.
  pub small_law : (takes : Needs → Bool) (leaves : Needs → Needs) (test : HostTypes → Script → Event → Bool) → Lowered A leaves test → (captures : ℕ) → Law (plain takes leaves test 1 more_calls) m o captures
  small_law takes leaves test low captures = staged_law A (step helper) seen Known stage takes leaves test low captures
