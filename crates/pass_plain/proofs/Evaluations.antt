-- What code does is read off it, instruction by instruction: as a function of where it begins.
use mathlib.Core.Path.{fun_ext}
use Rattle.std.proofs.Common.{◌≡◌, ℕ, true, List, [], ◌∷◌, map, Option, refl, sym, ap, ◌∙◌}
use Rattle.wasm_ast.specs.declared.module.code.Instr.{Instr, roll-Instr}
use Rattle.wasm_ast.specs.declared.module.code.Instr.TheOpen.{Instr-F}
use Rattle.wasm_ast.specs.declared.module.code.Instr.TheFolds.{map-Instr, fold-roll-Instr}
use Rattle.wasm_ast.specs.declared.module.code.Body.{Body}
use Rattle.wasm_ast.specs.declared.module.parts.Export.{Export}
use Rattle.wasm_ast.specs.declared.module.parts.Module.{Module}
use Rattle.typed_trees.specs.Trees.{with_bodies}
use Rattle.outcome_kit.specs.Outcome.{Out, Done, bind}
use Rattle.outcome_kit.specs.Code.{Res, Go, Leave, go_on, run}
use Rattle.outcome_kit.proofs.Outcomes.{bind-done, bind-unit, bind-bind, bind-same}
use Rattle.evaluation_kit.specs.declared.jump.Jump.{Jump}
use Rattle.evaluation_kit.specs.Configurations.{World, Conf, Sem}
use Rattle.evaluation_kit.specs.Control.{block, loop, choose, guard, when_ready}
use Rattle.evaluation_kit.specs.Languages.{exec_layer, exec_with, code_with}
use Rattle.meaning_new.specs.declared.val.Val.{Val}
use Rattle.meaning_new.specs.Store.{State}
use Rattle.meaning_new.specs.Exceptions.{handler}
use Rattle.meaning_new.specs.Forms.{holds, takes, gives}
use Rattle.meaning_new.specs.Language.{language}
use Rattle.pass_plain.proofs.Readings.{Reading, read}

-- a part, and then the rest
abbrev pub then_run : Sem Val State → Sem Val State → Sem Val State
then_run a rest d n c = bind n (a d n c) (go_on (rest d))

pub ends_there : (d : ℕ) (r : Res Jump (Conf Val State)) (m : ℕ) → go_on {H = World State} (run [] d) r m ≡ Done 0 r
ends_there d (Go c) m = refl
ends_there d (Leave jump c) m = refl

pub goes_on : (k l : ℕ → Conf Val State → Out (World State) (Res Jump (Conf Val State))) (r : Res Jump (Conf Val State)) (m : ℕ) → bind m (go_on k r m) (go_on l) ≡ go_on (λ i c. bind i (k i c) (go_on l)) r m
goes_on k l (Go c) m = refl
goes_on k l (Leave jump c) m = bind-done m (Leave jump c) (go_on l)

-- code as a function
abbrev pub functions : Reading (Sem Val State)
functions = record {
  none = run [];
  both = then_run;
  none_first = λ a. fun_ext (λ d. fun_ext (λ n. fun_ext (λ c. bind-done n (Go c) (go_on (a d)))));
  none_last = λ a. fun_ext (λ d. fun_ext (λ n. fun_ext (λ c. bind-same n (a d n c) (go_on (run [] d)) (λ r m. Done 0 r) (ends_there d) ∙ bind-unit n (a d n c))));
  grouped = λ a b rest. fun_ext (λ d. fun_ext (λ n. fun_ext (λ c.
      bind-bind n (a d n c) (go_on (b d)) (go_on (rest d))
      ∙ bind-same n (a d n c) (λ r m. bind m (go_on (b d) r m) (go_on (rest d))) (go_on (then_run b rest d)) (goes_on (b d) (rest d)))));
}

pub read_run : (one : Instr → Sem Val State) (code : List Instr) → read functions one code ≡ run (map one code)
read_run one [] = refl
read_run one (i ∷ code) = ap (then_run (one i)) (read_run one code)

-- a module with other bodies, exports and count of data segments
abbrev pub changed : Module → List Body → List Export → Option ℕ → Module
changed m codes exports count = record m { codes = codes; exports = exports; data_count = count }

module _ (m : Module) (codes : List Body) (exports : List Export) (count : Option ℕ) (funcs : ℕ → Sem Val State) where
  abbrev pub old : Instr → Sem Val State
  old i = exec_with (language m) funcs i

  abbrev pub new : Instr → Sem Val State
  new i = exec_with (language (changed m codes exports count)) funcs i

  kept_layer : (l : Instr-F Instr) (a b a' b' : List Instr) → run (map old a) ≡ run (map new a') → run (map old b) ≡ run (map new b')
      → exec_layer (language m) funcs (map-Instr Instr (Sem Val State) old (with_bodies l a b)) ≡ exec_layer (language (changed m codes exports count)) funcs (map-Instr Instr (Sem Val State) new (with_bodies l a' b'))
  kept_layer (Instr-F.Block t code) a b a' b' e e' = ap (λ x. when_ready (λ p. true) (block (takes m t) (gives m t) x)) e
  kept_layer (Instr-F.Loop t code) a b a' b' e e' = ap (λ x. when_ready (λ p. true) (loop (takes m t) (gives m t) x)) e
  kept_layer (Instr-F.If t code code') a b a' b' e e' =
      ap (λ x. when_ready (λ p. true) (choose holds (takes m t) (gives m t) x (run (map old b)))) e
      ∙ ap (λ x. when_ready (λ p. true) (choose holds (takes m t) (gives m t) (run (map new a')) x)) e'
  kept_layer (Instr-F.TryTable t clauses code) a b a' b' e e' = ap (λ x. when_ready (λ p. true) (guard (takes m t) (gives m t) (handler clauses) x)) e
  kept_layer l a b a' b' e e' = refl

  -- an instruction of the module, and the same with bodies of the other module that do what its bodies do
  pub kept_alike : (l : Instr-F Instr) (a b a' b' : List Instr) → read functions old a ≡ read functions new a' → read functions old b ≡ read functions new b' → old (roll-Instr (with_bodies l a b)) ≡ new (roll-Instr (with_bodies l a' b'))
  kept_alike l a b a' b' e e' =
      fold-roll-Instr (Sem Val State) (exec_layer (language m) funcs) (with_bodies l a b)
      ∙ kept_layer l a b a' b' (sym (read_run old a) ∙ e ∙ read_run new a') (sym (read_run old b) ∙ e' ∙ read_run new b')
      ∙ sym (fold-roll-Instr (Sem Val State) (exec_layer (language (changed m codes exports count)) funcs) (with_bodies l a' b'))

  -- code that reads alike does alike
  pub runs_alike : (code code' : List Instr) → read functions old code ≡ read functions new code' → code_with (language m) funcs code ≡ code_with (language (changed m codes exports count)) funcs code'
  runs_alike code code' e = sym (read_run old code) ∙ e ∙ read_run new code'
