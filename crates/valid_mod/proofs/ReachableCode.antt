-- Code without what cannot be reached does what the code does: nothing runs behind an instruction that leaves.
use mathlib.Core.Path.{fun_ext}
use Rattle.std.proofs.Common.{◌≡◌, ℕ, Bool, true, false, List, [], ◌∷◌, map, Option, Some, None, refl, sym, ap, ◌∙◌, subst}
use Rattle.wasm_ast.specs.declared.module.code.Instr.{Instr, out-Instr}
use Rattle.wasm_ast.specs.declared.module.code.Instr.TheOpen.{Instr-F}
use Rattle.wasm_ast.specs.declared.module.code.Instr.TheFolds.{map-Instr, fold_out-Instr, fold-roll-Instr}
use Rattle.wasm_ast.specs.declared.module.code.Body.{Body}
use Rattle.wasm_ast.specs.declared.module.parts.Module.{Module}
use Rattle.outcome_kit.specs.Outcome.{Done, bind}
use Rattle.outcome_kit.specs.Code.{go_on, run}
use Rattle.evaluation_kit.specs.Configurations.{World, Conf, Plain, Sem, plain_of, settled}
use Rattle.evaluation_kit.specs.Control.{block, loop, choose, guard, when_ready}
use Rattle.evaluation_kit.specs.Languages.{exec_layer, exec_with}
use Rattle.evaluation_kit.specs.Leaves.{top, below}
use Rattle.typed_trees.specs.Trees.{first_body, second_body, with_bodies, leaves_layer, leaves, unless_left, cut, cut_bodies, reachable, reachable_code}
use Rattle.meaning_new.specs.declared.val.Val.{Val}
use Rattle.meaning_new.specs.declared.val.Val.TheVariants as vals
use Rattle.meaning_new.specs.Store.{State, missing}
use Rattle.meaning_new.specs.Exceptions.{thrown, handler}
use Rattle.meaning_new.specs.Forms.{holds, takes, gives, pick, tail_call}
use Rattle.meaning_new.specs.Language.{over_twice, induct, language}

-- a part, and then the rest
abbrev then_run : Sem Val State → Sem Val State → Sem Val State
then_run a rest d n c = bind n (a d n c) (go_on (rest d))

abbrev is_true : Bool → Type 0
is_true true = Unit {0}
is_true false = ⊥

clash : false ≡ true → ⊥
clash h = subst (λ b. is_true (elim b as (λ x. Bool) [ true ↦ false | false ↦ true ])) h tt

-- what leaves, whatever follows
tail_left : (o : Option ℕ) (p : Plain Val State) (w : World State) (rest : Sem Val State) (d n : ℕ) → bind n (Done 0 (settled w (tail_call o p))) (go_on (rest d)) ≡ bind n (Done 0 (settled w (tail_call o p))) (go_on (run [] d))
tail_left None p w rest d n = refl
tail_left (Some f) p w rest d n = refl

throw_left : (v : Val) (p : Plain Val State) (w : World State) (rest : Sem Val State) (d n : ℕ) → bind n (Done 0 (settled w (thrown v p))) (go_on (rest d)) ≡ bind n (Done 0 (settled w (thrown v p))) (go_on (run [] d))
throw_left (vals.Exn e) p w rest d n = refl
throw_left v p w rest d n = refl

leaves_over : {X Y : Type 0} (f : X → Y) (l : Instr-F X) → leaves_layer (map-Instr X Y f l) ≡ leaves_layer l
leaves_over f Instr-F.Nop = refl
leaves_over f l = refl

module _ (m : Module) (codes : List Body) (funcs : ℕ → Sem Val State) where
  -- the same module with other bodies: its instructions do the same
  abbrev other : Module
  other = record m { codes = codes }

  abbrev old : Instr → Sem Val State
  old i = exec_with (language m) funcs i

  abbrev new : Instr → Sem Val State
  new i = exec_with (language other) funcs i

  left_layer : (l : Instr-F (Sem Val State)) → leaves_layer l ≡ true → (rest : Sem Val State) (d n : ℕ) (c : Conf Val State) → then_run (exec_layer (language other) funcs l) rest d n c ≡ then_run (exec_layer (language other) funcs l) (run []) d n c
  left_layer Instr-F.Unreachable h rest d n c = refl
  left_layer (Instr-F.Br x) h rest d n c = refl
  left_layer (Instr-F.BrTable xs last) h rest d n c = refl
  left_layer Instr-F.Return h rest d n c = refl
  left_layer (Instr-F.ReturnCall x) h rest d n c = refl
  left_layer (Instr-F.ReturnCallIndirect t table) h rest d n c =
      tail_left (pick other t table (plain_of c)) (record (plain_of c) { operands = below c.operands }) c.world rest d n
  left_layer (Instr-F.Throw x) h rest d n c = refl
  left_layer Instr-F.ThrowRef h rest d n c = throw_left (top missing c.operands) (record (plain_of c) { operands = below c.operands }) c.world rest d n
  left_layer _ h rest d n c = absurd (clash h)

  left : (i : Instr) → leaves i ≡ true → (rest : Sem Val State) → then_run (new i) rest ≡ then_run (new i) (run [])
  left i h rest =
      let l : Instr-F (Sem Val State) = map-Instr Instr (Sem Val State) new (out-Instr i) in
      let by : new i ≡ exec_layer (language other) funcs l = fold_out-Instr (Sem Val State) (exec_layer (language other) funcs) i in
      ap (λ a. then_run a rest) by
      ∙ fun_ext (λ d. fun_ext (λ n. fun_ext (λ c. left_layer l (leaves_over new (out-Instr i) ∙ h) rest d n c)))
      ∙ ap (λ a. then_run a (run [])) (sym by)

  behind : (i : Instr) (b : Bool) → leaves i ≡ b → (rest : List Instr) → then_run (new i) (run (map new rest)) ≡ then_run (new i) (run (map new (unless_left b rest)))
  behind i true h rest = left i h (run (map new rest))
  behind i false h rest = refl

  abbrev Alike : Instr → Type 0
  Alike i = old i ≡ new (reachable i)

  code_alike : (xs : List ((i : Instr) × Alike i)) → run (map (λ x. old x.0) xs) ≡ run (map new (cut (map (λ x. reachable x.0) xs)))
  code_alike [] = refl
  code_alike (x ∷ xs) =
      ap (λ a. then_run a (run (map (λ y. old y.0) xs))) x.1
      ∙ ap (then_run (new (reachable x.0))) (code_alike xs)
      ∙ behind (reachable x.0) (leaves (reachable x.0)) refl (cut (map (λ y. reachable y.0) xs))

  abbrev reached : Instr-F ((i : Instr) × Alike i) → Instr-F Instr
  reached l = map-Instr ((i : Instr) × Alike i) Instr (λ x. reachable x.0) l

  abbrev cut_layer : Instr-F Instr → Instr-F Instr
  cut_layer l = with_bodies l (cut (first_body l)) (cut (second_body l))

  layers_alike : (l : Instr-F ((i : Instr) × Alike i)) → exec_layer (language m) funcs (map-Instr ((i : Instr) × Alike i) (Sem Val State) (λ x. old x.0) l) ≡ exec_layer (language other) funcs (map-Instr Instr (Sem Val State) new (cut_layer (reached l)))
  layers_alike (Instr-F.Block t xs) = ap (λ a. when_ready (λ p. true) (block (takes m t) (gives m t) a)) (code_alike xs)
  layers_alike (Instr-F.Loop t xs) = ap (λ a. when_ready (λ p. true) (loop (takes m t) (gives m t) a)) (code_alike xs)
  layers_alike (Instr-F.If t xs ys) =
      ap (λ a. when_ready (λ p. true) (choose holds (takes m t) (gives m t) a (run (map (λ x. old x.0) ys)))) (code_alike xs)
      ∙ ap (λ a. when_ready (λ p. true) (choose holds (takes m t) (gives m t) (run (map new (cut (map (λ x. reachable x.0) xs)))) a)) (code_alike ys)
  layers_alike (Instr-F.TryTable t clauses xs) = ap (λ a. when_ready (λ p. true) (guard (takes m t) (gives m t) (handler clauses) a)) (code_alike xs)
  layers_alike l = refl

  instr_alike : (i : Instr) → Alike i
  instr_alike = induct Alike (λ l.
      let inner : Instr-F Instr = map-Instr ((i : Instr) × Alike i) Instr (λ x. x.0) l in
      fold-roll-Instr (Sem Val State) (exec_layer (language m) funcs) inner
      ∙ ap (exec_layer (language m) funcs) (over_twice ((i : Instr) × Alike i) Instr (Sem Val State) (λ x. x.0) old l)
      ∙ layers_alike l
      ∙ sym (fold-roll-Instr (Sem Val State) (exec_layer (language other) funcs) (cut_layer (reached l)))
      ∙ ap (λ r. new (cut_bodies r)) (sym (over_twice ((i : Instr) × Alike i) Instr Instr (λ x. x.0) reachable l))
      ∙ ap new (sym (fold-roll-Instr Instr cut_bodies inner)))

  -- code of the module, and the same without what cannot be reached in the other module
  pub code_reached : (code : List Instr) → run (map old code) ≡ run (map new (reachable_code code))
  code_reached [] = refl
  code_reached (i ∷ code) =
      ap (λ a. then_run a (run (map old code))) (instr_alike i)
      ∙ ap (then_run (new (reachable i))) (code_reached code)
      ∙ behind (reachable i) (leaves (reachable i)) refl (cut (map reachable code))
