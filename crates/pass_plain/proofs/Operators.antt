-- Rewritings that put instructions on operands in place of some such instructions and keep all else. What one owes is said
-- of one instruction; then rewritten code does what the code does, shows what it shows, and is typed.
use Rattle.std.proofs.Common.{◌≡◌, ℕ, Bool, true, false, ◌||◌, List, [], ◌∷◌, map, Option, Some, refl, sym, ap, ◌∙◌, subst}
use Rattle.std.specs.List.{list_any, AllByRecursion}
use Rattle.wasm_ast.specs.declared.module.ty.Ty.{Ty}
use Rattle.wasm_ast.specs.declared.module.op.Op.{Op}
use Rattle.wasm_ast.specs.declared.module.op.Op.TheVariants as ops
use Rattle.wasm_ast.specs.declared.module.code.Instr.{Instr, out-Instr, roll-Instr}
use Rattle.wasm_ast.specs.declared.module.code.Instr.TheOpen.{Instr-F}
use Rattle.wasm_ast.specs.declared.module.code.Instr.TheFolds.{fold-roll-Instr}
use Rattle.wasm_ast.specs.declared.module.code.Instr.TheVariants.{Pure}
use Rattle.wasm_ast.specs.declared.module.code.Body.{Body}
use Rattle.wasm_ast.specs.declared.module.parts.Export.{Export}
use Rattle.wasm_ast.specs.declared.module.parts.Module.{Module}
use Rattle.wasm_ast.specs.Kept.{called, called_step}
use Rattle.wasm_ast.specs.Occurrence.{Head, head, some, some_in, some_step}
use Rattle.typing_kit.specs.Form.{Flat}
use Rattle.typed_trees.specs.declared.module.TypedFn.{TypedFn}
use Rattle.typed_trees.specs.declared.node.Node.{Node}
use Rattle.typed_trees.specs.Contexts.{Context}
use Rattle.typed_trees.specs.Forms.{layer_form, op_form}
use Rattle.typed_trees.specs.Trees.{with_bodies, erase, erased, leaves_layer, TypedNodes}
use Rattle.outcome_kit.specs.Code.{run}
use Rattle.evaluation_kit.specs.Configurations.{Sem}
use Rattle.evaluation_kit.specs.Control.{leaf}
use Rattle.evaluation_kit.specs.Leaves.{on_operands}
use Rattle.evaluation_kit.specs.Languages.{exec_layer}
use Rattle.meaning_new.specs.declared.val.Val.{Val}
use Rattle.meaning_new.specs.Store.{State}
use Rattle.meaning_new.specs.Numeric.{pure}
use Rattle.meaning_new.specs.Language.{language}
use Rattle.rewriting_kit.specs.Rewrites.{Layer, node_of, rewritten}
use Rattle.rewriting_kit.specs.Fitting.{Here, Fits, after}
use Rattle.rewriting_kit.specs.Lines.{written, Operator, operators, OperatorLine}
use Rattle.rewriting_kit.specs.Plainly.{OwesPlainly}
use Rattle.rewriting_kit.proofs.Lines.{out_pure, operators_typed}
use Rattle.rewriting_kit.proofs.Staying.{put_together}
use Rattle.rewriting_kit.proofs.Plain.{plainly_typed}
use Rattle.pass_plain.specs.Bodies.{no_entry}
use Rattle.pass_plain.proofs.Evaluations.{then_run, functions, changed, old, new, kept_alike}
use Rattle.pass_plain.proofs.Keeping.{Keeps, new_bodies}
use Rattle.pass_plain.proofs.Occurrences.{Blind, Overlooks, tests, names, read_any, seen_alike, called_alike}
use Rattle.pass_plain.proofs.Parts.{all_map}
use Rattle.pass_plain.proofs.Readings.{Reading, read, read_made, OwesAlike}
use Rattle.rewriting_kit.proofs.Showing.{never, blind_never, never_in, unless_true, ShowsLess, OwesShowsLess, code_shows, kept_shows}
use Rattle.pass_plain.proofs.Trees.{erase_made}

-- integer arithmetic, which no test sees that overlooks it
abbrev pub is_arithmetic : Op → Bool
is_arithmetic (ops.I32Const i) = true
is_arithmetic (ops.I64Const i) = true
is_arithmetic (ops.Binary w op) = true
is_arithmetic (ops.Convert op) = true
is_arithmetic _ = false

overlooked : (p : Head → Bool) → Overlooks p → (op : Op) → is_arithmetic op ≡ true → p (Instr-F.Pure op) ≡ false
overlooked p o (ops.I32Const i) h = o.narrow i
overlooked p o (ops.I64Const i) h = o.wide i
overlooked p o (ops.Binary w op) h = o.binary w op
overlooked p o (ops.Convert op) h = o.convert op
overlooked p o op h = absurd cc

-- what an instruction on operands does, and what a line of them does
abbrev pub does : Op → Sem Val State
does op = leaf (on_operands (pure op))

abbrev pub line_does : List Operator → Sem Val State
line_does line = run (map (λ o. does o.op) line)

-- Instructions that may take the place of one: they do the same, all are arithmetic, and they are typed as it is.
pub record InPlace (op : Op) (line : List Operator) : Type 0 where
  pub runs : does op ≡ line_does line
  pub plain : is_arithmetic op ≡ true
  pub plain_line : AllByRecursion (λ o. is_arithmetic o.op ≡ true) line
  pub takes : List Ty
  pub gives : List Ty
  pub form : (c : Context) → op_form c op ≡ Flat takes gives
  pub typed : (c : Context) → OperatorLine c line takes gives

-- What becomes of an instruction that otherwise stays as these nodes; of what is gone, nothing is left.
pub data Becomes (gone : Head → Bool) : Instr-F Instr → List Node → List Node → Type 0 where
  stays : (l : Instr-F Instr) (kept : List Node) → gone (head l) ≡ false → Becomes gone l kept kept
  replaced : (op : Op) (line : List Operator) (kept : List Node) → InPlace op line → AllByRecursion (λ o. gone (Instr-F.Pure o.op) ≡ false) line → Becomes gone (Instr-F.Pure op) kept (written (operators line))

abbrev pub replacing : (Instr-F Instr → List Node → List Node) → Layer (Unit {0})
replacing become x head takes gives first second = become (out-Instr head) (node_of head takes gives first second ∷ [])

-- the code that a written instruction on operands stands for
pub erase_pure : (op : Op) (takes gives : List Ty) → erase (node_of (Pure op) takes gives [] []) ≡ roll-Instr (Instr-F.Pure op)
erase_pure op takes gives = erase_made (Pure op) takes gives [] [] ∙ ap (λ l. roll-Instr (with_bodies l [] [])) (out_pure op)

-- what is read off a line
module _ {X : Type 0} (R : Reading X) (one : Instr → X) where
  pub line_none : (line : List Operator) → AllByRecursion (λ o. one (roll-Instr (Instr-F.Pure o.op)) ≡ R.none) line → read R one (erased (written (operators line))) ≡ R.none
  line_none [] h = refl
  line_none (o ∷ line) h =
      ap (λ x. R.both x (read R one (erased (written (operators line))))) (ap one (erase_pure o.op o.takes o.gives) ∙ h.0)
      ∙ R.none_first (read R one (erased (written (operators line)))) ∙ line_none line h.1

line_runs : (one : Instr → Sem Val State) → ((op : Op) → one (roll-Instr (Instr-F.Pure op)) ≡ does op) → (line : List Operator) → read functions one (erased (written (operators line))) ≡ line_does line
line_runs one h [] = refl
line_runs one h (o ∷ line) =
    ap (λ x. then_run x (read functions one (erased (written (operators line))))) (ap one (erase_pure o.op o.takes o.gives) ∙ h o.op)
    ∙ ap (then_run (does o.op)) (line_runs one h line)

-- a test of one instruction on operands
some_pure : (p : Head → Bool) (op : Op) → p (Instr-F.Pure op) ≡ false → some p (roll-Instr (Instr-F.Pure op)) ≡ false
some_pure p op e = fold-roll-Instr Bool (some_step p) (Instr-F.Pure op) ∙ ap (λ b. b || false) e

called_pure : (op : Op) → called (roll-Instr (Instr-F.Pure op)) ≡ []
called_pure op = fold-roll-Instr (List ℕ) called_step (Instr-F.Pure op)

module _ (gone : Head → Bool) (become : Instr-F Instr → List Node → List Node) (is : (l : Instr-F Instr) (kept : List Node) → Becomes gone l kept (become l kept)) where
  abbrev layer : Layer (Unit {0})
  layer = replacing become

  -- what is the same of an instruction and of what may take its place is the same of rewritten code
  module _ {X : Type 0} (R : Reading X) (old new : Instr → X) (same : (op : Op) (line : List Operator) → InPlace op line → old (roll-Instr (Instr-F.Pure op)) ≡ read R new (erased (written (operators line)))) where
    one_alike : (l : Instr-F Instr) (a b : List Instr) (kept out : List Node) → Becomes gone l kept out → old (roll-Instr (with_bodies l a b)) ≡ read R new (erased kept) → old (roll-Instr (with_bodies l a b)) ≡ read R new (erased out)
    one_alike _ a b _ _ (stays l kept u) e = e
    one_alike _ a b _ _ (replaced op line kept h u) e = same op line h

    alike : ((l : Instr-F Instr) (a b a' b' : List Instr) → read R old a ≡ read R new a' → read R old b ≡ read R new b' → old (roll-Instr (with_bodies l a b)) ≡ new (roll-Instr (with_bodies l a' b'))) → OwesAlike R old new no_entry layer
    alike kept = record {
      alike = λ x head takes gives a b first second e e'.
          (let node : List Node = node_of head takes gives first second ∷ [] in
          one_alike (out-Instr head) a b node (become (out-Instr head) node) (is (out-Instr head) node)
          (kept (out-Instr head) a b (erased first) (erased second) e e' ∙ sym (read_made R new head takes gives first second)));
    }

  runs : (m : Module) (codes : List Body) (exports : List Export) (count : Option ℕ) (funcs : ℕ → Sem Val State) → OwesAlike functions (old m codes exports count funcs) (new m codes exports count funcs) no_entry layer
  runs m codes exports count funcs =
      alike functions (old m codes exports count funcs) (new m codes exports count funcs)
      (λ op line h.
      fold-roll-Instr (Sem Val State) (exec_layer (language m) funcs) (Instr-F.Pure op) ∙ h.runs
      ∙ sym (line_runs (new m codes exports count funcs) (λ o. fold-roll-Instr (Sem Val State) (exec_layer (language (changed m codes exports count)) funcs) (Instr-F.Pure o)) line))
      (kept_alike m codes exports count funcs)

  seen : (p : Head → Bool) → Overlooks p → OwesAlike tests (some p) (some p) no_entry layer
  seen p o =
      alike tests (some p) (some p)
      (λ op line h.
      some_pure p op (overlooked p o op h.plain)
      ∙ sym (line_none tests (some p) line (all_map (λ w. is_arithmetic w.op ≡ true) (λ w. some p (roll-Instr (Instr-F.Pure w.op)) ≡ false) (λ (w : Operator) e. some_pure p w.op (overlooked p o w.op e)) line h.plain_line)))
      (seen_alike p o.bodies)

  no_names : (line : List Operator) → AllByRecursion (λ w. called (roll-Instr (Instr-F.Pure w.op)) ≡ []) line
  no_names [] = tt
  no_names (w ∷ line) = (called_pure w.op, no_names line)

  named : OwesAlike names called called no_entry layer
  named = alike names called called (λ op line h. called_pure op ∙ sym (line_none names called line (no_names line))) called_alike

  -- typing
  module _ (c : Context) where
    one_typed : (ls : List (List Ty)) (l : Instr-F Instr) (takes gives : List Ty) (first second kept out : List Node) → Becomes gone l kept out → Fits c (Here c ls) (layer_form c ls l) takes gives first second → TypedNodes c ls kept takes (after (leaves_layer l) gives) → TypedNodes c ls out takes (after (leaves_layer l) gives)
    one_typed ls _ takes gives first second _ _ (stays l kept u) fits typed = typed
    one_typed ls _ takes gives first second _ _ (replaced op line kept h u) fits typed =
        let flat : Fits c (Here c ls) (Flat h.takes h.gives) takes gives first second = subst (λ f. Fits c (Here c ls) f takes gives first second) (h.form c) fits in
        subst (λ t. TypedNodes c ls (written (operators line)) t (Some gives)) (sym flat.0.0)
        (subst (λ g. TypedNodes c ls (written (operators line)) h.takes (Some g)) (sym flat.0.1) (operators_typed c ls line h.takes h.gives (h.typed c)))

    owes : OwesPlainly no_entry layer c c
    owes = record {
      moves = λ ls head takes gives first second fits. fits;
      made = λ x ls head takes gives first second fits.
          (let node : List Node = node_of head takes gives first second ∷ [] in
          one_typed ls (out-Instr head) takes gives first second node (become (out-Instr head) node) (is (out-Instr head) node) fits (put_together c ls head takes gives first second fits));
    }

    typed : (ls : List (List Ty)) (nodes : List Node) (start : List Ty) (end : Option (List Ty)) → TypedNodes c ls nodes start end → TypedNodes c ls (rewritten no_entry layer nodes []) start end
    typed ls nodes start end h = plainly_typed no_entry layer c c owes [] ls nodes start end h

  -- The lemma: such a rewriting keeps each body as a function.
  pub replacing_keeps : Keeps no_entry layer
  replacing_keeps = record { runs = runs; seen = seen; named = named; typed = typed }

  -- And it leaves nothing of what is gone.
  module _ (blind : Blind gone) where
    none_gone : (line : List Operator) → AllByRecursion (λ o. gone (Instr-F.Pure o.op) ≡ false) line → some_in gone (erased (written (operators line))) ≡ false
    none_gone line h =
        sym (read_any (some gone) (erased (written (operators line))))
        ∙ line_none tests (some gone) line (all_map (λ w. gone (Instr-F.Pure w.op) ≡ false) (λ w. some gone (roll-Instr (Instr-F.Pure w.op)) ≡ false) (λ (w : Operator) e. some_pure gone w.op e) line h)

    one_less : (code : List Instr) (l : Instr-F Instr) (kept out : List Node) → Becomes gone l kept out → ((gone (head l) ≡ true → never (head l) ≡ true) → ShowsLess never gone code (erased kept)) → ShowsLess never gone code (erased out)
    one_less code _ _ _ (stays l kept u) f h = f (λ e. sym u ∙ e) h
    one_less code _ _ _ (replaced op line kept h u) f e = let no : false ≡ true = sym (none_gone line u) ∙ e in absurd cc

    shows_less : OwesShowsLess never gone no_entry layer
    shows_less = record {
      shows_less = λ x head takes gives code code' first second f g.
          (let node : List Node = node_of head takes gives first second ∷ [] in
          one_less (roll-Instr (with_bodies (out-Instr head) code code') ∷ []) (out-Instr head) node (become (out-Instr head) node) (is (out-Instr head) node)
          (λ u. kept_shows never gone blind_never blind head takes gives code code' first second u f g));
    }

    pub replaced_gone : (fns : List TypedFn) → list_any (λ b. some_in gone b.code) (new_bodies no_entry layer fns) ≡ false
    replaced_gone [] = refl
    replaced_gone (f ∷ fns) =
        ap (λ b. b || list_any (λ b'. some_in gone b'.code) (new_bodies no_entry layer fns))
        (unless_true (some_in gone (erased (rewritten no_entry layer f.body []))) (some_in never (erased f.body)) (code_shows never gone no_entry layer shows_less f.body []) (never_in (erased f.body)))
        ∙ replaced_gone fns
