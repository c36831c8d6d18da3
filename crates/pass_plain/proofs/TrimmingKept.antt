-- A nop does nothing, shows nothing, and is typed as no code is.
use Rattle.std.proofs.Common.{◌≡◌, ℕ, Bool, false, ◌||◌, List, [], ◌∷◌, Option, Some, sym, ap, ◌∙◌, subst}
use Rattle.wasm_ast.specs.declared.module.ty.Ty.{Ty}
use Rattle.wasm_ast.specs.declared.module.code.Instr.{Instr, out-Instr, roll-Instr}
use Rattle.wasm_ast.specs.declared.module.code.Instr.TheOpen.{Instr-F}
use Rattle.wasm_ast.specs.declared.module.code.Instr.TheFolds.{fold-roll-Instr}
use Rattle.wasm_ast.specs.declared.module.code.Body.{Body}
use Rattle.wasm_ast.specs.declared.module.parts.Export.{Export}
use Rattle.wasm_ast.specs.declared.module.parts.Module.{Module}
use Rattle.wasm_ast.specs.Kept.{called, called_step}
use Rattle.wasm_ast.specs.Occurrence.{Head, some, some_step}
use Rattle.typed_trees.specs.declared.node.Node.{Node}
use Rattle.typed_trees.specs.Contexts.{Context}
use Rattle.typed_trees.specs.Forms.{layer_form}
use Rattle.typed_trees.specs.Trees.{with_bodies, erased, leaves_layer, TypedNodes, none}
use Rattle.outcome_kit.specs.Code.{run}
use Rattle.evaluation_kit.specs.Configurations.{Sem}
use Rattle.evaluation_kit.specs.Languages.{exec_layer}
use Rattle.meaning_new.specs.declared.val.Val.{Val}
use Rattle.meaning_new.specs.Store.{State}
use Rattle.meaning_new.specs.Language.{language}
use Rattle.rewriting_kit.specs.Rewrites.{node_of, rewritten}
use Rattle.rewriting_kit.specs.Fitting.{Here, Fits, after}
use Rattle.rewriting_kit.specs.Plainly.{OwesPlainly}
use Rattle.rewriting_kit.proofs.Staying.{put_together}
use Rattle.rewriting_kit.proofs.Plain.{plainly_typed}
use Rattle.pass_plain.specs.Bodies.{no_entry}
use Rattle.pass_plain.specs.Trimming.{trimmed, by_trimming}
use Rattle.pass_plain.proofs.Evaluations.{functions, old, new, kept_alike}
use Rattle.pass_plain.proofs.Keeping.{Keeps}
use Rattle.pass_plain.proofs.Occurrences.{Blind, tests, names, seen_alike, called_alike}
use Rattle.pass_plain.proofs.Readings.{Reading, read, read_made, OwesAlike}

-- typing
module _ (c : Context) (ls : List (List Ty)) where
  nothing_typed : (takes gives : List Ty) → takes ≡ [] → gives ≡ [] → TypedNodes c ls [] takes (Some gives)
  nothing_typed takes gives e e' =
      subst (λ t. TypedNodes c ls [] t (Some gives)) (sym e) (subst (λ g. TypedNodes c ls [] [] (Some g)) (sym e') (none c ls []))

  trimmed_typed : (l : Instr-F Instr) (takes gives : List Ty) (first second kept : List Node) → Fits c (Here c ls) (layer_form c ls l) takes gives first second → TypedNodes c ls kept takes (after (leaves_layer l) gives) → TypedNodes c ls (trimmed l kept) takes (after (leaves_layer l) gives)
  trimmed_typed Instr-F.Nop takes gives first second kept h stays = nothing_typed takes gives h.0.0 h.0.1
  trimmed_typed l takes gives first second kept h stays = stays

owes : (c : Context) → OwesPlainly no_entry by_trimming c c
owes c = record {
  moves = λ ls head takes gives first second fits. fits;
  made = λ x ls head takes gives first second fits.
      trimmed_typed c ls (out-Instr head) takes gives first second (node_of head takes gives first second ∷ []) fits (put_together c ls head takes gives first second fits);
}

pub trimming_typed : (c : Context) (ls : List (List Ty)) (nodes : List Node) (start : List Ty) (end : Option (List Ty)) → TypedNodes c ls nodes start end → TypedNodes c ls (rewritten no_entry by_trimming nodes []) start end
trimming_typed c ls nodes start end h = plainly_typed no_entry by_trimming c c (owes c) [] ls nodes start end h

-- what gives nothing on a nop gives as much without nops
module _ {X : Type 0} (R : Reading X) (old new : Instr → X) (nop : old (roll-Instr Instr-F.Nop) ≡ R.none) where
  trimmed_same : (l : Instr-F Instr) (a b : List Instr) (kept : List Node) → old (roll-Instr (with_bodies l a b)) ≡ read R new (erased kept) → old (roll-Instr (with_bodies l a b)) ≡ read R new (erased (trimmed l kept))
  trimmed_same Instr-F.Nop a b kept e = nop
  trimmed_same l a b kept e = e

  -- so a layer owes what becomes of nodes that stay
  pub trimming_same : ((l : Instr-F Instr) (a b a' b' : List Instr) → read R old a ≡ read R new a' → read R old b ≡ read R new b' → old (roll-Instr (with_bodies l a b)) ≡ new (roll-Instr (with_bodies l a' b'))) → OwesAlike R old new no_entry by_trimming
  trimming_same stays = record {
    alike = λ x head takes gives a b first second e e'.
        trimmed_same (out-Instr head) a b (node_of head takes gives first second ∷ [])
        (stays (out-Instr head) a b (erased first) (erased second) e e' ∙ sym (read_made R new head takes gives first second));
  }

nop_runs : (m : Module) (codes : List Body) (exports : List Export) (count : Option ℕ) (funcs : ℕ → Sem Val State) → old m codes exports count funcs (roll-Instr Instr-F.Nop) ≡ run []
nop_runs m codes exports count funcs = fold-roll-Instr (Sem Val State) (exec_layer (language m) funcs) Instr-F.Nop

pub trimming_seen : (p : Head → Bool) → Blind p → p Instr-F.Nop ≡ false → OwesAlike tests (some p) (some p) no_entry by_trimming
trimming_seen p o nop =
    trimming_same tests (some p) (some p) (fold-roll-Instr Bool (some_step p) Instr-F.Nop ∙ ap (λ b. b || false) nop) (seen_alike p o)

-- what trimming owes
pub trims : Keeps no_entry by_trimming
trims = record {
  runs = λ m codes exports count funcs. trimming_same functions (old m codes exports count funcs) (new m codes exports count funcs) (nop_runs m codes exports count funcs) (kept_alike m codes exports count funcs);
  seen = λ p o. trimming_seen p o.bodies o.nop;
  named = trimming_same names called called (fold-roll-Instr (List ℕ) called_step Instr-F.Nop) called_alike;
  typed = trimming_typed;
}
