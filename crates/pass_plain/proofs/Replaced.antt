-- A stage that puts operators in place of one and changes nothing else: its output is typed, leaves nothing of what is gone,
-- and has the law of a stage whose maps change nothing.
use mathlib.Core.Path.{fun_ext}
use Rattle.std.proofs.Common.{◌≡◌, ℕ, Bool, true, false, ◌||◌, List, [], ◌∷◌, refl, ap, ◌∙◌}
use Rattle.std.specs.List.{list_any}
use Rattle.wasm_ast.specs.declared.features.kind.Feature.{Feature}
use Rattle.wasm_ast.specs.declared.module.ty.Ty.{Ty}
use Rattle.wasm_ast.specs.declared.module.op.Op.{Op}
use Rattle.wasm_ast.specs.declared.module.code.Instr.{Instr}
use Rattle.wasm_ast.specs.declared.module.code.Instr.TheOpen.{Instr-F}
use Rattle.wasm_ast.specs.declared.module.parts.Module.{Module}
use Rattle.wasm_ast.specs.Features.{type_shows, types_named, shows_itself, shows}
use Rattle.wasm_ast.specs.Occurrence.{Head}
use Rattle.wasm_ast.specs.Places.{anywhere}
use Rattle.typed_trees.specs.declared.module.TypedFn.{TypedFn}
use Rattle.typed_trees.specs.declared.node.Node.{Node}
use Rattle.typed_trees.specs.Constants.{is_constant_op}
use Rattle.typed_trees.specs.Typed.{module_of, IsTypedTree}
use Rattle.pass_law.specs.Law.{Law}
use Rattle.pass_law.specs.Needs.{Needs, NoMore, needs_of}
use Rattle.pass_law.specs.Plain.{plain}
use Rattle.pass_law.specs.Stages.{Stage}
use Rattle.pass_plain.specs.Bodies.{no_entry}
use Rattle.pass_plain.specs.Plans.{takes_all, any_event}
use Rattle.pass_plain.proofs.Constants.{nowhere}
use Rattle.pass_plain.proofs.Occurrences.{Blind, or_none}
use Rattle.pass_plain.proofs.Operators.{Becomes, replacing, replacing_keeps, replaced_gone}
use Rattle.pass_plain.proofs.Same.{same_parts, same_parts_typed, same_parts_kept, same_parts_law}
use Rattle.pass_plain.proofs.Stages.{Kept}

-- a feature that no type shows is shown by instructions themselves
module _ (f : Feature) (untyped : (t : Ty) → type_shows f t ≡ false) where
  no_type : (ts : List Ty) → list_any (type_shows f) ts ≡ false
  no_type [] = refl
  no_type (t ∷ ts) = ap (λ b. b || list_any (type_shows f) ts) (untyped t) ∙ no_type ts

  shown_itself : shows f ≡ shows_itself f
  shown_itself = fun_ext (λ h. ap (λ b. shows_itself f h || b) (no_type (types_named h)) ∙ or_none (shows_itself f h))

module _ (gone : Head → Bool) (become : Instr-F Instr → List Node → List Node) (is : (l : Instr-F Instr) (kept : List Node) → Becomes gone l kept (become l kept)) (t : Module × List TypedFn) (typed : IsTypedTree t) where
  -- the output
  abbrev pub replaced_parts : Module × List TypedFn
  replaced_parts = same_parts no_entry (replacing become) t

  pub replaced_typed : IsTypedTree replaced_parts
  replaced_typed = same_parts_typed no_entry (replacing become) (replacing_keeps gone become is) t typed

  pub replaced_kept : Kept (module_of t) (module_of replaced_parts)
  replaced_kept = same_parts_kept no_entry (replacing become) (replacing_keeps gone become is) t typed

  -- where a feature is gone that no type and no constant expression shows, the output does not have it
  pub replaced_nowhere : (f : Feature) → shows_itself f ≡ gone → ((t : Ty) → type_shows f t ≡ false) → Blind gone → ((op : Op) → is_constant_op op ≡ true → gone (Instr-F.Pure op) ≡ false) → ((x : ℕ) → gone (Instr-F.GlobalGet x) ≡ false) → anywhere (shows f) (module_of replaced_parts) ≡ false
  replaced_nowhere f itself untyped blind no_op no_get =
      ap (λ (p : Head → Bool). anywhere p (module_of replaced_parts)) (shown_itself f untyped ∙ itself)
      ∙ nowhere gone no_op no_get (module_of replaced_parts) replaced_typed.parts (replaced_gone gone become is blind t.1)

  pub replaced_law : (leaves : Needs → Needs) → NoMore (needs_of (module_of replaced_parts)) (leaves (needs_of (module_of t))) → (captures : ℕ) → Stage (module_of t) → Law (plain takes_all leaves any_event 1 0) (module_of t) (module_of replaced_parts) captures
  replaced_law = same_parts_law no_entry (replacing become) (replacing_keeps gone become is) t typed
