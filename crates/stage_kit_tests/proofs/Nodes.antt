-- The small stage on typed modules: its layer makes of each node what the step makes of its instruction.
use Rattle.std.proofs.Common.{◌≡◌, ℕ, ◌-◌, true, false, List, [], ◌∷◌, ◌++◌, map, refl, ap, subst, sym}
use Rattle.std.specs.Prelude.{nat_lt, slice_get}
use Rattle.std.specs.List.{AllByRecursion}
use Rattle.wasm_ast.specs.Counts.{Agrees}
use Rattle.wasm_ast.specs.declared.module.code.Instr.{Instr, out-Instr, roll-Instr, out-roll-Instr}
use Rattle.wasm_ast.specs.declared.module.code.Instr.TheOpen.{Instr-F}
use Rattle.wasm_ast.specs.declared.module.code.Instr.TheFolds.{map-Instr}
use Rattle.wasm_ast.specs.declared.module.op.Op.TheVariants as ops
use Rattle.wasm_ast.specs.declared.module.parts.Module.{Module}
use Rattle.typed_trees.specs.declared.module.TypedFn.{TypedFn}
use Rattle.typed_trees.specs.declared.node.Node.{Node}
use Rattle.typed_trees.specs.Trees.{with_bodies, erase, erased}
use Rattle.typed_trees.specs.Typed.{module_of}
use Rattle.rewriting_kit.specs.Rewrites.{Layer, node_of, rewritten}
use Rattle.meaning_new.specs.Forms.{imported_funcs}
use Rattle.stage_kit.specs.Adding.{CodeNamed}
use Rattle.stage_kit.specs.Appended.{Appended, names_of}
use Rattle.stage_kit.specs.Kept.{keep}
use Rattle.stage_kit.specs.Staged.{CodeStays}
use Rattle.stage_kit.proofs.Erased.{OwesStep, erase_made, kept_node}
use Rattle.stage_kit.proofs.Bodies.{defaults_named, FunctionsStay, code_stays}
use Rattle.stage_kit_tests.specs.NullTests.{step, adds}

-- what becomes of an instruction: the first node, or the second, which is kept
abbrev called : Instr-F Instr → Node → Node → List Node
called (Instr-F.Pure ops.RefIsNull) call kept = call ∷ []
called l call kept = kept ∷ []

abbrev calls : ℕ → Layer (Unit {0})
calls helper x head takes gives first second = called (out-Instr head) (node_of (roll-Instr (Instr-F.Call helper)) takes gives [] []) (node_of head takes gives first second)

abbrev no_entry : Instr → Unit {0}
no_entry head = tt

module _ (helper : ℕ) where
  stepped : (f : Instr → Unit {0} → List Instr) (l : Instr-F Instr) (call kept : Node) (code code' : List Instr) → erase call ≡ roll-Instr (Instr-F.Call helper) → erased (kept ∷ []) ≡ keep tt (map-Instr Instr (Unit {0} → List Instr) f (with_bodies l code code'))
      → erased (called l call kept) ≡ step helper (map-Instr Instr (Unit {0} → List Instr) f (with_bodies l code code')) tt
  stepped f (Instr-F.Pure ops.RefIsNull) call kept code code' e h = ap (λ i. i ∷ []) e
  stepped f l call kept code code' e h = h

  -- what the layer owes
  pub owes : OwesStep no_entry (calls helper) (step helper) (λ x. tt)
  owes = record {
    stepped = λ x head takes gives first second f code code' e e'.
        stepped f (out-Instr head) (node_of (roll-Instr (Instr-F.Call helper)) takes gives [] []) (node_of head takes gives first second) code code'
        (subst (λ l. erase (node_of (roll-Instr (Instr-F.Call helper)) takes gives [] []) ≡ roll-Instr (with_bodies l [] [])) (out-roll-Instr (Instr-F.Call helper)) (erase_made (roll-Instr (Instr-F.Call helper)) takes gives [] []))
        (kept_node tt f head takes gives first second code code' e e');
  }

  -- a function whose body is rewritten
  abbrev pub calling : TypedFn → TypedFn
  calling f = record { locals = f.locals; body = rewritten no_entry (calls helper) f.body [] }

-- The code of typed modules is what the small stage asks for.
module _ (p q : Module × List TypedFn) (globals helper : ℕ) (appended : Appended (module_of p) (module_of q)) (agrees : Agrees (module_of p)) (more : List TypedFn) (functions : q.1 ≡ map (calling helper) p.1 ++ more) where
  abbrev Known : Instr → Type 0
  Known = CodeNamed (module_of p) (names_of (module_of p) globals)

  -- what is known of each function of the input
  abbrev Fine : TypedFn → Type 0
  Fine f = AllByRecursion Known (erased f.body)

  stay : (fns : List TypedFn) → AllByRecursion Fine fns → FunctionsStay (adds appended globals) (step helper) (λ a. tt) Known (Unit {0}) fns (map (calling helper) fns ++ more)
  stay [] h = tt
  stay (f ∷ fns) h = (
    record {
      entry = no_entry;
      layer = calls helper;
      place = λ x. tt;
      owes = owes helper;
      at = tt;
      sees = refl;
      locals = refl;
      body = refl;
      sound = defaults_named (names_of (module_of p) globals) globals f.locals;
      fits = h.0;
    },
    stay fns h.1,
  )

  pub code : AllByRecursion Fine p.1 → (x : ℕ) → (names_of (module_of p) globals).func x ≡ true → nat_lt x (imported_funcs (module_of p)) ≡ false → CodeStays (adds appended globals) (step helper) (λ a. tt) Known (slice_get (module_of p).codes (x - imported_funcs (module_of p))) (slice_get (module_of q).codes (x - imported_funcs (module_of p)))
  code h =
      code_stays p q globals agrees (adds appended globals) (step helper) (λ a. tt) Known (Unit {0})
      (subst (FunctionsStay (adds appended globals) (step helper) (λ a. tt) Known (Unit {0}) p.1) (sym functions) (stay p.1 h))
