-- Code without what cannot be reached passes no test of instructions that the code does not pass, and its indirect calls
-- name no type that those of the code do not name.
use Rattle.std.proofs.Common.{◌≡◌, ℕ, Bool, true, false, ◌||◌, List, [], ◌∷◌, ◌++◌, map, refl, ap, sym, subst, ◌∙◌}
use Rattle.std.specs.List.{list_any}
use Rattle.std.proofs.lemmas.List.Folds.{list_any-append}
use Rattle.wasm_ast.specs.declared.features.kind.Feature.{Feature}
use Rattle.wasm_ast.specs.declared.features.kind.Feature.TheVariants as features
use Rattle.wasm_ast.specs.declared.module.ty.BlockType.{BlockType}
use Rattle.wasm_ast.specs.declared.module.immediates.Catch.{Catch}
use Rattle.wasm_ast.specs.declared.module.code.Instr.{Instr, roll-Instr, out-roll-Instr}
use Rattle.wasm_ast.specs.declared.module.code.Instr.TheOpen.{Instr-F}
use Rattle.wasm_ast.specs.declared.module.code.Instr.TheFolds.{map-Instr, ind-Instr}
use Rattle.wasm_ast.specs.Facts.{is_memory_init}
use Rattle.wasm_ast.specs.Features.{shows}
use Rattle.wasm_ast.specs.Kept.{uses_table, type_called, called, called_in}
use Rattle.wasm_ast.specs.Occurrence.{Head, head, inside, some, some_in}
use Rattle.wasm_ast.proofs.Bodies.{some-out, some_in-append, inside-map}
use Rattle.wasm_ast.proofs.Flags.{called-out}
use Rattle.typed_trees.specs.Trees.{first_body, second_body, leaves, reachable, reachable_code, unless_left, with_bodies}
use Rattle.valid_new.proofs.Holding.{reachable_out}
use Rattle.pass_law.specs.Stages.{copies_data}
use Rattle.stage_entry.proofs.Wider.{Implies, or_implies}

-- a test that does not see the bodies of an instruction
pub record Blind (p : Head → Bool) : Type 0 where
  pub block : (t : BlockType) (c c' : List (Unit {0})) → p (Instr-F.Block t c) ≡ p (Instr-F.Block t c')
  pub loop : (t : BlockType) (c c' : List (Unit {0})) → p (Instr-F.Loop t c) ≡ p (Instr-F.Loop t c')
  pub choice : (t : BlockType) (c d c' d' : List (Unit {0})) → p (Instr-F.If t c d) ≡ p (Instr-F.If t c' d')
  pub guarded : (t : BlockType) (clauses : List Catch) (c c' : List (Unit {0})) → p (Instr-F.TryTable t clauses c) ≡ p (Instr-F.TryTable t clauses c')

pub blind_feature : (f : Feature) → Blind (shows f)
blind_feature features.Sign = record { block = λ t c c'. refl; loop = λ t c c'. refl; choice = λ t c d c' d'. refl; guarded = λ t clauses c c'. refl }
blind_feature f = record { block = λ t c c'. refl; loop = λ t c c'. refl; choice = λ t c d c' d'. refl; guarded = λ t clauses c c'. refl }

pub blind_table : Blind uses_table
blind_table = record { block = λ t c c'. refl; loop = λ t c c'. refl; choice = λ t c d c' d'. refl; guarded = λ t clauses c c'. refl }

pub blind_init : Blind is_memory_init
blind_init = record { block = λ t c c'. refl; loop = λ t c c'. refl; choice = λ t c d c' d'. refl; guarded = λ t clauses c c'. refl }

pub blind_segment : (k : ℕ) → Blind (copies_data k)
blind_segment k = record { block = λ t c c'. refl; loop = λ t c c'. refl; choice = λ t c d c' d'. refl; guarded = λ t clauses c c'. refl }

-- what stands in the bodies, without what stands in them
abbrev lengths : List Instr → List (Unit {0})
lengths code = map (λ x. tt) code

-- an instruction laid open, and what can be reached in it
abbrev cut_layer : Instr-F Instr → Instr-F Instr
cut_layer l = with_bodies l (reachable_code (first_body l)) (reachable_code (second_body l))

reachable_roll : (l : Instr-F Instr) → reachable (roll-Instr l) ≡ roll-Instr (cut_layer l)
reachable_roll l = reachable_out (roll-Instr l) ∙ ap (λ x. roll-Instr (cut_layer x)) (out-roll-Instr l)

-- whether an instruction passes, or one in its bodies
abbrev in_layer : (Head → Bool) → Instr-F Instr → Bool
in_layer p l = p (head l) || some_in p (inside l)

some_roll : (p : Head → Bool) (l : Instr-F Instr) → some p (roll-Instr l) ≡ in_layer p l
some_roll p l = some-out p (roll-Instr l) ∙ ap (in_layer p) (out-roll-Instr l)

module _ (p : Head → Bool) (blind : Blind p) where
  -- the same of an instruction and of what can be reached in it
  abbrev IsLess : Instr → Type 0
  IsLess i = Implies (some p (reachable i)) (some p i)

  -- instructions of which it holds
  abbrev Proved : Type 0
  Proved = (i : Instr) × IsLess i

  abbrev code_of : List Proved → List Instr
  code_of es = map (λ e. e.0) es

  abbrev layer_of : Instr-F Proved → Instr-F Instr
  layer_of = map-Instr Proved Instr (λ e. e.0)

  rest_less : (b : Bool) (code other : List Instr) → Implies (some_in p code) (some_in p other) → Implies (some_in p (unless_left b code)) (some_in p other)
  rest_less true code other f e = let no : ⊥ = cc in absurd no
  rest_less false code other f e = f e

  code_less : (es : List Proved) → Implies (some_in p (reachable_code (code_of es))) (some_in p (code_of es))
  code_less [] e = e
  code_less (x ∷ es) e =
      or_implies (some p (reachable x.0)) (some_in p (unless_left (leaves (reachable x.0)) (reachable_code (code_of es)))) (some p x.0) (some_in p (code_of es))
      x.1 (rest_less (leaves (reachable x.0)) (reachable_code (code_of es)) (code_of es) (code_less es)) e

  two_less : (es fs : List Proved) → Implies (some_in p (reachable_code (code_of es) ++ reachable_code (code_of fs))) (some_in p (code_of es ++ code_of fs))
  two_less es fs e =
      some_in-append p (code_of es) (code_of fs)
      ∙ or_implies (some_in p (reachable_code (code_of es))) (some_in p (reachable_code (code_of fs))) (some_in p (code_of es)) (some_in p (code_of fs)) (code_less es) (code_less fs)
      (sym (some_in-append p (reachable_code (code_of es)) (reachable_code (code_of fs))) ∙ e)

  layer_less : (l : Instr-F Proved) → Implies (in_layer p (cut_layer (layer_of l))) (in_layer p (layer_of l))
  layer_less (Instr-F.Block t code) =
      let new : List Instr = reachable_code (code_of code) in
      or_implies (p (Instr-F.Block t (lengths new))) (some_in p new) (p (Instr-F.Block t (lengths (code_of code)))) (some_in p (code_of code)) (λ e. blind.block t (lengths (code_of code)) (lengths new) ∙ e) (code_less code)
  layer_less (Instr-F.Loop t code) =
      let new : List Instr = reachable_code (code_of code) in
      or_implies (p (Instr-F.Loop t (lengths new))) (some_in p new) (p (Instr-F.Loop t (lengths (code_of code)))) (some_in p (code_of code)) (λ e. blind.loop t (lengths (code_of code)) (lengths new) ∙ e) (code_less code)
  layer_less (Instr-F.If t code other) =
      let new : List Instr = reachable_code (code_of code) in
      let new_other : List Instr = reachable_code (code_of other) in
      or_implies (p (Instr-F.If t (lengths new) (lengths new_other))) (some_in p (new ++ new_other)) (p (Instr-F.If t (lengths (code_of code)) (lengths (code_of other)))) (some_in p (code_of code ++ code_of other))
      (λ e. blind.choice t (lengths (code_of code)) (lengths (code_of other)) (lengths new) (lengths new_other) ∙ e) (two_less code other)
  layer_less (Instr-F.TryTable t clauses code) =
      let new : List Instr = reachable_code (code_of code) in
      or_implies (p (Instr-F.TryTable t clauses (lengths new))) (some_in p new) (p (Instr-F.TryTable t clauses (lengths (code_of code)))) (some_in p (code_of code)) (λ e. blind.guarded t clauses (lengths (code_of code)) (lengths new) ∙ e) (code_less code)
  layer_less l = λ e. e

  rolled_less : (x : Instr-F Instr) (y : Instr-F Proved) → layer_of y ≡ x → IsLess (roll-Instr x)
  rolled_less x y is e =
      some_roll p x
      ∙ subst (λ l. Implies (in_layer p (cut_layer l)) (in_layer p l)) is (layer_less y)
      (sym (some_roll p (cut_layer x)) ∙ sym (ap (some p) (reachable_roll x)) ∙ e)

  instr_less : (i : Instr) → IsLess i
  instr_less = ind-Instr IsLess rolled_less

  proved : List Instr → List Proved
  proved = map (λ i. let e : Proved = (i, instr_less i) in e)

  code_of-proved : (code : List Instr) → code_of (proved code) ≡ code
  unfolding proved
  code_of-proved [] = refl
  code_of-proved (i ∷ code) = ap (λ l. i ∷ l) (code_of-proved code)

  -- The lemma.
  pub reached_less : (code : List Instr) → Implies (some_in p (reachable_code code)) (some_in p code)
  reached_less code = subst (λ l. Implies (some_in p (reachable_code l)) (some_in p l)) (code_of-proved code) (code_less (proved code))

-- ---- the types that indirect calls name

module _ (q : ℕ → Bool) where
  -- an indirect call that names a type which passes
  abbrev calls : Head → Bool
  calls h = list_any q (type_called h)

  blind_calls : Blind calls
  blind_calls = record { block = λ t c c'. refl; loop = λ t c c'. refl; choice = λ t c d c' d'. refl; guarded = λ t clauses c c'. refl }

  abbrev IsNamed : Instr → Type 0
  IsNamed i = list_any q (called i) ≡ some calls i

  abbrev Named : Type 0
  Named = (i : Instr) × IsNamed i

  abbrev named_code : List Named → List Instr
  named_code es = map (λ e. e.0) es

  abbrev named_layer : Instr-F Named → Instr-F Instr
  named_layer = map-Instr Named Instr (λ e. e.0)

  code_named : (es : List Named) → list_any q (called_in (named_code es)) ≡ some_in calls (named_code es)
  code_named [] = refl
  code_named (x ∷ es) =
      list_any-append q (called x.0) (called_in (named_code es))
      ∙ ap (λ b. b || list_any q (called_in (named_code es))) x.1
      ∙ ap (λ b. some calls x.0 || b) (code_named es)

  layer_named : (l : Instr-F Named) → list_any q (type_called (head (named_layer l)) ++ called_in (inside (named_layer l))) ≡ in_layer calls (named_layer l)
  layer_named l =
      list_any-append q (type_called (head (named_layer l))) (called_in (inside (named_layer l)))
      ∙ ap (λ b. calls (head (named_layer l)) || b) (subst (λ code. list_any q (called_in code) ≡ some_in calls code) (sym (inside-map (λ e. e.0) l)) (code_named (inside l)))

  called_roll : (l : Instr-F Instr) → called (roll-Instr l) ≡ type_called (head l) ++ called_in (inside l)
  called_roll l = called-out (roll-Instr l) ∙ ap (λ x. type_called (head x) ++ called_in (inside x)) (out-roll-Instr l)

  rolled_named : (x : Instr-F Instr) (y : Instr-F Named) → named_layer y ≡ x → IsNamed (roll-Instr x)
  rolled_named x y is =
      ap (list_any q) (called_roll x)
      ∙ subst (λ l. list_any q (type_called (head l) ++ called_in (inside l)) ≡ in_layer calls l) is (layer_named y)
      ∙ sym (some_roll calls x)

  instr_named : (i : Instr) → IsNamed i
  instr_named = ind-Instr IsNamed rolled_named

  called_some : (code : List Instr) → list_any q (called_in code) ≡ some_in calls code
  called_some [] = refl
  called_some (i ∷ code) =
      list_any-append q (called i) (called_in code)
      ∙ ap (λ b. b || list_any q (called_in code)) (instr_named i)
      ∙ ap (λ b. some calls i || b) (called_some code)

  -- The lemma.
  pub called_less : (code : List Instr) → Implies (list_any q (called_in (reachable_code code))) (list_any q (called_in code))
  called_less code e = called_some code ∙ reached_less calls blind_calls code (sym (called_some (reachable_code code)) ∙ e)
