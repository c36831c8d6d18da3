-- What the checks of instructions and of code find, against the rules.
use Rattle.std.proofs.Common.{◌≡◌, ℕ, ◌+◌, ◌<◌, ◌↔◌, get_or, Bool, true, false, ◌&&◌, List, [], ◌∷◌, ◌++◌, length, drop, reverse, map, refl, ap, sym, subst, ◌∙◌}
use Rattle.std.proofs.lemmas.List.{reverse-append, drop_more}
use Rattle.core1_ast.specs.declared.module.ty.Ty1.{Ty1}
use Rattle.core1_ast.specs.declared.module.ty.Ty1.TheVariants as types
use Rattle.core1_ast.specs.declared.module.ty.BlockType1.{BlockType1}
use Rattle.core1_ast.specs.declared.module.ty.BlockType1.TheVariants as blocks
use Rattle.core1_ast.specs.declared.module.code.Instr1.{Instr1}
use Rattle.core1_ast.specs.declared.module.code.Instr1.TheVariants as instrs
use Rattle.core1_ast.specs.declared.module.code.Instr1.TheViews as views
use Rattle.core1_ast.specs.Operands.{block_results}
use Rattle.typing_kit.specs.declared.plan.Plan.{Plan}
use Rattle.typing_kit.specs.declared.plan.Met.{Met}
use Rattle.typing_kit.specs.declared.plan.Met.TheVariants as mets
use Rattle.typing_kit.specs.declared.operand.Operand.{Operand}
use Rattle.typing_kit.specs.Form.{Block, Choice}
use Rattle.typing_kit.specs.Matching.{known}
use Rattle.typing_kit.specs.Stack.{Stack, fit, fit_whole}
use Rattle.typing_kit.specs.Steps.{IsPlanOf, IsLeaf, stepped}
use Rattle.typing_kit.specs.Progress.{From}
use Rattle.typing_kit.proofs.Laws.{Lawful, lawful_of_equality}
use Rattle.typing_kit.proofs.Leading.{begun, ended}
use Rattle.typing_kit.proofs.Forms.{block_exactly, choice_exactly, exactly_leads, block_stuck, choice_stuck, choice_lacks, untyped_stuck}
use Rattle.typing_kit.proofs.Stepping.{step_went, step_keeps}
use Rattle.valid_core1.specs.declared.scope.Scope.{Scope}
use Rattle.valid_core1.specs.Forms.{same_type, of_kind, language, is_block, is_short, where_true}
use Rattle.valid_core1.specs.Scopes.{context_of, label_types}
use Rattle.valid_core1.specs.Checks.{Judged, IsInside, IsBlock, IsChoice, Decided}
use Rattle.valid_core1.proofs.Rules.{same_type_refl, same_type_is, laid}

module _ (s : Scope) where
  laws : Lawful (language (context_of s))
  laws = lawful_of_equality (language (context_of s)) same_type_refl same_type_is

  -- an instruction that holds no code
  module _ (labels : List BlockType1) (i : Instr1) (plan : Plan Ty1) (old new : Stack Ty1) (met : Met Ty1) (form : IsPlanOf plan ((language (context_of s)).form (label_types labels) i)) (leaf : IsLeaf plan) (e : (met, new) ≡ stepped same_type of_kind types.I32 plan old) where
    pub leaf_untyped : met ≡ mets.Untyped → Judged s labels i old new false
    unfolding Judged
    leaf_untyped f = step_went (language (context_of s)) laws (label_types labels) i plan old new mets.Untyped form leaf (ap (λ m. let p : Met Ty1 × Stack Ty1 = (m, new) in p) (sym f) ∙ e)

    pub leaf_planned : met ≡ mets.Planned → Judged s labels i old new true
    unfolding Judged
    leaf_planned f = (step_went (language (context_of s)) laws (label_types labels) i plan old new mets.Planned form leaf (ap (λ m. let p : Met Ty1 × Stack Ty1 = (m, new) in p) (sym f) ∙ e), step_keeps same_type of_kind types.I32 plan old new met e)

    pub leaf_one : (o : Operand Ty1) → met ≡ mets.One o → Judged s labels i old new true
    unfolding Judged
    leaf_one o f = (step_went (language (context_of s)) laws (label_types labels) i plan old new (mets.One o) form leaf (ap (λ m. let p : Met Ty1 × Stack Ty1 = (m, new) in p) (sym f) ∙ e), step_keeps same_type of_kind types.I32 plan old new met e)

  -- a block or a loop
  module _ (labels : List BlockType1) (label type : BlockType1) (code : List Instr1) (i : Instr1) (old : Stack Ty1) (block : IsBlock s labels label type code i) where
    block_form : is_block type code ≡ true → (language (context_of s)).form (label_types labels) i ≡ Block (block_results label) [] (block_results type) code
    unfolding IsBlock
    block_form b = block ∙ ap (λ x. where_true x (Block (block_results label) [] (block_results type) code)) b

    pub block_untyped : (new : Stack Ty1) → is_block type code ≡ false → Judged s labels i old new false
    unfolding Judged IsBlock
    block_untyped new b = untyped_stuck (language (context_of s)) laws (label_types labels) i old.dead old.top (block ∙ ap (λ x. where_true x (Block (block_results label) [] (block_results type) code)) b)

    pub block_not_inside : (new : Stack Ty1) → is_block type code ≡ true → (IsInside s labels label type code → ⊥) → Judged s labels i old new false
    unfolding Judged IsInside
    block_not_inside new b never = block_stuck (language (context_of s)) (label_types labels) i old.dead old.top (block_results label) [] (block_results type) code laws (block_form b) never

    pub block_typed : (new : Stack Ty1) → is_block type code ≡ true → IsInside s labels label type code → new ≡ record old { top = reverse (known (block_results type)) ++ old.top } → Judged s labels i old new true
    unfolding Judged IsInside
    block_typed new b inside e =
        subst (λ n. Judged s labels i old n true) (sym e) (
          exactly_leads (language (context_of s)) laws (label_types labels) i old.dead old.top [] (block_results type)
              (block_exactly (language (context_of s)) (label_types labels) i (block_results label) [] (block_results type) code (block_form b) inside) refl,
          refl,
        )

  -- an if
  module _ (labels : List BlockType1) (type : BlockType1) (first second : List Instr1) (i : Instr1) (old : Stack Ty1) (choice : IsChoice s labels type first second i) where
    choice_form : (b : Bool) → (is_block type first && is_short second) ≡ b → (language (context_of s)).form (label_types labels) i ≡ where_true b (Choice (block_results type) [] (block_results type) first second)
    unfolding IsChoice
    choice_form b e = choice ∙ ap (λ x. where_true x (Choice (block_results type) [] (block_results type) first second)) e

    pub choice_untyped : (new : Stack Ty1) → (is_block type first && is_short second) ≡ false → Judged s labels i old new false
    unfolding Judged
    choice_untyped new b = untyped_stuck (language (context_of s)) laws (label_types labels) i old.dead old.top (choice_form false b)

    pub choice_not_fitting : (new : Stack Ty1) → (is_block type first && is_short second) ≡ true → fit same_type old.dead old.top (types.I32 ∷ []) ≡ false → Judged s labels i old new false
    unfolding Judged
    choice_not_fitting new b f = choice_lacks (language (context_of s)) (label_types labels) i old.dead old.top (block_results type) [] (block_results type) first second laws (choice_form true b) f

    pub choice_not_inside : (new : Stack Ty1) → (is_block type first && is_short second) ≡ true → (IsInside s labels type type first → IsInside s labels type type second → ⊥) → Judged s labels i old new false
    unfolding Judged IsInside
    choice_not_inside new b never = choice_stuck (language (context_of s)) (label_types labels) i old.dead old.top (block_results type) [] (block_results type) first second laws (choice_form true b) never

    pub choice_typed : (new : Stack Ty1) → (is_block type first && is_short second) ≡ true → fit same_type old.dead old.top (types.I32 ∷ []) ≡ true → IsInside s labels type type first → IsInside s labels type type second → new ≡ record old { top = reverse (known (block_results type)) ++ drop 1 old.top } → Judged s labels i old new true
    unfolding Judged IsInside
    choice_typed new b f one two e =
        subst (λ n. Judged s labels i old n true) (sym e) (
          exactly_leads (language (context_of s)) laws (label_types labels) i old.dead old.top (types.I32 ∷ []) (block_results type)
              (choice_exactly (language (context_of s)) (label_types labels) i (block_results type) [] (block_results type) first second (choice_form true b) one two) f,
          refl,
        )

  -- a turn of the loop over code: what is typed is what was to be typed
  module _ (labels : List BlockType1) (i : Instr1) (old new : Stack Ty1) (code : List Instr1) (k : ℕ) (after : List (Operand Ty1)) (W : Type 0) (so_far : From (language (context_of s)) (label_types labels) old.dead old.top (drop k code) after ↔ W) (at_k : drop k code ≡ i ∷ drop (k + 1) code) where
    at_turn : From (language (context_of s)) (label_types labels) old.dead old.top (i ∷ drop (k + 1) code) after ↔ W
    at_turn = subst (λ l. From (language (context_of s)) (label_types labels) old.dead old.top l after ↔ W) at_k so_far

    pub code_turn : Judged s labels i old new true → From (language (context_of s)) (label_types labels) new.dead new.top (drop (k + 1) code) after ↔ W
    unfolding Judged
    code_turn j = let step = j.0 (drop (k + 1) code) after in (λ f. at_turn.0 (step.1 f), λ w. step.0 (at_turn.1 w))

    pub code_stops : Judged s labels i old new false → W → ⊥
    unfolding Judged
    code_stops j w = j (drop (k + 1) code) after (at_turn.1 w)

  pub label_pushed : (labels : List BlockType1) (label : BlockType1) → label_types (labels ++ label ∷ []) ≡ block_results label ∷ label_types labels
  label_pushed labels label = ap (map block_results) (reverse-append labels (label ∷ []))

  -- the code begins with no operands, and ends with the results
  pub code_begins : (labels pushed : List BlockType1) (label type : BlockType1) (code : List Instr1) → pushed ≡ labels ++ label ∷ [] → From (language (context_of s)) (label_types pushed) false [] code (known (block_results type)) ↔ IsInside s labels label type code
  unfolding IsInside
  code_begins labels pushed label type code e =
      let b = begun (language (context_of s)) laws (block_results label ∷ label_types labels) code [] (known (block_results type)) in
      let same : label_types pushed ≡ block_results label ∷ label_types labels = ap label_types e ∙ label_pushed labels label in (
        λ f. b.1 (subst (λ l. From (language (context_of s)) l false [] code (known (block_results type))) same f),
        λ t. subst (λ l. From (language (context_of s)) l false [] code (known (block_results type))) (sym same) (b.0 t),
      )

  pub code_ends : (labels : List BlockType1) (type : BlockType1) (stack : Stack Ty1) (code : List Instr1) (k : ℕ) (W : Type 0) (r : Bool) → drop k code ≡ [] → (From (language (context_of s)) (label_types labels) stack.dead stack.top (drop k code) (known (block_results type)) ↔ W) → r ≡ fit_whole same_type stack.dead stack.top (reverse (block_results type)) → Decided r W
  code_ends labels type stack code k W true e so_far f =
      so_far.0 (subst (λ l. From (language (context_of s)) (label_types labels) stack.dead stack.top l (known (block_results type))) (sym e)
      ((ended (language (context_of s)) laws (label_types labels) stack.dead stack.top (block_results type)).0 (sym f)))
  code_ends labels type stack code k W false e so_far f =
      λ w. (let fits = (ended (language (context_of s)) laws (label_types labels) stack.dead stack.top (block_results type)).1
      (subst (λ l. From (language (context_of s)) (label_types labels) stack.dead stack.top l (known (block_results type))) e (so_far.1 w)) in
      let no : true ≡ false = sym fits ∙ sym f in cc)

-- what a decided fact is at an answer
pub decided_yes : (r : Bool) (P : Type 0) → Decided r P → r ≡ true → P
decided_yes true P d e = d
decided_yes false P d e = let no : ⊥ = cc in absurd no

pub decided_no : (r : Bool) (P : Type 0) → Decided r P → r ≡ false → P → ⊥
decided_no true P d e = let no : ⊥ = cc in absurd no
decided_no false P d e = d

-- a judgement at an answer, and where the labels are those before
pub judged_at : (s : Scope) (labels old_labels : List BlockType1) (i : Instr1) (before after : Stack Ty1) (r b : Bool) → labels ≡ old_labels → r ≡ b → Judged s labels i before after r → Judged s old_labels i before after b
judged_at s labels old_labels i before after r b e f j = subst (λ l. Judged s l i before after b) e (subst (λ x. Judged s labels i before after x) f j)

pub inside_at : (s : Scope) (labels old_labels : List BlockType1) (label type : BlockType1) (code : List Instr1) → labels ≡ old_labels → IsInside s labels label type code → IsInside s old_labels label type code
inside_at s labels old_labels label type code e h = subst (λ l. IsInside s l label type code) e h

-- results put on operands that are as before
pub pushed : (old mid new : Stack Ty1) (rs : List Ty1) (type : BlockType1) → mid ≡ old → rs ≡ block_results type → new ≡ record mid { top = reverse (known rs) ++ mid.top } → new ≡ record old { top = reverse (known (block_results type)) ++ old.top }
pushed old mid new rs type e f g = g ∙ ap (λ (m : Stack Ty1). let r : Stack Ty1 = record m { top = reverse (known rs) ++ m.top } in r) e ∙ ap (λ l. let r : Stack Ty1 = record old { top = reverse (known l) ++ old.top } in r) f

pub pushed_under : (old mid new : Stack Ty1) (rs : List Ty1) (type : BlockType1) → mid ≡ record old { top = drop 1 old.top } → rs ≡ block_results type → new ≡ record mid { top = reverse (known rs) ++ mid.top } → new ≡ record old { top = reverse (known (block_results type)) ++ drop 1 old.top }
pushed_under old mid new rs type e f g = g ∙ ap (λ (m : Stack Ty1). let r : Stack Ty1 = record m { top = reverse (known rs) ++ m.top } in r) e ∙ ap (λ l. let r : Stack Ty1 = record old { top = reverse (known l) ++ drop 1 old.top } in r) f

-- the forms of what holds code

pub block_is : (s : Scope) (labels : List BlockType1) (type : BlockType1) (code : List Instr1) (i : Instr1) → i ≡ instrs.Block type code → IsBlock s labels type type code i
unfolding IsBlock
block_is s labels type code i e = laid (context_of s) (label_types labels) i _ _ e (views.outs-Block type code)

pub loop_is : (s : Scope) (labels : List BlockType1) (type : BlockType1) (code : List Instr1) (i : Instr1) → i ≡ instrs.Loop type code → IsBlock s labels blocks.Empty type code i
unfolding IsBlock
loop_is s labels type code i e = laid (context_of s) (label_types labels) i _ _ e (views.outs-Loop type code)

pub choice_is : (s : Scope) (labels : List BlockType1) (type : BlockType1) (first second : List Instr1) (i : Instr1) → i ≡ instrs.If type first second → IsChoice s labels type first second i
unfolding IsChoice
choice_is s labels type first second i e = laid (context_of s) (label_types labels) i _ _ e (views.outs-If type first second)

-- the start of a loop over code
pub code_starts : (s : Scope) (labels pushed : List BlockType1) (label type : BlockType1) (code : List Instr1) (stack : Stack Ty1) (outer : List (Operand Ty1)) → pushed ≡ labels ++ label ∷ [] → stack ≡ record { outer = outer; top = []; dead = false } → From (language (context_of s)) (label_types pushed) stack.dead stack.top code (known (block_results type)) ↔ IsInside s labels label type code
code_starts s labels pushed label type code stack outer e f =
    subst (λ (k : Stack Ty1). From (language (context_of s)) (label_types pushed) k.dead k.top code (known (block_results type)) ↔ IsInside s labels label type code) (sym f)
    (code_begins s labels pushed label type code e)

pub drop_at_item : (code : List Instr1) (k : ℕ) (i : Instr1) → k < length code → i ≡ get_or code k i → drop k code ≡ i ∷ drop (k + 1) code
drop_at_item code k i h e = drop_more code k i h ∙ ap (λ x. x ∷ drop (k + 1) code) (sym e)

pub judged_outer : (s : Scope) (labels : List BlockType1) (i : Instr1) (before after : Stack Ty1) → Judged s labels i before after true → after.outer ≡ before.outer
unfolding Judged
judged_outer s labels i before after j = j.1

pub under_labels : (s : Scope) (labels new_labels : List BlockType1) (stack : Stack Ty1) (code : List Instr1) (after : List (Operand Ty1)) (W : Type 0) → new_labels ≡ labels → (From (language (context_of s)) (label_types labels) stack.dead stack.top code after ↔ W) → From (language (context_of s)) (label_types new_labels) stack.dead stack.top code after ↔ W
under_labels s labels new_labels stack code after W e h = subst (λ l. From (language (context_of s)) (label_types l) stack.dead stack.top code after ↔ W) (sym e) h
