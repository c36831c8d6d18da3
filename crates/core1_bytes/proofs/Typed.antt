-- Code that is typed has typed code inside, and no instruction on floats.
use Rattle.std.proofs.Common.{◌≡◌, ℕ, List, sym, subst}
use Rattle.std.specs.Prelude.{All}
use Rattle.std.specs.List.{AllByRecursion}
use Rattle.std.proofs.lemmas.List.Elements.{All-from_recursion}
use Rattle.core1_ast.specs.declared.module.ty.Ty1.{Ty1}
use Rattle.core1_ast.specs.declared.module.ty.BlockType1.{BlockType1}
use Rattle.core1_ast.specs.declared.module.code.Instr1.{Instr1, out-Instr1}
use Rattle.core1_ast.specs.declared.module.code.Instr1.TheOpen.{Instr1-F}
use Rattle.core1_ast.specs.declared.module.code.Instr1.TheFolds.{the_lemmas}
use Rattle.core1_ast.specs.declared.module.code.Instr1.TheVariants as instrs
use Rattle.core1_ast.specs.declared.module.immediates.FloatImmediates1.{FloatImmediates1}
use Rattle.core1_ast.specs.Code as t
use Rattle.core1_ast.specs.Code.{Context, Typed, TypedCode}
use Rattle.core1_bytes.specs.Appends.{IsTypedInstr, IsTypedCode}

-- the code inside is typed, and the instruction is none on floats
abbrev Inside : Instr1-F Instr1 → Type 0
Inside (Instr1-F.Block type code) = IsTypedCode code
Inside (Instr1-F.Loop type code) = IsTypedCode code
Inside (Instr1-F.If type first second) = IsTypedCode first × IsTypedCode second
Inside (Instr1-F.Float k at) = ⊥
Inside _ = Unit {0}

block_inside : (type : BlockType1) (code : List Instr1) → IsTypedCode code → Inside (out-Instr1 (instrs.Block type code))
block_inside type code h = simp the_lemmas h

loop_inside : (type : BlockType1) (code : List Instr1) → IsTypedCode code → Inside (out-Instr1 (instrs.Loop type code))
loop_inside type code h = simp the_lemmas h

arms_inside : (type : BlockType1) (first second : List Instr1) → IsTypedCode first × IsTypedCode second → Inside (out-Instr1 (instrs.If type first second))
arms_inside type first second h = simp the_lemmas h

inside : (c : Context) (i : Instr1) (takes gives : List Ty1) → Typed c i takes gives → Inside (out-Instr1 i)
unfolding out-Instr1 denote.Hole.Carrier.out
inside _ _ _ _ (t.pure c i op e) = subst (λ j. Inside (out-Instr1 j)) (sym e) tt
inside _ _ _ _ (t.drop c i a e) = subst (λ j. Inside (out-Instr1 j)) (sym e) tt
inside _ _ _ _ (t.select c i a e) = subst (λ j. Inside (out-Instr1 j)) (sym e) tt
inside _ _ _ _ (t.local_get c i x a e h) = subst (λ j. Inside (out-Instr1 j)) (sym e) tt
inside _ _ _ _ (t.local_set c i x a e h) = subst (λ j. Inside (out-Instr1 j)) (sym e) tt
inside _ _ _ _ (t.local_tee c i x a e h) = subst (λ j. Inside (out-Instr1 j)) (sym e) tt
inside _ _ _ _ (t.global_get c i x g e h) = subst (λ j. Inside (out-Instr1 j)) (sym e) tt
inside _ _ _ _ (t.global_set c i x g e h k) = subst (λ j. Inside (out-Instr1 j)) (sym e) tt
inside _ _ _ _ (t.load c i op arg e h k) = subst (λ j. Inside (out-Instr1 j)) (sym e) tt
inside _ _ _ _ (t.store c i op arg e h k) = subst (λ j. Inside (out-Instr1 j)) (sym e) tt
inside _ _ _ _ (t.memory_size c i e h) = subst (λ j. Inside (out-Instr1 j)) (sym e) tt
inside _ _ _ _ (t.memory_grow c i e h) = subst (λ j. Inside (out-Instr1 j)) (sym e) tt
inside _ _ _ _ (t.nop c i e) = subst (λ j. Inside (out-Instr1 j)) (sym e) tt
inside _ _ _ _ (t.unreachable c i below after e) = subst (λ j. Inside (out-Instr1 j)) (sym e) tt
inside _ _ _ _ (t.block c i type code e s a k) = subst (λ j. Inside (out-Instr1 j)) (sym e) (block_inside type code (record { context = _; before = _; after = _; typed = k }))
inside _ _ _ _ (t.loop c i type code e s a k) = subst (λ j. Inside (out-Instr1 j)) (sym e) (loop_inside type code (record { context = _; before = _; after = _; typed = k }))
inside _ _ _ _ (t.choice c i type first second e s s2 a k k2) = subst (λ j. Inside (out-Instr1 j)) (sym e) (arms_inside type first second (record { context = _; before = _; after = _; typed = k }, record { context = _; before = _; after = _; typed = k2 }))
inside _ _ _ _ (t.br c i l ts below after e h) = subst (λ j. Inside (out-Instr1 j)) (sym e) tt
inside _ _ _ _ (t.br_if c i l ts e h) = subst (λ j. Inside (out-Instr1 j)) (sym e) tt
inside _ _ _ _ (t.br_table c i ls last ts below after e s a h) = subst (λ j. Inside (out-Instr1 j)) (sym e) tt
inside _ _ _ _ (t.leave c i ts below after e h) = subst (λ j. Inside (out-Instr1 j)) (sym e) tt
inside _ _ _ _ (t.call c i x f e h) = subst (λ j. Inside (out-Instr1 j)) (sym e) tt
inside _ _ _ _ (t.call_indirect c i x f e h k) = subst (λ j. Inside (out-Instr1 j)) (sym e) tt

pub typed_block : (i : Instr1) (type : BlockType1) (code : List Instr1) → i ≡ instrs.Block type code → IsTypedInstr i → IsTypedCode code
typed_block i type code e h = simp the_lemmas at (subst (λ j. Inside (out-Instr1 j)) e (inside h.context i h.takes h.gives h.typed))

pub typed_loop : (i : Instr1) (type : BlockType1) (code : List Instr1) → i ≡ instrs.Loop type code → IsTypedInstr i → IsTypedCode code
typed_loop i type code e h = simp the_lemmas at (subst (λ j. Inside (out-Instr1 j)) e (inside h.context i h.takes h.gives h.typed))

typed_arms : (i : Instr1) (type : BlockType1) (first second : List Instr1) → i ≡ instrs.If type first second → IsTypedInstr i → IsTypedCode first × IsTypedCode second
typed_arms i type first second e h = simp the_lemmas at (subst (λ j. Inside (out-Instr1 j)) e (inside h.context i h.takes h.gives h.typed))

pub typed_first : (i : Instr1) (type : BlockType1) (first second : List Instr1) → i ≡ instrs.If type first second → IsTypedInstr i → IsTypedCode first
typed_first i type first second e h = (typed_arms i type first second e h).0

pub typed_second : (i : Instr1) (type : BlockType1) (first second : List Instr1) → i ≡ instrs.If type first second → IsTypedInstr i → IsTypedCode second
typed_second i type first second e h = (typed_arms i type first second e h).1

pub ruleset inside_typed = (typed_block, typed_loop, typed_first, typed_second)

pub no_float : (k : ℕ) (at : FloatImmediates1) → IsTypedInstr (instrs.Float k at) → ⊥
unfolding out-Instr1 denote.Hole.Carrier.out
no_float k at h = inside h.context (instrs.Float k at) h.takes h.gives h.typed

-- each instruction of typed code is typed
each_typed : (c : Context) (code : List Instr1) (before after : List Ty1) → TypedCode c code before after → AllByRecursion IsTypedInstr code
each_typed _ _ _ _ (t.none c stack) = tt
each_typed _ _ _ _ (t.more c i code below takes gives after h k) = (record { context = c; takes = takes; gives = gives; typed = h }, each_typed c code (_) after k)

pub all_typed : (code : List Instr1) → IsTypedCode code → All IsTypedInstr code
all_typed code h = All-from_recursion IsTypedInstr code (each_typed h.context code h.before h.after h.typed)
