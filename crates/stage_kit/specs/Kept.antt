-- An instruction that a stage does not name: its bodies are rewritten, and nothing else of it is changed.
use Rattle.std.specs.Prelude.{List, [], ◌∷◌}
use Rattle.wasm_ast.specs.declared.module.code.Instr.{Instr, roll-Instr}
use Rattle.wasm_ast.specs.declared.module.code.Instr.TheOpen.{Instr-F}
use Rattle.wasm_ast.specs.declared.module.code.Instr.TheFolds.{map-Instr}
use Rattle.simulation_kit.specs.Rewriting.{body_at}

-- an instruction with other bodies; one without a body is what it is
abbrev pub with_code : {X : Type 0} → (List X → List Instr) → Instr-F X → Instr-F Instr
with_code g (Instr-F.Block t code) = Instr-F.Block t (g code)
with_code g (Instr-F.Loop t code) = Instr-F.Loop t (g code)
with_code g (Instr-F.If t first second) = Instr-F.If t (g first) (g second)
with_code g (Instr-F.TryTable t clauses code) = Instr-F.TryTable t clauses (g code)
with_code {X = X} g l = map-Instr X Instr (λ x. roll-Instr Instr-F.Nop) l

-- it stays, with its bodies rewritten at a place
abbrev pub keep : {X : Type 0} → X → Instr-F (X → List Instr) → List Instr
keep inner l = roll-Instr (with_code (body_at inner) l) ∷ []
