-- A module with a typed select, a call, a memory and a data segment crosses.
use Rattle.std.proofs.Common.{◌≡◌, Bool, true, false, List, [], ◌∷◌, None, refl, ap, ◌∙◌}
use Rattle.wasm_ast.specs.declared.module.ty.Ty.TheVariants as types
use Rattle.wasm_ast.specs.declared.module.op.Op.TheVariants as ops
use Rattle.wasm_ast.specs.declared.module.code.Instr.{Instr, roll-Instr, out-roll-Instr}
use Rattle.wasm_ast.specs.declared.module.code.Instr.TheOpen.{Instr-F}
use Rattle.wasm_ast.specs.declared.module.code.Instr.TheFolds.{map-Instr, fold-Instr, fold-roll-Instr}
use Rattle.wasm_ast.specs.declared.module.parts.Mode.TheVariants.{Active}
use Rattle.wasm_ast.specs.declared.module.parts.Module.{Module}
use Rattle.meaning_new.specs.Language.{language}
use Rattle.simulation_kit.specs.Fitting.{fits_step}
use Rattle.crossing.specs.Crossing.{crossing_test, InstrCrosses, is_constant, Crosses}

abbrev zero : Instr
zero = roll-Instr (Instr-F.Pure (ops.I32Const 0))

abbrev choice : List Instr
choice = roll-Instr (Instr-F.LocalGet 0) ∷ (zero ∷ (roll-Instr (Instr-F.LocalGet 0) ∷ (roll-Instr (Instr-F.SelectTyped (types.I32 ∷ [])) ∷ (roll-Instr (Instr-F.Call 0) ∷ []))))

abbrev example : Module
example = record {
  types = record { params = types.I32 ∷ []; results = types.I32 ∷ [] } ∷ [];
  imports = [];
  funcs = 0 ∷ [];
  tables = [];
  memories = record { min = 1; max = None; wide = false } ∷ [];
  tags = [];
  globals = [];
  exports = [];
  start = None;
  elems = [];
  data_count = None;
  codes = record { locals = []; code = choice } ∷ [];
  datas = record { mode = Active 0 (zero ∷ []); bytes = 1 ∷ [] } ∷ [];
}

fits : (l : Instr-F Instr) → fits_step (language example) (λ x. true) crossing_test (map-Instr Instr Bool (fold-Instr Bool (fits_step (language example) (λ x. true) crossing_test)) l) ≡ true → InstrCrosses example (roll-Instr l)
fits l h = fold-roll-Instr Bool (fits_step (language example) (λ x. true) crossing_test) l ∙ h

pub example_crosses : Crosses example
example_crosses = record {
  functions = record {
    types = (record { params = (refl, tt); results = (refl, tt) }, tt);
    codes = (
      record {
        locals = tt;
        code = (
          fits (Instr-F.LocalGet 0) refl,
          (fits (Instr-F.Pure (ops.I32Const 0)) refl, (fits (Instr-F.LocalGet 0) refl, (fits (Instr-F.SelectTyped (types.I32 ∷ [])) refl, (fits (Instr-F.Call 0) refl, tt)))),
        );
      },
      tt,
    );
  };
  globals = record { imported = tt; all = tt };
  parts = record { globals = tt; memories = (refl, tt); tables = tt };
  segments = record { elems = tt; datas = ((ap (is_constant 0) (out-roll-Instr (Instr-F.Pure (ops.I32Const 0))), tt), tt) };
}
