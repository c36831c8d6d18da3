-- Whether the lists of a module are short, as a test.
use Rattle.std.specs.Prelude.{Bool, ◌&&◌}
use Rattle.core1_ast.specs.declared.module.parts.Module1.{Module1}
use Rattle.valid_core1.specs.Forms.{is_short}

abbrev pub lists_are_short : Module1 → Bool
lists_are_short m =
    is_short m.types && is_short m.imports && is_short m.funcs && is_short m.tables && is_short m.memories && is_short m.globals && is_short m.exports
    && is_short m.elems && is_short m.codes && is_short m.datas
