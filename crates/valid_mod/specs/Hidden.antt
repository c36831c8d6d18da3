-- The index spaces that tables and globals do not see.
use Rattle.std.specs.Prelude.{◌≡◌, length, map}
use Rattle.wasm_ast.specs.declared.module.parts.Module.{Module}
use Rattle.typed_trees.specs.Modules.{all_memories, all_tables, all_tags}
use Rattle.valid_mod.specs.declared.spaces.Hidden.{Hidden}

-- these are they
pub record AreHidden (m : Module) (hidden : Hidden) : Type 0 where
  pub tags : hidden.tags ≡ all_tags m
  pub tables : hidden.tables ≡ all_tables m
  pub elems : hidden.elems ≡ map (λ e. e.ty) m.elems
  pub memories : hidden.memories ≡ all_memories m
  pub datas : hidden.datas ≡ length m.datas
