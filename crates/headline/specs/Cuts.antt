-- From a module whose bodies were cut to the module as it was read: what is known of the one and a module of 1.0 is known
-- of the other.
use Rattle.std.specs.Prelude.{◌≡◌, ℕ, ◌+◌, ◌≤◌, List, []}
use Rattle.wasm_ast.specs.Region.{fixed_pages}
use Rattle.wasm_ast.specs.declared.module.parts.Module.{Module}
use Rattle.core1_ast.specs.declared.module.parts.Module1.{Module1}
use Rattle.valid_mod.specs.Meaning.{SameRuns}
use Rattle.stage_entry.specs.Cut.{pages}
use Rattle.headline.specs.Headline.{StaysDirect, Same}
use Rattle.headline.specs.MappedInterface.{SameInterface}

-- Both have the same parts beside bodies and the same runs. The module that was cut counts no more pages, and has no
-- feature that the other lacks.
pub record IsCut (m cut : Module) : Type 0 where
  pub parts : record cut { codes = [] } ≡ record m { codes = [] }
  pub runs : SameRuns m cut
  pub pages : (sizes : List ℕ) → fixed_pages cut + pages cut sizes ≤ fixed_pages m + pages m sizes
  pub direct : StaysDirect m → StaysDirect cut

abbrev pub CutsAreSame : Type 0
CutsAreSame = (m cut : Module) (m1 : Module1) (a b captures : ℕ) → IsCut m cut → Same a b cut m1 captures → Same a b m m1 captures

abbrev pub CutsAreLinkedAlike : Type 0
CutsAreLinkedAlike = (m cut : Module) (m1 : Module1) → IsCut m cut → SameInterface cut m1 → SameInterface m m1
