-- The limits of a file, in the order in which they are tested. They are this project's own.
use Rattle.std.specs.Prelude.{◌≡◌, ℕ, ◌≤◌, List, [], ◌∷◌, ◌++◌, Some, IfSome, slice_get}
use Rattle.std.specs.List.{AllByRecursion}
use Rattle.wasm_frame.specs.Payloads.{FirstWithout}
use Rattle.module_reading.specs.declared.kind.Kind.{Kind}
use Rattle.module_reading.specs.declared.kind.Kind.TheVariants as kind
use Rattle.module_reading.specs.Format.{Format}

-- the most bytes that a file may have
abbrev pub file_limit : ℕ
file_limit = 67108864

-- the kinds whose numbers are known before anything of the module is built
abbrev pub front_kinds : List Kind
front_kinds =
    kind.Types ∷ kind.Imports ∷ kind.Functions ∷ kind.Tables ∷ kind.Memories ∷ kind.Tags ∷ kind.Globals ∷ kind.Exports ∷ kind.Elements
    ∷ kind.Segments ∷ kind.Parameters ∷ kind.Results ∷ kind.Locals ∷ []

-- and those behind them, the first of which needs the function types
abbrev pub last_kinds : List Kind
last_kinds = kind.Payload ∷ kind.Nesting ∷ []

-- the order of the tests
abbrev pub kinds : List Kind
kinds = front_kinds ++ last_kinds

module _ {Module : Type 0} (f : Format Module) where
  -- a number of this kind does not pass its limit, if it has one
  abbrev pub IsWithin : Kind → ℕ → Type 0
  IsWithin k n = IfSome (f.limit k) (λ most. n ≤ most)

  -- no number of the module passes its limit
  abbrev pub IsWithinLimits : Module → Type 0
  IsWithinLimits m = AllByRecursion (λ k. IsWithin k (f.number k m)) kinds

  -- the first kind in order whose number passes its limit
  abbrev pub FirstPassed : Module → Kind → Type 0
  FirstPassed m k = (i : ℕ) × (slice_get kinds i ≡ Some k) × FirstWithout (λ j. IsWithin j (f.number j m)) kinds i
