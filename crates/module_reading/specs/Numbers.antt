-- The numbers of a file, by kind.
use Rattle.std.specs.Prelude.{◌≡◌, ℕ, List, [], ◌∷◌, Some, IfSome, slice_get}
use Rattle.std.specs.List.{AllByRecursion}
use Rattle.wasm_frame.specs.Payloads.{FirstWithout}
use Rattle.module_reading.specs.declared.kind.Kind.{Kind}
use Rattle.module_reading.specs.declared.kind.Kind.TheVariants as kind
use Rattle.module_reading.specs.declared.numbers.Numbers.{Numbers}
use Rattle.module_reading.specs.Format.{Format}
use Rattle.module_reading.specs.Files.{Sectioned, payloads}
use Rattle.module_reading.specs.Limits.{IsWithin, front_kinds}
use Rattle.module_reading.specs.Means.{Means}
use Rattle.module_reading.specs.Spells.{Spells}

abbrev pub number_in : Numbers → Kind → ℕ
number_in n kind.Types = n.types
number_in n kind.Imports = n.imports
number_in n kind.Functions = n.functions
number_in n kind.Tables = n.tables
number_in n kind.Memories = n.memories
number_in n kind.Tags = n.tags
number_in n kind.Globals = n.globals
number_in n kind.Exports = n.exports
number_in n kind.Elements = n.elements
number_in n kind.Segments = n.segments
number_in n kind.Parameters = n.parameters
number_in n kind.Results = n.results
number_in n kind.Locals = n.locals
number_in n kind.Payload = n.payload
number_in n kind.Nesting = n.nesting

module _ {Module : Type 0} (f : Format Module) where
  -- the numbers of these kinds are those of the module, wherever the version has a limit
  abbrev pub AreOf : List Kind → Numbers → Module → Type 0
  AreOf ks n m = AllByRecursion (λ k. IfSome (f.limit k) (λ most. number_in n k ≡ f.number k m)) ks

  -- no number of these kinds passes its limit
  abbrev pub AllWithin : List Kind → Numbers → Type 0
  AllWithin ks n = AllByRecursion (λ k. IsWithin f k (number_in n k)) ks

  -- the first kind of the list whose number passes its limit
  abbrev pub IsFirstPassed : List Kind → Numbers → Kind → Type 0
  IsFirstPassed ks n k = (i : ℕ) × (slice_get ks i ≡ Some k) × FirstWithout (λ j. IsWithin f j (number_in n j)) ks i

  -- a file spells the module of its payloads, and the numbers that are known before anything of it is built pass no limit
  pub record IsFront (means : Means f) (file : Sectioned) (n : Numbers) : Type 0 where
    pub spells : Spells f file.bytes (means.made (payloads file))
    pub front : AreOf front_kinds n (means.made (payloads file))
    pub within : AllWithin front_kinds n
    pub nesting : AreOf (kind.Nesting ∷ []) n (means.made (payloads file))
