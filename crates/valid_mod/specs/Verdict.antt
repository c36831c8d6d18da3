-- The verdict on a module, and what it says of the module.
use Rattle.std.specs.Prelude.{◌≡◌, ℕ, ◌<◌, length, Result, Ok, Err}
use Rattle.wasm_ast.specs.declared.module.parts.Module.{Module}
use Rattle.typed_trees.specs.Modules.{IsTyped}
use Rattle.valid_mod.specs.declared.invalid.Invalid.{Invalid}
use Rattle.valid_mod.specs.declared.invalid.Invalid.TheVariants.{Part, Body, Memory}
use Rattle.valid_mod.specs.Parts.{Section, id, order, count, PartTyped, BodyTyped}

-- what an answer says, whatever it gives with it
abbrev pub verdict_of : {A : Type 0} → Result A Invalid → Result (Unit {0}) Invalid
verdict_of (Ok found) = Ok tt
verdict_of (Err fault) = Err fault

-- each part of the section is typed
abbrev pub SectionTyped : Module → Section → Type 0
SectionTyped m s = (k : ℕ) → k < count m s → PartTyped m s k

-- each part of the first so many sections is typed
abbrev pub SectionsTyped : Module → ℕ → Type 0
SectionsTyped m n = (s : Section) → order s < n → SectionTyped m s

-- the part at the place of the section is the first that is not typed
pub record FirstPart (m : Module) (section : Section) (place : ℕ) : Type 0 where
  pub within : place < count m section
  pub sections_before : SectionsTyped m (order section)
  pub places_before : (k : ℕ) → k < place → PartTyped m section k
  pub untyped : PartTyped m section place → ⊥

-- all parts are typed, and the body at the place is the first that is not
pub record FirstBody (m : Module) (place : ℕ) : Type 0 where
  pub within : place < length m.codes
  pub parts : (s : Section) → SectionTyped m s
  pub places_before : (k : ℕ) → k < place → BodyTyped m k
  pub untyped : BodyTyped m place → ⊥

-- what the verdict says; nothing is said where memory was not found
abbrev pub Tells : Module → Result (Unit {0}) Invalid → Type 0
Tells m (Ok done) = IsTyped m
Tells m (Err (Part section place)) = (s : Section) × (section ≡ id s) × FirstPart m s place
Tells m (Err (Body place)) = FirstBody m place
Tells m (Err (Memory e)) = Unit {0}

-- what the verdict on the first so many sections says
abbrev pub TellsOfSections : Module → ℕ → Result (Unit {0}) Invalid → Type 0
TellsOfSections m n (Ok done) = SectionsTyped m n
TellsOfSections m n (Err fault) = Tells m (Err fault)

-- what `Tells` says, of a verdict that is no want of memory
abbrev pub Settles : Module → Result (Unit {0}) Invalid → Type 0
Settles m (Err (Memory e)) = ⊥
Settles m (Ok done) = Tells m (Ok done)
Settles m (Err (Part section place)) = Tells m (Err (Part section place))
Settles m (Err (Body place)) = Tells m (Err (Body place))

-- the verdict is the other one, unless memory was not found
abbrev pub IsVerdict : Result (Unit {0}) Invalid → Result (Unit {0}) Invalid → Type 0
IsVerdict (Err (Memory e)) other = Unit {0}
IsVerdict (Ok done) other = other ≡ Ok done
IsVerdict (Err (Part section place)) other = other ≡ Err (Part section place)
IsVerdict (Err (Body place)) other = other ≡ Err (Body place)
