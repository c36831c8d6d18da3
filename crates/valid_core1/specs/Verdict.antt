-- What each answer of `validate1` says of a module.
use Rattle.std.specs.Prelude.{◌≡◌, ℕ, ◌<◌, length, Result, Ok, Err}
use Rattle.core1_ast.specs.declared.module.parts.Module1.{Module1}
use Rattle.core1_ast.specs.Typing.{Typed1}
use Rattle.valid_core1.specs.declared.invalid.Invalid.{Invalid}
use Rattle.valid_core1.specs.declared.invalid.Invalid.TheVariants.{Part, Body, Memory}
use Rattle.valid_core1.specs.Parts.{Section, id, count, PartTyped, BodyTyped}

-- each part of the section is typed
abbrev pub SectionTyped : Module1 → Section → Type 0
SectionTyped m s = (k : ℕ) → k < count m s → PartTyped m s k

-- the part at the place of the section is the first that is not typed
pub record FirstPart (m : Module1) (section : Section) (place : ℕ) : Type 0 where
  pub within : place < count m section
  pub sections_before : (s : Section) → id s < id section → SectionTyped m s
  pub places_before : (k : ℕ) → k < place → PartTyped m section k
  pub untyped : PartTyped m section place → ⊥

-- all parts are typed, and the body at the place is the first that is not
pub record FirstBody (m : Module1) (place : ℕ) : Type 0 where
  pub within : place < length m.codes
  pub parts : (s : Section) → SectionTyped m s
  pub places_before : (k : ℕ) → k < place → BodyTyped m k
  pub untyped : BodyTyped m place → ⊥

-- what the answer says; nothing is said where memory was not found
abbrev pub Tells : Module1 → Result Module1 Invalid → Type 0
Tells m (Ok found) = (found ≡ m) × Typed1 m
Tells m (Err (Part section place)) = (s : Section) × (section ≡ id s) × FirstPart m s place
Tells m (Err (Body place)) = FirstBody m place
Tells m (Err (Memory e)) = Unit {0}

-- what the answer of a search through the parts says
abbrev pub TellsOfParts : Module1 → Result (Unit {0}) Invalid → Type 0
TellsOfParts m (Ok done) = (s : Section) → SectionTyped m s
TellsOfParts m (Err (Part section place)) = (s : Section) × (section ≡ id s) × FirstPart m s place
TellsOfParts m (Err (Body place)) = ⊥
TellsOfParts m (Err (Memory e)) = Unit {0}

-- what the answer of a search through parts and bodies says
abbrev pub TellsOfAll : Module1 → Result (Unit {0}) Invalid → Type 0
TellsOfAll m (Ok done) = Typed1 m
TellsOfAll m (Err fault) = Tells m (Err fault)

-- what `Tells` says, of an answer that is no want of memory
abbrev pub Settles : Module1 → Result Module1 Invalid → Type 0
Settles m (Err (Memory e)) = ⊥
Settles m (Ok found) = Tells m (Ok found)
Settles m (Err (Part section place)) = Tells m (Err (Part section place))
Settles m (Err (Body place)) = Tells m (Err (Body place))

-- the answer is the other one, unless memory was not found
abbrev pub Agrees : Result Module1 Invalid → Result Module1 Invalid → Type 0
Agrees (Err (Memory e)) other = Unit {0}
Agrees (Ok found) other = other ≡ Ok found
Agrees (Err (Part section place)) other = other ≡ Err (Part section place)
Agrees (Err (Body place)) other = other ≡ Err (Body place)
