-- The order of the parts, and the answers of a search through them.
use Rattle.std.proofs.Common.{◌≡◌, ℕ, ◌<◌, Option, Some, None, Err, refl, sym, subst, arith}
use Rattle.core1_ast.specs.declared.module.parts.Module1.{Module1}
use Rattle.core1_ast.specs.Typing.{TypedStart}
use Rattle.valid_core1.specs.declared.invalid.Invalid.{Invalid}
use Rattle.valid_core1.specs.declared.invalid.Invalid.TheVariants.{Part}
use Rattle.valid_core1.specs.Sections.{Finds}
use Rattle.valid_core1.specs.Parts.{Section, Types, Imports, Functions, Tables, Memories, Globals, Exports, Start, Elements, Segments, id, count, PartTyped}
use Rattle.valid_core1.specs.Verdict.{SectionTyped, TellsOfParts}

module _ (m : Module1) where
  -- the part is the first that is not typed, where those of the sections before it are
  pub refused : (s : Section) (place : ℕ) (fault : Invalid) → fault ≡ Part (id s) place → ((t : Section) → id t < id s → SectionTyped m t) → Finds (PartTyped m s) (count m s) (Some place) → TellsOfParts m (Err fault)
  refused s place fault e before f =
      subst (λ x. TellsOfParts m (Err x)) (sym e)
      (s, refl, record { within = f.0; sections_before = before; places_before = f.1; untyped = f.2 })

  pub found_at : (s : Section) (r : Option ℕ) (place : ℕ) → r ≡ Some place → Finds (PartTyped m s) (count m s) r → Finds (PartTyped m s) (count m s) (Some place)
  found_at s r place e f = subst (Finds (PartTyped m s) (count m s)) e f

  pub found_none : (s : Section) (r : Option ℕ) → r ≡ None → Finds (PartTyped m s) (count m s) r → SectionTyped m s
  found_none s r e f = subst (Finds (PartTyped m s) (count m s)) e f

  -- the start is the only part of its section
  pub start_typed : TypedStart m m.start → SectionTyped m Start
  start_typed h k l = h

  pub start_untyped : (TypedStart m m.start → ⊥) → Finds (PartTyped m Start) (count m Start) (Some 0)
  start_untyped h = (omega arith, λ k l. absurd (omega arith), h)

  -- the sections before each
  pub before_type : (t : Section) → id t < id Types → SectionTyped m t
  before_type Types h = absurd (omega arith)
  before_type Imports h = absurd (omega arith)
  before_type Functions h = absurd (omega arith)
  before_type Tables h = absurd (omega arith)
  before_type Memories h = absurd (omega arith)
  before_type Globals h = absurd (omega arith)
  before_type Exports h = absurd (omega arith)
  before_type Start h = absurd (omega arith)
  before_type Elements h = absurd (omega arith)
  before_type Segments h = absurd (omega arith)

  pub before_import : SectionTyped m Types → (t : Section) → id t < id Imports → SectionTyped m t
  before_import types Types h = types
  before_import types _ h = absurd (omega arith)

  pub before_func : SectionTyped m Types → SectionTyped m Imports → (t : Section) → id t < id Functions → SectionTyped m t
  before_func types imports Types h = types
  before_func types imports Imports h = imports
  before_func types imports _ h = absurd (omega arith)

  pub before_table : SectionTyped m Types → SectionTyped m Imports → SectionTyped m Functions → (t : Section) → id t < id Tables → SectionTyped m t
  before_table types imports funcs Types h = types
  before_table types imports funcs Imports h = imports
  before_table types imports funcs Functions h = funcs
  before_table types imports funcs _ h = absurd (omega arith)

  pub before_memory : SectionTyped m Types → SectionTyped m Imports → SectionTyped m Functions → SectionTyped m Tables → (t : Section) → id t < id Memories → SectionTyped m t
  before_memory types imports funcs tables Types h = types
  before_memory types imports funcs tables Imports h = imports
  before_memory types imports funcs tables Functions h = funcs
  before_memory types imports funcs tables Tables h = tables
  before_memory types imports funcs tables _ h = absurd (omega arith)

  pub before_global : SectionTyped m Types → SectionTyped m Imports → SectionTyped m Functions → SectionTyped m Tables → SectionTyped m Memories → (t : Section) → id t < id Globals → SectionTyped m t
  before_global types imports funcs tables memorys Types h = types
  before_global types imports funcs tables memorys Imports h = imports
  before_global types imports funcs tables memorys Functions h = funcs
  before_global types imports funcs tables memorys Tables h = tables
  before_global types imports funcs tables memorys Memories h = memorys
  before_global types imports funcs tables memorys _ h = absurd (omega arith)

  pub before_export : SectionTyped m Types → SectionTyped m Imports → SectionTyped m Functions → SectionTyped m Tables → SectionTyped m Memories → SectionTyped m Globals → (t : Section) → id t < id Exports → SectionTyped m t
  before_export types imports funcs tables memorys globals Types h = types
  before_export types imports funcs tables memorys globals Imports h = imports
  before_export types imports funcs tables memorys globals Functions h = funcs
  before_export types imports funcs tables memorys globals Tables h = tables
  before_export types imports funcs tables memorys globals Memories h = memorys
  before_export types imports funcs tables memorys globals Globals h = globals
  before_export types imports funcs tables memorys globals _ h = absurd (omega arith)

  pub before_start : SectionTyped m Types → SectionTyped m Imports → SectionTyped m Functions → SectionTyped m Tables → SectionTyped m Memories → SectionTyped m Globals → SectionTyped m Exports → (t : Section) → id t < id Start → SectionTyped m t
  before_start types imports funcs tables memorys globals exports Types h = types
  before_start types imports funcs tables memorys globals exports Imports h = imports
  before_start types imports funcs tables memorys globals exports Functions h = funcs
  before_start types imports funcs tables memorys globals exports Tables h = tables
  before_start types imports funcs tables memorys globals exports Memories h = memorys
  before_start types imports funcs tables memorys globals exports Globals h = globals
  before_start types imports funcs tables memorys globals exports Exports h = exports
  before_start types imports funcs tables memorys globals exports _ h = absurd (omega arith)

  pub before_element : SectionTyped m Types → SectionTyped m Imports → SectionTyped m Functions → SectionTyped m Tables → SectionTyped m Memories → SectionTyped m Globals → SectionTyped m Exports → SectionTyped m Start → (t : Section) → id t < id Elements → SectionTyped m t
  before_element types imports funcs tables memorys globals exports starts Types h = types
  before_element types imports funcs tables memorys globals exports starts Imports h = imports
  before_element types imports funcs tables memorys globals exports starts Functions h = funcs
  before_element types imports funcs tables memorys globals exports starts Tables h = tables
  before_element types imports funcs tables memorys globals exports starts Memories h = memorys
  before_element types imports funcs tables memorys globals exports starts Globals h = globals
  before_element types imports funcs tables memorys globals exports starts Exports h = exports
  before_element types imports funcs tables memorys globals exports starts Start h = starts
  before_element types imports funcs tables memorys globals exports starts _ h = absurd (omega arith)

  pub before_segment : SectionTyped m Types → SectionTyped m Imports → SectionTyped m Functions → SectionTyped m Tables → SectionTyped m Memories → SectionTyped m Globals → SectionTyped m Exports → SectionTyped m Start → SectionTyped m Elements → (t : Section) → id t < id Segments → SectionTyped m t
  before_segment types imports funcs tables memorys globals exports starts elements Types h = types
  before_segment types imports funcs tables memorys globals exports starts elements Imports h = imports
  before_segment types imports funcs tables memorys globals exports starts elements Functions h = funcs
  before_segment types imports funcs tables memorys globals exports starts elements Tables h = tables
  before_segment types imports funcs tables memorys globals exports starts elements Memories h = memorys
  before_segment types imports funcs tables memorys globals exports starts elements Globals h = globals
  before_segment types imports funcs tables memorys globals exports starts elements Exports h = exports
  before_segment types imports funcs tables memorys globals exports starts elements Start h = starts
  before_segment types imports funcs tables memorys globals exports starts elements Elements h = elements
  before_segment types imports funcs tables memorys globals exports starts elements _ h = absurd (omega arith)
