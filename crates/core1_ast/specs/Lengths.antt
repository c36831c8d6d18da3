-- That every list of a module has fewer than 2 ^ 32 items, those inside its items too ("Vectors" of chapter 2). Of the
-- lists inside code the rules of code say it.
use Rattle.std.specs.Prelude.{◌<◌, ◌^◌, List, length}
use Rattle.std.specs.List.{AllByRecursion}
use Rattle.core1_ast.specs.declared.module.ty.FuncType1.{FuncType1}
use Rattle.core1_ast.specs.declared.module.code.Body1.{Body1}
use Rattle.core1_ast.specs.declared.module.parts.Import1.{Import1}
use Rattle.core1_ast.specs.declared.module.parts.Element1.{Element1}
use Rattle.core1_ast.specs.declared.module.parts.Segment1.{Segment1}
use Rattle.core1_ast.specs.declared.module.parts.Module1.{Module1}

abbrev pub IsShort : {A : Type 0} → List A → Type 0
IsShort xs = length xs < 2 ^ 32

pub record IsShortType (t : FuncType1) : Type 0 where
  pub params : IsShort t.params
  pub results : IsShort t.results

pub record IsShortImport (i : Import1) : Type 0 where
  pub «module» : IsShort i.«module»
  pub name : IsShort i.name

pub record IsShortElement (e : Element1) : Type 0 where
  pub offset : IsShort e.offset
  pub items : IsShort e.items

pub record IsShortBody (body : Body1) : Type 0 where
  pub locals : IsShort body.locals
  pub code : IsShort body.code

pub record IsShortSegment (s : Segment1) : Type 0 where
  pub offset : IsShort s.offset
  pub bytes : IsShort s.bytes

pub record IsShortModule (m : Module1) : Type 0 where
  pub types : IsShort m.types
  pub imports : IsShort m.imports
  pub funcs : IsShort m.funcs
  pub tables : IsShort m.tables
  pub memories : IsShort m.memories
  pub globals : IsShort m.globals
  pub exports : IsShort m.exports
  pub elems : IsShort m.elems
  pub codes : IsShort m.codes
  pub datas : IsShort m.datas
  pub in_types : AllByRecursion IsShortType m.types
  pub in_imports : AllByRecursion IsShortImport m.imports
  pub in_globals : AllByRecursion (λ g. IsShort g.init) m.globals
  pub in_exports : AllByRecursion (λ e. IsShort e.name) m.exports
  pub in_elems : AllByRecursion IsShortElement m.elems
  pub in_codes : AllByRecursion IsShortBody m.codes
  pub in_datas : AllByRecursion IsShortSegment m.datas
