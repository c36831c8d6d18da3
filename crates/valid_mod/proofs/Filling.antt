-- No rule of a part asks for the bodies: where a part is typed, it is so whatever the bodies of the module are.
use Rattle.std.proofs.Common.{◌≡◌, ℕ, ◌<◌, List, [], length, Option, Some, None, IfSome, slice_get, Result, Ok, Err, refl, ap, sym, subst, arith}
use Rattle.wasm_ast.specs.declared.module.ty.Ty.{Ty}
use Rattle.wasm_ast.specs.declared.module.code.Instr.{Instr}
use Rattle.wasm_ast.specs.declared.module.code.Body.{Body as Code}
use Rattle.wasm_ast.specs.declared.module.parts.ImportDesc.{ImportDesc}
use Rattle.wasm_ast.specs.declared.module.parts.ImportDesc.TheVariants as imports
use Rattle.wasm_ast.specs.declared.module.parts.Import.{Import}
use Rattle.wasm_ast.specs.declared.module.parts.Table.{Table}
use Rattle.wasm_ast.specs.declared.module.parts.Global.{Global}
use Rattle.wasm_ast.specs.declared.module.parts.Export.{Export}
use Rattle.wasm_ast.specs.declared.module.parts.ExportDesc.{ExportDesc}
use Rattle.wasm_ast.specs.declared.module.parts.ExportDesc.TheVariants as exports
use Rattle.wasm_ast.specs.declared.module.parts.Mode.{Mode}
use Rattle.wasm_ast.specs.declared.module.parts.Mode.TheVariants.{Active, Passive, Declarative}
use Rattle.wasm_ast.specs.declared.module.parts.Element.{Element}
use Rattle.wasm_ast.specs.declared.module.parts.Segment.{Segment}
use Rattle.wasm_ast.specs.declared.module.parts.Module.{Module}
use Rattle.typed_trees.specs.declared.global_type.GlobalType.{GlobalType}
use Rattle.typed_trees.specs.Modules.{TypedImport, TypedTag, TypedTable, TypedInitialiser, TypedGlobal, TypedDesc, TypedStart, TypedElement, TypedElementMode, TypedSegment, TypedSegmentMode, TypedParts}
use Rattle.valid_mod.specs.declared.invalid.Invalid.{Invalid}
use Rattle.valid_mod.specs.declared.invalid.Invalid.TheVariants.{Part, Body, Memory}
use Rattle.valid_mod.specs.Bodies.{filled}
use Rattle.valid_mod.specs.Parts.{Section, Types, Imports, Functions, Tables, Memories, Tags, Globals, Exports, Start, Elements, Segments, count, globals_before, IsNew, PartTyped}
use Rattle.valid_mod.specs.Verdict.{SectionTyped, SectionsTyped, FirstPart, TellsOfSections}
use Rattle.valid_mod.proofs.Order.{all_sections}
use Rattle.valid_mod.proofs.Whole.{parts_from, parts_typed}

-- of an item, if there is one
some_map : {X : Type 0} (P Q : X → Type 0) → ((x : X) → P x → Q x) → (o : Option X) → IfSome o P → IfSome o Q
some_map P Q f None h = tt
some_map P Q f (Some x) h = f x h

module _ (m : Module) (bodies : List Code) where
  tag_filled : (t : ℕ) → TypedTag m t → TypedTag (filled m bodies) t
  tag_filled t h = record { type = h.type; declared = h.declared; results = h.results }

  import_filled : (desc : ImportDesc) → TypedImport m desc → TypedImport (filled m bodies) desc
  import_filled (imports.Func t) h = h
  import_filled (imports.Table t l) h = h
  import_filled (imports.Memory l) h = h
  import_filled (imports.Global t mutable) h = h
  import_filled (imports.Tag t) h = tag_filled t h

  init_filled : (t : Ty) (init : Option (List Instr)) → TypedInitialiser m t init → TypedInitialiser (filled m bodies) t init
  init_filled t None h = h
  init_filled t (Some code) h = h

  table_filled : (t : Table) → TypedTable m t → TypedTable (filled m bodies) t
  table_filled t h = record { type = h.type; init = init_filled t.ty t.init h.init }

  global_filled : (before : List GlobalType) (g : Global) → TypedGlobal m before g → TypedGlobal (filled m bodies) before g
  global_filled before g h = record { type = h.type; init = h.init }

  desc_filled : (desc : ExportDesc) → TypedDesc m desc → TypedDesc (filled m bodies) desc
  desc_filled (exports.Func x) h = h
  desc_filled (exports.Table x) h = h
  desc_filled (exports.Memory x) h = h
  desc_filled (exports.Global x) h = h
  desc_filled (exports.Tag x) h = h

  start_filled : (start : Option ℕ) → TypedStart m start → TypedStart (filled m bodies) start
  start_filled None h = tt
  start_filled (Some x) h = record { type = h.type; declared = h.declared; params = h.params; results = h.results }

  element_mode_filled : (t : Ty) (mode : Mode) → TypedElementMode m t mode → TypedElementMode (filled m bodies) t mode
  element_mode_filled t (Active table offset) h = record { type = h.type; declared = h.declared; serves = h.serves; offset = h.offset }
  element_mode_filled t Passive h = tt
  element_mode_filled t Declarative h = tt

  element_filled : (e : Element) → TypedElement m e → TypedElement (filled m bodies) e
  element_filled e h = record { type = h.type; items = h.items; mode = element_mode_filled e.ty e.mode h.mode }

  segment_mode_filled : (mode : Mode) → TypedSegmentMode m mode → TypedSegmentMode (filled m bodies) mode
  segment_mode_filled (Active memory offset) h = record { limits = h.limits; declared = h.declared; offset = h.offset }
  segment_mode_filled Passive h = tt
  segment_mode_filled Declarative h = h

  segment_filled : (s : Segment) → TypedSegment m s → TypedSegment (filled m bodies) s
  segment_filled s h = segment_mode_filled s.mode h

  pub part_filled : (s : Section) (k : ℕ) → PartTyped m s k → PartTyped (filled m bodies) s k
  part_filled Types k h = h
  part_filled Imports k h = some_map (λ i. TypedImport m i.desc) (λ i. TypedImport (filled m bodies) i.desc) (λ (i : Import). import_filled i.desc) (slice_get m.imports k) h
  part_filled Functions k h = h
  part_filled Tables k h = some_map (TypedTable m) (TypedTable (filled m bodies)) table_filled (slice_get m.tables k) h
  part_filled Memories k h = h
  part_filled Tags k h = some_map (TypedTag m) (TypedTag (filled m bodies)) tag_filled (slice_get m.tags k) h
  part_filled Globals k h = some_map (TypedGlobal m (globals_before m k)) (TypedGlobal (filled m bodies) (globals_before m k)) (global_filled (globals_before m k)) (slice_get m.globals k) h
  part_filled Exports k h = some_map (λ e. TypedDesc m e.desc × IsNew m.exports k e) (λ e. TypedDesc (filled m bodies) e.desc × IsNew m.exports k e) (λ (e : Export) p. (desc_filled e.desc p.0, p.1)) (slice_get m.exports k) h
  part_filled Start k h = start_filled m.start h
  part_filled Elements k h = some_map (TypedElement m) (TypedElement (filled m bodies)) element_filled (slice_get m.elems k) h
  part_filled Segments k h = some_map (TypedSegment m) (TypedSegment (filled m bodies)) segment_filled (slice_get m.datas k) h

  count_filled : (s : Section) → count (filled m bodies) s ≡ count m s
  count_filled Types = refl
  count_filled Imports = refl
  count_filled Functions = refl
  count_filled Tables = refl
  count_filled Memories = refl
  count_filled Tags = refl
  count_filled Globals = refl
  count_filled Exports = refl
  count_filled Start = refl
  count_filled Elements = refl
  count_filled Segments = refl

  section_filled : (s : Section) → SectionTyped m s → SectionTyped (filled m bodies) s
  section_filled s h k l = part_filled s k (h k (subst (λ n. k < n) (count_filled s) l))

  pub sections_filled : SectionsTyped m 11 → (s : Section) → SectionTyped (filled m bodies) s
  sections_filled h s = section_filled s (all_sections m h s)

  pub parts_filled : TypedParts m → TypedParts (filled m bodies)
  parts_filled h = parts_from (filled m bodies) (λ s. section_filled s (parts_typed m h s))

module _ (m : Module) (bodies : List Code) where
  -- a module is itself with other bodies and then with its own
  first_filled : (s : Section) (place : ℕ) → FirstPart m s place → FirstPart (filled m bodies) s place
  first_filled s place h = record {
    within = subst (λ n. place < n) (sym (count_filled m bodies s)) h.within;
    sections_before = λ t l. section_filled m bodies t (h.sections_before t l);
    places_before = λ k l. part_filled m bodies s k (h.places_before k l);
    untyped = λ p. h.untyped (part_filled (filled m bodies) m.codes s place p);
  }

  -- what a verdict on the sections of a module without bodies says, it says of the module with any
  pub sections_tell : m.codes ≡ [] → (n : ℕ) (r : Result (Unit {0}) Invalid) → TellsOfSections m n r → TellsOfSections (filled m bodies) n r
  sections_tell none n (Ok done) h = λ s l. section_filled m bodies s (h s l)
  sections_tell none n (Err (Part section place)) h = (h.0, h.1, first_filled h.0 place h.2)
  sections_tell none n (Err (Body place)) h = let least : length m.codes ≡ 0 = ap length none in absurd (omega (arith, least, h.within))
  sections_tell none n (Err (Memory e)) h = tt
