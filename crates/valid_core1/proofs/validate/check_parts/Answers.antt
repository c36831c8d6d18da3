use Rattle.valid_core1.specs.Parts.{Types, Imports, Functions, Tables, Memories, Globals, Exports, Start, Elements, Segments}
use Rattle.valid_core1.proofs.Judging.{decided_yes, decided_no}
use Rattle.valid_core1.proofs.Order.{refused, found_at, found_none, start_typed, start_untyped, before_type, before_import, before_func, before_table, before_memory, before_global, before_export, before_start, before_element, before_segment}
use Rattle.valid_core1.proofs.validate.check_parts.Goals as goal

pub returns-in-Some : goal.returns-in-Some
returns-in-Some c =
    let m = c.args.m.now in
    refused m Types c.in-Some.place c.part.result c.part.ensures (before_type m) c.in-Some.ensures

pub returns-in-Some-first_import : goal.returns-in-Some-first_import
returns-in-Some-first_import c =
    let m = c.args.m.now in
    refused m Imports c.in-Some-first_import.place c.part-in-Some-first_import.result c.part-in-Some-first_import.ensures (before_import m c.in_default.ensures) c.in-Some-first_import.ensures

pub returns-in-Some-first_func : goal.returns-in-Some-first_func
returns-in-Some-first_func c =
    let m = c.args.m.now in
    refused m Functions c.in-Some-first_func.place c.part-in-Some-first_func.result c.part-in-Some-first_func.ensures (before_func m c.in_default.ensures c.in_default-first_import.ensures) c.in-Some-first_func.ensures

pub returns-in-Some-first_table : goal.returns-in-Some-first_table
returns-in-Some-first_table c =
    let m = c.args.m.now in
    refused m Tables c.in-Some-first_table.place c.part-in-Some-first_table.result c.part-in-Some-first_table.ensures (before_table m c.in_default.ensures c.in_default-first_import.ensures c.in_default-first_func.ensures) c.in-Some-first_table.ensures

pub returns-in-Some-first_memory : goal.returns-in-Some-first_memory
returns-in-Some-first_memory c =
    let m = c.args.m.now in
    refused m Memories c.in-Some-first_memory.place c.part-in-Some-first_memory.result c.part-in-Some-first_memory.ensures (before_memory m c.in_default.ensures c.in_default-first_import.ensures c.in_default-first_func.ensures c.in_default-first_table.ensures) c.in-Some-first_memory.ensures

pub returns-in-Some-first_global : goal.returns-in-Some-first_global
returns-in-Some-first_global c =
    let m = c.args.m.now in
    refused m Globals c.in-Some-first_global.place c.part-in-Some-first_global.result c.part-in-Some-first_global.ensures (before_global m c.in_default.ensures c.in_default-first_import.ensures c.in_default-first_func.ensures c.in_default-first_table.ensures c.in_default-first_memory.ensures) c.in-Some-first_global.ensures

pub returns-in-Some-2 : goal.returns-in-Some-2
returns-in-Some-2 c =
    let m = c.args.m.now in
    refused m Exports c.in-Some-2.place c.part-in-Some-2.result c.part-in-Some-2.ensures (before_export m c.in_default.ensures c.in_default-first_import.ensures c.in_default-first_func.ensures c.in_default-first_table.ensures c.in_default-first_memory.ensures c.in_default-first_global.ensures) (found_at m Exports c.in_ok-place.field-0 c.in-Some-2.place c.in-Some-2.is c.in_ok-place.ensures)

pub returns-then-not-start_is_typed : goal.returns-then-not-start_is_typed
returns-then-not-start_is_typed c =
    let m = c.args.m.now in
    refused m Start 0 c.part-then-not-start_is_typed.result c.part-then-not-start_is_typed.ensures (before_start m c.in_default.ensures c.in_default-first_import.ensures c.in_default-first_func.ensures c.in_default-first_table.ensures c.in_default-first_memory.ensures c.in_default-first_global.ensures (found_none m Exports c.in_ok-place.field-0 c.in_default-2.is c.in_ok-place.ensures)) (start_untyped m (decided_no c.start_is_typed.result _ c.start_is_typed.ensures c.if-not-start_is_typed.true))

pub returns-in-Some-first_element : goal.returns-in-Some-first_element
returns-in-Some-first_element c =
    let m = c.args.m.now in
    refused m Elements c.in-Some-first_element.place c.part-in-Some-first_element.result c.part-in-Some-first_element.ensures (before_element m c.in_default.ensures c.in_default-first_import.ensures c.in_default-first_func.ensures c.in_default-first_table.ensures c.in_default-first_memory.ensures c.in_default-first_global.ensures (found_none m Exports c.in_ok-place.field-0 c.in_default-2.is c.in_ok-place.ensures) (start_typed m (decided_yes c.start_is_typed.result _ c.start_is_typed.ensures c.if-not-start_is_typed.false))) c.in-Some-first_element.ensures

pub returns-in-Some-first_segment : goal.returns-in-Some-first_segment
returns-in-Some-first_segment c =
    let m = c.args.m.now in
    refused m Segments c.in-Some-first_segment.place c.part-in-Some-first_segment.result c.part-in-Some-first_segment.ensures (before_segment m c.in_default.ensures c.in_default-first_import.ensures c.in_default-first_func.ensures c.in_default-first_table.ensures c.in_default-first_memory.ensures c.in_default-first_global.ensures (found_none m Exports c.in_ok-place.field-0 c.in_default-2.is c.in_ok-place.ensures) (start_typed m (decided_yes c.start_is_typed.result _ c.start_is_typed.ensures c.if-not-start_is_typed.false)) c.in_default-first_element.ensures) c.in-Some-first_segment.ensures
