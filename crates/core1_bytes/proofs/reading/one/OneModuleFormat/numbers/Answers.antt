use Rattle.std.proofs.Common.{◌≡◌, [], length, ap, ◌∙◌, arith}
use Rattle.grammar_kit.specs.Measures.{greatest}
use Rattle.wasm_frame.specs.Payloads.{value}
use Rattle.module_reading.specs.Sizes.{sizes_at}
use Rattle.module_reading.proofs.Sized.{told}
use Rattle.core1_bytes.specs.Limits.{func_count}
use Rattle.core1_bytes.specs.Nesting.{depth}
use Rattle.core1_bytes.specs.Parts.{type_section, import_section, func_section, global_section, export_section, element_section, data_section}
use Rattle.core1_bytes.proofs.Payloads.{few_functions}
use Rattle.core1_bytes.proofs.reading.one.OneModuleFormat.numbers.Goals as goal

pub overflow_add-result : goal.overflow_add-result
overflow_add-result c =
    let s = c.args.sizes.now in
    let at = c.requires.0 in
    let h = c.requires.1 in
    let imports = told import_section (λ i. func_count i.desc) (at 2) (sizes_at 2 s.sections) (h.sections 2 (λ (e : 2 ≡ 0). cc) (λ (e : 2 ≡ 10). cc)) in
    let total = ap (λ x. x.total) c.of-imports.ensures ∙ imports.sum in
    let count = ap (λ x. x.count) c.of-imports.ensures ∙ imports.count in
    omega (arith, few_functions (value import_section [] (at 2)), total, count, c.from-3.ensures)

pub returns-clause-front : goal.returns-clause-front
returns-clause-front c at h =
    let s = c.args.sizes.now in
    let types = told type_section (λ t. length t.params) (at 1) (sizes_at 1 s.sections) (h.sections 1 (λ (e : 1 ≡ 0). cc) (λ (e : 1 ≡ 10). cc)) in
    let imports = told import_section (λ i. func_count i.desc) (at 2) (sizes_at 2 s.sections) (h.sections 2 (λ (e : 2 ≡ 0). cc) (λ (e : 2 ≡ 10). cc)) in
    let funcs = told func_section (λ x. 0) (at 3) (sizes_at 3 s.sections) (h.sections 3 (λ (e : 3 ≡ 0). cc) (λ (e : 3 ≡ 10). cc)) in
    let globals = told global_section (λ g. greatest depth g.init) (at 6) (sizes_at 6 s.sections) (h.sections 6 (λ (e : 6 ≡ 0). cc) (λ (e : 6 ≡ 10). cc)) in
    let exports = told export_section (λ x. 0) (at 7) (sizes_at 7 s.sections) (h.sections 7 (λ (e : 7 ≡ 0). cc) (λ (e : 7 ≡ 10). cc)) in
    let elements = told element_section (λ e. greatest depth e.offset) (at 9) (sizes_at 9 s.sections) (h.sections 9 (λ (e : 9 ≡ 0). cc) (λ (e : 9 ≡ 10). cc)) in
    let segments = told data_section (λ d. greatest depth d.offset) (at 11) (sizes_at 11 s.sections) (h.sections 11 (λ (e : 11 ≡ 0). cc) (λ (e : 11 ≡ 10). cc)) in
    let functions = c.from-3.ensures ∙ ap (λ x. x.count) c.of.ensures ∙ funcs.count in
    let imported = ap (λ x. x.total) c.of-imports.ensures ∙ imports.sum in (
      c.from.ensures ∙ ap (λ x. x.count) c.of-types.ensures ∙ types.count,
      (
        c.from-2.ensures ∙ ap (λ x. x.count) c.of-imports.ensures ∙ imports.count,
        (
          cc (functions, imported),
          (
            tt,
            (
              tt,
              (
                tt,
                (
                  c.from-4.ensures ∙ ap (λ x. x.count) c.of-globals.ensures ∙ globals.count,
                  (
                    c.from-5.ensures ∙ ap (λ x. x.count) c.of-2.ensures ∙ exports.count,
                    (
                      c.from-6.ensures ∙ ap (λ x. x.count) c.of-elements.ensures ∙ elements.count,
                      (
                        c.from-7.ensures ∙ ap (λ x. x.count) c.of-segments.ensures ∙ segments.count,
                        (
                          c.from-8.ensures ∙ ap (λ x. x.greatest) c.of-types.ensures ∙ types.most,
                          (tt, (h.bodies.locals, tt)),
                        ),
                      ),
                    ),
                  ),
                ),
              ),
            ),
          ),
        ),
      ),
    )

pub returns-clause-nesting : goal.returns-clause-nesting
returns-clause-nesting c at h =
    let s = c.args.sizes.now in
    let globals = told global_section (λ g. greatest depth g.init) (at 6) (sizes_at 6 s.sections) (h.sections 6 (λ (e : 6 ≡ 0). cc) (λ (e : 6 ≡ 10). cc)) in
    let elements = told element_section (λ e. greatest depth e.offset) (at 9) (sizes_at 9 s.sections) (h.sections 9 (λ (e : 9 ≡ 0). cc) (λ (e : 9 ≡ 10). cc)) in
    let segments = told data_section (λ d. greatest depth d.offset) (at 11) (sizes_at 11 s.sections) (h.sections 11 (λ (e : 11 ≡ 0). cc) (λ (e : 11 ≡ 10). cc)) in
    let values = ap (λ x. x.greatest) c.of-globals.ensures ∙ globals.most in
    let places = ap (λ x. x.greatest) c.of-elements.ensures ∙ elements.most in
    let offsets = ap (λ x. x.greatest) c.of-segments.ensures ∙ segments.most in
    (omega (arith, values, places, offsets, h.bodies.nesting, c.from-9.ensures, c.max-nesting.ensures, c.max.ensures, c.max-in_segments.ensures), tt)
