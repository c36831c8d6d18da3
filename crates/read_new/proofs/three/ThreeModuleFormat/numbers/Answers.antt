use Rattle.std.proofs.Common.{◌≡◌, ap, ◌∙◌, arith}
use Rattle.module_reading.specs.declared.sizes.Sizes.{Sizes}
use Rattle.read_new.specs.Made.{made}
use Rattle.read_new.proofs.Told as told
use Rattle.read_new.proofs.three.ThreeModuleFormat.numbers.Goals as goal

count : (a b : Sizes) → a ≡ b → a.count ≡ b.count
count a b e = ap (λ (x : Sizes). x.count) e

most : (a b : Sizes) → a ≡ b → a.greatest ≡ b.greatest
most a b e = ap (λ (x : Sizes). x.greatest) e

pub overflow_add-functions : goal.overflow_add-functions
overflow_add-functions c =
    let s = c.args.sizes.now in
    let few = told.few c.requires.0 s c.requires.1 in
    omega (arith, few, count _ _ c.of-imports.ensures, ap (λ (x : Sizes). x.total) c.of-imports.ensures, c.of-imports.type_inv, c.of.type_inv, c.from.ensures)

pub returns-clause-front : goal.returns-clause-front
unfolding made
returns-clause-front c = λ at h.
    let s = c.args.sizes.now in
    let functions = ap (λ (x : Sizes). x.total) c.of-imports.ensures ∙ (told.imports at s h).sum in
    let funcs = c.from.ensures ∙ count _ _ c.of.ensures ∙ (told.funcs at s h).count in
    let types = c.from-2.ensures ∙ count _ _ c.of-types.ensures ∙ (told.types at s h).count in
    let imports = c.from-3.ensures ∙ count _ _ c.of-imports.ensures ∙ (told.imports at s h).count in
    let tables = c.from-4.ensures ∙ count _ _ c.of-tables.ensures ∙ (told.tables at s h).count in
    let memories = c.from-5.ensures ∙ count _ _ c.of-2.ensures ∙ (told.memories at s h).count in
    let tags = c.from-6.ensures ∙ count _ _ c.of-3.ensures ∙ (told.tags at s h).count in
    let globals = c.from-7.ensures ∙ count _ _ c.of-globals.ensures ∙ (told.globals at s h).count in
    let exports = c.from-8.ensures ∙ count _ _ c.of-4.ensures ∙ (told.exports at s h).count in
    let elements = c.from-9.ensures ∙ count _ _ c.of-elements.ensures ∙ (told.elements at s h).count in
    let segments = c.from-10.ensures ∙ count _ _ c.of-segments.ensures ∙ (told.segments at s h).count in
    let parameters = c.from-11.ensures ∙ most _ _ c.of-types.ensures ∙ (told.types at s h).parameters in
    let results = c.from-12.ensures ∙ ap (λ (x : Sizes). x.second) c.of-types.ensures ∙ (told.types at s h).results in
    let locals = h.bodies.locals in
    (types, (imports, (cc (functions, funcs), (tables, (memories, (tags, (globals, (exports, (elements, (segments, (parameters, (results, (locals, tt)))))))))))))

pub returns-clause-nesting : goal.returns-clause-nesting
unfolding made
returns-clause-nesting c = λ at h.
    let s = c.args.sizes.now in
    let tables = most _ _ c.of-tables.ensures ∙ (told.tables at s h).most in
    let globals = most _ _ c.of-globals.ensures ∙ (told.globals at s h).most in
    let elements = most _ _ c.of-elements.ensures ∙ (told.elements at s h).most in
    let segments = most _ _ c.of-segments.ensures ∙ (told.segments at s h).most in
    (omega (arith, tables, globals, elements, segments, h.bodies.nesting, c.from-13.ensures, c.max-nesting.ensures, c.max.ensures, c.max-constants.ensures, c.max-offsets.ensures), tt)
