use Rattle.std.proofs.Common.{◌≡◌, refl, sym, ◌∙◌}
use Rattle.std.proofs.lemmas.Option.{slice_get_read}
use Rattle.std.proofs.lemmas.Slice.Eq.{bytes_eq-Decides}
use Rattle.tool_files.specs.Memory.{StandsAt}
use Rattle.tool_files.proofs.PairLemmas.{content_of-drop}
use Rattle.tool_files.proofs.files.pairs.place_of.Goals as goal

-- the first pair of this name
pub returns-then-eq : goal.returns-then-eq
returns-then-eq c =
    let files = c.args.files.now in
    let place = c.loop-place.place in
    let file = c.index-files-place.result in
    let name : file.0 ≡ c.args.name.now = sym c.as_str.ensures.bytes ∙ (bytes_eq-Decides _ _).0 (sym c.if-eq.ensures) in
    let stands : StandsAt files place file.0 file.1 = slice_get_read files _ place file refl c.loop-place-test.true c.index-files-place.is in
    let found = content_of-drop files place file c.args.name.now c.loop-place-test.true c.index-files-place.is name in
    (file.1, rw name at stands, sym c.loop-place.invariant ∙ found)
