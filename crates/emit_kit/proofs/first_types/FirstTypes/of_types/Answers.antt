use Rattle.std.proofs.Common.{◌≡◌, ◌+◌, ◌<◌, [], ◌∷◌, ◌++◌, take, length, None, ap, sym, ◌∙◌, subst, zero-add, arith}
use Rattle.std.proofs.lemmas.List.{take_more, length-take-le}
use Rattle.wasm_ast.specs.Types.{type_key}
use Rattle.emit_kit.specs.FirstTypes.{index_at, TellsOfTypes}
use Rattle.emit_kit.proofs.Telling.{tells_again, tells_new}
use Rattle.emit_kit.proofs.Told.{none_told, some_told}
use Rattle.emit_kit.proofs.first_types.FirstTypes.of_types.Goals as goal
use Rattle.emit_kit.proofs.first_types.FirstTypes.of_types.Goals.{then-is_none+in_ok-next_index+in_ok-insert, else-is_none}

pub loop-place-preserved : goal.loop-place-preserved
loop-place-preserved c =
    let types = c.args.types.now in
    let i = c.loop-place.place in
    let t = c.index-types-place.result in
    let entries = c.loop-place.first in
    let within : i < length types = omega arith in
    let more : take (i + 1) types ≡ take i types ++ t ∷ [] = take_more types i t within ∙ ap (λ x. take i types ++ x ∷ []) (sym c.index-types-place.is) in
    let count : length (take i types) ≡ i = length-take-le i types (omega arith) in
    let found : c.get.result ≡ index_at (type_key t) entries = c.get.ensures ∙ ap (λ k. index_at k entries) (c.as_slice.ensures.value ∙ c.in_ok-key.ensures) in
    elim c.if-is_none.branch [
      | then-is_none+in_ok-next_index+in_ok-insert w ↦ (
          let absent : index_at (type_key t) entries ≡ None = sym found ∙ none_told c.get.result c.is_none.result c.is_none.ensures w.if-is_none.true in
          let noted : w.insert.new.self ≡ entries ++ (type_key t, length (take i types)) ∷ [] =
          w.in_ok-insert.ensures.ok ∙ ap (λ k. entries ++ (k, w.in_ok-next_index.field-0) ∷ []) c.in_ok-key.ensures ∙ ap (λ n. entries ++ (type_key t, n) ∷ []) (w.in_ok-next_index.ensures ∙ zero-add i ∙ sym count) in
          subst (TellsOfTypes (take (i + 1) types)) (sym w.first-is) (subst (λ ts. TellsOfTypes ts w.insert.new.self) (sym more) (subst (TellsOfTypes (take i types ++ t ∷ [])) (sym noted) (tells_new (take i types) t entries c.loop-place.invariant absent))))
      | else-is_none w ↦ (
          let there = some_told c.get.result c.is_none.result c.is_none.ensures w.if-is_none.false in
          subst (TellsOfTypes (take (i + 1) types)) (sym w.first-is) (subst (λ ts. TellsOfTypes ts entries) (sym more) (tells_again (take i types) t entries c.loop-place.invariant there.0 (sym found ∙ there.1))))
    ]
