use Rattle.std.proofs.Common.{◌≡◌, true, false, sym, ◌∙◌, arith}
use Rattle.std.proofs.lemmas.Fmt.{decimal_digit}
use Rattle.std.proofs.lemmas.Slice.Eq.{bytes_eq-Decides}
use Rattle.std.specs.Prelude.{codes}
use Rattle.lower_tool.proofs.Turns.{no_number, reads_number, is_low, is_high}
use Rattle.lower_tool.proofs.tool.command.turns_of.Goals as goal

false_is : false ≡ true → ⊥
false_is h = absurd cc

-- the text is `0`
pub returns-then-eq : goal.returns-then-eq
returns-then-eq c = (omega arith, (bytes_eq-Decides _ _).0 (sym c.if-eq.ensures) ∙ sym (decimal_digit 0 (omega arith)))

pub returns-then-begins_low : goal.returns-then-begins_low
returns-then-begins_low c =
    let differs : c.args.text.now ≡ codes "0" → ⊥ = λ same. false_is (c.if-eq.ensures ∙ (bytes_eq-Decides _ _).1 same) in
    no_number c.args.text.now differs (is_low c.args.text.now c.as_bytes.result.now c.as_bytes.ensures.value c.if-begins_low.ensures)

pub returns : goal.returns
returns c = rw c.ok.ensures.value (reads_number c.args.text.now c.parse.result c.parse.ensures.value.0 (is_high c.args.text.now c.as_bytes.result.now c.as_bytes.ensures.value c.if-begins_low.ensures))
