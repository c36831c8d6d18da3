use Rattle.std.proofs.Common.{rules, ◌≡◌, ℕ, ◌+◌, ◌<◌, length, List, [], ◌++◌, take, get_or, Option, Some, option_map, Ok, false, ap, sym, ◌∙◌, subst}
use Rattle.std.proofs.Output.{has_written_append, has_written_of_eq}
use Rattle.std.specs.Fmt.{DisplaysOnOk, padded_integral, styled_digits_output, format_spec}
use Rattle.std.proofs.lemmas.Fmt.{hex_byte}
use Rattle.std.proofs.lemmas.List.{take_more, flat_map_more}
use Rattle.host_kit.specs.Texts.{byte_text, bytes_text}
use Rattle.host_kit.proofs.texts.HexDisplay.fmt.Goals as goal

-- the digits of one byte more
one_more : (bytes : List ℕ) (i : ℕ) → i < length bytes → bytes_text (take i bytes) ++ byte_text (get_or bytes i 0) ≡ bytes_text (take (i + 1) bytes)
one_more bytes i within = flat_map_more byte_text [] (take i bytes) (get_or bytes i 0) ∙ ap bytes_text (sym (take_more bytes i 0 within))

pub loop-byte-preserved : goal.loop-byte-preserved
loop-byte-preserved g c = λ p.
    let bytes = c.args.self.now.0.now in
    let i = c.loop-byte.byte-index in
    let within : i < length bytes = search rules in
    let small : get_or bytes i 0 < 256 = search rules in
    let digits_so = c.in_radix.result in
    let spec = format_spec 32 0 4 2 18446744073709551615 in
    let text : styled_digits_output digits_so c.laid_out.result ≡ Some (byte_text (get_or bytes i 0)) =
    (ap (styled_digits_output digits_so) c.laid_out.ensures ∙ ap (option_map (padded_integral spec false [])) c.in_radix.ensures ∙ ap Some (hex_byte false (get_or bytes i 0) small)) in
    let P : Option (List ℕ) → Type 0 = λ o. DisplaysOnOk g.W.Write.write_str_gives c.loop-byte.f (Ok c.in_ok-write.field-0) o c.write.new.self in
    let writes = subst P text c.in_ok-write.ensures.writes in
    let before = c.loop-byte.invariant p in
    has_written_of_eq _ _ _ _ _ (one_more bytes i within) (has_written_append _ _ _ _ _ _ before (writes before.plain (search rules)))
