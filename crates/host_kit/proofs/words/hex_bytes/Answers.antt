use Rattle.std.proofs.Common.{◌≡◌, ℕ, ◌-◌, ◌≤◌, List, [], ◌∷◌, ◌++◌, length, take, drop, get_or, suc, Option, Some, None, option_map, option_and_then, refl, sym, ap, ◌∙◌, append_assoc, arith}
use Rattle.std.proofs.Math.Seq.{take-length}
use Rattle.host_kit.specs.ScriptForms.{hex_byte, hex_bytes}
use Rattle.host_kit.proofs.words.hex_bytes.Goals as goal

-- a byte more in front of the rest
onto : (done : List ℕ) (b : ℕ) (rest : Option (List ℕ)) → option_map (λ more. done ++ more) (option_map (λ more. b ∷ more) rest) ≡ option_map (λ more. (done ++ b ∷ []) ++ more) rest
onto done b None = refl
onto done b (Some more) = ap Some (sym (append_assoc done (b ∷ []) more))

one_more : (done rest : List ℕ) (b : ℕ) → 2 ≤ length rest → hex_byte (get_or rest 0 0) (get_or rest 1 0) ≡ Some b → option_map (λ more. done ++ more) (hex_bytes rest) ≡ option_map (λ more. (done ++ b ∷ []) ++ more) (hex_bytes (take (length rest - 2) (drop 2 rest)))
one_more done [] b two e = absurd (omega arith)
one_more done (high ∷ []) b two e = absurd (omega arith)
one_more done (high ∷ low ∷ rest) b two e =
    let count : suc (suc (length rest)) - 2 ≡ length rest = omega arith in
    ap (λ o. option_map (λ more. done ++ more) (option_and_then (λ x. option_map (λ bs. x ∷ bs) (hex_bytes rest)) o)) e
    ∙ onto done b (hex_bytes rest)
    ∙ ap (λ l. option_map (λ more. (done ++ b ∷ []) ++ more) (hex_bytes l)) (sym (ap (λ n. take n rest) count ∙ take-length rest))

pub loop-rest-preserved : goal.loop-rest-preserved
loop-rest-preserved c =
    let rest = c.loop-rest.rest.now in
    let left = hex_bytes (take (length rest - 2) (drop 2 rest)) in
    c.loop-rest.invariant
    ∙ one_more c.loop-rest.bytes rest c.in-Some.byte c.in-len2-up.len_at_least (sym c.hex_byte.ensures ∙ c.in-Some.is)
    ∙ ap (λ bytes. option_map (λ more. bytes ++ more) left) (sym c.in_ok-push.ensures.ok)
