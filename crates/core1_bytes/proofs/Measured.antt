-- The sizes of a body, from those of its groups of locals and of its code.
use Rattle.std.proofs.Common.{◌≡◌, ℕ, ◌^◌, true, false, List, [], ◌∷◌, Option, Some, None, refl, ap}
use Rattle.std.specs.Prelude.{option_and_then, option_map, nat_lt}
use Rattle.std.proofs.lemmas.Option.{some_pair_parts}
use Rattle.core1_ast.specs.declared.module.code.Instr1.{Instr1}
use Rattle.grammar_kit.specs.Form.{never, when}
use Rattle.grammar_kit.specs.Measures.{through, extent, greatest}
use Rattle.grammar_kit.specs.Sequences.{whole}
use Rattle.core1_bytes.specs.declared.body.LocalGroup1.{LocalGroup1}
use Rattle.core1_bytes.specs.Nesting.{depth}
use Rattle.core1_bytes.proofs.Groups.{how_many}
use Rattle.core1_bytes.specs.Bodies.{expr, locals_count, locals_of, body_with, sizes_of}

module _ (nesting : ℕ) where
  of_code : (groups : List LocalGroup1) (t : ℕ) (o : Option (List Instr1 × List ℕ)) → locals_count groups ≡ t → through (greatest depth) o ≡ Some (nesting, [])
      → option_map sizes_of (whole (option_and_then (λ p. Some (record { locals = locals_of groups; code = p.0 }, p.1)) o)) ≡ Some (t, nesting, false)
  of_code groups t None same h = absurd cc
  of_code groups t (Some (code, [])) same h =
      let parts = (some_pair_parts (greatest depth code) nesting [] [] h).0 in
      rw (← (how_many groups), same, parts) refl
  of_code groups t (Some (code, (a ∷ more))) same h = absurd (cc (some_pair_parts (greatest depth code) nesting (a ∷ more) [] h).1)

  pub of_body : (o : Option (List LocalGroup1 × List ℕ)) (g t : ℕ) (rest : List ℕ) → through (extent (λ (x : LocalGroup1). x.count)) o ≡ Some ((g, t), rest) → nat_lt t (2 ^ 32) ≡ true
      → through (greatest depth) (expr.read rest) ≡ Some (nesting, [])
      → option_map sizes_of (whole (option_and_then (λ p. (when (nat_lt (locals_count p.0) (2 ^ 32)) (body_with p.0) never).read p.1) o)) ≡ Some (t, nesting, false)
  unfolding body_with
  of_body None g t rest h few code = absurd cc
  of_body (Some (groups, after)) g t rest h few code =
      let parts = some_pair_parts (extent (λ (x : LocalGroup1). x.count) groups) (g, t) after rest h in
      let total : locals_count groups ≡ t = ap (λ (e : ℕ × ℕ). e.1) parts.0 in
      rw (total, few, parts.1) (of_code groups t (expr.read rest) total code)
