-- The sizes of a body, from those of its groups of locals and of its code.
use Rattle.std.proofs.Common.{◌≡◌, ℕ, ◌^◌, Bool, true, List, [], ◌∷◌, length, Option, Some, None, refl, ap, ◌∙◌}
use Rattle.std.specs.Prelude.{option_and_then, option_map, nat_lt, replicate}
use Rattle.std.proofs.lemmas.Option.{some_pair_parts}
use Rattle.std.proofs.lemmas.List.{length-append, length-replicate}
use Rattle.std.proofs.lemmas.List.Sums.{sum_by-cons}
use Rattle.wasm_ast.specs.declared.module.code.Instr.{Instr}
use Rattle.grammar_kit.specs.Form.{never, when}
use Rattle.grammar_kit.specs.Measures.{through, extent}
use Rattle.grammar_kit.specs.Sequences.{whole}
use Rattle.code_new.specs.Code.{expr, sizes}
use Rattle.read_new.specs.declared.parts.bodies.LocalGroup.{LocalGroup}
use Rattle.read_new.specs.Bodies.{locals_count, locals_of, body_with, sizes_of}

pub locals_length : (groups : List LocalGroup) → length (locals_of groups) ≡ locals_count groups
locals_length [] = refl
locals_length (g ∷ groups) =
    length-append (replicate g.count g.ty) (locals_of groups)
    ∙ rw (length-replicate g.count g.ty, locals_length groups, sum_by-cons (λ (x : LocalGroup). x.count) g groups) refl

module _ (nesting : ℕ) (names_data : Bool) where
  of_code : (groups : List LocalGroup) (t : ℕ) (o : Option (List Instr × List ℕ)) → locals_count groups ≡ t → through sizes o ≡ Some ((nesting, names_data), [])
      → option_map sizes_of (whole (option_and_then (λ p. Some (record { locals = locals_of groups; code = p.0 }, p.1)) o)) ≡ Some (t, nesting, names_data)
  of_code groups t None same h = absurd cc
  of_code groups t (Some (code, [])) same h =
      let parts = (some_pair_parts (sizes code) (nesting, names_data) [] [] h).0 in
      rw (locals_length groups, same, ap (λ (s : ℕ × Bool). s.0) parts, ap (λ (s : ℕ × Bool). s.1) parts) refl
  of_code groups t (Some (code, (a ∷ more))) same h = absurd (cc (some_pair_parts (sizes code) (nesting, names_data) (a ∷ more) [] h).1)

  pub of_body : (o : Option (List LocalGroup × List ℕ)) (g t : ℕ) (rest : List ℕ) → through (extent (λ (x : LocalGroup). x.count)) o ≡ Some ((g, t), rest) → nat_lt t (2 ^ 32) ≡ true
      → through sizes (expr.read rest) ≡ Some ((nesting, names_data), [])
      → option_map sizes_of (whole (option_and_then (λ p. (when (nat_lt (locals_count p.0) (2 ^ 32)) (body_with p.0) never).read p.1) o)) ≡ Some (t, nesting, names_data)
  unfolding body_with
  of_body None g t rest h few code = absurd cc
  of_body (Some (groups, after)) g t rest h few code =
      let parts = some_pair_parts (extent (λ (x : LocalGroup). x.count) groups) (g, t) after rest h in
      let total : locals_count groups ≡ t = ap (λ (e : ℕ × ℕ). e.1) parts.0 in
      rw (total, few, parts.1) (of_code groups t (expr.read rest) total code)
