use Rattle.std.proofs.Common.{◌≡◌, ℕ, ◌^◌, List, [], ◌∷◌, length, get_or, suc, true, ◌&&◌, nat_lt, nat_le, Fits, w8, refl, sym, ap, ◌∙◌}
use Rattle.std.specs.List.{list_all}
use Rattle.std.proofs.Math.Bool.{and-true}
use Rattle.std.proofs.lemmas.Bool.{lt-ltb}
use Rattle.host_kit.proofs.fitting.few_bytes.Goals as goal

-- what a slice of bytes holds are bytes
all_bytes : (bytes : List ℕ) → ((k : ℕ) → Fits w8 (get_or bytes k 0)) → list_all (λ b. nat_lt b (2 ^ 8)) bytes ≡ true
all_bytes [] fit = refl
all_bytes (b ∷ bytes) fit =
    ap (λ t. t && list_all (λ x. nat_lt x (2 ^ 8)) bytes) (lt-ltb b (2 ^ 8) (fit 0).fits) ∙ all_bytes bytes (λ k. fit (suc k))

pub returns : goal.returns
returns c =
    let few = nat_le (length c.args.bytes.now) 65536 in
    sym (ap (λ t. few && t) (all_bytes c.args.bytes.now c.type_inv.bytes) ∙ and-true few)
