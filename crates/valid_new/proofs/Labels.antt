-- The labels of a br_table, one after another.
use Rattle.std.proofs.Common.{◌≡◌, ℕ, ◌+◌, ◌<◌, List, [], ◌∷◌, ◌++◌, drop, length, get_or, Option, Some, None, slice_get, refl, ap, sym, ◌∙◌, append_assoc}
use Rattle.wasm_ast.specs.declared.module.ty.Ty.{Ty}
use Rattle.typed_trees.specs.Forms.{labels_at, both_labels}
use Rattle.valid_new.proofs.Matching.{drop_at}

abbrev pub prepend : List (List Ty) → Option (List (List Ty)) → Option (List (List Ty))
prepend found None = None
prepend found (Some more) = Some (found ++ more)

pub prepend_nothing : (more : Option (List (List Ty))) → more ≡ prepend [] more
prepend_nothing None = refl
prepend_nothing (Some more) = refl

prepend_one : (found : List (List Ty)) (t : List Ty) (more : Option (List (List Ty))) → prepend found (both_labels (Some t) more) ≡ prepend (found ++ t ∷ []) more
prepend_one found t None = refl
prepend_one found t (Some more) = ap Some (sym (append_assoc found (t ∷ []) more))

module _ (ls : List (List Ty)) (numbers : List ℕ) (k x : ℕ) (h : k < length numbers) (e : x ≡ get_or numbers k x) (found : List (List Ty)) (so_far : labels_at ls numbers ≡ prepend found (labels_at ls (drop k numbers))) where
  at_place : labels_at ls numbers ≡ prepend found (both_labels (slice_get ls x) (labels_at ls (drop (k + 1) numbers)))
  at_place =
      so_far
      ∙ ap (λ l. prepend found (labels_at ls l)) (drop_at numbers k x h)
      ∙ ap (λ y. prepend found (both_labels (slice_get ls y) (labels_at ls (drop (k + 1) numbers)))) (sym e)

  pub label_found : (t : List Ty) → slice_get ls x ≡ Some t → labels_at ls numbers ≡ prepend (found ++ t ∷ []) (labels_at ls (drop (k + 1) numbers))
  label_found t s =
      at_place
      ∙ ap (λ o. prepend found (both_labels o (labels_at ls (drop (k + 1) numbers)))) s
      ∙ prepend_one found t (labels_at ls (drop (k + 1) numbers))

  pub label_missing : slice_get ls x ≡ None → labels_at ls numbers ≡ None
  label_missing s = at_place ∙ ap (λ o. prepend found (both_labels o (labels_at ls (drop (k + 1) numbers)))) s
