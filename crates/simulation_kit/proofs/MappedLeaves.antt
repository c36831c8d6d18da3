-- The plain instructions that languages share, where each value is shown by its image.
use Rattle.std.proofs.Common.{◌≡◌, ℕ, zero, suc, Bool, true, false, List, [], ◌∷◌, map, set, slice_index_or, Option, Some, None, option_map, refl, sym, ap, ◌∙◌}
use Rattle.std.proofs.lemmas.List.{map-set}
use Rattle.evaluation_kit.specs.declared.jump.Jump.{Jump}
use Rattle.evaluation_kit.specs.declared.jump.Jump.TheVariants.{Branch}
use Rattle.outcome_kit.specs.Code.{Go, Leave}
use Rattle.evaluation_kit.specs.Configurations.{Plain}
use Rattle.evaluation_kit.specs.Leaves.{top, below, operands_or_trap, on_operands, nothing, get_local, set_local, tee_local, jump, jump_where, branch_if, branch_table}
use Rattle.simulation_kit.specs.Keeping.{Keeping}
use Rattle.simulation_kit.specs.Mirrors.{Mirror, mapping, image, jump_image, result_image, ActMirrors}

module _ {A B : Type 0} (f : A → B) where
  index-map : (l : List A) (i : ℕ) (missing : A) → slice_index_or (map f l) i (f missing) ≡ f (slice_index_or l i missing)
  index-map [] i missing = refl
  index-map (a ∷ l) zero missing = refl
  index-map (a ∷ l) (suc i) missing = index-map l i missing

  top-map : (l : List A) (missing : A) → top (f missing) (map f l) ≡ f (top missing l)
  top-map [] missing = refl
  top-map (a ∷ l) missing = refl

  below-map : (l : List A) → below (map f l) ≡ map f (below l)
  below-map [] = refl
  below-map (a ∷ l) = refl

module _ {V S V' S' : Type 0} (exact strict : Bool) (spare : ℕ) (Place : Type 0) (Around : Place → Place → Type 0) (keeps : Keeping V S) (value : V → V') (index : ℕ → ℕ) (state : S → S') where
  abbrev M : Mirror V S V' S'
  M = mapping exact strict spare Place Around keeps value index state

  pub nothing_mirrors : ActMirrors M nothing nothing
  nothing_mirrors q = refl

  pub jump_mirrors : (j : Jump) → ActMirrors M (jump j) (jump (jump_image M j))
  jump_mirrors j q = refl

  pub get_local_mirrors : (missing : V) (x : ℕ) → ActMirrors M (get_local missing x) (get_local (value missing) x)
  get_local_mirrors missing x q = ap (λ (v : V'). Go (record { operands = v ∷ map value q.operands; locals = map value q.locals; state = state q.state })) (index-map value q.locals x missing)

  stored : (missing : V) (x : ℕ) (q : Plain V S) → set (map value q.locals) x (top (value missing) (map value q.operands)) ≡ map value (set q.locals x (top missing q.operands))
  stored missing x q = ap (set (map value q.locals) x) (top-map value q.operands missing) ∙ sym (map-set value q.locals x (top missing q.operands))

  pub set_local_mirrors : (missing : V) (x : ℕ) → ActMirrors M (set_local missing x) (set_local (value missing) x)
  set_local_mirrors missing x q =
      ap (λ (o : List V'). Go (record { operands = o; locals = set (map value q.locals) x (top (value missing) (map value q.operands)); state = state q.state })) (below-map value q.operands)
      ∙ ap (λ (l : List V'). Go (record { operands = map value (below q.operands); locals = l; state = state q.state })) (stored missing x q)

  pub tee_local_mirrors : (missing : V) (x : ℕ) → ActMirrors M (tee_local missing x) (tee_local (value missing) x)
  tee_local_mirrors missing x q = ap (λ (l : List V'). Go (record { operands = map value q.operands; locals = l; state = state q.state })) (stored missing x q)

  operands_image : (o : Option (List V)) (q : Plain V S) → operands_or_trap (image M q) (option_map (map value) o) ≡ result_image M (operands_or_trap q o)
  operands_image None q = refl
  operands_image (Some operands) q = refl

  -- an instruction on operands alone owes its equation on them
  pub on_operands_mirrors : (f : List V → Option (List V)) (f' : List V' → Option (List V')) → ((o : List V) → f' (map value o) ≡ option_map (map value) (f o)) → ActMirrors M (on_operands f) (on_operands f')
  on_operands_mirrors f f' h q = ap (operands_or_trap (image M q)) (h q.operands) ∙ operands_image (f q.operands) q

  dropped : (q : Plain V S) → record (image M q) { operands = below (map value q.operands) } ≡ image M (record q { operands = below q.operands })
  dropped q = ap (λ (o : List V'). record { operands = o; locals = map value q.locals; state = state q.state }) (below-map value q.operands)

  jumps_where : (holds : Bool) (k : ℕ) (q : Plain V S) → jump_where holds (Branch k) (image M q) ≡ result_image M (jump_where holds (Branch k) q)
  jumps_where true k q = refl
  jumps_where false k q = refl

  pub branch_if_mirrors : (test : List V → Bool) (test' : List V' → Bool) (k : ℕ) → ((o : List V) → test' (map value o) ≡ test o) → ActMirrors M (branch_if test k) (branch_if test' k)
  branch_if_mirrors test test' k h q =
      ap (λ b. jump_where b (Branch k) (record (image M q) { operands = below (map value q.operands) })) (h q.operands)
      ∙ ap (jump_where (test q.operands) (Branch k)) (dropped q)
      ∙ jumps_where (test q.operands) k (record q { operands = below q.operands })

  pub branch_table_mirrors : (number : List V → ℕ) (number' : List V' → ℕ) (labels : List ℕ) (last : ℕ) → ((o : List V) → number' (map value o) ≡ number o) → ActMirrors M (branch_table number labels last) (branch_table number' labels last)
  branch_table_mirrors number number' labels last h q =
      ap (λ (n : ℕ). Leave (Branch (slice_index_or labels n last)) (record (image M q) { operands = below (map value q.operands) })) (h q.operands)
      ∙ ap (λ (p : Plain V' S'). Leave (Branch (slice_index_or labels (number q.operands) last)) p) (dropped q)
