-- Counting keeps step with reading.
use Rattle.std.proofs.Common.{◌≡◌, ℕ, suc, max, List, [], ◌∷◌, ◌++◌, length, Bool, true, false, ◌||◌, Option, Some, None, refl, ap}
use Rattle.grammar_kit.specs.Form.{Form}
use Rattle.nested_code.specs.declared.token.Token.{Token}
use Rattle.nested_code.specs.declared.token.Token.TheVariants.{Plain, Open, Else, End}
use Rattle.nested_code.specs.declared.open_block.OpenBlock.{OpenBlock}
use Rattle.nested_code.specs.Nesting.{Turn, Whole, Goes, Wrong, turn, closed, to_second, on_else}
use Rattle.nested_code.specs.Sizes.{Count, Over, Further, Misplaced, count}
use Rattle.nested_code.proofs.Blocks.{may_split, splits, splits_length, IsFair, AreFair}
use Rattle.nested_code.proofs.Depths.{IsReach, reach_plain, reach_open, reach_else, reach_end}
use Rattle.nested_code.proofs.Occurrences.{IsFound, found_plain, found_open, found_else, found_end}

module _ {I H : Type 0} (token : Form (Token I H)) (has_arms : H → Bool) (build : H → List I → List I → I) (marks : I → Bool) where
  -- what was counted is of that code
  pub record AreSizes (n : ℕ) (seen : Bool) (code : List I) (blocks : List (OpenBlock I H)) : Type 0 where
    pub reached : IsReach token has_arms build n code blocks
    pub found : IsFound token has_arms build marks seen code blocks

  -- what was counted is what was read
  abbrev pub Same : Count → Turn I H → Type 0
  Same (Over n seen) (Whole code) = AreSizes n seen code []
  Same (Further n seen arms) (Goes code blocks) = (splits has_arms blocks ≡ arms) × AreFair has_arms blocks × AreSizes n seen code blocks
  Same Misplaced Wrong = Unit {0}
  Same _ _ = ⊥

  same_second : (arms : Bool) (n : ℕ) (seen : Bool) (code : List I) (o : OpenBlock I H) (below : List (OpenBlock I H)) → o.first ≡ None → has_arms o.head ≡ arms → AreFair has_arms below → AreSizes n seen code (o ∷ below)
      → Same (count has_arms marks Else n seen (arms ∷ splits has_arms below)) (to_second has_arms build arms code o below)
  same_second true n seen code o below first e fair so_far = (
    refl,
    (e, fair),
    record {
      reached = reach_else token has_arms build n code o below first so_far.reached;
      found = found_else token has_arms build marks seen code o below first so_far.found;
    },
  )
  same_second false n seen code o below first e fair so_far = tt

  same_else : (first : Option (List I)) (n : ℕ) (seen : Bool) (code : List I) (o : OpenBlock I H) (below : List (OpenBlock I H)) → o.first ≡ first → AreFair has_arms below → AreSizes n seen code (o ∷ below)
      → Same (count has_arms marks Else n seen (may_split has_arms first o.head ∷ splits has_arms below)) (on_else has_arms build first code o below)
  same_else None n seen code o below e fair so_far = same_second (has_arms o.head) n seen code o below e refl fair so_far
  same_else (Some first) n seen code o below e fair so_far = tt

  same_plain : (b rest : List ℕ) (i : I) (n : ℕ) (seen : Bool) (code : List I) (blocks : List (OpenBlock I H)) → token.read b ≡ Some (Plain i, rest) → AreSizes n seen code blocks → AreSizes n (seen || marks i) (code ++ i ∷ []) blocks
  same_plain b rest i n seen code blocks h so_far = record {
    reached = reach_plain token has_arms build n code blocks i (λ depth d. d.leaf b i rest h) so_far.reached;
    found = found_plain token has_arms build marks seen code blocks i (λ occurs d. d.leaf b i rest h) so_far.found;
  }

  same_open : (h : H) (n : ℕ) (seen : Bool) (code : List I) (blocks : List (OpenBlock I H)) → AreSizes n seen code blocks → AreSizes (max n (suc (length blocks))) seen [] ((record { head = h; before = code; first = None }) ∷ blocks)
  same_open h n seen code blocks so_far = record {
    reached = reach_open token has_arms build n code blocks h so_far.reached;
    found = found_open token has_arms build marks seen code blocks h so_far.found;
  }

  same_end : (n : ℕ) (seen : Bool) (code : List I) (o : OpenBlock I H) (below : List (OpenBlock I H)) → IsFair has_arms o.first o.head → AreSizes n seen code (o ∷ below) → AreSizes n seen (o.before ++ closed has_arms build o.first code o.head ∷ []) below
  same_end n seen code o below fair so_far = record {
    reached = reach_end token has_arms build n code o below fair so_far.reached;
    found = found_end token has_arms build marks seen code o below fair so_far.found;
  }

  pub same_turn : (b rest : List ℕ) (k : Token I H) (n : ℕ) (seen : Bool) (arms : List Bool) (code : List I) (blocks : List (OpenBlock I H)) → token.read b ≡ Some (k, rest) → splits has_arms blocks ≡ arms → AreFair has_arms blocks → AreSizes n seen code blocks
      → Same (count has_arms marks k n seen arms) (turn has_arms build k code blocks)
  same_turn b rest (Plain i) n seen arms code blocks h same fair so_far = (same, fair, same_plain b rest i n seen code blocks h so_far)
  same_turn b rest (Open h) n seen arms code blocks read same fair so_far =
      (ap (λ a. has_arms h ∷ a) same, (tt, fair), rw (← same, splits_length) (same_open h n seen code blocks so_far))
  same_turn b rest Else n seen arms code [] h same fair so_far = rw (← same) tt
  same_turn b rest Else n seen arms code (o ∷ below) h same fair so_far = rw (← same) (same_else o.first n seen code o below refl fair.1 so_far)
  same_turn b rest End n seen arms code [] h same fair so_far = rw (← same) so_far
  same_turn b rest End n seen arms code (o ∷ below) h same fair so_far = rw (← same) (refl, fair.1, same_end n seen code o below fair.0 so_far)

  pub is_wrong : (c : Count) (t : Turn I H) → Same c t → c ≡ Misplaced → t ≡ Wrong
  is_wrong c (Whole code) h e = let k = rw e at h in absurd k
  is_wrong c (Goes code blocks) h e = let k = rw e at h in absurd k
  is_wrong c Wrong h e = refl

  pub is_whole : (c : Count) (t : Turn I H) (n : ℕ) (seen : Bool) → Same c t → c ≡ Over n seen → (code : List I) × (t ≡ Whole code) × AreSizes n seen code []
  is_whole c (Whole code) n seen h e = (code, refl, rw e at h)
  is_whole c (Goes code blocks) n seen h e = let k = rw e at h in absurd k
  is_whole c Wrong n seen h e = let k = rw e at h in absurd k

  pub goes_on : (c : Count) (t : Turn I H) (n : ℕ) (seen : Bool) (arms : List Bool) → Same c t → c ≡ Further n seen arms
      → (code : List I) × (blocks : List (OpenBlock I H)) × (t ≡ Goes code blocks) × (splits has_arms blocks ≡ arms) × AreFair has_arms blocks × AreSizes n seen code blocks
  goes_on c (Whole code) n seen arms h e = let k = rw e at h in absurd k
  goes_on c (Goes code blocks) n seen arms h e = let k = rw e at h in (code, blocks, refl, k.0, k.1, k.2)
  goes_on c Wrong n seen arms h e = let k = rw e at h in absurd k
