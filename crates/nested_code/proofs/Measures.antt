-- One turn of the loop that counts open blocks and looks for marks, where so many tokens of those that there may be were
-- taken.
use Rattle.std.proofs.Common.{◌≡◌, ℕ, ◌+◌, ◌-◌, ◌<◌, ◌≤◌, List, Bool, Option, Some, None, Err, refl, ap}
use Rattle.std.specs.List.{list_any}
use Rattle.grammar_kit.specs.Form.{Form}
use Rattle.grammar_kit.specs.Gives.{Misses}
use Rattle.grammar_kit.specs.Measures.{through, greatest}
use Rattle.grammar_kit.specs.declared.error.FormError.{FormError}
use Rattle.grammar_kit.specs.declared.error.FormError.TheVariants.{Malformed, Memory}
use Rattle.nested_code.specs.declared.token.Token.{Token}
use Rattle.nested_code.specs.declared.open_block.OpenBlock.{OpenBlock}
use Rattle.nested_code.specs.Nesting.{read_code}
use Rattle.nested_code.specs.Sizes.{IsDepth, IsOccurrence, sizes, Over, Further, count, Counted}
use Rattle.nested_code.proofs.Steps.{out_of_bytes, no_token, no_turn, last_turn, next_turn}
use Rattle.nested_code.proofs.Blocks.{splits, AreFair}
use Rattle.nested_code.proofs.Counts.{AreSizes, same_turn, is_wrong, is_whole, goes_on}

-- nothing is measured where nothing is read
misses_through : {X Y : Type 0} (f : X → Y) (e : FormError) (read : Option (X × List ℕ)) → Misses e read → Misses e (through f read)
misses_through f Malformed read h = ap (through f) h
misses_through f (Memory e) read h = tt

some_sizes : {I : Type 0} (depth : I → ℕ) (occurs : I → Bool) (n : ℕ) (seen : Bool) (read : Option (List I × List ℕ)) (code : List I) (after : List ℕ)
    → read ≡ Some (code, after) → n ≡ greatest depth code → seen ≡ list_any occurs code → through (sizes depth occurs) read ≡ Some ((n, seen), after)
some_sizes depth occurs n seen read code after h e f = rw (h, e, f) refl

module _ {I H : Type 0} (token : Form (Token I H)) (has_arms : H → Bool) (build : H → List I → List I → I) (marks : I → Bool) (total : Option (List I × List ℕ)) (n i deepest : ℕ) (seen : Bool) (arms : List Bool) (b : List ℕ) where
  -- there is code that the reader would have at this place, and what was counted is of that code
  pub record Keeps : Type 0 where
    pub code : List I
    pub opened : List (OpenBlock I H)
    pub so_far : read_code has_arms build token (n - i) code opened b ≡ total
    pub same : splits has_arms opened ≡ arms
    pub fair : AreFair has_arms opened
    pub counted : AreSizes token has_arms build marks deepest seen code opened

module _ {I H : Type 0} (token : Form (Token I H)) (has_arms : H → Bool) (build : H → List I → List I → I) (marks : I → Bool) (total : Option (List I × List ℕ)) (n i deepest : ℕ) (seen : Bool) (arms : List Bool) (b : List ℕ) (keeps : Keeps token has_arms build marks total n i deepest seen arms b) (depth : I → ℕ) (occurs : I → Bool) where
  pub no_more : n ≤ i → through (sizes depth occurs) total ≡ None
  no_more over = ap (through (sizes depth occurs)) (out_of_bytes token has_arms build n i keeps.code keeps.opened b total over keeps.so_far)

  pub no_token_counted : i < n → (e : FormError) → Misses e (token.read b) → Misses e (through (sizes depth occurs) total)
  no_token_counted below e h = misses_through (sizes depth occurs) e total (no_token token has_arms build n i keeps.code keeps.opened b total below keeps.so_far e h)

module _ {I H : Type 0} (token : Form (Token I H)) (has_arms : H → Bool) (build : H → List I → List I → I) (marks : I → Bool) (total : Option (List I × List ℕ)) (n i deepest : ℕ) (seen : Bool) (arms : List Bool) (b : List ℕ) (keeps : Keeps token has_arms build marks total n i deepest seen arms b) (below : i < n) (k : Token I H) (after : List ℕ) (h : token.read b ≡ Some (k, after)) where
  pub no_count : (e : FormError) (m : ℕ) (found : Bool) (left : List Bool) → Counted (Err e) m found left (count has_arms marks k deepest seen arms) → (depth : I → ℕ) (occurs : I → Bool) → Misses e (through (sizes depth occurs) total)
  no_count Malformed m found left e depth occurs =
      let wrong = is_wrong token has_arms build marks _ _ (same_turn token has_arms build marks b after k deepest seen arms keeps.code keeps.opened h keeps.same keeps.fair keeps.counted) e in
      misses_through (sizes depth occurs) Malformed total (no_turn token has_arms build n i keeps.code keeps.opened b total below keeps.so_far k after h Malformed keeps.code keeps.opened wrong)
  no_count (Memory error) m found left e depth occurs = tt

  pub last_count : (m : ℕ) (found : Bool) → count has_arms marks k deepest seen arms ≡ Over m found → (depth : I → ℕ) (occurs : I → Bool) → IsDepth token has_arms build depth → IsOccurrence token has_arms build marks occurs
      → through (sizes depth occurs) total ≡ Some ((m, found), after)
  last_count m found e depth occurs deep occurring =
      let whole = is_whole token has_arms build marks _ _ m found (same_turn token has_arms build marks b after k deepest seen arms keeps.code keeps.opened h keeps.same keeps.fair keeps.counted) e in
      let read : total ≡ Some (whole.0, after) = last_turn token has_arms build n i keeps.code keeps.opened b total below keeps.so_far k after h whole.0 whole.1 in
      some_sizes depth occurs m found total whole.0 after read (whole.2.reached depth deep) (whole.2.found occurs occurring)

  pub next_count : (m : ℕ) (found : Bool) (left : List Bool) → count has_arms marks k deepest seen arms ≡ Further m found left → Keeps token has_arms build marks total n (i + 1) m found left after
  next_count m found left e =
      let next = goes_on token has_arms build marks _ _ m found left (same_turn token has_arms build marks b after k deepest seen arms keeps.code keeps.opened h keeps.same keeps.fair keeps.counted) e in
      record {
        code = next.0;
        opened = next.1;
        so_far = next_turn token has_arms build n i keeps.code keeps.opened b total below keeps.so_far k after h next.0 next.1 next.2;
        same = next.3;
        fair = next.4;
        counted = next.5;
      }
