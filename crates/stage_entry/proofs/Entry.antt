-- Where nothing of the profile's list holds, the module may stand before the first stage.
use Rattle.std.proofs.Common.{◌≡◌, ◌+◌, suc, ◌≤◌, Bool, true, false, cond, ◌||◌, ◌&&◌, not, nat_eq, nat_lt, List, [], ◌∷◌, ◌++◌, length, codes, find, position, Option, Some, None, option_map, refl, arith, ltb-false}
use Rattle.std.specs.List.{list_any, position_or_len, starts_with}
use Rattle.std.specs.Option.{option_or}
use Rattle.std.proofs.lemmas.Bool.{and_parts, and_from, and_left, both_ways}
use Rattle.wasm_ast.specs.declared.module.parts.Module.{Module}
use Rattle.wasm_ast.specs.declared.features.kind.Feature.TheVariants as features
use Rattle.wasm_ast.specs.declared.outside.obstacle.Obstacle.{Obstacle}
use Rattle.wasm_ast.specs.declared.outside.obstacle.Obstacle.TheVariants as obstacles
use Rattle.wasm_ast.specs.Has.{has_of}
use Rattle.wasm_ast.specs.Outside.{outside_features, first_feature, is_reserved, first_reserved, exports_memory, outside_by_size}
use Rattle.wasm_ast.specs.Region.{needs_region, has_too_many_pages}
use Rattle.pass_law.specs.Stages.{needs_stage_region, exports_name}
use Rattle.stage_entry.specs.Entry.{MayBegin}
use Rattle.stage_entry.proofs.Wider.{Implies, any_implies}
use Rattle.stage_entry.proofs.Regions.{needs_no_less}
use Rattle.stage_entry.proofs.Loads.{room_to_begin}

-- ---- what was looked for and not found

pub map_none : {A B : Type 0} (f : A → B) (o : Option A) → option_map f o ≡ None → o ≡ None
map_none f None e = refl
map_none f (Some x) e = absurd cc

pub or_none : {A : Type 0} (a b : Option A) → option_or a b ≡ None → (a ≡ None) × (b ≡ None)
or_none None b e = (refl, e)
or_none (Some x) b e = absurd cc

pub some_if : {A : Type 0} (b : Bool) (x : A) → cond b (Some x) None ≡ None → b ≡ false
some_if true x e = absurd cc
some_if false x e = refl

not_found : {A : Type 0} (p : A → Bool) (b : Bool) (x : A) (xs : List A) → (find p xs ≡ None → list_any p xs ≡ false) → cond b (Some x) (find p xs) ≡ None → (b || list_any p xs) ≡ false
not_found p true x xs h e = absurd cc
not_found p false x xs h e = h e

pub none_found : {A : Type 0} (p : A → Bool) (xs : List A) → find p xs ≡ None → list_any p xs ≡ false
none_found p [] e = refl
none_found p (x ∷ xs) e = not_found p (p x) x xs (none_found p xs) e

-- where the search for a place came to the end, nothing passes
end_reached : {A : Type 0} (p : A → Bool) (b : Bool) (xs : List A) → (length xs ≤ position_or_len p xs → list_any p xs ≡ false) → suc (length xs) ≤ cond (not b) (1 + position_or_len p xs) 0 → (b || list_any p xs) ≡ false
end_reached p true xs h e = let no : ⊥ = omega arith in absurd no
end_reached p false xs h e = let rest : length xs ≤ position_or_len p xs = omega arith in h rest

none_before_end : {A : Type 0} (p : A → Bool) (xs : List A) → length xs ≤ position_or_len p xs → list_any p xs ≡ false
none_before_end p [] e = refl
none_before_end p (x ∷ xs) e = end_reached p (p x) xs (none_before_end p xs) e

none_placed : {A : Type 0} (p : A → Bool) (xs : List A) → position p xs ≡ None → list_any p xs ≡ false
none_placed p xs e =
    none_before_end p xs (ltb-false (position_or_len p xs) (length xs) (some_if (nat_lt (position_or_len p xs) (length xs)) (position_or_len p xs) e))

-- ---- names

-- what begins with a longer text begins with the first part of it
begins_shorter : {A : Type 0} (eq : A → A → Bool) (front more xs : List A) → Implies (starts_with eq xs (front ++ more)) (starts_with eq xs front)
begins_shorter eq [] more xs e = refl
begins_shorter eq (c ∷ front) more [] e = e
begins_shorter eq (c ∷ front) more (x ∷ xs) e =
    let both : (eq c x ≡ true) × (starts_with eq xs (front ++ more) ≡ true) = and_parts (eq c x) (starts_with eq xs (front ++ more)) e in
    and_from (eq c x) (starts_with eq xs front) both.0 (begins_shorter eq front more xs both.1)

pub implied_false : (a b : Bool) → Implies a b → b ≡ false → a ≡ false
implied_false true b h e = absurd (both_ways b e (h refl))
implied_false false b h e = refl

module _ (m : Module) where
  names_shorter : Implies (exports_name (codes "lower.r.") m) (exports_name (codes "lower.") m)
  names_shorter =
      any_implies (λ e. starts_with nat_eq e.name (codes "lower.r.")) (λ e. starts_with nat_eq e.name (codes "lower."))
      (λ e. begins_shorter nat_eq (codes "lower.") (codes "r.") e.name) m.exports

  memories_stay : Implies (exports_memory m && needs_stage_region m) (exports_memory m && needs_region m)
  memories_stay e =
      let both : (exports_memory m ≡ true) × (needs_stage_region m ≡ true) = and_parts (exports_memory m) (needs_stage_region m) e in
      and_from (exports_memory m) (needs_region m) both.0 (needs_no_less m both.1)

pub may_begin : MayBegin
may_begin m nothing =
    let sized : Option Obstacle = cond (has_too_many_pages m) (Some obstacles.TooManyPages) None in
    let named : Option Obstacle = option_map obstacles.ReservedName (first_reserved m.exports) in
    let shown : Option Obstacle = option_map obstacles.Feature (first_feature outside_features m) in
    let inside : (shown ≡ None) × (option_or named (outside_by_size m) ≡ None) = or_none shown (option_or named (outside_by_size m)) nothing in
    let names : (named ≡ None) × (outside_by_size m ≡ None) = or_none named (outside_by_size m) inside.1 in
    let sizes : (cond (exports_memory m && needs_region m) (Some obstacles.MemoryMoved) None ≡ None) × (sized ≡ None) =
    or_none (cond (exports_memory m && needs_region m) (Some obstacles.MemoryMoved) None) sized names.1 in
    let unnamed : exports_name (codes "lower.") m ≡ false = none_placed is_reserved m.exports (map_none obstacles.ReservedName (first_reserved m.exports) names.0) in
    record {
      profile = none_found (has_of m) outside_features (map_none obstacles.Feature (first_feature outside_features m) inside.0);
      memories = implied_false (exports_memory m && needs_stage_region m) (exports_memory m && needs_region m) (memories_stay m)
          (some_if (exports_memory m && needs_region m) obstacles.MemoryMoved sizes.0);
      pages = room_to_begin m (some_if (has_too_many_pages m) obstacles.TooManyPages sizes.1);
      exception_names = and_left (exports_name (codes "lower.") m) (has_of m features.Exceptions) unnamed;
      result_names = and_left (exports_name (codes "lower.r.") m) (has_of m features.Multi || has_of m features.Simd || has_of m features.LateLanes)
          (implied_false (exports_name (codes "lower.r.") m) (exports_name (codes "lower.") m) (names_shorter m) unnamed);
    }
