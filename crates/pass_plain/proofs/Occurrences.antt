-- What occurs in code is read off it: tests of its instructions, and the types that indirect calls name.
use Rattle.std.proofs.Common.{◌≡◌, ℕ, Bool, true, false, ◌||◌, List, [], ◌∷◌, ◌++◌, map, append-nil, append_assoc, refl, sym, ap, ◌∙◌}
use Rattle.std.specs.List.{list_any, flat_map}
use Rattle.std.proofs.lemmas.Grind.{flat_map-append}
use Rattle.std.proofs.lemmas.List.Folds.{list_any-append}
use Rattle.num_core.specs.declared.operators.Width.{Width}
use Rattle.num_core.specs.declared.operators.Bin.{Bin}
use Rattle.num_core.specs.declared.operators.Conv.{Conv}
use Rattle.wasm_ast.specs.declared.features.kind.Feature.{Feature}
use Rattle.wasm_ast.specs.declared.features.kind.Feature.TheVariants as features
use Rattle.wasm_ast.specs.declared.module.op.Op.TheVariants as ops
use Rattle.wasm_ast.specs.declared.module.code.Instr.{Instr, roll-Instr}
use Rattle.wasm_ast.specs.declared.module.code.Instr.TheOpen.{Instr-F}
use Rattle.wasm_ast.specs.declared.module.code.Instr.TheFolds.{map-Instr, fold-roll-Instr}
use Rattle.wasm_ast.specs.Counts.{is_data_use}
use Rattle.wasm_ast.specs.Features.{shows}
use Rattle.wasm_ast.specs.Kept.{called, called_step, uses_table}
use Rattle.wasm_ast.specs.Occurrence.{Head, some, some_step}
use Rattle.typed_trees.specs.Trees.{with_bodies}
use Rattle.pass_law.specs.Hosts.{catches_by_reference}
use Rattle.pass_law.specs.Stages.{copies_data, copies_elements}
use Rattle.pass_plain.specs.Plans.{is_sign}
use Rattle.pass_plain.proofs.Readings.{Reading, read}
pub use Rattle.rewriting_kit.proofs.Showing.{Blind, or_none}

-- One that sees neither nops nor integer arithmetic either.
pub record Overlooks (p : Head → Bool) : Type 0 where
  pub bodies : Blind p
  pub nop : p Instr-F.Nop ≡ false
  pub narrow : (i : ℕ) → p (Instr-F.Pure (ops.I32Const i)) ≡ false
  pub wide : (i : ℕ) → p (Instr-F.Pure (ops.I64Const i)) ≡ false
  pub binary : (w : Width) (op : Bin) → p (Instr-F.Pure (ops.Binary w op)) ≡ false
  pub convert : (op : Conv) → p (Instr-F.Pure (ops.Convert op)) ≡ false

-- such tests: of each feature, but that sign extension is arithmetic, and of what the definitions of stages look for
pub blind_feature : (f : Feature) → Blind (shows f)
blind_feature features.Sign = record { block = λ t c c'. refl; loop = λ t c c'. refl; choice = λ t c d c' d'. refl; guarded = λ t clauses c c'. refl }
blind_feature f = record { block = λ t c c'. refl; loop = λ t c c'. refl; choice = λ t c d c' d'. refl; guarded = λ t clauses c c'. refl }

pub overlooks_feature : (f : Feature) → is_sign f ≡ false → Overlooks (shows f)
overlooks_feature features.Sign h = absurd cc
overlooks_feature f h = record { bodies = blind_feature f; nop = refl; narrow = λ i. refl; wide = λ i. refl; binary = λ w op. refl; convert = λ op. refl }

pub overlooks_table : Overlooks uses_table
overlooks_table = record { bodies = record { block = λ t c c'. refl; loop = λ t c c'. refl; choice = λ t c d c' d'. refl; guarded = λ t clauses c c'. refl }; nop = refl; narrow = λ i. refl; wide = λ i. refl; binary = λ w op. refl; convert = λ op. refl }

pub overlooks_reference : Overlooks catches_by_reference
overlooks_reference = record { bodies = record { block = λ t c c'. refl; loop = λ t c c'. refl; choice = λ t c d c' d'. refl; guarded = λ t clauses c c'. refl }; nop = refl; narrow = λ i. refl; wide = λ i. refl; binary = λ w op. refl; convert = λ op. refl }

pub overlooks_data : Overlooks is_data_use
overlooks_data = record { bodies = record { block = λ t c c'. refl; loop = λ t c c'. refl; choice = λ t c d c' d'. refl; guarded = λ t clauses c c'. refl }; nop = refl; narrow = λ i. refl; wide = λ i. refl; binary = λ w op. refl; convert = λ op. refl }

pub overlooks_segment : (k : ℕ) → Overlooks (copies_data k)
overlooks_segment k = record { bodies = record { block = λ t c c'. refl; loop = λ t c c'. refl; choice = λ t c d c' d'. refl; guarded = λ t clauses c c'. refl }; nop = refl; narrow = λ i. refl; wide = λ i. refl; binary = λ w op. refl; convert = λ op. refl }

pub overlooks_element : (k : ℕ) → Overlooks (copies_elements k)
overlooks_element k = record { bodies = record { block = λ t c c'. refl; loop = λ t c c'. refl; choice = λ t c d c' d'. refl; guarded = λ t clauses c c'. refl }; nop = refl; narrow = λ i. refl; wide = λ i. refl; binary = λ w op. refl; convert = λ op. refl }

-- whether some instruction passes
pub or_grouped : (a b c : Bool) → ((a || b) || c) ≡ (a || (b || c))
or_grouped true b c = refl
or_grouped false b c = refl

abbrev pub tests : Reading Bool
tests = record { none = false; both = λ a b. a || b; none_first = λ b. refl; none_last = or_none; grouped = or_grouped }

pub read_any : (one : Instr → Bool) (code : List Instr) → read tests one code ≡ list_any one code
read_any one [] = refl
read_any one (i ∷ code) = ap (λ b. one i || b) (read_any one code)

any_of : (one : Instr → Bool) (code : List Instr) → list_any (λ b. b) (map one code) ≡ read tests one code
any_of one [] = refl
any_of one (i ∷ code) = ap (λ b. one i || b) (any_of one code)

module _ (one one' : Instr → Bool) (a a' : List Instr) (e : read tests one a ≡ read tests one' a') where
  pub any_alike : list_any (λ b. b) (map one a) ≡ list_any (λ b. b) (map one' a')
  any_alike = any_of one a ∙ e ∙ sym (any_of one' a')

  pub any_both : (b b' : List Instr) → read tests one b ≡ read tests one' b' → list_any (λ x. x) (map one a ++ map one b) ≡ list_any (λ x. x) (map one' a' ++ map one' b')
  any_both b b' e' =
      list_any-append (λ x. x) (map one a) (map one b)
      ∙ ap (λ x. x || list_any (λ y. y) (map one b)) any_alike
      ∙ ap (λ x. list_any (λ y. y) (map one' a') || x) (any_of one b ∙ e' ∙ sym (any_of one' b'))
      ∙ sym (list_any-append (λ x. x) (map one' a') (map one' b'))

module _ (p : Head → Bool) (o : Blind p) where
  -- the bodies of an instruction, without what stands in them
  abbrev lengths : List Instr → List (Unit {0})
  lengths a = map (λ x. tt) (map (some p) a)

  seen_layer : (l : Instr-F Instr) (a b a' b' : List Instr) → read tests (some p) a ≡ read tests (some p) a' → read tests (some p) b ≡ read tests (some p) b'
      → some_step p (map-Instr Instr Bool (some p) (with_bodies l a b)) ≡ some_step p (map-Instr Instr Bool (some p) (with_bodies l a' b'))
  seen_layer (Instr-F.Block t code) a b a' b' e e' =
      ap (λ x. x || list_any (λ y. y) (map (some p) a)) (o.block t (lengths a) (lengths a')) ∙ ap (λ x. p (Instr-F.Block t (lengths a')) || x) (any_alike (some p) (some p) a a' e)
  seen_layer (Instr-F.Loop t code) a b a' b' e e' =
      ap (λ x. x || list_any (λ y. y) (map (some p) a)) (o.loop t (lengths a) (lengths a')) ∙ ap (λ x. p (Instr-F.Loop t (lengths a')) || x) (any_alike (some p) (some p) a a' e)
  seen_layer (Instr-F.If t code code') a b a' b' e e' =
      ap (λ x. x || list_any (λ y. y) (map (some p) a ++ map (some p) b)) (o.choice t (lengths a) (lengths b) (lengths a') (lengths b'))
      ∙ ap (λ x. p (Instr-F.If t (lengths a') (lengths b')) || x) (any_both (some p) (some p) a a' e b b' e')
  seen_layer (Instr-F.TryTable t clauses code) a b a' b' e e' =
      ap (λ x. x || list_any (λ y. y) (map (some p) a)) (o.guarded t clauses (lengths a) (lengths a')) ∙ ap (λ x. p (Instr-F.TryTable t clauses (lengths a')) || x) (any_alike (some p) (some p) a a' e)
  seen_layer l a b a' b' e e' = refl

  -- an instruction with other bodies, in which as much passes
  pub seen_alike : (l : Instr-F Instr) (a b a' b' : List Instr) → read tests (some p) a ≡ read tests (some p) a' → read tests (some p) b ≡ read tests (some p) b' → some p (roll-Instr (with_bodies l a b)) ≡ some p (roll-Instr (with_bodies l a' b'))
  seen_alike l a b a' b' e e' =
      fold-roll-Instr Bool (some_step p) (with_bodies l a b) ∙ seen_layer l a b a' b' e e' ∙ sym (fold-roll-Instr Bool (some_step p) (with_bodies l a' b'))

-- the types that indirect calls name
abbrev pub names : Reading (List ℕ)
names = record { none = []; both = λ a b. a ++ b; none_first = λ a. refl; none_last = append-nil; grouped = append_assoc }

pub read_called : (code : List Instr) → read names called code ≡ flat_map called code
read_called [] = refl
read_called (i ∷ code) = ap (λ l. called i ++ l) (read_called code)

called_of : (code : List Instr) → flat_map (λ ts. ts) (map called code) ≡ read names called code
called_of [] = refl
called_of (i ∷ code) = ap (λ l. called i ++ l) (called_of code)

called_same : (a a' : List Instr) → read names called a ≡ read names called a' → flat_map (λ ts. ts) (map called a) ≡ flat_map (λ ts. ts) (map called a')
called_same a a' e = called_of a ∙ e ∙ sym (called_of a')

called_both : (a b a' b' : List Instr) → read names called a ≡ read names called a' → read names called b ≡ read names called b' → flat_map (λ ts. ts) (map called a ++ map called b) ≡ flat_map (λ ts. ts) (map called a' ++ map called b')
called_both a b a' b' e e' =
    flat_map-append (λ ts. ts) (map called a) (map called b)
    ∙ ap (λ l. l ++ flat_map (λ ts. ts) (map called b)) (called_same a a' e)
    ∙ ap (λ l. flat_map (λ ts. ts) (map called a') ++ l) (called_same b b' e')
    ∙ sym (flat_map-append (λ ts. ts) (map called a') (map called b'))

called_layer : (l : Instr-F Instr) (a b a' b' : List Instr) → read names called a ≡ read names called a' → read names called b ≡ read names called b'
    → called_step (map-Instr Instr (List ℕ) called (with_bodies l a b)) ≡ called_step (map-Instr Instr (List ℕ) called (with_bodies l a' b'))
called_layer (Instr-F.Block t code) a b a' b' e e' = called_same a a' e
called_layer (Instr-F.Loop t code) a b a' b' e e' = called_same a a' e
called_layer (Instr-F.If t code code') a b a' b' e e' = called_both a b a' b' e e'
called_layer (Instr-F.TryTable t clauses code) a b a' b' e e' = called_same a a' e
called_layer l a b a' b' e e' = refl

pub called_alike : (l : Instr-F Instr) (a b a' b' : List Instr) → read names called a ≡ read names called a' → read names called b ≡ read names called b' → called (roll-Instr (with_bodies l a b)) ≡ called (roll-Instr (with_bodies l a' b'))
called_alike l a b a' b' e e' =
    fold-roll-Instr (List ℕ) called_step (with_bodies l a b) ∙ called_layer l a b a' b' e e' ∙ sym (fold-roll-Instr (List ℕ) called_step (with_bodies l a' b'))
