-- What passes a weaker test nowhere passes a stronger one nowhere: so no clause hands over a reference where there are no
-- exceptions.
use Rattle.std.proofs.Common.{◌≡◌, Bool, false, ◌||◌, List, [], ◌∷◌, map, unwrap_or, refl, sym, ap, ◌∙◌}
use Rattle.std.specs.List.{list_any}
use Rattle.std.proofs.lemmas.List.{map-append}
use Rattle.wasm_ast.specs.Features.{shows}
use Rattle.wasm_ast.specs.Occurrence.{Head, head, inside, some, some_in, some_step}
use Rattle.wasm_ast.specs.Places.{in_offset, in_element, in_table, in_bodies, outside_elements, anywhere}
use Rattle.wasm_ast.specs.declared.features.kind.Feature.TheVariants as features
use Rattle.wasm_ast.specs.declared.module.code.Instr.{Instr, roll-Instr}
use Rattle.wasm_ast.specs.declared.module.code.Instr.TheOpen.{Instr-F}
use Rattle.wasm_ast.specs.declared.module.code.Instr.TheFolds.{map-Instr, fold-roll-Instr}
use Rattle.wasm_ast.specs.declared.module.parts.Element.{Element}
use Rattle.wasm_ast.specs.declared.module.parts.Mode.{Mode}
use Rattle.wasm_ast.specs.declared.module.parts.Mode.TheVariants.{Active, Passive, Declarative}
use Rattle.wasm_ast.specs.declared.module.parts.Module.{Module}
use Rattle.meaning_new.specs.Language.{over_twice, induct}
use Rattle.pass_law.specs.Hosts.{catches_by_reference}
use Rattle.pass_plain.proofs.NothingNew.{none_of, both_none}

inside_map : {X Y : Type 0} (f : X → Y) (l : Instr-F X) → inside (map-Instr X Y f l) ≡ map f (inside l)
inside_map f (Instr-F.Block t code) = refl
inside_map f (Instr-F.Loop t code) = refl
inside_map f (Instr-F.If t first second) = sym (map-append f first second)
inside_map f (Instr-F.TryTable t clauses code) = refl
inside_map f Instr-F.Nop = refl
inside_map f l = refl

any_less : {A : Type 0} (f g : A → Bool) → ((a : A) → f a ≡ false → g a ≡ false) → (l : List A) → list_any f l ≡ false → list_any g l ≡ false
any_less f g h [] e = refl
any_less f g h (a ∷ l) e = let both = none_of (f a) (list_any f l) e in both_none (g a) (list_any g l) (h a both.0) (any_less f g h l both.1)

module _ (p q : Head → Bool) (less : (h : Head) → q h ≡ false → p h ≡ false) where
  abbrev Less : Instr → Type 0
  Less i = some q i ≡ false → some p i ≡ false

  abbrev Known : Type 0
  Known = (i : Instr) × Less i

  known_less : (ks : List Known) → list_any (λ b. b) (map (λ k. some q k.0) ks) ≡ false → list_any (λ b. b) (map (λ k. some p k.0) ks) ≡ false
  known_less [] e = refl
  known_less (k ∷ ks) e =
      let both = none_of (some q k.0) (list_any (λ b. b) (map (λ j. some q j.0) ks)) e in
      both_none (some p k.0) (list_any (λ b. b) (map (λ j. some p j.0) ks)) (k.1 both.0) (known_less ks both.1)

  -- a test of an instruction of known ones
  tested : (t : Head → Bool) (l : Instr-F Known) → some t (roll-Instr (map-Instr Known Instr (λ k. k.0) l)) ≡ (t (head l) || list_any (λ b. b) (map (λ k. some t k.0) (inside l)))
  tested t l =
      fold-roll-Instr Bool (some_step t) (map-Instr Known Instr (λ k. k.0) l)
      ∙ ap (some_step t) (over_twice Known Instr Bool (λ k. k.0) (some t) l)
      ∙ ap (λ h. t h || list_any (λ b. b) (inside (map-Instr Known Bool (λ k. some t k.0) l))) (over_twice Known Bool (Unit {0}) (λ k. some t k.0) (λ b. tt) l)
      ∙ ap (λ bs. t (head l) || list_any (λ b. b) bs) (inside_map (λ k. some t k.0) l)

  instr_less : (i : Instr) → Less i
  instr_less = induct Less (λ l e.
      let both = none_of (q (head l)) (list_any (λ b. b) (map (λ k. some q k.0) (inside l))) (sym (tested q l) ∙ e) in
      tested p l ∙ both_none (p (head l)) (list_any (λ b. b) (map (λ k. some p k.0) (inside l))) (less (head l) both.0) (known_less (inside l) both.1))

  code_less : (code : List Instr) → some_in q code ≡ false → some_in p code ≡ false
  code_less = any_less (some q) (some p) instr_less

  offset_less : (mode : Mode) → in_offset q mode ≡ false → in_offset p mode ≡ false
  offset_less (Active x offset) e = code_less offset e
  offset_less Passive e = refl
  offset_less Declarative e = refl

  element_less : (d : Element) → in_element q d ≡ false → in_element p d ≡ false
  element_less d e =
      let both = none_of (in_offset q d.mode) (list_any (some_in q) d.items) e in
      both_none (in_offset p d.mode) (list_any (some_in p) d.items) (offset_less d.mode both.0) (any_less (some_in q) (some_in p) code_less d.items both.1)

  pub nowhere_less : (m : Module) → anywhere q m ≡ false → anywhere p m ≡ false
  nowhere_less m e =
      let all = none_of (outside_elements q m) (list_any (in_element q) m.elems) e in
      let first = none_of (list_any (in_table q) m.tables || list_any (λ g. some_in q g.init) m.globals || in_bodies q m) (list_any (λ s. in_offset q s.mode) m.datas) all.0 in
      let second = none_of (list_any (in_table q) m.tables || list_any (λ g. some_in q g.init) m.globals) (in_bodies q m) first.0 in
      let third = none_of (list_any (in_table q) m.tables) (list_any (λ g. some_in q g.init) m.globals) second.0 in
      both_none (outside_elements p m) (list_any (in_element p) m.elems)
      (both_none (list_any (in_table p) m.tables || list_any (λ g. some_in p g.init) m.globals || in_bodies p m) (list_any (λ s. in_offset p s.mode) m.datas)
      (both_none (list_any (in_table p) m.tables || list_any (λ g. some_in p g.init) m.globals) (in_bodies p m)
      (both_none (list_any (in_table p) m.tables) (list_any (λ g. some_in p g.init) m.globals)
      (any_less (in_table q) (in_table p) (λ t. code_less (unwrap_or t.init [])) m.tables third.0)
      (any_less (λ g. some_in q g.init) (λ g. some_in p g.init) (λ g. code_less g.init) m.globals third.1))
      (any_less (λ b. some_in q b.code) (λ b. some_in p b.code) (λ b. code_less b.code) m.codes second.1))
      (any_less (λ s. in_offset q s.mode) (λ s. in_offset p s.mode) (λ s. offset_less s.mode) m.datas first.1))
      (any_less (in_element q) (in_element p) element_less m.elems all.1)

-- a clause that hands over a reference shows exceptions
reference_shows : (h : Head) → shows features.Exceptions h ≡ false → catches_by_reference h ≡ false
reference_shows (Instr-F.TryTable t clauses code) e = let no : ⊥ = cc in absurd no
reference_shows h e = refl

pub no_references : (m : Module) → anywhere (shows features.Exceptions) m ≡ false → anywhere catches_by_reference m ≡ false
no_references m e = nowhere_less catches_by_reference (shows features.Exceptions) reference_shows m e
