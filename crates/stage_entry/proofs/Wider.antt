-- Where a test of instructions passes somewhere in a module, one that passes wherever it does passes too.
use Rattle.std.proofs.Common.{◌≡◌, Bool, true, false, ◌||◌, List, [], ◌∷◌, map, unwrap_or, refl, sym, ap, subst, ◌∙◌}
use Rattle.std.specs.List.{list_any}
use Rattle.wasm_ast.specs.declared.module.code.Instr.{Instr, roll-Instr, out-roll-Instr}
use Rattle.wasm_ast.specs.declared.module.code.Instr.TheOpen.{Instr-F}
use Rattle.wasm_ast.specs.declared.module.code.Instr.TheFolds.{map-Instr, ind-Instr}
use Rattle.wasm_ast.specs.declared.module.parts.Element.{Element}
use Rattle.wasm_ast.specs.declared.module.parts.Mode.{Mode}
use Rattle.wasm_ast.specs.declared.module.parts.Mode.TheVariants.{Active}
use Rattle.wasm_ast.specs.declared.module.parts.Module.{Module}
use Rattle.wasm_ast.specs.Occurrence.{Head, head, inside, some, some_in}
use Rattle.wasm_ast.specs.Places.{in_offset, in_element, in_table, in_bodies, outside_elements, anywhere}
use Rattle.wasm_ast.proofs.Bodies.{some-out, inside-map}

-- the first is true only where the second is
abbrev pub Implies : Bool → Bool → Type 0
Implies a b = a ≡ true → b ≡ true

pub or_implies : (a b c d : Bool) → Implies a c → Implies b d → Implies (a || b) (c || d)
or_implies true b c d f g e = ap (λ x. x || d) (f refl)
or_implies false b true d f g e = refl
or_implies false b false d f g e = g e

pub any_implies : {A : Type 0} (f g : A → Bool) → ((x : A) → Implies (f x) (g x)) → (xs : List A) → Implies (list_any f xs) (list_any g xs)
any_implies f g h [] e = e
any_implies f g h (x ∷ xs) e = or_implies (f x) (list_any f xs) (g x) (list_any g xs) (h x) (any_implies f g h xs) e

module _ (p q : Head → Bool) (wider : (h : Head) → Implies (p h) (q h)) where
  -- instructions of which it holds
  abbrev IsWider : Instr → Type 0
  IsWider i = Implies (some p i) (some q i)

  abbrev Proved : Type 0
  Proved = (i : Instr) × IsWider i

  abbrev code_of : List Proved → List Instr
  code_of es = map (λ e. e.0) es

  abbrev layer_of : Instr-F Proved → Instr-F Instr
  layer_of = map-Instr Proved Instr (λ e. e.0)

  code_wider : (es : List Proved) → Implies (some_in p (code_of es)) (some_in q (code_of es))
  code_wider [] e = e
  code_wider (x ∷ es) e = or_implies (some p x.0) (some_in p (code_of es)) (some q x.0) (some_in q (code_of es)) x.1 (code_wider es) e

  abbrev in_layer : (Head → Bool) → Instr-F Instr → Bool
  in_layer t l = t (head l) || some_in t (inside l)

  some_roll : (t : Head → Bool) (l : Instr-F Instr) → some t (roll-Instr l) ≡ in_layer t l
  some_roll t l = some-out t (roll-Instr l) ∙ ap (in_layer t) (out-roll-Instr l)

  inside_wider : (y : Instr-F Proved) → Implies (some_in p (inside (layer_of y))) (some_in q (inside (layer_of y)))
  inside_wider y = subst (λ l. Implies (some_in p l) (some_in q l)) (sym (inside-map (λ e. e.0) y)) (code_wider (inside y))

  layer_wider : (y : Instr-F Proved) → Implies (in_layer p (layer_of y)) (in_layer q (layer_of y))
  layer_wider y =
      or_implies (p (head (layer_of y))) (some_in p (inside (layer_of y))) (q (head (layer_of y))) (some_in q (inside (layer_of y))) (wider (head (layer_of y))) (inside_wider y)

  rolled_wider : (x : Instr-F Instr) (y : Instr-F Proved) → layer_of y ≡ x → IsWider (roll-Instr x)
  rolled_wider x y is e = some_roll q x ∙ subst (λ l. Implies (in_layer p l) (in_layer q l)) is (layer_wider y) (sym (some_roll p x) ∙ e)

  instr_wider : (i : Instr) → IsWider i
  instr_wider = ind-Instr IsWider rolled_wider

  some_in_wider : (code : List Instr) → Implies (some_in p code) (some_in q code)
  some_in_wider = any_implies (some p) (some q) instr_wider

  offset_wider : (mode : Mode) → Implies (in_offset p mode) (in_offset q mode)
  offset_wider (Active x offset) e = some_in_wider offset e
  offset_wider _ e = e

  element_wider : (s : Element) → Implies (in_element p s) (in_element q s)
  element_wider s =
      or_implies (in_offset p s.mode) (list_any (some_in p) s.items) (in_offset q s.mode) (list_any (some_in q) s.items)
      (offset_wider s.mode) (any_implies (some_in p) (some_in q) some_in_wider s.items)

  module _ (m : Module) where
    abbrev before_bodies : (Head → Bool) → Bool
    before_bodies t = list_any (in_table t) m.tables || list_any (λ g. some_in t g.init) m.globals

    before_wider : Implies (before_bodies p) (before_bodies q)
    before_wider =
        or_implies (list_any (in_table p) m.tables) (list_any (λ g. some_in p g.init) m.globals) (list_any (in_table q) m.tables) (list_any (λ g. some_in q g.init) m.globals)
        (any_implies (in_table p) (in_table q) (λ t. some_in_wider (unwrap_or t.init [])) m.tables)
        (any_implies (λ g. some_in p g.init) (λ g. some_in q g.init) (λ g. some_in_wider g.init) m.globals)

    bodies_wider : Implies (before_bodies p || in_bodies p m) (before_bodies q || in_bodies q m)
    bodies_wider =
        or_implies (before_bodies p) (in_bodies p m) (before_bodies q) (in_bodies q m) before_wider
        (any_implies (λ b. some_in p b.code) (λ b. some_in q b.code) (λ b. some_in_wider b.code) m.codes)

    outside_wider : Implies (outside_elements p m) (outside_elements q m)
    outside_wider =
        or_implies (before_bodies p || in_bodies p m) (list_any (λ s. in_offset p s.mode) m.datas) (before_bodies q || in_bodies q m) (list_any (λ s. in_offset q s.mode) m.datas) bodies_wider
        (any_implies (λ s. in_offset p s.mode) (λ s. in_offset q s.mode) (λ s. offset_wider s.mode) m.datas)

    pub anywhere_wider : Implies (anywhere p m) (anywhere q m)
    anywhere_wider =
        or_implies (outside_elements p m) (list_any (in_element p) m.elems) (outside_elements q m) (list_any (in_element q) m.elems) outside_wider
        (any_implies (in_element p) (in_element q) element_wider m.elems)
