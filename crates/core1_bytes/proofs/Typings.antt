-- What a typed module says of what is written.
use Rattle.std.proofs.Common.{◌≡◌, ℕ, suc, length, List, [], ◌∷◌, refl, ap}
use Rattle.std.specs.Prelude.{All}
use Rattle.std.specs.List.{AllByRecursion}
use Rattle.std.proofs.lemmas.List.Elements.{All-from_recursion}
use Rattle.core1_ast.specs.declared.module.code.Body1.{Body1}
use Rattle.core1_ast.specs.declared.module.parts.Module1.{Module1}
use Rattle.core1_ast.specs.Typing.{Typed1, TypedFuncs, TypedGlobal, TypedElement, TypedSegment, IsShortBody}
use Rattle.core1_bytes.specs.Appends.{IsTypedCode, IsWrittenBody}

all_of : {A : Type 0} (P Q : A → Type 0) (xs : List A) → ((x : A) → P x → Q x) → AllByRecursion P xs → AllByRecursion Q xs
all_of P Q [] f h = tt
all_of P Q (x ∷ xs) f h = (f x h.0, all_of P Q xs f h.1)

pub globals_written : (m : Module1) → Typed1 m → All (λ g. IsTypedCode g.init) m.globals
globals_written m t = All-from_recursion (λ g. IsTypedCode g.init) m.globals
    (all_of (TypedGlobal m) (λ g. IsTypedCode g.init) m.globals (λ g h. record { context = _; before = _; after = _; typed = h.init.typed }) t.globals)

pub elements_written : (m : Module1) → Typed1 m → All (λ e. IsTypedCode e.offset) m.elems
elements_written m t = All-from_recursion (λ e. IsTypedCode e.offset) m.elems
    (all_of (TypedElement m) (λ e. IsTypedCode e.offset) m.elems (λ e h. record { context = _; before = _; after = _; typed = h.offset.typed }) t.elems)

pub segments_written : (m : Module1) → Typed1 m → All (λ s. IsTypedCode s.offset) m.datas
segments_written m t = All-from_recursion (λ s. IsTypedCode s.offset) m.datas
    (all_of (TypedSegment m) (λ s. IsTypedCode s.offset) m.datas (λ s h. record { context = _; before = _; after = _; typed = h.offset.typed }) t.datas)

bodies_written : (m : Module1) (types : List ℕ) (bodies : List Body1) → TypedFuncs m types bodies → AllByRecursion IsShortBody bodies → AllByRecursion IsWrittenBody bodies
bodies_written m [] [] h s = tt
bodies_written m [] (b ∷ bodies) h s = absurd h
bodies_written m (t ∷ types) [] h s = tt
bodies_written m (t ∷ types) (b ∷ bodies) h s =
    (record { code = record { context = _; before = _; after = _; typed = h.0.typed.code }; locals = s.0.locals }, bodies_written m types bodies h.1 s.1)

pub codes_written : (m : Module1) → Typed1 m → All IsWrittenBody m.codes
codes_written m t = All-from_recursion IsWrittenBody m.codes (bodies_written m m.funcs m.codes t.funcs t.short.in_codes)

as_many : (m : Module1) (types : List ℕ) (bodies : List Body1) → TypedFuncs m types bodies → length types ≡ length bodies
as_many m [] [] h = refl
as_many m [] (b ∷ bodies) h = absurd h
as_many m (t ∷ types) [] h = absurd h
as_many m (t ∷ types) (b ∷ bodies) h = ap suc (as_many m types bodies h.1)

pub counts_agree : (m : Module1) → Typed1 m → length m.funcs ≡ length m.codes
counts_agree m t = as_many m m.funcs m.codes t.funcs
