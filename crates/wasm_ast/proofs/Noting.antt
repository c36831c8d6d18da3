-- Facts that are noted place by place are those of the whole.
use Rattle.std.proofs.Common.{◌≡◌, Bool, true, false, ◌||◌, List, [], ◌∷◌, ◌++◌, refl, ap, ◌∙◌}
use Rattle.std.specs.List.{list_any}
use Rattle.std.proofs.lemmas.List.Folds.{list_any-append}
use Rattle.num_core.specs.declared.operators.Conv.TheVariants.{Wrap, Ext32S, Ext32U}
use Rattle.wasm_ast.specs.declared.module.op.Op.TheVariants as ops
use Rattle.wasm_ast.specs.declared.module.code.Instr.{Instr, out-Instr}
use Rattle.wasm_ast.specs.declared.module.code.Instr.TheOpen.{Instr-F}
use Rattle.wasm_ast.specs.declared.module.code.Body.{Body}
use Rattle.wasm_ast.specs.declared.module.parts.Module.{Module}
use Rattle.wasm_ast.specs.declared.features.kind.Feature.TheVariants as features
use Rattle.wasm_ast.specs.declared.facts.Facts.{Facts}
use Rattle.wasm_ast.specs.Occurrence.{Head, head_of, inside, some, some_in}
use Rattle.wasm_ast.specs.Features.{shows}
use Rattle.wasm_ast.specs.Kept.{uses_table}
use Rattle.wasm_ast.specs.Facts.{is_memory_init, noted, facts_of, with_head, with_instr, with_code, with_bodies, is_plain}
use Rattle.wasm_ast.proofs.Bodies.{some-out, some_in-append}

or_moved : (a b c : Bool) → ((a || b) || c) ≡ (b || (a || c))
or_moved true true c = refl
or_moved true false c = refl
or_moved false true c = refl
or_moved false false c = refl

or_false : (a : Bool) → (a || false) ≡ a
or_false true = refl
or_false false = refl

-- facts are equal where each is
facts_same : {a b c d e f g h i j k l m a' b' c' d' e' f' g' h' i' j' k' l' m' : Bool} → a ≡ a' → b ≡ b' → c ≡ c' → d ≡ d' → e ≡ e' → f ≡ f' → g ≡ g' → h ≡ h' → i ≡ i' → j ≡ j' → k ≡ k' → l ≡ l' → m ≡ m' →
    ◌≡◌ {A = Facts} (record { floats = a; sign = b; multi = c; typed_select = d; simd = e; late_lanes = f; tail = g; refs = h; tables = i; exceptions = j; bulk = k; table_use = l; memory_init = m }) (record { floats = a'; sign = b'; multi = c'; typed_select = d'; simd = e'; late_lanes = f'; tail = g'; refs = h'; tables = i'; exceptions = j'; bulk = k'; table_use = l'; memory_init = m' })
facts_same e1 e2 e3 e4 e5 e6 e7 e8 e9 e10 e11 e12 e13 = cc

-- a place that shows what two places show, one after the other
noted_twice : (s t u : (Head → Bool) → Bool) (facts : Facts) → ((p : Head → Bool) → u p ≡ (s p || t p)) → noted u facts ≡ noted t (noted s facts)
noted_twice s t u facts same =
    let one : (p : Head → Bool) (b : Bool) → (u p || b) ≡ (t p || (s p || b)) = λ p b. ap (λ x. x || b) (same p) ∙ or_moved (s p) (t p) b in
    facts_same (one _ _) (one _ _) (one _ _) (one _ _) (one _ _) (one _ _) (one _ _) (one _ _) (one _ _) (one _ _) (one _ _) (one _ _) (one _ _)

noted_same : (t u : (Head → Bool) → Bool) (facts : Facts) → ((p : Head → Bool) → u p ≡ t p) → noted u facts ≡ noted t facts
noted_same t u facts same =
    let one : (p : Head → Bool) (b : Bool) → (u p || b) ≡ (t p || b) = λ p b. ap (λ x. x || b) (same p) in
    facts_same (one _ _) (one _ _) (one _ _) (one _ _) (one _ _) (one _ _) (one _ _) (one _ _) (one _ _) (one _ _) (one _ _) (one _ _) (one _ _)

pub with_code-append : (xs ys : List Instr) (facts : Facts) → with_code (xs ++ ys) facts ≡ with_code ys (with_code xs facts)
unfolding with_code
with_code-append xs ys facts = noted_twice (λ p. some_in p xs) (λ p. some_in p ys) (λ p. some_in p (xs ++ ys)) facts (λ p. some_in-append p xs ys)

pub with_code-one : (i : Instr) (facts : Facts) → with_code (i ∷ []) facts ≡ with_instr i facts
unfolding with_code with_instr
with_code-one i facts = noted_same (λ p. some p i) (λ p. some_in p (i ∷ [])) facts (λ p. or_false (some p i))

pub with_code-none : (facts : Facts) → with_code [] facts ≡ facts
unfolding with_code
with_code-none facts = refl

pub with_instr-out : (i : Instr) (facts : Facts) → with_instr i facts ≡ with_code (inside (out-Instr i)) (with_head (head_of i) facts)
unfolding with_instr with_code with_head
with_instr-out i facts = noted_twice (λ p. p (head_of i)) (λ p. some_in p (inside (out-Instr i))) (λ p. some p i) facts (λ p. some-out p i)

pub with_bodies-append : (xs ys : List Body) (facts : Facts) → with_bodies (xs ++ ys) facts ≡ with_bodies ys (with_bodies xs facts)
unfolding with_bodies
with_bodies-append xs ys facts =
    noted_twice (λ p. list_any (λ b. some_in p b.code) xs) (λ p. list_any (λ b. some_in p b.code) ys) (λ p. list_any (λ b. some_in p b.code) (xs ++ ys)) facts
    (λ p. list_any-append (λ b. some_in p b.code) xs ys)

pub with_bodies-one : (b : Body) (facts : Facts) → with_bodies (b ∷ []) facts ≡ with_code b.code facts
unfolding with_bodies with_code
with_bodies-one b facts = noted_same (λ p. some_in p b.code) (λ p. list_any (λ b. some_in p b.code) (b ∷ [])) facts (λ p. or_false (some_in p b.code))

pub with_bodies-none : (facts : Facts) → with_bodies [] facts ≡ facts
unfolding with_bodies
with_bodies-none facts = refl

pub ruleset noting = (with_code-append, with_code-one, with_code-none, with_instr-out, with_bodies-append, with_bodies-one, with_bodies-none)

-- where nothing was noted before
pub bodies_shown : (m : Module) (none : Facts) → none ≡ record { floats = false; sign = false; multi = false; typed_select = false; simd = false; late_lanes = false; tail = false; refs = false; tables = false; exceptions = false; bulk = false; table_use = false; memory_init = false } → with_bodies m.codes none ≡ facts_of m
unfolding with_bodies
bodies_shown m none is =
    let one : (p : Head → Bool) (b : Bool) → b ≡ false → (list_any (λ b. some_in p b.code) m.codes || b) ≡ list_any (λ b. some_in p b.code) m.codes = λ p b e. ap (λ x. list_any (λ b. some_in p b.code) m.codes || x) e ∙ or_false _ in
    facts_same (one (shows features.Floats) _ (ap (λ f. f.floats) is)) (one (shows features.Sign) _ (ap (λ f. f.sign) is)) (one (shows features.Multi) _ (ap (λ f. f.multi) is)) (one (shows features.TypedSelect) _ (ap (λ f. f.typed_select) is)) (one (shows features.Simd) _ (ap (λ f. f.simd) is)) (one (shows features.LateLanes) _ (ap (λ f. f.late_lanes) is)) (one (shows features.Tail) _ (ap (λ f. f.tail) is)) (one (shows features.Refs) _ (ap (λ f. f.refs) is)) (one (shows features.Tables) _ (ap (λ f. f.tables) is)) (one (shows features.Exceptions) _ (ap (λ f. f.exceptions) is)) (one (shows features.Bulk) _ (ap (λ f. f.bulk) is)) (one uses_table _ (ap (λ f. f.table_use) is)) (one is_memory_init _ (ap (λ f. f.memory_init) is))

-- an instruction that is plain adds nothing
pub plain_shows_none : (h : Head) (facts : Facts) → is_plain h ≡ true → with_head h facts ≡ facts
unfolding with_head
plain_shows_none Instr-F.Unreachable facts e = refl
plain_shows_none Instr-F.Nop facts e = refl
plain_shows_none (Instr-F.Br l) facts e = refl
plain_shows_none (Instr-F.BrIf l) facts e = refl
plain_shows_none (Instr-F.BrTable ls l) facts e = refl
plain_shows_none Instr-F.Return facts e = refl
plain_shows_none (Instr-F.Call f) facts e = refl
plain_shows_none (Instr-F.CallIndirect t x) facts e = refl
plain_shows_none Instr-F.Drop facts e = refl
plain_shows_none Instr-F.Select facts e = refl
plain_shows_none (Instr-F.LocalGet x) facts e = refl
plain_shows_none (Instr-F.LocalSet x) facts e = refl
plain_shows_none (Instr-F.LocalTee x) facts e = refl
plain_shows_none (Instr-F.GlobalGet x) facts e = refl
plain_shows_none (Instr-F.GlobalSet x) facts e = refl
plain_shows_none (Instr-F.Load op at) facts e = refl
plain_shows_none (Instr-F.Store op at) facts e = refl
plain_shows_none (Instr-F.MemorySize x) facts e = refl
plain_shows_none (Instr-F.MemoryGrow x) facts e = refl
plain_shows_none (Instr-F.Pure (ops.I32Const n)) facts e = refl
plain_shows_none (Instr-F.Pure (ops.I64Const n)) facts e = refl
plain_shows_none (Instr-F.Pure (ops.Eqz w)) facts e = refl
plain_shows_none (Instr-F.Pure (ops.Compare w op)) facts e = refl
plain_shows_none (Instr-F.Pure (ops.Unary w op)) facts e = refl
plain_shows_none (Instr-F.Pure (ops.Binary w op)) facts e = refl
plain_shows_none (Instr-F.Pure (ops.Convert Wrap)) facts e = refl
plain_shows_none (Instr-F.Pure (ops.Convert Ext32S)) facts e = refl
plain_shows_none (Instr-F.Pure (ops.Convert Ext32U)) facts e = refl
plain_shows_none _ facts e = cc

-- what stands in bodies may be asked for first
pub or_placed : (tables globals bodies datas : Bool) → (bodies || (tables || (globals || datas))) ≡ (tables || (globals || (bodies || datas)))
or_placed true globals true datas = refl
or_placed true globals false datas = refl
or_placed false true true datas = refl
or_placed false true false datas = refl
or_placed false false bodies datas = refl
