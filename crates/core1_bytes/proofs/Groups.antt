-- Groups of locals, and the locals that they declare.
use Rattle.std.proofs.Common.{◌≡◌, ℕ, ◌+◌, ◌≤◌, ◌<◌, ◌^◌, ltb, length, List, [], ◌∷◌, ◌++◌, refl, sym, ap, subst, ◌∙◌, append_assoc, arith}
use Rattle.std.specs.Prelude.{replicate, sum_by}
use Rattle.std.proofs.lemmas.Bool.{lt-ltb}
use Rattle.std.proofs.lemmas.List.{append-nil, replicate_more, length-append, length-replicate}
use Rattle.std.proofs.lemmas.List.Concat.{length-flat_map}
use Rattle.std.proofs.lemmas.Grind.{flat_map-append}
use Rattle.core1_ast.specs.declared.module.ty.Ty1.{Ty1}
use Rattle.core1_ast.specs.declared.module.code.Body1.{Body1}
use Rattle.grammar_kit.specs.Form.{Chosen, vector}
use Rattle.wasm_frame.specs.Leb128.{u32}
use Rattle.core1_bytes.specs.declared.body.LocalGroup1.{LocalGroup1}
use Rattle.core1_bytes.specs.Bodies.{expr, local_group, locals_count, locals_of, body_with, body}
use Rattle.core1_bytes.specs.Appends.{Appends, declared}

-- one local more of the type of the last group
pub same_group : (groups : List LocalGroup1) (last : LocalGroup1) (t : Ty1) → last.ty ≡ t → declared groups (record { count = last.count + 1; ty = t }) ≡ declared groups last ++ t ∷ []
same_group groups last t e =
    ap (λ (ts : List Ty1). locals_of groups ++ ts) (sym (replicate_more last.count t))
    ∙ sym (append_assoc (locals_of groups) (replicate last.count t) (t ∷ []))
    ∙ ap (λ (u : Ty1). (locals_of groups ++ replicate last.count u) ++ t ∷ []) (sym e)

-- and of another type
pub other_group : (groups closed : List LocalGroup1) (last : LocalGroup1) (t : Ty1) → locals_of closed ≡ declared groups last → declared closed (record { count = 1; ty = t }) ≡ declared groups last ++ t ∷ []
other_group groups closed last t e = ap (λ (ts : List Ty1). ts ++ t ∷ []) e

pub nothing_left : (groups : List LocalGroup1) (last : LocalGroup1) → last.count ≡ 0 → locals_of groups ≡ declared groups last
nothing_left groups last e =
    sym (append-nil (locals_of groups)) ∙ ap (λ (n : ℕ). locals_of groups ++ replicate n last.ty) (sym e)

pub pushed_group : (groups : List LocalGroup1) (last : LocalGroup1) → locals_of (groups ++ last ∷ []) ≡ declared groups last
pushed_group groups last =
    flat_map-append (λ g. replicate g.count g.ty) groups (last ∷ [])
    ∙ ap (λ (ts : List Ty1). locals_of groups ++ ts) (append-nil (replicate last.count last.ty))

counts : (groups : List LocalGroup1) → sum_by (λ g. length (replicate g.count g.ty)) groups ≡ locals_count groups
counts groups = ap (λ f. sum_by f groups) (λ i g. length-replicate g.count g.ty i)

-- as many locals as the groups count
pub how_many : (groups : List LocalGroup1) → locals_count groups ≡ length (locals_of groups)
how_many groups = sym (length-flat_map (λ g. replicate g.count g.ty) groups ∙ counts groups)

-- a last group has no more locals than there are
pub last_within : (groups : List LocalGroup1) (last : LocalGroup1) (n : ℕ) → length (declared groups last) ≡ n → last.count ≤ n
last_within groups last n e = omega (arith, length-append (locals_of groups) (replicate last.count last.ty), length-replicate last.count last.ty, e)

body_text : (groups : List LocalGroup1) (source : Body1) (b : List ℕ) → locals_of groups ≡ source.locals → expr.text b source.code → (body_with groups).text b source
unfolding body_with
body_text groups source b e h =
    let whole : record { locals = locals_of groups; code = source.code } ≡ source = ap (λ ts. record source { locals = ts }) e in
    (source.code, b, [], sym (append-nil b), h, (refl, sym whole))

few_chosen : (groups : List LocalGroup1) (P Q : Type 0) → locals_count groups < 2 ^ 32 → P → Chosen (ltb (locals_count groups) (2 ^ 32)) P Q
few_chosen groups P Q few h = rw (lt-ltb (locals_count groups) (2 ^ 32) few) h

-- groups and an expression are the text of a body
pub body_spelled : (a b : List ℕ) (source : Body1) (groups others : List LocalGroup1) → others ≡ groups → locals_of groups ≡ source.locals → length source.locals < 2 ^ 32 → Appends (vector u32 local_group) [] a others → Appends expr a b source.code → body.text b source
unfolding body
body_spelled a b source groups others same e few p q =
    let count : locals_count groups < 2 ^ 32 = omega (arith, how_many groups, ap length e) in
    subst (λ (t : List ℕ). body.text t source) (sym (q.appended ∙ ap (λ (t : List ℕ). t ++ q.bytes) p.appended))
    (groups, p.bytes, q.bytes, refl, subst (λ gs. (vector u32 local_group).text p.bytes gs) same p.spells, few_chosen groups _ _ count (body_text groups source q.bytes e q.spells))
