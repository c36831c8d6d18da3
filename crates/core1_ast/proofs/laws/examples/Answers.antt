use Rattle.std.proofs.Common.{◌≡◌, false, List, [], ◌∷◌, ◌++◌, refl, ap, ◌∙◌, arith, ◌≤◌, lit<, lit≤}
use Rattle.num_core.specs.declared.operators.Load.TheVariants as loads
use Rattle.core1_ast.specs.declared.module.ty.Ty1.{Ty1}
use Rattle.core1_ast.specs.declared.module.ty.Ty1.TheVariants.{I32, I64}
use Rattle.core1_ast.specs.declared.module.ty.BlockType1.TheVariants.{One}
use Rattle.core1_ast.specs.declared.module.op.Op1.TheVariants.{I32Const, I64Const}
use Rattle.core1_ast.specs.declared.module.code.Instr1.{Instr1}
use Rattle.core1_ast.specs.declared.module.code.Instr1.TheVariants.{Block, BrIf, Call, LocalGet, GlobalGet, Load, Pure}
use Rattle.core1_ast.specs.declared.module.code.Body1.{Body1}
use Rattle.core1_ast.specs.Example.{one_to_one, inner, outer, at_zero, with_code}
use Rattle.core1_ast.specs.Operands.{op_takes, op_gives}
use Rattle.core1_ast.specs.Typing as t
use Rattle.core1_ast.specs.Typing.{Context, Typed, TypedCode, none, more, context, imports_context, body_context, labelled}
use Rattle.core1_ast.proofs.laws.examples.Goals as goal

body : Body1
body = record { locals = I64 ∷ []; code = outer }

outside : Context
unfolding body
outside = body_context (with_code outer) one_to_one body

inside : Context
unfolding outside
inside = labelled (I32 ∷ []) outside

typed_inner : TypedCode inside inner [] (I32 ∷ [])
unfolding inside outside body
typed_inner =
    more inside (LocalGet 0) _ [] [] (I32 ∷ []) _ (t.local_get inside _ 0 I32 refl refl)
    (more inside (LocalGet 0) _ (I32 ∷ []) [] (I32 ∷ []) _ (t.local_get inside _ 0 I32 refl refl)
    (more inside (BrIf 0) _ [] (I32 ∷ (I32 ∷ [])) (I32 ∷ []) _ (t.br_if inside _ 0 (I32 ∷ []) refl refl)
    (more inside (Call 0) _ [] (I32 ∷ []) (I32 ∷ []) _ (t.call inside _ 0 one_to_one refl refl)
    (none inside (I32 ∷ [])))))

typed_outer : TypedCode outside outer [] (I32 ∷ [])
unfolding inside outside body
typed_outer =
    more outside (Block (One I32) inner) _ [] [] (I32 ∷ []) _ (t.block outside _ (One I32) inner refl (lit< tt) (tt, tt) typed_inner)
    (more outside (Load loads.I32 (record { align = 2; offset = 0 })) _ [] (I32 ∷ []) (I32 ∷ []) _ (t.load outside _ loads.I32 (record { align = 2; offset = 0 }) refl (lit< tt) (lit≤ tt))
    (none outside (I32 ∷ [])))

-- i32.const 0 is a constant of type i32
zero_offset : (c : Context) → t.TypedConstant c at_zero I32
zero_offset c = record {
  constant = (t.i32_const c _ 0 refl, tt);
  typed = more c (Pure (I32Const 0)) [] [] [] (I32 ∷ []) (I32 ∷ []) (t.pure c _ (I32Const 0) refl) (none c (I32 ∷ []));
}

before : Context
before = imports_context (with_code outer)

first_value : t.TypedConstant before (GlobalGet 0 ∷ []) I32
unfolding before
first_value = record {
  constant = (t.fixed_global before _ 0 (record { type = I32; mutable = false }) refl refl refl, tt);
  typed =
      more before (GlobalGet 0) [] [] [] (I32 ∷ []) (I32 ∷ []) (t.global_get before _ 0 (record { type = I32; mutable = false }) refl refl)
      (none before (I32 ∷ []));
}

pub returns-clause-typed : goal.returns-clause-typed
unfolding inside outside body before
returns-clause-typed c = record {
  types = (record { params = (tt, tt); results = (tt, tt); one = lit≤ tt }, tt);
  imports = (tt, tt);
  funcs = (record { type = one_to_one; declared = refl; typed = record { locals = (tt, tt); code = typed_outer } }, tt);
  tables = (record { least = lit≤ tt; greatest = (lit≤ tt, lit≤ tt) }, tt);
  memories = (record { least = lit≤ tt; greatest = tt }, tt);
  globals = (record { type = tt; init = first_value }, tt);
  exports = (lit< tt, tt);
  start = tt;
  elems = (record { table = lit< tt; offset = zero_offset (context (with_code outer)); items = (lit< tt, tt) }, tt);
  datas = (record { memory = lit< tt; offset = zero_offset (context (with_code outer)) }, tt);
  one_table = lit≤ tt;
  one_memory = lit≤ tt;
  names = λ i j d below within. absurd (omega arith);
  short = record {
    types = lit< tt;
    imports = lit< tt;
    funcs = lit< tt;
    tables = lit< tt;
    memories = lit< tt;
    globals = lit< tt;
    exports = lit< tt;
    elems = lit< tt;
    codes = lit< tt;
    datas = lit< tt;
    in_types = (record { params = lit< tt; results = lit< tt }, tt);
    in_imports = (record { «module» = lit< tt; name = lit< tt }, tt);
    in_globals = (lit< tt, tt);
    in_exports = (lit< tt, tt);
    in_elems = (record { offset = lit< tt; items = lit< tt }, tt);
    in_codes = (record { locals = lit< tt; code = lit< tt }, tt);
    in_datas = (record { offset = lit< tt; bytes = lit< tt }, tt);
  };
}

-- i64.const 0 takes nothing and gives an i64
abbrev IsConstant : List Ty1 → List Ty1 → Type 0
IsConstant takes gives = (takes ≡ []) × (gives ≡ I64 ∷ [])

const_types : (c : Context) (i : Instr1) (takes gives : List Ty1) → Typed c i takes gives → i ≡ Pure (I64Const 0) → IsConstant takes gives
const_types c i takes gives (t.pure _ _ op e) same =
    let is : op ≡ I64Const 0 = cc in
    (ap op_takes is, ap op_gives is)
const_types c i takes gives (t.drop _ _ _ e) same = absurd cc
const_types c i takes gives (t.select _ _ _ e) same = absurd cc
const_types c i takes gives (t.local_get _ _ _ _ e _) same = absurd cc
const_types c i takes gives (t.local_set _ _ _ _ e _) same = absurd cc
const_types c i takes gives (t.local_tee _ _ _ _ e _) same = absurd cc
const_types c i takes gives (t.global_get _ _ _ _ e _) same = absurd cc
const_types c i takes gives (t.global_set _ _ _ _ e _ _) same = absurd cc
const_types c i takes gives (t.load _ _ _ _ e _ _) same = absurd cc
const_types c i takes gives (t.store _ _ _ _ e _ _) same = absurd cc
const_types c i takes gives (t.memory_size _ _ e _) same = absurd cc
const_types c i takes gives (t.memory_grow _ _ e _) same = absurd cc
const_types c i takes gives (t.nop _ _ e) same = absurd cc
const_types c i takes gives (t.unreachable _ _ _ _ e) same = absurd cc
const_types c i takes gives (t.block _ _ _ _ e _ _ _) same = absurd cc
const_types c i takes gives (t.loop _ _ _ _ e _ _ _) same = absurd cc
const_types c i takes gives (t.choice _ _ _ _ _ e _ _ _ _ _) same = absurd cc
const_types c i takes gives (t.br _ _ _ _ _ _ e _) same = absurd cc
const_types c i takes gives (t.br_if _ _ _ _ e _) same = absurd cc
const_types c i takes gives (t.br_table _ _ _ _ _ _ _ e _ _ _) same = absurd cc
const_types c i takes gives (t.leave _ _ _ _ _ e _) same = absurd cc
const_types c i takes gives (t.call _ _ _ _ e _) same = absurd cc
const_types c i takes gives (t.call_indirect _ _ _ _ e _ _) same = absurd cc

nothing_below : (below takes : List Ty1) → below ++ takes ≡ [] → below ≡ []
nothing_below [] takes e = refl
nothing_below (x ∷ below) takes e = absurd cc

-- no code leaves the operands as they are
at_the_end : (c : Context) (code : List Instr1) (before after : List Ty1) → TypedCode c code before after → code ≡ [] → after ≡ before
at_the_end c code before after (none _ _) same = refl
at_the_end c code before after (more _ i rest below takes gives _ h typed) same = absurd cc

only_constant : (c : Context) (code : List Instr1) (before after : List Ty1) → TypedCode c code before after → code ≡ Pure (I64Const 0) ∷ [] → before ≡ [] → after ≡ I64 ∷ []
only_constant c code before after (none _ _) same empty = absurd cc
only_constant c code before after (more _ i rest below takes gives _ h typed) same empty =
    let first : i ≡ Pure (I64Const 0) = cc in
    let last : rest ≡ [] = cc in
    let types = const_types c i takes gives h first in
    at_the_end c rest (below ++ gives) after typed last ∙ ap (λ b. b ++ gives) (nothing_below below takes empty) ∙ types.1

pub returns-clause-mistyped : goal.returns-clause-mistyped
returns-clause-mistyped c = λ typed.
    let func = typed.funcs.0 in
    let gives : func.type.results ≡ I64 ∷ [] = only_constant _ _ _ _ func.typed.code refl refl in
    let is : one_to_one ≡ func.type = cc in
    let declared : one_to_one.results ≡ func.type.results = ap (λ t. t.results) is in
    let no : I32 ∷ [] ≡ I64 ∷ [] = declared ∙ gives in
    absurd cc

pub returns-clause-float : goal.returns-clause-float
returns-clause-float c = λ typed. typed.funcs.0.typed.locals.0

pub returns-clause-large : goal.returns-clause-large
returns-clause-large c = λ typed. let no : 65537 ≤ 65536 = typed.memories.0.least in absurd (omega (arith, no))

pub returns-clause-two : goal.returns-clause-two
returns-clause-two c = λ typed. let no : 2 ≤ 1 = typed.one_memory in absurd (omega (arith, no))
