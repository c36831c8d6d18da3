use Rattle.std.proofs.Common.{◌≡◌, nat_eq, Bool, ◌&&◌, List, [], ◌∷◌, refl, ap, ◌∙◌}
use lib.Pointwise.{pointwise}
use Rattle.core1_ast.specs.contracts.module.ty.Ty1PartialEq.TheImpl.{eq-value}
use Rattle.core1_ast.specs.declared.module.ty.Ty1.{Ty1}
use Rattle.core1_ast.specs.declared.module.ty.Ty1.TheVariants.{I32, I64, F32, F64}
use Rattle.meaning_core1.specs.Language.{equal_types, type_number}
use Rattle.run_core1.proofs.program.equal_types.Goals as goal

-- the test that is derived compares the numbers
each : (a b : Ty1) → eq-value.it a b ≡ nat_eq (type_number a) (type_number b)
each I32 I32 = refl
each I32 I64 = refl
each I32 F32 = refl
each I32 F64 = refl
each I64 I32 = refl
each I64 I64 = refl
each I64 F32 = refl
each I64 F64 = refl
each F32 I32 = refl
each F32 I64 = refl
each F32 F32 = refl
each F32 F64 = refl
each F64 I32 = refl
each F64 I64 = refl
each F64 F32 = refl
each F64 F64 = refl

all : (E : Ty1 → Ty1 → Bool) → ((a b : Ty1) → E a b ≡ nat_eq (type_number a) (type_number b)) → (ss ts : List Ty1) → pointwise E ss ts ≡ equal_types ss ts
all E h [] [] = refl
all E h [] (b ∷ ts) = refl
all E h (a ∷ ss) [] = refl
all E h (a ∷ ss) (b ∷ ts) = ap (λ t. t && pointwise E ss ts) (h a b) ∙ ap (λ t. nat_eq (type_number a) (type_number b) && t) (all E h ss ts)

pub returns : goal.returns
returns c = c.eq.ensures ∙ all eq-value.it each c.args.left.now c.args.right.now
