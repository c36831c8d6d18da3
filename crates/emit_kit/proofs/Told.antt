-- What a test of an option tells of it.
use Rattle.std.proofs.Common.{◌≡◌, Bool, true, false, not, Option, Some, None, refl, is_some}

pub none_told : {X : Type 0} (o : Option X) (b : Bool) → is_some o ≡ not b → b ≡ true → o ≡ None
none_told None b says e = refl
none_told (Some x) true says e = cc
none_told (Some x) false says e = cc

pub some_told : {X : Type 0} (o : Option X) (b : Bool) → is_some o ≡ not b → b ≡ false → (x : X) × (o ≡ Some x)
some_told None true says e = cc
some_told None false says e = cc
some_told (Some x) b says e = (x, refl)
