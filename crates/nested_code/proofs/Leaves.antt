-- What users of the measure cite: a fact of all that a form reads, and sizes back to what was read.
use Rattle.std.proofs.Common.{◌≡◌, ℕ, List, Bool, true, false, cond, Option, Some, None, refl, sym, subst}
use Rattle.std.specs.Prelude.{IfSome, option_map}
use Rattle.std.specs.Option.{option_or}
use Rattle.std.proofs.lemmas.Option.{option_and_then_some, some_pair_parts}
use Rattle.grammar_kit.specs.Form.{Form, never, always, when, ◌>>=◌}
use Rattle.grammar_kit.specs.Choice.{given, given_or}
use Rattle.grammar_kit.specs.Measures.{through}
use Rattle.nested_code.specs.declared.token.Token.{Token}
use Rattle.nested_code.specs.declared.token.Token.TheVariants.{Plain, Open, Else, End}

-- what the form reads has the property
pub record Only {X : Type 0} (f : Form X) (P : X → Type 0) : Type 0 where
  pub holds : (b : List ℕ) (x : X) (rest : List ℕ) → f.read b ≡ Some (x, rest) → P x

pub only_never : {X : Type 0} (P : X → Type 0) → Only (never {X = X}) P
only_never P = record { holds = λ b x rest e. absurd cc }

pub only_always : {X : Type 0} (x : X) (P : X → Type 0) → P x → Only (always x) P
only_always x P h = record { holds = λ b y rest e. subst P (some_pair_parts x y b rest e).0 h }

pub only_when : {X : Type 0} (test : Bool) (f g : Form X) (P : X → Type 0) → Only f P → Only g P → Only (when test f g) P
only_when true f g P hf hg = record { holds = hf.holds }
only_when false f g P hf hg = record { holds = hg.holds }

-- whatever the first form reads
pub only_bind : {X Y : Type 0} (f : Form X) (g : X → Form Y) (P : Y → Type 0) → ((x : X) → Only (g x) P) → Only (f >>= g) P
only_bind f g P h = record {
  holds = λ b y rest e. option_and_then_some _ (f.read b) (y, rest) e (λ p front back. (h p.0).holds p.1 y rest back);
}

pub only_given : {X : Type 0} (o : Option X) (P : X → Type 0) → IfSome o P → Only (given o) P
only_given (Some x) P h = only_always x P h
only_given None P h = only_never P

pub only_given_or : {X : Type 0} (o : Option X) (f : Form X) (P : X → Type 0) → IfSome o P → Only f P → Only (given_or o f) P
only_given_or (Some x) f P h k = only_always x P h
only_given_or None f P h k = k

-- of a value that a table may have or lack
pub if_either : {X : Type 0} (test : Bool) (o p : Option X) (P : X → Type 0) → IfSome o P → IfSome p P → IfSome (cond test o p) P
if_either true o p P h k = h
if_either false o p P h k = k

pub if_mapped : {X Y : Type 0} (f : Y → X) (o : Option Y) (P : X → Type 0) → ((y : Y) → P (f y)) → IfSome (option_map f o) P
if_mapped f (Some y) P h = h y
if_mapped f None P h = tt

pub if_or : {X : Type 0} (o p : Option X) (P : X → Type 0) → IfSome o P → IfSome p P → IfSome (option_or o p) P
if_or (Some x) p P h k = h
if_or None p P h k = k

pub ruleset only_rules = (only_never, only_always, only_when, only_bind, only_given, only_given_or)

pub ruleset if_rules = (if_either, if_mapped, if_or)

-- of a token: an instruction that holds no code has the property
abbrev pub IsLeaf : {I H : Type 0} → (I → Type 0) → Token I H → Type 0
IsLeaf P (Plain i) = P i
IsLeaf P (Open h) = Unit {0}
IsLeaf P Else = Unit {0}
IsLeaf P End = Unit {0}

-- so it has where a form reads such instructions alone
abbrev as_token : {I H : Type 0} → I → Token I H
as_token i = Plain i

pub only_plain : {I H : Type 0} (f : Form I) (P : I → Type 0) → Only f P → Only (f >>= λ i. always (as_token {I = I} {H = H} i)) (IsLeaf P)
only_plain f P h = record {
  holds = λ b x rest e. option_and_then_some _ (f.read b) (x, rest) e (λ q front back.
      subst (λ k. IsLeaf P k) (some_pair_parts (Plain q.0) x q.1 rest back).0 (h.holds b q.0 q.1 front));
}

-- what was measured was read
pub read_of_through : {X Y : Type 0} (f : X → Y) (read : Option (X × List ℕ)) (y : Y) (rest : List ℕ) → through f read ≡ Some (y, rest)
    → (x : X) × (read ≡ Some (x, rest)) × (y ≡ f x)
read_of_through f None y rest e = absurd cc
read_of_through f (Some (x, after)) y rest e =
    let p = some_pair_parts (f x) y after rest e in
    (x, rw p.1 refl, sym p.0)

-- nothing is read where nothing was measured
pub none_of_through : {X Y : Type 0} (f : X → Y) (read : Option (X × List ℕ)) → through f read ≡ None → read ≡ None
none_of_through f None e = refl
none_of_through f (Some p) e = absurd cc
