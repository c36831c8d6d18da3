-- Values, operands and the parts of a store by their images.
use Rattle.std.proofs.Common.{◌≡◌, ℕ, true, false, List, [], ◌∷◌, map, refl, sym, ap, ◌∙◌, subst}
use Rattle.num_core.specs.declared.operators.Width.{Width}
use Rattle.num_core.specs.declared.operators.Width.TheVariants.{W32, W64}
use Rattle.evaluation_kit.specs.Leaves.{top, below}
use Rattle.evaluation_kit.specs.Configurations.{Plain, PlainRes}
use Rattle.simulation_kit.specs.Keeping.{Holds, ActKeeps}
use Rattle.simulation_kit.specs.Likenesses.{Like, ResultLike, LeafLike}
use Rattle.simulation_kit.specs.Mirrors.{Mirror, mapping, mirrored, image, result_image}
use Rattle.simulation_kit.proofs.Mirroring.{leaf_like}
use Rattle.meaning_new.specs.declared.val.Val.{Val}
use Rattle.meaning_new.specs.declared.val.Val.TheVariants as vals
use Rattle.meaning_new.specs.Store.{State, missing, number, int}
use Rattle.meaning_new.specs.Numeric.{first, second}
use Rattle.meaning_core1.specs.declared.val1.Val1.{Val1}
use Rattle.meaning_core1.specs.Store.{State1, absent, number1, value_of}
use Rattle.meaning_core1.specs.Operators.{top1, next1}
use Rattle.crossing.specs.States.{cross_value, cross_state}
use Rattle.crossing.proofs.Keeping.{keeps}

pub number-cross : (v : Val) → number1 (cross_value v) ≡ number v
number-cross (vals.I32 i) = refl
number-cross (vals.I64 i) = refl
number-cross (vals.V128 v) = refl
number-cross v = refl

pub int-cross : (w : Width) (i : ℕ) → value_of w i ≡ cross_value (int w i)
int-cross W32 i = refl
int-cross W64 i = refl

module _ {A B : Type 0} (f : A → B) where
  pub below-map : (l : List A) → below (map f l) ≡ map f (below l)
  below-map [] = refl
  below-map (a ∷ l) = refl

abbrev pub crossed : List Val → List Val1
crossed o = map cross_value o

pub top-cross : (o : List Val) → top absent (map cross_value o) ≡ cross_value (top missing o)
top-cross [] = refl
top-cross (v ∷ o) = refl

-- the number on the top, and the one below it
pub first-cross : (o : List Val) → top1 (map cross_value o) ≡ first o
first-cross o = ap number1 (top-cross o) ∙ number-cross (top missing o)

pub second-cross : (o : List Val) → next1 (map cross_value o) ≡ second o
second-cross o = ap top1 (below-map cross_value o) ∙ first-cross (below o)

pub twice-below : (o : List Val) → below (below (map cross_value o)) ≡ map cross_value (below (below o))
twice-below o = ap below (below-map cross_value o) ∙ below-map cross_value (below o)

-- the mirror, turn for turn
abbrev pub M : Mirror Val State Val1 State1
M = mapping true false 0 (Unit {0}) (λ p o. Unit {0}) keeps cross_value (λ f. f) cross_state

is_image : (q : Plain Val State) (q' : Plain Val1 State1) → Like (mirrored M) q q' → q' ≡ image M q
is_image q q' h =
    ap (λ (o : List Val1). record { operands = o; locals = q'.locals; state = q'.state }) h.operands
    ∙ ap (λ (l : List Val1). record { operands = map cross_value q.operands; locals = l; state = q'.state }) h.locals
    ∙ ap (λ (s : State1). record { operands = map cross_value q.operands; locals = map cross_value q.locals; state = s }) h.state

-- a plain instruction that owes its equation where all is kept
pub leaf_kept : (act : Plain Val State → PlainRes Val State) (act' : Plain Val1 State1 → PlainRes Val1 State1) → ((q : Plain Val State) → Holds keeps q → act' (image M q) ≡ result_image M (act q)) → ActKeeps keeps act → LeafLike (mirrored M) act act'
leaf_kept act act' e kept = record {
  acts = λ q q' h.
      let here : Holds keeps q = record { operands = h.sound_operands; locals = h.sound_locals; state = h.safe } in
      subst (λ r. ResultLike (mirrored M) (act q) r) (sym (ap act' (is_image q q' h) ∙ e q here))
      ((leaf_like M (λ p. act q) (λ p. result_image M (act q)) (λ p. refl) (record { keeps = λ p g. kept.keeps q here })).acts q q' h);
}
