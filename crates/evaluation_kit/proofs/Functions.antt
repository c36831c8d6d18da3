-- Functions in terms of themselves: a call is the entry of a function whose calls are calls again. And a law that is
-- closed holds of all functions of a language, and so of all its code.
use Rattle.std.proofs.Common.{◌≡◌, ℕ, zero, suc, ◌≤◌, List, Option, Some, None, refl, sym, arith, le_refl}
use Rattle.evaluation_kit.specs.Configurations.{World, Conf, Res, Sem, in_world}
use Rattle.evaluation_kit.specs.Control.{Function, Callee, Own, Host, arrive}
use Rattle.evaluation_kit.specs.Forms.{Form, Flat, Enclose, Repeat, Choose, Guard, Invoke, InvokeBy}
use Rattle.evaluation_kit.specs.Languages.{Language, enter_with, func_within, func, exec, exec_code}
use Rattle.evaluation_kit.proofs.Closure.{Closed, res_place}
use Rattle.evaluation_kit.proofs.Parts.{Related}
use Rattle.evaluation_kit.proofs.Whole.{OwesForm, OwesCallee, Owes, exec_related, code_related, entry_at_once, entry_related}
use Rattle.evaluation_kit.proofs.Agreement.{agreement}

module _ {I : Type 0} {F : Type 0 → Type 0} {V S : Type 0} (L : Language I F V S) where
  form_agrees : {X : Type 0} (form : Form V S X) → OwesForm (agreement S) form
  form_agrees (Flat act) = record { leaf = λ N c w n le. refl }
  form_agrees (Guard p r h body) = record { handler = λ N e c w n le. refl }
  form_agrees (InvokeBy p pick) = record { stable = λ c. tt }
  form_agrees (Enclose p r body) = tt
  form_agrees (Repeat p r body) = tt
  form_agrees (Choose test p r first second) = tt
  form_agrees (Invoke p x) = tt

  callee_agrees : (o : Option (Callee I V S)) → OwesCallee (agreement S) o
  callee_agrees None = tt
  callee_agrees (Some (Own f)) = tt
  callee_agrees (Some (Host p act)) = record { host = λ N operands w n le. refl }

  agrees : Owes L (agreement S)
  agrees = record {
    forms = λ X l. form_agrees (L.layer X l);
    ready = λ X l. record { stable = λ c. tt };
    callees = λ x. callee_agrees (L.callee x);
  }

  -- two calls without turns
  halts : (o : Option (Callee I V S)) (own other : Function I V → Sem V S) → ((f : Function I V) (d : ℕ) (c : Conf V S) → own f d 0 c ≡ other f d 0 c) → (d : ℕ) (c : Conf V S) → arrive o own d 0 c ≡ arrive o other d 0 c
  halts None own other h d c = refl
  halts (Some (Own f)) own other h d c = h f d c
  halts (Some (Host p act)) own other h d c = refl

  at_zero : (a b : Sem V S) → ((d : ℕ) (c : Conf V S) → a d 0 c ≡ b d 0 c) → (d : ℕ) (c : Conf V S) (w : World S) (n : ℕ) → n ≤ 0 → a d n (in_world w c) ≡ b d n (in_world w c)
  at_zero a b h d c w zero le = h d (in_world w c)
  at_zero a b h d c w (suc n) le = let no : ⊥ = omega arith in absurd no

  within_halts : (k i x d : ℕ) (c : Conf V S) → func_within L k x d 0 c ≡ func_within L i x d 0 c
  within_halts zero zero x d c = refl
  within_halts zero (suc i) x d c = halts (L.callee x) _ _ (λ f d' c'. refl) d c
  within_halts (suc k) zero x d c = halts (L.callee x) _ _ (λ f d' c'. refl) d c
  within_halts (suc k) (suc i) x d c = halts (L.callee x) _ _ (λ f d' c'. refl) d c

  -- functions that may enter more others than there are turns
  within_enough : (N k i : ℕ) → N ≤ k → N ≤ i → (x : ℕ) → Related (agreement S) N (func_within L k x) (func_within L i x)
  within_enough zero k i a b x = record { from = at_zero (func_within L k x) (func_within L i x) (within_halts k i x) }
  within_enough (suc N) zero i a b x = let no : ⊥ = omega arith in absurd no
  within_enough (suc N) (suc k) zero a b x = let no : ⊥ = omega arith in absurd no
  within_enough (suc N) (suc k) (suc i) a b x =
      let le : N ≤ k = omega arith in
      let le' : N ≤ i = omega arith in
      entry_related L (agreement S) N (func_within L k) (func_within L i) agrees (within_enough N k i le le') x

  within_func : (N x : ℕ) → Related (agreement S) N (func_within L N x) (func L x)
  unfolding func
  within_func N x = record { from = λ d c w n le. (within_enough n N n le (le_refl n) x).from d c w n (le_refl n) }

  -- a call of a function takes a turn, and enters the function, whose calls do the same
  pub func-entered : (x open_calls n : ℕ) (c : Conf V S) → func L x open_calls n c ≡ enter_with L (func L) x open_calls n c
  unfolding func
  func-entered x d zero c = halts (L.callee x) _ _ (λ f d' c'. refl) d c
  func-entered x d (suc n) c =
      (entry_related L (agreement S) n (func_within L n) (func L) agrees (within_func n) x).from d c c.world (suc n) (le_refl (suc n))

  module _ (C : Closed S) (owes : Owes L C) where
    by_entry : (N x : ℕ) → Related C N (enter_with L (func L) x) (enter_with L (func L) x) → Related C N (func L x) (func L x)
    by_entry N x h = record {
      from = λ d c. C.alike (Res V S) res_place N None _ _ _ _ (h.from d c) (λ w n. sym (func-entered x d n (in_world w c))) (λ w n. sym (func-entered x d n (in_world w c)));
    }

    -- the law of a function, an instruction and code of the language
    pub func_related : (N x : ℕ) → Related C N (func L x) (func L x)
    func_related zero x = by_entry zero x (entry_at_once L C (func L) (func L) owes x)
    func_related (suc N) x = by_entry (suc N) x (entry_related L C N (func L) (func L) owes (func_related N) x)

    pub instr_related : (N : ℕ) (i : I) → Related C N (exec L i) (exec L i)
    instr_related N i = exec_related L C N (func L) (func L) owes (func_related N) i

    pub all_related : (N : ℕ) (code : List I) → Related C N (exec_code L code) (exec_code L code)
    all_related N code = code_related L C N (func L) (func L) owes (func_related N) code
