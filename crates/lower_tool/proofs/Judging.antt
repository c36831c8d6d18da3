-- A file has one verdict where the module that it spells has one.
use Rattle.std.proofs.Common.{◌≡◌, ℕ, ◌<◌, ◌≤◌, List, length, refl, sym, ap, ◌∙◌, subst, inl, inr, arith}
use Rattle.std.specs.Prelude.{Option, Some, None, Result, Ok, Err, OnOk, IfErr, ◌⊎◌}
use Rattle.module_reading.specs.Limits.{file_limit}
use Rattle.module_reading.specs.declared.fault.ReadFault.{ReadFault}
use Rattle.lower_tool.specs.Stops.{IfNotFine}
use Rattle.lower_tool.specs.Verdict.{ReadsWhere, RefusedBy}
use Rattle.lower_tool.specs.declared.verdict.NotFine.{NotFine}
use Rattle.lower_tool.specs.declared.verdict.NotFine.TheVariants as verdict
use Rattle.lower_tool.specs.declared.verdict.Refusal.{Refusal}
use Rattle.lower_tool.specs.declared.verdict.Refusal.TheVariants.{TooLarge, Unreadable, Floats, Outside, Part, Body, Script, DoesNotFit}

-- ---- a module: a first step, and then what an answer that is told of it gives

module _ {M A : Type 0} (first : M → Option Refusal) (Settles : M → A → Type 0) (one_answer : (m : M) (r s : A) → Settles m r → Settles m s → r ≡ s) (refusal_of : A → Option Refusal) where
  abbrev pub Judged : Refusal → M → Type 0
  Judged r m = (Some r ≡ first m) ⊎ ((first m ≡ None) × ((a : A) × Settles m a × (Some r ≡ refusal_of a)))

  pub one_judged : (r s : Refusal) (m : M) → Judged r m → Judged s m → r ≡ s
  one_judged r s m (inl h) (inl k) = let both : Some r ≡ Some s = h ∙ sym k in cc
  one_judged r s m (inl h) (inr k) = let both : Some r ≡ None = h ∙ k.0 in absurd cc
  one_judged r s m (inr h) (inl k) = let both : Some s ≡ None = k ∙ h.0 in absurd cc
  one_judged r s m (inr h) (inr k) =
      let both : Some r ≡ Some s = h.1.2 ∙ (ap refusal_of (one_answer m h.1.0 k.1.0 h.1.1 k.1.1) ∙ sym k.1.2) in cc

  pub judged_apart : (r : Refusal) (m : M) (a : A) → Judged r m → first m ≡ None → Settles m a → refusal_of a ≡ None → ⊥
  judged_apart r m a (inl h) none settles fine = let both : Some r ≡ None = h ∙ none in absurd cc
  judged_apart r m a (inr h) none settles fine =
      let both : Some r ≡ None = h.1.2 ∙ (ap refusal_of (one_answer m h.1.0 a h.1.1 settles) ∙ fine) in absurd cc

-- ---- a file

module _ {M : Type 0} (Read : List ℕ → Result M ReadFault → Type 0) (one : (b : List ℕ) (r s : Result M ReadFault) → Read b r → Read b s → r ≡ s) (Refuses : Refusal → M → Type 0) where
  -- what the refusal says of the answer of reading
  abbrev By : Refusal → Result M ReadFault → Type 0
  By r (Err f) = r ≡ Unreadable f
  By r (Ok m) = Refuses r m

  found : (r : Refusal) (b : List ℕ) → length b ≤ file_limit → RefusedBy Read Refuses r b → (answer : Result M ReadFault) × Read b answer × By r answer
  found TooLarge b within h = absurd (omega (arith, h, within))
  found (Unreadable f) b within h = (Err f, h.1, refl)
  found Floats b within h = (Ok h.1.0, h.1.1, h.1.2)
  found (Outside e) b within h = (Ok h.1.0, h.1.1, h.1.2)
  found (Part section place) b within h = (Ok h.1.0, h.1.1, h.1.2)
  found (Body place) b within h = (Ok h.1.0, h.1.1, h.1.2)
  found (Script f) b within h = (Ok h.1.0, h.1.1, h.1.2)
  found DoesNotFit b within h = (Ok h.1.0, h.1.1, h.1.2)

  large : (r : Refusal) (b : List ℕ) → file_limit < length b → RefusedBy Read Refuses r b → r ≡ TooLarge
  large TooLarge b big h = refl
  large (Unreadable f) b big h = absurd (omega (arith, big, h.0))
  large Floats b big h = absurd (omega (arith, big, h.0))
  large (Outside e) b big h = absurd (omega (arith, big, h.0))
  large (Part section place) b big h = absurd (omega (arith, big, h.0))
  large (Body place) b big h = absurd (omega (arith, big, h.0))
  large (Script f) b big h = absurd (omega (arith, big, h.0))
  large DoesNotFit b big h = absurd (omega (arith, big, h.0))

  same_by : ((r s : Refusal) (m : M) → Refuses r m → Refuses s m → r ≡ s) → (r s : Refusal) (answer : Result M ReadFault) → By r answer → By s answer → r ≡ s
  same_by single r s (Err f) h k = h ∙ sym k
  same_by single r s (Ok m) h k = single r s m h k

  pub one_refusal_by : ((r s : Refusal) (m : M) → Refuses r m → Refuses s m → r ≡ s) → (b : List ℕ) (r s : Refusal) → RefusedBy Read Refuses r b → RefusedBy Read Refuses s b → (file_limit < length b) ⊎ (length b ≤ file_limit) → r ≡ s
  one_refusal_by single b r s h k (inl big) = large r b big h ∙ sym (large s b big k)
  one_refusal_by single b r s h k (inr within) =
      let x = found r b within h in
      let y = found s b within k in
      same_by single r s x.0 x.2 (subst (By s) (sym (one b x.0 y.0 x.1 y.1)) y.2)

  clash : (Is : M → Type 0) → ((r : Refusal) (m : M) → Refuses r m → Is m → ⊥) → (r : Refusal) (m : M) (answer : Result M ReadFault) → answer ≡ Ok m → By r answer → Is m → ⊥
  clash Is apart r m (Err f) e h is = absurd cc
  clash Is apart r m (Ok o) e h is = let same : o ≡ m = cc in apart r m (subst (Refuses r) same h) is

  pub not_fine_by : (Is : M → Type 0) → ((r : Refusal) (m : M) → Refuses r m → Is m → ⊥) → (r : Refusal) (b : List ℕ) → RefusedBy Read Refuses r b → ReadsWhere Read Is b → ⊥
  not_fine_by Is apart r b h fine =
      let x = found r b fine.0 h in
      clash Is apart r fine.1.0 x.0 (one b x.0 (Ok fine.1.0) x.1 fine.1.1) x.2 fine.1.2

  -- what refuses the module refuses the file that spells it
  of_module : ((m : M) → Refuses TooLarge m → ⊥) → ((f : ReadFault) (m : M) → Refuses (Unreadable f) m → ⊥) → (b : List ℕ) (m : M) (e : NotFine) → length b ≤ file_limit → Read b (Ok m) → IfNotFine e (λ r. Refuses r m) → IfNotFine e (λ r. RefusedBy Read Refuses r b)
  of_module large unread b m (verdict.Refused TooLarge) within reads h = absurd (large m h)
  of_module large unread b m (verdict.Refused (Unreadable f)) within reads h = absurd (unread f m h)
  of_module large unread b m (verdict.Refused Floats) within reads h = (within, (m, reads, h))
  of_module large unread b m (verdict.Refused (Outside e)) within reads h = (within, (m, reads, h))
  of_module large unread b m (verdict.Refused (Part section place)) within reads h = (within, (m, reads, h))
  of_module large unread b m (verdict.Refused (Body place)) within reads h = (within, (m, reads, h))
  of_module large unread b m (verdict.Refused (Script f)) within reads h = (within, (m, reads, h))
  of_module large unread b m (verdict.Refused DoesNotFit) within reads h = (within, (m, reads, h))
  of_module large unread b m (verdict.Memory e) within reads h = tt

  pub refused_of_module : ((m : M) → Refuses TooLarge m → ⊥) → ((f : ReadFault) (m : M) → Refuses (Unreadable f) m → ⊥) → {X : Type 0} (b : List ℕ) (m : M) (r : Result X NotFine) → length b ≤ file_limit → Read b (Ok m) → IfErr r (λ e. IfNotFine e (λ r. Refuses r m)) → IfErr r (λ e. IfNotFine e (λ r. RefusedBy Read Refuses r b))
  refused_of_module large unread b m (Ok done) within reads h = tt
  refused_of_module large unread b m (Err e) within reads h = of_module large unread b m e within reads h

pub fine_of_module : {M X : Type 0} (Read : List ℕ → Result M ReadFault → Type 0) (Is : M → Type 0) (b : List ℕ) (m : M) (r : Result X NotFine) → length b ≤ file_limit → Read b (Ok m) → OnOk r (Is m) → OnOk r (ReadsWhere Read Is b)
fine_of_module Read Is b m (Ok done) within reads h = (within, (m, reads, h))
fine_of_module Read Is b m (Err e) within reads h = tt

-- what refuses a module in one way does so in another
pub refused_map : {M : Type 0} (Read : List ℕ → Result M ReadFault → Type 0) (A B : Refusal → M → Type 0) → ((r : Refusal) (m : M) → A r m → B r m) → (r : Refusal) (b : List ℕ) → RefusedBy Read A r b → RefusedBy Read B r b
refused_map Read A B f TooLarge b h = h
refused_map Read A B f (Unreadable fault) b h = h
refused_map Read A B f Floats b h = (h.0, (h.1.0, h.1.1, f Floats h.1.0 h.1.2))
refused_map Read A B f (Outside e) b h = (h.0, (h.1.0, h.1.1, f (Outside e) h.1.0 h.1.2))
refused_map Read A B f (Part section place) b h = (h.0, (h.1.0, h.1.1, f (Part section place) h.1.0 h.1.2))
refused_map Read A B f (Body place) b h = (h.0, (h.1.0, h.1.1, f (Body place) h.1.0 h.1.2))
refused_map Read A B f (Script fault) b h = (h.0, (h.1.0, h.1.1, f (Script fault) h.1.0 h.1.2))
refused_map Read A B f DoesNotFit b h = (h.0, (h.1.0, h.1.1, f DoesNotFit h.1.0 h.1.2))

-- what holds of the module that bytes spell; and what holds together
pub reads_map : {M : Type 0} (Read : List ℕ → Result M ReadFault → Type 0) (P Q : M → Type 0) → ((m : M) → P m → Q m) → (b : List ℕ) → ReadsWhere Read P b → ReadsWhere Read Q b
reads_map Read P Q f b h = (h.0, (h.1.0, h.1.1, f h.1.0 h.1.2))

pub reads_both : {M : Type 0} (Read : List ℕ → Result M ReadFault → Type 0) → ((b : List ℕ) (r s : Result M ReadFault) → Read b r → Read b s → r ≡ s) → (P Q R : M → Type 0) → ((m : M) → P m → Q m → R m) → (b : List ℕ) → ReadsWhere Read P b → ReadsWhere Read Q b → ReadsWhere Read R b
reads_both {M} Read one P Q R f b h k =
    let same : ◌≡◌ {A = Result M ReadFault} (Ok k.1.0) (Ok h.1.0) = one b (Ok k.1.0) (Ok h.1.0) k.1.1 h.1.1 in
    let module_same : k.1.0 ≡ h.1.0 = cc same in
    (h.0, (h.1.0, h.1.1, f h.1.0 h.1.2 (subst Q module_same k.1.2)))
