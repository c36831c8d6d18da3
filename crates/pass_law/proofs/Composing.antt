-- What two stages in a row show, by what each shows: facts on lists of sights, which name no module.
use Rattle.std.proofs.Common.{◌≡◌, ℕ, ◌+◌, ◌*◌, ◌<◌, ◌≤◌, ◌||◌, ◌⊎◌, inl, inr, Bool, true, false, List, [], ◌∷◌, ◌++◌, refl, sym, ap, ◌∙◌, subst, arith}
use Rattle.std.proofs.Math.Nat.{mul_assoc, mul-add, mul-le-mul_left}
use Rattle.host_kit.specs.Trace.{Begins}
use Rattle.host_kit.proofs.Marks.{begins_trans}
use Rattle.host_kit.specs.declared.event.Event.{Event}
use Rattle.host_kit.specs.declared.event.Event.TheVariants.{Failed, Full}
use Rattle.pass_law.specs.Views.{Sight, Told, Answered, Took, answers_of, taken, untaken, kept, told, apply, Passes, before_full}
use Rattle.pass_law.specs.Law.{StoppedFull, InStep}
use Rattle.pass_law.proofs.Sights.{NoFull, apply_begins, untaken_begins, untaken-append, kept_begins, answers_begins, taken_begins, answers-kept, untaken-untaken, taken-untaken, taken_kept, taken-append, apply-untaken, apply-kept, kept-kept, no_full_begins, no_full_kept, taken-apply, apply-append, before_begins, apply-before, before-enough, full-first, begins_snoc}
use Rattle.pass_law.proofs.Passing.{passes_begins, passes_untaken, passes_kept, passes_snoc}

or_left : (b c : Bool) → b ≡ true → (b || c) ≡ true
or_left true c e = refl
or_left false c e = absurd cc

or_right : (b c : Bool) → c ≡ true → (b || c) ≡ true
or_right true c e = refl
or_right false c e = e

-- a stage that stopped shows no captures, and stopped at an event that stays
module _ (u : Event → Event) (full : u Full ≡ Full) (failed : u Failed ≡ Failed) where
  told_last : (last : Event) → (last ≡ Full) ⊎ (last ≡ Failed) → apply u (Told last ∷ []) ≡ Told last ∷ []
  told_last last (inl e) = ap (λ x. told (u x) []) e ∙ ap (λ x. told x []) full ∙ ap (λ x. Told x ∷ []) (sym e)
  told_last last (inr e) = ap (λ x. told (u x) []) e ∙ ap (λ x. told x []) failed ∙ ap (λ x. Told x ∷ []) (sym e)

front_untaken : (N : ℕ) (shown input : List Sight) (stop : StoppedFull N shown input) → untaken stop.front ≡ stop.front
front_untaken N shown input stop = ap untaken stop.agrees ∙ untaken-untaken (before_full N input) ∙ sym stop.agrees

kept_stop : (c : Bool) (N : ℕ) (shown input : List Sight) (stop : StoppedFull N shown input) → kept c shown ≡ stop.front ++ Told stop.last ∷ []
kept_stop false N shown input stop = stop.ends
kept_stop true N shown input stop =
    ap untaken stop.ends ∙ untaken-append stop.front (Told stop.last ∷ []) ∙ ap (λ l. l ++ Told stop.last ∷ []) (front_untaken N shown input stop)

none_taken : (N : ℕ) (shown input : List Sight) → StoppedFull N shown input → taken shown ≡ 0
none_taken N shown input stop =
    let front : taken stop.front ≡ 0 = ap taken stop.agrees ∙ taken-untaken (before_full N input) in
    omega (arith, ap taken stop.ends, taken-append stop.front (Told stop.last ∷ []), front)

none_kept : (b : Bool) (shown input : List Sight) → b ≡ true → Begins shown (kept b input) → taken shown ≡ 0
none_kept true shown input e h = omega (arith, taken_begins shown (untaken input) h, taken-untaken input)
none_kept false shown input e h = absurd cc

front_in_input : (b : Bool) (N : ℕ) (shown input : List Sight) → b ≡ true → (stop : StoppedFull N shown input) → Begins stop.front (kept b input)
front_in_input true N shown input e stop =
    subst (λ l. Begins l (untaken input)) (sym stop.agrees) (untaken_begins (before_full N input) input (before_begins N 0 input))
front_in_input false N shown input e stop = absurd cc

-- a front of what a stage that stopped shows
snoc_in_step : (b : Bool) (N : ℕ) (xs shown input : List Sight) → b ≡ true → (stop : StoppedFull N shown input) → Begins xs stop.front ⊎ (xs ≡ stop.front ++ Told stop.last ∷ []) → InStep b N xs input
snoc_in_step b N xs shown input e stop (inl h) = inl (begins_trans xs stop.front (kept b input) h (front_in_input b N shown input e stop))
snoc_in_step b N xs shown input e stop (inr h) = inr (e, record { front = stop.front; last = stop.last; ends = h; stop = stop.stop; many = stop.many; agrees = stop.agrees })

widened : (b c : Bool) (N : ℕ) (xs input : List Sight) → b ≡ true → InStep b N xs input → InStep (b || c) N xs input
widened true c N xs input e h = h
widened false c N xs input e h = absurd cc

answers_told : (e : Event) (xs : List Sight) → answers_of xs ≡ [] → answers_of (told e xs) ≡ []
answers_told Full xs h = refl
answers_told e xs h = h

answers_both_told : (e : Event) (xs ys : List Sight) → answers_of xs ≡ answers_of ys → answers_of (told e xs) ≡ answers_of (told e ys)
answers_both_told Full xs ys h = refl
answers_both_told e xs ys h = h

-- one event more answers nothing
answers_last : (u : Event → Event) (xs : List Sight) (e : Event) → answers_of (apply u (xs ++ Told e ∷ [])) ≡ answers_of (apply u xs)
answers_last u [] e = answers_told (u e) [] refl
answers_last u (Told x ∷ xs) e = answers_both_told (u x) (apply u (xs ++ Told e ∷ [])) (apply u xs) (answers_last u xs e)
answers_last u (Answered ok ∷ xs) e = ap (λ l. ok ∷ l) (answers_last u xs e)
answers_last u (Took ∷ xs) e = answers_last u xs e

answers_snoc : (u : Event → Event) (xs : List Sight) (e : Event) (ys : List Sight) → Begins (answers_of (apply u xs)) (answers_of ys) → Begins (answers_of (apply u (xs ++ Told e ∷ []))) (answers_of ys)
answers_snoc u xs e ys h = subst (λ l. Begins l (answers_of ys)) (sym (answers_last u xs e)) h

module _ (u : Event → Event) (full : u Full ≡ Full) (failed : u Failed ≡ Failed) (N : ℕ) (b c : Bool) (shown between input : List Sight) (none : NoFull input) where
  -- the outer stage shows a front of the run between
  shown_between : Begins shown (kept c between) → Begins (apply u shown) (kept c (apply u between))
  shown_between q = subst (Begins (apply u shown)) (apply-kept u c between) (apply_begins u shown (kept c between) q)

  front_front : Begins shown (kept c between) → InStep b N (apply u between) input → InStep (b || c) N (apply u shown) input
  front_front q (inl p) =
      inl (subst (Begins (apply u shown)) (kept-kept b c input)
      (begins_trans (apply u shown) (kept c (apply u between)) (kept c (kept b input)) (shown_between q) (kept_begins c (apply u between) (kept b input) p)))
  front_front q (inr p) =
      let whole : Begins (apply u shown) (p.1.front ++ Told p.1.last ∷ []) = subst (Begins (apply u shown)) (kept_stop c N (apply u between) input p.1) (shown_between q) in
      widened b c N (apply u shown) input p.0
      (snoc_in_step b N (apply u shown) (apply u between) input p.0 p.1 (begins_snoc (apply u shown) p.1.front (Told p.1.last) whole))

  -- the outer stage stopped, and the inner one neither removes captures nor stops: the input makes one too many as well
  mapped_stop : Begins (apply u between) input → StoppedFull N shown between → StoppedFull N (apply u shown) input
  mapped_stop p stop =
      let inner : NoFull (apply u between) = no_full_begins (apply u between) input p none in
      let mapped : apply u stop.front ≡ untaken (before_full N (apply u between)) =
      ap (apply u) stop.agrees ∙ apply-untaken u (before_full N between) ∙ ap untaken (apply-before u N 0 between inner) in
      let same : taken (apply u between) ≡ taken between = taken-apply u between inner in
      let many : N < 0 + taken (apply u between) = omega (arith, stop.many, same) in
      let within : 0 ≤ N = omega arith in
      let begins : before_full N input ≡ before_full N (apply u between) =
      ap (before_full N) (sym p.1) ∙ before-enough N 0 (apply u between) p.0 within many in
      let front_plain : NoFull (apply u stop.front) =
      subst NoFull (sym mapped) (no_full_kept true (before_full N (apply u between)) (no_full_begins (before_full N (apply u between)) (apply u between) (before_begins N 0 (apply u between)) inner)) in
      record {
        front = apply u stop.front;
        last = stop.last;
        ends = ap (apply u) stop.ends ∙ apply-append u stop.front (Told stop.last ∷ []) front_plain ∙ ap (λ l. apply u stop.front ++ l) (told_last u full failed stop.last stop.stop);
        stop = stop.stop;
        many = omega (arith, stop.many, same, taken_begins (apply u between) input p);
        agrees = mapped ∙ ap untaken (sym begins);
      }

  -- the outer stage stopped at a capture that the inner one does not show: there a full store comes first
  hidden_stop : taken (apply u between) ≡ 0 → StoppedFull N shown between → apply u shown ≡ apply u between
  hidden_stop hidden stop =
      let some : 0 < taken between = omega (arith, stop.many) in
      ap (apply u) stop.ends ∙ ap (λ l. apply u (l ++ Told stop.last ∷ [])) stop.agrees
      ∙ full-first u N 0 between (Told stop.last ∷ []) hidden some

  hidden_taken : Begins (apply u between) (kept b input) → StoppedFull N shown between → b ≡ true → ⊥
  hidden_taken p stop e =
      let inner : NoFull (apply u between) = no_full_begins (apply u between) (kept b input) p (no_full_kept b input none) in
      let no : ⊥ = omega (arith, stop.many, taken-apply u between inner, none_kept b (apply u between) input e p) in
      no

  stop_front : (b' : Bool) → b' ≡ b → c ≡ true → StoppedFull N shown between → Begins (apply u between) (kept b' input) → InStep (b || c) N (apply u shown) input
  stop_front true e r stop p = absurd (hidden_taken (subst (λ x. Begins (apply u between) (kept x input)) e p) stop (sym e))
  stop_front false e r stop p = inr (or_right b c r, mapped_stop p stop)

  pub in_step_both : InStep c N shown between → InStep b N (apply u between) input → InStep (b || c) N (apply u shown) input
  in_step_both (inl q) p = front_front q p
  in_step_both (inr q) (inl p) = stop_front b refl q.0 q.1 p
  in_step_both (inr q) (inr p) =
      subst (λ l. InStep (b || c) N l input) (sym (hidden_stop (none_taken N (apply u between) input p.1) q.1))
      (widened b c N (apply u between) input p.0 (inr p))

  stop_answers : StoppedFull N shown between → Begins (answers_of (apply u shown)) (answers_of (apply u between))
  stop_answers stop =
      subst (λ l. Begins (answers_of l) (answers_of (apply u between))) (sym (ap (apply u) stop.ends))
      (answers_snoc u stop.front stop.last (apply u between)
      (subst (λ l. Begins (answers_of (apply u l)) (answers_of (apply u between))) (sym stop.agrees)
      (subst (λ l. Begins l (answers_of (apply u between))) (sym (ap answers_of (apply-untaken u (before_full N between)) ∙ answers-kept true (apply u (before_full N between))))
      (answers_begins (apply u (before_full N between)) (apply u between) (apply_begins u (before_full N between) between (before_begins N 0 between))))))

  answers_shown : InStep c N shown between → Begins (answers_of (apply u shown)) (answers_of (apply u between))
  answers_shown (inl q) =
      subst (Begins (answers_of (apply u shown))) (answers-kept c (apply u between)) (answers_begins (apply u shown) (kept c (apply u between)) (shown_between q))
  answers_shown (inr q) = stop_answers q.1

  -- what was answered in the output was answered between
  pub answers_both : InStep c N shown between → (grows : List Bool) → Begins (answers_of (apply u between)) grows → Begins (answers_of (apply u shown)) grows
  answers_both q grows h = begins_trans (answers_of (apply u shown)) (answers_of (apply u between)) grows (answers_shown q) h

  -- where the input has no capture too many, neither has the module between
  pub few_between : InStep b N (apply u between) input → taken input ≤ N → taken between ≤ N
  few_between (inl p) few =
      let inner : NoFull (apply u between) = no_full_begins (apply u between) (kept b input) p (no_full_kept b input none) in
      omega (arith, taken-apply u between inner, taken_begins (apply u between) (kept b input) p, taken_kept b input, few)
  few_between (inr p) few = let no : ⊥ = omega (arith, p.1.many, few) in absurd no

-- few open calls, through both
pub few_frames : (a b a' b' d d' d'' : ℕ) → d' ≤ a * d + b → d'' ≤ a' * d' + b' → d'' ≤ (a' * a) * d + (a' * b + b')
few_frames a b a' b' d d' d'' h h' =
    let grown : a' * d' ≤ a' * (a * d + b) = mul-le-mul_left a' h in
    omega (arith, h', grown, mul-add a' (a * d) b, mul_assoc a' a d)

stop_passes : (test : Event → Bool) (last : Event) → test Full ≡ true → test Failed ≡ true → (last ≡ Full) ⊎ (last ≡ Failed) → test last ≡ true
stop_passes test last f f' (inl e) = ap test e ∙ f
stop_passes test last f f' (inr e) = ap test e ∙ f'

-- events that pass the test of the outer stage become events that pass that of the inner one
pub shown_passes : (test : Event → Bool) (u : Event → Event) (c : Bool) (N : ℕ) (shown between : List Sight) → test Full ≡ true → test Failed ≡ true → InStep c N shown between → Passes test u between → Passes test u shown
shown_passes test u c N shown between f f' (inl q) h = passes_begins test u shown (kept c between) q (passes_kept test u c between h)
shown_passes test u c N shown between f f' (inr q) h =
    subst (Passes test u) (sym q.1.ends)
    (passes_snoc test u q.1.front q.1.last
    (subst (Passes test u) (sym q.1.agrees) (passes_untaken test u (before_full N between) (passes_begins test u (before_full N between) between (before_begins N 0 between) h)))
    (stop_passes test q.1.last f f' q.1.stop))
