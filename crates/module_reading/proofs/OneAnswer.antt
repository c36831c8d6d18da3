-- A file has one answer.
use Rattle.std.proofs.Common.{◌≡◌, ℕ, List, [], ◌∷◌, Result, Ok, Err, refl, sym, ap, subst, ◌∙◌}
use Rattle.std.specs.Prelude.{slice_get}
use Rattle.std.specs.List.{AllByRecursion}
use Rattle.std.proofs.lemmas.Option.{same_Some}
use Rattle.wasm_frame.specs.declared.sections.Version.{Version}
use Rattle.wasm_frame.specs.declared.sections.FrameFault.{FrameFault}
use Rattle.wasm_frame.specs.declared.sections.FrameFault.TheVariants as frame
use Rattle.wasm_frame.specs.Frame.{Part, Frame, Whole, NoSize, NoPlace, Ending, IsHeaded}
use Rattle.wasm_frame.specs.Payloads.{Content, IsSpelled, Each, FirstWithout}
use Rattle.wasm_frame.proofs.Frames.{one_frame}
use Rattle.wasm_frame.proofs.Contents.{one_content, each_one}
use Rattle.module_reading.specs.declared.fault.ReadFault.{ReadFault}
use Rattle.module_reading.specs.declared.fault.ReadFault.TheVariants.{Frame as Framed, Section, Body as Bad, Counts, Limit, Memory}
use Rattle.module_reading.specs.declared.kind.Kind.{Kind}
use Rattle.module_reading.specs.Format.{Format}
use Rattle.module_reading.specs.Limits.{IsWithin, kinds, IsWithinLimits, FirstPassed}
use Rattle.module_reading.specs.Means.{Means, Laws}
use Rattle.module_reading.specs.Reads.{IsBroken, IsBadSection, IsBadBody, Reads, Tells, UnlessMemory}
use Rattle.module_reading.specs.Spells.{code_section, IsPart, Grammar, Spells}
use Rattle.module_reading.proofs.Adding.{exact_code_section}
use Rattle.module_reading.proofs.Lists.{not_all, one_first}

headed : (v : Version) (b : List ℕ) (parts : List Part) (end : Ending) → Frame v b parts end → IsHeaded b
headed v b parts end h = (h.0, h.1)

-- a broken frame is no whole frame
no_frame : (v : Version) (b : List ℕ) (fault : FrameFault) (parts : List Part) → IsBroken v b fault → Frame v b parts Whole → ⊥
no_frame v b frame.BadHead parts h k = h (headed v b parts Whole k)
no_frame v b frame.BadSize parts h k = absurd (cc (one_frame v b h.0 parts NoSize Whole h.1 k).1)
no_frame v b frame.BadOrder parts h k = absurd (cc (one_frame v b h.0 parts NoPlace Whole h.1 k).1)
no_frame v b (frame.Memory e) parts h k = h

one_fault : (v : Version) (b : List ℕ) (fault other : FrameFault) → IsBroken v b fault → IsBroken v b other → fault ≡ other
one_fault v b (frame.Memory e) other h k = absurd h
one_fault v b fault (frame.Memory e) h k = absurd k
one_fault v b frame.BadHead frame.BadHead h k = refl
one_fault v b frame.BadHead frame.BadSize h k = absurd (h (headed v b k.0 NoSize k.1))
one_fault v b frame.BadHead frame.BadOrder h k = absurd (h (headed v b k.0 NoPlace k.1))
one_fault v b frame.BadSize frame.BadHead h k = absurd (k (headed v b h.0 NoSize h.1))
one_fault v b frame.BadSize frame.BadSize h k = refl
one_fault v b frame.BadSize frame.BadOrder h k = absurd (cc (one_frame v b h.0 k.0 NoSize NoPlace h.1 k.1).1)
one_fault v b frame.BadOrder frame.BadHead h k = absurd (k (headed v b h.0 NoPlace h.1))
one_fault v b frame.BadOrder frame.BadSize h k = absurd (cc (one_frame v b h.0 k.0 NoPlace NoSize h.1 k.1).1)
one_fault v b frame.BadOrder frame.BadOrder h k = refl

module _ {Module : Type 0} (f : Format Module) (means : Means f) (laws : Laws f means) where
  pub one_grammar : (b : List ℕ) (m o : Module) → Grammar f b m → Grammar f b o → m ≡ o
  one_grammar b m o h k =
      let parts = (one_frame f.version b h.parts k.parts Whole Whole h.frame k.frame).0 in
      let texts = one_content code_section exact_code_section [] 10 h.parts k.parts h.texts k.texts parts h.cut k.cut in
      let codes = each_one f.body laws.exact_body h.texts (f.codes m) (f.codes o) h.codes (subst (λ (ts : List (List ℕ)). Each f.body.text ts (f.codes o)) (sym texts) k.codes) in
      laws.one_module h.parts m o h.contents (subst (λ (ps : List Part). f.Contents ps o) (sym parts) k.contents) codes

  -- a section that is wrong is not in a file whose sections are in their grammar
  no_section : (b : List ℕ) (i : ℕ) (parts : List Part) → IsBadSection f b i → Frame f.version b parts Whole → AllByRecursion (IsPart f) parts → ⊥
  no_section b i parts h frame all =
      not_all (IsPart f) h.0 i h.2 (subst (λ (ps : List Part). AllByRecursion (IsPart f) ps) (sym (one_frame f.version b h.0 parts Whole Whole h.1 frame).0) all)

  one_section : (b : List ℕ) (i j : ℕ) → IsBadSection f b i → IsBadSection f b j → i ≡ j
  one_section b i j h k =
      one_first (IsPart f) h.0 i j h.2 (subst (λ (ps : List Part). FirstWithout (IsPart f) ps j) (sym (one_frame f.version b h.0 k.0 Whole Whole h.1 k.1).0) k.2)

  all_spelled : (texts : List (List ℕ)) (codes : List f.Body) → Each f.body.text texts codes → AllByRecursion (IsSpelled f.body) texts
  all_spelled [] codes each = tt
  all_spelled (t ∷ texts) [] each = absurd each
  all_spelled (t ∷ texts) (c ∷ codes) each = ((c, each.0), all_spelled texts codes each.1)

  same_texts : (parts others : List Part) (texts more : List (List ℕ)) → parts ≡ others → Content 10 code_section [] parts texts → Content 10 code_section [] others more → texts ≡ more
  same_texts parts others texts more same h k = one_content code_section exact_code_section [] 10 parts others texts more same h k

  no_body : (b : List ℕ) (i : ℕ) (m : Module) → IsBadBody f b i → Grammar f b m → ⊥
  no_body b i m h g =
      let parts = (one_frame f.version b h.0 g.parts Whole Whole h.2 g.frame).0 in
      let texts = same_texts h.0 g.parts h.1 g.texts parts h.4 g.cut in
      not_all (IsSpelled f.body) h.1 i h.5 (subst (λ (ts : List (List ℕ)). AllByRecursion (IsSpelled f.body) ts) (sym texts) (all_spelled g.texts (f.codes m) g.codes))

  one_body : (b : List ℕ) (i j : ℕ) → IsBadBody f b i → IsBadBody f b j → i ≡ j
  one_body b i j h k =
      let parts = (one_frame f.version b h.0 k.0 Whole Whole h.2 k.2).0 in
      let texts = same_texts h.0 k.0 h.1 k.1 parts h.4 k.4 in
      one_first (IsSpelled f.body) h.1 i j h.5 (subst (λ (ts : List (List ℕ)). FirstWithout (IsSpelled f.body) ts j) (sym texts) k.5)

  no_counts : (b : List ℕ) (m o : Module) → Grammar f b m → ¬ (f.Agrees m) → Spells f b o → ⊥
  no_counts b m o g wrong h = wrong (subst f.Agrees (sym (one_grammar b m o g h.grammar)) h.counts)

  no_limit : (b : List ℕ) (m o : Module) (k : Kind) → Spells f b m → FirstPassed f m k → Spells f b o → IsWithinLimits f o → ⊥
  no_limit b m o k h passed s within =
      not_all (λ j. IsWithin f j (f.number j m)) kinds passed.0 passed.2 (subst (IsWithinLimits f) (sym (one_grammar b m o h.grammar s.grammar)) within)

  one_limit : (b : List ℕ) (m o : Module) (k j : Kind) → Spells f b m → FirstPassed f m k → Spells f b o → FirstPassed f o j → k ≡ j
  one_limit b m o k j h passed s other =
      let same : FirstPassed f m j = subst (λ (x : Module). FirstPassed f x j) (sym (one_grammar b m o h.grammar s.grammar)) other in
      let place = one_first (λ x. IsWithin f x (f.number x m)) kinds passed.0 same.0 passed.2 same.2 in
      same_Some k j (sym passed.1 ∙ ap (λ (i : ℕ). slice_get kinds i) place ∙ same.1)

  -- what an answer says of the file, from the sections on: the earliest that it says
  pub one_answer : (b : List ℕ) (r s : Result Module ReadFault) → Reads f b r → Reads f b s → r ≡ s
  one_answer b (Ok m) (Ok o) h k = ap (λ x. Ok x) (one_grammar b m o h.0.grammar k.0.grammar)
  one_answer b (Ok m) (Err (Framed e)) h k = absurd (no_frame f.version b e h.0.grammar.parts k h.0.grammar.frame)
  one_answer b (Ok m) (Err (Section i)) h k = absurd (no_section b i h.0.grammar.parts k h.0.grammar.frame h.0.grammar.within)
  one_answer b (Ok m) (Err (Bad i)) h k = absurd (no_body b i m k h.0.grammar)
  one_answer b (Ok m) (Err Counts) h k = absurd (no_counts b k.0 m k.1 k.2 h.0)
  one_answer b (Ok m) (Err (Limit kind)) h k = absurd (no_limit b k.0 m kind k.1 k.2 h.0 h.1)
  one_answer b (Err (Framed e)) (Ok m) h k = absurd (no_frame f.version b e k.0.grammar.parts h k.0.grammar.frame)
  one_answer b (Err (Framed e)) (Err (Framed g)) h k = ap (λ x. Err (Framed x)) (one_fault f.version b e g h k)
  one_answer b (Err (Framed e)) (Err (Section i)) h k = absurd (no_frame f.version b e k.0 h k.1)
  one_answer b (Err (Framed e)) (Err (Bad i)) h k = absurd (no_frame f.version b e k.0 h k.2)
  one_answer b (Err (Framed e)) (Err Counts) h k = absurd (no_frame f.version b e k.1.parts h k.1.frame)
  one_answer b (Err (Framed e)) (Err (Limit kind)) h k = absurd (no_frame f.version b e k.1.grammar.parts h k.1.grammar.frame)
  one_answer b (Err (Section i)) (Ok m) h k = absurd (no_section b i k.0.grammar.parts h k.0.grammar.frame k.0.grammar.within)
  one_answer b (Err (Section i)) (Err (Framed e)) h k = absurd (no_frame f.version b e h.0 k h.1)
  one_answer b (Err (Section i)) (Err (Section j)) h k = ap (λ x. Err (Section x)) (one_section b i j h k)
  one_answer b (Err (Section i)) (Err (Bad j)) h k = absurd (no_section b i k.0 h k.2 k.3)
  one_answer b (Err (Section i)) (Err Counts) h k = absurd (no_section b i k.1.parts h k.1.frame k.1.within)
  one_answer b (Err (Section i)) (Err (Limit kind)) h k = absurd (no_section b i k.1.grammar.parts h k.1.grammar.frame k.1.grammar.within)
  one_answer b (Err (Bad i)) (Ok m) h k = absurd (no_body b i m h k.0.grammar)
  one_answer b (Err (Bad i)) (Err (Framed e)) h k = absurd (no_frame f.version b e h.0 k h.2)
  one_answer b (Err (Bad i)) (Err (Section j)) h k = absurd (no_section b j h.0 k h.2 h.3)
  one_answer b (Err (Bad i)) (Err (Bad j)) h k = ap (λ x. Err (Bad x)) (one_body b i j h k)
  one_answer b (Err (Bad i)) (Err Counts) h k = absurd (no_body b i k.0 h k.1)
  one_answer b (Err (Bad i)) (Err (Limit kind)) h k = absurd (no_body b i k.0 h k.1.grammar)
  one_answer b (Err Counts) (Ok m) h k = absurd (no_counts b h.0 m h.1 h.2 k.0)
  one_answer b (Err Counts) (Err (Framed e)) h k = absurd (no_frame f.version b e h.1.parts k h.1.frame)
  one_answer b (Err Counts) (Err (Section i)) h k = absurd (no_section b i h.1.parts k h.1.frame h.1.within)
  one_answer b (Err Counts) (Err (Bad i)) h k = absurd (no_body b i h.0 k h.1)
  one_answer b (Err Counts) (Err Counts) h k = refl
  one_answer b (Err Counts) (Err (Limit kind)) h k = absurd (no_counts b h.0 k.0 h.1 h.2 k.1)
  one_answer b (Err (Limit kind)) (Ok m) h k = absurd (no_limit b h.0 m kind h.1 h.2 k.0 k.1)
  one_answer b (Err (Limit kind)) (Err (Framed e)) h k = absurd (no_frame f.version b e h.1.grammar.parts k h.1.grammar.frame)
  one_answer b (Err (Limit kind)) (Err (Section i)) h k = absurd (no_section b i h.1.grammar.parts k h.1.grammar.frame h.1.grammar.within)
  one_answer b (Err (Limit kind)) (Err (Bad i)) h k = absurd (no_body b i h.0 k h.1.grammar)
  one_answer b (Err (Limit kind)) (Err Counts) h k = absurd (no_counts b k.0 h.0 k.1 k.2 h.1)
  one_answer b (Err (Limit kind)) (Err (Limit other)) h k = ap (λ x. Err (Limit x)) (one_limit b h.0 k.0 kind other h.1 h.2 k.1 k.2)
  one_answer b (Err (Memory e)) s h k = absurd h
  one_answer b r (Err (Memory e)) h k = absurd k

  pub only : (b : List ℕ) (r : Result Module ReadFault) → Tells f b r → UnlessMemory r ((other : Result Module ReadFault) → Reads f b other → other ≡ r)
  only b (Ok m) h = λ other k. one_answer b other (Ok m) k h
  only b (Err (Framed e)) h = λ other k. one_answer b other (Err (Framed e)) k h
  only b (Err (Section i)) h = λ other k. one_answer b other (Err (Section i)) k h
  only b (Err (Bad i)) h = λ other k. one_answer b other (Err (Bad i)) k h
  only b (Err Counts) h = λ other k. one_answer b other (Err Counts) k h
  only b (Err (Limit kind)) h = λ other k. one_answer b other (Err (Limit kind)) k h
  only b (Err (Memory e)) h = tt
