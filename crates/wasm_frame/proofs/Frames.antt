-- A file has one list of sections and one ending, and reading on section by section finds them.
use Rattle.std.proofs.Common.{◌≡◌, ℕ, ◌+◌, ◌-◌, ◌<◌, ◌≤◌, List, [], ◌∷◌, ◌++◌, length, map, Some, None, refl, sym, ap, subst, ◌∙◌, append_assoc, arith}
use Rattle.std.specs.Prelude.{slice_range, Result, Ok, Err, IsOk, IfOk, ◌↔◌}
use Rattle.std.proofs.lemmas.List.{take_at, drop_at, length-append, length-map, append-nil, append_cancel_left, map_push}
use Rattle.grammar_kit.specs.Exact.{Exact}
use Rattle.grammar_kit.proofs.Combinators.{exact_rules}
use Rattle.grammar_kit.proofs.Consequences.{one_front, none_spells}
use Rattle.wasm_frame.specs.declared.sections.Version.{Version}
use Rattle.wasm_frame.specs.declared.sections.Section.{Section}
use Rattle.wasm_frame.specs.declared.sections.FrameFault.{FrameFault}
use Rattle.wasm_frame.specs.declared.sections.FrameFault.TheVariants.{BadHead, BadSize, BadOrder, Memory}
use Rattle.wasm_frame.specs.Frame.{Part, Ending, Whole, NoSize, NoPlace, Frame, Tells, UnlessMemory, Sections, head, section, order, left_after, parts_of}
use Rattle.wasm_frame.proofs.Spelling.{exact_u32}

pub exact_section : Exact section
unfolding section
exact_section = search (exact_rules, exact_u32) depth 12

-- ---- one list, one ending

front_is_read : (b t u : List ℕ) (s : Part) → b ≡ t ++ u → section.text t s → section.read b ≡ Some (s, u)
front_is_read b t u s cut h = ap section.read cut ∙ exact_section.complete t s u h

not_in_nothing : (s : Part) (u : List ℕ) → section.read [] ≡ Some (s, u) → ⊥
unfolding section
not_in_nothing s u e = absurd cc

no_section_at_end : (b t u : List ℕ) (s : Part) → b ≡ [] → b ≡ t ++ u → section.text t s → ⊥
no_section_at_end b t u s none cut h = not_in_nothing s u (sym (ap section.read none) ∙ front_is_read b t u s cut h)

same_section : (b t u t' u' : List ℕ) (s s' : Part) → b ≡ t ++ u → b ≡ t' ++ u' → section.text t s → section.text t' s' → (s ≡ s') × (u ≡ u')
same_section b t u t' u' s s' cut cut' h h' =
    let k = one_front section exact_section t t' u u' s s' (sym cut ∙ cut') h h' in
    (k.1, k.2)

-- where a section stands in its place the sections have not ended
goes_on : (left b : List ℕ) (s : Part) (parts : List Part) (end ending : Ending) → Sections left b (s ∷ parts) end → Sections left b [] ending → ⊥
goes_on left b s parts end Whole p q = no_section_at_end b p.0 p.1 s q p.3 p.4
goes_on left b s parts end NoSize p q = q.1 p.0 p.1 s p.3 p.4
goes_on left b s parts end NoPlace p q =
    let k = same_section b p.0 p.1 q.0 q.1 s q.2 p.3 q.3 p.4 q.4 in
    let same : left_after s.id left ≡ left_after q.2.id left = ap (λ (r : Part). left_after r.id left) k.0 in
    absurd cc

one_ending : (left b : List ℕ) (end ending : Ending) → Sections left b [] end → Sections left b [] ending → end ≡ ending
one_ending left b Whole Whole p q = refl
one_ending left b Whole NoSize p q = absurd (q.0 p)
one_ending left b Whole NoPlace p q = absurd (no_section_at_end b q.0 q.1 q.2 p q.3 q.4)
one_ending left b NoSize Whole p q = absurd (p.0 q)
one_ending left b NoSize NoSize p q = refl
one_ending left b NoSize NoPlace p q = absurd (p.1 q.0 q.1 q.2 q.3 q.4)
one_ending left b NoPlace Whole p q = absurd (no_section_at_end b p.0 p.1 p.2 q p.3 p.4)
one_ending left b NoPlace NoSize p q = absurd (q.1 p.0 p.1 p.2 p.3 p.4)
one_ending left b NoPlace NoPlace p q = refl

one_list : (left b : List ℕ) (parts others : List Part) (end ending : Ending) → Sections left b parts end → Sections left b others ending → (parts ≡ others) × (end ≡ ending)
one_list left b [] [] end ending p q = (refl, one_ending left b end ending p q)
one_list left b (s ∷ parts) [] end ending p q = absurd (goes_on left b s parts end ending p q)
one_list left b [] (s ∷ others) end ending p q = absurd (goes_on left b s others ending end q p)
one_list left b (s ∷ parts) (r ∷ others) end ending p q =
    let k = same_section b p.0 p.1 q.0 q.1 s r p.3 q.3 p.4 q.4 in
    let same : left_after s.id left ≡ left_after r.id left = ap (λ (x : Part). left_after x.id left) k.0 in
    let next : q.2 ≡ p.2 = cc in
    let rest = subst (λ (n : List ℕ). Sections n p.1 others ending) next (subst (λ (u : List ℕ). Sections q.2 u others ending) (sym k.1) q.6) in
    let ih = one_list p.2 p.1 parts others end ending p.6 rest in
    (cc, ih.1)

pub one_frame : (v : Version) (b : List ℕ) (parts others : List Part) (end ending : Ending) → Frame v b parts end → Frame v b others ending → (parts ≡ others) × (end ≡ ending)
one_frame v b parts others end ending p q =
    let same : q.0 ≡ p.0 = append_cancel_left head q.0 p.0 (sym q.1 ∙ p.1) in
    one_list (order v) p.0 parts others end ending p.2 (subst (λ (t : List ℕ). Sections (order v) t others ending) same q.2)

-- ---- reading on

pub stops_without_size : (left b : List ℕ) → 0 < length b → section.read b ≡ None → Sections left b [] NoSize
stops_without_size left b some e = (λ none. absurd (omega (arith, ap length none)), λ t u s cut h. none_spells section exact_section b t u s e cut h)

pub stops_without_place : (left b after : List ℕ) (s : Part) → section.read b ≡ Some (s, after) → left_after s.id left ≡ None → Sections left b [] NoPlace
stops_without_place left b after s e none = let k = exact_section.sound b s after e in (k.0, after, s, k.1, k.2, none)

pub adds_section : (left next b after : List ℕ) (s : Part) (parts : List Part) (end : Ending) → section.read b ≡ Some (s, after) → left_after s.id left ≡ Some next
    → Sections next after parts end → Sections left b (s ∷ parts) end
adds_section left next b after s parts end e place h = let k = exact_section.sound b s after e in (k.0, after, next, k.1, k.2, place, h)

-- ---- where a payload stands

-- the bytes of a section before its payload
before_payload : (t : List ℕ) (s : Part) → section.text t s → (f : List ℕ) × (0 < length f) × (t ≡ f ++ s.payload)
unfolding section
before_payload t s h =
    let g = h.5 in
    let k = g.5 in
    let payload : k.0 ≡ s.payload = sym (ap (λ (x : Part). x.payload) k.5.1) in
    let last : g.2 ≡ s.payload = k.3 ∙ ap (λ (u : List ℕ). k.1 ++ u) k.5.0 ∙ append-nil k.1 ∙ k.4.0 ∙ payload in
    let whole : t ≡ (h.1 ++ g.1) ++ s.payload = h.3 ∙ ap (λ (u : List ℕ). h.1 ++ u) (g.3 ∙ ap (λ (u : List ℕ). g.1 ++ u) last) ∙ sym (append_assoc h.1 g.1 s.payload) in
    (h.1 ++ g.1, omega (arith, length-append h.1 g.1, ap length h.4), whole)

-- a section of the file, which is cut there: a first part, the bytes before the payload, the payload, and the rest
pub section_cut : (b front rest after : List ℕ) (s : Part) → b ≡ front ++ rest → section.read rest ≡ Some (s, after)
    → (f : List ℕ) × (length after + length s.payload < length rest) × (b ≡ f ++ (s.payload ++ after))
section_cut b front rest after s cut e =
    let k = exact_section.sound rest s after e in
    let w = before_payload k.0 s k.2 in
    let rest_is : rest ≡ w.0 ++ (s.payload ++ after) = k.1 ∙ ap (λ (u : List ℕ). u ++ after) w.2 ∙ append_assoc w.0 s.payload after in
    let whole : b ≡ (front ++ w.0) ++ (s.payload ++ after) = cut ∙ ap (λ (u : List ℕ). front ++ u) rest_is ∙ sym (append_assoc front w.0 (s.payload ++ after)) in
    (front ++ w.0, omega (arith, ap length rest_is, length-append w.0 (s.payload ++ after), length-append s.payload after, w.1), whole)

lengths_of_cut : (b f payload after : List ℕ) → b ≡ f ++ (payload ++ after) → length b ≡ length f + (length payload + length after)
lengths_of_cut b f payload after cut = omega (arith, ap length cut, length-append f (payload ++ after), length-append payload after)

pub section_fits : (b front rest after : List ℕ) (s : Part) → b ≡ front ++ rest → section.read rest ≡ Some (s, after)
    → (length after + length s.payload ≤ length b) × (length after < length rest)
section_fits b front rest after s cut e =
    let k = section_cut b front rest after s cut e in
    (omega (arith, lengths_of_cut b k.0 s.payload after k.2), omega (arith, k.1))

pub payload_at : (b f payload after : List ℕ) → b ≡ f ++ (payload ++ after) → slice_range b (length b - length after - length payload) (length b - length after) ≡ payload
payload_at b f payload after cut =
    let len : length b ≡ length f + (length payload + length after) = lengths_of_cut b f payload after cut in
    let start : length b - length after - length payload ≡ length f = omega (arith, len) in
    let width : length b - length after - length f ≡ length payload = omega (arith, len) in
    rw (start, width, cut, drop_at f (payload ++ after) (length f) refl, take_at payload after (length payload) refl) refl

pub parts_with : (b : List ℕ) (found : List Section) (x : Section) (s : Part) (more : List Part) → record { id = x.id; payload = slice_range b x.start x.end } ≡ s
    → parts_of b (found ++ x ∷ []) ++ more ≡ parts_of b found ++ s ∷ more
parts_with b found x s more e =
    let part : Section → Part = λ y. record { id = y.id; payload = slice_range b y.start y.end } in
    ap (λ (ps : List Part). ps ++ more) (map_push part found x) ∙ append_assoc (map part found) (part x ∷ []) more ∙ ap (λ (r : Part). map part found ++ r ∷ more) e

-- ---- a section takes a byte at least

some_bytes : (t : List ℕ) (s : Part) → section.text t s → 1 ≤ length t
unfolding section
some_bytes [] s h = absurd (cc (h.3, h.4))
some_bytes (a ∷ t) s h = omega arith

few_parts : (left b : List ℕ) (parts : List Part) (end : Ending) → Sections left b parts end → length parts ≤ length b
few_parts left b [] end h = omega arith
few_parts left b (s ∷ parts) end h =
    let first = some_bytes h.0 s h.4 in
    let others = few_parts h.2 h.1 parts end h.6 in
    omega (arith, first, others, ap length h.3, length-append h.0 h.1)

few_sections : (v : Version) (b : List ℕ) (found : List Section) → Frame v b (parts_of b found) Whole → length found ≤ length b
few_sections v b found h =
    let few = few_parts (order v) h.0 (parts_of b found) Whole h.2 in
    let part : Section → Part = λ x. record { id = x.id; payload = slice_range b x.start x.end } in
    omega (arith, few, length-map found part, ap length h.1, length-append head h.0)

-- ---- when each answer comes

same_ending : (v : Version) (b : List ℕ) (parts others : List Part) (end ending : Ending) → Frame v b parts end → Frame v b others ending → end ≡ ending
same_ending v b parts others end ending p q = (one_frame v b parts others end ending p q).1

pub when_few : (v : Version) (b : List ℕ) (result : Result (List Section) FrameFault) → Tells v b result → IfOk result (λ found. length found ≤ length b)
when_few v b (Ok found) tells = few_sections v b found tells
when_few v b (Err e) tells = tt

pub when_ok : (v : Version) (b : List ℕ) (r : Result (List Section) FrameFault) → Tells v b r → UnlessMemory r (IsOk r ↔ ((parts : List Part) × Frame v b parts Whole))
when_ok v b (Ok found) h = (λ k. (parts_of b found, h), λ f. refl)
when_ok v b (Err BadHead) h = (λ k. absurd cc, λ f. absurd (h (f.1.0, f.1.1)))
when_ok v b (Err BadSize) h = (λ k. absurd cc, λ f. let e = same_ending v b h.0 f.0 NoSize Whole h.1 f.1 in absurd cc)
when_ok v b (Err BadOrder) h = (λ k. absurd cc, λ f. let e = same_ending v b h.0 f.0 NoPlace Whole h.1 f.1 in absurd cc)
when_ok v b (Err (Memory m)) h = tt

pub when_bad_size : (v : Version) (b : List ℕ) (r : Result (List Section) FrameFault) → Tells v b r
    → UnlessMemory r ((r ≡ Err BadSize) ↔ ((parts : List Part) × Frame v b parts NoSize))
when_bad_size v b (Ok found) h = (λ k. absurd cc, λ f. let e = same_ending v b (parts_of b found) f.0 Whole NoSize h f.1 in absurd cc)
when_bad_size v b (Err BadHead) h = (λ k. absurd cc, λ f. absurd (h (f.1.0, f.1.1)))
when_bad_size v b (Err BadSize) h = (λ k. h, λ f. refl)
when_bad_size v b (Err BadOrder) h = (λ k. absurd cc, λ f. let e = same_ending v b h.0 f.0 NoPlace NoSize h.1 f.1 in absurd cc)
when_bad_size v b (Err (Memory m)) h = tt

pub when_bad_order : (v : Version) (b : List ℕ) (r : Result (List Section) FrameFault) → Tells v b r
    → UnlessMemory r ((r ≡ Err BadOrder) ↔ ((parts : List Part) × Frame v b parts NoPlace))
when_bad_order v b (Ok found) h = (λ k. absurd cc, λ f. let e = same_ending v b (parts_of b found) f.0 Whole NoPlace h f.1 in absurd cc)
when_bad_order v b (Err BadHead) h = (λ k. absurd cc, λ f. absurd (h (f.1.0, f.1.1)))
when_bad_order v b (Err BadSize) h = (λ k. absurd cc, λ f. let e = same_ending v b h.0 f.0 NoSize NoPlace h.1 f.1 in absurd cc)
when_bad_order v b (Err BadOrder) h = (λ k. h, λ f. refl)
when_bad_order v b (Err (Memory m)) h = tt
