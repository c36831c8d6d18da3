-- The sections that are written one after the other spell the module.
use Rattle.std.proofs.Common.{◌≡◌, ℕ, lit<, length, List, [], ◌∷◌, ◌++◌, Option, Some, None, refl, sym, ap, subst, ◌∙◌, append_assoc}
use Rattle.std.specs.Prelude.{MatchOption}
use Rattle.std.proofs.lemmas.List.{append-nil}
use Rattle.core1_ast.specs.declared.module.code.Body1.{Body1}
use Rattle.core1_ast.specs.declared.module.parts.Module1.{Module1}
use Rattle.grammar_kit.specs.Form.{Form}
use Rattle.wasm_frame.specs.Frame.{head}
use Rattle.wasm_frame.specs.Leb128.{u32}
use Rattle.wasm_frame.specs.Payloads.{Content, Each}
use Rattle.wasm_frame.proofs.SizedItems.{vector_cut}
use Rattle.core1_bytes.specs.Parts.{type_section, import_section, func_section, table_section, memory_section, global_section, export_section, start_section, element_section, data_section}
use Rattle.core1_bytes.specs.Bodies.{body}
use Rattle.module_reading.specs.Spells.{code_section, IsPart}
use Rattle.core1_bytes.specs.Spells.{one, Spells1}
use Rattle.core1_bytes.specs.Made.{body_section}
use Rattle.core1_bytes.specs.Appends.{AppendsSection}
use Rattle.core1_bytes.proofs.Files.{Piece, present, Ascends, Cut, find, sections_of, payload_found, each_present}

-- the section of an id with these entries, there or left out
abbrev pub Entries : {X : Type 0} → ℕ → Form X → X → X → List ℕ → List ℕ → Type 0
Entries id f none x a b = AppendsSection id (x ≡ none) (λ p. f.text p x) a b

-- sections up to the end of the file
record Tail (start out : List ℕ) (plan : List Piece) : Type 0 where
  rest : List ℕ
  whole : out ≡ start ++ rest
  cut : Cut plan rest

tail_none : (out : List ℕ) → Tail out out []
tail_none out = record { rest = []; whole = sym (append-nil out); cut = refl }

tail_more : (id : ℕ) (P : Type 0) (Q : List ℕ → Type 0) (a b out : List ℕ) (plan : List Piece) (s : AppendsSection id P Q a b) → Tail b out plan → Tail a out ((record { id = id; payload = s.payload }) ∷ plan)
tail_more id P Q a b out plan s t = record {
  rest = s.whole.bytes ++ t.rest;
  whole = t.whole ∙ ap (λ (u : List ℕ). u ++ t.rest) s.whole.appended ∙ append_assoc a s.whole.bytes t.rest;
  cut = (s.whole.bytes, t.rest, refl, s.whole.spells, t.cut);
}

spelled_if : (o : Option (List ℕ)) (P : Type 0) (Q R : List ℕ → Type 0) → ((p : List ℕ) → Q p → R p) → MatchOption o P Q → MatchOption o (Unit {0}) R
spelled_if None P Q R f h = tt
spelled_if (Some p) P Q R f h = f p h

content : {X : Type 0} (id : ℕ) (f : Form X) (none x : X) (plan : List Piece) (o : Option (List ℕ)) → Ascends 0 plan → find id plan ≡ o → MatchOption o (x ≡ none) (λ p. f.text p x) → Content id f none (present plan) x
content id f none x plan o asc e h = subst (λ q. MatchOption q (x ≡ none) (λ p. f.text p x)) (sym (payload_found 0 id plan asc ∙ e)) h

-- the texts of the bodies, if the section is there
record Split (o : Option (List ℕ)) (codes : List Body1) : Type 0 where
  texts : List (List ℕ)
  cut : MatchOption o (texts ≡ []) (λ p. code_section.text p texts)
  each : Each body.text texts codes

split : (o : Option (List ℕ)) (codes : List Body1) → MatchOption o (codes ≡ []) (λ p. body_section.text p codes) → Split o codes
split None codes h = record { texts = []; cut = refl; each = subst (λ cs. Each body.text [] cs) (sym h) tt }
split (Some p) codes h = let texts = vector_cut u32 body p codes h in record { texts = texts.0; cut = texts.1; each = texts.2 }

pub module_spelled : (a b1 b2 b3 b4 b5 b6 b7 b8 b9 b10 out : List ℕ) (m : Module1) → a ≡ head
    → Entries 1 type_section [] m.types a b1
    → Entries 2 import_section [] m.imports b1 b2
    → Entries 3 func_section [] m.funcs b2 b3
    → Entries 4 table_section [] m.tables b3 b4
    → Entries 5 memory_section [] m.memories b4 b5
    → Entries 6 global_section [] m.globals b5 b6
    → Entries 7 export_section [] m.exports b6 b7
    → Entries 8 start_section None m.start b7 b8
    → Entries 9 element_section [] m.elems b8 b9
    → Entries 10 body_section [] m.codes b9 b10
    → Entries 11 data_section [] m.datas b10 out
    → length m.funcs ≡ length m.codes → Spells1 out m
module_spelled a b1 b2 b3 b4 b5 b6 b7 b8 b9 b10 out m start s1 s2 s3 s4 s5 s6 s7 s8 s9 s10 s11 counts =
    let t11 = tail_more 11 _ _ b10 out out _ s11 (tail_none out) in
    let t10 = tail_more 10 _ _ b9 b10 out _ s10 t11 in
    let t9 = tail_more 9 _ _ b8 b9 out _ s9 t10 in
    let t8 = tail_more 8 _ _ b7 b8 out _ s8 t9 in
    let t7 = tail_more 7 _ _ b6 b7 out _ s7 t8 in
    let t6 = tail_more 6 _ _ b5 b6 out _ s6 t7 in
    let t5 = tail_more 5 _ _ b4 b5 out _ s5 t6 in
    let t4 = tail_more 4 _ _ b3 b4 out _ s4 t5 in
    let t3 = tail_more 3 _ _ b2 b3 out _ s3 t4 in
    let t2 = tail_more 2 _ _ b1 b2 out _ s2 t3 in
    let t1 = tail_more 1 _ _ a b1 out _ s1 t2 in
    let plan : List Piece = (record { id = 1; payload = s1.payload }) ∷ ((record { id = 2; payload = s2.payload }) ∷ ((record { id = 3; payload = s3.payload }) ∷ ((record { id = 4; payload = s4.payload }) ∷ ((record { id = 5; payload = s5.payload }) ∷ ((record { id = 6; payload = s6.payload }) ∷ ((record { id = 7; payload = s7.payload }) ∷ ((record { id = 8; payload = s8.payload }) ∷ ((record { id = 9; payload = s9.payload }) ∷ ((record { id = 10; payload = s10.payload }) ∷ ((record { id = 11; payload = s11.payload }) ∷ [])))))))))) in
    let asc : Ascends 0 plan = (lit< tt, (lit< tt, (lit< tt, (lit< tt, (lit< tt, (lit< tt, (lit< tt, (lit< tt, (lit< tt, (lit< tt, (lit< tt, tt))))))))))) in
    let bodies = split s10.payload m.codes s10.content in
    record {
      grammar = record {
        parts = present plan;
        frame = (t1.rest, t1.whole ∙ ap (λ (u : List ℕ). u ++ t1.rest) start, sections_of 0 plan t1.rest asc t1.cut);
        within = each_present (IsPart one) plan (spelled_if s1.payload _ _ _ (λ p h. (m.types, h)) s1.content, (spelled_if s2.payload _ _ _ (λ p h. (m.imports, h)) s2.content, (spelled_if s3.payload _ _ _ (λ p h. (m.funcs, h)) s3.content, (spelled_if s4.payload _ _ _ (λ p h. (m.tables, h)) s4.content, (spelled_if s5.payload _ _ _ (λ p h. (m.memories, h)) s5.content, (spelled_if s6.payload _ _ _ (λ p h. (m.globals, h)) s6.content, (spelled_if s7.payload _ _ _ (λ p h. (m.exports, h)) s7.content, (spelled_if s8.payload _ _ _ (λ p h. (m.start, h)) s8.content, (spelled_if s9.payload _ _ _ (λ p h. (m.elems, h)) s9.content, (spelled_if s10.payload _ _ _ (λ p h. (bodies.texts, h)) bodies.cut, (spelled_if s11.payload _ _ _ (λ p h. (m.datas, h)) s11.content, tt)))))))))));
        contents = record {
          types = content 1 type_section [] m.types plan s1.payload asc refl s1.content;
          imports = content 2 import_section [] m.imports plan s2.payload asc refl s2.content;
          funcs = content 3 func_section [] m.funcs plan s3.payload asc refl s3.content;
          tables = content 4 table_section [] m.tables plan s4.payload asc refl s4.content;
          memories = content 5 memory_section [] m.memories plan s5.payload asc refl s5.content;
          globals = content 6 global_section [] m.globals plan s6.payload asc refl s6.content;
          exports = content 7 export_section [] m.exports plan s7.payload asc refl s7.content;
          start = content 8 start_section None m.start plan s8.payload asc refl s8.content;
          elems = content 9 element_section [] m.elems plan s9.payload asc refl s9.content;
          datas = content 11 data_section [] m.datas plan s11.payload asc refl s11.content;
        };
        texts = bodies.texts;
        cut = content 10 code_section [] bodies.texts plan s10.payload asc refl bodies.cut;
        codes = bodies.each;
      };
      counts = counts;
    }
