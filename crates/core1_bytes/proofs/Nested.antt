-- What the writers of code append nests as code does, and types are spelled by their forms.
use Rattle.std.proofs.Common.{◌≡◌, ℕ, true, Some, inl, inr, sym, List, [], ◌∷◌, ◌++◌, refl, ap, ◌∙◌, append_assoc}
use Rattle.std.proofs.lemmas.Bool.Decides.{eqb_tells}
use Rattle.std.proofs.lemmas.Option.{none-some}
use Rattle.core1_ast.specs.declared.module.ty.Ty1.{Ty1}
use Rattle.core1_ast.specs.declared.module.ty.BlockType1.TheVariants as blocks
use Rattle.core1_ast.specs.declared.module.code.Instr1.{Instr1}
use Rattle.grammar_kit.specs.Form.{byte}
use Rattle.nested_code.specs.declared.token.Token.TheVariants.{Plain, Open, Else, End}
use Rattle.nested_code.specs.Nesting.{plain, one, two, none}
use Rattle.nested_code.specs.Nesting as nesting
use Rattle.nested_code.specs.Nesting.{expr as nested_expr}
use Rattle.nested_code.proofs.Appending.{tokens_append, tokens_one, flats_append, flats_one}
use Rattle.core1_bytes.specs.declared.head.Head1.{Head1}
use Rattle.core1_bytes.specs.Types.{type_of, value_type, block_type}
use Rattle.core1_bytes.specs.Tokens.{control_at, token, has_arms, build}
use Rattle.core1_bytes.specs.Bodies.{expr}
use Rattle.core1_bytes.specs.Appends.{AppendsBy, Appends, Immediates, Begins, Opens, block_type_of, Spelling, AppendsInstr, AppendsCode}
use Rattle.core1_bytes.proofs.Appending.{appends_to, appends_nothing, found}

two_bytes : (a b c p q : List ℕ) → b ≡ a ++ p → c ≡ b ++ q → c ≡ a ++ (p ++ q)
two_bytes a b c p q e f = f ∙ ap (λ (u : List ℕ). u ++ q) e ∙ append_assoc a p q

three : (a b c d p q r : List ℕ) → b ≡ a ++ p → c ≡ b ++ q → d ≡ c ++ r → d ≡ a ++ (p ++ (q ++ r))
three a b c d p q r e f g = two_bytes a b d p (q ++ r) e (two_bytes b c d q r f g)

-- a byte, and what follows it
pub coded : (P Q : List ℕ → Type 0) (k : ℕ) (old middle new : List ℕ) → ((b : List ℕ) → P b → Q (k ∷ b)) → Appends byte old middle k → AppendsBy P middle new → AppendsBy Q old new
coded P Q k old middle new f p q = record {
  bytes = k ∷ q.bytes;
  appended = q.appended ∙ ap (λ (u : List ℕ). u ++ q.bytes) (p.appended ∙ ap (λ (u : List ℕ). old ++ u) p.spells) ∙ append_assoc old (k ∷ []) q.bytes;
  spells = f q.bytes q.spells;
}

-- a byte alone
pub coded_alone : (Q : List ℕ → Type 0) (k : ℕ) (old new : List ℕ) → Q (k ∷ []) → Appends byte old new k → AppendsBy Q old new
coded_alone Q k old new h p = record { bytes = k ∷ []; appended = p.appended ∙ ap (λ (u : List ℕ). old ++ u) p.spells; spells = h }

pub type_appends : (old new : List ℕ) (t : Ty1) (k : ℕ) → type_of k ≡ Some t → Appends byte old new k → Appends value_type old new t
unfolding value_type
type_appends old new t k e p = coded_alone (λ b. value_type.text b t) k old new (found byte type_of (k ∷ []) k t e refl) p

-- the byte of a value type is not that of no result
one_text : (t : Ty1) (k : ℕ) → type_of k ≡ Some t → block_type.text (k ∷ []) (blocks.One t)
unfolding block_type
one_text t k e = elim (eqb_tells k 0x40) [
  | inl same ↦ absurd (none-some t (sym (ap type_of same.1) ∙ e))
  | inr other ↦ (k, k ∷ [], [], refl, refl, rw (other.0, e) (refl, refl))
]

pub one_appends : (old new : List ℕ) (t : Ty1) (k : ℕ) → type_of k ≡ Some t → Appends byte old new k → Appends block_type old new (blocks.One t)
one_appends old new t k e p = coded_alone (λ b. block_type.text b (blocks.One t)) k old new (one_text t k e) p

empty_text : block_type.text (0x40 ∷ []) blocks.Empty
unfolding block_type
empty_text = (0x40, 0x40 ∷ [], [], refl, refl, (refl, refl))

pub empty_appends : (old new : List ℕ) → Appends byte old new 0x40 → Appends block_type old new blocks.Empty
empty_appends old new p = coded_alone (λ b. block_type.text b blocks.Empty) 0x40 old new empty_text p

pub head_appends : (old middle new : List ℕ) (h : Head1) (k : ℕ) → Opens h k → Appends byte old middle k → Appends block_type middle new (block_type_of h) → Appends token old new (Open h)
head_appends old middle new h k opens p q = coded (λ b. block_type.text b (block_type_of h)) (λ b. token.text b (Open h)) k old middle new opens.spells p q

pub plain_appends : (old middle new : List ℕ) (i : Instr1) (k : ℕ) → Begins i k → Appends byte old middle k → AppendsBy (Immediates i) middle new → Appends token old new (Plain i)
plain_appends old middle new i k begins p q = coded (Immediates i) (λ b. token.text b (Plain i)) k old middle new begins.spells p q

else_text : token.text (0x05 ∷ []) Else
unfolding token control_at
else_text = (0x05, 0x05 ∷ [], [], refl, refl, (refl, refl))

end_text : token.text (0x0B ∷ []) End
unfolding token control_at
end_text = (0x0B, 0x0B ∷ [], [], refl, refl, (refl, refl))

-- an instruction that holds no code is one token
pub plain_instr : (old new : List ℕ) (i : Instr1) → Appends token old new (Plain i) → AppendsInstr old new i
plain_instr old new i p = appends_to (λ b. token.text b (Plain i)) (Spelling (nesting.Flat has_arms build i)) old new
    (λ b h. record { tokens = Plain i ∷ []; flat = plain i; spelled = tokens_one token b (Plain i) h }) p

-- the end behind code
ended : (old new : List ℕ) → Appends byte old new 0x0B → AppendsBy (λ b. nesting.Tokens token b (End ∷ [])) old new
ended old new p = coded_alone (λ b. nesting.Tokens token b (End ∷ [])) 0x0B old new (tokens_one token (0x0B ∷ []) End end_text) p

pub one_instr : (a b c d : List ℕ) (i : Instr1) (h : Head1) (code : List Instr1) → i ≡ build h code [] → Appends token a b (Open h) → AppendsCode b c code → Appends byte c d 0x0B → AppendsInstr a d i
one_instr a b c d i h code is p q r =
    let e = ended c d r in
    let s = q.spells in
    record {
      bytes = p.bytes ++ (q.bytes ++ e.bytes);
      appended = three a b c d p.bytes q.bytes e.bytes p.appended q.appended e.appended;
      spells = record {
        tokens = Open h ∷ (s.tokens ++ End ∷ []);
        flat = one h code is refl s.flat;
        spelled = (p.bytes, q.bytes ++ e.bytes, refl, p.spells, tokens_append token q.bytes e.bytes s.tokens (End ∷ []) s.spelled e.spells);
      };
    }

pub two_instr : (a b c d e f : List ℕ) (i : Instr1) (h : Head1) (first second : List Instr1) → i ≡ build h first second → has_arms h ≡ true → Appends token a b (Open h) → AppendsCode b c first → Appends byte c d 0x05 → AppendsCode d e second → Appends byte e f 0x0B → AppendsInstr a f i
two_instr a b c d e f i h first second is arms p q m r l =
    let z = ended e f l in
    let mid = coded_alone (λ b. token.text b Else) 0x05 c d else_text m in
    let s = q.spells in
    let u = r.spells in
    let back : nesting.Tokens token (mid.bytes ++ (r.bytes ++ z.bytes)) (Else ∷ (u.tokens ++ End ∷ [])) =
    (mid.bytes, r.bytes ++ z.bytes, refl, mid.spells, tokens_append token r.bytes z.bytes u.tokens (End ∷ []) u.spelled z.spells) in
    record {
      bytes = p.bytes ++ (q.bytes ++ (mid.bytes ++ (r.bytes ++ z.bytes)));
      appended = three a b c f p.bytes q.bytes (mid.bytes ++ (r.bytes ++ z.bytes)) p.appended q.appended (three c d e f mid.bytes r.bytes z.bytes mid.appended r.appended z.appended);
      spells = record {
        tokens = Open h ∷ (s.tokens ++ Else ∷ (u.tokens ++ End ∷ []));
        flat = two h first second is refl arms s.flat u.flat;
        spelled = (p.bytes, q.bytes ++ (mid.bytes ++ (r.bytes ++ z.bytes)), refl, p.spells, tokens_append token q.bytes (mid.bytes ++ (r.bytes ++ z.bytes)) s.tokens (Else ∷ (u.tokens ++ End ∷ [])) s.spelled back);
      };
    }

-- no code, and one instruction more
pub code_none : (old : List ℕ) → AppendsCode old old []
code_none old = appends_nothing (Spelling (nesting.Flats has_arms build [])) old (record { tokens = []; flat = none; spelled = refl })

pub code_more : (a b c : List ℕ) (code : List Instr1) (i : Instr1) → AppendsCode a b code → AppendsInstr b c i → AppendsCode a c (code ++ i ∷ [])
code_more a b c code i p q =
    let s = p.spells in
    let u = q.spells in
    record {
      bytes = p.bytes ++ q.bytes;
      appended = two_bytes a b c p.bytes q.bytes p.appended q.appended;
      spells = record {
        tokens = s.tokens ++ u.tokens;
        flat = flats_append has_arms build code (i ∷ []) s.tokens u.tokens s.flat (flats_one has_arms build i u.tokens u.flat);
        spelled = tokens_append token p.bytes q.bytes s.tokens u.tokens s.spelled u.spelled;
      };
    }

pub expr_appends : (a b c : List ℕ) (code : List Instr1) → AppendsCode a b code → Appends byte b c 0x0B → Appends expr a c code
unfolding expr nested_expr
expr_appends a b c code p q =
    let e = ended b c q in
    let s = p.spells in
    record {
      bytes = p.bytes ++ e.bytes;
      appended = two_bytes a b c p.bytes e.bytes p.appended e.appended;
      spells = (s.tokens, s.flat, tokens_append token p.bytes e.bytes s.tokens (End ∷ []) s.spelled e.spells);
    }
