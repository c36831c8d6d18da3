-- Writers compose as their forms do.
use Rattle.std.proofs.Common.{◌≡◌, ℕ, zero, suc, List, [], ◌∷◌, ◌++◌, Some, refl, sym, ap, ◌∙◌, append_assoc}
use Rattle.std.proofs.lemmas.List.{append-nil}
use Rattle.std.specs.Prelude.{Result, Ok, Err, OnOk, Option}
use Rattle.grammar_kit.specs.Form.{Form, always, ◌>>=◌, many}
use Rattle.grammar_kit.specs.Choice.{given}
use Rattle.core1_bytes.specs.Appends.{AppendsBy, Appends, Both}

-- a fact on success that follows from another one
pub on_ok : {A E P Q : Type 0} (r : Result A E) → OnOk r P → (P → Q) → OnOk r Q
on_ok (Ok x) h f = f h
on_ok (Err e) h f = tt

pub appends_to : (P Q : List ℕ → Type 0) (old new : List ℕ) → ((b : List ℕ) → P b → Q b) → AppendsBy P old new → AppendsBy Q old new
appends_to P Q old new f p = record { bytes = p.bytes; appended = p.appended; spells = f p.bytes p.spells }

-- nothing is appended
pub appends_nothing : (P : List ℕ → Type 0) (old : List ℕ) → P [] → AppendsBy P old old
appends_nothing P old h = record { bytes = []; appended = sym (append-nil old); spells = h }

pub appends_both : (P Q : List ℕ → Type 0) (old middle new : List ℕ) → AppendsBy P old middle → AppendsBy Q middle new → AppendsBy (Both P Q) old new
appends_both P Q old middle new p q = record {
  bytes = p.bytes ++ q.bytes;
  appended = q.appended ∙ ap (λ (u : List ℕ). u ++ q.bytes) p.appended ∙ append_assoc old p.bytes q.bytes;
  spells = (p.bytes, q.bytes, refl, p.spells, q.spells);
}

-- a form that ends with a value made of the one before
pub mapped : {X Y : Type 0} (f : Form X) (g : X → Y) (b : List ℕ) (x : X) → f.text b x → (f >>= λ x. always (g x)).text b (g x)
mapped f g b x h = (x, b, [], sym (append-nil b), h, (refl, refl))

pub bound : {X Y : Type 0} (f : Form X) (g : X → Form Y) (t u : List ℕ) (x : X) (y : Y) → f.text t x → (g x).text u y → (f >>= g).text (t ++ u) y
bound f g t u x y h k = (x, t, u, refl, h, k)

pub appends_bind : {X Y : Type 0} (f : Form X) (g : X → Form Y) (old middle new : List ℕ) (x : X) (y : Y) → Appends f old middle x → Appends (g x) middle new y → Appends (f >>= g) old new y
appends_bind f g old middle new x y p q = record {
  bytes = p.bytes ++ q.bytes;
  appended = q.appended ∙ ap (λ (u : List ℕ). u ++ q.bytes) p.appended ∙ append_assoc old p.bytes q.bytes;
  spells = bound f g p.bytes q.bytes x y p.spells q.spells;
}

pub appends_map : {X Y : Type 0} (f : Form X) (g : X → Y) (old new : List ℕ) (x : X) → Appends f old new x → Appends (f >>= λ x. always (g x)) old new (g x)
appends_map f g old new x p = appends_to (λ b. f.text b x) (λ b. (f >>= λ x. always (g x)).text b (g x)) old new (λ b h. mapped f g b x h) p

-- a form that ends with a value that a table has for the one before
pub found : {X Y : Type 0} (f : Form X) (g : X → Option Y) (b : List ℕ) (x : X) (y : Y) → g x ≡ Some y → f.text b x → (f >>= λ x. given (g x)).text b y
found f g b x y e h = (x, b, [], sym (append-nil b), h, rw e (refl, refl))

pub many_more : {X : Type 0} (f : Form X) (n : ℕ) (t u : List ℕ) (xs : List X) (x : X) → (many f n).text t xs → f.text u x → (many f (suc n)).text (t ++ u) (xs ++ x ∷ [])
many_more f zero t u xs x h k = rw (h.0, h.1) (x, u, [], sym (append-nil u), k, ([], [], [], refl, (refl, refl), (refl, refl)))
many_more f (suc n) t u xs x h k =
    let r = h.5 in
    let front : t ≡ h.1 ++ r.1 = h.3 ∙ ap (λ (v : List ℕ). h.1 ++ v) (r.3 ∙ ap (λ (v : List ℕ). r.1 ++ v) r.5.0 ∙ append-nil r.1) in
    let whole : t ++ u ≡ h.1 ++ (r.1 ++ u) = ap (λ (v : List ℕ). v ++ u) front ∙ append_assoc h.1 r.1 u in
    (h.0, h.1, r.1 ++ u, whole, h.4, (r.0 ++ x ∷ [], r.1 ++ u, [], sym (append-nil (r.1 ++ u)), many_more f n r.1 u r.0 x r.4 k, (refl, ap (λ (v : List _). v ++ x ∷ []) r.5.1)))

-- one value more behind others
pub appends_more : {X : Type 0} (f : Form X) (n : ℕ) (old middle new : List ℕ) (xs : List X) (x : X) → Appends (many f n) old middle xs → Appends f middle new x → Appends (many f (suc n)) old new (xs ++ x ∷ [])
appends_more f n old middle new xs x p q = record {
  bytes = p.bytes ++ q.bytes;
  appended = q.appended ∙ ap (λ (u : List ℕ). u ++ q.bytes) p.appended ∙ append_assoc old p.bytes q.bytes;
  spells = many_more f n p.bytes q.bytes xs x p.spells q.spells;
}
