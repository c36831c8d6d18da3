-- A binary format as a form with two faces. The grammar that a reader of this repository believes is `text`:
-- which bytes spell which value. `read` takes the value at the front of some bytes, and leaves the bytes after it.
-- The numbers of a list are bytes wherever the list is a slice of the program.
-- `Exact` says that the two agree. A format is written by the combinators below, and never by its faces, so that
-- its exactness is one search: `exact_f = search (exact_rules, exact_g, ..) depth 12`, with the forms that it names.
use Rattle.std.specs.Prelude.{◌≡◌, ℕ, zero, suc, List, [], ◌∷◌, ◌++◌, length, take, drop, Bool, true, false, nat_lt, if◌then◌else◌, Option, Some, None, option_and_then}

pub record Form (X : Type 0) : Type 1 where
  pub text : List ℕ → X → Type 0
  pub read : List ℕ → Option (X × List ℕ)

-- the first of two facts where a test holds, and the second where it does not
abbrev pub Chosen : Bool → Type 0 → Type 0 → Type 0
Chosen true P Q = P
Chosen false P Q = Q

-- no bytes spell anything
abbrev pub never : {X : Type 0} → Form X
never = record { text = λ b y. ⊥; read = λ b. None }

-- no bytes at all spell this value, and nothing else
abbrev pub always : {X : Type 0} → X → Form X
always x = record { text = λ b y. (b ≡ []) × (y ≡ x); read = λ b. Some (x, b) }

abbrev pub first : List ℕ → Option (ℕ × List ℕ)
first [] = None
first (n ∷ rest) = Some (n, rest)

-- one byte, which spells itself
abbrev pub byte : Form ℕ
byte = record { text = λ b n. b ≡ n ∷ []; read = first }

-- a number of bytes, which spell themselves
abbrev pub raw : ℕ → Form (List ℕ)
raw n = record {
  text = λ b bytes. (b ≡ bytes) × (length bytes ≡ n);
  read = λ b. if nat_lt (length b) n then None else Some (take n b, drop n b);
}

-- the first form where a test holds, and the second where it does not
abbrev pub when : {X : Type 0} → Bool → Form X → Form X → Form X
when test f g = record {
  text = λ b x. Chosen test (f.text b x) (g.text b x);
  read = λ b. if test then f.read b else g.read b;
}

-- one form, and behind it another that may depend on the value of the first
infixl 10 ◌>>=◌
abbrev pub ◌>>=◌ : {X Y : Type 0} → Form X → (X → Form Y) → Form Y
f >>= g = record {
  text = λ b y. (x : _) × (t : List ℕ) × (u : List ℕ) × (b ≡ t ++ u) × f.text t x × (g x).text u y;
  read = λ b. option_and_then (λ p. (g p.0).read p.1) (f.read b);
}

-- so many of one form, one after the other
abbrev pub many : {X : Type 0} → Form X → ℕ → Form (List X)
many f zero = always []
many f (suc n) = f >>= λ x. many f n >>= λ xs. always (x ∷ xs)

-- a count, and so many of one form
abbrev pub vector : {X : Type 0} → Form ℕ → Form X → Form (List X)
vector count f = count >>= λ n. many f n
