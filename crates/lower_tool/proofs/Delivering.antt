-- What a command has made, handed out.
use Rattle.std.proofs.Common.{◌≡◌, ℕ, List, [], ◌∷◌, Bool, true, false, refl, ap, sym, ◌∙◌, subst, get_or, arith}
use Rattle.std.proofs.lemmas.Fmt.{decimal_injective}
use Rattle.std.specs.Fmt.{decimal}
use Rattle.std.specs.Prelude.{◌<◌, ◌^◌, map, Option, None, Some, IfSome, option_to_list, codes, bytes_eq, ⊤}
use Rattle.host_kit.specs.Trace.{events}
use Rattle.tool_files.specs.Held.{Contents, Sets, WhereTold}
use Rattle.lower_tool.specs.CommandVerdict.{IsFine}
use Rattle.lower_tool.specs.Inputs.{ToldInputs, WhereInputs, front}
use Rattle.lower_tool.specs.Lowering.{Lowers}
use Rattle.lower_tool.specs.Products.{IsFor, IfFile, IfPrinted, Makes, text_of}
use Rattle.lower_tool.specs.Runs.{Runs, run_text}
use Rattle.lower_tool.specs.Statuses.{Lowered, CutShort, LeavesFront, line}
use Rattle.wasm_frame.specs.declared.sections.Version.{Version}
use Rattle.wasm_frame.specs.declared.sections.Version.TheVariants.{One, Three}
use Rattle.lower_tool.specs.Words.{Command, lower, check, run, Say, run_word, captures_of, IsRoom, IsPrinting}
use Rattle.lower_tool.specs.declared.tool.product.Product.{Product}
use Rattle.lower_tool.specs.declared.tool.product.Product.TheVariants.{File, Fine, Run}
use Rattle.lower_tool.proofs.Inputs.{makes_front, where_inputs, apart_inputs}
use Rattle.lower_tool.proofs.Refusals.{runs_map}

-- ---- words are one command at most

-- whether the first word is this one
abbrev begins : List ℕ → List (List ℕ) → Bool
begins first [] = false
begins first (word ∷ rest) = bytes_eq word first

both : {words a b : List (List ℕ)} → words ≡ a → words ≡ b → a ≡ b
both h k = sym h ∙ k

apart : true ≡ false → ⊥
apart h = absurd cc

one_run_word : (v w : Version) → run_word v ≡ run_word w → v ≡ w
one_run_word One One h = refl
one_run_word One Three h = absurd (apart (ap (bytes_eq (codes "run1")) h))
one_run_word Three One h = absurd (apart (ap (bytes_eq (codes "run3")) h))
one_run_word Three Three h = refl

below : (n : ℕ) → IsRoom n → n < 2 ^ 64
below n h = omega (arith, h.1)

one_room : (first input output : List ℕ) (r s : Option ℕ) → IfSome r IsRoom → IfSome s IsRoom → first ∷ input ∷ output ∷ map decimal (option_to_list r) ≡ first ∷ input ∷ output ∷ map decimal (option_to_list s) → r ≡ s
one_room first input output None None h k e = refl
one_room first input output None (Some n) h k e = absurd cc
one_room first input output (Some n) None h k e = absurd cc
one_room first input output (Some n) (Some o) h k e =
    ap Some (decimal_injective n o (below n h) (below o k) (ap (λ (w : List (List ℕ)). get_or w 3 []) e))

-- commands of different first words
lower_check : (words : List (List ℕ)) (input output other : List ℕ) (room : Option ℕ) (v : Version) → Say words (lower input output room) → Say words (check v other) → ⊥
lower_check words input output other room One h k = apart (ap (begins (codes "lower")) (both h.1 k))
lower_check words input output other room Three h k = apart (ap (begins (codes "lower")) (both h.1 k))

lower_run : (words : List (List ℕ)) (input output other script : List ℕ) (room : Option ℕ) (v : Version) (turns : ℕ) → Say words (lower input output room) → Say words (run v other script turns) → ⊥
lower_run words input output other script room One turns h k = apart (ap (begins (codes "lower")) (both h.1 k.1))
lower_run words input output other script room Three turns h k = apart (ap (begins (codes "lower")) (both h.1 k.1))

check_run : (words : List (List ℕ)) (input other script : List ℕ) (v w : Version) (turns : ℕ) → Say words (check v input) → Say words (run w other script turns) → ⊥
check_run words input other script One w turns h k = let e = both h k.1 in absurd cc
check_run words input other script Three w turns h k = let e = both h k.1 in absurd cc

pub one_command : (words : List (List ℕ)) (c d : Command) → Say words c → Say words d → c ≡ d
one_command words (lower input output r) (lower other result s) h k =
    let e = both h.1 k.1 in
    let inputs : input ≡ other = ap (λ (w : List (List ℕ)). get_or w 1 []) e in
    let outputs : output ≡ result = ap (λ (w : List (List ℕ)). get_or w 2 []) e in
    let same : r ≡ s = one_room (codes "lower") other result r s h.0 k.0 (rw (inputs, outputs) at e) in
    cc
one_command words (lower input output r) (check v other) h k = absurd (lower_check words input output other r v h k)
one_command words (lower input output r) (run v other script turns) h k = absurd (lower_run words input output other script r v turns h k)
one_command words (check v input) (lower other result r) h k = absurd (lower_check words other result input r v k h)
one_command words (check One input) (check One other) h k = let e = both h k in cc
one_command words (check One input) (check Three other) h k = absurd (apart (ap (begins (codes "check1")) (both h k)))
one_command words (check Three input) (check One other) h k = absurd (apart (ap (begins (codes "check3")) (both h k)))
one_command words (check Three input) (check Three other) h k = let e = both h k in cc
one_command words (check v input) (run w other script turns) h k = absurd (check_run words input other script v w turns h k)
one_command words (run v input script turns) (lower other result r) h k = absurd (lower_run words other result input script r v turns k h)
one_command words (run v input script turns) (check w other) h k = absurd (check_run words other input script w v turns k h)
one_command words (run v input script turns) (run w other second number) h k =
    let e = both h.1 k.1 in
    let version : v ≡ w = one_run_word v w (ap (λ (w : List (List ℕ)). get_or w 0 []) e) in
    let same : turns ≡ number = decimal_injective turns number h.0 k.0 (ap (λ (w : List (List ℕ)). get_or w 3 []) e) in
    cc

-- the same of words that are the same
pub same_command : (slice words : List (List ℕ)) (c d : Command) → slice ≡ words → Say slice c → Say words d → c ≡ d
same_command slice words c d e h k = one_command words c d (subst (λ (w : List (List ℕ)). Say w c) e h) k

-- ---- what was made

-- what is known of what was made, and of the files that were read
pub record Made (command : Command) (known : Option Contents) (product : Product) : Type 0 where
  pub is_for : IsFor command product
  pub makes : WhereInputs known command (λ b t. Makes command b t product)

-- what was made of what was read was made of the files
pub made_of_inputs : (known : Option Contents) (command : Command) (bytes text : List ℕ) (product : Product) → WhereInputs known command (λ b t. (bytes ≡ front b) × (text ≡ front t)) → Makes command bytes text product → WhereInputs known command (λ b t. Makes command b t product)
made_of_inputs known command bytes text product whole makes =
    where_inputs known command (λ b t. (bytes ≡ front b) × (text ≡ front t)) (λ b t. Makes command b t product)
    (λ b t same. makes_front command b t product (rw (same.0, same.1) at makes)) whole

fine_of : (command : Command) (product : Product) (b t : List ℕ) → IsFor command product → Makes command b t product → IsFine command b t
fine_of (lower input output room) product b t is makes = makes.0
fine_of (check v input) product b t is makes = makes
fine_of (run v input script turns) (Run shown) b t is makes = runs_map v b t (λ marks. text_of shown ≡ run_text (events (marks turns))) (λ marks. ⊤) (λ marks h. tt) makes
fine_of (run v input script turns) Fine b t is makes = absurd is
fine_of (run v input script turns) (File name written) b t is makes = absurd is

-- it is made of inputs that are fine
pub made_fine : (command : Command) (known : Option Contents) (product : Product) → Made command known product → ToldInputs known command (λ b t. ¬ IsFine command b t) → ⊥
made_fine command known product made told =
    apart_inputs known command (λ b t. Makes command b t product) (λ b t. ¬ IsFine command b t) (λ b t makes none. none (fine_of command product b t made.is_for makes)) made.makes told

-- ---- of `lower`

pub lowers : (known now : Option Contents) (input output : List ℕ) (room : Option ℕ) (product : Product) → Made (lower input output room) known product → IfFile product (Sets known now) → Lowered known now (Lowers (captures_of room)) input output
lowers known now input output room (File name written) made sets =
    record { lowered = written; lowers = made.makes; sets = subst (λ (n : List ℕ). Sets known now n written) made.is_for sets }
lowers known now input output room Fine made sets = absurd made.is_for
lowers known now input output room (Run shown) made sets = absurd made.is_for

pub cuts : (known now : Option Contents) (input output : List ℕ) (room : Option ℕ) (product : Product) → Made (lower input output room) known product → IfFile product (LeavesFront known now) → CutShort known now input output (captures_of room)
cuts known now input output room (File name written) made leaves =
    record { lowered = written; lowers = made.makes; leaves = subst (λ (n : List ℕ). LeavesFront known now n written) made.is_for leaves }
cuts known now input output room Fine made leaves = absurd made.is_for
cuts known now input output room (Run shown) made leaves = absurd made.is_for

-- a fact on the file that was made
pub of_file : (known : Option Contents) (input output : List ℕ) (room : Option ℕ) (product : Product) (P : Type 0) → Made (lower input output room) known product → IfFile product (λ name written. P) → P
of_file known input output room (File name written) P made h = h
of_file known input output room Fine P made h = absurd made.is_for
of_file known input output room (Run shown) P made h = absurd made.is_for

-- ---- of commands that print

-- a fact that does not depend on the text
pub of_printing : (command : Command) (known : Option Contents) (product : Product) (P : Type 0) → IsPrinting command → Made command known product → IfPrinted product (λ text. P) → P
of_printing (lower input output room) known product P prints made h = absurd prints
of_printing (check v input) known Fine P prints made h = h
of_printing (check v input) known (File name written) P prints made h = absurd made.is_for
of_printing (check v input) known (Run shown) P prints made h = absurd made.is_for
of_printing (run v input script turns) known (Run shown) P prints made h = h
of_printing (run v input script turns) known Fine P prints made h = absurd made.is_for
of_printing (run v input script turns) known (File name written) P prints made h = absurd made.is_for

pub of_text : (known : Option Contents) (version : Version) (input : List ℕ) (product : Product) (P : List ℕ → Type 0) → Made (check version input) known product → IfPrinted product P → P (line (codes "ok"))
of_text known version input Fine P made h = h
of_text known version input (File name written) P made h = absurd made.is_for
of_text known version input (Run shown) P made h = absurd made.is_for

pub of_run : (known : Option Contents) (version : Version) (input script : List ℕ) (turns : ℕ) (product : Product) (P : List ℕ → Type 0) → Made (run version input script turns) known product → IfPrinted product P → WhereTold known input (λ b. WhereTold known script (λ t. Runs version b t (λ marks. P (run_text (events (marks turns))))))
of_run known version input script turns (Run shown) P made h =
    where_inputs known (run version input script turns) (λ b t. Makes (run version input script turns) b t (Run shown)) (λ b t. Runs version b t (λ marks. P (run_text (events (marks turns)))))
    (λ b t makes. runs_map version b t (λ marks. text_of shown ≡ run_text (events (marks turns))) (λ marks. P (run_text (events (marks turns)))) (λ marks is. subst P is h) makes) made.makes
of_run known version input script turns Fine P made h = absurd made.is_for
of_run known version input script turns (File name written) P made h = absurd made.is_for
