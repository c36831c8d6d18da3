-- Known bytes that grow piece by piece.
use Rattle.std.proofs.Common.{◌≡◌, ℕ, ◌+◌, ◌≤◌, List, [], ◌++◌, length, take, drop, sym, ◌∙◌, ap, append_assoc, subst, inl, inr, arith}
use Rattle.std.proofs.Math.Seq.{take-add}
use Rattle.std.proofs.lemmas.List.{append-nil, take-append-drop, take_all, take_at}
use Rattle.std.specs.Prelude.{Option, Some, None, Result, Ok, Err, IfSome, IsSomeAnd, OnOk, OnErr}
use Rattle.std.specs.Io.KnownBytes.{Appends, Consumes, IsAtEnd, Keeps}
use Rattle.module_reading.specs.Limits.{file_limit}
use Rattle.tool_files.specs.Causes.{HasCause}
use Rattle.tool_files.specs.Held.{Contents, Opens}
use Rattle.lower_tool.specs.Inputs.{TakesInput, front}
use Rattle.lower_tool.specs.Statuses.{IsFrontOf, AppendsFront, Prints, TakesWithinLimit}
use Rattle.lower_tool.specs.Words.{Command, input_of, script_of}

-- the first bytes of a text are a front of it
pub IsFrontOf-take : (n : ℕ) (text : List ℕ) → IsFrontOf (take n text) text
IsFrontOf-take n text = (drop n text, sym (take-append-drop n text))

-- the front of a list, and then the front of the rest
pub append-take : (old text : List ℕ) (done n : ℕ) → (old ++ take done text) ++ take n (drop done text) ≡ old ++ take (done + n) text
append-take old text done n =
    append_assoc old (take done text) (take n (drop done text)) ∙ ap (λ xs. old ++ xs) (sym (take-add done n text))

-- two pieces of a text that follow one another
pub Appends-take : (old mid new : Option (List ℕ)) (text : List ℕ) (done n : ℕ) → Appends old mid (take done text) → Appends mid new (take n (drop done text)) → Appends old new (take (done + n) text)
Appends-take None mid new text done n first second = tt
Appends-take (Some x) None new text done n first second = absurd first
Appends-take (Some x) (Some y) None text done n first second = absurd second
Appends-take (Some x) (Some y) (Some z) text done n first second =
    second ∙ ap (λ xs. xs ++ take n (drop done text)) first ∙ append-take x text done n

-- what stays after it grew
pub Appends-keeps : (old mid new : Option (List ℕ)) (bytes : List ℕ) → Appends old mid bytes → Keeps mid new → Appends old new bytes
Appends-keeps None mid new bytes first second = tt
Appends-keeps (Some x) None new bytes first second = absurd first
Appends-keeps (Some x) (Some y) None bytes first second = absurd second
Appends-keeps (Some x) (Some y) (Some z) bytes first second = second ∙ first

-- two pieces that were taken one after the other
pub Consumes-append : (old mid new : Option (List ℕ)) (xs ys : List ℕ) → Consumes old mid xs → Consumes mid new ys → Consumes old new (xs ++ ys)
Consumes-append None mid new xs ys first second = tt
Consumes-append (Some a) None new xs ys first second = absurd first
Consumes-append (Some a) (Some b) None xs ys first second = absurd second
Consumes-append (Some a) (Some b) (Some c) xs ys first second =
    first ∙ ap (λ zs. xs ++ zs) second ∙ sym (append_assoc xs ys c)

-- a front, and then the rest of the text
pub Appends-append : (old mid new : Option (List ℕ)) (text more : List ℕ) → Appends old mid text → Appends mid new more → Appends old new (text ++ more)
Appends-append None mid new text more first second = tt
Appends-append (Some x) None new text more first second = absurd first
Appends-append (Some x) (Some y) None text more first second = absurd second
Appends-append (Some x) (Some y) (Some z) text more first second = second ∙ (ap (λ xs. xs ++ more) first ∙ append_assoc x text more)

-- a front of a text is one of a longer text
pub AppendsFront-more : (old new : Option (List ℕ)) (text more : List ℕ) → AppendsFront old new text → AppendsFront old new (text ++ more)
AppendsFront-more old new text more h =
    (h.0, (h.1.0 ++ more, ap (λ xs. xs ++ more) h.1.1 ∙ append_assoc h.0 h.1.0 more), h.2)

pub AppendsFront-after : (old mid new : Option (List ℕ)) (text more : List ℕ) → Appends old mid text → AppendsFront mid new more → AppendsFront old new (text ++ more)
AppendsFront-after old mid new text more first h =
    (text ++ h.0, (h.1.0, ap (λ xs. text ++ xs) h.1.1 ∙ sym (append_assoc text h.0 h.1.0)), Appends-append old mid new text h.0 first h.2)

-- ---- what is read of a file

pub Consumes-front : (left now : Option (List ℕ)) (taken : List ℕ) → Consumes left now taken → length taken ≡ file_limit + 1 → IfSome left (λ l. taken ≡ front l)
Consumes-front None now taken h e = tt
Consumes-front (Some l) None taken h e = absurd h
Consumes-front (Some l) (Some n) taken h e = sym (ap front h ∙ take_at taken n (file_limit + 1) e)

ended : (left now : Option (List ℕ)) (taken : List ℕ) → Consumes left now taken → IsAtEnd now → length taken ≤ file_limit → IfSome left (λ l. taken ≡ front l)
ended None now taken h e within = tt
ended (Some l) None taken h e within = absurd h
ended (Some l) (Some n) taken h e within =
    sym (ap front h ∙ (ap (λ xs. front (taken ++ xs)) e ∙ (ap front (append-nil taken) ∙ take_all (file_limit + 1) taken (omega (arith, within)))))

-- the file has ended where nothing more was taken of it
pub Consumes-end : (left mid now : Option (List ℕ)) (taken piece : List ℕ) (count : ℕ) → Consumes left mid taken → Consumes mid now (take count piece) → count ≡ 0 → IsAtEnd now → length taken ≤ file_limit → IfSome left (λ l. taken ≡ front l)
Consumes-end left mid now taken piece count first second none at_end within =
    let all : Consumes left now (taken ++ take count piece) = Consumes-append left mid now taken (take count piece) first second in
    let same : taken ++ take count piece ≡ taken = ap (λ n. taken ++ take n piece) none ∙ append-nil taken in
    ended left now taken (subst (Consumes left now) same all) at_end within

-- what was taken of a file that was opened
pub opened_taken : (known : Option Contents) (name : List ℕ) (left now : Option (List ℕ)) → Opens known name left → TakesWithinLimit left now → IfSome known (λ held. TakesWithinLimit (held name) now)
opened_taken None name left now opens takes = tt
opened_taken (Some held) name left now opens takes = subst (λ l. TakesWithinLimit l now) opens takes

-- what was taken of one of the files of a command
pub module_taken : (known : Option Contents) (command : Command) (name : List ℕ) (left now : Option (List ℕ)) → name ≡ input_of command → left ≡ now → IfSome known (λ held. TakesWithinLimit (held name) left) → IfSome known (λ held. TakesInput held command now)
module_taken None command name left now named same takes = tt
module_taken (Some held) command name left now named same takes =
    inl (subst (λ n. TakesWithinLimit (held n) now) named (subst (λ l. TakesWithinLimit (held name) l) same takes))

of_script : (held : Contents) (script : Option (List ℕ)) (name : List ℕ) (now : Option (List ℕ)) → Some name ≡ script → TakesWithinLimit (held name) now → IsSomeAnd script (λ s. TakesWithinLimit (held s) now)
of_script held script name now named takes = subst (λ s. IsSomeAnd s (λ n. TakesWithinLimit (held n) now)) named takes

pub script_taken : (known mid : Option Contents) (command : Command) (name : List ℕ) (left now : Option (List ℕ)) → mid ≡ known → Some name ≡ script_of command → left ≡ now → IfSome mid (λ held. TakesWithinLimit (held name) left) → IfSome known (λ held. TakesInput held command now)
script_taken known None command name left now told named same takes = rw (← told) tt
script_taken known (Some held) command name left now told named same takes =
    rw (← told) (inr (of_script held (script_of command) name now named (subst (λ l. TakesWithinLimit (held name) l) same takes)))

-- what holds anyway holds at a failure
pub OnErr-anyway : {T E P : Type 0} → (r : Result T E) → P → OnErr r P
OnErr-anyway (Ok x) h = tt
OnErr-anyway (Err e) h = h

-- a text that is printed until a fault cuts it short
pub prints_from : {E : Type 0} (written now : Option (List ℕ)) (faults faults_now : ℕ) (text : List ℕ) (r : Result (Unit {0}) E) → HasCause faults faults_now r → OnOk r (Appends written now text) → OnErr r (AppendsFront written now text) → Prints written now faults faults_now text
prints_from written now faults faults_now text (Ok done) cause whole cut =
    record { part = text; is_front = ([], sym (append-nil text)); appends = whole; whole = λ calm. whole }
prints_from written now faults faults_now text (Err fault) cause whole cut =
    record { part = cut.0; is_front = cut.1; appends = cut.2; whole = λ calm. absurd (calm cause.failed) }
