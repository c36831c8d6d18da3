-- A file that is created and then grows piece by piece.
use Rattle.std.proofs.Common.{ℕ, List, [], ◌++◌, ◌∙◌, append_assoc}
use Rattle.std.specs.Prelude.{Option, Some, None, IfSome, IsSomeAnd}
use Rattle.tool_files.specs.Held.{Contents, Created, nothing, unnamed, named, Sets, Grows, Chooses, WhereTold}

-- a file that had these bytes grows
grows_from : (held mid : Contents) (new : Option Contents) (name had more : List ℕ) → Sets (Some held) (Some mid) name had → IfSome (mid name) (λ h. Sets (Some mid) new name (h ++ more)) → Sets (Some held) new name (had ++ more)
grows_from held mid None name had more first second = tt
grows_from held mid (Some now) name had more first second =
    let grown : Sets (Some mid) (Some now) name (had ++ more) = rw first.0 at second in
    (grown.0, λ other apart. grown.1 other apart ∙ first.1 other apart)

grows_named : (held : Contents) (mid new : Option Contents) (name p q : List ℕ) (had : Option (List ℕ)) → IfSome had (λ h. Sets (Some held) mid name (h ++ p)) → Grows mid new (named name) q → IfSome had (λ h. Sets (Some held) new name (h ++ (p ++ q)))
grows_named held mid new name p q None first second = tt
grows_named held None new name p q (Some h) first second = rw second tt
grows_named held (Some mid) new name p q (Some h) first second =
    rw (← append_assoc h p q) (grows_from held mid new name (h ++ p) q first second)

-- two pieces, one after the other
pub Grows-append : (old mid new : Option Contents) (created : Created) (p q : List ℕ) → Grows old mid created p → Grows mid new created q → Grows old new created (p ++ q)
Grows-append None mid new created p q first second = rw first at second
Grows-append (Some held) mid new nothing p q first second = tt
Grows-append (Some held) mid new unnamed p q first second = tt
Grows-append (Some held) mid new (named name) p q first second = grows_named held mid new name p q (held name) first second

-- a file that was created has what was written since
pub Sets-from_created : (old mid new : Option Contents) (name bytes : List ℕ) (created : Created) → Sets old mid name [] → Chooses mid name created → Grows mid new created bytes → Sets old new name bytes
Sets-from_created None mid new name bytes created first chosen second = rw first at second
Sets-from_created (Some held) None new name bytes created first chosen second = rw second tt
Sets-from_created (Some held) (Some mid) new name bytes created first chosen second =
    grows_from held mid new name [] bytes first (rw chosen at second)

some_and : (o : Option (List ℕ)) (P Q : List ℕ → Type 0) → ((bytes : List ℕ) → P bytes → Q bytes) → IsSomeAnd o P → IsSomeAnd o Q
some_and None P Q f h = h
some_and (Some bytes) P Q f h = f bytes h

-- what holds of a file's bytes, from what else holds of them
pub where_told : (known : Option Contents) (name : List ℕ) (P Q : List ℕ → Type 0) → ((bytes : List ℕ) → P bytes → Q bytes) → WhereTold known name P → WhereTold known name Q
where_told None name P Q f h = tt
where_told (Some held) name P Q f h = some_and (held name) P Q f h
