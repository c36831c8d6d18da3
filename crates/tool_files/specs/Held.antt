-- What an object tells of the files that it holds, and how a call changes it.
use Rattle.std.specs.Prelude.{◌≡◌, ◌≢◌, ℕ, List, ◌++◌, Option, Some, None, IfSome, IsSomeAnd, ⊤}

-- the bytes under each name that is held
abbrev pub Contents : Type 0
Contents = List ℕ → Option (List ℕ)

-- the file that was last created: none, one whose name is not told, or one by its name
pub data Created : Type 0 where
  nothing : Created
  unnamed : Created
  named : List ℕ → Created

-- a file was created
abbrev pub IsCreated : Created → Type 0
IsCreated nothing = ⊥
IsCreated unnamed = ⊤
IsCreated (named name) = ⊤

-- what is held is told, there is a file of this name, and P holds of its bytes
abbrev pub Told : Option Contents → List ℕ → (List ℕ → Type 0) → Type 0
Told known name P = IsSomeAnd known (λ held. IsSomeAnd (held name) P)

-- where what is held is told, there is a file of this name, and P holds of its bytes
abbrev pub WhereTold : Option Contents → List ℕ → (List ℕ → Type 0) → Type 0
WhereTold known name P = IfSome known (λ held. IsSomeAnd (held name) P)

-- what is held is told, and there is no file of this name
abbrev pub IsAbsent : Option Contents → List ℕ → Type 0
IsAbsent known name = IsSomeAnd known (λ held. held name ≡ None)

-- where what is held is told, all of the named file is left to read
abbrev pub Opens : Option Contents → List ℕ → Option (List ℕ) → Type 0
Opens known name left = IfSome known (λ held. left ≡ held name)

-- a file was created, and it is the named one where what is held is told
abbrev pub Chooses : Option Contents → List ℕ → Created → Type 0
Chooses None name created = IsCreated created
Chooses (Some held) name created = created ≡ named name

-- the named file has these bytes, and each other file is as before; telling may end here, and does not begin
abbrev pub Sets : Option Contents → Option Contents → List ℕ → List ℕ → Type 0
Sets None new name bytes = new ≡ None
Sets (Some held) None name bytes = ⊤
Sets (Some held) (Some now) name bytes =
    (now name ≡ Some bytes) × ((other : List ℕ) → other ≢ name → now other ≡ held other)

-- these bytes are appended to the created file, and each other file is as before
abbrev pub Grows : Option Contents → Option Contents → Created → List ℕ → Type 0
Grows None new created bytes = new ≡ None
Grows (Some held) new nothing bytes = ⊤
Grows (Some held) new unnamed bytes = ⊤
Grows (Some held) new (named name) bytes = IfSome (held name) (λ had. Sets (Some held) new name (had ++ bytes))
