-- What a run leaves behind: events that the host sees, and marks that only definitions see.
use Rattle.std.specs.Prelude.{◌≡◌, ℕ, ◌+◌, List, [], ◌∷◌, ◌++◌, Bool, if◌then◌else◌}
use Rattle.host_kit.specs.declared.event.Event.{Event}

pub data Mark : Type 0 where
  -- an event of the host's
  Shows : Event → Mark
  -- an executed growth: whether it succeeded, and the sizes of all memories and tables after it
  Grown : Bool → List ℕ → Mark
  -- a by-reference catch clause took an exception
  Captured : Mark

-- what a host can see: an event, or the answer to a growth
pub data Seen : Type 0 where
  Told : Event → Seen
  Answered : Bool → Seen

-- the events of a trace
abbrev pub events : List Mark → List Event
events [] = []
events (Shows e ∷ marks) = e ∷ events marks
events (Grown ok sizes ∷ marks) = events marks
events (Captured ∷ marks) = events marks

-- the events and the answers of growths
abbrev pub seen : List Mark → List Seen
seen [] = []
seen (Shows e ∷ marks) = Told e ∷ seen marks
seen (Grown ok sizes ∷ marks) = Answered ok ∷ seen marks
seen (Captured ∷ marks) = seen marks

-- the answers of growths alone
abbrev pub answers : List Seen → List Bool
answers [] = []
answers (Told e ∷ more) = answers more
answers (Answered ok ∷ more) = ok ∷ answers more

-- how many by-reference clauses took an exception
abbrev pub captured : List Mark → ℕ
captured [] = 0
captured (Shows e ∷ marks) = captured marks
captured (Grown ok sizes ∷ marks) = captured marks
captured (Captured ∷ marks) = captured marks + 1

-- the trace before its first growth that is not permitted and its first capture for which there is no room
abbrev pub cut : (List ℕ → Bool) → (ℕ → Bool) → ℕ → List Mark → List Mark
cut permits room k [] = []
cut permits room k (Shows e ∷ marks) = Shows e ∷ cut permits room k marks
cut permits room k (Grown ok sizes ∷ marks) =
    if ok
    then (if permits sizes then Grown ok sizes ∷ cut permits room k marks else [])
    else Grown ok sizes ∷ cut permits room k marks
cut permits room k (Captured ∷ marks) = if room k then Captured ∷ cut permits room (k + 1) marks else []

-- the first list is a front of the second
abbrev pub Begins : {A : Type 0} → List A → List A → Type 0
Begins xs ys = (rest : List _) × (xs ++ rest ≡ ys)
