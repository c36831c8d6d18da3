-- What a stage of lowering says of a run: the events, the answers to growths, and that a by-reference clause took an
-- exception.
use Rattle.std.specs.Prelude.{◌≡◌, ℕ, ◌+◌, Bool, true, if◌then◌else◌, nat_lt, List, [], ◌∷◌}
use Rattle.host_kit.specs.Trace.{Mark, Shows, Grown, Captured, cut}
use Rattle.host_kit.specs.declared.event.Event.{Event}
use Rattle.host_kit.specs.declared.event.Event.TheVariants.{Full}

pub data Sight : Type 0 where
  -- an event that the host sees
  Told : Event → Sight
  -- the answer to a growth
  Answered : Bool → Sight
  -- a by-reference clause took an exception
  Took : Sight

-- a trace without the sizes of memories and tables
abbrev pub view : List Mark → List Sight
view [] = []
view (Shows e ∷ marks) = Told e ∷ view marks
view (Grown ok sizes ∷ marks) = Answered ok ∷ view marks
view (Captured ∷ marks) = Took ∷ view marks

-- the answers alone; how many exceptions were taken by reference; what is seen beside these
abbrev pub answers_of : List Sight → List Bool
answers_of [] = []
answers_of (Told e ∷ more) = answers_of more
answers_of (Answered ok ∷ more) = ok ∷ answers_of more
answers_of (Took ∷ more) = answers_of more

abbrev pub taken : List Sight → ℕ
taken [] = 0
taken (Told e ∷ more) = taken more
taken (Answered ok ∷ more) = taken more
taken (Took ∷ more) = taken more + 1

abbrev pub untaken : List Sight → List Sight
untaken [] = []
untaken (Told e ∷ more) = Told e ∷ untaken more
untaken (Answered ok ∷ more) = Answered ok ∷ untaken more
untaken (Took ∷ more) = untaken more

-- without what was taken, where a stage removes exceptions
abbrev pub kept : Bool → List Sight → List Sight
kept removes sights = if removes then untaken sights else sights

-- a map of events: what was answered and taken stays, and nothing follows a full store of captured exceptions
abbrev pub told : Event → List Sight → List Sight
told Full more = Told Full ∷ []
told e more = Told e ∷ more

abbrev pub apply : (Event → Event) → List Sight → List Sight
apply u [] = []
apply u (Told e ∷ more) = told (u e) (apply u more)
apply u (Answered ok ∷ more) = Answered ok ∷ apply u more
apply u (Took ∷ more) = Took ∷ apply u more

-- each event passes a test, up to the first that becomes a full store, which passes it too
abbrev pub UnlessFull : Event → Type 0 → Type 0
UnlessFull Full Fact = Unit {0}
UnlessFull _ Fact = Fact

abbrev pub Passes : (Event → Bool) → (Event → Event) → List Sight → Type 0
Passes test u [] = Unit {0}
Passes test u (Told e ∷ more) = (test e ≡ true) × UnlessFull (u e) (Passes test u more)
Passes test u (Answered ok ∷ more) = Passes test u more
Passes test u (Took ∷ more) = Passes test u more

-- what comes before the capture for which there is no room, where k were made before and there is room for so many
abbrev pub before_from : ℕ → ℕ → List Sight → List Sight
before_from captures k [] = []
before_from captures k (Told e ∷ more) = Told e ∷ before_from captures k more
before_from captures k (Answered ok ∷ more) = Answered ok ∷ before_from captures k more
before_from captures k (Took ∷ more) = if nat_lt k captures then Took ∷ before_from captures (k + 1) more else []

abbrev pub before_full : ℕ → List Sight → List Sight
before_full captures sights = before_from captures 0 sights

-- what comes before the first growth to sizes for which there is no room and before the first such capture
abbrev pub safe : (List ℕ → Bool) → ℕ → List Mark → List Sight
safe permits captures marks = view (cut permits (λ k. nat_lt k captures) 0 marks)
