-- Forms of JSON trees. A form says what a tree is read as: a value, or the path of the first place that is not of the
-- form, in the order in which the form names its places. A path has a slash before each key or place. All forms of scripts
-- are this project's own.
use Rattle.std.specs.Prelude.{ℕ, ◌+◌, List, [], ◌∷◌, ◌++◌, Bool, false, Option, Some, None, Result, Ok, Err, is_some, nat_eq, nat_lt, if◌then◌else◌, option_and_then}
use Rattle.std.specs.Fmt.{decimal}
use Rattle.serde_json.specs.Data.{Data, Items, no_items, item, Members}
use Rattle.serde_json.specs.Events.{items_len, members_len}
use Rattle.serde_json.specs.Find.{get, at, as_array, as_object, as_number, as_u64}

-- a place that is not of the form is named by the steps to it
abbrev pub below : {A : Type 0} → List ℕ → Result A (List ℕ) → Result A (List ℕ)
below step (Ok x) = Ok x
below step (Err path) = Err (47 ∷ step ++ path)

-- one reading after another: the first that fails names the place
abbrev pub followed : {A B : Type 0} → Result A (List ℕ) → (A → Result B (List ℕ)) → Result B (List ℕ)
followed (Ok x) f = f x
followed (Err path) f = Err path

-- a tree that holds no such value is named itself
abbrev pub or_here : {A : Type 0} → Option A → Result A (List ℕ)
or_here None = Err []
or_here (Some x) = Ok x

-- a number without a sign and without a fraction, below a bound
abbrev pub bounded : ℕ → Option ℕ → Option ℕ
bounded bound None = None
bounded bound (Some n) = if nat_lt n bound then Some n else None

abbrev pub number_form : ℕ → Data → Result ℕ (List ℕ)
number_form bound d = or_here (bounded bound (option_and_then as_u64 (as_number d)))

-- a key that is missing is named by its own path
abbrev pub field_of : {A : Type 0} → (Data → Result A (List ℕ)) → List ℕ → Option Data → Result A (List ℕ)
field_of f key None = Err (47 ∷ key)
field_of f key (Some d) = below key (f d)

abbrev pub field_form : {A : Type 0} → (Data → Result A (List ℕ)) → List ℕ → Data → Result A (List ℕ)
field_form f key d = field_of f key (get key d)

-- a list that lacks a place is named itself
abbrev pub place_of : {A : Type 0} → (Data → Result A (List ℕ)) → ℕ → Option Data → Result A (List ℕ)
place_of f i None = Err []
place_of f i (Some d) = below (decimal i) (f d)

abbrev pub place_form : {A : Type 0} → (Data → Result A (List ℕ)) → ℕ → Data → Result A (List ℕ)
place_form f i d = place_of f i (at i d)

-- a list of any length, each of whose places is of one form
abbrev pub items_form : {A : Type 0} → (Data → Result A (List ℕ)) → ℕ → Items → Result (List A) (List ℕ)
items_form f i no_items = Ok []
items_form f i (item d ds) = followed (below (decimal i) (f d)) (λ x. followed (items_form f (i + 1) ds) (λ xs. Ok (x ∷ xs)))

abbrev pub list_of : {A : Type 0} → (Data → Result A (List ℕ)) → Option Items → Result (List A) (List ℕ)
list_of f None = Err []
list_of f (Some ds) = items_form f 0 ds

abbrev pub list_form : {A : Type 0} → (Data → Result A (List ℕ)) → Data → Result (List A) (List ℕ)
list_form f d = list_of f (as_array d)

-- whether a tree is a list of so many places, or an object of so many members. An object has each key once: one that has
-- all keys of a form and as many members has no other key
abbrev pub items_count : ℕ → Option Items → Bool
items_count n None = false
items_count n (Some ds) = nat_eq (items_len ds) n

abbrev pub has_places : ℕ → Data → Bool
has_places n d = items_count n (as_array d)

abbrev pub has_key : List ℕ → Data → Bool
has_key key d = is_some (get key d)

abbrev pub is_object : Data → Bool
is_object d = is_some (as_object d)

abbrev pub members_count : ℕ → Option Members → Bool
members_count n None = false
members_count n (Some ms) = nat_eq (members_len ms) n

abbrev pub has_members : ℕ → Data → Bool
has_members n d = members_count n (as_object d)

-- lists of two and of three places
abbrev pub pair_form : {A B : Type 0} → (Data → Result A (List ℕ)) → (Data → Result B (List ℕ)) → Data → Result (A × B) (List ℕ)
pair_form f g d =
    if has_places 2 d then followed (place_form f 0 d) (λ x. followed (place_form g 1 d) (λ y. Ok (x, y))) else Err []

abbrev pub triple_form : {A B C : Type 0} → (Data → Result A (List ℕ)) → (Data → Result B (List ℕ)) → (Data → Result C (List ℕ)) → Data → Result (A × B × C) (List ℕ)
triple_form f g h d =
    if has_places 3 d
    then followed (place_form f 0 d) (λ x. followed (place_form g 1 d) (λ y. followed (place_form h 2 d) (λ z. Ok (x, y, z))))
    else Err []

-- an object of one key
abbrev pub sole_form : {A : Type 0} → (Data → Result A (List ℕ)) → List ℕ → Data → Result A (List ℕ)
sole_form f key d = followed (field_form f key d) (λ x. if has_members 1 d then Ok x else Err [])
