-- What a part of a document says: all faults in it, in order, and its value.
use Rattle.std.specs.Prelude.{ℕ, List, [], ◌∷◌, ◌++◌, Option, None, Result}
use Rattle.rate_types.specs.declared.refused.Refused.{Refused}
use Rattle.rate_types.specs.Reading.{first_or}

-- All faults, in order, and the value that is read beside them. Behind a fault the value has no meaning: faults that
-- follow from it may stand behind it, since the first one alone is the answer.
pub data Said (X : Type 0) : Type 0 where
  said : List Refused → X → Said X

-- the list of all faults
abbrev pub faults_of : {X : Type 0} → Said X → List Refused
faults_of (said found x) = found

-- the value beside them
abbrev pub value_of : {X : Type 0} → Said X → X
value_of (said found x) = x

-- a value without a fault
abbrev pub says : {X : Type 0} → X → Said X
says x = said [] x

-- a fault with this number at this place, and no value
abbrev pub refuses : {X : Type 0} → ℕ → List ℕ → Said (Option X)
refuses number place = said (record { at = place; number = number } ∷ []) None

-- these faults, and then what this part says
abbrev pub preceded : {X : Type 0} → List Refused → Said X → Said X
preceded found (said more x) = said (found ++ more) x

infixl 10 ◌>>=◌
-- one part, and then what comes after it: the faults of both, in order
abbrev pub ◌>>=◌ : {X Y : Type 0} → Said X → (X → Said Y) → Said Y
(said found x) >>= next = preceded found (next x)

-- The reading: the first fault, or the value where there is none.
abbrev pub reading_of : {X : Type 0} → Said X → Result X Refused
reading_of (said found x) = first_or found x
