-- The reading of something that may have faults: the first fault, or its value where there is none.
use Rattle.std.specs.Prelude.{◌≡◌, List, [], ◌∷◌, Result, Ok, Err, ⊤}
use Rattle.rate_types.specs.declared.fault.Fault.{Fault}
use Rattle.rate_types.specs.declared.fault.Fault.TheVariants as fault

-- the first of these faults, or this value where there is none
abbrev pub first_or : {E X : Type 0} → List E → X → Result X E
first_or [] x = Ok x
first_or (fault ∷ more) x = Err fault

-- a refusal is the reading; want of memory may come with any reading
abbrev pub IsRefusal : {E X : Type 0} → Fault E → Result X E → Type 0
IsRefusal (fault.Refused e) reading = reading ≡ Err e
IsRefusal fault.OutOfMemory reading = ⊤

-- the answer of a reader is the reading, its value as `see` sees it
abbrev pub AnswersReading : {E X Y : Type 0} → (X → Y) → Result X (Fault E) → Result Y E → Type 0
AnswersReading see (Ok x) reading = reading ≡ Ok (see x)
AnswersReading see (Err e) reading = IsRefusal e reading
