-- Inside: the records of a run, by where each lies in the journals of its workers.
use Rattle.std.specs.Prelude.{ℕ, ◌+◌, ◌-◌, ◌≤◌, ◌<◌, List, [], ◌∷◌, length, map, replicate, Option, Some, None, Bool, true, false, slice_set, slice_index_or}
use Rattle.std.specs.List.{AllByRecursion}
use Rattle.reply_text.specs.declared.record.Record.{Record}
use Rattle.reply_text.specs.declared.record.Outcome.TheVariants.{Installed}
use Rattle.script_run.specs.declared.run_records.RecordPlace.{RecordPlace}

-- a record that is in no run
abbrev pub blank : Record
blank = record { line = 0; worker = 0; version = 0; moment = 0; outcome = Installed }

-- the records of one of the journals
abbrev pub journal_at : List (List Record) → ℕ → List Record
journal_at journals number = slice_index_or journals number []

-- the record at a place
abbrev pub record_at : List (List Record) → RecordPlace → Record
record_at journals p = slice_index_or (journal_at journals p.journal) p.index blank

-- the place is one of a journal
abbrev pub IsPlace : List (List Record) → RecordPlace → Type 0
IsPlace journals p = (p.journal < length journals) × (p.index < length (journal_at journals p.journal))

-- the records in their order: those of the one journal, or those at these places
abbrev pub ordered : List (List Record) → Option (List RecordPlace) → List Record
ordered journals None = journal_at journals 0
ordered journals (Some places) = map (record_at journals) places

-- there is one journal, or each place is one of a journal
abbrev pub IsOrder : List (List Record) → Option (List RecordPlace) → Type 0
IsOrder journals None = 1 ≤ length journals
IsOrder journals (Some places) = AllByRecursion (IsPlace journals) places

-- the places after that of each of these records, which are those of a journal from an index on, was put at that of its line
abbrev pub all_put : ℕ → ℕ → List RecordPlace → List Record → List RecordPlace
all_put journal index places [] = places
all_put journal index places (r ∷ rs) =
    all_put journal (index + 1) (slice_set places (r.line - 1) (record { journal = journal; index = index })) rs

-- the same for each of these journals, of which the first has this number
abbrev pub each_put : ℕ → List RecordPlace → List (List Record) → List RecordPlace
each_put number places [] = places
each_put number places (j ∷ js) = each_put (number + 1) (all_put number 0 places j) js

-- the place of the record of each of so many lines in these journals
abbrev pub places_of : ℕ → List (List Record) → List RecordPlace
places_of lines journals = each_put 0 (replicate lines (record { journal = 0; index = 0 })) journals

-- where the records lie: nothing has to be said of them where one journal has them in their order
abbrev pub order_of : Bool → ℕ → List (List Record) → Option (List RecordPlace)
order_of true lines journals = None
order_of false lines journals = Some (places_of lines journals)
