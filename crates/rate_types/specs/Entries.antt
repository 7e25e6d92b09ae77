-- What a list of entries is, and when it is refused.
use Rattle.std.specs.Prelude.{ℕ, ◌==◌, List, [], ◌∷◌, length, nat_lt, if◌then◌else◌, Option, None, Some, position, Result, Ok, Err}
use Rattle.rate_types.specs.declared.limits.TheConstants.{MOST_ENTRIES}
use Rattle.rate_types.specs.declared.entries.Entry.{Entry}
use Rattle.rate_types.specs.declared.entries.HeldEntries.{HeldEntries}
use Rattle.rate_types.specs.declared.entries.HeldEntries.TheVariants.{One, Several}
use Rattle.rate_types.specs.declared.entries.EntriesFault.{EntriesFault}
use Rattle.rate_types.specs.declared.entries.EntriesFault.TheVariants.{NoEntries, TooMany, EmptyKey}

-- Inside: the entries of a list, wherever they lie
abbrev pub held_entries : HeldEntries → List Entry
held_entries (One entry) = entry ∷ []
held_entries (Several entries) = entries.items

-- the entries, unless the entry at this place has an empty key
abbrev pub unless_empty_key : Option ℕ → List Entry → Result (List Entry) EntriesFault
unless_empty_key None items = Ok items
unless_empty_key (Some index) items = Err (EmptyKey index)

-- 1 to 32 entries with keys that aren't empty, or the first reason against it
unfoldable pub entries_of : List Entry → Result (List Entry) EntriesFault
entries_of items = if length items == 0 then Err NoEntries
    else (if nat_lt MOST_ENTRIES (length items) then Err (TooMany (length items))
    else unless_empty_key (position (λ e. length e.key == 0) items) items)
