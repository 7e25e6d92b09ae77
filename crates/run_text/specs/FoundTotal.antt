-- Inside: the total that a value shows, where it is a total's.
use Rattle.std.specs.Prelude.{◌≡◌, ℕ, List, [], length, map, nat_lt, if◌then◌else◌, Option, Ok, codes}
use Rattle.serde_json.specs.Data.{Data}
use Rattle.serde_json.specs.Find.{get}
use Rattle.rate_types.specs.declared.limits.TheConstants.{LONGEST_TEXT}
use Rattle.rate_types.specs.Entries.{entries_of}
use Rattle.rate_types.specs.declared.entries.Entry.{Entry}
use Rattle.rate_types.specs.declared.counter_key.CounterKey.{CounterKey}
use Rattle.rls_core.specs.declared.totals.Total.{Total}
use Rattle.run_text.specs.Members.{at, whole_of, moment_of, text_of, items_in}
use Rattle.run_text.specs.Found.{unit_of}

-- a text where it isn't too long, else the empty one
abbrev pub if_short : List ℕ → List ℕ
if_short s = if nat_lt LONGEST_TEXT (length s) then [] else s

unfoldable pub entry_in : Data → Entry
entry_in d = record { key = if_short (text_of (get (codes "key") d)); value = if_short (text_of (get (codes "value") d)) }

-- the entries of a counter, which may not be those of a descriptor
abbrev pub entries_in : Option Data → List Entry
entries_in counter = map entry_in (items_in (at (codes "entries") counter))

unfoldable pub counter_in : Option Data → CounterKey
counter_in counter = record {
  name = record {
    domain = if_short (text_of (at (codes "domain") counter));
    entries = entries_in counter;
    unit = unit_of (text_of (at (codes "unit") counter));
  };
  start = moment_of (at (codes "start") counter);
}

unfoldable pub total_in : Data → Total
total_in d = record { key = counter_in (get (codes "counter") d); charged = whole_of (get (codes "charged") d) }

-- the entries of its counter are a descriptor's
abbrev pub HasEntries : Total → Type 0
HasEntries t = entries_of t.key.name.entries ≡ Ok t.key.name.entries
