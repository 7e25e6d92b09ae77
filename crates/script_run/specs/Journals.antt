-- Inside: what is noted of the records of a journal.
use Rattle.std.specs.Prelude.{◌≡◌, ℕ, ◌+◌, List}
use Rattle.std.specs.List.{AllByRecursion}
use mathlib.Core.Option.{some}
use lib.ListN.{get_elem?}
use Rattle.reply_text.specs.declared.record.Record.{Record}
use Rattle.reply_text.specs.Short.{IsShort}

-- each record stands at the place of its line
abbrev pub AreNumbered : List Record → Type 0
AreNumbered records = (i : ℕ) (r : Record) → get_elem? records i ≡ some r → r.line ≡ i + 1

-- each record is short
abbrev pub AreShort : List Record → Type 0
AreShort records = AllByRecursion (λ r. IsShort r.outcome) records
