-- Which records and totals a text can show.
use Rattle.std.specs.Prelude.{◌≡◌, ℕ, ◌^◌, ◌<◌, ◌≤◌, length, true, Option, Some, None, Ok, ⊤}
use Rattle.std.specs.List.{AllByRecursion}
use Rattle.rate_types.specs.declared.limits.TheConstants.{LATEST_MOMENT, LONGEST_TEXT, MOST_DESCRIPTORS}
use Rattle.rate_types.specs.Entries.{entries_of}
use Rattle.rate_types.specs.declared.entries.Entry.{Entry}
use Rattle.rate_types.specs.declared.request.OwnLimit.{OwnLimit}
use Rattle.rls_core.specs.declared.totals.Total.{Total}
use Rattle.rls_core.specs.declared.status.Count.{Count}
use Rattle.rls_core.specs.declared.status.Count.TheVariants.{NoCount, Before, Seen}
use Rattle.rls_core.specs.declared.status.Status.{Status}
use Rattle.reply_text.specs.declared.record.Outcome.{Outcome}
use Rattle.reply_text.specs.declared.record.Outcome.TheVariants.{Checked, Ticked, Installed, Bad, Full, Spent, VersionsFull}
use Rattle.reply_text.specs.Shown.{Shown}
use Rattle.run_text.specs.Pointers.{is_pointer}

abbrev pub IsSaidCount : Count → Type 0
IsSaidCount NoCount = ⊤
IsSaidCount (Before before) = before < 2 ^ 64
IsSaidCount (Seen seen) = seen < 2 ^ 64

-- only a limit has a time to reset
abbrev pub IsSaidLimit : Option OwnLimit → ℕ → Type 0
IsSaidLimit None reset = reset ≡ 0
IsSaidLimit (Some own) reset = (own.limit < 2 ^ 32) × (reset < 2 ^ 64)

-- a status of numbers that fit, without the number of its rule, which no text has
pub record IsSaidStatus (s : Status) : Type 0 where
  pub no_rule : s.rule ≡ None
  pub remaining : s.remaining < 2 ^ 32
  pub limit : IsSaidLimit s.limit s.reset
  pub count : IsSaidCount s.count

-- an outcome of numbers that fit; a reply has at most 32 statuses, and a refusal a JSON pointer
abbrev pub IsSaidOutcome : Outcome → Type 0
IsSaidOutcome (Checked answer) = (length answer.statuses ≤ MOST_DESCRIPTORS) × AllByRecursion IsSaidStatus answer.statuses
IsSaidOutcome (Ticked moment) = moment ≤ LATEST_MOMENT
IsSaidOutcome Installed = ⊤
IsSaidOutcome (Bad refused) = (is_pointer refused.at ≡ true) × (refused.number < 2 ^ 32)
IsSaidOutcome (Full live held wanted) = (live < 2 ^ 32) × (held < 2 ^ 32) × (wanted < 2 ^ 32)
IsSaidOutcome (Spent claims wanted) = (claims < 2 ^ 64) × (wanted < 2 ^ 32)
IsSaidOutcome (VersionsFull versions) = versions < 2 ^ 32

-- A record that a text can show: its numbers fit their types, and its statuses have no numbers of rules.
pub record IsSaid (r : Shown) : Type 0 where
  pub line : r.line < 2 ^ 32
  pub worker : r.worker < 2 ^ 32
  pub version : r.version < 2 ^ 32
  pub moment : r.moment ≤ LATEST_MOMENT
  pub outcome : IsSaidOutcome r.outcome

-- an entry of texts that aren't too long
abbrev pub IsSaidEntry : Entry → Type 0
IsSaidEntry e = (length e.key ≤ LONGEST_TEXT) × (length e.value ≤ LONGEST_TEXT)

-- A total that a text can show: its texts aren't too long, its entries are a descriptor's, and its numbers fit their types.
pub record IsSaidTotal (t : Total) : Type 0 where
  pub domain : length t.key.name.domain ≤ LONGEST_TEXT
  pub entries : entries_of t.key.name.entries ≡ Ok t.key.name.entries
  pub texts : AllByRecursion IsSaidEntry t.key.name.entries
  pub start : t.key.start ≤ LATEST_MOMENT
  pub charged : t.charged < 2 ^ 64
