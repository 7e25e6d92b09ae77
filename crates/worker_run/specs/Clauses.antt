-- What the records of workers say before their limiter is closed.
use Rattle.std.specs.Prelude.{ℕ, ◌≤◌, List, [], ◌∷◌}
use Rattle.descriptor_tree.specs.Trees.{DomainTree}
use Rattle.rate_limiter.specs.Passes.{PassView}
use Rattle.reply_text.specs.declared.record.Record.{Record}
use Rattle.script_run.specs.ScriptLine.{ScriptLine}
use Rattle.script_run.specs.Lines.{EachLine, IsAtLeastEarlier}
use Rattle.script_run.specs.Kinds.{OneRecordPerLine}
use Rattle.script_run.specs.Versions.{VersionsNeverFall}
use Rattle.script_run.specs.Moments.{tick_of, ShowsItsTick}

-- One record for each line, by one of so many workers; along the records of one worker neither the versions nor the moments fall;
-- each moment is no earlier than the start, nor than the number of its line where that is a tick, which its record shows.
pub record AreInOrder (workers start : ℕ) (lines : List ScriptLine) (records : List Record) : Type 0 where
  pub one_record_per_line : OneRecordPerLine workers lines records
  pub versions_never_fall : VersionsNeverFall lines records
  pub moments_never_fall : EachLine lines records (λ before earlier l r. IsAtLeastEarlier (λ s. s.moment) earlier r)
  pub moments_least : EachLine lines records (λ before earlier l r. (start ≤ r.moment) × (tick_of l ≤ r.moment))
  pub ticks_shown : EachLine lines records (λ before earlier l r. ShowsItsTick l r.outcome)

-- the version at which the first of these passes is
abbrev pub first_version : List PassView → List DomainTree
first_version [] = []
first_version (p ∷ ps) = p.version.index
