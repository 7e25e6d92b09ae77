-- What the exits of `quota` say.
use Rattle.std.specs.Prelude.{◌≡◌, ℕ, List, [], ◌∷◌, Option, Some, Result, Ok, Err, All, ⊤}
use Rattle.std.specs.List.{AllByRecursion}
use Rattle.rate_types.specs.declared.refused.Refused.{Refused}
use Rattle.quota_settings.specs.Covering.{AllSettings}
use Rattle.quota_stream.specs.Tasks.{IsShort}
use Rattle.quota_stream.specs.Runs.{HasTooLong}
use Rattle.command_words.specs.Words.{command_of}
use Rattle.cli_exits.specs.Jobs.{files_of}
use Rattle.cli_quota.specs.Quota.{settings_of, streams_output}
use Rattle.cli_quota.specs.Allowances.{KeepAllowances}
use Rattle.command_words.specs.declared.command.Command.TheVariants.{Quota}
use Rattle.command_words.specs.declared.command.QuotaJob.{QuotaJob}
use Rattle.cli_exits.specs.World.{World, AreFilesOf, NothingRead}

-- `quota` read its settings file and its streams, and this is what the settings file spells: settings, or their first refusal
pub record QuotaSays (w : World) (job : QuotaJob) (reading : Result (Option AllSettings) Refused) : Type 0 where
  pub named : command_of w.words ≡ Some (Quota job)
  pub file : List ℕ
  pub streams : List (List ℕ)
  pub contents : AreFilesOf w.content (files_of (Quota job)) w.files (file ∷ streams)
  pub spells : settings_of file ≡ reading

-- the settings file of `quota` is refused
abbrev pub IsSettingsRefused : World → Refused → Type 0
IsSettingsRefused w refused = (job : QuotaJob) × QuotaSays w job (Err refused)

-- the settings file of `quota` spells settings, and one of its streams, the first, has more lines than may be
abbrev pub HasLongStream : World → Type 0
HasLongStream w = (job : QuotaJob) × ((settings : AllSettings) × ((says : QuotaSays w job (Ok (Some settings)))
    × ((read : ℕ) × HasTooLong says.streams read)))

-- The outputs of the streams of `quota` by its settings, one after the other, in which no bucket lets more pass than its strategy in
-- force has; the input wasn't read.
pub record IsReplayed (w : World) (job : QuotaJob) (pieces : List (List ℕ)) : Type 0 where
  pub settings : AllSettings
  pub says : QuotaSays w job (Ok (Some settings))
  pub short : All IsShort says.streams
  pub unread : NothingRead w
  pub replayed : pieces ≡ streams_output settings says.streams
  pub allowances : KeepAllowances settings 0 says.streams

-- a settings file without refusal, and streams that aren't too long
abbrev pub AreReplayable : List (List ℕ) → Type 0
AreReplayable [] = ⊤
AreReplayable (file ∷ streams) = ((refused : Refused) → settings_of file ≡ Err refused → ⊥) × AllByRecursion IsShort streams
