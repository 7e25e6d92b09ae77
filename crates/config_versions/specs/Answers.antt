-- What the answers of the calls mean for the pass.
use Rattle.std.specs.Prelude.{◌≡◌, ℕ, ◌+◌, ◌<◌, length, Ok, Err}
use Rattle.std.specs.declared.result.Result.{Result}
use Rattle.rate_types.specs.declared.limits.TheConstants.{MOST_VERSIONS}
use Rattle.rate_types.specs.declared.memory.OutOfMemory.{OutOfMemory}
use Rattle.config_versions.specs.declared.fault.InstallFault.{InstallFault}
use Rattle.config_versions.specs.declared.fault.InstallFault.TheVariants as fault
use Rattle.config_versions.specs.PassState.{PassState, HasInstalled, IsNewest, HasStayed}

module _ {I : Type 0} where
  -- `next` got this number, or the list found was full, or there was no memory
  abbrev pub AnswersInstall : I → Result ℕ InstallFault → PassState I → PassState I → Type 0
  AnswersInstall next (Ok number) s t = HasInstalled next number s t
  AnswersInstall next (Err (fault.VersionsFull versions)) s t =
      (versions ≡ MOST_VERSIONS) × (length t.view.known ≡ MOST_VERSIONS) × IsNewest s t
  AnswersInstall next (Err fault.OutOfMemory) s t = HasStayed s t

  -- the pass is at the newest version, or stayed below it
  abbrev pub AnswersRefresh : Result (Unit {0}) OutOfMemory → PassState I → PassState I → Type 0
  AnswersRefresh (Ok _) s t = IsNewest s t
  AnswersRefresh (Err _) s t = HasStayed s t × (t.version + 1 < length t.view.known)
