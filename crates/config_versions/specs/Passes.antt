-- What contracts see of the versions and of a pass.
use Rattle.std.specs.Prelude.{◌≡◌, ℕ}
use Rattle.std.specs.Arc.{arc_value}
use Rattle.atomic_table.specs.Seated.{TableId}
use Rattle.told_list.specs.Tokens.{list_id, list_of, tokens, view}
use Rattle.config_versions.specs.declared.pass.VersionPass.{VersionPass}
use Rattle.config_versions.specs.declared.versions.Versions.{Versions}
use Rattle.config_versions.specs.PassState.{PassState}

module _ {I : Type 0} where
  -- which versions they are
  abbrev pub versions_id : Versions I → TableId
  versions_id versions = list_id versions.told

  -- which versions a pass is of
  abbrev pub versions_of : VersionPass I → TableId
  versions_of pass = list_of pass.seen

  -- the pass was made with these versions
  abbrev pub IsPassOf : Versions I → VersionPass I → Type 0
  IsPassOf versions pass = versions_of pass ≡ versions_id versions

  -- how many passes were made
  abbrev pub pass_count : Versions I → ℕ
  pass_count versions = tokens versions.told

  -- the state of a pass
  abbrev pub pass_state : VersionPass I → PassState I
  pass_state pass = record { version = pass.version; index = arc_value pass.index; view = view pass.seen }
