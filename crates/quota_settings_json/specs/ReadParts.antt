-- What the builder of a bucket's name says: the name's parts.
use Rattle.std.specs.Prelude.{ℕ, List, [], Option, Some, None, unwrap_or}
use Rattle.serde_json.specs.Data.{Data}
use Rattle.proto_json.specs.Said.{Said, says, refuses, ◌>>=◌}
use Rattle.proto_json.specs.Fields.{Object, take, ends}
use Rattle.proto_json.specs.Kinds as kinds
use Rattle.proto_json.specs.NamedMembers.{named_members}
use Rattle.rate_types.specs.declared.refusals.TheConstants.{TEXT_TOO_LONG, PART_KIND}
use Rattle.quota_settings_json.specs.FieldNames as names
use Rattle.quota_settings.specs.Parts.{NamePart}
use Rattle.quota_settings.specs.declared.part.PartSource.{PartSource}
use Rattle.quota_settings.specs.declared.part.PartSource.TheVariants.{Fixed, Attribute}

-- the own rule of a part: 33 PartKind where not exactly one of the two is there
abbrev pub source_rules : List ℕ → Option (List ℕ) → Option (List ℕ) → Said (Option PartSource)
source_rules place (Some text) None = says (Some (Fixed text))
source_rules place None (Some name) = says (Some (Attribute name))
source_rules place text name = refuses PART_KIND place

-- a part's fields in order, then its own rule: where its value comes from
unfoldable pub source_in : Object → Said (Option PartSource)
source_in o = do
  text ← take (kinds.short_text TEXT_TOO_LONG) names.string_value o
  name ← take (kinds.short_text TEXT_TOO_LONG) names.attribute text.1
  place ← ends name.1
  source_rules place text.0 name.0

-- what a part says, as a kind of value
abbrev pub source : List ℕ → Data → Said (Option PartSource)
source = kinds.and_read kinds.message source_in

-- the part of a name and what its value comes from
abbrev pub part_named : List ℕ → PartSource → NamePart
part_named name source = record { name = name; source = source }

-- the parts of an object of parts
unfoldable pub parts_in : Object → Said (Option (List NamePart))
parts_in = named_members source part_named

-- such an object as a kind of field
abbrev pub parts_kind : List ℕ → Data → Said (Option (List NamePart))
parts_kind = kinds.and_read kinds.message parts_in

-- a builder's one field
unfoldable pub builder_in : Object → Said (Option (List NamePart))
builder_in o = do
  ps ← take parts_kind names.bucket_id_builder o
  place ← ends ps.1
  says (Some (unwrap_or ps.0 []))

-- a builder as a kind of field
abbrev pub builder : List ℕ → Data → Said (Option (List NamePart))
builder = kinds.and_read kinds.message builder_in
