-- What an object of texts says: attributes.
use Rattle.std.specs.Prelude.{ℕ, List, Option}
use Rattle.serde_json.specs.Data.{Data}
use Rattle.proto_json.specs.Said.{Said}
use Rattle.proto_json.specs.Fields.{Object}
use Rattle.proto_json.specs.Kinds as kinds
use Rattle.proto_json.specs.NamedMembers.{named_members}
use Rattle.rate_types.specs.declared.refusals.TheConstants.{TEXT_TOO_LONG}
use Rattle.quota_settings.specs.declared.pair.Pair.{Pair}

-- the pair of a name and its value
abbrev pub pair_named : List ℕ → List ℕ → Pair
pair_named name value = record { name = name; value = value }

-- the pairs of an object of texts; a longer name or text than 1,024 bytes is 18 TextTooLong, another value 5 WrongKind
unfoldable pub pairs_in : Object → Said (Option (List Pair))
pairs_in = named_members (kinds.short_text TEXT_TOO_LONG) pair_named

-- attributes: an object of texts
abbrev pub attributes : List ℕ → Data → Said (Option (List Pair))
attributes = kinds.and_read kinds.message pairs_in
