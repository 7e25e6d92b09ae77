-- What a request says: each object's fields in order, then its own rules.
use Rattle.std.specs.Prelude.{ℕ, max, List, [], ◌∷◌, nat_lt, if◌then◌else◌, Option, Some, None, unwrap_or}
use Rattle.serde_json.specs.Data.{Data}
use Rattle.serde_json.specs.Events.{items_len}
use Rattle.rate_types.specs.declared.unit.Unit.{Unit}
use Rattle.rate_types.specs.declared.entries.Entry.{Entry}
use Rattle.rate_types.specs.declared.request.OwnLimit.{OwnLimit}
use Rattle.rate_types.specs.declared.request.Descriptor.{Descriptor}
use Rattle.rate_types.specs.Requests.{RequestParts}
use Rattle.rate_types.specs.declared.limits.TheConstants.{MOST_ENTRIES, MOST_DESCRIPTORS}
use Rattle.rate_types.specs.declared.refusals.TheConstants.{UNIT_MISSING, REQUEST_EMPTY_DOMAIN, NO_DESCRIPTORS, TOO_MANY_DESCRIPTORS}
use Rattle.rate_types.specs.declared.refusals.TheConstants.{NO_ENTRIES, REQUEST_EMPTY_KEY, TOO_MANY_ENTRIES, REQUEST_TEXT_TOO_LONG}
use Rattle.proto_json.specs.Said.{Said, says, refuses, ◌>>=◌}
use Rattle.proto_json.specs.Fields.{Object, Listed, take, ends}
use Rattle.proto_json.specs.Kinds as kinds
use Rattle.proto_json.specs.Lists.{each_item}
use Rattle.reply_text.specs.FieldNames as names

-- these, else this refusal where there is none
abbrev pub unless_none : {X : Type 0} → ℕ → List ℕ → List X → Said (Option (List X))
unless_none refusal place [] = refuses refusal place
unless_none refusal place (x ∷ xs) = says (Some (x ∷ xs))

-- a text of a request, as a kind of field; 26 TextTooLong where it has more than 1,024 bytes
abbrev pub short_text : List ℕ → Data → Said (Option (List ℕ))
short_text = kinds.short_text REQUEST_TEXT_TOO_LONG

-- ---- an entry

-- the own rule: 24 EmptyKey
unfoldable pub entry_rules : List ℕ → List ℕ → List ℕ → Said (Option Entry)
entry_rules place key value = do
  some ← unless_none REQUEST_EMPTY_KEY place key
  says (Some (record { key = key; value = value }))

-- an entry's fields in order, then its own rule
unfoldable pub entry_in : Object → Said (Option Entry)
entry_in o = do
  k ← take short_text names.key o
  v ← take short_text names.value k.1
  place ← ends v.1
  entry_rules place (unwrap_or k.0 []) (unwrap_or v.0 [])

-- an entry as a kind of value
abbrev pub entry : List ℕ → Data → Said (Option Entry)
entry = kinds.and_read kinds.message entry_in

-- the entries of a list; 25 TooManyEntries at the list where it has more than 32 items
unfoldable pub entries_in : Listed → Said (Option (List Entry))
entries_in list = if nat_lt MOST_ENTRIES (items_len list.items) then refuses TOO_MANY_ENTRIES list.place else each_item entry list

-- such a list as a kind of field
abbrev pub entries_kind : List ℕ → Data → Said (Option (List Entry))
entries_kind = kinds.and_read kinds.list entries_in

-- ---- a limit of a descriptor's own

-- the own rule: 14 UnitMissing
abbrev pub limit_rules : List ℕ → ℕ → Option Unit → Said (Option OwnLimit)
limit_rules place limit None = refuses UNIT_MISSING place
limit_rules place limit (Some unit) = says (Some (record { limit = limit; unit = unit }))

-- a limit's fields in order, then its own rule; an absent number is 0
unfoldable pub limit_in : Object → Said (Option OwnLimit)
limit_in o = do
  n ← take kinds.uint32 names.requests_per_unit o
  u ← take kinds.unit names.unit n.1
  place ← ends u.1
  limit_rules place (unwrap_or n.0 0) u.0

-- a limit as a kind of field
abbrev pub limit_kind : List ℕ → Data → Said (Option OwnLimit)
limit_kind = kinds.and_read kinds.message limit_in

-- ---- a descriptor

-- the own rule: 23 NoEntries
unfoldable pub descriptor_rules : List ℕ → List Entry → Option OwnLimit → Option ℕ → Said (Option Descriptor)
descriptor_rules place entries own hits = do
  some ← unless_none NO_ENTRIES place entries
  says (Some (record { entries = entries; own = own; hits = hits }))

-- a descriptor's fields in order, then its own rule; its hits are its own where they are there, 0 included
unfoldable pub descriptor_in : Object → Said (Option Descriptor)
descriptor_in o = do
  es ← take entries_kind names.entries o
  own ← take limit_kind names.limit es.1
  h ← take kinds.uint32 names.hits_addend own.1
  place ← ends h.1
  descriptor_rules place (unwrap_or es.0 []) own.0 h.0

-- a descriptor as a kind of value
abbrev pub descriptor : List ℕ → Data → Said (Option Descriptor)
descriptor = kinds.and_read kinds.message descriptor_in

-- the descriptors of a list; 22 TooManyDescriptors at the list where it has more than 32 items
unfoldable pub descriptors_in : Listed → Said (Option (List Descriptor))
descriptors_in list = if nat_lt MOST_DESCRIPTORS (items_len list.items) then refuses TOO_MANY_DESCRIPTORS list.place
    else each_item descriptor list

-- such a list as a kind of field
abbrev pub descriptors_kind : List ℕ → Data → Said (Option (List Descriptor))
descriptors_kind = kinds.and_read kinds.list descriptors_in

-- ---- a request

-- the own rules: 20 EmptyDomain, then 21 NoDescriptors; hits of 0 count as 1
unfoldable pub request_rules : List ℕ → List ℕ → List Descriptor → ℕ → Said (Option RequestParts)
request_rules place domain descriptors hits = do
  name ← unless_none REQUEST_EMPTY_DOMAIN place domain
  some ← unless_none NO_DESCRIPTORS place descriptors
  says (Some (record { domain = domain; descriptors = descriptors; hits = max hits 1 }))

-- a request's fields in order, then its own rules
unfoldable pub request_in : Object → Said (Option RequestParts)
request_in o = do
  d ← take short_text names.domain o
  ds ← take descriptors_kind names.descriptors d.1
  h ← take kinds.uint32 names.hits_addend ds.1
  place ← ends h.1
  request_rules place (unwrap_or d.0 []) (unwrap_or ds.0 []) (unwrap_or h.0 0)

-- A request at its place: an object, else 2 NotObject.
abbrev pub request : List ℕ → Data → Said (Option RequestParts)
request = kinds.and_read kinds.message request_in
