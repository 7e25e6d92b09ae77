-- What a policy says: a rule with its name and the names of the rules that it replaces.
use Rattle.std.specs.Prelude.{ℕ, List, [], ◌∷◌, filter, Bool, true, false, nat_lt, if◌then◌else◌, Option, Some, None, unwrap_or}
use Rattle.std.specs.List.{list_any}
use Rattle.std.specs.Str.{bytes_eq}
use Rattle.rate_types.specs.declared.unit.Unit.{Unit}
use Rattle.serde_json.specs.Data.{Data, object}
use Rattle.serde_json.specs.Events.{items_len}
use Rattle.proto_json.specs.Said.{Said, says, refuses, ◌>>=◌}
use Rattle.proto_json.specs.Fields.{Object, Listed, take, ends}
use Rattle.rate_types.specs.declared.limits.TheConstants.{MOST_REPLACED}
use Rattle.rate_types.specs.declared.refusals.TheConstants.{TEXT_TOO_LONG, UNIT_MISSING, UNIT_WITH_UNLIMITED}
use Rattle.rate_types.specs.declared.refusals.TheConstants.{SELF_REPLACE, TOO_MANY_REPLACES}
use Rattle.proto_json.specs.Lists.{each_item}
use Rattle.proto_json.specs.Kinds as kinds
use Rattle.descriptor_tree.specs.declared.policy.Policy.{Policy}
use Rattle.descriptor_tree.specs.declared.policy.Policy.TheVariants.{Limited, Unlimited}
use Rattle.config_json.specs.FieldNames as names

-- what a policy spells: what the rule does, its name, and the names of the rules that it replaces
pub record Rule : Type 0 where
  pub policy : Policy
  pub name : Option (List ℕ)
  pub replaces : List (List ℕ)

-- an empty text is none
abbrev pub unless_empty : Option (List ℕ) → Option (List ℕ)
unless_empty None = None
unless_empty (Some []) = None
unless_empty (Some (b ∷ bs)) = Some (b ∷ bs)

-- a text that isn't empty
abbrev pub is_there : List ℕ → Bool
is_there [] = false
is_there (b ∷ bs) = true

-- ---- the names that a rule replaces

-- the one field of an object that names a rule
unfoldable pub named : Object → Said (Option (List ℕ))
named o = do
  n ← take (kinds.short_text TEXT_TOO_LONG) names.name o
  place ← ends n.1
  says (Some (unwrap_or n.0 []))

-- an object that names a rule
unfoldable pub object_named : List ℕ → Data → Said (Option (List ℕ))
object_named = kinds.and_read kinds.message named

-- a replaced rule: its name as a text, or as an object with the field `name`; any other value is 5 WrongKind
unfoldable pub replaced : List ℕ → Data → Said (Option (List ℕ))
replaced place (object ms) = object_named place (object ms)
replaced place d = kinds.short_text TEXT_TOO_LONG place d

-- the names that aren't empty, where all are read
abbrev pub those_there : Option (List (List ℕ)) → Option (List (List ℕ))
those_there None = None
those_there (Some ns) = Some (filter is_there ns)

-- the names in a list that aren't empty
unfoldable pub names_in : Listed → Said (Option (List (List ℕ)))
names_in list = each_item replaced list >>= λ ns. says (those_there ns)

-- these names; 30 TooManyReplaces at the list where it has more than 32 items
unfoldable pub all_replaced : Listed → Said (Option (List (List ℕ)))
all_replaced list = if nat_lt MOST_REPLACED (items_len list.items) then refuses TOO_MANY_REPLACES list.place else names_in list

-- such a list as a kind of field
abbrev pub replaced_kind : List ℕ → Data → Said (Option (List (List ℕ)))
replaced_kind = kinds.and_read kinds.list all_replaced

-- ---- a policy

-- whether a rule's own name is among those that it replaces
abbrev pub replaces_itself : Option (List ℕ) → List (List ℕ) → Bool
replaces_itself None ns = false
replaces_itself (Some name) ns = list_any (λ n. bytes_eq n name) ns

-- a rule with its names; 29 SelfReplace where its own is among them
abbrev pub rule_named : List ℕ → Policy → Option (List ℕ) → List (List ℕ) → Said (Option Rule)
rule_named place policy name ns = if replaces_itself name ns then refuses SELF_REPLACE place
    else says (Some (record { policy = policy; name = name; replaces = ns }))

-- a policy's own rules: 14 UnitMissing where it isn't unlimited and has no unit, 15 UnitWithUnlimited where it is
-- unlimited and has one, then 29
unfoldable pub policy_rules : List ℕ → Option Unit → ℕ → Bool → Option (List ℕ) → List (List ℕ) → Said (Option Rule)
policy_rules place None limit true name ns = rule_named place Unlimited name ns
policy_rules place (Some u) limit true name ns = refuses UNIT_WITH_UNLIMITED place
policy_rules place None limit false name ns = refuses UNIT_MISSING place
policy_rules place (Some u) limit false name ns = rule_named place (Limited limit u) name ns

-- A policy: its fields in order, then its own rules. `requestsPerUnit` beside `unlimited` is read and ignored.
unfoldable pub policy : Object → Said (Option Rule)
policy o = do
  u ← take kinds.unit names.unit o
  limit ← take kinds.uint32 names.requests_per_unit u.1
  is_unlimited ← take kinds.bool names.unlimited limit.1
  n ← take (kinds.short_text TEXT_TOO_LONG) names.name is_unlimited.1
  ns ← take replaced_kind names.replaces n.1
  place ← ends ns.1
  policy_rules place u.0 (unwrap_or limit.0 0) (unwrap_or is_unlimited.0 false) (unless_empty n.0) (unwrap_or ns.0 [])

-- a policy as a kind of field
abbrev pub policy_kind : List ℕ → Data → Said (Option Rule)
policy_kind = kinds.and_read kinds.message policy
