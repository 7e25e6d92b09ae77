-- What a node and a file say.
use Rattle.std.specs.Prelude.{ℕ, ◌+◌, List, [], if◌then◌else◌, Bool, false, Option, Some, None, unwrap_or}
use Rattle.std.specs.Str.{bytes_eq}
use Rattle.rate_types.specs.Places as places
use Rattle.serde_json.specs.Data.{Data, null, array, object, Items, no_items, item, Members, no_members, member}
use Rattle.proto_json.specs.Said.{Said, says, refuses, ◌>>=◌}
use Rattle.proto_json.specs.Fields.{Object, Listed, take, after, ends}
use Rattle.rate_types.specs.declared.refusals.TheConstants.{NOT_OBJECT, WRONG_KIND, TEXT_TOO_LONG}
use Rattle.proto_json.specs.Kinds as kinds
use Rattle.proto_json.specs.Document.{document}
use Rattle.descriptor_tree.specs.Trees.{NodeFields, Branch, branch, Branches, no_branches, and_branch, DomainTree}
use Rattle.config_json.specs.FieldNames as names
use Rattle.config_json.specs.Rules.{Rule, unless_empty, policy_kind}

-- ---- a node

-- the fields of a node with this rule or none
abbrev pub fields_with : List ℕ → Option (List ℕ) → Option Rule → Bool → NodeFields
fields_with key value None shadow = record { key = key; value = value; policy = None; name = None; replaces = []; shadow = shadow }
fields_with key value (Some rule) shadow =
    record { key = key; value = value; policy = Some rule.policy; name = rule.name; replaces = rule.replaces; shadow = shadow }

-- the nodes of a list, none where there is no list
abbrev pub or_none : Option Branches → Branches
or_none None = no_branches
or_none (Some bs) = bs

-- A node's fields in their order; `below` is what its field `descriptors` says.
unfoldable pub node_in : Object → Said (Option Branches) → Said (Option Branch)
node_in o below = do
  k ← take (kinds.short_text TEXT_TOO_LONG) names.key o
  v ← take (kinds.short_text TEXT_TOO_LONG) names.value k.1
  r ← take policy_kind names.rate_limit v.1
  s ← take kinds.bool names.shadow_mode r.1
  m ← take kinds.bool names.detailed_metric s.1
  b ← below
  place ← ends (after names.descriptors m.1)
  says (Some (branch (fields_with (unwrap_or k.0 []) (unless_empty v.0) r.0 (unwrap_or s.0 false)) (or_none b)))

-- a node before those behind it, where all are there
abbrev pub with_branch : Option Branch → Option Branches → Option Branches
with_branch (Some b) (Some bs) = Some (and_branch b bs)
with_branch None bs = None
with_branch (Some b) None = None

unfoldable mutual
  -- a node at its place: an object, whose list of nodes is found among its members
  pub node_at : List ℕ → Data → Said (Option Branch)
  node_at place (object ms) = node_in (record { place = place; members = ms }) (below_in place ms)
  node_at place d = refuses NOT_OBJECT place

  -- the nodes of a list, from this index on
  pub nodes_at : List ℕ → ℕ → Items → Said (Option Branches)
  nodes_at place index no_items = says (Some no_branches)
  nodes_at place index (item d ds) =
      node_at (places.item place index) d >>= λ b. nodes_at place (index + 1) ds >>= λ bs. says (with_branch b bs)

  -- the nodes of the member `descriptors`
  pub below_in : List ℕ → Members → Said (Option Branches)
  below_in place no_members = says None
  below_in place (member k d ms) = if bytes_eq names.descriptors.camel k
      then below_at (places.child place names.descriptors.camel) d else below_in place ms

  -- the value of that member, as a list of nodes
  pub below_at : List ℕ → Data → Said (Option Branches)
  below_at place null = says None
  below_at place (array ds) = nodes_at place 0 ds
  below_at place d = refuses WRONG_KIND place

-- the nodes of a list
abbrev pub nodes_in : Listed → Said (Option Branches)
nodes_in list = nodes_at list.place 0 list.items

-- a list of nodes, as a kind of field
abbrev pub nodes_kind : List ℕ → Data → Said (Option Branches)
nodes_kind = kinds.and_read kinds.list nodes_in

-- ---- a file

-- a file's fields in their order; its `name` is read and ignored
unfoldable pub file_in : Object → Said (Option DomainTree)
file_in o = do
  n ← take (kinds.short_text TEXT_TOO_LONG) names.name o
  d ← take (kinds.short_text TEXT_TOO_LONG) names.domain n.1
  b ← take nodes_kind names.descriptors d.1
  place ← ends b.1
  says (Some (record { domain = unwrap_or d.0 []; forest = or_none b.0 }))

-- a file's object at its place
unfoldable pub file_at : List ℕ → Data → Said (Option DomainTree)
file_at place d = kinds.message place d >>= kinds.read_some file_in

-- a file
unfoldable pub file : List ℕ → Said (Option DomainTree)
file bytes = document bytes >>= kinds.read_some (file_at [])
