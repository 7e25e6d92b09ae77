-- The printed form of a configuration, as JSON: defaults and ignored fields are left out, names are in lowerCamelCase
-- and in byte order.
use Rattle.std.specs.Prelude.{ℕ, zero, suc, List, [], ◌∷◌, Bool, true, false, Option, Some, None, option_map, codes}
use Rattle.rate_types.specs.declared.unit.Unit.{Unit}
use Rattle.rate_types.specs.UnitNames.{unit_name}
use Rattle.serde_json.specs.Data.{Data, boolean, number, string, array, object, unsigned, Items, no_items, item}
use Rattle.serde_json.specs.Data.{Members, no_members, member}
use Rattle.descriptor_tree.specs.declared.policy.Policy.{Policy}
use Rattle.descriptor_tree.specs.declared.policy.Policy.TheVariants.{Limited, Unlimited}
use Rattle.descriptor_tree.specs.Trees.{NodeFields, Branch, branch, Branches, no_branches, and_branch, DomainTree}

-- a member where its value is there, before others
abbrev pub and_member : List ℕ → Option Data → Members → Members
and_member name None more = more
and_member name (Some d) more = member name d more

-- the members that are there
abbrev pub members_there : List (List ℕ × Option Data) → Members
members_there [] = no_members
members_there (m ∷ more) = and_member m.0 m.1 (members_there more)

-- ---- values that are left out where they are defaults

abbrev pub text_there : List ℕ → Option Data
text_there [] = None
text_there (b ∷ bs) = Some (string (b ∷ bs))

abbrev pub number_there : ℕ → Option Data
number_there zero = None
number_there (suc n) = Some (number (unsigned (suc n)))

abbrev pub true_there : Bool → Option Data
true_there true = Some (boolean true)
true_there false = None

abbrev pub list_there : Items → Option Data
list_there no_items = None
list_there (item d ds) = Some (array (item d ds))

-- ---- a rule

-- the name of a unit
abbrev pub unit_json : Unit → Data
unit_json unit = string (unit_name unit)

-- names, each as an object `{"name":n}`
abbrev pub names_json : List (List ℕ) → Items
names_json [] = no_items
names_json (n ∷ more) = item (object (members_there ((codes "name", Some (string n)) ∷ []))) (names_json more)

-- a rule with its name and the names that it replaces
abbrev pub rule_json : Policy → Option (List ℕ) → List (List ℕ) → Data
rule_json (Limited limit unit) name replaces = object (members_there (
    (codes "name", option_map string name)
    ∷ (codes "replaces", list_there (names_json replaces))
    ∷ (codes "requestsPerUnit", number_there limit)
    ∷ (codes "unit", Some (unit_json unit))
    ∷ []))
rule_json Unlimited name replaces = object (members_there (
    (codes "name", option_map string name)
    ∷ (codes "replaces", list_there (names_json replaces))
    ∷ (codes "unlimited", Some (boolean true))
    ∷ []))

abbrev pub rule_there : NodeFields → Option Data
rule_there node = option_map (λ p. rule_json p node.name node.replaces) node.policy

-- ---- a node, and a file

-- the members of a node, with the list of those below it where there are any
abbrev pub node_members : NodeFields → Option Data → List (List ℕ × Option Data)
node_members node below =
    (codes "descriptors", below)
    ∷ (codes "key", text_there node.key)
    ∷ (codes "rateLimit", rule_there node)
    ∷ (codes "shadowMode", true_there node.shadow)
    ∷ (codes "value", option_map string node.value)
    ∷ []

abbrev mutual
  -- a node
  pub branch_json : Branch → Data
  branch_json (branch node below) = object (members_there (node_members node (list_there (branches_json below))))

  -- the nodes of a level
  pub branches_json : Branches → Items
  branches_json no_branches = no_items
  branches_json (and_branch b more) = item (branch_json b) (branches_json more)

-- the file of a tree
unfoldable pub tree_json : DomainTree → Data
tree_json tree = object (members_there (
    (codes "descriptors", list_there (branches_json tree.forest))
    ∷ (codes "domain", text_there tree.domain)
    ∷ []))
