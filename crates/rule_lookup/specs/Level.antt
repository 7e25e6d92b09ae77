-- Inside: the levels of an index, and the walk through them.
use Rattle.std.specs.Prelude.{◌≡◌, ℕ, ◌+◌, ◌&&◌, List, [], ◌∷◌, ◌++◌, Bool, find, if◌then◌else◌, ⊤}
use Rattle.std.specs.Prelude.{Option, None, Some, option_map, option_and_then}
use Rattle.std.specs.List.{slice_get, flat_map}
use Rattle.std.specs.Option.{option_or, option_map_or}
use Rattle.indexmap.specs.IndexMap.{get}
use Rattle.rate_types.specs.Counters.{same_text, same_entry}
use Rattle.rate_types.specs.declared.entries.Entry.{Entry}
use Rattle.descriptor_tree.specs.Trees.{NodeFields, Branch, branch, Branches, no_branches, and_branch, fields_of, below_of, DomainTree}
use Rattle.rule_lookup.specs.declared.found.Found.{Found}
use Rattle.rule_lookup.specs.declared.found.Found.TheVariants.{NoRule}
use Rattle.rule_lookup.specs.declared.reached.Reached.{Reached}
use Rattle.rule_lookup.specs.declared.node_maps.Wildcard.{Wildcard}
use Rattle.rule_lookup.specs.declared.node_maps.NodeMaps.{NodeMaps}
use Rattle.rule_lookup.specs.declared.level.Lone.{Lone}
use Rattle.rule_lookup.specs.declared.level.Level.{Level}
use Rattle.rule_lookup.specs.declared.level.Level.TheVariants.{Empty, One, Several}
use Rattle.rule_lookup.specs.declared.names.RuleNames.{RuleNames}
use Rattle.rule_lookup.specs.Rule.{NumberedNode, NumberedTree, is_wildcard, covers, is_this, is_wildcard_for, is_absent}
use Rattle.rule_lookup.specs.Rule.{has_value, has_wildcard, has_key_alone, rule_at, rule_from}

-- a wildcard with the entry's key that covers its value
abbrev pub fits : Entry → Wildcard → Bool
fits entry w = same_text w.entry.key entry.key && covers w.entry.value entry.value

-- What the nodes of a level reach for an entry: a node with its key and value, the first wildcard that fits, the key alone.
pub record Finding : Type 0 where
  pub equal : Entry → Option Reached
  pub wildcard : Entry → Option Reached
  pub alone : Entry → Option Reached

-- those of the three parts of several nodes
abbrev pub among : NodeMaps → Finding
among maps = record {
  equal = λ entry. if is_wildcard entry.value
      then option_map (λ w. w.reached) (find (λ w. same_entry w.entry entry) maps.wildcards.items)
      else get same_entry maps.valued entry;
  wildcard = λ entry. option_map (λ w. w.reached) (find (fits entry) maps.wildcards.items);
  alone = λ entry. get same_text maps.alone entry.key;
}

-- what one node reaches
abbrev pub lone : Lone → Finding
lone n = record {
  equal = λ entry. if same_text n.key entry.key && is_this n.value entry.value then Some n.reached else None;
  wildcard = λ entry. if same_text n.key entry.key && is_wildcard_for n.value entry.value then Some n.reached else None;
  alone = λ entry. if same_text n.key entry.key && is_absent n.value then Some n.reached else None;
}

-- what no node reaches
abbrev pub no_finding : Finding
no_finding = record { equal = λ entry. None; wildcard = λ entry. None; alone = λ entry. None }

-- what the nodes of a level reach
abbrev pub finding_of : Level → Finding
finding_of Empty = no_finding
finding_of (One n) = lone n
finding_of (Several maps) = among maps.value

-- by the matching node
abbrev pub reached_by : Finding → Entry → Option Reached
reached_by f entry = option_or (f.equal entry) (option_or (f.wildcard entry) (f.alone entry))

-- by the matching node of a level
abbrev pub reached_in : Level → Entry → Option Reached
reached_in level entry = reached_by (finding_of level) entry

-- what is found through these entries from a level on
abbrev pub walk : List Level → List Entry → Found → ℕ → Found
walk levels [] found index = found
walk levels (entry ∷ more) found index =
    option_map_or (λ r. walk levels more r.found r.below)
    (option_and_then (λ level. reached_in level entry) (slice_get levels index)) NoRule

-- the level of this index stands for these nodes, the first of this number, whatever levels are added
abbrev pub IsLevel : List Level → ℕ → ℕ → Branches → Type 0
IsLevel levels index number below = (more : List Level) (entries : List Entry) (found : Found)
    → walk (levels ++ more) entries found index ≡ rule_from entries found number below

-- what is reached is this node
pub record Reaches (levels : List Level) (r : Reached) (n : NumberedNode) : Type 0 where
  pub found : r.found ≡ rule_at n
  pub below : IsLevel levels r.below (n.number + 1) n.below

-- both are none, or what is reached is the node
abbrev pub Agree : List Level → Option Reached → Option NumberedNode → Type 0
Agree levels None None = ⊤
Agree levels (Some r) (Some n) = Reaches levels r n
Agree levels r n = ⊥

-- the nodes of a list are reached, each in the way in which it matches
pub record Holds (levels : List Level) (f : Finding) (nodes : List NumberedNode) : Type 0 where
  pub equal : (entry : Entry) → Agree levels (f.equal entry) (find (λ n. has_value entry n.node) nodes)
  pub wildcard : (entry : Entry) → Agree levels (f.wildcard entry) (find (λ n. has_wildcard entry n.node) nodes)
  pub alone : (entry : Entry) → Agree levels (f.alone entry) (find (λ n. has_key_alone entry n.node) nodes)

-- what is reached after a node with this key and value was put behind others
pub record Puts (key : List ℕ) (value : Option (List ℕ)) (r : Reached) (old new : Finding) : Type 0 where
  pub equal : (entry : Entry)
      → new.equal entry ≡ option_or (old.equal entry) (if same_text key entry.key && is_this value entry.value then Some r else None)
  pub wildcard : (entry : Entry)
      → new.wildcard entry ≡ option_or (old.wildcard entry)
      (if same_text key entry.key && is_wildcard_for value entry.value then Some r else None)
  pub alone : (entry : Entry)
      → new.alone entry ≡ option_or (old.alone entry) (if same_text key entry.key && is_absent value then Some r else None)

-- the names of a node
abbrev pub names_of : NodeFields → RuleNames
names_of node = record { name = node.name; replaces = node.replaces }

abbrev mutual
  -- the names of a node and of those below it, in preorder
  pub branch_names : Branch → List RuleNames
  branch_names (branch node below) = names_of node ∷ level_names below

  -- those of a level
  pub level_names : Branches → List RuleNames
  level_names no_branches = []
  level_names (and_branch b more) = branch_names b ++ level_names more

-- those of a configuration
abbrev pub tree_names : List DomainTree → List RuleNames
tree_names trees = flat_map (λ t. level_names t.forest) trees

-- levels with others behind them
pub record Extends (old new : List Level) : Type 0 where
  pub more : List Level
  pub is : new ≡ old ++ more

-- what a node put into a level leads to
pub record PutsNode (levels : List Level) (number : ℕ) (b : Branch) (old new : Finding) : Type 0 where
  pub reached : Reached
  pub reaches : Reaches levels reached (record { number = number; node = fields_of b; below = below_of b })
  pub puts : Puts (fields_of b).key (fields_of b).value reached old new

-- both are none, or the level stands for the nodes of the tree
abbrev pub AgreeTree : List Level → Option ℕ → Option NumberedTree → Type 0
AgreeTree levels None None = ⊤
AgreeTree levels (Some index) (Some t) = IsLevel levels index t.number t.tree.forest
AgreeTree levels index t = ⊥
