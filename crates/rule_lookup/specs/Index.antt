-- Inside: what an index holds of the trees of a configuration.
use Rattle.std.specs.Prelude.{◌≡◌, ℕ, List, [], ◌∷◌, find, Bool, true, false, Option, Some, None, if◌then◌else◌}
use Rattle.std.specs.List.{list_any}
use Rattle.indexmap.specs.IndexMap.{get}
use Rattle.rate_types.specs.Counters.{same_text}
use Rattle.descriptor_tree.specs.Trees.{DomainTree}
use Rattle.rule_lookup.specs.declared.names.RuleNames.{RuleNames}
use Rattle.rule_lookup.specs.declared.roots.Roots.{Roots}
use Rattle.rule_lookup.specs.Rule.{numbered_trees}
use Rattle.rule_lookup.specs.declared.found.Found.{Found}
use Rattle.rule_lookup.specs.declared.found.Found.TheVariants.{NoRule}
use Rattle.rule_lookup.specs.Replaces.{is_named_in, found_replaces}
use Rattle.rule_lookup.specs.Level.{AgreeTree, tree_names}

-- each domain leads to the first level of its tree, and the names are those of the nodes
pub record HoldsTrees (roots : Roots) (trees : List DomainTree) : Type 0 where
  pub first : (domain : List ℕ)
      → AgreeTree roots.levels.levels.items (get same_text roots.domains domain)
      (find (λ t. same_text t.tree.domain domain) (numbered_trees 0 trees))
  pub names : roots.levels.names.items ≡ tree_names trees

-- the second one's name is among those that the first one replaces
abbrev pub replaces_names : Option RuleNames → Option RuleNames → Bool
replaces_names None other = false
replaces_names (Some one) None = false
replaces_names (Some one) (Some other) = is_named_in one.replaces other.name

-- the list has an item
abbrev pub has_some : List (List ℕ) → Bool
has_some [] = false
has_some (name ∷ names) = true

-- a rule, but none where one of these replaces it
abbrev pub unless_replaced : List DomainTree → List Found → Found → Found
unless_replaced trees rules found = if list_any (λ r. found_replaces trees r found) rules then NoRule else found
