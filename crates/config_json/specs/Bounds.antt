-- What the types of a node bound: texts have at most 1,024 bytes, and a limit is below 2^32.
use Rattle.std.specs.Prelude.{◌≤◌, ℕ, List, length, Option, Some, None, ⊤}
use Rattle.std.specs.List.{All}
use Rattle.rate_types.specs.declared.limits.TheConstants.{LONGEST_TEXT}
use Rattle.descriptor_tree.specs.declared.policy.Policy.{Policy}
use Rattle.descriptor_tree.specs.declared.policy.Policy.TheVariants.{Limited, Unlimited}
use Rattle.descriptor_tree.specs.Trees.{NodeFields, Branch, branch, Branches, no_branches, and_branch}

abbrev pub IsShort : Option (List ℕ) → Type 0
IsShort None = ⊤
IsShort (Some s) = length s ≤ LONGEST_TEXT

abbrev pub IsSmall : Option Policy → Type 0
IsSmall None = ⊤
IsSmall (Some Unlimited) = ⊤
IsSmall (Some (Limited limit u)) = limit ≤ 4294967295

-- the bounds of a node's own fields
pub record IsBounded (node : NodeFields) : Type 0 where
  pub key_short : length node.key ≤ LONGEST_TEXT
  pub value_short : IsShort node.value
  pub name_short : IsShort node.name
  pub replaced_short : All (λ n. length n ≤ LONGEST_TEXT) node.replaces
  pub limit_small : IsSmall node.policy

abbrev mutual
  -- a node within its bounds, and so is each node below it
  pub IsBoundedBranch : Branch → Type 0
  IsBoundedBranch (branch node below) = IsBounded node × AreBounded below

  pub AreBounded : Branches → Type 0
  AreBounded no_branches = ⊤
  AreBounded (and_branch b more) = IsBoundedBranch b × AreBounded more
