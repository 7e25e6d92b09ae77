-- What a configuration prints has no float, and how big its trees are.
use Rattle.std.proofs.Common.{◌≡◌, ℕ, zero, suc, ◌+◌, ◌≤◌, ◌<◌, ◌||◌, List, [], ◌∷◌, map, length, get_or, Bool, true, false, Option, Some, None, option_map, refl, arith}
use Rattle.rate_types.specs.declared.unit.Unit.TheVariants.{Second, Minute, Hour, Day}
use Rattle.serde_json.specs.Data.{Data, object, string, Items, no_items, item, Members}
use Rattle.serde_json.specs.Written.{has_float, items_have_float, members_have_float}
use Rattle.descriptor_tree.specs.declared.policy.Policy.{Policy}
use Rattle.descriptor_tree.specs.declared.policy.Policy.TheVariants.{Limited, Unlimited}
use Rattle.descriptor_tree.specs.declared.node.Node.{Node}
use Rattle.descriptor_tree.specs.Trees.{NodeFields, Branch, branch, Branches, no_branches, and_branch, branches_of, node_view, DomainTree}
use Rattle.config_json.specs.Printed.{and_member, members_there, text_there, number_there, true_there, list_there, names_json, rule_json, rule_there, node_members, branch_json}
use Rattle.config_json.specs.Printed.{branches_json, tree_json}

-- ---- no float

-- a value that is left out, or has no float
abbrev Plain : Option Data → Type 0
Plain None = Unit {0}
Plain (Some d) = has_float d ≡ false

either : (a b : Bool) → a ≡ false → b ≡ false → (a || b) ≡ false
either true b x y = x
either false b x y = y

plain_member : (name : List ℕ) (o : Option Data) (more : Members) → Plain o → members_have_float more ≡ false → members_have_float (and_member name o more) ≡ false
plain_member name None more here rest = rest
plain_member name (Some d) more here rest = either (has_float d) (members_have_float more) here rest

plain_list : (ds : Items) → items_have_float ds ≡ false → Plain (list_there ds)
plain_list no_items is = tt
plain_list (item d ds) is = is

plain_text : (s : List ℕ) → Plain (text_there s)
plain_text [] = tt
plain_text (b ∷ bs) = refl

plain_number : (n : ℕ) → Plain (number_there n)
plain_number zero = tt
plain_number (suc n) = refl

plain_true : (b : Bool) → Plain (true_there b)
plain_true true = refl
plain_true false = tt

plain_string : (o : Option (List ℕ)) → Plain (option_map string o)
plain_string None = tt
plain_string (Some s) = refl

plain_names : (ns : List (List ℕ)) → items_have_float (names_json ns) ≡ false
plain_names [] = refl
plain_names (n ∷ ns) = plain_names ns

plain_rule : (node : NodeFields) → Plain (rule_there node)
plain_rule node = by node.policy
  where
    by : (p : Option Policy) → Plain (option_map (λ q. rule_json q node.name node.replaces) p)
    by None = tt
    by (Some Unlimited) = plain_member _ _ _ (plain_string node.name) (plain_member _ _ _ (plain_list (names_json node.replaces) (plain_names node.replaces)) refl)
    by (Some (Limited limit Second)) =
        plain_member _ _ _ (plain_string node.name) (plain_member _ _ _ (plain_list (names_json node.replaces) (plain_names node.replaces))
        (plain_member _ _ _ (plain_number limit) refl))
    by (Some (Limited limit Minute)) =
        plain_member _ _ _ (plain_string node.name) (plain_member _ _ _ (plain_list (names_json node.replaces) (plain_names node.replaces))
        (plain_member _ _ _ (plain_number limit) refl))
    by (Some (Limited limit Hour)) =
        plain_member _ _ _ (plain_string node.name) (plain_member _ _ _ (plain_list (names_json node.replaces) (plain_names node.replaces))
        (plain_member _ _ _ (plain_number limit) refl))
    by (Some (Limited limit Day)) =
        plain_member _ _ _ (plain_string node.name) (plain_member _ _ _ (plain_list (names_json node.replaces) (plain_names node.replaces))
        (plain_member _ _ _ (plain_number limit) refl))

plain_node : (node : NodeFields) (below : Option Data) → Plain below → has_float (object (members_there (node_members node below))) ≡ false
plain_node node below is =
    plain_member _ below _ is (plain_member _ (text_there node.key) _ (plain_text node.key)
    (plain_member _ (rule_there node) _ (plain_rule node) (plain_member _ (true_there node.shadow) _ (plain_true node.shadow)
    (plain_member _ (option_map string node.value) _ (plain_string node.value) refl))))

mutual
  plain_branch : (b : Branch) → has_float (branch_json b) ≡ false
  plain_branch (branch node below) = plain_node node (list_there (branches_json below)) (plain_list (branches_json below) (plain_branches below))

  plain_branches : (bs : Branches) → items_have_float (branches_json bs) ≡ false
  plain_branches no_branches = refl
  plain_branches (and_branch b more) = either (has_float (branch_json b)) (items_have_float (branches_json more)) (plain_branch b) (plain_branches more)

pub no_float : (tree : DomainTree) → has_float (tree_json tree) ≡ false
unfolding tree_json
no_float tree = plain_member _ (list_there (branches_json tree.forest)) _ (plain_list (branches_json tree.forest) (plain_branches tree.forest))
    (plain_member _ (text_there tree.domain) _ (plain_text tree.domain) refl)

-- ---- how many nodes there are

abbrev mutual
  pub weight : Branch → ℕ
  weight (branch node below) = suc (weights below)

  pub weights : Branches → ℕ
  weights no_branches = 0
  weights (and_branch b more) = weight b + weights more

pub weight_at : (nodes : List Node) (i : ℕ) (d : Node) → i < length nodes → weight (node_view (get_or nodes i d)) ≤ weights (branches_of (map node_view nodes))
weight_at [] i d h = absurd (omega arith)
weight_at (n ∷ nodes) zero d h = omega arith
weight_at (n ∷ nodes) (suc i) d h = omega (arith, weight_at nodes i d (omega arith))
