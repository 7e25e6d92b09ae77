-- Trees without a fault, whose nodes are well-formed, are a lawful configuration.
use Rattle.std.proofs.Common.{◌≡◌, ◌≢◌, ℕ, ◌+◌, ◌≤◌, ◌<◌, ◌&&◌, ◌||◌, List, [], ◌∷◌, ◌++◌, length, map, Bool, true, false, nat_lt, nat_le, Option, Some, None, refl, sym, ◌∙◌}
use Rattle.std.proofs.Common.{true≢false, length-append, codes, arith}
use Rattle.std.specs.List.{All, AllPairs, list_any}
use Rattle.std.specs.Option.{option_eq}
use Rattle.std.specs.Str.{bytes_eq}
use Rattle.std.proofs.lemmas.Bool.Decides.{nat_tests}
use Rattle.std.proofs.lemmas.List.Elements.{All-nil, All-cons, All-head, All-tail, All-append}
use Rattle.std.proofs.lemmas.List.Kept.{AllPairs-cons}
use Rattle.std.proofs.lemmas.Slice.Eq.{bytes_eq-Decides}
use Rattle.rate_types.specs.Places.{child, item}
use Rattle.rate_types.specs.declared.limits.TheConstants.{DEEPEST_LEVEL, MOST_NODES}
use Rattle.rate_types.specs.declared.refusals.TheConstants.{EMPTY_DOMAIN, TWO_DOMAINS, EMPTY_KEY, TWO_NODES, TOO_DEEP, TOO_MANY_NODES}
use Rattle.descriptor_tree.specs.Trees.{NodeFields, Branch, branch, Branches, no_branches, and_branch, fields_of, DomainTree}
use Rattle.descriptor_tree.specs.Nodes.{PlacedNode, branch_nodes, forest_nodes, tree_nodes, config_nodes}
use Rattle.descriptor_tree.specs.Faults.{is_empty, is_twin, where_true, node_numbers, node_faults, nodes_faults, domain_numbers, domain_faults, trees_faults, config_faults}
use Rattle.descriptor_tree.specs.Faults.{in_file}
use Rattle.descriptor_tree.specs.Config.{IsWellFormed, IsWellFormedBranch, AreWellFormed, IsLawfulNode, IsLawfulConfig}

-- ---- lists that are empty

append_empty : {X : Type 0} (xs ys : List X) → xs ++ ys ≡ [] → (xs ≡ []) × (ys ≡ [])
append_empty [] ys is = (refl, is)
append_empty (x ∷ xs) ys is = cc

map_empty : {X Y : Type 0} (f : X → Y) (xs : List X) → map f xs ≡ [] → xs ≡ []
map_empty f [] is = refl
map_empty f (x ∷ xs) is = cc

where_empty : (b : Bool) (n : ℕ) → where_true b n ≡ [] → b ≡ false
where_empty true n is = cc
where_empty false n is = refl

-- ---- a node

not_empty : (xs : List ℕ) → is_empty xs ≡ false → xs ≢ []
not_empty [] is = λ _. true≢false is
not_empty (x ∷ xs) is = λ e. cc

option_eq_same : (v w : Option (List ℕ)) → v ≡ w → option_eq bytes_eq v w ≡ true
option_eq_same None None is = refl
option_eq_same None (Some w) is = cc
option_eq_same (Some v) None is = cc
option_eq_same (Some v) (Some w) is = (bytes_eq-Decides v w).1 same
  where
    same : v ≡ w
    same = cc

both_true : (a b : Bool) → a ≡ true → b ≡ true → (a && b) ≡ true
both_true true true p q = refl
both_true true false p q = absurd (true≢false (sym q))
both_true false b p q = absurd (true≢false (sym p))

differs : (e node : NodeFields) → is_twin e node ≡ false → e.key ≡ node.key → e.value ≢ node.value
differs e node is key =
    λ value. true≢false (sym
    (both_true (bytes_eq e.key node.key) (option_eq bytes_eq e.value node.value) ((bytes_eq-Decides e.key node.key).1 key) (option_eq_same e.value node.value value)) ∙ is)

or_false : (a b : Bool) → (a || b) ≡ false → (a ≡ false) × (b ≡ false)
or_false true b is = absurd (true≢false is)
or_false false b is = (refl, is)

all_differ : (earlier : List NodeFields) (node : NodeFields) → list_any (λ e. is_twin e node) earlier ≡ false → All (λ e. e.key ≡ node.key → e.value ≢ node.value) earlier
all_differ [] node is = All-nil (λ e. e.key ≡ node.key → e.value ≢ node.value)
all_differ (e ∷ es) node is =
    let both = or_false (is_twin e node) (list_any (λ x. is_twin x node) es) is in
    All-cons (λ x. x.key ≡ node.key → x.value ≢ node.value) e es (differs e node both.0) (all_differ es node both.1)

level_is : (level : ℕ) → nat_lt DEEPEST_LEVEL level ≡ false → level ≤ DEEPEST_LEVEL
level_is level is = grind (arith, nat_tests)

number_is : (number : ℕ) → nat_le MOST_NODES number ≡ false → number < MOST_NODES
number_is number is = grind (arith, nat_tests)

-- what the tests of a node found
record Passes (keyless twin : Bool) (level number : ℕ) : Type 0 where
  keyed : keyless ≡ false
  alone : twin ≡ false
  shallow : level ≤ DEEPEST_LEVEL
  few : number < MOST_NODES

passes : (keyless twin : Bool) (level number : ℕ) → node_numbers keyless twin level number ≡ [] → Passes keyless twin level number
passes keyless twin level number is =
    let one = append_empty (where_true keyless EMPTY_KEY ++ where_true twin TWO_NODES ++ where_true (nat_lt DEEPEST_LEVEL level) TOO_DEEP)
    (where_true (nat_le MOST_NODES number) TOO_MANY_NODES) is in
    let two = append_empty (where_true keyless EMPTY_KEY ++ where_true twin TWO_NODES) (where_true (nat_lt DEEPEST_LEVEL level) TOO_DEEP) one.0 in
    let three = append_empty (where_true keyless EMPTY_KEY) (where_true twin TWO_NODES) two.0 in
    record {
      keyed = where_empty keyless EMPTY_KEY three.0;
      alone = where_empty twin TWO_NODES three.1;
      shallow = level_is level (where_empty (nat_lt DEEPEST_LEVEL level) TOO_DEEP two.1);
      few = number_is number (where_empty (nat_le MOST_NODES number) TOO_MANY_NODES one.1);
    }

node_passes : (number : ℕ) (s : PlacedNode) → node_faults number s ≡ [] → Passes (is_empty s.node.key) (list_any (λ e. is_twin e s.node) s.earlier) s.level number
node_passes number s is = passes _ _ s.level number (map_empty (λ n. record { at = s.place; number = n }) _ is)

node_lawful : (number : ℕ) (s : PlacedNode) → node_faults number s ≡ [] → IsWellFormed s.node → IsLawfulNode s
node_lawful number s is formed =
    let p = node_passes number s is in
    record {
      well_formed = formed;
      key_not_empty = not_empty s.node.key p.keyed;
      siblings_differ = all_differ s.earlier s.node p.alone;
      level_bound = p.shallow;
    }

-- ---- nodes one after the other

nodes_lawful : (number : ℕ) (nodes : List PlacedNode) → nodes_faults number nodes ≡ [] → All (λ s. IsWellFormed s.node) nodes → All IsLawfulNode nodes
nodes_lawful number [] is formed = All-nil IsLawfulNode
nodes_lawful number (s ∷ more) is formed =
    let parts = append_empty (node_faults number s) (nodes_faults (number + 1) more) is in
    All-cons IsLawfulNode s more (node_lawful number s parts.0 (All-head (λ x. IsWellFormed x.node) s more formed))
    (nodes_lawful (number + 1) more parts.1 (All-tail (λ x. IsWellFormed x.node) s more formed))

nodes_few : (number : ℕ) (nodes : List PlacedNode) → nodes_faults number nodes ≡ [] → number ≤ MOST_NODES → number + length nodes ≤ MOST_NODES
nodes_few number [] is few = omega arith
nodes_few number (s ∷ more) is few =
    let parts = append_empty (node_faults number s) (nodes_faults (number + 1) more) is in
    let here : number < MOST_NODES = (node_passes number s parts.0).few in
    let rest : number + 1 + length more ≤ MOST_NODES = nodes_few (number + 1) more parts.1 (omega arith) in
    omega arith

-- ---- trees one after the other

-- trees behind others with these domains, the first of their nodes having this number
pub record Behind (earlier : List (List ℕ)) (number : ℕ) (trees : List DomainTree) : Type 0 where
  pub named : All (λ t. t.domain ≢ []) trees
  pub apart : All (λ t. All (λ d. d ≢ t.domain) earlier) trees
  pub differ : AllPairs (λ t u. t.domain ≢ u.domain) trees
  pub nodes : All IsLawfulNode (config_nodes trees)
  pub few : number + length (config_nodes trees) ≤ MOST_NODES

domain_differs : (d domain : List ℕ) → bytes_eq d domain ≡ false → d ≢ domain
domain_differs d domain is = λ same. true≢false (sym ((bytes_eq-Decides d domain).1 same) ∙ is)

domains_differ : (earlier : List (List ℕ)) (domain : List ℕ) → list_any (λ d. bytes_eq d domain) earlier ≡ false → All (λ d. d ≢ domain) earlier
domains_differ [] domain is = All-nil (λ d. d ≢ domain)
domains_differ (d ∷ ds) domain is =
    let both = or_false (bytes_eq d domain) (list_any (λ x. bytes_eq x domain) ds) is in
    All-cons (λ x. x ≢ domain) d ds (domain_differs d domain both.0) (domains_differ ds domain both.1)

heads : (d : List ℕ) (earlier : List (List ℕ)) (trees : List DomainTree) → All (λ t. All (λ x. x ≢ t.domain) (d ∷ earlier)) trees → All (λ t. d ≢ t.domain) trees
heads d earlier [] all = All-nil (λ t. d ≢ t.domain)
heads d earlier (t ∷ trees) all =
    All-cons (λ u. d ≢ u.domain) t trees (All-head (λ x. x ≢ t.domain) d earlier (All-head (λ u. All (λ x. x ≢ u.domain) (d ∷ earlier)) t trees all))
    (heads d earlier trees (All-tail (λ u. All (λ x. x ≢ u.domain) (d ∷ earlier)) t trees all))

tails : (d : List ℕ) (earlier : List (List ℕ)) (trees : List DomainTree) → All (λ t. All (λ x. x ≢ t.domain) (d ∷ earlier)) trees → All (λ t. All (λ x. x ≢ t.domain) earlier) trees
tails d earlier [] all = All-nil (λ t. All (λ x. x ≢ t.domain) earlier)
tails d earlier (t ∷ trees) all =
    All-cons (λ u. All (λ x. x ≢ u.domain) earlier) t trees (All-tail (λ x. x ≢ t.domain) d earlier (All-head (λ u. All (λ x. x ≢ u.domain) (d ∷ earlier)) t trees all))
    (tails d earlier trees (All-tail (λ u. All (λ x. x ≢ u.domain) (d ∷ earlier)) t trees all))

pub All-first : {X : Type 0} (P : X → Type 0) (xs ys : List X) → All P (xs ++ ys) → All P xs
All-first P [] ys all = All-nil P
All-first P (x ∷ xs) ys all = All-cons P x xs (All-head P x (xs ++ ys) all) (All-first P xs ys (All-tail P x (xs ++ ys) all))

pub All-second : {X : Type 0} (P : X → Type 0) (xs ys : List X) → All P (xs ++ ys) → All P ys
All-second P [] ys all = all
All-second P (x ∷ xs) ys all = All-second P xs ys (All-tail P x (xs ++ ys) all)

tree_parts : (file : ℕ) (earlier : List (List ℕ)) (number : ℕ) (t : DomainTree) (more : List DomainTree) → trees_faults file earlier number (t ∷ more) ≡ []
    → (domain_faults earlier t ≡ []) × (nodes_faults number (tree_nodes t) ≡ []) × (trees_faults (file + 1) (t.domain ∷ earlier) (number + length (tree_nodes t)) more ≡ [])
tree_parts file earlier number t more is =
    let parts = append_empty (map (in_file file) (domain_faults earlier t ++ nodes_faults number (tree_nodes t)))
    (trees_faults (file + 1) (t.domain ∷ earlier) (number + length (tree_nodes t)) more) is in
    let own = append_empty (domain_faults earlier t) (nodes_faults number (tree_nodes t))
    (map_empty (in_file file) (domain_faults earlier t ++ nodes_faults number (tree_nodes t)) parts.0) in
    (own.0, own.1, parts.1)

domain_parts : (earlier : List (List ℕ)) (t : DomainTree) → domain_faults earlier t ≡ [] → (is_empty t.domain ≡ false) × (list_any (λ d. bytes_eq d t.domain) earlier ≡ false)
domain_parts earlier t is =
    let parts = append_empty (where_true (is_empty t.domain) EMPTY_DOMAIN) (where_true (list_any (λ d. bytes_eq d t.domain) earlier) TWO_DOMAINS)
    (map_empty (λ n. record { at = []; number = n }) (domain_numbers (is_empty t.domain) (list_any (λ d. bytes_eq d t.domain) earlier)) is) in
    (where_empty (is_empty t.domain) EMPTY_DOMAIN parts.0, where_empty (list_any (λ d. bytes_eq d t.domain) earlier) TWO_DOMAINS parts.1)

behind : (file : ℕ) (earlier : List (List ℕ)) (number : ℕ) (trees : List DomainTree) → trees_faults file earlier number trees ≡ []
    → All (λ s. IsWellFormed s.node) (config_nodes trees) → number ≤ MOST_NODES → Behind earlier number trees
behind file earlier number [] is formed few = record {
  named = All-nil (λ t. t.domain ≢ []);
  apart = All-nil (λ t. All (λ d. d ≢ t.domain) earlier);
  differ = λ i j d below within. absurd (omega arith);
  nodes = All-nil IsLawfulNode;
  few = omega arith;
}
behind file earlier number (t ∷ more) is formed few =
    let parts = tree_parts file earlier number t more is in
    let domain = domain_parts earlier t parts.0 in
    let rest : Behind (t.domain ∷ earlier) (number + length (tree_nodes t)) more =
    behind (file + 1) (t.domain ∷ earlier) (number + length (tree_nodes t)) more parts.2 (All-second (λ s. IsWellFormed s.node) (tree_nodes t) (config_nodes more) formed)
    (nodes_few number (tree_nodes t) parts.1 few) in
    record {
      named = All-cons (λ u. u.domain ≢ []) t more (not_empty t.domain domain.0) rest.named;
      apart = All-cons (λ u. All (λ d. d ≢ u.domain) earlier) t more (domains_differ earlier t.domain domain.1) (tails t.domain earlier more rest.apart);
      differ = AllPairs-cons (λ u v. u.domain ≢ v.domain) t more (heads t.domain earlier more rest.apart) rest.differ;
      nodes = All-append IsLawfulNode (tree_nodes t) (config_nodes more)
          (nodes_lawful number (tree_nodes t) parts.1 (All-first (λ s. IsWellFormed s.node) (tree_nodes t) (config_nodes more) formed)) rest.nodes;
      few = omega (arith, rest.few, length-append (tree_nodes t) (config_nodes more));
    }

pub faultless_is_lawful : (trees : List DomainTree) → config_faults trees ≡ [] → All (λ s. IsWellFormed s.node) (config_nodes trees) → IsLawfulConfig trees
unfolding config_faults
faultless_is_lawful trees is formed =
    let b = behind 0 [] 0 trees is formed (omega arith) in
    record { domains_not_empty = b.named; domains_differ = b.differ; nodes_lawful = b.nodes; nodes_few = omega (arith, b.few) }

-- ---- well-formed trees have well-formed nodes

mutual
  branch_formed : (place : List ℕ) (level : ℕ) (earlier : List NodeFields) (b : Branch) → IsWellFormedBranch b → All (λ s. IsWellFormed s.node) (branch_nodes place level earlier b)
  branch_formed place level earlier (branch node below) formed =
      All-cons (λ s. IsWellFormed s.node) (record { place = place; level = level; earlier = earlier; node = node })
      (forest_nodes (child place (codes "descriptors")) (level + 1) 0 [] below) formed.0
      (forest_formed (child place (codes "descriptors")) (level + 1) 0 [] below formed.1)

  forest_formed : (place : List ℕ) (level index : ℕ) (earlier : List NodeFields) (bs : Branches) → AreWellFormed bs
      → All (λ s. IsWellFormed s.node) (forest_nodes place level index earlier bs)
  forest_formed place level index earlier no_branches formed = All-nil (λ s. IsWellFormed s.node)
  forest_formed place level index earlier (and_branch b more) formed =
      All-append (λ s. IsWellFormed s.node) (branch_nodes (item place index) level earlier b) (forest_nodes place level (index + 1) (fields_of b ∷ earlier) more)
      (branch_formed (item place index) level earlier b formed.0) (forest_formed place level (index + 1) (fields_of b ∷ earlier) more formed.1)

pub nodes_formed : (trees : List DomainTree) → All (λ t. AreWellFormed t.forest) trees → All (λ s. IsWellFormed s.node) (config_nodes trees)
nodes_formed [] formed = All-nil (λ s. IsWellFormed s.node)
nodes_formed (t ∷ more) formed =
    All-append (λ s. IsWellFormed s.node) (tree_nodes t) (config_nodes more)
    (forest_formed (child [] (codes "descriptors")) 1 0 [] t.forest (All-head (λ u. AreWellFormed u.forest) t more formed))
    (nodes_formed more (All-tail (λ u. AreWellFormed u.forest) t more formed))
