-- What an index finds is the rule, and what it says of two rules is what their nodes say.
use Rattle.std.proofs.Common.{◌≡◌, ℕ, ◌+◌, ◌≤◌, ◌<◌, List, [], ◌∷◌, ◌++◌, length, map, drop, get_or, suc, Option, Some, None, cond, option_map, find, refl, sym, ap}
use Rattle.std.proofs.Common.{◌∙◌, subst, append-nil, append_assoc}
use Rattle.std.proofs.Common.{add-one, length-append, arith, Bool, true, false}
use Rattle.std.proofs.Math.Seq.{drop-cons}
use Rattle.std.proofs.lemmas.List.{drop_all, length-map}
use Rattle.std.proofs.lemmas.List.Folds.{find-append}
use Rattle.std.proofs.lemmas.Option.{slice_get-map}
use Rattle.std.specs.List.{slice_get}
use Rattle.std.specs.Option.{option_or, option_map_or}
use Rattle.indexmap.specs.IndexMap.{get}
use Rattle.rate_types.specs.Counters.{same_text}
use Rattle.rate_types.specs.declared.entries.Entry.{Entry}
use Rattle.rate_types.specs.declared.limits.TheConstants.{MOST_NODES}
use Rattle.descriptor_tree.specs.declared.tree.Tree.{Tree}
use Rattle.descriptor_tree.specs.Trees.{NodeFields, DomainTree, tree_view}
use Rattle.descriptor_tree.specs.Nodes.{PlacedNode, config_nodes, tree_nodes}
use Rattle.rule_lookup.specs.declared.found.Found.TheVariants.{NoRule}
use Rattle.rule_lookup.specs.declared.level.Level.{Level}
use Rattle.rule_lookup.specs.declared.names.RuleNames.{RuleNames}
use Rattle.rule_lookup.specs.declared.roots.Roots.{Roots}
use Rattle.rule_lookup.specs.Rule.{NumberedTree, numbered_trees, rule_from}
use Rattle.rule_lookup.specs.Replaces.{replaces, node_at, rule_name, names_replaced, is_named_in}
use Rattle.rule_lookup.specs.Level.{names_of, walk, IsLevel, AgreeTree, Extends, tree_names, level_names}
use Rattle.rule_lookup.specs.Index.{HoldsTrees, replaces_names}
use Rattle.rule_lookup.proofs.Walks.{level_stays}
use Rattle.rule_lookup.proofs.Numbers.{names_config, tree_size}

-- from the first level of a domain
pub walk_is_rule : (levels : List Level) (first : ℕ) (t : Option NumberedTree) (entries : List Entry) → AgreeTree levels (Some first) t
    → walk levels entries NoRule first ≡ option_map_or (λ u. rule_from entries NoRule u.number u.tree.forest) t NoRule
walk_is_rule levels first None entries is = absurd is
walk_is_rule levels first (Some t) entries is = ap (λ ls. walk ls entries NoRule first) (sym (append-nil levels)) ∙ is [] entries NoRule

-- ---- names

abbrev names_at : PlacedNode → RuleNames
names_at s = names_of s.node

at_node : (o : Option PlacedNode) → option_map names_at o ≡ option_map names_of (option_map (λ s. s.node) o)
at_node None = refl
at_node (Some s) = refl

pub names_at_number : (trees : List DomainTree) (names : List RuleNames) (number : ℕ) → names ≡ tree_names trees → slice_get names number
    ≡ option_map names_of (node_at trees number)
names_at_number trees names number are = ap (λ ns. slice_get ns number) (are ∙ sym (names_config trees))
    ∙ slice_get-map names_at (config_nodes trees) number
    ∙ at_node (slice_get (config_nodes trees) number)

none_in : (name : Option (List ℕ)) → false ≡ is_named_in [] name
none_in None = refl
none_in (Some name) = refl

pub by_nodes : (one other : Option NodeFields) → replaces_names (option_map names_of one) (option_map names_of other) ≡ is_named_in (names_replaced one) (rule_name other)
by_nodes None other = none_in (rule_name other)
by_nodes (Some one) None = refl
by_nodes (Some one) (Some other) = refl

pub names_replace : (trees : List DomainTree) (names : List RuleNames) (one other : ℕ) → names ≡ tree_names trees
    → replaces_names (slice_get names one) (slice_get names other) ≡ replaces trees one other
names_replace trees names one other are = ap (λ o. replaces_names o (slice_get names other)) (names_at_number trees names one are)
    ∙ ap (λ o. replaces_names (option_map names_of (node_at trees one)) o) (names_at_number trees names other are)
    ∙ by_nodes (node_at trees one) (node_at trees other)

pub names_few : (trees : List DomainTree) → length (config_nodes trees) ≤ MOST_NODES → length (tree_names trees) ≤ MOST_NODES
names_few trees few = omega (arith, few, ap length (names_config trees), length-map (config_nodes trees) names_at)

-- ---- the walk over the trees

abbrev of_domain : List ℕ → NumberedTree → Bool
of_domain domain t = same_text t.tree.domain domain

pub record Rooted (trees : List Tree) (index : ℕ) (first_of : List ℕ → Option ℕ) (names : List RuleNames) (levels : List Level) : Type 0 where
  pub done : List NumberedTree
  pub split : numbered_trees 0 (map tree_view trees) ≡ done ++ numbered_trees (length names) (map tree_view (drop index trees))
  pub first : (domain : List ℕ) → AgreeTree levels (first_of domain) (find (λ t. same_text t.tree.domain domain) done)
  pub names_are : names ++ tree_names (map tree_view (drop index trees)) ≡ tree_names (map tree_view trees)
  pub few : length (tree_names (map tree_view trees)) ≤ MOST_NODES

rest_tree : (trees : List Tree) (i : ℕ) (tree : Tree) → i < length trees → tree ≡ get_or trees i tree → drop i trees ≡ tree ∷ drop (i + 1) trees
rest_tree trees i tree within at = rw (add-one i) (drop-cons trees i tree within ∙ ap (λ (x : Tree). x ∷ drop (suc i) trees) (sym at))

agree_stays : (old new : List Level) (index : Option ℕ) (t : Option NumberedTree) → Extends old new → AgreeTree old index t → AgreeTree new index t
agree_stays old new None None grows is = tt
agree_stays old new (Some index) (Some t) grows is = level_stays old new index t.number t.tree.forest grows is
agree_stays old new None (Some t) grows is = is
agree_stays old new (Some index) None grows is = is

agree_last : (levels : List Level) (index : Option ℕ) (t : Option NumberedTree) (first : ℕ) (here : NumberedTree) (b : Bool) → IsLevel levels first here.number here.tree.forest
    → AgreeTree levels index t → AgreeTree levels (option_or index (cond b (Some first) None)) (option_or t (cond b (Some here) None))
agree_last levels None None first here true level is = level
agree_last levels None None first here false level is = tt
agree_last levels (Some index) (Some t) first here b level is = is
agree_last levels None (Some t) first here b level is = absurd is
agree_last levels (Some index) None first here b level is = absurd is

module _ (trees : List Tree) (i : ℕ) (first_of : List ℕ → Option ℕ) (names : List RuleNames) (levels : List Level) (tree : Tree)
    (w : Rooted trees i first_of names levels) (within : i < length trees) (at : tree ≡ get_or trees i tree) where
  here : NumberedTree
  here = record { number = length names; tree = tree_view tree }

  rest : List DomainTree
  rest = map tree_view (drop (i + 1) trees)

  names_here : names ++ (level_names (tree_view tree).forest ++ tree_names (map tree_view (drop (i + 1) trees))) ≡ tree_names (map tree_view trees)
  names_here = ap (λ (ts : List Tree). names ++ tree_names (map tree_view ts)) (sym (rest_tree trees i tree within at)) ∙ w.names_are

  pub tree_few : length names + length (level_names (tree_view tree).forest) ≤ MOST_NODES
  tree_few = omega (
    arith,
    w.few,
    ap length names_here,
    length-append names (level_names (tree_view tree).forest ++ tree_names (map tree_view (drop (i + 1) trees))),
    length-append (level_names (tree_view tree).forest) (tree_names (map tree_view (drop (i + 1) trees))),
  )

  pub rooted_more : (after : List ℕ → Option ℕ) (names_after : List RuleNames) (levels_after : List Level) (first : ℕ)
      → ((d : List ℕ) → after d ≡ option_or (first_of d) (cond (same_text tree.domain d) (Some first) None)) → IsLevel levels_after first (length names) (tree_view tree).forest
      → Extends levels levels_after → names_after ≡ names ++ level_names (tree_view tree).forest → Rooted trees (i + 1) after names_after levels_after
  rooted_more after names_after levels_after first puts level more is = record {
    done = w.done ++ record { number = length names; tree = tree_view tree } ∷ [];
    split = w.split ∙ ap (λ (ts : List Tree). w.done ++ numbered_trees (length names) (map tree_view ts)) (rest_tree trees i tree within at)
        ∙ sym (append_assoc w.done (record { number = length names; tree = tree_view tree } ∷ [])
        (numbered_trees (length names + length (tree_nodes (tree_view tree))) (map tree_view (drop (i + 1) trees))))
        ∙ ap (λ n. (w.done ++ record { number = length names; tree = tree_view tree } ∷ []) ++ numbered_trees n (map tree_view (drop (i + 1) trees)))
        (sym (ap length is ∙ length-append names (level_names (tree_view tree).forest) ∙ ap (λ n. length names + n) (tree_size (tree_view tree))));
    first = λ d. subst (λ (o : Option ℕ). AgreeTree levels_after o (find (of_domain d) (w.done ++ record { number = length names; tree = tree_view tree } ∷ []))) (sym (puts d))
        (subst (λ (o : Option NumberedTree). AgreeTree levels_after (option_or (first_of d) (cond (same_text tree.domain d) (Some first) None)) o)
        (sym (find-append (of_domain d) w.done (record { number = length names; tree = tree_view tree } ∷ [])))
        (agree_last levels_after (first_of d) (find (of_domain d) w.done) first (record { number = length names; tree = tree_view tree }) (same_text tree.domain d) level
        (agree_stays levels levels_after (first_of d) (find (of_domain d) w.done) more (w.first d))));
    names_are = ap (λ ns. ns ++ tree_names (map tree_view (drop (i + 1) trees))) is
        ∙ append_assoc names (level_names (tree_view tree).forest) (tree_names (map tree_view (drop (i + 1) trees))) ∙ names_here;
    few = w.few;
  }

pub rooted_none : (trees : List Tree) (first_of : List ℕ → Option ℕ) → ((d : List ℕ) → first_of d ≡ None) → length (tree_names (map tree_view trees)) ≤ MOST_NODES
    → Rooted trees 0 first_of [] []
rooted_none trees first_of none few = record { done = []; split = refl; first = λ d. rw (none d) tt; names_are = refl; few = few }

pub rooted_all : (trees : List Tree) (i : ℕ) (roots : Roots) → Rooted trees i (get same_text roots.domains) roots.levels.names.items roots.levels.levels.items → length trees ≤ i
    → HoldsTrees roots (map tree_view trees)
rooted_all trees i roots w all = record {
  first = λ d. subst (λ (ts : List NumberedTree). AgreeTree roots.levels.levels.items (get same_text roots.domains d) (find (of_domain d) ts))
      (sym (w.split ∙ ap (λ (ts : List Tree). w.done ++ numbered_trees (length roots.levels.names.items) (map tree_view ts)) (drop_all i trees all) ∙ append-nil w.done))
      (w.first d);
  names = sym (append-nil roots.levels.names.items) ∙ ap (λ (ts : List Tree). roots.levels.names.items ++ tree_names (map tree_view ts)) (sym (drop_all i trees all)) ∙ w.names_are;
}
