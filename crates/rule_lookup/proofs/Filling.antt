-- A level while it is filled: the nodes before an index are in it.
use Rattle.std.proofs.Common.{◌≡◌, ℕ, zero, suc, ◌+◌, ◌≤◌, ◌<◌, List, [], ◌∷◌, ◌++◌, length, map, drop, get_or, refl, sym, ap, ◌∙◌, subst, add-one, append_assoc}
use Rattle.std.proofs.Common.{append-nil, length-append, arith}
use Rattle.std.proofs.Math.Seq.{drop-cons}
use Rattle.std.proofs.lemmas.List.{drop_all}
use Rattle.rate_types.specs.declared.limits.TheConstants.{MOST_NODES}
use Rattle.descriptor_tree.specs.declared.node.Node.{Node}
use Rattle.descriptor_tree.specs.Trees.{Branch, branch, Branches, branches_of, fields_of, below_of, node_view}
use Rattle.rule_lookup.specs.declared.level.Level.{Level}
use Rattle.rule_lookup.specs.declared.level.Level.TheVariants.{Empty}
use Rattle.rule_lookup.specs.declared.names.RuleNames.{RuleNames}
use Rattle.rule_lookup.specs.declared.found.Found.{Found}
use Rattle.rule_lookup.specs.Rule.{NumberedNode, numbered, size_of, policy_rule}
use Rattle.rule_lookup.specs.Level.{Finding, finding_of, IsLevel, Holds, Extends, Puts, PutsNode, branch_names, level_names}
use Rattle.rule_lookup.proofs.Walks.{holds_stays, holds_more, level_added}
use Rattle.rule_lookup.proofs.Numbers.{size_names}

-- the nodes of a list, as a level
abbrev pub level_of : List Node → Branches
level_of nodes = branches_of (map node_view nodes)

pub record Filled (nodes : List Node) (index : ℕ) (old_names names : List RuleNames) (old levels : List Level) (level : Level) : Type 0 where
  pub done : List NumberedNode
  pub split : numbered (length old_names) (level_of nodes) ≡ done ++ numbered (length names) (level_of (drop index nodes))
  pub holds : Holds levels (finding_of level) done
  pub grows : Extends old levels
  pub names_are : names ++ level_names (level_of (drop index nodes)) ≡ old_names ++ level_names (level_of nodes)
  pub few : length old_names + length (level_names (level_of nodes)) ≤ MOST_NODES

pub filled_none : (nodes : List Node) (names : List RuleNames) (levels : List Level)
    → length names + length (level_names (level_of nodes)) ≤ MOST_NODES → Filled nodes 0 names names levels levels Empty
filled_none nodes names levels few = record {
  done = [];
  split = refl;
  holds = record {
    equal = λ e. tt;
    wildcard = λ e. tt;
    alone = λ e. tt;
  };
  grows = record { more = []; is = sym (append-nil levels) };
  names_are = refl;
  few = few;
}

rest_node : (nodes : List Node) (i : ℕ) (node : Node) → i < length nodes → node ≡ get_or nodes i node → drop i nodes ≡ node ∷ drop (i + 1) nodes
rest_node nodes i node within at = rw (add-one i) (drop-cons nodes i node within ∙ ap (λ (x : Node). x ∷ drop (suc i) nodes) (sym at))

-- a node is no larger than its level
pub node_size : (nodes : List Node) (i : ℕ) (node : Node) → i < length nodes → node ≡ get_or nodes i node
    → length (branch_names (node_view node)) ≤ length (level_names (level_of nodes))
node_size [] i node within at = absurd (omega arith)
node_size (n ∷ ns) zero node within at = omega (
  arith,
  ap (λ (m : Node). length (branch_names (node_view m))) at,
  length-append (branch_names (node_view n)) (level_names (level_of ns)),
)
node_size (n ∷ ns) (suc i) node within at = omega (
  arith,
  node_size ns i node (omega arith) at,
  length-append (branch_names (node_view n)) (level_names (level_of ns)),
)

-- and larger than the nodes below it
pub below_size : (b : Branch) → length (level_names (below_of b)) < length (branch_names b)
below_size (branch node below) = omega arith

module _ (nodes : List Node) (i : ℕ) (old_names names : List RuleNames) (old levels : List Level) (level : Level) (node : Node)
    (w : Filled nodes i old_names names old levels level) (within : i < length nodes) (at : node ≡ get_or nodes i node) where
  names_here : names ++ (branch_names (node_view node) ++ level_names (level_of (drop (i + 1) nodes))) ≡ old_names ++ level_names (level_of nodes)
  names_here = ap (λ (ns : List Node). names ++ level_names (level_of ns)) (sym (rest_node nodes i node within at)) ∙ w.names_are

  pub node_few : length names + length (branch_names (node_view node)) ≤ MOST_NODES
  node_few = omega (
    arith,
    w.few,
    ap length names_here,
    length-append names (branch_names (node_view node) ++ level_names (level_of (drop (i + 1) nodes))),
    length-append (branch_names (node_view node)) (level_names (level_of (drop (i + 1) nodes))),
    length-append old_names (level_names (level_of nodes)),
  )

  pub filled_more : (names_after : List RuleNames) (levels_after : List Level) (level_after : Level)
      → PutsNode levels_after (length names) (node_view node) (finding_of level) (finding_of level_after)
      → Extends levels levels_after → names_after ≡ names ++ branch_names (node_view node) → Filled nodes (i + 1) old_names names_after old levels_after level_after
  filled_more names_after levels_after level_after puts more is = record {
    done = w.done ++ here ∷ [];
    split = w.split ∙ ap (λ (ns : List Node). w.done ++ numbered (length names) (level_of ns)) (rest_node nodes i node within at)
        ∙ sym (append_assoc w.done (here ∷ []) (numbered (length names + size_of (node_view node)) rest))
        ∙ ap (λ n. (w.done ++ here ∷ []) ++ numbered n rest)
        (sym (ap length is ∙ length-append names (branch_names (node_view node)) ∙ ap (λ n. length names + n) (size_names (node_view node))));
    holds = holds_more levels_after (finding_of level) (finding_of level_after) w.done here puts.reached puts.reaches puts.puts
        (holds_stays levels levels_after (finding_of level) w.done more w.holds);
    grows = record { more = w.grows.more ++ more.more; is = more.is ∙ ap (λ ls. ls ++ more.more) w.grows.is ∙ append_assoc old w.grows.more more.more };
    names_are = ap (λ ns. ns ++ level_names rest) is ∙ append_assoc names (branch_names (node_view node)) (level_names rest) ∙ names_here;
    few = w.few;
  }
    where
      here : NumberedNode
      here = record { number = length names; node = fields_of (node_view node); below = below_of (node_view node) }

      rest : Branches
      rest = level_of (drop (i + 1) nodes)

module _ (nodes : List Node) (i : ℕ) (old_names names : List RuleNames) (old levels : List Level) (level : Level)
    (w : Filled nodes i old_names names old levels level) (all : length nodes ≤ i) where
  pub filled_level : (after : List Level) → after ≡ levels ++ level ∷ [] → IsLevel after (length levels) (length old_names) (level_of nodes)
  filled_level after is = rw is (level_added levels level (length old_names) (level_of nodes)
      (subst (Holds levels (finding_of level)) (sym (w.split
      ∙ ap (λ (ns : List Node). w.done ++ numbered (length names) (level_of ns)) (drop_all i nodes all) ∙ append-nil w.done)) w.holds))

  pub filled_grows : (after : List Level) → after ≡ levels ++ level ∷ [] → Extends old after
  filled_grows after is = record {
    more = w.grows.more ++ level ∷ [];
    is = is ∙ ap (λ ls. ls ++ level ∷ []) w.grows.is ∙ append_assoc old w.grows.more (level ∷ []);
  }

  pub filled_names : names ≡ old_names ++ level_names (level_of nodes)
  filled_names = sym (append-nil names) ∙ ap (λ (ns : List Node). names ++ level_names (level_of ns)) (sym (drop_all i nodes all)) ∙ w.names_are

-- what a node put into its level leads to
pub node_put : (b : Branch) (old_names names : List RuleNames) (levels : List Level) (old new : Finding) (found : Found) (below : ℕ) (mine : RuleNames)
    → found ≡ policy_rule (length old_names) (fields_of b).shadow (fields_of b).policy → names ≡ old_names ++ mine ∷ []
    → IsLevel levels below (length names) (below_of b)
    → Puts (fields_of b).key (fields_of b).value (record { found = found; below = below }) old new → PutsNode levels (length old_names) b old new
node_put b old_names names levels old new found below mine says is level puts = record {
  reached = record { found = found; below = below };
  reaches = record {
    found = says;
    below = subst (λ (n : ℕ). IsLevel levels below n (below_of b)) next level;
  };
  puts = puts;
}
  where
    next : length names ≡ length old_names + 1
    next = ap length is ∙ length-append old_names (mine ∷ []) ∙ omega arith
