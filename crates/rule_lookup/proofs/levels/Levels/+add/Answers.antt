use Rattle.std.proofs.Common.{rules, ℕ, Option, ◌≡◌, ◌+◌, ◌≤◌, List, length, sym, subst, arith}
use Rattle.rate_types.specs.declared.limits.TheConstants.{MOST_NODES}
use Rattle.descriptor_tree.specs.Trees.{Branches, node_view, forest_view, fields_of, below_of}
use Rattle.rule_lookup.specs.Level.{IsLevel, Puts, finding_of, level_names, branch_names}
use Rattle.rule_lookup.proofs.Filling.{filled_none, node_size, node_few, node_put, filled_more, filled_level, filled_grows, level_of}
use Rattle.rule_lookup.proofs.levels.Levels.+add.Goals as goal

pub add_level-nodes-init : goal.add_level-nodes-init
add_level-nodes-init t c = filled_none c.items-nodes.result.now c.args.self.now.names.items c.args.self.now.levels.items
    (subst (λ (f : Branches). length c.args.self.now.names.items + length (level_names f) ≤ MOST_NODES) c.items-nodes.ensures c.requires)

pub add_level-add_node-requires : goal.add_level-add_node-requires
add_level-add_node-requires t c =
    let at : length (branch_names (node_view c.index-nodes-index.result)) ≤ length (level_names (level_of c.items-nodes.result.now)) =
    node_size c.items-nodes.result.now c.nodes.index c.index-nodes-index.result c.nodes-test.true c.index-nodes-index.is in
    let less : length (branch_names (node_view c.index-nodes-index.result)) ≤ length (level_names (forest_view c.args.forest.now)) =
    subst (λ (f : Branches). length (branch_names (node_view c.index-nodes-index.result)) ≤ length (level_names f)) (sym c.items-nodes.ensures) at in (
      omega arith,
      node_few c.items-nodes.result.now c.nodes.index c.args.self.now.names.items c.nodes.self.names.items c.args.self.now.levels.items c.nodes.self.levels.items
          c.nodes.level c.index-nodes-index.result c.nodes.invariant c.nodes-test.true c.index-nodes-index.is,
    )

pub add_level-nodes-preserved : goal.add_level-nodes-preserved
add_level-nodes-preserved t c =
    filled_more c.items-nodes.result.now c.nodes.index c.args.self.now.names.items c.nodes.self.names.items c.args.self.now.levels.items c.nodes.self.levels.items
    c.nodes.level c.index-nodes-index.result c.nodes.invariant c.nodes-test.true c.index-nodes-index.is c.add_node.new.self.names.items c.add_node.new.self.levels.items
    c.add_node.new.level c.in_ok-add_node.ensures.puts c.in_ok-add_node.ensures.grows c.in_ok-add_node.ensures.names

pub add_level-returns-clause-level : goal.add_level-returns-clause-level
add_level-returns-clause-level t c =
    let level : IsLevel c.push.new.self.items (length c.nodes.self.levels.items) (length c.args.self.now.names.items) (level_of c.items-nodes.result.now) =
    filled_level c.items-nodes.result.now c.nodes.index c.args.self.now.names.items c.nodes.self.names.items c.args.self.now.levels.items c.nodes.self.levels.items
    c.nodes.level c.nodes.invariant c.nodes-test.false c.push.new.self.items c.in_ok-push.ensures.items in
    let index : c.len-index.result ≡ length c.nodes.self.levels.items = search rules in
    subst (λ (f : Branches). IsLevel c.push.new.self.items c.len-index.result (length c.args.self.now.names.items) f) (sym c.items-nodes.ensures)
    (subst (λ (n : ℕ). IsLevel c.push.new.self.items n (length c.args.self.now.names.items) (level_of c.items-nodes.result.now)) (sym index) level)

pub add_level-returns-clause-grows : goal.add_level-returns-clause-grows
add_level-returns-clause-grows t c =
    filled_grows c.items-nodes.result.now c.nodes.index c.args.self.now.names.items c.nodes.self.names.items c.args.self.now.levels.items c.nodes.self.levels.items
    c.nodes.level c.nodes.invariant c.nodes-test.false c.push.new.self.items c.in_ok-push.ensures.items

pub add_node-returns-clause-puts : goal.add_node-returns-clause-puts
add_node-returns-clause-puts t c =
    let level : IsLevel c.add_level.new.self.levels.items c.in_ok-below.below (length c.push.new.self.items) (below_of (node_view c.args.node.now)) =
    subst (λ (f : Branches). IsLevel c.add_level.new.self.levels.items c.in_ok-below.below (length c.push.new.self.items) f) c.below_of.ensures c.in_ok-below.ensures.level in
    let value : Puts c.in_ok-key.key (fields_of (node_view c.args.node.now)).value
    (record { found = c.rule_at-found.result; below = c.in_ok-below.below }) (finding_of c.args.level.now)
    (finding_of c.put.new.self) =
    subst (λ (v : Option (List ℕ)). Puts c.in_ok-key.key v (record { found = c.rule_at-found.result; below = c.in_ok-below.below }) (finding_of c.args.level.now)
    (finding_of c.put.new.self))
    c.in_ok-value.ensures c.in_ok-put.ensures in
    node_put (node_view c.args.node.now) c.args.self.now.names.items c.push.new.self.items c.add_level.new.self.levels.items
    (finding_of c.args.level.now) (finding_of c.put.new.self)
    c.rule_at-found.result c.in_ok-below.below c.in_ok-of.field-0 (search rules) c.in_ok-push.ensures.items level
    (subst (λ (k : List ℕ). Puts k (fields_of (node_view c.args.node.now)).value
    (record { found = c.rule_at-found.result; below = c.in_ok-below.below }) (finding_of c.args.level.now)
    (finding_of c.put.new.self))
    c.in_ok-key.ensures value)
