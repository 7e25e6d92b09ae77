use Rattle.std.proofs.Common.{◌≡◌, List, ℕ, Some, None, cond, ap, ◌∙◌}
use Rattle.std.specs.Option.{option_or}
use Rattle.indexmap.specs.IndexMap.{get}
use Rattle.rate_types.specs.Counters.{same_text}
use Rattle.rule_lookup.proofs.Looking.{rooted_more}
use Rattle.rule_lookup.proofs.roots.Roots.of.Goals as goal

pub trees-preserved : goal.trees-preserved
trees-preserved c =
    let puts : (d : List ℕ) → get same_text c.put.new.map d
    ≡ option_or (get same_text c.trees.domains d) (cond (same_text c.index-trees-index.result.domain d) (Some c.in_ok-first.first) None) =
    λ d. c.in_ok-put.ensures d ∙ ap (λ x. option_or (get same_text c.trees.domains d) (cond (same_text x d) (Some c.in_ok-first.first) None)) c.in_ok-copy.ensures in
    rooted_more c.args.trees.now c.trees.index (get same_text c.trees.domains) c.trees.levels.names.items c.trees.levels.levels.items c.index-trees-index.result
    c.trees.invariant c.trees-test.true c.index-trees-index.is (get same_text c.put.new.map) c.add_level.new.self.names.items c.add_level.new.self.levels.items
    c.in_ok-first.first puts c.in_ok-first.ensures.level c.in_ok-first.ensures.grows c.in_ok-first.ensures.names
