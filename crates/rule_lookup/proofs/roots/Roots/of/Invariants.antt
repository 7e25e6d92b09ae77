use Rattle.indexmap.specs.IndexMap.{get}
use Rattle.rate_types.specs.Counters.{same_text}
use Rattle.rule_lookup.proofs.Looking.{Rooted}
use Rattle.rule_lookup.proofs.roots.Roots.of.Given as goal

abbrev pub invariant-trees : goal.invariant-trees
invariant-trees l = Rooted l.trees l.index (get same_text l.domains) l.levels.names.items l.levels.levels.items
