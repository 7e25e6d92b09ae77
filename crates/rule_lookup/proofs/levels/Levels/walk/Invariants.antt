use Rattle.std.proofs.Common.{◌≡◌, drop}
use Rattle.rule_lookup.specs.declared.found.Found.TheVariants.{NoRule}
use Rattle.rule_lookup.specs.Level.{walk}
use Rattle.rule_lookup.proofs.levels.Levels.walk.Given as goal

abbrev pub invariant-entries : goal.invariant-entries
invariant-entries l = walk l.self.levels.items (drop l.index l.entries) l.found l.below ≡ walk l.self.levels.items l.entries NoRule l.first
