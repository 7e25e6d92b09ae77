use Rattle.std.proofs.Common.{List, sym, subst}
use Rattle.rule_stats.specs.declared.numbers.RuleNumbers.{RuleNumbers}
use Rattle.rule_stats.specs.Sums.{AreSums}
use Rattle.rule_stats.proofs.Merging.{merged_sums}
use Rattle.rule_stats.proofs.tally.Tally.merge.Goals as goal

pub returns-clause-sums : goal.returns-clause-sums
returns-clause-sums c mine others these those =
    merged_sums c.self.inside.versions.items c.deref.result.now c.merge_versions.new.versions.items c.in_ok-merge_versions.ensures.sums mine others
    (subst (λ t. AreSums mine t.versions) (sym c.self.view_is) these)
    (subst (λ (vs : List (List RuleNumbers)). AreSums others vs) (sym c.deref.ensures.value) (subst (λ t. AreSums others t.versions) (sym c.other.view_is) those))
