use Rattle.std.proofs.Common.{nat_le, leb-true, arith, rules}
use Rattle.std.proofs.lemmas.List.Sorted.{IsPartitionPoint-from_clause, IsPartitionedBy-leb}
use Rattle.run_audit.specs.declared.by_end.Ended.{Ended}
use Rattle.run_audit.proofs.by_end.over.Goals as goal

pub returns-clause-over : goal.returns-clause-over
returns-clause-over c =
    let parted = IsPartitionedBy-leb (λ (e : Ended). e.end) _ c.get-now.result c.requires in
    let point = IsPartitionPoint-from_clause (λ (e : Ended). nat_le e.end c.get-now.result) _ _ c.partition_point.ensures.partitioned parted
    (λ a r q k. search rules) in
    λ k d h. omega (arith, leb-true _ _ (point.0 k d (omega arith) h), c.get-now.ensures.value)
