use Rattle.std.proofs.Common.{◌≡◌, [], ◌++◌}
use Rattle.shared_stats.specs.Joins.{JoinsPasses}
use Rattle.shared_stats.proofs.passes.join_passes.Given as goal

abbrev pub invariant-loop-pass : goal.invariant-loop-pass
invariant-loop-pass l = record {
  here : l.all.table_id ≡ l.shared.table_id;
  bare : l.all.me.1 ≡ [];
  whole : l.yielded ++ l.pass-iterator.rest.items ≡ l.fn.passes.items;
  joins : JoinsPasses l.yielded l.all.me.0;
}
