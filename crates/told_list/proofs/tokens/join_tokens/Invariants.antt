use Rattle.std.proofs.Common.{◌≡◌, [], ◌++◌}
use Rattle.told_list.specs.Joins.{JoinsTokens}
use Rattle.told_list.proofs.tokens.join_tokens.Given as goal

abbrev pub invariant-loop-pass : goal.invariant-loop-pass
invariant-loop-pass g l = record {
  here : l.all.table_id ≡ l.shared.table_id;
  bare : l.all.me.1 ≡ [];
  whole : l.yielded ++ l.pass-iterator.rest.items ≡ l.fn.passes.items;
  joins_tokens : JoinsTokens g.P.IntoSeen.known g.P.IntoSeen.own l.yielded l.all.me.0;
}
