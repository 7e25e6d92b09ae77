use Rattle.std.proofs.Common.{◌≡◌, length}
use Rattle.counter_directory.specs.Keys.{keys_at}
use Rattle.counter_directory.specs.Acquiring.{AreFirstBound}
use Rattle.counter_directory.proofs.claim_table.ClaimTable.find_rest.Given as goal

abbrev pub invariant-loop-place : goal.invariant-loop-place
invariant-loop-place g l = record {
  len : length l.spots.items ≡ l.place;
  bound : AreFirstBound l.self.pool.claims (keys_at l.self.pool.last l.names) l.spots.items;
}
