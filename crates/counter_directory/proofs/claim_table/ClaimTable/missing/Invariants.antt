use Rattle.std.proofs.Common.{◌≡◌, ◌≤◌, take}
use Rattle.std.specs.Prelude.{vec_len, vec_capacity}
use lib.ListN.{get_elem?}
use Rattle.counter_directory.specs.Keys.{keys_at, IsMissing}
use Rattle.counter_directory.proofs.claim_table.ClaimTable.missing.Given as goal

abbrev pub invariant-loop-place : goal.invariant-loop-place
invariant-loop-place g l = record {
  missing : IsMissing l.self.pool.claims (take l.place (keys_at l.self.pool.last l.names)) (keys_at l.self.pool.last l.missing.items);
  first : get_elem? l.missing.items 0 ≡ get_elem? l.names l.fn.first;
  few : vec_len l.missing ≤ l.place;
  room : vec_capacity l.missing ≡ vec_capacity l.initial.missing;
}
