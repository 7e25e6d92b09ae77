use Rattle.std.proofs.Common.{◌≡◌, ◌+◌, ◌≤◌, ◌++◌, length}
use Rattle.std.specs.Prelude.{vec_len}
use Rattle.counter_directory.specs.Index.{HaveRoom}
use Rattle.counter_directory.specs.Windows.{RingsFit}
use Rattle.counter_directory.specs.Keys.{keys_at, AddsEach}
use Rattle.counter_directory.specs.Acquired.{Grows}
use Rattle.counter_directory.proofs.Finding.{BindsFirst}
use Rattle.counter_directory.proofs.claim_table.ClaimTable.bind_all.Given as goal

abbrev pub invariant-loop-name : goal.invariant-loop-name
invariant-loop-name g l = record {
  whole : l.yielded ++ l.name-iterator.rest.items ≡ l.fn.missing.items;
  adds : AddsEach l.initial.self.pool.claims (keys_at l.initial.self.pool.last l.yielded) l.self.pool.claims;
  grows : Grows l.initial.self.pool.last l.initial.self.pool.claims l.self.pool.claims;
  made : length l.self.pool.claims + length l.name-iterator.rest.items ≡ length l.initial.self.pool.claims + vec_len l.fn.missing;
  used : vec_len l.self.pool.reserved + vec_len l.fn.missing ≡ vec_len l.initial.self.pool.reserved + length l.name-iterator.rest.items;
  last : l.self.pool.last ≡ l.initial.self.pool.last;
  most : l.self.pool.most ≡ l.initial.self.pool.most;
  reserved : length l.name-iterator.rest.items ≤ vec_len l.self.pool.reserved;
  room : HaveRoom (length l.name-iterator.rest.items) l.self.index.items;
  first : BindsFirst l.first l.initial.self.pool.reserved.items l.self.pool.reserved.items (keys_at l.initial.self.pool.last l.yielded) l.self.pool.claims;
  fit : RingsFit l.initial.self.pool.last l.self.pool.rings.items;
}
