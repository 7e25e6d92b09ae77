use Rattle.std.proofs.Common.{◌≡◌, ◌≤◌, ◌+◌, ◌++◌, map, length, vec_len, vec_capacity}
use Rattle.run_text.specs.Views.{shown_of}
use Rattle.run_audit.proofs.records.records_of.Given as goal

abbrev pub invariant-said : goal.invariant-said
invariant-said l = record {
  same : l.records.items ++ map shown_of l.one-iterator.rest.items ≡ map shown_of l.fn.said.items;
  room : vec_len l.records + length l.one-iterator.rest.items ≤ vec_capacity l.records;
  long : vec_len l.records + length l.one-iterator.rest.items ≡ length l.lines;
}
