use Rattle.std.proofs.Common.{◌≡◌, [], All, vec_len, vec_capacity}
use Rattle.link_handover.specs.Passes.{PutsInto, TakesFrom, links_put, marks_put, takers_of, taken_by}
use Rattle.link_handover.proofs.handover.Handover.takers.Given as goal

abbrev pub invariant-loop : goal.invariant-loop
invariant-loop g l = record {
  put : PutsInto l.self l.put;
  same : (links_put l.put ≡ links_put l.fn.put) × (marks_put l.put ≡ marks_put l.fn.put);
  takers : takers_of l.put ≡ l.counter;
  count : vec_len l.takes ≡ l.counter;
  room : vec_capacity l.takes ≡ vec_capacity l.initial.takes;
  takes : All (λ t. TakesFrom l.self t × (taken_by t ≡ [])) l.takes.items;
}
