use Rattle.std.proofs.Common.{◌≡◌}
use Rattle.link_handover.specs.Passes.{PutsInto, links_put, marks_put, takers_of}
use Rattle.http_serve.proofs.accepting.finish_all.Given as goal

abbrev pub invariant-loop : goal.invariant-loop
invariant-loop g l = record {
  put : PutsInto l.handover l.put;
  marks : marks_put l.put ≡ l.counter;
  takers : takers_of l.put ≡ takers_of l.fn.put;
  links : links_put l.put ≡ links_put l.fn.put;
}
