use Rattle.std.proofs.Common.{◌≡◌, ◌||◌, [], ◌∷◌, List, Bool, sym, ap, ◌∙◌}
use Rattle.std.proofs.lemmas.List.{nil_from_length}
use Rattle.rate_types.specs.Counters.{same_counter}
use Rattle.rate_types.specs.declared.counter_key.CounterKey.{CounterKey}
use Rattle.script_run.specs.Named.{is_among}
use Rattle.run_audit.proofs.Gates.{or_false}
use Rattle.run_audit.proofs.Room.{passed}
use Rattle.run_audit.proofs.bound.put_all.Goals as goal

pub more-preserved : goal.more-preserved
more-preserved c =
    let is : c.more.counter-iterator.rest.items ≡ c.in-Some.counter ∷ c.next.new.self.rest.items = c.in-Some.ensures.steps.0 in
    λ q. ap (λ (b : Bool). b || is_among c.next.new.self.rest.items q) (c.in_ok-put.ensures q)
    ∙ passed (same_counter q c.in-Some.counter) (is_among c.more.counters.keys q) (is_among c.next.new.self.rest.items q)
    ∙ ap (λ (l : List CounterKey). is_among c.more.counters.keys q || is_among l q) (sym is) ∙ c.more.invariant q

pub returns : goal.returns
returns c =
    let rest : c.more.counter-iterator.rest.items ≡ [] = nil_from_length c.more.counter-iterator.rest.items (sym c.more.counter-iterator.rest.ok.0
    ∙ c.in-None.ensures.steps.0) in
    λ q. sym (or_false (is_among c.more.counters.keys q) (is_among c.more.counter-iterator.rest.items q)
    (ap (λ (l : List CounterKey). is_among l q) rest)) ∙ c.more.invariant q
