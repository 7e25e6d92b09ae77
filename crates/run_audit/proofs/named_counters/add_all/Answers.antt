use Rattle.std.proofs.Common.{◌≡◌, ◌||◌, ◌&&◌, [], ◌∷◌, List, Bool, sym, ap, ◌∙◌}
use Rattle.std.proofs.lemmas.List.{nil_from_length}
use Rattle.rate_types.specs.Counters.{same_counter}
use Rattle.rate_types.specs.declared.counter_key.CounterKey.{CounterKey}
use Rattle.script_run.specs.Named.{is_among}
use Rattle.run_audit.specs.Asked.{is_asked}
use Rattle.run_audit.specs.ByEnd.{binder_at, is_asked_of}
use Rattle.run_audit.proofs.Gates.{open_false, or_false, step_after}
use Rattle.run_audit.proofs.named_counters.add_all.Goals as goal

pub more-preserved : goal.more-preserved
more-preserved c =
    let is : c.more.counter-iterator.rest.items ≡ c.in-Some.counter ∷ c.next.new.self.rest.items = c.in-Some.ensures.steps.0 in
    λ asked q. ap (λ (b : Bool). b || (is_asked asked c.args.binder && is_among c.next.new.self.rest.items q)) (c.in_ok-add.ensures asked q)
    ∙ step_after (is_asked_of asked (binder_at c.more.counters.entries q)) (is_asked asked c.args.binder) (same_counter q c.in-Some.counter)
    (is_among c.next.new.self.rest.items q)
    ∙ ap (λ (l : List CounterKey). is_asked_of asked (binder_at c.more.counters.entries q) || (is_asked asked c.args.binder && is_among l q)) (sym is)
    ∙ c.more.invariant asked q

pub returns : goal.returns
returns c =
    let rest : c.more.counter-iterator.rest.items ≡ [] = nil_from_length c.more.counter-iterator.rest.items (sym c.more.counter-iterator.rest.ok.0
    ∙ c.in-None.ensures.steps.0) in
    λ asked q. sym (or_false (is_asked_of asked (binder_at c.more.counters.entries q))
    (is_asked asked c.args.binder && is_among c.more.counter-iterator.rest.items q)
    (ap (λ (l : List CounterKey). is_asked asked c.args.binder && is_among l q) rest ∙ open_false (is_asked asked c.args.binder)))
    ∙ c.more.invariant asked q
