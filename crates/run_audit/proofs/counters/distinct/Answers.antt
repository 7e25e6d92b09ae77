use Rattle.std.proofs.Common.{◌≡◌, ◌||◌, [], ◌∷◌, List, Bool, true, false, refl, sym, ap, ◌∙◌}
use Rattle.std.proofs.lemmas.List.{nil_from_length}
use Rattle.rate_types.specs.declared.counter_key.CounterKey.{CounterKey}
use Rattle.rls_core.specs.Sums.{has_sum}
use Rattle.script_run.specs.Named.{is_among}
use Rattle.run_audit.proofs.Numbers.{number_of, one_more_sum}
use Rattle.run_audit.proofs.counters.distinct.Goals as goal

pub counters-preserved : goal.counters-preserved
counters-preserved c =
    let is : c.counters.counter-iterator.rest.items ≡ c.in-Some.counter ∷ c.next.new.self.rest.items = c.in-Some.ensures.steps.0 in
    λ q. one_more_sum c.counters.sums c.put.new.self c.in-Some.counter q c.next.new.self.rest.items (c.in_ok-put.ensures.found q)
    ∙ ap (λ (l : List CounterKey). has_sum c.counters.sums q || is_among l q) (sym is) ∙ c.counters.invariant q

or_false : (b : Bool) → b ≡ (b || false)
or_false b = elim b as (λ x. x ≡ (x || false)) [ true ↦ refl | false ↦ refl ]

pub returns : goal.returns
returns c =
    let rest : c.counters.counter-iterator.rest.items ≡ [] = nil_from_length c.counters.counter-iterator.rest.items (sym c.counters.counter-iterator.rest.ok.0
    ∙ c.in-None.ensures.steps.0) in
    number_of c.counters.sums c.args.counters.items c.len.result c.len.ensures.number c.len.ensures.sorted
    (λ q. or_false (has_sum c.counters.sums q) ∙ ap (λ (l : List CounterKey). has_sum c.counters.sums q || is_among l q) (sym rest) ∙ c.counters.invariant q)
