use Rattle.std.proofs.Common.{Bool, Option, Some, cond, unwrap_or, refl, sym, ap, ap₂, ◌∙◌}
use Rattle.rate_types.specs.Counters.{same_counter}
use Rattle.rate_types.specs.declared.counter_key.CounterKey.{CounterKey}
use Rattle.window_keys.specs.Counter.{window_end_of}
use Rattle.run_audit.specs.ByEnd.{binder_at}
use Rattle.run_audit.specs.declared.binder.Binder.{Binder}
use Rattle.run_audit.specs.declared.binder.Binder.TheVariants.{Nobody}
use Rattle.run_audit.specs.declared.counter_by_end.CounterByEnd.{CounterByEnd}
use Rattle.run_audit.proofs.EndOrder.{found_by_end, same_end}
use Rattle.run_audit.proofs.NamedBy.{one_more}
use Rattle.run_audit.proofs.named_counters.add.Goals as goal

pub returns : goal.returns
returns c = λ asked q.
    let old = c.args.counters.now.entries in
    let at : CounterByEnd = record { end = window_end_of q; counter = q; is = refl } in
    one_more asked old c.insert.new.self.entries c.args.counter q c.binder_of-before.result c.joined-now.result c.args.binder
    (c.binder_of-before.ensures ∙ ap (λ (k : CounterKey). unwrap_or (binder_at old k) Nobody) c.of-key.ensures) c.joined-now.ensures
    (sym (found_by_end at c.insert.new.self.entries) ∙ c.in_ok-insert.ensures.updates.0 at
    ∙ ap₂ (λ (s : Bool) (o : Option Binder). cond s (Some c.joined-now.result) o)
    (same_end c.of-key.result at ∙ ap (λ (k : CounterKey). same_counter k q) c.of-key.ensures) (found_by_end at old))
