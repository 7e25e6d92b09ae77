use Rattle.std.proofs.Common.{◌≡◌, ◌∙◌, ap, refl}
use Rattle.quota_bucket.specs.History.{is_allowed}
use Rattle.quota_buckets.specs.Streams.{new_stream, answer}
use Rattle.quota_buckets.specs.Calls.{stream_of}
use Rattle.quota_buckets.specs.declared.call.Call.TheVariants.{Decide}
use Rattle.quota_buckets.proofs.Holding.{call_more, ask_held, ask_told, none_exactly, allowance_held}
use Rattle.quota_buckets.proofs.Unchanged.{decide_unchanged}
use Rattle.quota_buckets.proofs.buckets.Buckets.decide.Goals as goal

pub invariant_of-self : goal.invariant_of-self
invariant_of-self c =
    let s = stream_of c.self.inside.settings c.self.inside.calls.items in
    rw (c.and-self-inside.ensures, call_more (new_stream c.self.inside.settings) c.self.inside.calls.items Decide c.pairs.result.now, c.pairs.ensures)
    (ask_held c.self.inside.settings c.self.inside.up c.self.inside.table c.ask-allowed.new.self s c.args.id.now c.self.invariant c.ask-allowed.ensures.stored)

pub returns-clause-counted : goal.returns-clause-counted
returns-clause-counted c =
    rw (← c.self.view_is) (ap (stream_of c.self.inside.settings) c.and-self-inside.ensures
    ∙ call_more (new_stream c.self.inside.settings) c.self.inside.calls.items Decide c.pairs.result.now ∙ rw c.pairs.ensures refl)

pub returns-clause-answer : goal.returns-clause-answer
returns-clause-answer c =
    let s = stream_of c.self.inside.settings c.self.inside.calls.items in
    rw (← c.self.view_is) (c.ask-allowed.ensures.answer ∙ ask_told c.self.inside.settings c.self.inside.up c.self.inside.table s c.args.id.now c.self.invariant)

pub returns-clause-none : goal.returns-clause-none
returns-clause-none c =
    let s = stream_of c.self.inside.settings c.self.inside.calls.items in
    let told : c.ask-allowed.result ≡ answer c.args.id.now s =
    c.ask-allowed.ensures.answer ∙ ask_told c.self.inside.settings c.self.inside.up c.self.inside.table s c.args.id.now c.self.invariant in
    rw (← c.self.view_is, told) (none_exactly (λ p. is_allowed p.rules p.history s.time) c.self.inside.settings c.self.inside.up c.self.inside.table s
    c.args.id.now c.self.invariant)

pub returns-clause-allowance : goal.returns-clause-allowance
returns-clause-allowance c =
    allowance_held c.self.inside.settings c.self.inside.up c.ask-allowed.new.self (stream_of c.self.inside.settings c.and-self-inside.result.items)
    (invariant_of-self c)

pub returns-clause-unchanged : goal.returns-clause-unchanged
returns-clause-unchanged c = decide_unchanged c.args.id.now _ _ c.ask-allowed.result (returns-clause-counted c) (returns-clause-answer c)
