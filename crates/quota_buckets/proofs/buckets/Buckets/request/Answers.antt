use Rattle.std.proofs.Common.{◌≡◌, ◌∙◌, ◌++◌, ◌∷◌, [], List, ap, sym, refl, Some, None}
use Rattle.std.specs.Arc.{arc_value}
use Rattle.quota_settings.specs.Covering.{covering}
use Rattle.quota_bucket.specs.Machine.{asked, new_state}
use Rattle.quota_buckets.specs.Streams.{new_stream, answer, asked_again, made_now}
use Rattle.quota_buckets.specs.Calls.{stream_of}
use Rattle.quota_buckets.specs.Tables.{Stored, Table, stored_asked, stored_answer}
use Rattle.quota_buckets.specs.declared.call.Call.TheVariants.{Request}
use Rattle.quota_buckets.proofs.Holding.{call_more, ask_held, ask_told, absent, made_held, made_told, asked_again_is, made_is, allowance_held}
use Rattle.quota_buckets.proofs.buckets.Buckets.request.Goals as goal

pub invariant_of-self : goal.invariant_of-self
invariant_of-self c =
    let settings = c.self.inside.settings in
    let table = c.self.inside.table in
    let s = stream_of settings c.self.inside.calls.items in
    let id = c.in_ok-id.id in
    let covers : covering settings c.args.attributes.now ≡ Some c.in-Some.settings.now = sym c.in-Some.ensures.first in
    let answers = c.ask.ensures.answer ∙ ask_told settings c.self.inside.up table s id c.self.invariant in
    let told : answer id s ≡ Some c.in-Some-ask.allowed = sym answers ∙ c.in-Some-ask.is in
    let again = asked_again_is c.args.attributes.now id s settings c.in-Some.settings.now c.in-Some-ask.allowed c.self.invariant.settings_are covers
    c.in_ok-id.ensures told in
    let more : stream_of settings c.and-self-inside.result.items ≡ asked_again id s =
    ap (stream_of settings) c.and-self-inside.ensures ∙ call_more (new_stream settings) c.self.inside.calls.items Request c.args.attributes.now ∙ again.counted in
    rw more (ask_held settings c.self.inside.up table c.ask.new.self s id c.self.invariant c.ask.ensures.stored)

pub returns-in-Some-ask-clause-counted : goal.returns-in-Some-ask-clause-counted
returns-in-Some-ask-clause-counted c =
    rw (← c.self.view_is) (ap (stream_of c.self.inside.settings) c.and-self-inside.ensures
    ∙ call_more (new_stream c.self.inside.settings) c.self.inside.calls.items Request c.args.attributes.now)

pub returns-in-Some-ask-clause-decision : goal.returns-in-Some-ask-clause-decision
returns-in-Some-ask-clause-decision c =
    let settings = c.self.inside.settings in
    let table = c.self.inside.table in
    let s = stream_of settings c.self.inside.calls.items in
    let id = c.in_ok-id.id in
    let covers : covering settings c.args.attributes.now ≡ Some c.in-Some.settings.now = sym c.in-Some.ensures.first in
    let answers = c.ask.ensures.answer ∙ ask_told settings c.self.inside.up table s id c.self.invariant in
    let told : answer id s ≡ Some c.in-Some-ask.allowed = sym answers ∙ c.in-Some-ask.is in
    let again = asked_again_is c.args.attributes.now id s settings c.in-Some.settings.now c.in-Some-ask.allowed c.self.invariant.settings_are covers
    c.in_ok-id.ensures told in
    rw (← c.self.view_is) (sym again.decision)

pub ask_first-requires : goal.ask_first-requires
ask_first-requires c =
    let gone = absent c.in_ok-id.id (stored_asked c.self.inside.table.time c.self.inside.up) (stored_answer c.self.inside.table.time c.self.inside.up)
    c.self.inside.table.stored (sym c.ask.ensures.answer ∙ c.in_default-ask.is) in
    let make : List Stored → Table = λ stored. record { time = c.self.inside.table.time; stored = stored } in
    let same : c.ask.new.self ≡ c.self.inside.table = c.ask.ensures.stored ∙ ap make gone.same in
    rw same gone.none

pub invariant_of-self-in_err-first : goal.invariant_of-self-in_err-first
invariant_of-self-in_err-first c =
    let gone = absent c.in_ok-id.id (stored_asked c.self.inside.table.time c.self.inside.up) (stored_answer c.self.inside.table.time c.self.inside.up)
    c.self.inside.table.stored (sym c.ask.ensures.answer ∙ c.in_default-ask.is) in
    let make : List Stored → Table = λ stored. record { time = c.self.inside.table.time; stored = stored } in
    let same : c.ask.new.self ≡ c.self.inside.table = c.ask.ensures.stored ∙ ap make gone.same in
    rw (c.in_err-first.ensures.err, same) c.self.invariant

pub invariant_of-self-2 : goal.invariant_of-self-2
invariant_of-self-2 c =
    let settings = c.self.inside.settings in
    let table = c.self.inside.table in
    let s = stream_of settings c.self.inside.calls.items in
    let id = c.in_ok-id.id in
    let covers : covering settings c.args.attributes.now ≡ Some c.in-Some.settings.now = sym c.in-Some.ensures.first in
    let answers = c.ask.ensures.answer ∙ ask_told settings c.self.inside.up table s id c.self.invariant in
    let gone = absent c.in_ok-id.id (stored_asked c.self.inside.table.time c.self.inside.up) (stored_answer c.self.inside.table.time c.self.inside.up)
    c.self.inside.table.stored (sym c.ask.ensures.answer ∙ c.in_default-ask.is) in
    let make : List Stored → Table = λ stored. record { time = c.self.inside.table.time; stored = stored } in
    let same : c.ask.new.self ≡ c.self.inside.table = c.ask.ensures.stored ∙ ap make gone.same in
    let told : answer id s ≡ None = sym answers ∙ c.in_default-ask.is in
    let made = made_is c.args.attributes.now id s settings c.in-Some.settings.now (arc_value c.rules-rules.result.now) c.self.invariant.settings_are covers
    c.in_ok-id.ensures c.rules-rules.ensures told in
    let more : stream_of settings c.and-self-inside-2.result.items ≡ record s { buckets = s.buckets ++ made_now id (arc_value c.rules-rules.result.now) s ∷ [] } =
    ap (stream_of settings) c.and-self-inside-2.ensures ∙ call_more (new_stream settings) c.self.inside.calls.items Request c.args.attributes.now ∙ made.counted in
    rw more (made_held settings c.self.inside.up table c.ask_first.new.table s id (arc_value c.rules-rules.result.now)
    (asked (arc_value c.rules-rules.result.now) table.time c.self.inside.up (new_state table.time)).state c.self.invariant refl
    (rw same at c.in_ok-first.ensures.made))

pub returns-clause-counted : goal.returns-clause-counted
returns-clause-counted c =
    rw (← c.self.view_is) (ap (stream_of c.self.inside.settings) c.and-self-inside-2.ensures
    ∙ call_more (new_stream c.self.inside.settings) c.self.inside.calls.items Request c.args.attributes.now)

pub returns-clause-decision : goal.returns-clause-decision
returns-clause-decision c =
    let settings = c.self.inside.settings in
    let table = c.self.inside.table in
    let s = stream_of settings c.self.inside.calls.items in
    let id = c.in_ok-id.id in
    let covers : covering settings c.args.attributes.now ≡ Some c.in-Some.settings.now = sym c.in-Some.ensures.first in
    let answers = c.ask.ensures.answer ∙ ask_told settings c.self.inside.up table s id c.self.invariant in
    let gone = absent c.in_ok-id.id (stored_asked c.self.inside.table.time c.self.inside.up) (stored_answer c.self.inside.table.time c.self.inside.up)
    c.self.inside.table.stored (sym c.ask.ensures.answer ∙ c.in_default-ask.is) in
    let make : List Stored → Table = λ stored. record { time = c.self.inside.table.time; stored = stored } in
    let same : c.ask.new.self ≡ c.self.inside.table = c.ask.ensures.stored ∙ ap make gone.same in
    let told : answer id s ≡ None = sym answers ∙ c.in_default-ask.is in
    let made = made_is c.args.attributes.now id s settings c.in-Some.settings.now (arc_value c.rules-rules.result.now) c.self.invariant.settings_are covers
    c.in_ok-id.ensures c.rules-rules.ensures told in
    rw (← c.self.view_is) (made_told settings c.self.inside.up table s id (arc_value c.rules-rules.result.now) c.in_ok-first.first.allowed c.in_ok-first.first.report
    c.self.invariant (rw same at c.in_ok-first.ensures.allowed) (rw same at c.in_ok-first.ensures.report) ∙ sym made.decision)

pub returns-in-Some-ask-clause-allowance : goal.returns-in-Some-ask-clause-allowance
returns-in-Some-ask-clause-allowance c =
    allowance_held c.self.inside.settings c.self.inside.up c.ask.new.self (stream_of c.self.inside.settings c.and-self-inside.result.items)
    (invariant_of-self c)

pub returns-clause-allowance : goal.returns-clause-allowance
returns-clause-allowance c =
    allowance_held c.self.inside.settings c.self.inside.up c.ask_first.new.table (stream_of c.self.inside.settings c.and-self-inside-2.result.items)
    (invariant_of-self-2 c)

pub returns-in_default-clause-allowance : goal.returns-in_default-clause-allowance
returns-in_default-clause-allowance c =
    rw (← c.self.view_is) (allowance_held c.self.inside.settings c.self.inside.up c.self.inside.table
    (stream_of c.self.inside.settings c.self.inside.calls.items) c.self.invariant)
