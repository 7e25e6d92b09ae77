use Rattle.std.proofs.Common.{◌≡◌, ℕ, ◌<◌, Err, append-nil, refl, sym, ap, ◌∙◌}
use Rattle.quota_buckets.specs.declared.answers.AdvanceFault.TheVariants.{TimeBack}
use Rattle.quota_stream.specs.Outcomes.{Outcome}
use Rattle.quota_stream.proofs.Steps.{accepted_in_time, not_in_time, on_ok}
use Rattle.quota_stream.proofs.step.take_line.Goals as goal

pub returns-in-Ok-clause-stream : goal.returns-in-Ok-clause-stream
returns-in-Ok-clause-stream c =
    let later : c.args.line.now.at < c.args.buckets.now.time → ⊥ =
    λ back. (let is = (c.advance.ensures.time_back c.args.buckets.now.time).1 (back, refl) in absurd (cc)) in
    rw (accepted_in_time c.args.number c.args.line.now c.args.buckets.now later, ← c.in-Ok.ensures.advanced) c.accept.ensures.stream

pub returns-in-Ok-clause-written : goal.returns-in-Ok-clause-written
returns-in-Ok-clause-written c =
    let later : c.args.line.now.at < c.args.buckets.now.time → ⊥ =
    λ back. (let is = (c.advance.ensures.time_back c.args.buckets.now.time).1 (back, refl) in absurd (cc)) in
    rw (accepted_in_time c.args.number c.args.line.now c.args.buckets.now later)
    (rw (c.in-Ok.ensures.advanced, c.items.ensures, c.in-Ok.ensures.reports) at c.accept.ensures.written)

pub returns-in-Err-clause-stream : goal.returns-in-Err-clause-stream
returns-in-Err-clause-stream c =
    let back : (last : ℕ) → c.in-Err.fault ≡ TimeBack last → (c.args.line.now.at < c.args.buckets.now.time) × (last ≡ c.args.buckets.now.time) =
    λ last is. (c.advance.ensures.time_back last).0 (c.in-Err.is ∙ ap Err is) in
    on_ok c.put_not_advanced.result _ _ c.put_not_advanced.ensures
    (λ is. c.in-Err.ensures.err ∙ ap (λ (o : Outcome). o.stream)
    (sym (not_in_time c.args.number c.args.line.now c.args.buckets.now c.in-Err.fault _ _ back is).0))

pub returns-in-Err-clause-written : goal.returns-in-Err-clause-written
returns-in-Err-clause-written c =
    let back : (last : ℕ) → c.in-Err.fault ≡ TimeBack last → (c.args.line.now.at < c.args.buckets.now.time) × (last ≡ c.args.buckets.now.time) =
    λ last is. (c.advance.ensures.time_back last).0 (c.in-Err.is ∙ ap Err is) in
    on_ok c.put_not_advanced.result _ _ c.put_not_advanced.ensures
    (λ is. (let both = not_in_time c.args.number c.args.line.now c.args.buckets.now c.in-Err.fault _ _ back is in
    rw (both.0, append-nil) both.1))
