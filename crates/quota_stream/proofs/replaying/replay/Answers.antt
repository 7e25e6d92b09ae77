use Rattle.std.proofs.Common.{◌≡◌, ◌<◌, ◌+◌, ◌∷◌, [], ◌++◌, ℕ, List, take, length, sym, ap, subst, ◌∙◌, arith}
use Rattle.rate_io.specs.Events.{Event}
use Rattle.quota_settings.specs.Covering.{AllSettings}
use Rattle.quota_stream.proofs.Parting.{grew_none, err_same}
use Rattle.quota_stream.proofs.Coming.{begun, comes_first, event_of_end, event_of_bytes}
use Rattle.quota_stream.proofs.Rounds.{Ended, from_begun, reads_on, reads_over, unread, too_much, stopped, at_end}
use Rattle.quota_stream.proofs.replaying.replay.Goals as goal

pub turns-init : goal.turns-init
turns-init g c = record {
  come = grew_none _ _ (grew_none _ _ (comes_first c.new-replay.result));
  few = omega arith;
  reads = omega arith;
  writes = omega arith;
}

pub returns-in_default-read-clause-replayed : goal.returns-in_default-read-clause-replayed
returns-in_default-read-clause-replayed g c =
    let start : c.new-replay.result ≡ begun c.args.settings.now c.args.stream =
    c.new-replay.ensures ∙ ap (λ (s : AllSettings). begun s c.args.stream) c.in-Ok.ensures in
    unread _ _ _ _ _ c.args.settings.now c.args.stream _ _
    (from_begun _ _ _ _ _ _ c.args.settings.now c.args.stream _ start c.turns.invariant.come) c.in_default-read.ensures.event

pub returns-then-read-eq0-clause-replayed : goal.returns-then-read-eq0-clause-replayed
returns-then-read-eq0-clause-replayed g c =
    let start : c.new-replay.result ≡ begun c.args.settings.now c.args.stream =
    c.new-replay.ensures ∙ ap (λ (s : AllSettings). begun s c.args.stream) c.in-Ok.ensures in
    let some : 0 < length c.read.new.buf = omega arith in
    at_end _ _ _ _ _ c.args.settings.now c.args.stream _ _
    (from_begun _ _ _ _ _ _ c.args.settings.now c.args.stream _ start c.turns.invariant.come) _ c.finish.result c.turns.invariant.few
    (c.in-Ok-read.ensures.event ∙ ap (λ (e : Event). g.S.Source.history c.turns.source ++ e ∷ [])
    (event_of_end c.in-Ok-read.read c.read.new.buf c.if-read-eq0.true some)) c.finish.ensures.done c.finish.ensures.fault

-- the bytes of a read
pub returns-then-count-gt-MOST_BYTES-clause-replayed : goal.returns-then-count-gt-MOST_BYTES-clause-replayed
returns-then-count-gt-MOST_BYTES-clause-replayed g c =
    let start : c.new-replay.result ≡ begun c.args.settings.now c.args.stream =
    c.new-replay.ensures ∙ ap (λ (s : AllSettings). begun s c.args.stream) c.in-Ok.ensures in
    let chunk : List ℕ = take c.in-Ok-read.read c.read.new.buf in
    let long : length (take c.in-Ok-read.read c.read.new.buf) ≡ c.in-Ok-read.read = sym c.in-Ok-read.ensures.bound.1 in
    let next : c.turns.count + c.in-Ok-read.read ≡ c.turns.count + length (take c.in-Ok-read.read c.read.new.buf) = omega (arith, long) in
    too_much _ _ (g.S.Source.history c.args.source.now) _ _ c.args.settings.now c.args.stream _ _
    (from_begun _ _ _ _ _ _ c.args.settings.now c.args.stream _ start
    (reads_over _ _ _ _ _ _ _ _ c.turns.invariant.come c.turns.invariant.few (take c.in-Ok-read.read c.read.new.buf) _
    (c.in-Ok-read.ensures.event ∙ ap (λ (e : Event). g.S.Source.history c.turns.source ++ e ∷ [])
    (event_of_bytes c.in-Ok-read.read c.read.new.buf c.if-read-eq0.false)) next c.if-count-gt-MOST_BYTES.true))
    c.if-count-gt-MOST_BYTES.true

pub returns-in_err-take_all-clause-replayed : goal.returns-in_err-take_all-clause-replayed
returns-in_err-take_all-clause-replayed g c =
    let start : c.new-replay.result ≡ begun c.args.settings.now c.args.stream =
    c.new-replay.ensures ∙ ap (λ (s : AllSettings). begun s c.args.stream) c.in-Ok.ensures in
    let long : length (take c.in-Ok-read.read c.read.new.buf) ≡ c.in-Ok-read.read = sym c.in-Ok-read.ensures.bound.1 in
    subst (Ended (g.S.Source.history c.args.source.now) (g.S.Source.history c.read.new.self) (g.K.Sink.history c.args.sink.now)
    (g.K.Sink.history c.take_all.new.sink) c.args.settings.now c.args.stream) (sym (err_same c.from_residual.result c.in_err-take_all.field-0.0 c.from_residual.ensures))
    (stopped _ _ _ _ _ c.args.settings.now c.args.stream _ _
    (from_begun _ _ _ _ _ _ c.args.settings.now c.args.stream _ start c.turns.invariant.come) _
    (take c.in-Ok-read.read c.read.new.buf) c.in_err-take_all.field-0.0 c.turns.invariant.few
    (c.in-Ok-read.ensures.event ∙ ap (λ (e : Event). g.S.Source.history c.turns.source ++ e ∷ [])
    (event_of_bytes c.in-Ok-read.read c.read.new.buf c.if-read-eq0.false)) (omega (arith, long, c.if-count-gt-MOST_BYTES.false))
    c.in_err-take_all.ensures.fault)

pub turns-preserved : goal.turns-preserved
turns-preserved g c =
    let long : length (take c.in-Ok-read.read c.read.new.buf) ≡ c.in-Ok-read.read = sym c.in-Ok-read.ensures.bound.1 in
    let next : c.turns.count + c.in-Ok-read.read ≡ c.turns.count + length (take c.in-Ok-read.read c.read.new.buf) = omega (arith, long) in
    record {
      come = reads_on _ _ _ _ _ _ _ _ c.turns.invariant.come c.turns.invariant.few _ _ (take c.in-Ok-read.read c.read.new.buf) _
          (c.in-Ok-read.ensures.event ∙ ap (λ (e : Event). g.S.Source.history c.turns.source ++ e ∷ [])
          (event_of_bytes c.in-Ok-read.read c.read.new.buf c.if-read-eq0.false)) next c.in_ok-take_all.ensures.took;
      few = c.if-count-gt-MOST_BYTES.false;
      reads = omega (arith, c.turns.invariant.reads, c.in-Ok-read.ensures.cause.later);
      writes = omega (arith, c.turns.invariant.writes, c.in_ok-take_all.ensures.later);
    }
