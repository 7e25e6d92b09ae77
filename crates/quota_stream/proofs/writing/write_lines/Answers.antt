use Rattle.std.proofs.Common.{◌≡◌, ◌≤◌, [], ◌∷◌, List, ℕ, length, refl, subst, arith}
use Rattle.quota_stream.specs.Output.{with_feeds}
use Rattle.quota_stream.proofs.Feeds.{Written, none_written, one_written, one_unwritten, all_written}
use Rattle.quota_stream.proofs.writing.write_lines.Goals as goal

nothing_left : (rest : List ℕ) → length rest ≤ 0 → rest ≡ []
nothing_left [] none = refl
nothing_left (b ∷ bs) none = absurd (omega (arith, none))

pub lines-init : goal.lines-init
lines-init g c = record { written = none_written (with_feeds c.args.text.now) (g.K.Sink.history c.args.sink.now); later = omega arith }

pub lines-preserved : goal.lines-preserved
lines-preserved g c = record {
  written = one_written _ _ c.cut_output_line.result.0.now _ _ _ (rw c.cut_output_line.ensures.cut at c.lines.invariant.written) c.in-Ok.ensures.event;
  later = omega (arith, c.lines.invariant.later, c.in-Ok.ensures.cause.later);
}

pub returns-in_default-clause-up_to : goal.returns-in_default-clause-up_to
returns-in_default-clause-up_to g c =
    one_unwritten _ _ c.cut_output_line.result.0.now _ _ _ (rw c.cut_output_line.ensures.cut at c.lines.invariant.written) c.in_default.ensures.event

pub returns-clause-each : goal.returns-clause-each
returns-clause-each g c =
    all_written (with_feeds c.args.text.now) _ _
    (subst (λ (l : List ℕ). Written (with_feeds c.args.text.now) (with_feeds l) (g.K.Sink.history c.args.sink.now) (g.K.Sink.history c.lines.sink))
    (nothing_left c.lines.rest.now (omega arith)) c.lines.invariant.written)
