use Rattle.std.proofs.Common.{◌≡◌, ◌-◌, ◌+◌, ◌<◌, ◌∷◌, [], ◌++◌, All, ap, ◌∙◌, sym, arith, subst, map, length, length-append}
use Rattle.std.proofs.lemmas.List.{length-map}
use Rattle.line_numbers.specs.Batches.{given}
use Rattle.rate_limiter.specs.Passes.{bounds_of}
use Rattle.run_stats.specs.RunStats.{HasCounted}
use Rattle.worker_run.specs.Journal.{Journal}
use Rattle.worker_run.proofs.Journals.{journal_push, last_of, rising_length, map_push, one_before}
use Rattle.worker_run.proofs.Tallied.{counted_push}
use Rattle.worker_run.proofs.working.work.Goals as goal

pub run_drawn-requires-clause-number : goal.run_drawn-requires-clause-number
run_drawn-requires-clause-number g c κs within =
    let e = c.in-Some.ensures in
    let below : All (λ x. x < length (g.L.ScriptLines.lines c.args.run.now.lines.now)) (given c.draw.new.drawer) = subst (λ n. All (λ x. x < n) (given c.draw.new.drawer)) c.requires.lines.1 e.below in
    last_of (λ x. x < length (g.L.ScriptLines.lines c.args.run.now.lines.now)) (given c.lines.drawer) c.in-Some.number
    (subst (All (λ x. x < length (g.L.ScriptLines.lines c.args.run.now.lines.now))) e.drawn below)

pub lines-smaller : goal.lines-smaller
lines-smaller g c =
    let e = c.draw.ensures in
    let below : All (λ x. x < length (g.L.ScriptLines.lines c.args.run.now.lines.now)) (given c.draw.new.drawer) = subst (λ n. All (λ x. x < n) (given c.draw.new.drawer)) c.requires.lines.1 e.below in
    let few = rising_length (given c.draw.new.drawer) (length (g.L.ScriptLines.lines c.args.run.now.lines.now)) e.rising below in
    let more = ap length c.in-Some.ensures.drawn in
    omega (arith, length-append (given c.lines.drawer) (c.in-Some.number ∷ []))

pub run_drawn-requires-clause-room : goal.run_drawn-requires-clause-room
run_drawn-requires-clause-room g c κs within =
    let e = c.draw.ensures in
    let below : All (λ x. x < length (g.L.ScriptLines.lines c.args.run.now.lines.now)) (given c.draw.new.drawer) = subst (λ n. All (λ x. x < n) (given c.draw.new.drawer)) c.requires.lines.1 e.below in
    let few = rising_length (given c.draw.new.drawer) (length (g.L.ScriptLines.lines c.args.run.now.lines.now)) e.rising below in
    let more = ap length c.in-Some.ensures.drawn in
    let many = ap length c.lines.invariant.drawn in
    let counted = c.lines.invariant.counted.few in
    omega (
      arith,
      few,
      more,
      many,
      counted,
      c.requires.lines.0,
      length-append (given c.lines.drawer) (c.in-Some.number ∷ []),
      length-map c.lines.journal (λ r. r.line - 1),
    )

pub lines-preserved : goal.lines-preserved
lines-preserved g c =
    let inv = c.lines.invariant in
    let r = c.in_ok-record.record in
    let is : c.push.new.self ≡ c.lines.journal ++ r ∷ [] = c.in_ok-push.ensures.ok in
    let number : r.line ≡ c.in-Some.number + 1 = c.in_ok-record.ensures.line in
    record {
      here = c.draw.ensures.drawer ∙ inv.here;
      same = c.in_ok-record.ensures.pass;
      journal = subst (λ l. Journal (bounds_of g.N.CellNaming.setup.cells c.args.run.now.limiter.now) c.args.run.now.limiter.now c.args.run.now.start c.args.worker.number
          (g.L.ScriptLines.lines c.args.run.now.lines.now) c.args.worker.pass l c.run_drawn.new.pass) (sym is)
          (journal_push _ _ _ _ _ c.args.worker.pass c.lines.journal c.lines.pass r c.run_drawn.new.pass inv.journal c.in_ok-record.ensures.step);
      drawn = c.in-Some.ensures.drawn ∙ ap (λ l. l ++ c.in-Some.number ∷ []) inv.drawn ∙ ap (λ n. map (λ x. x.line - 1) c.lines.journal ++ n ∷ [])
          (one_before r.line c.in-Some.number number)
          ∙ sym (map_push c.lines.journal r) ∙ ap (λ l. map (λ x. x.line - 1) l) (sym is);
      counted = subst (λ l. HasCounted c.args.run.now.stats (g.L.ScriptLines.lines c.args.run.now.lines.now) l c.run_drawn.new.kept.tally) (sym is)
          (counted_push c.args.run.now.stats (g.L.ScriptLines.lines c.args.run.now.lines.now) c.lines.journal r c.in_ok-record.ensures.step.line c.lines.kept.tally
          c.run_drawn.new.kept.tally c.in_ok-record.ensures.step.there inv.counted c.in_ok-record.ensures.counted c.in_ok-record.ensures.notes);
    }
