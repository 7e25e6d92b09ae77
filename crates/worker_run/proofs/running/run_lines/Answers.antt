use Rattle.std.proofs.Common.{◌≡◌, ◌≤◌, ◌∙◌, ℕ, List, Bool, true, map, length, sym, subst, ap, arith}
use Rattle.std.proofs.lemmas.List.{length-map}
use Rattle.std.specs.List.{AllByRecursion}
use Rattle.rate_types.specs.Sums.{total, times}
use Rattle.line_numbers.specs.Batches.{batches_id, batches_of, lines_in, given, is_done}
use Rattle.line_numbers.specs.Rising.{IsDrawnOnce}
use Rattle.line_numbers.specs.declared.batch_drawer.BatchDrawer.{BatchDrawer}
use Rattle.rate_limiter.specs.Passes.{bounds_of, PassView}
use Rattle.reply_text.specs.declared.record.Record.{Record}
use Rattle.script_run.specs.Merged.{joined, EachLineOnce, Merges}
use Rattle.rule_stats.specs.Sums.{TallyView}
use Rattle.run_stats.specs.RunStats.{HaveCounted}
use Rattle.run_stats.proofs.Gathering.{notes_few}
use Rattle.worker_run.specs.Work.{HaveRun}
use Rattle.worker_run.specs.Clauses.{AreInOrder}
use Rattle.worker_run.proofs.Clauses.{ordered}
use Rattle.worker_run.proofs.Gathering.{all_ready, all_index, index_all, as_many, drawers_here, passes_here, lines_once, have_run, have_counted}
use Rattle.worker_run.proofs.running.run_lines.Goals as goal

pub work_all-done-requires-clause-ready : goal.work_all-done-requires-clause-ready
work_all-done-requires-clause-ready g c κs within =
    all_ready c.args.limiter.now.id (batches_id c.in_ok-numbers.numbers) 0 c.in_ok-workers.workers.items c.in_ok-workers.ensures.workers

pub close-requires-clause-drawers : goal.close-requires-clause-drawers
close-requires-clause-drawers g c k d lt =
    let done = drawers_here _ _ _ _ _ _ c.in_ok-workers.workers.items c.in_ok-done.field-0.items c.in_ok-done.ensures.done in
    (all_index (λ (d : BatchDrawer). (batches_of d ≡ batches_id c.in_ok-numbers.numbers) × (is_done d ≡ true)) c.in_ok-passes.field-0.drawers.items
    (subst (λ l. AllByRecursion (λ (d : BatchDrawer). (batches_of d ≡ batches_id c.in_ok-numbers.numbers) × (is_done d ≡ true)) l) (sym c.in_ok-passes.ensures.drawers) done) k d lt).0

pub close-requires-clause-done : goal.close-requires-clause-done
close-requires-clause-done g c k d lt =
    let done = drawers_here _ _ _ _ _ _ c.in_ok-workers.workers.items c.in_ok-done.field-0.items c.in_ok-done.ensures.done in
    (all_index (λ (d : BatchDrawer). (batches_of d ≡ batches_id c.in_ok-numbers.numbers) × (is_done d ≡ true)) c.in_ok-passes.field-0.drawers.items
    (subst (λ l. AllByRecursion (λ (d : BatchDrawer). (batches_of d ≡ batches_id c.in_ok-numbers.numbers) × (is_done d ≡ true)) l) (sym c.in_ok-passes.ensures.drawers) done) k d lt).1

pub close-requires-clause-every : goal.close-requires-clause-every
close-requires-clause-every g c =
    let many = as_many _ _ _ _ _ _ c.in_ok-workers.workers.items c.in_ok-done.field-0.items c.in_ok-done.ensures.done in
    let a = c.in_ok-passes.field-0.drawers.ok.0 in
    let b = ap length c.in_ok-passes.ensures.drawers in
    let d = length-map c.in_ok-done.field-0.items (λ v. v.drawer) in
    let e = ap length c.in_ok-workers.ensures.passes in
    let f = length-map c.in_ok-workers.workers.items (λ w. w.pass) in
    let p = c.args.passes.ok.0 in
    let n = c.in_ok-numbers.ensures.batches in
    omega arith

pub merge-records-requires : goal.merge-records-requires
merge-records-requires g c =
    let ws = c.in_ok-workers.workers.items in
    let vs = c.in_ok-done.field-0.items in
    let done = c.in_ok-done.ensures.done in
    let drawers = c.in_ok-passes.ensures.drawers in
    let made = c.in_ok-numbers.ensures.batches.0 in
    let from = c.from.ensures in
    let count : lines_in c.in_ok-numbers.numbers ≡ length (g.L.ScriptLines.lines c.args.lines.now) = omega (arith, c.count-count.ensures.all) in
    let once = lines_once _ _ _ _ (g.L.ScriptLines.lines c.args.lines.now) _ ws vs (lines_in c.in_ok-numbers.numbers) done count
    (λ n. subst (λ (l : List BatchDrawer). IsDrawnOnce (lines_in c.in_ok-numbers.numbers) n (total (λ (d : BatchDrawer). times n (given d)) l)) drawers (c.in_ok-close.ensures.once n)) in
    record {
      once = subst (λ (l : List (List Record)). EachLineOnce c.count-count.result (joined l)) (sym c.in_ok-passes.ensures.journals)
          (subst (λ (n : ℕ). EachLineOnce n (joined (map (λ v. v.journal) vs))) (sym c.count-count.ensures.all) once);
    }

pub returns-clause-run : goal.returns-clause-run
returns-clause-run g c =
    let ws = c.in_ok-workers.workers.items in
    let vs = c.in_ok-done.field-0.items in
    let merged : Merges (length (g.L.ScriptLines.lines c.args.lines.now)) (map (λ v. v.journal) vs) c.merge-records.result =
    subst (λ (n : ℕ). Merges n (map (λ v. v.journal) vs) c.merge-records.result) c.count-count.ensures.all
    (subst (λ (l : List (List Record)). Merges c.count-count.result l c.merge-records.result) c.in_ok-passes.ensures.journals c.merge-records.ensures.merged) in
    let b = bounds_of g.N.CellNaming.setup.cells c.args.limiter.now in
    let ls = g.L.ScriptLines.lines c.args.lines.now in
    subst (λ (l : List PassView). HaveRun b c.args.limiter.now c.args.start ls c.args.passes.items l c.merge-records.result) (sym c.in_ok-passes.ensures.passes)
    (subst (λ (l : List PassView). HaveRun b c.args.limiter.now c.args.start ls l (map (λ v. v.pass) vs) c.merge-records.result) c.in_ok-workers.ensures.passes
    (have_run c.args.stats b c.args.limiter.now c.args.start ls (batches_id c.in_ok-numbers.numbers) ws vs c.merge-records.result c.in_ok-workers.ensures.workers c.in_ok-done.ensures.done
    merged))

pub returns-clause-records : goal.returns-clause-records
returns-clause-records g c =
    subst (λ (n : ℕ). AreInOrder n c.args.start (g.L.ScriptLines.lines c.args.lines.now) c.merge-records.result) (sym c.args.passes.ok.0)
    (ordered (bounds_of g.N.CellNaming.setup.cells c.args.limiter.now) c.args.limiter.now c.args.start (g.L.ScriptLines.lines c.args.lines.now) c.args.passes.items
    c.in_ok-passes.field-0.passes.items c.merge-records.result (returns-clause-run g c)
    (index_all (λ (p : PassView). c.args.start ≤ p.cells.moment) c.args.passes.items c.requires.started))

pub workers_of-requires-clause-passes : goal.workers_of-requires-clause-passes
workers_of-requires-clause-passes g c = index_all (λ (p : PassView). p.limiter ≡ c.args.limiter.now.id) c.args.passes.items c.requires.passes

pub returns-clause-passes : goal.returns-clause-passes
returns-clause-passes g c =
    all_index (λ (p : PassView). p.limiter ≡ c.args.limiter.now.id) c.in_ok-passes.field-0.passes.items
    (subst (λ l. AllByRecursion (λ (p : PassView). p.limiter ≡ c.args.limiter.now.id) l) (sym c.in_ok-passes.ensures.passes)
    (passes_here _ _ _ _ _ _ c.in_ok-workers.workers.items c.in_ok-done.field-0.items c.in_ok-done.ensures.done))

pub merge_tallies-requires : goal.merge_tallies-requires
merge_tallies-requires g c =
    let vs = c.in_ok-done.field-0.items in
    let merged : Merges (length (g.L.ScriptLines.lines c.args.lines.now)) (map (λ v. v.journal) vs) c.merge-records.result =
    subst (λ (n : ℕ). Merges n (map (λ v. v.journal) vs) c.merge-records.result) c.count-count.ensures.all
    (subst (λ (l : List (List Record)). Merges c.count-count.result l c.merge-records.result) c.in_ok-passes.ensures.journals c.merge-records.ensures.merged) in
    let tallies : c.deref.result.now ≡ map (λ v. v.tally) vs = c.deref.ensures.value ∙ c.in_ok-passes.ensures.tallies in
    let counted : HaveCounted c.args.stats (g.L.ScriptLines.lines c.args.lines.now) (map (λ v. v.journal) vs) c.deref.result.now =
    subst (λ (l : List TallyView). HaveCounted c.args.stats (g.L.ScriptLines.lines c.args.lines.now) (map (λ v. v.journal) vs) l) (sym tallies)
    (have_counted c.args.stats _ _ _ (g.L.ScriptLines.lines c.args.lines.now) _ c.in_ok-workers.workers.items vs c.in_ok-done.ensures.done) in
    record {
      room = omega (
        arith,
        c.count-count.ensures.all,
        c.count-count.ensures.few,
        notes_few c.args.stats (g.L.ScriptLines.lines c.args.lines.now) (map (λ v. v.journal) vs) c.deref.result.now c.merge-records.result counted merged,
      );
    }

pub returns-clause-counted : goal.returns-clause-counted
returns-clause-counted g c asked =
    let vs = c.in_ok-done.field-0.items in
    let merged : Merges (length (g.L.ScriptLines.lines c.args.lines.now)) (map (λ v. v.journal) vs) c.merge-records.result =
    subst (λ (n : ℕ). Merges n (map (λ v. v.journal) vs) c.merge-records.result) c.count-count.ensures.all
    (subst (λ (l : List (List Record)). Merges c.count-count.result l c.merge-records.result) c.in_ok-passes.ensures.journals c.merge-records.ensures.merged) in
    let tallies : c.deref.result.now ≡ map (λ v. v.tally) vs = c.deref.ensures.value ∙ c.in_ok-passes.ensures.tallies in
    let counted : HaveCounted c.args.stats (g.L.ScriptLines.lines c.args.lines.now) (map (λ v. v.journal) vs) c.deref.result.now =
    subst (λ (l : List TallyView). HaveCounted c.args.stats (g.L.ScriptLines.lines c.args.lines.now) (map (λ v. v.journal) vs) l) (sym tallies)
    (have_counted c.args.stats _ _ _ (g.L.ScriptLines.lines c.args.lines.now) _ c.in_ok-workers.workers.items vs c.in_ok-done.ensures.done) in
    c.in_ok-tally.ensures (g.L.ScriptLines.lines c.args.lines.now) (map (λ v. v.journal) vs) c.merge-records.result
    (subst (λ (b : Bool). HaveCounted b (g.L.ScriptLines.lines c.args.lines.now) (map (λ v. v.journal) vs) c.deref.result.now) asked counted) merged
