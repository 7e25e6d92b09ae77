use denote.Param.Send.{sendable}
use Rattle.std.proofs.Common.{rules, ◌≡◌, ℕ, List, length, map, Bool, true, false, Option, ap, ◌∙◌, sym, subst}
use Rattle.std.proofs.lemmas.List.{length-map}
use Rattle.std.specs.Arc.{arc_value}
use Rattle.counter_cells.specs.declared.setup.Setup as cell_setup
use Rattle.descriptor_tree.specs.Views.{config_view}
use Rattle.counted_checks.specs.Counting.{Counting, Counts}
use Rattle.counted_checks.specs.Made.{begun, AreUnused, HasPasses}
use Rattle.counted_checks.proofs.Crossing.{counted_checks_send}
use Rattle.http_checks.specs.Checker.{Checker, checker, AnswersBy}
use Rattle.http_checks.specs.Ledger.{HasClosed}
use Rattle.http_checks.specs.Made.{checkers, IsMade}
use Rattle.http_checks.specs.Versions.{HasClosedVersions}
use Rattle.http_checks.proofs.Crossing.{pass_checks_send}
use Rattle.http_serve.specs.Links.{AllServed}
use Rattle.http_limiter.specs.Limited.{ServedByLimiter}
use Rattle.http_limiter.proofs.Closed.{checks_of, passes_in, same_limiter, all_passes, all_stats, served_all}
use Rattle.http_limiter.proofs.limited.serve_made.Goals as goal

pub serve_links-requires-send-K : goal.serve_links-requires-send-K
serve_links-requires-send-K g c κs within = search (sendable, counted_checks_send, pass_checks_send) depth 30

pub counted-requires : goal.counted-requires
counted-requires g c =
    let limiter = c.in_ok-limiter.limiter in
    let before = c.in_ok-limiter.passes.items in
    let workers : g.N.CellNaming.setup.passes ≡ c.args.setup.workers = ap (λ (x : cell_setup.Setup). x.passes) c.requires.cells in
    let many : length c.in_ok-checks.checks.items ≡ c.args.setup.workers =
    ap length c.in_ok-checks.ensures ∙ length-map before (checker limiter) ∙ c.in_ok-limiter.ensures.made.as_many ∙ workers in
    subst (λ (n : ℕ). AreUnused n c.in_ok-stats.stats c.in_ok-stats.noting.items) (sym many) c.in_ok-stats.ensures.unused

pub close_served-requires-clause-passes : goal.close_served-requires-clause-passes
close_served-requires-clause-passes g c =
    let cells = g.N.CellNaming.setup.cells in
    let limiter = c.in_ok-limiter.limiter in
    let before = c.in_ok-limiter.passes.items in
    let stats = c.in_ok-stats.stats in
    let after = c.in_ok-after.field-0.checks.items in
    let old = g.L.Listen.history c.args.listen.now in
    let new = g.L.Listen.history c.serve_links.new.listen in
    let is_all = c.in_ok-after.field-0.is_all in
    let s = c.in_ok-after.ensures.served in
    let served = subst (λ (ps : List (Counting Checker)). AllServed (Counts (AnswersBy cells)) ps after old new s.services is_all)
    (c.in_ok-begun.ensures ∙ ap (map (begun stats)) c.in_ok-checks.ensures) s.each in
    same_limiter cells limiter stats before after old new s.services is_all served c.in_ok-passes.passes.items
    (c.in_ok-passes.ensures.limiters ∙ ap (map (λ (k : Checker). k.limiter.id)) c.in_ok-used.ensures.checks)

pub close_served-requires-clause-every : goal.close_served-requires-clause-every
close_served-requires-clause-every g c =
    let cells = g.N.CellNaming.setup.cells in
    let limiter = c.in_ok-limiter.limiter in
    let before = c.in_ok-limiter.passes.items in
    let stats = c.in_ok-stats.stats in
    let after = c.in_ok-after.field-0.checks.items in
    let old = g.L.Listen.history c.args.listen.now in
    let new = g.L.Listen.history c.serve_links.new.listen in
    let is_all = c.in_ok-after.field-0.is_all in
    let s = c.in_ok-after.ensures.served in
    let served = subst (λ (ps : List (Counting Checker)). AllServed (Counts (AnswersBy cells)) ps after old new s.services is_all)
    (c.in_ok-begun.ensures ∙ ap (map (begun stats)) c.in_ok-checks.ensures) s.each in
    let same : c.in_ok-passes.passes.len ≡ length c.in_ok-passes.passes.items = search rules in
    same ∙ all_passes cells limiter stats before after old new s.services is_all served c.in_ok-passes.passes.items
    (c.in_ok-passes.ensures.passes ∙ ap passes_in c.in_ok-used.ensures.checks)
    ∙ c.in_ok-limiter.ensures.made.as_many ∙ sym c.in_ok-limiter.ensures.made.passes

pub close_stats-requires : goal.close_stats-requires
close_stats-requires g c =
    let cells = g.N.CellNaming.setup.cells in
    let limiter = c.in_ok-limiter.limiter in
    let before = c.in_ok-limiter.passes.items in
    let stats = c.in_ok-stats.stats in
    let after = c.in_ok-after.field-0.checks.items in
    let old = g.L.Listen.history c.args.listen.now in
    let new = g.L.Listen.history c.serve_links.new.listen in
    let is_all = c.in_ok-after.field-0.is_all in
    let s = c.in_ok-after.ensures.served in
    let workers : g.N.CellNaming.setup.passes ≡ c.args.setup.workers = ap (λ (x : cell_setup.Setup). x.passes) c.requires.cells in
    let served = subst (λ (ps : List (Counting Checker)). AllServed (Counts (AnswersBy cells)) ps after old new s.services is_all)
    (c.in_ok-begun.ensures ∙ ap (map (begun stats)) c.in_ok-checks.ensures) s.each in
    record {
      passes = all_stats cells limiter stats before after old new s.services is_all served
          (subst (λ (n : ℕ). HasPasses n stats) (sym (c.in_ok-limiter.ensures.made.as_many ∙ workers)) c.in_ok-stats.ensures.count)
          c.in_ok-used.noted.items c.in_ok-used.ensures.passes;
    }

pub returns-then-is_all : goal.returns-then-is_all
returns-then-is_all g c =
    let config = config_view (arc_value c.args.parts.config) in
    let setup = c.args.setup in
    let limiter = c.in_ok-limiter.limiter in
    let before = c.in_ok-limiter.passes.items in
    let stats = c.in_ok-stats.stats in
    let after = c.in_ok-after.field-0.checks.items in
    let passes = c.in_ok-passes.passes.items in
    let old = g.L.Listen.history c.args.listen.now in
    let new = g.L.Listen.history c.serve_links.new.listen in
    let is_all = c.in_ok-after.field-0.is_all in
    let s = c.in_ok-after.ensures.served in
    let cells : g.N.CellNaming.setup.cells ≡ setup.cells = ap (λ (x : cell_setup.Setup). x.cells) c.requires.cells in
    let workers : g.N.CellNaming.setup.passes ≡ setup.workers = ap (λ (x : cell_setup.Setup). x.passes) c.requires.cells in
    let start : g.N.CellNaming.setup.start ≡ 0 = ap (λ (x : cell_setup.Setup). x.start) c.requires.cells in
    let made = subst (λ (b : Bool). IsMade config 0 setup.workers b limiter before) c.requires.shadow
    (subst (λ (n : ℕ). IsMade config 0 n c.args.parts.global_shadow limiter before) workers
    (subst (λ (n : ℕ). IsMade config n g.N.CellNaming.setup.passes c.args.parts.global_shadow limiter before) start c.in_ok-limiter.ensures.made)) in
    let served = subst (λ (n : ℕ). AllServed (Counts (AnswersBy n)) (map (begun stats) (checkers limiter before)) after old new s.services is_all) cells
    (subst (λ (ps : List (Counting Checker)). AllServed (Counts (AnswersBy g.N.CellNaming.setup.cells)) ps after old new s.services is_all)
    (c.in_ok-begun.ensures ∙ ap (map (begun stats)) c.in_ok-checks.ensures) s.each) in
    let checks = subst (λ (n : ℕ). HasClosed setup.cells limiter n passes) start
    (subst (λ (n : ℕ). HasClosed n limiter g.N.CellNaming.setup.start passes) cells c.in_ok-close_served.ensures.checks) in
    let versions = subst (λ (n : ℕ). HasClosedVersions setup.cells limiter n passes) start
    (subst (λ (n : ℕ). HasClosedVersions n limiter g.N.CellNaming.setup.start passes) cells c.in_ok-close_served.ensures.versions) in
    let all = served_all config setup old new s.services is_all limiter before stats after passes made c.in_ok-stats.ensures.kept served
    (c.in_ok-passes.ensures.passes ∙ ap passes_in c.in_ok-used.ensures.checks) checks versions (c.in_ok-close_stats.ensures _ c.in_ok-used.ensures.passes) in
    (s.services, s.all c.if-is_all.true, subst (λ (b : Bool). ServedByLimiter config setup old new s.services b) c.if-is_all.true all, s.ends_are)

pub returns-else-is_all : goal.returns-else-is_all
returns-else-is_all g c =
    let config = config_view (arc_value c.args.parts.config) in
    let setup = c.args.setup in
    let limiter = c.in_ok-limiter.limiter in
    let before = c.in_ok-limiter.passes.items in
    let stats = c.in_ok-stats.stats in
    let after = c.in_ok-after.field-0.checks.items in
    let passes = c.in_ok-passes.passes.items in
    let old = g.L.Listen.history c.args.listen.now in
    let new = g.L.Listen.history c.serve_links.new.listen in
    let is_all = c.in_ok-after.field-0.is_all in
    let s = c.in_ok-after.ensures.served in
    let cells : g.N.CellNaming.setup.cells ≡ setup.cells = ap (λ (x : cell_setup.Setup). x.cells) c.requires.cells in
    let workers : g.N.CellNaming.setup.passes ≡ setup.workers = ap (λ (x : cell_setup.Setup). x.passes) c.requires.cells in
    let start : g.N.CellNaming.setup.start ≡ 0 = ap (λ (x : cell_setup.Setup). x.start) c.requires.cells in
    let made = subst (λ (b : Bool). IsMade config 0 setup.workers b limiter before) c.requires.shadow
    (subst (λ (n : ℕ). IsMade config 0 n c.args.parts.global_shadow limiter before) workers
    (subst (λ (n : ℕ). IsMade config n g.N.CellNaming.setup.passes c.args.parts.global_shadow limiter before) start c.in_ok-limiter.ensures.made)) in
    let served = subst (λ (n : ℕ). AllServed (Counts (AnswersBy n)) (map (begun stats) (checkers limiter before)) after old new s.services is_all) cells
    (subst (λ (ps : List (Counting Checker)). AllServed (Counts (AnswersBy g.N.CellNaming.setup.cells)) ps after old new s.services is_all)
    (c.in_ok-begun.ensures ∙ ap (map (begun stats)) c.in_ok-checks.ensures) s.each) in
    let checks = subst (λ (n : ℕ). HasClosed setup.cells limiter n passes) start
    (subst (λ (n : ℕ). HasClosed n limiter g.N.CellNaming.setup.start passes) cells c.in_ok-close_served.ensures.checks) in
    let versions = subst (λ (n : ℕ). HasClosedVersions setup.cells limiter n passes) start
    (subst (λ (n : ℕ). HasClosedVersions n limiter g.N.CellNaming.setup.start passes) cells c.in_ok-close_served.ensures.versions) in
    let all = served_all config setup old new s.services is_all limiter before stats after passes made c.in_ok-stats.ensures.kept served
    (c.in_ok-passes.ensures.passes ∙ ap passes_in c.in_ok-used.ensures.checks) checks versions (c.in_ok-close_stats.ensures _ c.in_ok-used.ensures.passes) in
    let failed = s.failed c.if-is_all.false in
    (s.services, failed.0, subst (λ (b : Bool). ServedByLimiter config setup old new s.services b) c.if-is_all.false all, failed.1)
