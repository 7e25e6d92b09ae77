use Rattle.std.proofs.Common.{rules, ◌≡◌, ℕ, List, [], ◌∷◌, ◌++◌, length, map, Bool, true, false, inl, Option, sym, ap, ◌∙◌, subst}
use Rattle.std.proofs.lemmas.List.{length-map}
use Rattle.std.specs.Arc.{arc_value}
use Rattle.std.specs.List.{filter_map}
use Rattle.counter_cells.specs.declared.setup.Setup as cell_setup
use Rattle.descriptor_tree.specs.Views.{config_view}
use Rattle.rate_limiter.specs.Passes.{LimiterView, PassView}
use Rattle.counted_checks.specs.Counting.{Counting, Counts}
use Rattle.counted_checks.specs.Made.{begun, AreUnused, AreGivenBack}
use Rattle.http_checks.specs.Checker.{Checker, checker, AnswersBy}
use Rattle.http_checks.specs.Ledger.{HasClosed}
use Rattle.http_checks.specs.Made.{IsMade}
use Rattle.http_checks.specs.Versions.{HasClosedVersions}
use Rattle.serve_tasks.specs.Served.{AllTasksServed}
use Rattle.limiter_tasks.specs.Limited.{TasksServedByLimiter}
use Rattle.limiter_tasks.proofs.Closed.{one_taken, ids, same_limiter, all_stats, served_all}
use Rattle.limiter_tasks.proofs.limited.serve_made.Goals as goal

pub counted-requires : goal.counted-requires
counted-requires g c =
    let limiter = c.in_ok-limiter.limiter in
    let before = c.in_ok-limiter.passes.items in
    let many : length c.in_ok-checks.checks.items ≡ 1 =
    ap length c.in_ok-checks.ensures ∙ length-map before (checker limiter) ∙ c.in_ok-limiter.ensures.made.as_many ∙ ap (λ (x : cell_setup.Setup). x.passes) c.requires.cells in
    subst (λ (n : ℕ). AreUnused n c.in_ok-stats.stats c.in_ok-stats.noting.items) (sym many) c.in_ok-stats.ensures.unused

pub close_served-requires-clause-passes : goal.close_served-requires-clause-passes
close_served-requires-clause-passes g c =
    let cells = g.N.CellNaming.setup.cells in
    let limiter = c.in_ok-limiter.limiter in
    let stats = c.in_ok-stats.stats in
    let after = c.serve_tasks.new.checks in
    let old = g.Q.PollListen.history c.args.polls.now in
    let new = g.Q.PollListen.history c.serve_tasks.new.polls in
    let is_all = c.in-Ok.served.is_all in
    let s = c.in-Ok.ensures in
    let t = one_taken limiter stats c.in_ok-limiter.passes.items c.in_ok-all.all.items c.pop.new.self.items c.in-Some.one
    (c.in_ok-limiter.ensures.made.as_many ∙ ap (λ (x : cell_setup.Setup). x.passes) c.requires.cells)
    (c.in_ok-all.ensures ∙ ap (map (begun stats)) c.in_ok-checks.ensures) c.in-Some.ensures.items in
    let served = subst (λ (p : Counting Checker). AllTasksServed (Counts (AnswersBy cells)) p after old new s.services is_all) t.2 s.each in
    let last : c.push_reserved.new.self.items ≡ after ∷ [] = c.push_reserved.ensures.items ∙ ap (λ (ps : List (Counting Checker)). ps ++ after ∷ []) t.3 in
    let used : c.in_ok-used.used.items ≡ after.checks ∷ [] = c.in_ok-used.ensures.checks ∙ ap (map (λ (k : Counting Checker). k.checks)) last in
    ids limiter.id c.in_ok-passes.passes.items after.checks (c.in_ok-passes.ensures.passes ∙ ap (map (λ (k : Checker). k.pass)) used)
    (c.in_ok-passes.ensures.limiters ∙ ap (map (λ (k : Checker). k.limiter.id)) used)
    (ap (λ (l : LimiterView). l.id) (same_limiter cells limiter t.0 stats after old new s.services is_all served))

pub close_served-requires-clause-every : goal.close_served-requires-clause-every
close_served-requires-clause-every g c =
    let limiter = c.in_ok-limiter.limiter in
    let stats = c.in_ok-stats.stats in
    let after = c.serve_tasks.new.checks in
    let one : g.N.CellNaming.setup.passes ≡ 1 = ap (λ (x : cell_setup.Setup). x.passes) c.requires.cells in
    let t = one_taken limiter stats c.in_ok-limiter.passes.items c.in_ok-all.all.items c.pop.new.self.items c.in-Some.one
    (c.in_ok-limiter.ensures.made.as_many ∙ one) (c.in_ok-all.ensures ∙ ap (map (begun stats)) c.in_ok-checks.ensures) c.in-Some.ensures.items in
    let last : c.push_reserved.new.self.items ≡ after ∷ [] = c.push_reserved.ensures.items ∙ ap (λ (ps : List (Counting Checker)). ps ++ after ∷ []) t.3 in
    let used : c.in_ok-used.used.items ≡ after.checks ∷ [] = c.in_ok-used.ensures.checks ∙ ap (map (λ (k : Counting Checker). k.checks)) last in
    let same : c.in_ok-passes.passes.len ≡ length c.in_ok-passes.passes.items = search rules in
    same ∙ ap length (c.in_ok-passes.ensures.passes ∙ ap (map (λ (k : Checker). k.pass)) used) ∙ sym one ∙ sym c.in_ok-limiter.ensures.made.passes

pub close_stats-requires : goal.close_stats-requires
close_stats-requires g c =
    let cells = g.N.CellNaming.setup.cells in
    let limiter = c.in_ok-limiter.limiter in
    let stats = c.in_ok-stats.stats in
    let after = c.serve_tasks.new.checks in
    let old = g.Q.PollListen.history c.args.polls.now in
    let new = g.Q.PollListen.history c.serve_tasks.new.polls in
    let is_all = c.in-Ok.served.is_all in
    let s = c.in-Ok.ensures in
    let t = one_taken limiter stats c.in_ok-limiter.passes.items c.in_ok-all.all.items c.pop.new.self.items c.in-Some.one
    (c.in_ok-limiter.ensures.made.as_many ∙ ap (λ (x : cell_setup.Setup). x.passes) c.requires.cells)
    (c.in_ok-all.ensures ∙ ap (map (begun stats)) c.in_ok-checks.ensures) c.in-Some.ensures.items in
    let served = subst (λ (p : Counting Checker). AllTasksServed (Counts (AnswersBy cells)) p after old new s.services is_all) t.2 s.each in
    let last : c.push_reserved.new.self.items ≡ after ∷ [] = c.push_reserved.ensures.items ∙ ap (λ (ps : List (Counting Checker)). ps ++ after ∷ []) t.3 in
    record {
      passes = all_stats cells limiter t.0 stats after old new s.services is_all served c.in_ok-stats.ensures.count c.in_ok-used.noted.items
          (subst (λ (cs : List (Counting Checker)). AreGivenBack c.in_ok-used.noted.items (filter_map (λ (k : Counting Checker). k.stats) cs)) last c.in_ok-used.ensures.passes);
    }

pub returns-then-is_all : goal.returns-then-is_all
returns-then-is_all g c =
    let config = config_view (arc_value c.args.parts.config) in
    let setup = c.args.setup in
    let limiter = c.in_ok-limiter.limiter in
    let passes = c.in_ok-limiter.passes.items in
    let stats = c.in_ok-stats.stats in
    let after = c.serve_tasks.new.checks in
    let old = g.Q.PollListen.history c.args.polls.now in
    let new = g.Q.PollListen.history c.serve_tasks.new.polls in
    let is_all = c.in-Ok.served.is_all in
    let s = c.in-Ok.ensures in
    let cells : g.N.CellNaming.setup.cells ≡ setup.cells = ap (λ (x : cell_setup.Setup). x.cells) c.requires.cells in
    let one : g.N.CellNaming.setup.passes ≡ 1 = ap (λ (x : cell_setup.Setup). x.passes) c.requires.cells in
    let start : g.N.CellNaming.setup.start ≡ 0 = ap (λ (x : cell_setup.Setup). x.start) c.requires.cells in
    let t = one_taken limiter stats passes c.in_ok-all.all.items c.pop.new.self.items c.in-Some.one (c.in_ok-limiter.ensures.made.as_many ∙ one)
    (c.in_ok-all.ensures ∙ ap (map (begun stats)) c.in_ok-checks.ensures) c.in-Some.ensures.items in
    let before = t.0 in
    let last : c.push_reserved.new.self.items ≡ after ∷ [] = c.push_reserved.ensures.items ∙ ap (λ (ps : List (Counting Checker)). ps ++ after ∷ []) t.3 in
    let used : c.in_ok-used.used.items ≡ after.checks ∷ [] = c.in_ok-used.ensures.checks ∙ ap (map (λ (k : Counting Checker). k.checks)) last in
    let back : c.in_ok-passes.passes.items ≡ after.checks.pass ∷ [] = c.in_ok-passes.ensures.passes ∙ ap (map (λ (k : Checker). k.pass)) used in
    let made = subst (λ (ps : List PassView). IsMade config 0 1 setup.global_shadow limiter ps) t.1
    (subst (λ (b : Bool). IsMade config 0 1 b limiter passes) c.requires.shadow
    (subst (λ (n : ℕ). IsMade config 0 n c.args.parts.global_shadow limiter passes) one
    (subst (λ (n : ℕ). IsMade config n g.N.CellNaming.setup.passes c.args.parts.global_shadow limiter passes) start
    c.in_ok-limiter.ensures.made))) in
    let served = subst (λ (n : ℕ). AllTasksServed (Counts (AnswersBy n)) (begun stats (checker limiter before)) after old new s.services is_all) cells
    (subst (λ (p : Counting Checker). AllTasksServed (Counts (AnswersBy g.N.CellNaming.setup.cells)) p after old new s.services is_all) t.2 s.each) in
    let checks = subst (λ (ps : List PassView). HasClosed setup.cells limiter 0 ps) back
    (subst (λ (n : ℕ). HasClosed setup.cells limiter n c.in_ok-passes.passes.items) start
    (subst (λ (n : ℕ). HasClosed n limiter g.N.CellNaming.setup.start c.in_ok-passes.passes.items) cells c.in_ok-close_served.ensures.checks)) in
    let versions = subst (λ (ps : List PassView). HasClosedVersions setup.cells limiter 0 ps) back
    (subst (λ (n : ℕ). HasClosedVersions setup.cells limiter n c.in_ok-passes.passes.items) start
    (subst (λ (n : ℕ). HasClosedVersions n limiter g.N.CellNaming.setup.start c.in_ok-passes.passes.items) cells c.in_ok-close_served.ensures.versions)) in
    let texts = c.in_ok-close_stats.ensures (filter_map (λ (k : Counting Checker). k.stats) (after ∷ []))
    (subst (λ (cs : List (Counting Checker)). AreGivenBack c.in_ok-used.noted.items (filter_map (λ (k : Counting Checker). k.stats) cs)) last c.in_ok-used.ensures.passes) in
    let all = served_all config setup old new s.services is_all limiter before stats after made c.in_ok-stats.ensures.kept served checks versions texts in
    (s.services, s.all c.if-is_all.true, subst (λ (b : Bool). TasksServedByLimiter config setup old new s.services b) c.if-is_all.true all, s.ends_are)

pub returns-else-is_all : goal.returns-else-is_all
returns-else-is_all g c =
    let config = config_view (arc_value c.args.parts.config) in
    let setup = c.args.setup in
    let limiter = c.in_ok-limiter.limiter in
    let passes = c.in_ok-limiter.passes.items in
    let stats = c.in_ok-stats.stats in
    let after = c.serve_tasks.new.checks in
    let old = g.Q.PollListen.history c.args.polls.now in
    let new = g.Q.PollListen.history c.serve_tasks.new.polls in
    let is_all = c.in-Ok.served.is_all in
    let s = c.in-Ok.ensures in
    let cells : g.N.CellNaming.setup.cells ≡ setup.cells = ap (λ (x : cell_setup.Setup). x.cells) c.requires.cells in
    let one : g.N.CellNaming.setup.passes ≡ 1 = ap (λ (x : cell_setup.Setup). x.passes) c.requires.cells in
    let start : g.N.CellNaming.setup.start ≡ 0 = ap (λ (x : cell_setup.Setup). x.start) c.requires.cells in
    let t = one_taken limiter stats passes c.in_ok-all.all.items c.pop.new.self.items c.in-Some.one (c.in_ok-limiter.ensures.made.as_many ∙ one)
    (c.in_ok-all.ensures ∙ ap (map (begun stats)) c.in_ok-checks.ensures) c.in-Some.ensures.items in
    let before = t.0 in
    let last : c.push_reserved.new.self.items ≡ after ∷ [] = c.push_reserved.ensures.items ∙ ap (λ (ps : List (Counting Checker)). ps ++ after ∷ []) t.3 in
    let used : c.in_ok-used.used.items ≡ after.checks ∷ [] = c.in_ok-used.ensures.checks ∙ ap (map (λ (k : Counting Checker). k.checks)) last in
    let back : c.in_ok-passes.passes.items ≡ after.checks.pass ∷ [] = c.in_ok-passes.ensures.passes ∙ ap (map (λ (k : Checker). k.pass)) used in
    let made = subst (λ (ps : List PassView). IsMade config 0 1 setup.global_shadow limiter ps) t.1
    (subst (λ (b : Bool). IsMade config 0 1 b limiter passes) c.requires.shadow
    (subst (λ (n : ℕ). IsMade config 0 n c.args.parts.global_shadow limiter passes) one
    (subst (λ (n : ℕ). IsMade config n g.N.CellNaming.setup.passes c.args.parts.global_shadow limiter passes) start
    c.in_ok-limiter.ensures.made))) in
    let served = subst (λ (n : ℕ). AllTasksServed (Counts (AnswersBy n)) (begun stats (checker limiter before)) after old new s.services is_all) cells
    (subst (λ (p : Counting Checker). AllTasksServed (Counts (AnswersBy g.N.CellNaming.setup.cells)) p after old new s.services is_all) t.2 s.each) in
    let checks = subst (λ (ps : List PassView). HasClosed setup.cells limiter 0 ps) back
    (subst (λ (n : ℕ). HasClosed setup.cells limiter n c.in_ok-passes.passes.items) start
    (subst (λ (n : ℕ). HasClosed n limiter g.N.CellNaming.setup.start c.in_ok-passes.passes.items) cells c.in_ok-close_served.ensures.checks)) in
    let versions = subst (λ (ps : List PassView). HasClosedVersions setup.cells limiter 0 ps) back
    (subst (λ (n : ℕ). HasClosedVersions setup.cells limiter n c.in_ok-passes.passes.items) start
    (subst (λ (n : ℕ). HasClosedVersions n limiter g.N.CellNaming.setup.start c.in_ok-passes.passes.items) cells c.in_ok-close_served.ensures.versions)) in
    let texts = c.in_ok-close_stats.ensures (filter_map (λ (k : Counting Checker). k.stats) (after ∷ []))
    (subst (λ (cs : List (Counting Checker)). AreGivenBack c.in_ok-used.noted.items (filter_map (λ (k : Counting Checker). k.stats) cs)) last c.in_ok-used.ensures.passes) in
    let all = served_all config setup old new s.services is_all limiter before stats after made c.in_ok-stats.ensures.kept served checks versions texts in
    let failed = s.failed c.if-is_all.false in
    (failed.1, inl (s.services, failed.0, subst (λ (b : Bool). TasksServedByLimiter config setup old new s.services b) c.if-is_all.false all))
