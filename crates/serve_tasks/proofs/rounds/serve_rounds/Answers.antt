use Rattle.std.proofs.Common.{◌≡◌, ◌≤◌, ℕ, true, sym, ◌∙◌, subst, vec_len, arith}
use Rattle.http_endpoint.proofs.ReadLemmas.{rose_earlier}
use Rattle.serve_tasks.specs.Links.{standing}
use Rattle.serve_tasks.specs.Accepting.{Leaves, is_over}
use Rattle.serve_tasks.proofs.Accepts.{slept, ends_so}
use Rattle.serve_tasks.proofs.Calls.{stayed, grew_more}
use Rattle.serve_tasks.proofs.Standings.{runs_more, none_there, stand_again}
use Rattle.serve_tasks.proofs.rounds.serve_rounds.Goals as goal

pub returns-then-links-eq0-clause-runs : goal.returns-then-links-eq0-clause-runs
returns-then-links-eq0-clause-runs g c =
    runs_more g.K.Checks.answers c.args.checks.now c.rounds.checks c.accept_on.new.checks (standing c.args.links.now) (standing c.rounds.links)
    (standing c.accept_on.new.links) c.rounds.invariant.runs c.in_ok-accepting.ensures.runs

pub returns-then-links-eq0-clause-ends : goal.returns-then-links-eq0-clause-ends
returns-then-links-eq0-clause-ends g c =
    let Q = g.Q.PollListen in
    let l = c.in_ok-accepting.ensures.accepts (Q.history c.args.polls.now) (Q.faults c.args.polls.now) c.rounds.invariant.leaves in
    let over : is_over c.in_ok-accepting.accepting ≡ true = sym c.is_over.ensures ∙ c.if-is_over.true in
    rw c.is_whole.ensures
    (ends_so c.args.connections c.in_ok-accepting.accepting (vec_len c.accept_on.new.links.tasks) c.accept_on.new.links.live (Q.faults c.args.polls.now)
    (Q.faults c.accept_on.new.polls) (Q.history c.args.polls.now) (Q.history c.accept_on.new.polls) l over c.if-links-eq0.true)

pub returns-in_default-clause-ends : goal.returns-in_default-clause-ends
returns-in_default-clause-ends g c =
    let Q = g.Q.PollListen in
    let h = Q.history c.args.polls.now in
    let a = Q.history c.accept_on.new.polls in
    let o = c.in_ok-accepting.ensures in
    let l = o.accepts h (Q.faults c.args.polls.now) c.rounds.invariant.leaves in (
      grew_more h a (Q.history c.sleep_on.new.polls) (grew_more h (Q.history c.rounds.polls) a c.rounds.invariant.grew o.grew)
          (stayed a (Q.history c.sleep_on.new.polls) c.in_default.ensures.history),
      rose_earlier (Q.faults c.args.polls.now) (Q.faults c.accept_on.new.polls) (Q.faults c.sleep_on.new.polls) l.later c.in_default.ensures.cause.failed,
    )

pub run_woken-requires : goal.run_woken-requires
run_woken-requires g c =
    let A = g.K.Checks.answers in
    let l = c.args.links.now in
    let s = none_there (standing l) (omega (arith, l.as_many, l.served.ok.0, l.tasks.ok.0)) (omega (arith, c.requires.none, l.tasks.ok.0)) in
    let here = stand_again A c.args.checks.now c.rounds.checks (standing c.args.links.now) (standing c.rounds.links) s c.rounds.invariant.runs in
    record {
      stand = stand_again A c.rounds.checks c.accept_on.new.checks (standing c.rounds.links) (standing c.accept_on.new.links) here c.in_ok-accepting.ensures.runs;
      all = c.in-Ok.ensures.told;
    }

pub rounds-preserved : goal.rounds-preserved
rounds-preserved g c =
    let Q = g.Q.PollListen in
    let A = g.K.Checks.answers in
    let h = Q.history c.args.polls.now in
    let f = Q.faults c.args.polls.now in
    let a = Q.history c.accept_on.new.polls in
    let s = Q.history c.sleep_on.new.polls in
    let n = vec_len c.accept_on.new.links.tasks in
    let o = c.in_ok-accepting.ensures in
    let w = c.in_ok-may_come.ensures in
    let l = o.accepts h f c.rounds.invariant.leaves in
    let m = slept c.args.connections c.in_ok-accepting.accepting n f (Q.faults c.accept_on.new.polls) (Q.faults c.sleep_on.new.polls) h a s c.in-Ok.ensures.history
    c.in-Ok.ensures.cause.later l in
    record {
      runs = runs_more A c.args.checks.now c.accept_on.new.checks c.run_woken.new.checks (standing c.args.links.now) (standing c.accept_on.new.links)
          (standing c.run_woken.new.links)
          (runs_more A c.args.checks.now c.rounds.checks c.accept_on.new.checks (standing c.args.links.now) (standing c.rounds.links) (standing c.accept_on.new.links)
          c.rounds.invariant.runs o.runs) w.runs;
      leaves = subst (λ (k : ℕ). Leaves c.args.connections c.accepting_after-accepting.result k h s (f, Q.faults c.sleep_on.new.polls)) (sym w.as_many)
          (c.accepting_after-accepting.ensures c.args.connections n s (Q.faults c.sleep_on.new.polls) h f m);
      within = subst (λ (k : ℕ). k ≤ c.args.connections) (sym w.as_many) o.within;
      grew = grew_more h a s (grew_more h (Q.history c.rounds.polls) a c.rounds.invariant.grew o.grew) (stayed a s c.in-Ok.ensures.history);
    }
