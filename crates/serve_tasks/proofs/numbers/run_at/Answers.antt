use Rattle.std.proofs.Common.{◌≡◌, ◌≤◌, ◌++◌, None, Some, List, Option, set, get_or, refl, sym, ap, ◌∙◌, subst, arith}
use Rattle.std.proofs.lemmas.List.{set-get_or}
use Rattle.http_serve.specs.Service.{Service}
use Rattle.conn_tasks.specs.State.{TaskState}
use Rattle.rate_io.specs.Causes.{Rose}
use Rattle.conn_tasks.specs.Tasks.{IsOn, IsGoing}
use Rattle.serve_tasks.specs.Links.{standing}
use Rattle.serve_tasks.specs.Running.{AllStand, Runs, WasRun, Follows, live_count}
use Rattle.serve_tasks.proofs.Made.{tag, lead_tagged}
use Rattle.serve_tasks.proofs.Standings.{runs_none, count_taken, count_kept, there_within, ran_on, ran_out, one_goes}
use Rattle.serve_tasks.proofs.Runs.{follows_same, run_waiting, others_waiting, run_ended, others_ended}
use Rattle.serve_tasks.proofs.numbers.run_at.Goals as goal

pub run_task-requires : goal.run_task-requires
run_task-requires g c = record {
  live = c.woken-task.ensures.live;
  going = subst (λ (s : TaskState). IsGoing s) (sym c.woken-task.ensures.same)
      (one_goes c.args.number (standing c.args.links.now) c.in-Some.parked c.requires.stand c.in-Some.ensures.taken);
  room = c.in_ok-refill.ensures;
}

pub returns-in_default-clause-runs : goal.returns-in_default-clause-runs
returns-in_default-clause-runs g c =
    let old = c.args.links.now.tasks.items in
    let same : c.take_at.new.tasks.items ≡ old =
    c.take_at.ensures.rest ∙ (ap (λ (v : Option TaskState). set old c.args.number v) c.in_default.ensures.taken ∙ set-get_or old c.args.number None) in
    subst (λ (ts : List (Option TaskState)). Runs g.K.Checks.answers c.args.checks.now c.args.checks.now (standing c.args.links.now)
    (record { tasks = ts; served = c.args.links.now.served.items })) (sym same)
    (runs_none g.K.Checks.answers c.args.checks.now (standing c.args.links.now))

pub invariant_of-links-in-Waits-clause-counted : goal.invariant_of-links-in-Waits-clause-counted
invariant_of-links-in-Waits-clause-counted g c =
    let old = c.args.links.now.tasks.items in
    let is : c.put_at.new.list.items ≡ set (set old c.args.number None) c.args.number (Some c.in-Waits.parked) =
    c.put_at.ensures.put ∙ ap (λ (xs : List (Option TaskState)). set xs c.args.number (Some c.in-Waits.parked)) c.take_at.ensures.rest in
    c.args.links.now.counted ∙ (sym (count_kept old c.args.number c.in-Some.parked c.in-Waits.parked c.in-Some.ensures.taken) ∙ sym (ap live_count is))

pub overflow_sub-links : goal.overflow_sub-links
overflow_sub-links g c =
    omega (arith, c.args.links.now.counted, count_taken c.args.links.now.tasks.items c.args.number c.in-Some.parked c.in-Some.ensures.taken)

pub invariant_of-links-in-Ended-clause-counted : goal.invariant_of-links-in-Ended-clause-counted
invariant_of-links-in-Ended-clause-counted g c =
    let rest = ap live_count c.take_at.ensures.rest in
    omega (arith, c.args.links.now.counted, count_taken c.args.links.now.tasks.items c.args.number c.in-Some.parked c.in-Some.ensures.taken, rest)

pub returns-in-Waits-clause-runs : goal.returns-in-Waits-clause-runs
returns-in-Waits-clause-runs g c =
    let old = c.args.links.now.tasks.items in
    let done = c.args.links.now.served.items in
    let n = c.args.number in
    let x = c.in-Waits.ensures in
    let is : c.put_at.new.list.items ≡ set (set old n None) n (Some c.in-Waits.parked) =
    c.put_at.ensures.put ∙ ap (λ (xs : List (Option TaskState)). set xs n (Some c.in-Waits.parked)) c.take_at.ensures.rest in (
      tag n x.0,
      lead_tagged g.K.Checks.answers c.args.checks.now c.run_task.new.checks n x.0 x.1,
      λ made all.
          subst (λ (ts : List (Option TaskState)). AllStand (made ++ tag n x.0) ts done) (sym is)
          (ran_on n x.0 made old done c.in-Some.parked all c.in-Some.ensures.taken c.in-Waits.parked x.2.0
          (λ first asked on. x.2.3 first asked (subst (λ (u : TaskState). IsOn first asked u) (sym c.woken-task.ensures.same) on))),
    )

pub returns-in-Ended-clause-runs : goal.returns-in-Ended-clause-runs
returns-in-Ended-clause-runs g c =
    let old = c.args.links.now.tasks.items in
    let done = c.args.links.now.served.items in
    let n = c.args.number in
    let s = c.in-Some.parked in
    let x = c.in-Ended.ensures in
    let number : c.in-Ended.served.number ≡ n = x.2.0 ∙ omega (arith, there_within old n s c.in-Some.ensures.taken, c.args.links.now.few, c.args.links.now.tasks.ok.0) in (
      tag n x.0,
      lead_tagged g.K.Checks.answers c.args.checks.now c.run_task.new.checks n x.0 x.1,
      λ made all.
          subst (λ (ts : List (Option TaskState)). AllStand (made ++ tag n x.0) ts c.put_at-in-Ended.new.list.items) (sym c.take_at.ensures.rest)
          (subst (λ (ss : List (Option Service)). AllStand (made ++ tag n x.0) (set old n None) ss) (sym c.put_at-in-Ended.ensures.put)
          (ran_out n x.0 made old done s all c.in-Some.ensures.taken c.in-Ended.served number
          (λ first asked new on. x.2.1 first asked new (subst (λ (u : TaskState). IsOn first asked u) (sym c.woken-task.ensures.same) on)))),
    )

pub returns-in_default-clause-run : goal.returns-in_default-clause-run
returns-in_default-clause-run g c =
    let old = c.args.links.now.tasks.items in
    let none = c.in_default.ensures.taken in
    let same : c.take_at.new.tasks.items ≡ old =
    c.take_at.ensures.rest ∙ (ap (λ (v : Option TaskState). set old c.args.number v) none ∙ set-get_or old c.args.number None) in
    subst (λ (ts : List (Option TaskState)). WasRun (get_or old c.args.number None) (get_or ts c.args.number None)) (sym same)
    (subst (λ (o : Option TaskState). WasRun o o) none refl)

pub returns-in_default-clause-others : goal.returns-in_default-clause-others
returns-in_default-clause-others g c = λ k.
    let old = c.args.links.now.tasks.items in
    let same : c.take_at.new.tasks.items ≡ old =
    c.take_at.ensures.rest ∙ (ap (λ (v : Option TaskState). set old c.args.number v) c.in_default.ensures.taken ∙ set-get_or old c.args.number None) in
    subst (λ (ts : List (Option TaskState)). Follows (get_or old k None) (get_or ts k None)) (sym same) (follows_same (get_or old k None))

pub returns-in-Waits-clause-run : goal.returns-in-Waits-clause-run
returns-in-Waits-clause-run g c =
    let old = c.args.links.now.tasks.items in
    let n = c.args.number in
    let is : c.put_at.new.list.items ≡ set (set old n None) n (Some c.in-Waits.parked) =
    c.put_at.ensures.put ∙ ap (λ (xs : List (Option TaskState)). set xs n (Some c.in-Waits.parked)) c.take_at.ensures.rest in
    subst (λ (ts : List (Option TaskState)). WasRun (get_or old n None) (get_or ts n None)) (sym is)
    (run_waiting old n c.in-Some.parked c.in-Some.ensures.taken c.in-Waits.parked
    (subst (λ (s : TaskState). Rose s.link.waits c.in-Waits.parked.link.waits) c.woken-task.ensures.same c.in-Waits.ensures.2.2))

pub returns-in-Waits-clause-others : goal.returns-in-Waits-clause-others
returns-in-Waits-clause-others g c = λ k.
    let old = c.args.links.now.tasks.items in
    let n = c.args.number in
    let is : c.put_at.new.list.items ≡ set (set old n None) n (Some c.in-Waits.parked) =
    c.put_at.ensures.put ∙ ap (λ (xs : List (Option TaskState)). set xs n (Some c.in-Waits.parked)) c.take_at.ensures.rest in
    subst (λ (ts : List (Option TaskState)). Follows (get_or old k None) (get_or ts k None)) (sym is)
    (others_waiting old n c.in-Some.parked c.in-Some.ensures.taken c.in-Waits.parked
    (subst (λ (s : TaskState). s.link.waits ≤ c.in-Waits.parked.link.waits) c.woken-task.ensures.same c.in-Waits.ensures.2.1) k)

pub returns-in-Ended-clause-run : goal.returns-in-Ended-clause-run
returns-in-Ended-clause-run g c =
    let old = c.args.links.now.tasks.items in
    let n = c.args.number in
    subst (λ (ts : List (Option TaskState)). WasRun (get_or old n None) (get_or ts n None)) (sym c.take_at.ensures.rest)
    (run_ended old n c.in-Some.parked c.in-Some.ensures.taken)

pub returns-in-Ended-clause-others : goal.returns-in-Ended-clause-others
returns-in-Ended-clause-others g c = λ k.
    let old = c.args.links.now.tasks.items in
    subst (λ (ts : List (Option TaskState)). Follows (get_or old k None) (get_or ts k None)) (sym c.take_at.ensures.rest)
    (others_ended old c.args.number c.in-Some.parked c.in-Some.ensures.taken k)
