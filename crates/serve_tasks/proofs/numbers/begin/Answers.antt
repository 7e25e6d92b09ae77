use Rattle.std.proofs.Common.{◌≡◌, ◌+◌, ◌∷◌, ◌++◌, [], None, Some, List, Option, length, sym, ap, ◌∙◌, subst, arith}
use Rattle.http_serve.specs.Service.{Service}
use Rattle.conn_tasks.specs.State.{TaskState}
use Rattle.serve_tasks.specs.Running.{AllStand, live_count}
use Rattle.serve_tasks.proofs.Made.{tag, lead_tagged}
use Rattle.serve_tasks.proofs.Standings.{one_comes, count_push, count_push_none, live_few}
use Rattle.serve_tasks.proofs.numbers.begin.Goals as goal

pub run_task-requires : goal.run_task-requires
run_task-requires g c = record {
  live = c.in_ok-task.ensures.live;
  going = ((g.N.PollLink.state c.args.link).link, [], c.requires.new, c.in_ok-task.ensures.on);
  room = c.in_ok-refill.ensures;
}

pub overflow_add-links : goal.overflow_add-links
overflow_add-links g c =
    omega (arith, c.args.links.now.counted, live_few c.args.links.now.tasks.items, c.args.links.now.tasks.ok.0, c.requires.few)

pub invariant_of-links-in-Waits-clause-counted : goal.invariant_of-links-in-Waits-clause-counted
invariant_of-links-in-Waits-clause-counted g c =
    let old = c.args.links.now.tasks.items in
    let is : c.push_reserved.new.self.items ≡ old ++ Some c.in-Waits.parked ∷ [] =
    c.push_reserved.ensures.items ∙ ap (λ (xs : List (Option TaskState)). xs ++ Some c.in-Waits.parked ∷ []) c.reserve.ensures.items in
    ap (λ n. n + 1) c.args.links.now.counted ∙ (sym (count_push old c.in-Waits.parked) ∙ sym (ap live_count is))

pub invariant_of-links-in-Ended-clause-counted : goal.invariant_of-links-in-Ended-clause-counted
invariant_of-links-in-Ended-clause-counted g c =
    let old = c.args.links.now.tasks.items in
    let is : c.push_reserved-in-Ended.new.self.items ≡ old ++ None ∷ [] =
    c.push_reserved-in-Ended.ensures.items ∙ ap (λ (xs : List (Option TaskState)). xs ++ None ∷ []) c.reserve.ensures.items in
    c.args.links.now.counted ∙ (sym (count_push_none old) ∙ sym (ap live_count is))

pub returns-in-Waits-clause-runs : goal.returns-in-Waits-clause-runs
returns-in-Waits-clause-runs g c =
    let old = c.args.links.now.tasks.items in
    let done = c.args.links.now.served.items in
    let x = c.in-Waits.ensures in
    let n = length old in
    let first = (g.N.PollLink.state c.args.link).link in
    let tasks_is : c.push_reserved.new.self.items ≡ old ++ Some c.in-Waits.parked ∷ [] =
    c.push_reserved.ensures.items ∙ ap (λ (xs : List (Option TaskState)). xs ++ Some c.in-Waits.parked ∷ []) c.reserve.ensures.items in
    let served_is : c.push_reserved-in-Waits.new.self.items ≡ done ++ None ∷ [] =
    c.push_reserved-in-Waits.ensures.items ∙ ap (λ (xs : List (Option Service)). xs ++ None ∷ []) c.reserve-2.ensures.items in (
      tag n x.0,
      lead_tagged g.K.Checks.answers c.args.checks.now c.run_task.new.checks n x.0 x.1,
      λ made all.
          subst (λ (ts : List (Option TaskState)). AllStand (made ++ tag n x.0) ts c.push_reserved-in-Waits.new.self.items) (sym tasks_is)
          (subst (λ (ss : List (Option Service)). AllStand (made ++ tag n x.0) (old ++ Some c.in-Waits.parked ∷ []) ss) (sym served_is)
          (one_comes x.0 made old done (Some c.in-Waits.parked) None all
          (first, c.requires.new, x.2.3 first [] c.in_ok-task.ensures.on, x.2.0))),
    )

pub returns-in-Ended-clause-runs : goal.returns-in-Ended-clause-runs
returns-in-Ended-clause-runs g c =
    let old = c.args.links.now.tasks.items in
    let done = c.args.links.now.served.items in
    let x = c.in-Ended.ensures in
    let n = length old in
    let first = (g.N.PollLink.state c.args.link).link in
    let tasks_is : c.push_reserved-in-Ended.new.self.items ≡ old ++ None ∷ [] =
    c.push_reserved-in-Ended.ensures.items ∙ ap (λ (xs : List (Option TaskState)). xs ++ None ∷ []) c.reserve.ensures.items in
    let served_is : c.push_reserved-in-Ended-2.new.self.items ≡ done ++ Some c.in-Ended.served ∷ [] =
    c.push_reserved-in-Ended-2.ensures.items ∙ ap (λ (xs : List (Option Service)). xs ++ Some c.in-Ended.served ∷ []) c.reserve-2.ensures.items in
    let number : c.in-Ended.served.number ≡ n = x.2.0 ∙ omega (arith, c.len-number.ensures, c.reserve.ensures.len, c.args.links.now.tasks.ok.0, c.requires.few) in (
      tag n x.0,
      lead_tagged g.K.Checks.answers c.args.checks.now c.run_task.new.checks n x.0 x.1,
      λ made all.
          subst (λ (ts : List (Option TaskState)). AllStand (made ++ tag n x.0) ts c.push_reserved-in-Ended-2.new.self.items) (sym tasks_is)
          (subst (λ (ss : List (Option Service)). AllStand (made ++ tag n x.0) (old ++ None ∷ []) ss) (sym served_is)
          (one_comes x.0 made old done None (Some c.in-Ended.served) all (number, x.2.1 first [] c.requires.new c.in_ok-task.ensures.on))),
    )
