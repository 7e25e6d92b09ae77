use Rattle.std.proofs.Common.{◌≡◌, ℕ, true, List, [], ◌∷◌, ◌++◌, ap, ◌∙◌, subst}
use Rattle.std.specs.Option.{is_some}
use Rattle.rate_types.specs.Requests.{RequestParts}
use Rattle.rate_io.specs.Links.{LinkState}
use Rattle.http_endpoint.specs.Answers.{Asked, check}
use Rattle.conn_tasks.specs.Conn.{seen, needs_room}
use Rattle.conn_tasks.specs.State.{TaskState}
use Rattle.conn_tasks.specs.Tasks.{IsOn, IsAsking, IsGoing, IsChecking}
use Rattle.conn_tasks.proofs.Rooms.{goes_answered}
use Rattle.conn_tasks.proofs.conn_task.ConnTask.answer.Goals as goal

pub answer-requires : goal.answer-requires
answer-requires g c =
    let conn = c.deref_mut.result.now in
    let mode = ap (λ (s : TaskState). s.mode) (ap seen c.deref_mut.ensures.value ∙ c.self.view_is) ∙ c.requires in
    let keeps : needs_room conn.mode ≡ true → is_some conn.room ≡ true = rw c.deref_mut.ensures.value c.self.invariant in
    record { mode = mode; room = keeps (ap needs_room mode) }

pub returns-clause-answered : goal.returns-clause-answered
returns-clause-answered g c =
    subst (λ (s : TaskState). (first : LinkState) (asked : List Asked) (request : RequestParts) (now : ℕ) → IsChecking first asked request now s
    → IsOn first (asked ++ check (record { request = request; now = now; result = c.args.came }) ∷ []) (seen c.answer.new.self))
    (ap seen c.deref_mut.ensures.value ∙ c.self.view_is) c.answer.ensures.answered

pub returns-clause-going : goal.returns-clause-going
returns-clause-going g c = subst (λ (s : TaskState). IsAsking s → IsGoing (seen c.answer.new.self)) (ap seen c.deref_mut.ensures.value ∙ c.self.view_is)
    (goes_answered (seen c.deref_mut.result.now) (seen c.answer.new.self) c.args.came c.answer.ensures.answered)
