use Rattle.std.proofs.Common.{◌≡◌, true, List, ◌++◌, ap, ◌∙◌, subst}
use Rattle.std.specs.Option.{is_some}
use Rattle.std.specs.Prelude.{option_to_list}
use Rattle.rate_io.specs.Links.{LinkState}
use Rattle.http_endpoint.specs.Answers.{Asked, statistics_asked}
use Rattle.conn_tasks.specs.Conn.{seen, needs_room}
use Rattle.conn_tasks.specs.State.{TaskState}
use Rattle.conn_tasks.specs.Tasks.{IsOn, IsAskingStats, IsGoing, IsTelling}
use Rattle.conn_tasks.proofs.Rooms.{goes_told}
use Rattle.conn_tasks.proofs.conn_task.ConnTask.answer_stats.Goals as goal

pub answer_stats-requires : goal.answer_stats-requires
answer_stats-requires g c =
    let conn = c.deref_mut.result.now in
    let mode = ap (λ (s : TaskState). s.mode) (ap seen c.deref_mut.ensures.value ∙ c.self.view_is) ∙ c.requires in
    let keeps : needs_room conn.mode ≡ true → is_some conn.room ≡ true = rw c.deref_mut.ensures.value c.self.invariant in
    record { mode = mode; room = keeps (ap needs_room mode) }

pub returns-clause-answered : goal.returns-clause-answered
returns-clause-answered g c =
    subst (λ (s : TaskState). (first : LinkState) (asked : List Asked) → IsTelling first asked c.args.method s
    → IsOn first (asked ++ option_to_list (statistics_asked c.args.came)) (seen c.answer_stats.new.self))
    (ap seen c.deref_mut.ensures.value ∙ c.self.view_is) c.answer_stats.ensures.answered

pub returns-clause-going : goal.returns-clause-going
returns-clause-going g c =
    subst (λ (s : TaskState). IsAskingStats c.args.method s → IsGoing (seen c.answer_stats.new.self)) (ap seen c.deref_mut.ensures.value ∙ c.self.view_is)
    (goes_told (seen c.deref_mut.result.now) (seen c.answer_stats.new.self) c.args.method c.args.came c.answer_stats.ensures.answered)
