use Rattle.std.proofs.Common.{◌≡◌, true, List, sym, ap, ◌∙◌, subst}
use Rattle.std.specs.Option.{is_some}
use Rattle.rate_io.specs.Links.{LinkState}
use Rattle.http_endpoint.specs.Answers.{Asked}
use Rattle.conn_tasks.specs.Conn.{seen, needs_room, IsFree}
use Rattle.conn_tasks.specs.State.{TaskState}
use Rattle.conn_tasks.specs.Tasks.{IsOn, IsGoing, TurnsTo, is_live}
use Rattle.conn_tasks.specs.declared.conn.Mode.{Mode}
use Rattle.conn_tasks.specs.declared.conn.Mode.TheVariants.{Reading}
use Rattle.conn_tasks.proofs.Rooms.{lent_or_has, still_goes}
use Rattle.conn_tasks.proofs.conn_task.ConnTask.poll_turn.Goals as goal

pub turn-requires : goal.turn-requires
turn-requires g c =
    let conn = c.deref_mut.result.now in
    let is = ap seen c.deref_mut.ensures.value ∙ c.self.view_is in
    let live = subst (λ (s : TaskState). is_live s.mode ≡ true) (sym is) c.requires.live in
    let keeps : needs_room conn.mode ≡ true → is_some conn.room ≡ true = rw c.deref_mut.ensures.value c.self.invariant in
    record {
      live = live;
      going = subst (λ (s : TaskState). IsGoing s) (sym is) c.requires.going;
      room = lent_or_has conn.mode (is_some conn.room) (is_some c.args.spare.now) live keeps
          (subst (λ (s : TaskState). s.mode ≡ Reading → is_some c.args.spare.now ≡ true) (sym is) c.requires.room);
    }

pub returns-clause-turns : goal.returns-clause-turns
returns-clause-turns g c =
    let is = ap seen c.deref_mut.ensures.value ∙ c.self.view_is in
    subst (λ (s : TaskState). (first : LinkState) (asked : List Asked) → IsOn first asked s → TurnsTo first asked s.link.waits (seen c.turn.new.self) c.turn.result)
    is c.turn.ensures.turns

pub returns-clause-going : goal.returns-clause-going
returns-clause-going g c =
    let is = ap seen c.deref_mut.ensures.value ∙ c.self.view_is in
    let r = subst (λ (s : TaskState). IsGoing s) (sym is) c.requires.going in
    still_goes r.0 r.1 _ (seen c.turn.new.self) c.turn.result r.2 (c.turn.ensures.turns r.0 r.1 r.3)

pub returns-clause-given : goal.returns-clause-given
returns-clause-given g c = λ reading none. c.turn.ensures.given (subst (λ (m : Mode). IsFree m (seen c.turn.new.self).kept) (sym reading) none)
