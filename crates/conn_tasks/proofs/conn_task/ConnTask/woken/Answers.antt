use Rattle.std.proofs.Common.{◌≡◌, true, Option, sym, ap, subst}
use Rattle.std.specs.Option.{is_some}
use Rattle.conn_tasks.specs.Conn.{needs_room}
use Rattle.conn_tasks.specs.State.{TaskState}
use Rattle.conn_tasks.specs.declared.conn.Mode.{Mode}
use Rattle.conn_tasks.specs.declared.room.Room.{Room}
use Rattle.conn_tasks.proofs.conn_task.ConnTask.woken.Goals as goal

pub invariant_of-self : goal.invariant_of-self
invariant_of-self g c = λ needs.
    let conn = c.deref_mut.result.now in
    let keeps : needs_room conn.mode ≡ true → is_some conn.room ≡ true = rw c.deref_mut.ensures.value c.self.invariant in
    subst (λ (r : Option Room). is_some r ≡ true) (sym c.woken.ensures.room)
    (keeps (subst (λ (m : Mode). needs_room m ≡ true) (ap (λ (s : TaskState). s.mode) c.woken.ensures.same) needs))
