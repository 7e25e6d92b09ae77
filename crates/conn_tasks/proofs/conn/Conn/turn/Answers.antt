use Rattle.std.proofs.Common.{◌≡◌, ◌≤◌, true, sym, subst}
use Rattle.conn_tasks.specs.Conn.{seen_in}
use Rattle.conn_tasks.specs.Polls.{PollState}
use Rattle.conn_tasks.specs.State.{TaskState}
use Rattle.conn_tasks.specs.Tasks.{IsOn, IsGoing, TurnsTo, StandsBehind, is_live}
use Rattle.conn_tasks.specs.declared.conn.Mode.{Mode}
use Rattle.conn_tasks.proofs.conn.Conn.turn.Goals as goal

pub turn_in-turned-requires : goal.turn_in-turned-requires
turn_in-turned-requires g c = record {
  live = subst (λ (m : Mode). is_live m ≡ true) (sym c.take_room-room.ensures.mode) c.requires.live;
  going = subst (λ (s : TaskState). IsGoing s) (sym c.take_room-room.ensures.same) c.requires.going;
}

pub returns-clause-turns : goal.returns-clause-turns
returns-clause-turns g c = λ first asked on.
    let r = c.take_room-room.ensures in
    let t = c.turn_in-turned.ensures in
    let x = t.turns first asked (subst (λ (s : TaskState). IsOn first asked s) (sym r.same) on) in
    c.leave.ensures.turns first asked c.args.self.now.link.waits c.turn_in-turned.result t.mode
    (subst (λ (l : PollState). TurnsTo first asked l.waits (seen_in c.turn_in-turned.new.self c.turn_in-turned.new.room) c.turn_in-turned.result) r.link x)

pub returns-clause-mode : goal.returns-clause-mode
returns-clause-mode g c = subst (λ (m : Mode). StandsBehind c.turn_in-turned.result m) (sym c.leave.ensures.mode) c.turn_in-turned.ensures.mode

pub returns-clause-waits : goal.returns-clause-waits
returns-clause-waits g c = subst (λ (l : PollState). c.args.self.now.link.waits ≤ l.waits) (sym c.leave.ensures.link)
    (subst (λ (l : PollState). l.waits ≤ c.turn_in-turned.new.self.link.waits) c.take_room-room.ensures.link c.turn_in-turned.ensures.waits)
