use Rattle.std.proofs.Common.{◌+◌, ◌==◌, None, refl}
use Rattle.http_endpoint.specs.Answers.{answers_max}
use Rattle.http_endpoint.proofs.TurnLemmas.{tells_none}
use Rattle.conn_tasks.proofs.Turns.{memory_turn}
use Rattle.conn_tasks.proofs.Goings.{on_reading, starts_writing, none_asked, steps_earlier}
use Rattle.conn_tasks.proofs.Ends.{served_ended, served_cut, served_read_fault}
use Rattle.conn_tasks.proofs.conn.Conn.read_on.Goals as goal

pub take_front-requires : goal.take_front-requires
take_front-requires g c = record { waits = c.in-Front.ensures.settled }

pub returns-in-Wait-clause-steps : goal.returns-in-Wait-clause-steps
returns-in-Wait-clause-steps g c = λ first asked r.
    let x = c.in-Wait.ensures.nexts first r.turns r.rest r.so_far r.holds in (
      on_reading first asked _ c.requires
          (record { turns = r.turns; rest = x.0; so_far = x.1; holds = x.2; count = r.count; last = r.last; asked_is = r.asked_is }),
      x.3,
    )

pub returns-in-Front-clause-steps : goal.returns-in-Front-clause-steps
returns-in-Front-clause-steps g c = λ first asked r.
    let x = c.in-Front.ensures.nexts first r.turns r.rest r.so_far r.holds in
    let front = c.take_front.ensures.steps first asked (record {
      turns = r.turns;
      rest = x.0;
      so_far = x.1;
      stands = x.2;
      behind = x.3;
      awaits = x.4;
      count = r.count;
      last = r.last;
      asked_is = r.asked_is;
    }) in
    steps_earlier first asked c.args.self.now.link.waits c.next_front.new.link.waits _ c.take_front.result c.in-Front.ensures.waits front

pub returns-in-NoMemory-clause-steps : goal.returns-in-NoMemory-clause-steps
returns-in-NoMemory-clause-steps g c = λ first asked r.
    let x = c.in-NoMemory.ensures.nexts first r.turns r.rest r.so_far r.holds in
    let p = memory_turn (c.args.self.now.answers + 1 == answers_max) x.2.0 c.args.room.now.out c.in-NoMemory.sends_body x.2.2 x.2.3 in
    none_asked first asked _ (starts_writing first c.next_front.new.link.link asked _ r.turns x.0 x.2.0 None x.1
    (tells_none c.next_front.new.link.link) x.2.1 p refl refl (λ still. absurd (cc)) r.count r.asked_is)

pub returns-in-Ended-clause-steps : goal.returns-in-Ended-clause-steps
returns-in-Ended-clause-steps g c = λ first asked r.
    let x = c.in-Ended.ensures.nexts first r.turns r.rest r.so_far r.holds in
    rw c.ended.ensures
    (refl, served_ended first c.next_front.new.link.link asked r.turns x.0 c.args.self.now.answers x.1 x.2 r.count r.asked_is)

pub returns-in-CutShort-clause-steps : goal.returns-in-CutShort-clause-steps
returns-in-CutShort-clause-steps g c = λ first asked r.
    let x = c.in-CutShort.ensures.nexts first r.turns r.rest r.so_far r.holds in
    rw c.ended-in-CutShort.ensures
    (refl, served_cut first c.next_front.new.link.link asked r.turns x.0 c.args.self.now.answers x.1 x.2 r.count r.asked_is)

pub returns-in-ReadFault-clause-steps : goal.returns-in-ReadFault-clause-steps
returns-in-ReadFault-clause-steps g c = λ first asked r.
    let x = c.in-ReadFault.ensures.nexts first r.turns r.rest r.so_far r.holds in
    rw c.ended-in-ReadFault.ensures
    (refl, served_read_fault first c.next_front.new.link.link asked r.turns x.0 c.args.self.now.answers x.1 r.count r.asked_is)
