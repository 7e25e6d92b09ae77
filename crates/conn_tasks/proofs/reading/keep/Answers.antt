use Rattle.std.proofs.Common.{◌<◌, arith}
use Rattle.conn_tasks.proofs.Held.{body_kept, body_dropped, dropped_more, long_body}
use Rattle.conn_tasks.proofs.reading.keep.Goals as goal

pub overflow_add-have : goal.overflow_add-have
overflow_add-have c =
    let room = rw c.in-Body.is at c.requires.room in
    let few = rw c.in-Body.is at c.requires.few in
    omega (arith, room, few, c.count.ensures)

pub overflow_add-awaited : goal.overflow_add-awaited
overflow_add-awaited c =
    let room = rw c.in-Dropped.is at c.requires.room in
    let few = rw c.in-Dropped.is at c.requires.few in
    omega (arith, room, few)

pub returns-then-not-add-clause-holds : goal.returns-then-not-add-clause-holds
returns-then-not-add-clause-holds c = λ before.
    let room = rw c.in-Body.is at c.requires.room in
    let long : 16384 < c.in-Body.total = long_body c.args.inbox.now c.args.bytes.now c.in-Body.total room c.add.result c.if-not-add.true c.add.ensures.room in
    rw (c.in-Body.is, c.count.ensures)
    (λ h. body_dropped before c.args.inbox.now c.args.bytes.now c.add.new.self c.in-Body.total c.in-Body.sends_body h room long)

pub returns-else-not-add-clause-holds : goal.returns-else-not-add-clause-holds
returns-else-not-add-clause-holds c = λ before.
    rw c.in-Body.is
    (λ h. body_kept before c.args.inbox.now c.args.bytes.now c.add.new.self c.in-Body.total c.in-Body.sends_body h (rw c.in-Body.is at c.requires.room)
    (c.add.ensures.kept c.if-not-add.false))

pub returns-in-Dropped-clause-holds : goal.returns-in-Dropped-clause-holds
returns-in-Dropped-clause-holds c = λ before.
    rw c.in-Dropped.is
    (λ h. dropped_more before c.args.inbox.now c.args.bytes.now c.in-Dropped.have c.in-Dropped.total c.in-Dropped.sends_body h (rw c.in-Dropped.is at c.requires.room))
