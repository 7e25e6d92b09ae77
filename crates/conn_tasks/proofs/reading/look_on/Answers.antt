use Rattle.std.proofs.Common.{◌<◌, subst, ℕ}
use Rattle.conn_tasks.proofs.Held.{body_short, dropped_short}
use Rattle.conn_tasks.proofs.reading.look_on.Goals as goal

pub returns-in-Body-clause-looks : goal.returns-in-Body-clause-looks
returns-in-Body-clause-looks c = λ bytes.
    rw c.in-Body.is
    (λ h. body_short bytes c.args.inbox.now c.in-Body.total c.in-Body.sends_body h
    (subst (λ (n : ℕ). n < c.in-Body.total) c.count.ensures c.if-count-total.true))

pub returns-in-Dropped-clause-looks : goal.returns-in-Dropped-clause-looks
returns-in-Dropped-clause-looks c = λ bytes.
    rw c.in-Dropped.is
    (λ h. dropped_short bytes c.args.inbox.now c.in-Dropped.have c.in-Dropped.total c.in-Dropped.sends_body h c.if-have-total.true)
