use Rattle.run_audit.proofs.Room.{one_key}
use Rattle.run_audit.proofs.bound.put.Goals as goal

pub returns : goal.returns
returns c = λ q. one_key c.args.counters.now.keys c.insert.new.self.keys c.args.counter q (c.in_ok-insert.ensures.updates.0 q)
