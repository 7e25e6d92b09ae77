use Rattle.std.proofs.Common.{le_trans}
use Rattle.http_endpoint.proofs.ReadLemmas.{rose_earlier}
use Rattle.conn_tasks.proofs.conn.Conn.turn_in.Goals as goal

pub step-requires : goal.step-requires
step-requires g c =
    let r = c.requires.going in
    record { live = c.steps.invariant.live; going = (r.0, r.1, r.2, c.steps.invariant.on r.0 r.1 r.3) }

pub steps-preserved : goal.steps-preserved
steps-preserved g c = record {
  on = λ first asked on. c.in-On.ensures.steps first asked (c.steps.invariant.on first asked on);
  live = c.in-On.ensures.mode;
  waits = le_trans c.steps.invariant.waits c.in-On.ensures.waits;
}

pub returns-in-Wait-clause-turns : goal.returns-in-Wait-clause-turns
returns-in-Wait-clause-turns g c = λ first asked on.
    let x = c.in-Wait.ensures.steps first asked (c.steps.invariant.on first asked on) in
    (x.0, rose_earlier c.args.self.now.link.waits c.steps.self.link.waits c.step.new.self.link.waits c.steps.invariant.waits x.1)

pub returns-in-Check-clause-turns : goal.returns-in-Check-clause-turns
returns-in-Check-clause-turns g c = λ first asked on. c.in-Check.ensures.steps first asked (c.steps.invariant.on first asked on)

pub returns-in-Stats-clause-turns : goal.returns-in-Stats-clause-turns
returns-in-Stats-clause-turns g c = λ first asked on. c.in-Stats.ensures.steps first asked (c.steps.invariant.on first asked on)

pub returns-in-End-clause-turns : goal.returns-in-End-clause-turns
returns-in-End-clause-turns g c = λ first asked on. c.in-End.ensures.steps first asked (c.steps.invariant.on first asked on)
