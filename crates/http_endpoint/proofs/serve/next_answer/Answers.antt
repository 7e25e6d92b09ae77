use Rattle.std.proofs.Common.{◌++◌}
use Rattle.rate_io.specs.Events.{given}
use Rattle.http_endpoint.proofs.TurnLemmas.{memory_turn}
use Rattle.http_endpoint.proofs.serve.next_answer.Goals as goal

pub returns-in-NoMemory : goal.returns-in-NoMemory
returns-in-NoMemory g c =
    let x = c.in-NoMemory.ensures in (
      x.0,
      g.N.Link.state c.next_front.new.link,
      x.1,
      memory_turn g.K.Checks.answers c.args.is_last (c.args.inbox.now ++ given x.0) c.next_front.new.inbox (g.N.Link.state c.next_front.new.link)
          c.args.checks.now c.args.out.now c.in-NoMemory.sends_body x.2,
    )
