use Rattle.http_endpoint.proofs.TurnLemmas.{fixed_turn, check_turn, stats_turn}
use Rattle.http_endpoint.proofs.turn.answer_front.Goals as goal

pub returns-in-Fixed : goal.returns-in-Fixed
returns-in-Fixed g c =
    rw c.in-Fixed.is
    (fixed_turn g.K.Checks.answers c.args.is_last c.in-Fixed.answer c.in-Fixed.used (g.N.Link.state c.args.link.now)
    c.args.checks.now c.answer_fixed.new.out c.answer_fixed.result c.answer_fixed.ensures)

pub returns-in-Check : goal.returns-in-Check
returns-in-Check g c =
    rw c.in-Check.is
    (check_turn g.K.Checks.answers c.args.is_last c.in-Check.request c.in-Check.closes c.in-Check.used
    c.now-moment.result c.check-came.result (g.N.Link.state c.args.link.now) (g.N.Link.state c.now-moment.new.self) c.args.checks.now c.check-came.new.self
    c.print_result.new.out c.print_result.result
    c.now-moment.ensures c.check-came.ensures (rw c.closes_after-closes.ensures at c.print_result.ensures))

pub returns-in-Stats : goal.returns-in-Stats
returns-in-Stats g c =
    rw c.in-Stats.is
    (stats_turn g.K.Checks.answers c.args.is_last c.in-Stats.method c.in-Stats.closes c.in-Stats.used c.stats-came.result
    (g.N.Link.state c.args.link.now) c.args.checks.now c.stats-came.new.self c.print_stats.new.out c.print_stats.result
    c.stats-came.ensures.asked c.stats-came.ensures.memory (rw c.closes_after-closes-in-Stats.ensures at c.print_stats.ensures))
