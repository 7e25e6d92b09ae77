use Rattle.std.proofs.Common.{◌+◌, ◌==◌, refl, sym, ◌∙◌}
use Rattle.http_endpoint.specs.Answers.{answers_max, statistics_asked}
use Rattle.http_front.specs.declared.front.Front.TheVariants.{Stats}
use Rattle.conn_tasks.proofs.Turns.{stats_turn, stats_still, tells_statistics}
use Rattle.conn_tasks.proofs.Goings.{starts_writing}
use Rattle.conn_tasks.proofs.Held.{holds_head}
use Rattle.conn_tasks.proofs.conn.Conn.print_answer_stats.Goals as goal

pub invariant_of-self : goal.invariant_of-self
invariant_of-self g c = record {
  awaits_few = c.args.self.now.awaits_few;
  few = c.args.self.now.few;
  last_closes = λ still. c.args.self.now.last_closes (stats_still c.args.method c.args.self.now.closes c.args.came
      c.print_stats-self.new.out c.print_stats-self.result c.print_stats-self.ensures (sym c.closes-self.ensures ∙ still));
}

pub returns-clause-answered : goal.returns-clause-answered
returns-clause-answered g c = λ first asked k.
    let p = stats_turn (c.args.self.now.answers + 1 == answers_max) c.args.method k.asks_close k.used c.args.came c.print_stats-self.new.out
    c.print_stats-self.result (rw k.closes at c.print_stats-self.ensures) in
    let link = c.args.self.now.link.link in
    starts_writing first link asked _ k.turns k.rest (Stats c.args.method k.asks_close k.used) (statistics_asked c.args.came)
    k.so_far (tells_statistics link c.args.came) k.stands p refl c.closes-self.ensures
    (λ still. holds_head _ _ _ (sym k.behind) k.awaits) k.count k.asked_is
