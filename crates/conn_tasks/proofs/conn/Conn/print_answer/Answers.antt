use Rattle.std.proofs.Common.{◌+◌, ◌==◌, Some, refl, sym, ◌∙◌}
use Rattle.http_endpoint.specs.Answers.{answers_max, Checked, check}
use Rattle.http_front.specs.declared.front.Front.TheVariants.{Check}
use Rattle.http_endpoint.proofs.TurnLemmas.{tells_one}
use Rattle.conn_tasks.proofs.Turns.{check_turn, printed_still}
use Rattle.conn_tasks.proofs.Goings.{starts_writing}
use Rattle.conn_tasks.proofs.Held.{holds_head}
use Rattle.conn_tasks.proofs.conn.Conn.print_answer.Goals as goal

pub invariant_of-self : goal.invariant_of-self
invariant_of-self g c = record {
  awaits_few = c.args.self.now.awaits_few;
  few = c.args.self.now.few;
  last_closes = λ still. c.args.self.now.last_closes (printed_still c.args.self.now.closes c.args.came c.print_result-self.new.out
      c.print_result-self.result c.print_result-self.ensures (sym c.closes-self.ensures ∙ still));
}

pub returns-clause-answered : goal.returns-clause-answered
returns-clause-answered g c = λ first asked request now k.
    let p = check_turn (c.args.self.now.answers + 1 == answers_max) request k.asks_close k.used now c.args.came c.print_result-self.new.out
    c.print_result-self.result (rw k.closes at c.print_result-self.ensures) in
    let one : Checked = record { request = request; now = now; result = c.args.came } in
    starts_writing first k.mid asked _ k.turns k.rest (Check request k.asks_close k.used) (Some (check one))
    k.so_far (tells_one k.mid c.args.self.now.link.link one k.told) k.stands p refl c.closes-self.ensures
    (λ still. holds_head _ _ _ (sym k.behind) k.awaits) k.count k.asked_is
