use Rattle.std.proofs.Common.{◌+◌, ◌==◌, None, refl, sym}
use Rattle.http_endpoint.specs.Answers.{answers_max}
use Rattle.http_front.specs.declared.front.Front.TheVariants.{Fixed}
use Rattle.http_endpoint.proofs.TurnLemmas.{tells_none}
use Rattle.conn_tasks.proofs.Turns.{fixed_turn}
use Rattle.conn_tasks.proofs.Goings.{starts_writing, none_asked}
use Rattle.conn_tasks.proofs.Held.{holds_head}
use Rattle.conn_tasks.proofs.conn.Conn.take_front.Goals as goal

pub returns-in-Fixed-clause-steps : goal.returns-in-Fixed-clause-steps
returns-in-Fixed-clause-steps g c = λ first asked.
    rw c.in-Fixed.is
    (λ h.
    let p = fixed_turn (c.args.self.now.answers + 1 == answers_max) c.in-Fixed.answer c.in-Fixed.used c.answer_fixed-self.new.out
    c.answer_fixed-self.result (rw h.last at c.answer_fixed-self.ensures) in
    none_asked first asked _ (starts_writing first c.args.self.now.link.link asked _ h.turns h.rest (Fixed c.in-Fixed.answer c.in-Fixed.used) None
    h.so_far (tells_none c.args.self.now.link.link) h.stands p refl c.closes-self.ensures (λ still. holds_head _ _ _ (sym h.behind) h.awaits) h.count h.asked_is))
