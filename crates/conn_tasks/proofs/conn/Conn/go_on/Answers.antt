use Rattle.std.proofs.Common.{◌≡◌, ◌+◌, ◌==◌, ◌++◌, ◌∷◌, [], ℕ, false, refl, sym, ap, ◌∙◌, subst, drop, length-append}
use Rattle.http_front.specs.Front.{used_of}
use Rattle.http_endpoint.specs.Answers.{answers_max, IsTurn}
use Rattle.conn_tasks.proofs.SoFars.{so_on}
use Rattle.conn_tasks.proofs.Ends.{served_closed}
use Rattle.conn_tasks.proofs.conn.Conn.go_on.Goals as goal

pub returns-then-self-clause-steps : goal.returns-then-self-clause-steps
returns-then-self-clause-steps g c = λ first asked kept out w.
    rw c.ended.ensures (
      refl,
      served_closed first w.mid c.args.self.now.link.link asked w.turns w.rest w.t c.args.self.now.answers w.so_far w.sends w.stands w.turn
          (sym w.closes ∙ c.if-self.true) w.count w.asked_is,
    )

pub returns-clause-steps : goal.returns-clause-steps
returns-clause-steps g c = λ first asked kept out w.
    let stays : w.t.answer.closes ≡ false = sym w.closes ∙ c.if-self.false in
    let now = c.args.self.now.link.link in
    let turn = subst (λ (k : ℕ). IsTurn (k + 1 == answers_max) w.t) w.count w.turn in
    let on = so_on first w.mid now w.turns w.rest w.t w.so_far w.sends w.stands turn stays in
    record {
      turns = w.turns ++ w.t ∷ [];
      rest = drop (used_of w.t.front) w.rest;
      so_far = on;
      holds = w.behind stays;
      count = ap (λ n. n + 1) w.count ∙ sym (length-append w.turns (w.t ∷ []));
      last = refl;
      asked_is = w.asked_is;
    }
