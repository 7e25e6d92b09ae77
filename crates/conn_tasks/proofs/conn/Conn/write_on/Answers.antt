use Rattle.std.proofs.Common.{◌≡◌, ◌≤◌, List, ℕ, length, take, drop, refl, sym, ap, ◌∙◌, subst}
use Rattle.http_endpoint.specs.Answers.{turn_bytes}
use Rattle.conn_tasks.specs.Conn.{seen_in}
use Rattle.conn_tasks.specs.Lawful.{MayWrite}
use Rattle.conn_tasks.specs.SoFar.{Sends, Puts}
use Rattle.http_endpoint.specs.Printing.{printed_bytes}
use Rattle.conn_tasks.specs.declared.put.Put.TheVariants as put
use Rattle.conn_tasks.proofs.Lawfuls.{stands_writing, rest_lawful}
use Rattle.conn_tasks.proofs.Goings.{on_writing, steps_earlier}
use Rattle.conn_tasks.proofs.Ends.{served_failed}
use Rattle.conn_tasks.proofs.conn.Conn.write_on.Goals as goal

pub put_on-requires : goal.put_on-requires
put_on-requires g c =
    let s = seen_in c.args.self.now c.args.room.now in
    let x = stands_writing s c.requires.going c.requires.mode in
    let w = x.3 in
    let piece : c.bytes-piece.result.now ≡ turn_bytes w.t =
    c.bytes-piece.ensures ∙ (ap (λ (bs : List ℕ). printed_bytes bs c.args.self.now.printed) c.text.ensures ∙ w.prints.bytes) in
    record {
      within = subst (λ (ys : List ℕ). c.args.self.now.sent ≤ length ys) (sym piece) w.within;
      may = subst (λ (ys : List ℕ). MayWrite c.args.self.now.link.link.history (drop c.args.self.now.sent ys)) (sym piece)
          (x.1, rest_lawful x.0 x.1 s x.2 w);
    }

pub returns-in-Wait-clause-steps : goal.returns-in-Wait-clause-steps
returns-in-Wait-clause-steps g c = λ first asked w.
    let old = c.args.self.now.link in
    let new = c.put_on.new.link in
    let piece : c.bytes-piece.result.now ≡ turn_bytes w.t =
    c.bytes-piece.ensures ∙ (ap (λ (bs : List ℕ). printed_bytes bs c.args.self.now.printed) c.text.ensures ∙ w.prints.bytes) in
    let s = subst (λ (ys : List ℕ). Sends w.mid old.link w.t.asked (take c.args.self.now.sent ys)) (sym piece) w.sends in
    let x = subst (λ (ys : List ℕ). Puts w.mid w.t.asked ys old new c.put_on.new.sent put.Wait) piece
    (c.in-Wait.ensures.puts w.mid w.t.asked s) in (
      on_writing first asked _ c.requires.mode
          (record {
            turns = w.turns;
            rest = w.rest;
            t = w.t;
            mid = w.mid;
            so_far = w.so_far;
            sends = x.0;
            stands = w.stands;
            turn = w.turn;
            prints = w.prints;
            within = subst (λ (ys : List ℕ). c.put_on.new.sent ≤ length ys) piece c.in-Wait.ensures.within;
            closes = w.closes;
            behind = w.behind;
            count = w.count;
            asked_is = w.asked_is;
          }),
      x.1,
    )

pub returns-in-Failed-clause-steps : goal.returns-in-Failed-clause-steps
returns-in-Failed-clause-steps g c = λ first asked w.
    let old = c.args.self.now.link in
    let new = c.put_on.new.link in
    let piece : c.bytes-piece.result.now ≡ turn_bytes w.t =
    c.bytes-piece.ensures ∙ (ap (λ (bs : List ℕ). printed_bytes bs c.args.self.now.printed) c.text.ensures ∙ w.prints.bytes) in
    let s = subst (λ (ys : List ℕ). Sends w.mid old.link w.t.asked (take c.args.self.now.sent ys)) (sym piece) w.sends in
    let x = subst (λ (ys : List ℕ). Puts w.mid w.t.asked ys old new c.put_on.new.sent put.Failed) piece
    (c.in-Failed.ensures.puts w.mid w.t.asked s) in
    rw c.ended.ensures
    (refl, served_failed first w.mid new.link asked w.turns w.rest w.t c.args.self.now.answers w.so_far x w.stands w.turn w.count w.asked_is)

pub returns-in-Done-clause-steps : goal.returns-in-Done-clause-steps
returns-in-Done-clause-steps g c = λ first asked w.
    let old = c.args.self.now.link in
    let new = c.put_on.new.link in
    let piece : c.bytes-piece.result.now ≡ turn_bytes w.t =
    c.bytes-piece.ensures ∙ (ap (λ (bs : List ℕ). printed_bytes bs c.args.self.now.printed) c.text.ensures ∙ w.prints.bytes) in
    let s = subst (λ (ys : List ℕ). Sends w.mid old.link w.t.asked (take c.args.self.now.sent ys)) (sym piece) w.sends in
    let x = subst (λ (ys : List ℕ). Puts w.mid w.t.asked ys old new c.put_on.new.sent put.Done) piece
    (c.in-Done.ensures.puts w.mid w.t.asked s) in
    steps_earlier first asked old.waits new.waits _ c.go_on.result c.in-Done.ensures.waits
    (c.go_on.ensures.steps first asked c.args.room.now.inbox c.args.room.now.out
    (record {
      turns = w.turns;
      rest = w.rest;
      t = w.t;
      mid = w.mid;
      so_far = w.so_far;
      sends = x;
      stands = w.stands;
      turn = w.turn;
      closes = w.closes;
      behind = w.behind;
      count = w.count;
      asked_is = w.asked_is;
    }))
