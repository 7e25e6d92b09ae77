use Rattle.std.proofs.Common.{◌≡◌, ◌++◌, List, ℕ, sym, ◌∙◌, ap, subst, true, false, arith}
use Rattle.rate_io.specs.Events.{given}
use Rattle.http_endpoint.specs.Answers.{turn_bytes}
use Rattle.http_endpoint.specs.Printing.{printed_bytes}
use Rattle.http_endpoint.specs.Steps.{Goes}
use Rattle.http_endpoint.specs.declared.link_end.LinkCause.TheVariants as cause
use Rattle.http_endpoint.proofs.TurnLemmas.{still_few}
use Rattle.http_endpoint.proofs.LinkLemmas.{goes_first, grown, serves_ended, serves_cut, serves_read_fault, serves_failed, serves_closed, goes_on, next_of}
use Rattle.http_endpoint.proofs.LinkLemmas.{serves_at, answered}
use Rattle.http_endpoint.proofs.serve.serve_link.Goals as goal

pub answers-init : goal.answers-init
answers-init g c = record {
  goes = subst (λ (ys : List ℕ). Goes g.K.Checks.answers c.args.checks.now c.args.checks.now
      (g.N.Link.state c.args.link.now) (g.N.Link.state c.args.link.now) 0 ys) (sym c.clear.ensures)
      (goes_first g.K.Checks.answers c.args.checks.now (g.N.Link.state c.args.link.now));
  few = omega arith;
}

pub returns-in-Ended : goal.returns-in-Ended
returns-in-Ended g c =
    let x = c.in-Ended.ensures in
    record {
      serves = serves_at g.K.Checks.answers c.args.checks.now c.next_answer.new.checks (g.N.Link.state c.args.link.now) x.1
          (g.N.Link.state c.next_answer.new.link) cause.Ended c.answers.answers x.3.0
          (serves_ended g.K.Checks.answers c.args.checks.now c.answers.checks c.next_answer.new.checks
          (g.N.Link.state c.args.link.now) (g.N.Link.state c.answers.link) x.1 c.answers.answers c.answers.inbox x.0
          c.answers.invariant.goes x.2 x.3.1 x.3.2 x.3.3);
      few = omega arith;
    }

pub returns-in-CutShort : goal.returns-in-CutShort
returns-in-CutShort g c =
    let x = c.in-CutShort.ensures in
    record {
      serves = serves_at g.K.Checks.answers c.args.checks.now c.next_answer.new.checks (g.N.Link.state c.args.link.now) x.1
          (g.N.Link.state c.next_answer.new.link) cause.CutShort c.answers.answers x.3.0
          (serves_cut g.K.Checks.answers c.args.checks.now c.answers.checks c.next_answer.new.checks
          (g.N.Link.state c.args.link.now) (g.N.Link.state c.answers.link) x.1 c.answers.answers c.answers.inbox x.0
          c.answers.invariant.goes x.2 x.3.1 x.3.2 x.3.3);
      few = omega arith;
    }

pub returns-in-ReadFault : goal.returns-in-ReadFault
returns-in-ReadFault g c =
    let x = c.in-ReadFault.ensures in
    record {
      serves = serves_at g.K.Checks.answers c.args.checks.now c.next_answer.new.checks (g.N.Link.state c.args.link.now) x.1
          (g.N.Link.state c.next_answer.new.link) cause.ReadFault c.answers.answers x.3.0
          (serves_read_fault g.K.Checks.answers c.args.checks.now c.answers.checks c.next_answer.new.checks
          (g.N.Link.state c.args.link.now) (g.N.Link.state c.answers.link) x.1 c.answers.answers c.answers.inbox x.0
          c.answers.invariant.goes x.2 x.3.1 x.3.2);
      few = omega arith;
    }

pub returns-in_default : goal.returns-in_default
returns-in_default g c =
    let x = c.in-Answer.ensures in
    let t = x.3 in
    let goes = grown g.K.Checks.answers c.args.checks.now c.answers.checks (g.N.Link.state c.args.link.now)
    (g.N.Link.state c.answers.link) x.1 c.answers.answers c.answers.inbox x.0 c.answers.invariant.goes x.2 in
    let piece : c.bytes.result.now ≡ turn_bytes t.t = c.bytes.ensures ∙ (ap (λ (bs : List ℕ). printed_bytes bs c.in-Answer.printed) c.text.ensures ∙ t.prints.bytes) in
    record {
      serves = serves_failed g.K.Checks.answers c.args.checks.now c.answers.checks c.next_answer.new.checks
          (g.N.Link.state c.args.link.now) x.1 (g.N.Link.state c.write.new.self) c.answers.answers (c.answers.inbox ++ given x.0)
          t.t c.bytes.result.now c.in_default.field-0 goes.0 (next_of c.answers.answers (c.answers.inbox ++ given x.0) t.t t.stands t.turn) t.lead
          (answered x.1 (g.N.Link.state c.next_answer.new.link) (g.N.Link.state c.write.new.self) _ t.t.asked c.bytes.result.now t.tells c.in_default.ensures) piece;
      few = omega arith;
    }

pub returns-then-closes : goal.returns-then-closes
returns-then-closes g c =
    let x = c.in-Answer.ensures in
    let t = x.3 in
    let goes = grown g.K.Checks.answers c.args.checks.now c.answers.checks (g.N.Link.state c.args.link.now)
    (g.N.Link.state c.answers.link) x.1 c.answers.answers c.answers.inbox x.0 c.answers.invariant.goes x.2 in
    let piece : c.bytes.result.now ≡ turn_bytes t.t = c.bytes.ensures ∙ (ap (λ (bs : List ℕ). printed_bytes bs c.in-Answer.printed) c.text.ensures ∙ t.prints.bytes) in
    let closes : t.t.answer.closes ≡ true = sym t.prints.closes ∙ (sym c.closes.ensures ∙ c.if-closes.true) in
    record {
      serves = serves_closed g.K.Checks.answers c.args.checks.now c.answers.checks c.next_answer.new.checks
          (g.N.Link.state c.args.link.now) x.1 (g.N.Link.state c.write.new.self) c.answers.answers (c.answers.inbox ++ given x.0)
          t.t c.bytes.result.now c.in-Ok.field-0 goes.0 (next_of c.answers.answers (c.answers.inbox ++ given x.0) t.t t.stands t.turn) closes t.lead
          (answered x.1 (g.N.Link.state c.next_answer.new.link) (g.N.Link.state c.write.new.self) _ t.t.asked c.bytes.result.now t.tells c.in-Ok.ensures) piece;
      few = omega arith;
    }

pub answers-preserved : goal.answers-preserved
answers-preserved g c =
    let x = c.in-Answer.ensures in
    let t = x.3 in
    let goes = grown g.K.Checks.answers c.args.checks.now c.answers.checks (g.N.Link.state c.args.link.now)
    (g.N.Link.state c.answers.link) x.1 c.answers.answers c.answers.inbox x.0 c.answers.invariant.goes x.2 in
    let piece : c.bytes.result.now ≡ turn_bytes t.t = c.bytes.ensures ∙ (ap (λ (bs : List ℕ). printed_bytes bs c.in-Answer.printed) c.text.ensures ∙ t.prints.bytes) in
    let stays : t.t.answer.closes ≡ false = sym t.prints.closes ∙ (sym c.closes.ensures ∙ c.if-closes.false) in
    record {
      goes = goes_on g.K.Checks.answers c.args.checks.now c.answers.checks c.next_answer.new.checks
          (g.N.Link.state c.args.link.now) x.1 (g.N.Link.state c.write.new.self) c.answers.answers (c.answers.inbox ++ given x.0)
          c.next_answer.new.inbox t.t c.bytes.result.now c.in-Ok.field-0 goes.0 t.stands t.turn stays (t.unread_is stays) t.lead
          (answered x.1 (g.N.Link.state c.next_answer.new.link) (g.N.Link.state c.write.new.self) _ t.t.asked c.bytes.result.now t.tells c.in-Ok.ensures) piece;
      few = still_few c.answers.answers t.t t.turn stays c.answers.invariant.few;
    }
