use Rattle.std.proofs.Common.{List, ℕ, length-drop, sym, subst, arith}
use Rattle.std.proofs.lemmas.List.{take_rest}
use Rattle.conn_tasks.specs.Lawful.{MayWrite}
use Rattle.conn_tasks.proofs.Lawfuls.{may_more}
use Rattle.conn_tasks.proofs.SoFars.{sends_more, sends_failed}
use Rattle.conn_tasks.proofs.put.put_on.Goals as goal

pub poll_write-requires : goal.poll_write-requires
poll_write-requires g c = subst (λ (ys : List ℕ). MayWrite c.puts.link.link.history ys) (sym (take_rest c.args.piece.now c.puts.sent)) c.puts.invariant.may

pub returns-in-Ready-Err-clause-puts : goal.returns-in-Ready-Err-clause-puts
returns-in-Ready-Err-clause-puts g c = λ mid asked s.
    let w = rw (c.in-Ready-Err.field-0-is, take_rest c.args.piece.now c.puts.sent) at c.in-Ready-Err.ensures in
    sends_failed mid c.puts.link.link c.poll_write.new.self.link asked c.args.piece.now c.puts.sent w.0
    c.in-Ready-Err.field-0-0 (c.puts.invariant.sends mid asked s) w.1

pub puts-preserved : goal.puts-preserved
puts-preserved g c =
    let w = rw (c.in-Ready-Ok.field-0-is, take_rest c.args.piece.now c.puts.sent) at c.in-Ready-Ok.ensures in
    record {
      sends = λ mid asked s.
          sends_more mid c.puts.link.link c.poll_write.new.self.link asked c.args.piece.now c.puts.sent
          c.in-Ready-Ok.count (c.puts.invariant.sends mid asked s) w.0;
      may = may_more c.puts.link.link.history c.poll_write.new.self.link.history c.args.piece.now c.puts.sent c.in-Ready-Ok.count c.puts.invariant.may w.0.history;
      within = omega (arith, w.2, length-drop c.puts.sent c.args.piece.now, c.puts.invariant.within);
      waits = omega (arith, w.1, c.puts.invariant.waits);
    }
