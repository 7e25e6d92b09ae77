use Rattle.std.proofs.Common.{Bool, sym, ap, subst}
use Rattle.std.specs.Prelude.{Err, take}
use Rattle.std.specs.Option.{is_some}
use Rattle.rate_io.specs.Links.{IsLinkWrite, stream_state}
use Rattle.rate_io.specs.declared.source.Failed.{Failed}
use Rattle.mio_links.proofs.Failures.{failed_write}
use Rattle.mio_links.proofs.mio_link.MioLinkPollLink.poll_write.Goals as goal

pub returns-in-Count-2 : goal.returns-in-Count-2
returns-in-Count-2 g c =
    let w = failed_write c.args.self.now.history.events c.fail.new.self.history.events c.args.self.now.faults c.fail.new.self.faults
    (is_some c.args.self.now.stream) c.args.piece.now c.fail.result c.fail.ensures.event c.fail.ensures.later c.fail.ensures.rose in (
      w.0,
      subst (λ (b : Bool). IsLinkWrite {T = Unit {0}} {E = Failed}
          (stream_state c.args.self.now.history.events c.args.self.now.faults (is_some c.args.self.now.stream))
          (stream_state c.fail.new.self.history.events c.fail.new.self.faults b) (Err c.fail.result) (take w.0 c.args.piece.now))
          (ap is_some (sym c.fail.ensures.stream)) w.1,
      c.fail.ensures.waits,
    )
