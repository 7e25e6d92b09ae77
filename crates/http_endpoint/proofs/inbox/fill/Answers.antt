use Rattle.std.proofs.Common.{[], ◌∷◌, sym, append-nil}
use Rattle.rate_io.specs.Events.{read_failed}
use Rattle.http_endpoint.proofs.ReadLemmas.{drew_failed}
use Rattle.http_endpoint.proofs.inbox.fill.Goals as goal

pub returns-in_default : goal.returns-in_default
returns-in_default g c =
    let x = drew_failed c.args.inbox.now _ _ c.requires.waits _ c.read.new.buf c.in_default.ensures in
    (read_failed ∷ [], x.0, sym (append-nil c.args.inbox.now), x.1)
