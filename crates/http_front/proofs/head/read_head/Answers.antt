use Rattle.std.proofs.Common.{◌≡◌, length, ap, Some, arith}
use Rattle.http_front.proofs.Heads.{head_reads}
use Rattle.http_front.proofs.head.read_head.Goals as goal

pub returns-else-found-head : goal.returns-else-found-head
returns-else-found-head c =
    let x = rw c.in-Ok-Complete.field-0-is at c.in-Ok-Complete.ensures.complete in
    let room : length c.parse_request.new.headers ≡ 64 = omega arith in
    (Some x.0, head_reads c.args.head.now c.parse_request.new.headers c.in-Ok-Complete.found x.0 room c.if-found-head.false x.1, ap Some (c.asks_of.ensures x.0 x.1))
