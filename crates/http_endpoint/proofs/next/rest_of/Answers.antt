use Rattle.std.proofs.Common.{arith}
use Rattle.http_endpoint.proofs.RestLemmas.{short_body}
use Rattle.http_endpoint.proofs.next.rest_of.Goals as goal

pub returns-else-total-gt-ROOM : goal.returns-else-total-gt-ROOM
returns-else-total-gt-ROOM c = λ bytes e. short_body bytes c.args.total c.args.sends_body e (omega (arith, c.if-total-gt-ROOM.false))
