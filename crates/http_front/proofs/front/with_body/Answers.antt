use Rattle.std.proofs.Common.{rules}
use Rattle.http_front.proofs.front.with_body.Goals as goal

pub returns-then-after-count : goal.returns-then-after-count
returns-then-after-count c = search rules
