use Rattle.http_endpoint.proofs.RestLemmas.{memory_awaits}
use Rattle.http_endpoint.proofs.next.look_head.Goals as goal

pub returns-in-Ok-NoBody : goal.returns-in-Ok-NoBody
returns-in-Ok-NoBody c =
    c.rest_of.ensures c.args.bytes.now (rw c.in-Ok-NoBody.field-0-is at c.in-Ok-NoBody.ensures.part)

pub returns-in-Err : goal.returns-in-Err
returns-in-Err c = memory_awaits c.args.bytes.now c.in-Err.ensures.memory
