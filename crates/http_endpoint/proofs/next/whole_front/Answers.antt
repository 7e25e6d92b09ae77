use Rattle.http_endpoint.proofs.RestLemmas.{whole_comes, not_headless, not_cut, memory_awaits}
use Rattle.http_endpoint.proofs.next.whole_front.Goals as goal

pub unreachable-requires : goal.unreachable-requires
unreachable-requires c =
    let p = rw c.in-Ok-NoHead.field-0-is at c.in-Ok-NoHead.ensures.part in
    not_headless c.args.bytes.now c.in-Ok-NoHead.field-0-0 c.requires p.0

pub unreachable-requires-in-Ok-NoBody : goal.unreachable-requires-in-Ok-NoBody
unreachable-requires-in-Ok-NoBody c =
    let p = rw c.in-Ok-NoBody.field-0-is at c.in-Ok-NoBody.ensures.part in
    not_cut c.args.bytes.now c.in-Ok-NoBody.field-0-0 c.in-Ok-NoBody.field-0-1 c.requires p

pub returns-in-Ok-Whole : goal.returns-in-Ok-Whole
returns-in-Ok-Whole c =
    let p = rw c.in-Ok-Whole.field-0-is at c.in-Ok-Whole.ensures.part in
    whole_comes c.args.bytes.now c.clear.new.self c.in-Ok-Whole.front c.requires p c.clear.ensures

pub returns-in-Err : goal.returns-in-Err
returns-in-Err c = memory_awaits c.args.bytes.now c.in-Err.ensures.memory
