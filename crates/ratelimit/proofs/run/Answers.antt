use denote.Param.Send.{sendable}
use Rattle.std.proofs.Crossing.{crosses}
use Rattle.ratelimit.proofs.Sent.{connection_send}
use Rattle.ratelimit.proofs.run.Goals as goal

pub ratelimit-requires-send-L-Link : goal.ratelimit-requires-send-L-Link
ratelimit-requires-send-L-Link g c κs within = search (sendable, crosses, connection_send) depth 40
