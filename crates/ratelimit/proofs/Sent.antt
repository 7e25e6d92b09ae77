-- A connection of the system, with a clock that may go to another thread, may go there too.
use denote.RattleType.{RattleType}
use denote.Param.Send.{IsSend, sendable}
use denote.Param.SendFields.{declared_send}
use Rattle.std.proofs.Crossing.{crosses}
use Rattle.std.specs.contracts.net.tcp.TcpStream as stream
use Rattle.rate_io.specs.contracts.stream_link.StreamLink as link

pub connection_send : (C : RattleType) → IsSend C → IsSend (link.the_row stream.the_row C)
connection_send C clock = declared_send (link.the_type stream.the_row C) (
  search (sendable, crosses) depth 30,
  (search (sendable, crosses) depth 30, (search sendable, (search (sendable, clock) depth 12, tt))),
)
