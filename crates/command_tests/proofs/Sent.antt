-- A connection in memory may go to another thread.
use denote.Param.Send.{IsSend, sendable}
use denote.Param.SendFields.{declared_send}
use Rattle.std.proofs.Crossing.{crosses}
use Rattle.rate_types.proofs.seconds.Seconds.TheSendSync as seconds
use Rattle.rate_io.specs.contracts.mem_link.MemLink as link

pub connection_send : IsSend link.the_row
connection_send = declared_send link.the_type (search (sendable, crosses) depth 30, (search sendable, (search (sendable, crosses) depth 30, (search sendable, (search sendable, (search (sendable, crosses) depth 30, (search sendable, (search (sendable, crosses) depth 30, (search sendable, (seconds.the_send, (seconds.the_send, (seconds.the_send, tt))))))))))))
