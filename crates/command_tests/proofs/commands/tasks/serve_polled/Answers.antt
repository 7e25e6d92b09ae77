use denote.Param.Send.{sendable}
use Rattle.command_tests.proofs.Sent.{connection_send}
use Rattle.command_tests.proofs.commands.tasks.serve_polled.Goals as goal

pub said_over-requires-send-L-Link : goal.said_over-requires-send-L-Link
said_over-requires-send-L-Link g c κs within = search (sendable, connection_send)
