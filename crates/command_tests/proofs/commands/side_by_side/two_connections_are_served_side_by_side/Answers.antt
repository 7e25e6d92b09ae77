use denote.Param.Send.{IsSend, IsSync, sendable}
use denote.Param.SendFields.{declared_send}
use denote.Ref.{NamedLft}
use Rattle.std.proofs.Crossing.{crosses}
use Rattle.command_tests.proofs.Sent.{connection_send}
use Rattle.command_tests.specs.contracts.commands.side_by_side.Turned as turned
use Rattle.command_tests.specs.contracts.commands.side_by_side.Turns as turns
use Rattle.command_tests.proofs.commands.side_by_side.two_connections_are_served_side_by_side.Goals as goal

turns_sync : IsSync turns.the_row
turns_sync = search (sendable, crosses) depth 20

turned_send : (l : NamedLft) → IsSend (turned.the_row l)
turned_send l =
    declared_send (turned.the_type l) (connection_send, (search sendable depth 12, (search (sendable, turns_sync) depth 12, tt)))

pub said_over-requires-send-L-Link : goal.said_over-requires-send-L-Link
said_over-requires-send-L-Link c κs within = search (sendable, turned_send) depth 12
