-- What contracts see of a connection that is polled.
use Rattle.std.specs.Prelude.{ℕ, Bool, List}
use Rattle.http_endpoint.specs.declared.turn.Printed.{Printed}
use Rattle.conn_tasks.specs.Polls.{PollState}
use Rattle.conn_tasks.specs.declared.reading.Awaited.{Awaited}
use Rattle.conn_tasks.specs.declared.conn.Mode.{Mode}

pub record TaskState : Type 0 where
  -- of its link
  pub link : PollState
  -- where it stands
  pub mode : Mode
  -- how many answers are wholly written
  pub answers : ℕ
  -- it closes behind the next answer
  pub closes : Bool
  -- what is awaited of the next request, and what is kept of its bytes
  pub awaited : Awaited
  pub kept : List ℕ
  -- the answer that is printed, in this text, and how many of its bytes are written
  pub printed : Printed
  pub out : List ℕ
  pub sent : ℕ
