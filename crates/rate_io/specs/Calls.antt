-- Inside: the event that a call is.
use Rattle.rate_io.specs.Events.{Event, gave, ended, read_failed, wrote, write_failed, flushed, flush_failed, told}
use Rattle.rate_io.specs.declared.history.Call.{Call}
use Rattle.rate_io.specs.declared.history.Call.TheVariants.{Gave, Ended, ReadFailed, Wrote, WriteFailed, Flushed, FlushFailed, Told}

abbrev pub event_of : Call → Event
event_of (Gave bytes) = gave bytes.now
event_of Ended = ended
event_of ReadFailed = read_failed
event_of (Wrote piece) = wrote piece.now
event_of (WriteFailed piece) = write_failed piece.now
event_of Flushed = flushed
event_of FlushFailed = flush_failed
event_of (Told now) = told now
