-- Inside: the event that a call of a listener is.
use Rattle.rate_io.specs.Listeners.{ListenEvent, bound, bind_failed, accepted, accept_failed, gave_back}
use Rattle.rate_io.specs.declared.listen_history.ListenCall.{ListenCall}
use Rattle.rate_io.specs.declared.listen_history.ListenCall.TheVariants.{Bound, BindFailed, Accepted, AcceptFailed, GaveBack}

abbrev pub listen_event : ListenCall → ListenEvent
listen_event (Bound asked port) = bound asked port
listen_event (BindFailed asked) = bind_failed asked
listen_event Accepted = accepted
listen_event AcceptFailed = accept_failed
listen_event (GaveBack number calls shut) = gave_back number calls.now.events shut
